use Rattle.std.proofs.Common.{◌≡◌, take, map}
use Rattle.vx_fields.specs.declared.alf.TheConstants.{alf_aps_id_luma}
use Rattle.vx_aps.specs.declared.aps.TheConstants.{ALF}
use Rattle.vx_pic.specs.Sets.{named}
use Rattle.vx_pic.specs.Inputs.{bodies_of}
use Rattle.vx_pic.proofs.in_force.luma_bodies.Given as goal

abbrev pub invariant-loop-i : goal.invariant-loop-i
invariant-loop-i l = map (λ body. body.now) l.bodies ≡ bodies_of l.picture (named ALF alf_aps_id_luma (take l.i l.items))
