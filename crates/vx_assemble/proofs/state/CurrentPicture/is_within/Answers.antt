use Rattle.std.proofs.Common.{◌∙◌, ap}
use Rattle.std.specs.Prelude.{not}
use Rattle.vx_assemble.proofs.KeptPicture.{going_within}
use Rattle.vx_assemble.proofs.state.CurrentPicture.is_within.Goals as goal

pub returns-in-Going : goal.returns-in-Going
returns-in-Going c p keeps = ap not c.came_all.ensures ∙ going_within c.args.self.now c.in-Going.going p c.in-Going.is c.requires keeps
