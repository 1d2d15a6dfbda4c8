use Rattle.std.proofs.Common.{◌≡◌, take}
use Rattle.vx_fields.specs.declared.pps.TheConstants.{pps_subpic_id}
use Rattle.vx_table.specs.Loaded.{numbers_of}
use Rattle.vx_pic.proofs.layouts.ids_in.Given as goal

abbrev pub invariant-loop-i : goal.invariant-loop-i
invariant-loop-i l = l.ids ≡ numbers_of (take l.i l.fields) pps_subpic_id
