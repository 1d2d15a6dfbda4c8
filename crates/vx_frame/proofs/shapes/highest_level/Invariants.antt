use Rattle.std.proofs.Common.{◌≡◌, take}
use Rattle.vx_fields.specs.declared.ptl.TheConstants.{general_level_idc}
use Rattle.vx_frame.specs.Shapes.{greatest, numbers_in_round}
use Rattle.vx_frame.proofs.shapes.highest_level.Given as goal

abbrev pub invariant-loop-k : goal.invariant-loop-k
invariant-loop-k l = l.highest ≡ greatest (numbers_in_round (take l.k l.round) general_level_idc)
