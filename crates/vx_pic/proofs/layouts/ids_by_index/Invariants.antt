use Rattle.std.proofs.Common.{◌≡◌, map}
use Rattle.std.specs.List.{range_with_len}
use Rattle.vx_sps.specs.Subpictures.{sps_subpic_id_of}
use Rattle.vx_pic.proofs.layouts.ids_by_index.Given as goal

abbrev pub invariant-loop-i : goal.invariant-loop-i
invariant-loop-i l = l.ids ≡ map (sps_subpic_id_of l.sps) (range_with_len 0 l.i)
