use Rattle.std.proofs.Common.{pos, ◌++◌, length}
use Rattle.vx_fields.specs.declared.pps.TheConstants as pps
use Rattle.vx_pps.specs.Written.{only_item, strip_items}
use Rattle.vx_pps.proofs.Pushing.{HeightsLeft, heights_in}
use Rattle.vx_pps.proofs.list_items.push_heights.Given as goal

abbrev pub invariant-loop-slice : goal.invariant-loop-slice
invariant-loop-slice l =
    HeightsLeft (l.fn.items ++ (only_item pps.pps_num_exp_slices_in_tile (pos (length l.written)) ++ strip_items (heights_in l.written))) l.items l.written l.slice-index
