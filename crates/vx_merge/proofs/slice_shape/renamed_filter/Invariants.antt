use Rattle.std.proofs.Common.{◌≡◌, take}
use Rattle.vx_ph.specs.Filter.{filter_of, with_ids}
use Rattle.vx_merge.specs.inner.Fronts.{new_id}
use Rattle.vx_merge.proofs.slice_shape.renamed_filter.Given as goal

abbrev pub invariant-loop-i : goal.invariant-loop-i
invariant-loop-i l = l.made ≡ with_ids (new_id l.named l.picture) (filter_of (take l.i l.items))
