use Rattle.vx_extract.proofs.AgainRegion.{keep_ids, make_region}
use Rattle.vx_extract.proofs.laws.rewritten_make_region.Goals as goal

pub returns-clause-made : goal.returns-clause-made
returns-clause-made c =
    make_region c.sets_tell_partitions.ensures c.read_slices_are_listable.ensures c.region_is_listable.ensures c.region_is_layout.ensures
    c.reshaped_says.ensures c.reshaped_has_its_tiles.ensures

pub returns-clause-ids : goal.returns-clause-ids
returns-clause-ids c =
    keep_ids c.sets_tell_partitions.ensures c.read_slices_are_listable.ensures c.region_is_listable.ensures c.region_is_layout.ensures
    c.reshaped_says.ensures c.reshaped_has_its_tiles.ensures
