use Rattle.vx_extract.proofs.KeptPlace.{places_kept}
use Rattle.vx_extract.proofs.laws_kept.rewritten_keep_places.Goals as goal

pub returns : goal.returns
returns c = λ target level q sps pps address are within re.
    places_kept c.sets_tell_partitions.ensures c.read_slices_are_listable.ensures c.region_is_listable.ensures c.region_is_layout.ensures
    c.reshaped_says.ensures c.reshaped_has_its_tiles.ensures c.regions_nest.ensures.region target level q sps pps are within re address
