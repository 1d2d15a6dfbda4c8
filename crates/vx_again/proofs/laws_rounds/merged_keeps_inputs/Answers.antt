use Rattle.vx_again.proofs.Place.{place_of_source}
use Rattle.vx_again.proofs.SameRegions.{keeps_inputs}
use Rattle.vx_again.proofs.laws_rounds.merged_keeps_inputs.Goals as goal

pub returns : goal.returns
returns c = keeps_inputs c.sets_tell_partitions.ensures c.read_slices_are_listable.ensures
    (record {
      joins = c.unescaped_joins.ensures;
      again = c.reshaped_is_read_again.ensures;
      agree = c.same_kept_agree.ensures;
      whole = c.slice_scopes_agree.ensures.whole;
      first_bit = c.first_bit_is_inside.ensures;
    })
    c.needed_is_body.ensures (place_of_source c.sets_tell_partitions.ensures c.read_slices_are_listable.ensures)
