use Rattle.vx_again.proofs.ReadBack.{merged_units_are_read}
use Rattle.vx_again.proofs.laws_rounds.merged_units_are_read.Goals as goal

pub returns : goal.returns
returns c = merged_units_are_read c.sets_tell_partitions.ensures c.read_slices_are_listable.ensures c.unit_is_read.ensures c.unit_has_id.ensures
    (record {
      joins = c.unescaped_joins.ensures;
      again = c.reshaped_is_read_again.ensures;
      agree = c.same_kept_agree.ensures;
      whole = c.slice_scopes_agree.ensures.whole;
      first_bit = c.first_bit_is_inside.ensures;
    })
    c.readers_are_unique.ensures
