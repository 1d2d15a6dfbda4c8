use Rattle.vx_pic.proofs.ByAddress.{subpictures_have_slices, subpictures_are_whole, slices_are_shown}
use Rattle.vx_pic.proofs.laws_whole.subpictures_have_slices.Goals as goal

pub returns : goal.returns
returns c = record {
  some = subpictures_have_slices c.sets_tell_partitions.ensures c.addresses_are_below.ensures c.slice_scopes_agree.ensures.whole;
  all = subpictures_are_whole c.sets_tell_partitions.ensures c.addresses_are_below.ensures c.slice_scopes_agree.ensures.whole;
  shown = slices_are_shown;
}
