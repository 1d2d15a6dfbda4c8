use Rattle.vx_again.proofs.Frames.{sets_make_the_frame}
use Rattle.vx_again.proofs.laws_rounds.sets_make_the_frame.Goals as goal

pub returns : goal.returns
returns c = sets_make_the_frame c.sets_tell_partitions.ensures c.read_slices_are_listable.ensures
