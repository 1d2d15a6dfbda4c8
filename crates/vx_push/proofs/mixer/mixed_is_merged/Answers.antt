use Rattle.vx_push.proofs.Mixing.{mixed_merged}
use Rattle.vx_push.proofs.mixer.mixed_is_merged.Goals as goal

pub returns : goal.returns
returns c = mixed_merged c.merge_ends_once.ensures
