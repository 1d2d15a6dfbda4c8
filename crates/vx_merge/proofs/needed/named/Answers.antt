use Rattle.std.proofs.Common.{refl}
use Rattle.vx_merge.proofs.needed.named.Goals as goal

pub returns : goal.returns
returns c = record { are = refl; one_each = c.in_ok-ids.ensures.number; taken = c.in_ok-ids.ensures.taken }
