use Rattle.vx_again.proofs.Messages.{keeps_messages}
use Rattle.vx_again.proofs.laws_streams.merged_keeps_messages.Goals as goal

pub returns : goal.returns
returns c = keeps_messages
