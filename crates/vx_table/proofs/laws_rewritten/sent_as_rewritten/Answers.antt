use Rattle.vx_table.proofs.Sending.{sent_as_rewritten, sends_rewritten}
use Rattle.vx_table.proofs.laws_rewritten.sent_as_rewritten.Goals as goal

pub returns : goal.returns
returns c = record { both = sent_as_rewritten; writes = sends_rewritten }
