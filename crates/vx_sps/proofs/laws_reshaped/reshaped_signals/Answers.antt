use Rattle.vx_sps.proofs.Signals.{reshaped_signals}
use Rattle.vx_sps.proofs.laws_reshaped.reshaped_signals.Goals as goal

pub returns : goal.returns
returns c = reshaped_signals
