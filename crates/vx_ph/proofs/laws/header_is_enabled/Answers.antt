use Rattle.vx_ph.proofs.Enabled.{no_lmcs, no_scaling, no_chroma_scaling, no_filter}
use Rattle.vx_ph.proofs.laws.header_is_enabled.Goals as goal

pub returns-clause-lmcs : goal.returns-clause-lmcs
returns-clause-lmcs c = no_lmcs

pub returns-clause-scaling : goal.returns-clause-scaling
returns-clause-scaling c = no_scaling

pub returns-clause-chroma : goal.returns-clause-chroma
returns-clause-chroma c = no_chroma_scaling

pub returns-clause-filter : goal.returns-clause-filter
returns-clause-filter c = no_filter
