use Rattle.vx_ph.proofs.Filtering.{header_has_filter}
use Rattle.vx_ph.proofs.Renaming.{filter_goes_again}
use Rattle.vx_ph.proofs.laws.filter_goes_again.Goals as goal

pub returns : goal.returns
returns c = record { again = filter_goes_again; header = header_has_filter }
