use Rattle.vx_layout.proofs.Splitting.{SplitsAtLines-from, SplitsWell-from}
use Rattle.vx_layout.proofs.laws_frames.split_by_borders.Goals as goal

pub returns : goal.returns
returns c = λ columns rows s columns_rise rows_rise part. (SplitsAtLines-from columns rows s columns_rise rows_rise part, SplitsWell-from columns rows s)
