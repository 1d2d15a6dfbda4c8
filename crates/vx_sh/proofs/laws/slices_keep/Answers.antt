use Rattle.vx_sh.proofs.Kept.{all_are_shown, kept_are_shown}
use Rattle.vx_sh.proofs.laws.slices_keep.Goals as goal

pub returns : goal.returns
returns c = record { all = all_are_shown; kept = kept_are_shown }
