use Rattle.vx_layout.proofs.Moving.{HasLayout-region}
use Rattle.vx_layout.proofs.laws.region_is_layout.Goals as goal

pub returns : goal.returns
returns c = HasLayout-region
