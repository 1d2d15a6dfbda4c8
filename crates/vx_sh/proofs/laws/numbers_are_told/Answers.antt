use Rattle.vx_sh.proofs.Told as told
use Rattle.vx_sh.proofs.laws.numbers_are_told.Goals as goal

pub returns : goal.returns
returns c = told.numbers_are_told
