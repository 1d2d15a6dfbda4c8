use Rattle.vx_sh.proofs.Writable as writable
use Rattle.vx_sh.proofs.laws.read_can_be_written.Goals as goal

pub returns : goal.returns
returns c = writable.read_can_be_written
