use Rattle.std.proofs.Common.{refl}
use Rattle.vx_run.proofs.verify.all_alike.Goals as goal

pub returns-in-Differ-clause-goes : goal.returns-in-Differ-clause-goes
returns-in-Differ-clause-goes c = (c.in-Differ.file, c.in-Differ.ensures, refl)
