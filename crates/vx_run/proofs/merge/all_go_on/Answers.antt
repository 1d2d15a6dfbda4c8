use Rattle.std.proofs.Common.{refl}
use Rattle.vx_run.proofs.merge.all_go_on.Goals as goal

pub returns-in-Differ-clause-goes : goal.returns-in-Differ-clause-goes
returns-in-Differ-clause-goes c = (c.in-Differ.source, c.in-Differ.ensures, refl)
