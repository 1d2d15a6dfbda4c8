use Rattle.vx_run.proofs.ReadAgain.{none_again, taken_again}
use Rattle.vx_run.proofs.extract.extractions_read_again.Goals as goal

pub returns-clause-none : goal.returns-clause-none
returns-clause-none c R of task = none_again c.extraction_reads_again.ensures R of task

pub returns-clause-taken : goal.returns-clause-taken
returns-clause-taken c R of task = taken_again c.extraction_reads_again.ensures R of task c.units_can_stand.ensures
