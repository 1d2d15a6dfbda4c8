use Rattle.vx_extract.proofs.AgainSent.{alike_again, sends_again}
use Rattle.vx_extract.proofs.laws.extracted_sends_its_sets.Goals as goal

pub returns-clause-sets : goal.returns-clause-sets
returns-clause-sets c = sends_again

pub returns-clause-counts : goal.returns-clause-counts
returns-clause-counts c = alike_again
