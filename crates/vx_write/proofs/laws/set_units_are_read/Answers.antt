use Rattle.vx_write.proofs.UnitsRead.{sei_read, set_read}
use Rattle.vx_write.proofs.laws.set_units_are_read.Goals as goal

pub returns-clause-sets : goal.returns-clause-sets
returns-clause-sets c = λ R tid set unit of low can is. set_read R of tid low c.readers_are_unique.ensures c.written_is_read.ensures c.written_is_read-2.ensures c.spelled_is_aps.ensures set unit can is

pub returns-clause-messages : goal.returns-clause-messages
returns-clause-messages c = λ R tid messages unit of low all short is. sei_read R of tid low c.written_is_read-3.ensures messages unit all short is
