use Rattle.vx_table.proofs.Absence.{tables_hide, sections_hide}
use Rattle.vx_table.proofs.laws_hidden.fields_hidden.Goals as goal

pub returns-clause-table : goal.returns-clause-table
returns-clause-table c = tables_hide

pub returns-clause-sections : goal.returns-clause-sections
returns-clause-sections c = sections_hide
