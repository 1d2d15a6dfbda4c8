use Rattle.vx_table.proofs.Absence.{hidden_together, hidden_present, sets_hide, left_hide}
use Rattle.vx_table.proofs.laws_hidden.hidden_parts.Goals as goal

pub returns-clause-together : goal.returns-clause-together
returns-clause-together c = hidden_together

pub returns-clause-present : goal.returns-clause-present
returns-clause-present c = hidden_present

pub returns-clause-set : goal.returns-clause-set
returns-clause-set c = sets_hide

pub returns-clause-left : goal.returns-clause-left
returns-clause-left c = left_hide
