use Rattle.std.proofs.Common.{refl}
use Rattle.vx_table.specs.Forms.{part, form_of}
use Rattle.vx_table.proofs.Blocks.{form-field, form-name, form-block-whole}
use Rattle.vx_table.proofs.laws_rows.first_row_first.Goals as goal

pub returns-clause-none : goal.returns-clause-none
unfolding part form_of
returns-clause-none c = λ s. refl

pub returns-clause-field : goal.returns-clause-field
returns-clause-field c = form-field

pub returns-clause-block : goal.returns-clause-block
returns-clause-block c = form-block-whole

pub returns-clause-name : goal.returns-clause-name
returns-clause-name c = form-name
