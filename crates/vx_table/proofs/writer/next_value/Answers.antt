use Rattle.std.proofs.Common.{◌∙◌, sym}
use Rattle.vx_table.proofs.Items.{gap_tells}
use Rattle.vx_table.proofs.writer.next_value.Goals as goal

pub returns-then-not-has_value : goal.returns-then-not-has_value
returns-then-not-has_value c = gap_tells _ _ _ (sym c.has_value.ensures ∙ c.if-not-has_value.true)
