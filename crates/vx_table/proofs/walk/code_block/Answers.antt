use Rattle.std.proofs.Common.{sym, ◌∙◌}
use Rattle.std.proofs.lemmas.Bool.{ne_eqb}
use Rattle.vx_table.specs.Forms.{present}
use Rattle.vx_table.specs.Walks.{ended}
use Rattle.vx_table.proofs.walk.code_block.Goals as goal

pub returns-then-number-eq0 : goal.returns-then-number-eq0
unfolding present
returns-then-number-eq0 g c = rw (c.in-When.is, sym c.number.ensures ∙ c.if-number-eq0.true) ended

pub returns-else-number-eq0 : goal.returns-else-number-eq0
unfolding present
returns-else-number-eq0 g c = rw (c.in-When.is, ne_eqb _ _ (rw c.number.ensures at c.if-number-eq0.false)) c.code_table.ensures

pub returns-in-Repeat : goal.returns-in-Repeat
unfolding present
returns-in-Repeat g c = rw (c.in-Repeat.is, sym c.number-times.ensures) c.code_turns.ensures
