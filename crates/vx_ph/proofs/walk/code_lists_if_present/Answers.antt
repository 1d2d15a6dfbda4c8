use Rattle.std.proofs.Common.{◌∙◌, sym}
use Rattle.vx_table.specs.Scope.{value}
use Rattle.vx_table.specs.Forms.{present}
use Rattle.vx_table.specs.Walks.{ended}
use Rattle.vx_ph.proofs.walk.code_lists_if_present.Goals as goal

pub returns-then-latest-eq0 : goal.returns-then-latest-eq0
unfolding present value
returns-then-latest-eq0 g c = rw (sym c.latest.ensures ∙ c.if-latest-eq0.true) ended
