use Rattle.std.proofs.Common.{sym, ◌∙◌}
use Rattle.vx_table.proofs.Rewriting.{takes_next_shown, takes_next_other}
use Rattle.vx_table.proofs.rewriter.Rewriter.take.Goals as goal

pub returns-then-has : goal.returns-then-has
returns-then-has c =
    let is = sym c.has.ensures ∙ c.if-has.true in
    rw (← c.self.view_is) (takes_next_shown c.self.inside.names.now c.args.cell c.take_value.result c.self.inside.others c.self.inside.shown c.take_value.new.items is c.take_value.ensures)

pub returns-else-has : goal.returns-else-has
returns-else-has c =
    let is = sym c.has.ensures ∙ c.if-has.false in
    rw (← c.self.view_is) (takes_next_other c.self.inside.names.now c.args.cell c.take_value-else-has.result c.self.inside.others c.self.inside.shown c.take_value-else-has.new.items is c.take_value-else-has.ensures)
