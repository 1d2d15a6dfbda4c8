use Rattle.std.proofs.Common.{sym, ◌∙◌}
use Rattle.vx_table.specs.Rewritten.{other_items}
use Rattle.vx_table.proofs.Rewriting.{takes_next_shown, takes_next_other}
use Rattle.vx_table.proofs.Sending.{takes_other_value}
use Rattle.vx_table.proofs.sender.Sender.take.Goals as goal

pub returns-then-has : goal.returns-then-has
returns-then-has g c =
    let is = sym c.has.ensures ∙ c.if-has.true in
    rw (← c.self.view_is) (takes_next_shown g.N.FieldSet.names c.args.cell c.take_value.result (other_items g.N.FieldSet.names c.self.inside.source) c.self.inside.stated c.take_value.new.items is c.take_value.ensures)

pub returns : goal.returns
returns g c =
    let is = sym c.has.ensures ∙ c.if-has.false in
    let names = g.N.FieldSet.names in
    let took = takes_other_value names c.args.cell c.take_value-2.result c.pass_named.new.items c.take_value-2.new.items is c.pass_named.ensures.next c.take_value-2.ensures in
    rw (← c.self.view_is) (takes_next_other names c.args.cell c.take_value-2.result (other_items names c.self.inside.source) c.self.inside.stated (other_items names c.take_value-2.new.items) is (rw c.pass_named.ensures.others at took))
