use Rattle.std.proofs.Common.{◌∙◌, arith, sym}
use Rattle.vx_table.proofs.Items.{unwritten_next}
use Rattle.vx_table.proofs.writer.Unwritten.next.Goals as goal

pub returns : goal.returns
returns c = sym c.self.view_is ∙ unwritten_next c.self.inside.items.now c.self.inside.at c.self.inside.end c.item-item.result (omega arith) (omega arith) c.item-item.ensures.index
