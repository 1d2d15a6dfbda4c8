use Rattle.vx_table.proofs.LoadedFrom.{from_first}
use Rattle.vx_table.proofs.scope.Scope.load_from.Goals as goal

pub loop-i-init : goal.loop-i-init
loop-i-init c = rw c.clear_from.ensures.numbers (from_first c.args.from c.args.self.now c.args.items.now c.clear_from.ensures.within)
