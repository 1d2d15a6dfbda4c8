use Rattle.vx_layout.proofs.Counting.{in_order-once}
use Rattle.vx_layout.proofs.laws.in_order_covers_once.Goals as goal

pub returns : goal.returns
returns c = λ n l. in_order-once n.slices n.subpics _ _ l.split l.subpics.once l.slices
