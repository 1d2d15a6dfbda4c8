use Rattle.std.proofs.Common.{◌≡◌, ℕ, ◌-◌, ◌≤◌, List, [], length, drop, get_or, refl, sym, ◌∙◌}
use Rattle.std.proofs.Math.ListN.{drop_of_length-le}
use Rattle.vx_bits.specs.declared.list.Item.{Item}
use Rattle.vx_table.specs.Loaded.{numbers_of}
use Rattle.vx_report.proofs.slice.number_at.Goals as goal

number-none : (items : List Item) (of index i : ℕ) → length items ≤ i → get_or (numbers_of (drop i items) of) index 0 ≡ 0
number-none items of index i over = let none : drop i items ≡ [] = drop_of_length-le items over in rw none refl

pub returns : goal.returns
returns c = sym (c.loop-i.invariant.1 ∙ number-none c.args.kept.now c.args.field (c.args.index - c.loop-i.before) c.loop-i.i (rw c.len-i-end.ensures at c.loop-i-test.false))
