use Rattle.vx_table.proofs.Closing.{closes_without_trailing, closes_at_the_end, parts_close, parts_close_at_the_end}
use Rattle.vx_table.proofs.laws_spelling.what_may_follow.Goals as goal

pub returns : goal.returns
returns c = record { anything = closes_without_trailing; nothing = closes_at_the_end; parts_anything = parts_close; parts_nothing = parts_close_at_the_end }
