use Rattle.std.proofs.Common.{◌≡◌, take}
use Rattle.vx_table.specs.Shown.{shown_items}
use Rattle.vx_pic.proofs.kept_fields.kept_among.Given as goal

abbrev pub invariant-loop-i : goal.invariant-loop-i
invariant-loop-i l = l.kept ≡ shown_items l.fields (take l.i l.items)
