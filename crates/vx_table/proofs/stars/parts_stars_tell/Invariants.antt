use Rattle.std.proofs.Common.{◌≡◌, ◌++◌, drop}
use Rattle.vx_table.specs.Parts.{sections_of}
use Rattle.vx_table.specs.Shown.{sections_stars_tell}
use Rattle.vx_table.proofs.stars.parts_stars_tell.Given as goal

abbrev pub invariant-loop-part : goal.invariant-loop-part
invariant-loop-part l = sections_stars_tell (l.fn.given ++ l.fn.shown) (sections_of (drop l.part-index l.parts)) ≡ sections_stars_tell (l.fn.given ++ l.fn.shown) (sections_of l.fn.parts)
