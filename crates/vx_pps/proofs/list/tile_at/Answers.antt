use Rattle.std.proofs.Common.{rules, w64, ◌∙◌}
use Rattle.std.proofs.lemmas.Int.{to_z-of_z}
use Rattle.std.specs.Prelude.{pos, ◌+ℤ◌}
use mir.Val.{SFits}
use Rattle.vx_pps.proofs.Ranges.{natural-saturated}
use Rattle.vx_pps.proofs.list.tile_at.Goals as goal

pub returns : goal.returns
returns c =
    let sum_fits : SFits w64 c.saturating_add.result = search rules in
    let from_fits : SFits w64 c.from.result = search rules in
    let step_fits : SFits w64 c.args.step = search rules in
    let added = rw (to_z-of_z w64 c.from.result from_fits, to_z-of_z w64 c.args.step step_fits, c.from.ensures) at c.saturating_add.ensures in
    let n = rw (to_z-of_z w64 c.saturating_add.result sum_fits, added) at c.natural.ensures in
    n ∙ natural-saturated (pos c.args.tile +ℤ c.args.step)
