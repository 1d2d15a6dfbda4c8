use Rattle.std.proofs.Common.{◌≡◌, ◌∙◌, Some, true, false, slice_get, sym, ap, arith}
use Rattle.vx_run.specs.Merge.{corner_of, corners_of}
use Rattle.vx_run.specs.Play.{is_corner}
use Rattle.vx_run.specs.inner.Placings.{placed, spelled}
use Rattle.vx_run.proofs.FileRegions.{first_so, itself, others_more}
use Rattle.vx_run.proofs.PlacingWords.{made_at}
use Rattle.vx_run.proofs.play.first_like.Goals as goal

pub returns-then-eq-clause-first : goal.returns-then-eq-clause-first
returns-then-eq-clause-first c =
    let ps = spelled c.args.placings.words.now in
    let xs = corners_of ps in
    let at : slice_get xs c.args.k ≡ Some c.corner-corner.result = made_at corner_of ps c.args.k (placed c.at.result) c.at.ensures ∙ ap Some (sym c.corner-corner.ensures) in
    let here : slice_get xs c.loop-i.i ≡ Some c.corner.result = made_at corner_of ps c.loop-i.i (placed c.at-in-loop-i.result) c.at-in-loop-i.ensures ∙ ap Some (sym c.corner.ensures) in
    let same : is_corner c.corner.result c.corner-corner.result ≡ true = sym c.eq.ensures ∙ c.if-eq.true in
    first_so xs c.args.k c.loop-i.i c.corner-corner.result c.corner.result at c.loop-i.invariant here same

pub loop-i-preserved : goal.loop-i-preserved
loop-i-preserved c =
    let ps = spelled c.args.placings.words.now in
    let xs = corners_of ps in
    let here : slice_get xs c.loop-i.i ≡ Some c.corner.result = made_at corner_of ps c.loop-i.i (placed c.at-in-loop-i.result) c.at-in-loop-i.ensures ∙ ap Some (sym c.corner.ensures) in
    let other : is_corner c.corner.result c.corner-corner.result ≡ false = sym c.eq.ensures ∙ c.if-eq.false in
    others_more xs c.corner-corner.result c.corner.result c.loop-i.i c.loop-i.invariant here other

-- its own is the first
pub returns-clause-first : goal.returns-clause-first
returns-clause-first c =
    let ps = spelled c.args.placings.words.now in
    let xs = corners_of ps in
    let corner = c.corner-corner.result in
    let at : slice_get xs c.args.k ≡ Some corner = made_at corner_of ps c.args.k (placed c.at.result) c.at.ensures ∙ ap Some (sym c.corner-corner.ensures) in
    first_so xs c.args.k c.args.k corner corner at (λ j d before. c.loop-i.invariant j d (omega (arith, before, c.loop-i-test.false))) at (itself corner)
