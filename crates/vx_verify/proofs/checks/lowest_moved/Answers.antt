use Rattle.std.proofs.Common.{◌+◌, length, refl, arith}
use Rattle.std.proofs.lemmas.Option.{slice_get-get_or}
use Rattle.vx_verify.specs.Verified.{StandsAtSpot}
use Rattle.vx_verify.proofs.Searching.{before_all, before_more, lowest_file}
use Rattle.vx_verify.proofs.checks.lowest_moved.Goals as goal

pub returns-then-not-stands_at : goal.returns-then-not-stands_at
returns-then-not-stands_at c =
    let spots = c.args.spots.now in
    let k = c.loop-k.k in
    lowest_file spots (StandsAtSpot c.args.finished.now) ⊥ (λ none. none) (length spots) k (k + 1) _ refl refl (slice_get-get_or spots k _ c.loop-k-test.true)
    c.if-not-stands_at.ensures.elsewhere c.loop-k.invariant

pub loop-k-preserved : goal.loop-k-preserved
loop-k-preserved c =
    let spots = c.args.spots.now in
    let k = c.loop-k.k in
    before_more spots (StandsAtSpot c.args.finished.now) k _ (slice_get-get_or spots k _ c.loop-k-test.true) c.if-not-stands_at.ensures.there c.loop-k.invariant

pub returns : goal.returns
returns c = before_all c.args.spots.now (StandsAtSpot c.args.finished.now) c.loop-k.k (omega arith) c.loop-k.invariant
