use Rattle.std.proofs.Common.{◌≡◌, ◌≤◌, ◌++◌, ◌∷◌, [], ◌∙◌, List, length, ap, arith}
use Rattle.std.proofs.Math.Seq.{take_all}
use Rattle.vx_verify.specs.declared.spot.Spot.{Spot}
use Rattle.vx_run.specs.Verify.{spot_of, spots_of}
use Rattle.vx_run.specs.inner.Placings.{placed, spelled}
use Rattle.vx_run.proofs.Corners.{many_placed}
use Rattle.vx_run.proofs.PlacingWords.{made_at, take_next}
use Rattle.vx_run.proofs.verify.spots_of.Goals as goal

pub loop-k-preserved : goal.loop-k-preserved
loop-k-preserved c =
    let all = spots_of (spelled c.args.placings.words.now) in
    let x = spot_of (placed c.at-placing.result) in
    let pushed : c.push.new.self.items ≡ c.loop-k.spots.items ++ x ∷ [] = c.in_ok-push.ensures.items in
    pushed ∙ ap (λ (l : List Spot). l ++ x ∷ []) c.loop-k.invariant ∙ take_next all c.loop-k.k x (made_at spot_of (spelled c.args.placings.words.now) c.loop-k.k (placed c.at-placing.result) c.at-placing.ensures)

pub returns : goal.returns
returns c =
    let all = spots_of (spelled c.args.placings.words.now) in
    let past : length all ≤ c.loop-k.k = omega (arith, c.loop-k-test.false, c.len-k-end.ensures, many_placed spot_of c.args.placings.words.now) in
    c.loop-k.invariant ∙ take_all c.loop-k.k all past
