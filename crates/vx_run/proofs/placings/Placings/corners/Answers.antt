use Rattle.std.proofs.Common.{◌≡◌, ◌≤◌, ◌++◌, ◌∷◌, [], ◌∙◌, List, length, ap, arith}
use Rattle.std.proofs.Math.Seq.{take_all}
use Rattle.vx_frame.specs.declared.corner.Corner.{Corner}
use Rattle.vx_run.specs.Merge.{corner_of, corners_of}
use Rattle.vx_run.specs.inner.Placings.{placed, spelled}
use Rattle.vx_run.proofs.Corners.{many_corners}
use Rattle.vx_run.proofs.PlacingWords.{made_at, take_next}
use Rattle.vx_run.proofs.placings.Placings.corners.Goals as goal

pub loop-k-preserved : goal.loop-k-preserved
loop-k-preserved c =
    let all = corners_of (spelled c.args.self.now.words.now) in
    let x = corner_of (placed c.at.result) in
    let pushed : c.push.new.self.items ≡ c.loop-k.corners.items ++ x ∷ [] = c.in_ok-push.ensures.items ∙ ap (λ (y : Corner). c.loop-k.corners.items ++ y ∷ []) c.corner.ensures in
    pushed ∙ ap (λ (l : List Corner). l ++ x ∷ []) c.loop-k.invariant ∙ take_next all c.loop-k.k x (made_at corner_of (spelled c.args.self.now.words.now) c.loop-k.k (placed c.at.result) c.at.ensures)

pub returns : goal.returns
returns c =
    let all = corners_of (spelled c.args.self.now.words.now) in
    let past : length all ≤ c.loop-k.k = omega (arith, c.loop-k-test.false, c.len-k-end.ensures, many_corners c.args.self.now.words.now) in
    c.loop-k.invariant ∙ take_all c.loop-k.k all past
