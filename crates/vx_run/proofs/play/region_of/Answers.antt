use Rattle.std.proofs.Common.{◌≡◌, ◌≤◌, ◌∙◌, ap, true, get_or, length, sym, arith}
use Rattle.std.proofs.lemmas.List.Sums.{position_or_len_is}
use Rattle.std.proofs.lemmas.List.{get_or_default}
use Rattle.vx_run.specs.Play.{is_corner}
use Rattle.vx_run.proofs.PlayRegions.{either_way, no_corner}
use Rattle.vx_run.proofs.play.region_of.Goals as goal

-- it is the first one that is the corner
pub returns-then-eq-clause-place : goal.returns-then-eq-clause-place
returns-then-eq-clause-place c =
    let here : is_corner c.args.corner (get_or c.args.corners.now c.loop-k.k c.args.corner) ≡ true =
    ap (is_corner c.args.corner) (get_or_default c.args.corners.now c.loop-k.k c.args.corner no_corner c.loop-k-test.true)
    ∙ either_way c.args.corner (get_or c.args.corners.now c.loop-k.k no_corner) ∙ sym c.eq.ensures ∙ c.if-eq.true in
    sym (position_or_len_is (is_corner c.args.corner) c.args.corners.now c.loop-k.k c.args.corner (omega (arith, c.loop-k-test.true, c.loop-k.auto.k-end))
    (λ i before. c.loop-k.invariant i c.args.corner before) (λ within. here))

-- none is
pub returns-clause-place : goal.returns-clause-place
returns-clause-place c =
    let all : length c.args.corners.now ≤ c.loop-k.k = omega (arith, c.loop-k-test.false, c.loop-k.auto.k-end) in
    sym (position_or_len_is (is_corner c.args.corner) c.args.corners.now (length c.args.corners.now) c.args.corner (omega arith)
    (λ i before. c.loop-k.invariant i c.args.corner (omega (arith, before, all))) (λ within. absurd (omega (arith, within))))
