use Rattle.std.proofs.Common.{List, ◌∷◌, [], ◌++◌, ap, sym, ◌∙◌, subst, take, arith}
use Rattle.std.proofs.lemmas.List.{take_all}
use Rattle.std.proofs.lemmas.List.Elements.{All-push}
use Rattle.std.specs.Prelude.{All}
use Rattle.vx_fit.specs.declared.placed.Placed.{Placed}
use Rattle.vx_fit.specs.Placing.{IsInRange}
use Rattle.vx_write.specs.InForce.{AreInForce}
use Rattle.vx_frame.specs.Regions.{placed_in}
use Rattle.vx_frame.proofs.Sized.{placed_length, placed_more}
use Rattle.vx_frame.proofs.regions.placed.Goals as goal

pub placed_at-requires-clause-corner : goal.placed_at-requires-clause-corner
placed_at-requires-clause-corner c = c.requires.corners c.loop-k.k _ (omega (arith, c.requires.same))

pub placed_at-requires-clause-sets : goal.placed_at-requires-clause-sets
placed_at-requires-clause-sets c = subst AreInForce (sym c.index-round-k.is) (c.requires.sets c.loop-k.k c.index-round-k.result c.loop-k-test.true)

pub loop-k-preserved : goal.loop-k-preserved
loop-k-preserved c =
    let corners = c.args.corners.now in
    let round = c.args.round.now in
    let k = c.loop-k.k in (
      ◌∙◌ {A = List Placed} c.in_ok-push.ensures.items (ap (λ ps. ps ++ c.placed_at.result ∷ []) c.loop-k.invariant.0
          ∙ (ap (λ p. take k (placed_in corners round) ++ p ∷ []) c.placed_at.ensures.placed
          ∙ sym (placed_more corners round k _ c.index-round-k.result c.requires.same c.loop-k-test.true c.index-round-k.is))),
      subst (All IsInRange) (sym {A = List Placed} c.in_ok-push.ensures.items) (All-push IsInRange _ c.placed_at.result c.loop-k.invariant.1 c.placed_at.ensures.range),
    )

pub returns-clause-placed : goal.returns-clause-placed
returns-clause-placed c =
    let size = placed_length c.args.corners.now c.args.round.now c.requires.same in
    c.loop-k.invariant.0 ∙ take_all c.loop-k.k (placed_in c.args.corners.now c.args.round.now) (omega (arith, size))

pub returns-clause-range : goal.returns-clause-range
returns-clause-range c = c.loop-k.invariant.1
