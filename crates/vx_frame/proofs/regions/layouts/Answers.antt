use Rattle.std.proofs.Common.{◌≡◌, ◌∷◌, [], ◌++◌, ap, sym, ◌∙◌, subst, length, take, arith}
use Rattle.std.proofs.lemmas.List.{length-map, take_all}
use Rattle.std.specs.Prelude.{All}
use Rattle.vx_write.specs.InForce.{AreInForce}
use Rattle.vx_frame.specs.Regions.{layout_of, layouts_in}
use Rattle.vx_frame.proofs.Layouts.{each_more, layouts_more}
use Rattle.vx_frame.proofs.regions.layouts.Goals as goal

pub loop-k-preserved : goal.loop-k-preserved
loop-k-preserved c =
    let round = c.args.round.now in
    let k = c.loop-k.k in
    let q = c.index-round-k.result in (
      c.in_ok-push.ensures.items ∙ (ap (λ ls. ls ++ c.in_ok-layout.layout ∷ []) c.loop-k.invariant.0
          ∙ (ap (λ l. take k (layouts_in round) ++ l ∷ []) c.in_ok-layout.ensures.layout ∙ sym (layouts_more round k q c.loop-k-test.true c.index-round-k.is))),
      each_more AreInForce round k q c.loop-k-test.true c.index-round-k.is c.loop-k.invariant.1 c.in_ok-layout.ensures.sets,
    )

pub returns-clause-layouts : goal.returns-clause-layouts
returns-clause-layouts c =
    let size : length (layouts_in c.args.round.now) ≡ length c.args.round.now = length-map c.args.round.now layout_of in
    c.loop-k.invariant.0 ∙ take_all c.loop-k.k (layouts_in c.args.round.now) (omega (arith, size))

pub returns-clause-sets : goal.returns-clause-sets
returns-clause-sets c = subst (All AreInForce) (take_all c.loop-k.k c.args.round.now (omega arith)) c.loop-k.invariant.1
