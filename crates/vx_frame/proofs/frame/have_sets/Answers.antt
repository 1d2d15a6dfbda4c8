use Rattle.std.proofs.Common.{◌<◌, ◌∷◌, [], ◌++◌, length, map, take, ap, sym, subst, ◌∙◌, arith}
use Rattle.std.proofs.lemmas.List.{map_more, take_all}
use Rattle.std.specs.Prelude.{All}
use Rattle.vx_write.specs.InForce.{AreInForce}
use Rattle.vx_frame.specs.inner.Frames.{sets_in, sets_of}
use Rattle.vx_frame.proofs.Layouts.{each_more}
use Rattle.vx_frame.proofs.frame.have_sets.Goals as goal

pub loop-k-preserved : goal.loop-k-preserved
loop-k-preserved c =
    let round = c.args.round.now in
    let sources = c.args.sources.now in
    let k = c.loop-k.k in
    let within : k < length sources = omega (arith, c.loop-k-test.true, c.requires) in (
      map_more sets_in sources k c.index-sources-k.result within
          ∙ (ap (λ x. map sets_in (take k sources) ++ sets_in x ∷ []) (sym c.index-sources-k.is)
          ∙ (ap (λ xs. xs ++ sets_in c.index-sources-k.result ∷ []) c.loop-k.invariant.0
          ∙ (ap (λ x. map sets_of (take k round) ++ x ∷ []) (c.if-not-has_sets.ensures.same ∙ ap sets_of c.index-round-k.is)
          ∙ sym (map_more sets_of round k c.index-round-k.result c.loop-k-test.true)))),
      each_more AreInForce round k c.index-round-k.result c.loop-k-test.true c.index-round-k.is c.loop-k.invariant.1 c.if-not-has_sets.ensures.sets,
    )

pub returns-clause-same : goal.returns-clause-same
returns-clause-same c =
    let size = c.requires in
    ap (map sets_in) (sym (take_all c.loop-k.k c.args.sources.now (omega (arith, size))))
    ∙ (c.loop-k.invariant.0 ∙ ap (map sets_of) (take_all c.loop-k.k c.args.round.now (omega arith)))

pub returns-clause-sets : goal.returns-clause-sets
returns-clause-sets c = subst (All AreInForce) (take_all c.loop-k.k c.args.round.now (omega arith)) c.loop-k.invariant.1
