use Rattle.std.proofs.Common.{◌∷◌, [], ◌++◌, map, take, ap, sym, subst, ◌∙◌, arith}
use Rattle.std.proofs.lemmas.List.{map_more, take_all}
use Rattle.vx_write.specs.InForce.{AreInForce}
use Rattle.vx_frame.specs.inner.Frames.{sets_of}
use Rattle.vx_frame.proofs.frame.sources.Goals as goal

pub add_sets-requires : goal.add_sets-requires
add_sets-requires c = subst AreInForce (sym c.index-round-k.is) (c.requires c.loop-k.k c.index-round-k.result c.loop-k-test.true)

pub loop-k-preserved : goal.loop-k-preserved
loop-k-preserved c =
    let round = c.args.round.now in
    let k = c.loop-k.k in
    let q = c.index-round-k.result in
    c.in_ok-add_sets.ensures
    ∙ (ap (λ xs. xs ++ sets_of q ∷ []) c.loop-k.invariant
    ∙ (ap (λ x. map sets_of (take k round) ++ sets_of x ∷ []) c.index-round-k.is
    ∙ sym (map_more sets_of round k q c.loop-k-test.true)))

pub returns : goal.returns
returns c = c.loop-k.invariant ∙ ap (map sets_of) (take_all c.loop-k.k c.args.round.now (omega arith))
