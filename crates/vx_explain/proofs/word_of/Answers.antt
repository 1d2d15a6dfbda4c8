use Rattle.std.proofs.Common.{rules, tests, take, ap, ◌∙◌}
use Rattle.std.proofs.lemmas.Iterator.{YieldsList-from_slice}
use Rattle.std.proofs.lemmas.Iterator.Search.{position_from_yields_List}
use Rattle.vx_explain.proofs.Words.{place_or_len}
use Rattle.vx_explain.proofs.word_of.Goals as goal

pub returns : goal.returns
returns c =
    let place = position_from_yields_List _ _ _ c.position.result c.position.ensures.ran (YieldsList-from_slice c.args.part.now (cc)) (λ x b q k. search (rules, tests)) in
    ap (λ end. take end c.args.part.now) (c.unwrap_or-end.ensures ∙ place_or_len _ c.args.part.now c.position.result place)
