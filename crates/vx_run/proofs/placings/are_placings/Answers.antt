use Rattle.std.proofs.Common.{◌<◌, refl, sym, length, subst, arith}
use Rattle.std.proofs.lemmas.Option.{slice_get_read}
use Rattle.std.proofs.Math.Seq.{take_all}
use Rattle.std.specs.List.{AllByRecursion}
use Rattle.vx_run.specs.Grammar.{texts}
use Rattle.vx_run.specs.inner.Placings.{IsPlacingWord, placed}
use Rattle.vx_run.proofs.PlacingWords.{first_are, one_of_them, where_none, where_some, are_not, are_so}
use Rattle.vx_run.proofs.placings.are_placings.Goals as goal

pub returns-then-is_none : goal.returns-then-is_none
returns-then-is_none c =
    let words = c.args.words.now in
    let w = c.word-item.result in
    let within : c.loop-word.word-index < length words = omega arith in
    are_not _ (λ all. where_none c.placing_of.result _ _ c.if-is_none.ensures c.placing_of.ensures (subst IsPlacingWord (sym c.as_str.ensures.value) (one_of_them words c.loop-word.word-index w (slice_get_read words (length words) c.loop-word.word-index w refl within c.word-item.is) all)))

pub loop-word-preserved : goal.loop-word-preserved
loop-word-preserved c =
    let words = c.args.words.now in
    let w = c.word-item.result in
    let within : c.loop-word.word-index < length words = omega arith in
    where_some c.placing_of.result _ _ c.if-is_none.ensures c.placing_of.ensures (λ x spells. first_are words c.loop-word.word-index w within c.word-item.is c.loop-word.invariant (subst IsPlacingWord c.as_str.ensures.value (placed x, spells)))

pub returns : goal.returns
returns c =
    let words = c.args.words.now in
    are_so _ (subst (λ l. AllByRecursion IsPlacingWord (texts l)) (take_all c.loop-word.word-index words c.loop-word-test.false) c.loop-word.invariant)
