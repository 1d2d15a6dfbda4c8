use Rattle.std.proofs.Common.{length, refl, subst, sym}
use Rattle.std.specs.Prelude.{string_bytes}
use Rattle.std.proofs.lemmas.Option.{slice_get_read}
use Rattle.vx_run.specs.inner.Placings.{IsPlacingWord, Spells, placed}
use Rattle.vx_run.specs.Grammar.{texts}
use Rattle.vx_run.proofs.PlacingWords.{one_of_them, spelled_at, words_of_parts}
use Rattle.vx_run.proofs.Corners.{placed_some, placed_so}
use Rattle.vx_run.proofs.placings.Placings.at.Goals as goal

pub unwrap-requires : goal.unwrap-requires
unwrap-requires c =
    let words = c.args.self.now.words.now in
    let at = slice_get_read words (length words) c.args.k c.index-self-k.result refl c.requires c.index-self-k.is in
    placed_some c.placing_of.result _ _ c.placing_of.ensures (subst IsPlacingWord (sym c.as_str.ensures.value) (subst (λ w. IsPlacingWord (string_bytes w)) c.index-self-k.is (one_of_them words c.args.k c.index-self-k.result at (words_of_parts (texts words) c.args.self.now.each))))

pub returns : goal.returns
returns c =
    let words = c.args.self.now.words.now in
    let at = slice_get_read words (length words) c.args.k c.index-self-k.result refl c.requires c.index-self-k.is in
    let p = c.unwrap.result in
    let spells = placed_so c.placing_of.result _ _ p c.unwrap.ensures c.placing_of.ensures in
    spelled_at words c.args.k c.index-self-k.result (placed p) at (subst (λ w. Spells (string_bytes w) (placed p)) (sym c.index-self-k.is) (subst (λ t. Spells t (placed p)) c.as_str.ensures.value spells))
