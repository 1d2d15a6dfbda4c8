use Rattle.std.proofs.Common.{◌≡◌, ℕ, ◌+◌, ◌<◌, List, [], ◌∷◌, ◌++◌, length, get_or, map, take, ap, sym, subst, ◌∙◌}
use Rattle.std.proofs.lemmas.List.{map-append, take_more}
use Rattle.std.proofs.lemmas.List.Elements.{All-get_or}
use Rattle.vx_pic.specs.Parts.{Parts}
use Rattle.vx_merge.specs.Joins.{after_end_of_sequence}
use Rattle.vx_merge.proofs.merger.joined.Goals as goal

-- those that are lent, one more
lent_more : {X : Type 0} (lent : X → Parts) (xs : List X) (i : ℕ) (x : X) → i < length xs → x ≡ get_or xs i x
    → map after_end_of_sequence (map lent (take (i + 1) xs)) ≡ map after_end_of_sequence (map lent (take i xs)) ++ after_end_of_sequence (lent x) ∷ []
lent_more lent xs i x within is =
    ap (λ ys. map after_end_of_sequence (map lent ys)) (take_more xs i x within ∙ ap (λ y. take i xs ++ y ∷ []) (sym is))
    ∙ (ap (map after_end_of_sequence) (map-append lent (take i xs) (x ∷ [])) ∙ map-append after_end_of_sequence (map lent (take i xs)) (lent x ∷ []))

-- and those before it, each behind an end of sequence
joined_more : {X : Type 0} (lent : X → Parts) (xs : List X) (i : ℕ) (x : X) → i < length xs → x ≡ get_or xs i x → (before after : List Parts) (p q : Parts)
    → after ≡ before ++ q ∷ [] → before ≡ map after_end_of_sequence (map lent (take i xs)) → q ≡ after_end_of_sequence p → p ≡ lent x
    → after ≡ map after_end_of_sequence (map lent (take (i + 1) xs))
joined_more lent xs i x within is before after p q pushed so_far ends own =
    pushed
    ∙ (ap (λ qs. qs ++ q ∷ []) so_far
    ∙ (ap (λ r. map after_end_of_sequence (map lent (take i xs)) ++ r ∷ []) (ends ∙ ap after_end_of_sequence own)
    ∙ sym (lent_more lent xs i x within is)))

pub picture-requires : goal.picture-requires
picture-requires g c =
    subst g.L.Lender.holds (sym c.lender-item.is) (All-get_or g.L.Lender.holds c.args.lenders.now c.loop-lender.lender-index c.lender-item.result c.loop-lender-test.true c.requires)

pub loop-lender-preserved : goal.loop-lender-preserved
loop-lender-preserved g c =
    joined_more g.L.Lender.lent c.args.lenders.now c.loop-lender.lender-index c.lender-item.result c.loop-lender-test.true c.lender-item.is
    c.loop-lender.round.items c.push.new.self.items c.picture.result c.after_end.result
    c.in_ok-push.ensures.items c.loop-lender.invariant c.after_end.ensures c.picture.ensures
