-- The sets of one type, by rising id: each id that is taken has one.
use Rattle.std.proofs.Common.{◌≡◌, ◌≢◌, ℕ, zero, suc, ◌+◌, ◌<◌, ◌&&◌, Bool, true, false, Bor, Some, List, [], ◌∷◌, ◌++◌, length, map, slice_index, slice_get, refl, sym, ap, ◌∙◌, inl, inr, arith, append_assoc}
use Rattle.std.specs.Prelude.{◌==◌, flat_map}
use Rattle.std.specs.List.{AllByRecursion, range_with_len, slice_index_or}
use Rattle.std.proofs.lemmas.Bool.{cases_Bool, eq-eqb, ne_eqb}
use Rattle.std.proofs.lemmas.List.{append-nil}
use Rattle.std.proofs.lemmas.Option.{none-some}
use Rattle.vx_pic.specs.Resident.{same_slot}
use Rattle.vx_pic.specs.Written.{Set, an_aps}
use Rattle.vx_write.specs.Sending.{AreOthers}
use Rattle.vx_write.proofs.SetBySet.{append_others}
use Rattle.vx_merge.specs.Needed.{by_ids, sets_with_id}
use Rattle.vx_merge.specs.inner.Sending.{AreApart, AreOfOthers, CanEnd}
use Rattle.vx_merge.specs.inner.Taking.{an_aps_of}
use Rattle.vx_merge.proofs.Assigning.{slot_as}

-- ---- of one id

pub with_none : (kind : ℕ) (bodies : List (List ℕ)) (ids : List ℕ) (id : ℕ) → ((k : ℕ) → k < length ids → slice_index ids k ≢ id) → sets_with_id kind bodies ids id ≡ []
with_none kind [] ids id none = refl
with_none kind (b ∷ bodies) [] id none = refl
with_none kind (b ∷ bodies) (i ∷ ids) id none =
    let other : (i == id) ≡ false = ne_eqb i id (none 0 (omega arith)) in
    rw other (with_none kind bodies ids id (λ k less. none (suc k) (omega (arith, less))))

pub with_one : (kind : ℕ) (bodies : List (List ℕ)) (ids : List ℕ) (id k : ℕ) → length ids ≡ length bodies → k < length ids → slice_index ids k ≡ id → AreApart ids
    → sets_with_id kind bodies ids id ≡ an_aps (record { kind = kind; id = id; body = slice_index_or bodies k [] }) ∷ []
with_one kind bodies [] id k same within is apart = absurd (omega (arith, within))
with_one kind [] (i ∷ ids) id k same within is apart = absurd (omega (arith, same))
with_one kind (b ∷ bodies) (i ∷ ids) id zero same within is apart =
    let here : (i == id) ≡ true = eq-eqb i id is in
    let rest : sets_with_id kind bodies ids id ≡ [] = with_none kind bodies ids id (λ k less at. apart 0 (suc k) (omega arith) (omega (arith, less)) (is ∙ sym at)) in
    rw here (ap (λ xs. an_aps (record { kind = kind; id = id; body = b }) ∷ xs) rest)
with_one kind (b ∷ bodies) (i ∷ ids) id (suc k) same within is apart =
    let other : (i == id) ≡ false = ne_eqb i id (λ at. apart 0 (suc k) (omega arith) within (at ∙ sym is)) in
    rw other (with_one kind bodies ids id k (omega (arith, same)) (omega (arith, within)) is (λ j l less inside. apart (suc j) (suc l) (omega (arith, less)) (omega (arith, inside))))

-- ---- other types and ids

-- whatever the body
pub others_as : (kind id : ℕ) (body : List ℕ) (sets : List Set) → AreOthers (an_aps_of kind id) sets → AreOthers (an_aps (record { kind = kind; id = id; body = body })) sets
others_as kind id body [] others = tt
others_as kind id body (x ∷ sets) others = (slot_as x kind id body ∙ others.0, others_as kind id body sets others.1)

apart_slots : (kind other i id : ℕ) (body : List ℕ) → ((kind == other) && (i == id)) ≡ false → same_slot (an_aps (record { kind = kind; id = i; body = body })) (an_aps_of other id) ≡ false
apart_slots kind other i id body is = is

with_others : (kind other i id : ℕ) (bodies : List (List ℕ)) (ids : List ℕ) → ((kind == other) && (i == id)) ≡ false → AreOthers (an_aps_of other id) (sets_with_id kind bodies ids i)
with_others kind other i id [] ids is = tt
with_others kind other i id (b ∷ bodies) [] is = tt
with_others kind other i id (b ∷ bodies) (x ∷ ids) is = elim (cases_Bool (x == i)) [
  | inl here ↦ rw here (apart_slots kind other i id b is, with_others kind other i id bodies ids is)
  | inr not ↦ rw not (with_others kind other i id bodies ids is)
]

pub rise_others : (kind other id : ℕ) (bodies : List (List ℕ)) (ids : List ℕ) (a n : ℕ) → ((i : ℕ) → i < a + n → ((kind == other) && (i == id)) ≡ false)
    → AreOthers (an_aps_of other id) (flat_map (sets_with_id kind bodies ids) (range_with_len a n))
rise_others kind other id bodies ids a zero apart = tt
rise_others kind other id bodies ids a (suc n) apart =
    append_others (an_aps_of other id) (sets_with_id kind bodies ids a) (flat_map (sets_with_id kind bodies ids) (range_with_len (a + 1) n))
    (with_others kind other a id bodies ids (apart a (omega arith)))
    (rise_others kind other id bodies ids (a + 1) n (λ i less. apart i (omega (arith, less))))

and_false : (b : Bool) → (b && false) ≡ false
and_false true = refl
and_false false = refl

-- those of lower ids
pub lower_others : (kind id : ℕ) (bodies : List (List ℕ)) (ids : List ℕ) → AreOthers (an_aps_of kind id) (flat_map (sets_with_id kind bodies ids) (range_with_len 0 id))
lower_others kind id bodies ids = rise_others kind kind id bodies ids 0 id (λ i less.
    let other : (i == id) ≡ false = ne_eqb i id (λ same. omega (arith, less, same)) in
    ap (λ b. (kind == kind) && b) other ∙ and_false (kind == kind))

-- those of another type
pub of_another : (kind other count : ℕ) (bodies : List (List ℕ)) (ids : List ℕ) → kind ≢ other → AreOfOthers other (by_ids kind count bodies ids)
of_another kind other count bodies ids differ id = rise_others kind other id bodies ids 0 count (λ i less. ap (λ b. b && (i == id)) (ne_eqb kind other differ))

pub both_others : (kind : ℕ) (xs ys : List Set) → AreOfOthers kind xs → AreOfOthers kind ys → AreOfOthers kind (xs ++ ys)
both_others kind xs ys first second id = append_others (an_aps_of kind id) xs ys (first id) (second id)

-- ---- one id more

pub rise_more : {A : Type 0} (f : ℕ → List A) (a n j : ℕ) → a + n ≡ j → flat_map f (range_with_len a (n + 1)) ≡ flat_map f (range_with_len a n) ++ f j
rise_more f a zero j is = append-nil (f a) ∙ ap f (let same : a ≡ j = omega (arith, is) in same)
rise_more f a (suc n) j is =
    let next : suc n + 1 ≡ suc (n + 1) = omega arith in
    rw next (ap (λ xs. f a ++ xs) (rise_more f (a + 1) n j (omega (arith, is))) ∙ sym (append_assoc (f a) (flat_map f (range_with_len (a + 1) n)) (f j)))

-- ---- bodies that are lent

pub lent_at : (bodies : List (Bor (List ℕ))) (k : ℕ) (b : Bor (List ℕ)) → slice_get bodies k ≡ Some b → slice_index_or (map (λ (b : Bor (List ℕ)). b.now) bodies) k [] ≡ b.now
lent_at [] k b is = absurd (none-some b is)
lent_at (x ∷ bodies) zero b is = let same : x ≡ b = cc in ap (λ (y : Bor (List ℕ)). y.now) same
lent_at (x ∷ bodies) (suc k) b is = lent_at bodies k b is

pub end_at : (bodies : List (Bor (List ℕ))) (k : ℕ) (b : Bor (List ℕ)) → slice_get bodies k ≡ Some b → AllByRecursion CanEnd (map (λ (b : Bor (List ℕ)). b.now) bodies) → CanEnd b.now
end_at [] k b is all = absurd (none-some b is)
end_at (x ∷ bodies) zero b is all = let same : x ≡ b = cc in rw (← same) all.0
end_at (x ∷ bodies) (suc k) b is all = end_at bodies k b is all.1
