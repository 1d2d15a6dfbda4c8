-- The adaptation parameter sets that a merged picture needs: each can be written, and has its body at the id of that.
use Rattle.std.proofs.Common.{◌≡◌, ◌⊎◌, ℕ, zero, suc, ◌+◌, ◌<◌, ◌≤◌, ◌==◌, ◌||◌, Bool, true, false, cond, List, [], ◌∷◌, ◌++◌, length, map, Option, Some, None, refl, ap, sym, subst, ◌∙◌, inl, inr, arith}
use Rattle.std.specs.Prelude.{IfSome, filter, flat_map, option_map}
use Rattle.std.specs.List.{AllByRecursion, range_with_len, zip}
use Rattle.std.proofs.lemmas.Bool.{cases_Bool, cases_eq, eq-eqb, true≢false}
use Rattle.vx_aps.specs.declared.aps.Aps.{Aps}
use Rattle.vx_aps.specs.declared.aps.TheConstants as aps
use Rattle.vx_aps.specs.Aps.{ids_of_type}
use Rattle.vx_layout.proofs.Parts.{Each-append}
use Rattle.vx_pic.specs.Parts.{Parts, aps_at}
use Rattle.vx_pic.specs.Resident.{same_bytes}
use Rattle.vx_pic.specs.Written.{Set, an_aps}
use Rattle.vx_write.specs.Again.{HasReadableSets, IsReadable}
use Rattle.vx_write.proofs.OwnSets.{IsAmong, among_first, among_second}
use Rattle.vx_write.proofs.Vacant.{itself_bytes}
use Rattle.vx_frame.specs.Bodies.{is_among, once, with_bodies}
use Rattle.vx_merge.specs.Needed.{by_ids, id_of_body, sets_with_id}
use Rattle.vx_merge.specs.inner.Sending.{CanEnd, HasEnds}
use Rattle.vx_merge.proofs.Owning.{bytes_are}

-- ---- bodies in lists

abbrev pub HasBody : List (List ℕ) → List ℕ → Type 0
HasBody [] b = ⊥
HasBody (x ∷ bodies) b = (x ≡ b) ⊎ HasBody bodies b

pub body_first : (xs ys : List (List ℕ)) (b : List ℕ) → HasBody xs b → HasBody (xs ++ ys) b
body_first [] ys b is = absurd is
body_first (x ∷ xs) ys b (inl same) = inl same
body_first (x ∷ xs) ys b (inr more) = inr (body_first xs ys b more)

pub body_second : (xs ys : List (List ℕ)) (b : List ℕ) → HasBody ys b → HasBody (xs ++ ys) b
body_second [] ys b is = is
body_second (x ∷ xs) ys b is = inr (body_second xs ys b is)

either : (t : Bool) → (t || true) ≡ true
either true = refl
either false = refl

among_more : (b x : List ℕ) (bodies : List (List ℕ)) → is_among b bodies ≡ true → is_among b (bodies ++ x ∷ []) ≡ true
among_more b x [] is = absurd (true≢false (sym is))
among_more b x (y ∷ bodies) is = elim (cases_Bool (same_bytes y b)) [
  | inl same ↦ rw same refl
  | inr other ↦ rw other (among_more b x bodies (rw other at is))
]

among_last : (b : List ℕ) (bodies : List (List ℕ)) → is_among b (bodies ++ b ∷ []) ≡ true
among_last b [] = rw (itself_bytes b) refl
among_last b (y ∷ bodies) = ap (λ t. same_bytes y b || t) (among_last b bodies) ∙ either (same_bytes y b)

-- what is among some is among these with others
stays_among : (b : List ℕ) (bodies xs : List (List ℕ)) → is_among b bodies ≡ true → is_among b (with_bodies bodies xs) ≡ true
stays_among b bodies [] is = is
stays_among b bodies (x ∷ xs) is = elim (cases_Bool (is_among x bodies)) [
  | inl old ↦ rw old (stays_among b bodies xs is)
  | inr new ↦ rw new (stays_among b (bodies ++ x ∷ []) xs (among_more b x bodies is))
]

comes_among : (b : List ℕ) (bodies xs : List (List ℕ)) → HasBody xs b → is_among b (with_bodies bodies xs) ≡ true
comes_among b bodies [] is = absurd is
comes_among b bodies (x ∷ xs) (inl same) = subst (λ y. is_among b (with_bodies bodies (y ∷ xs)) ≡ true) (sym same) (elim (cases_Bool (is_among b bodies)) [
  | inl old ↦ rw old (stays_among b bodies xs old)
  | inr new ↦ rw new (stays_among b (bodies ++ b ∷ []) xs (among_last b bodies))
])
comes_among b bodies (x ∷ xs) (inr more) = elim (cases_Bool (is_among x bodies)) [
  | inl old ↦ rw old (comes_among b bodies xs more)
  | inr new ↦ rw new (comes_among b (bodies ++ x ∷ []) xs more)
]

-- each is there once
pub once_has : (xs : List (List ℕ)) (b : List ℕ) → HasBody xs b → is_among b (once xs) ≡ true
once_has xs b is = comes_among b [] xs is

-- ---- the set of a body

abbrev pub set_at : ℕ → ℕ → List ℕ → Set
set_at kind id body = an_aps (record { kind = kind; id = id; body = body })

no_test : (a b : Bool) → (a || b) ≡ true → a ≡ false → b ≡ true
no_test true b is none = absurd (true≢false none)
no_test false b is none = is

with_its_id : (kind : ℕ) (bodies : List (List ℕ)) (ns : List ℕ) (body : List ℕ) → is_among body bodies ≡ true → length ns ≡ length bodies
    → IsAmong (sets_with_id kind bodies ns (id_of_body bodies ns body)) (set_at kind (id_of_body bodies ns body) body)
with_its_id kind [] ns body is same = absurd (true≢false (sym is))
with_its_id kind (b ∷ bodies) [] body is same = absurd (omega (arith, same))
with_its_id kind (b ∷ bodies) (n ∷ ns) body is same = elim (cases_Bool (same_bytes b body)) [
  | inl on ↦
      let here : (n == n) ≡ true = eq-eqb n n refl in
      let id : id_of_body (b ∷ bodies) (n ∷ ns) body ≡ n = ap (λ t. cond t n (id_of_body bodies ns body)) on in
      let one : IsAmong (sets_with_id kind (b ∷ bodies) (n ∷ ns) n) (set_at kind n body) = rw here (inl (ap (λ x. set_at kind n x) (bytes_are b body on))) in
      subst (λ i. IsAmong (sets_with_id kind (b ∷ bodies) (n ∷ ns) i) (set_at kind i body)) (sym id) one
  | inr off ↦
      let id : id_of_body (b ∷ bodies) (n ∷ ns) body ≡ id_of_body bodies ns body = ap (λ t. cond t n (id_of_body bodies ns body)) off in
      let more = with_its_id kind bodies ns body (no_test (same_bytes b body) (is_among body bodies) is off) (omega (arith, same)) in
      subst (λ i. IsAmong (sets_with_id kind (b ∷ bodies) (n ∷ ns) i) (set_at kind i body)) (sym id) (behind kind b n bodies ns (id_of_body bodies ns body) (set_at kind (id_of_body bodies ns body) body) more)
]
  where
    behind : (kind : ℕ) (b : List ℕ) (n : ℕ) (bodies : List (List ℕ)) (ns : List ℕ) (id : ℕ) (s : Set)
        → IsAmong (sets_with_id kind bodies ns id) s → IsAmong (sets_with_id kind (b ∷ bodies) (n ∷ ns) id) s
    behind kind b n bodies ns id s more = elim (cases_Bool (n == id)) [ inl on ↦ rw on (inr more) | inr off ↦ rw off more ]

pub by_range : (kind : ℕ) (bodies : List (List ℕ)) (ns : List ℕ) (s : Set) (id from count : ℕ) → from ≤ id → id < from + count
    → IsAmong (sets_with_id kind bodies ns id) s → IsAmong (flat_map (sets_with_id kind bodies ns) (range_with_len from count)) s
by_range kind bodies ns s id from zero low high is = absurd (omega (arith, low, high))
by_range kind bodies ns s id from (suc count) low high is = elim (cases_eq from id) [
  | inl same ↦ among_first (sets_with_id kind bodies ns from) (flat_map (sets_with_id kind bodies ns) (range_with_len (from + 1) count)) s (subst (λ i. IsAmong (sets_with_id kind bodies ns i) s) (sym same) is)
  | inr other ↦ among_second (sets_with_id kind bodies ns from) (flat_map (sets_with_id kind bodies ns) (range_with_len (from + 1) count)) s (by_range kind bodies ns s id (from + 1) count (omega (arith, low, other)) (omega (arith, high)) is)
]

-- among all of a type
pub by_its_id : (kind count : ℕ) (bodies : List (List ℕ)) (ns : List ℕ) (body : List ℕ) → is_among body bodies ≡ true
    → length ns ≡ length bodies → id_of_body bodies ns body < count
    → IsAmong (by_ids kind count bodies ns) (set_at kind (id_of_body bodies ns body) body)
by_its_id kind count bodies ns body is same low =
    by_range kind bodies ns (set_at kind (id_of_body bodies ns body) body) (id_of_body bodies ns body) 0 count (omega arith) (omega (arith, low)) (with_its_id kind bodies ns body is same)

-- ---- sets that can be read again

zip_ends : (bodies : List (List ℕ)) (ns : List ℕ) (id : ℕ) → AllByRecursion CanEnd bodies
    → AllByRecursion (λ (p : List ℕ × ℕ). CanEnd p.0) (filter (λ (p : List ℕ × ℕ). p.1 == id) (zip bodies ns))
zip_ends [] ns id all = tt
zip_ends (b ∷ bodies) [] id all = tt
zip_ends (b ∷ bodies) (n ∷ ns) id all = elim (cases_Bool (n == id)) [
  | inl on ↦ rw on (all.0, zip_ends bodies ns id all.1)
  | inr off ↦ rw off (zip_ends bodies ns id all.1)
]

readable_at : (kind id : ℕ) (ps : List (List ℕ × ℕ)) → kind ≤ aps.SCALING → id < ids_of_type kind
    → AllByRecursion (λ (p : List ℕ × ℕ). CanEnd p.0) ps
    → AllByRecursion IsReadable (map (λ (p : List ℕ × ℕ). set_at kind id p.0) ps)
readable_at kind id [] known low all = tt
readable_at kind id (p ∷ ps) known low all = (record { kind = known; id = low; some = all.0.0; ends = all.0.1 }, readable_at kind id ps known low all.1)

readable_from : (kind : ℕ) (bodies : List (List ℕ)) (ns : List ℕ) (from count : ℕ) → kind ≤ aps.SCALING → from + count ≤ ids_of_type kind
    → AllByRecursion CanEnd bodies
    → AllByRecursion IsReadable (flat_map (sets_with_id kind bodies ns) (range_with_len from count))
readable_from kind bodies ns from zero known few all = tt
readable_from kind bodies ns from (suc count) known few all =
    Each-append IsReadable (sets_with_id kind bodies ns from) (flat_map (sets_with_id kind bodies ns) (range_with_len (from + 1) count))
    (readable_at kind from (filter (λ (p : List ℕ × ℕ). p.1 == from) (zip bodies ns)) known (omega (arith, few)) (zip_ends bodies ns from all)) (readable_from kind bodies ns (from + 1) count known (omega (arith, few)) all)

pub readable_by_ids : (kind count : ℕ) (bodies : List (List ℕ)) (ns : List ℕ) → kind ≤ aps.SCALING → count ≤ ids_of_type kind
    → AllByRecursion CanEnd bodies → AllByRecursion IsReadable (by_ids kind count bodies ns)
readable_by_ids kind count bodies ns known few all = readable_from kind bodies ns 0 count known (omega (arith, few)) all

-- the bodies of a picture's sets can end a unit
pub has_ends : (q : Parts) → HasReadableSets q → HasEnds q
has_ends q readable kind id = by (aps_at q.bodies kind id) refl
  where
    by : (o : Option Aps) → aps_at q.bodies kind id ≡ o → IfSome (option_map (λ (a : Aps). a.body) o) CanEnd
    by None at = tt
    by (Some a) at = let valid = readable (record { kind = kind; id = id }) a at in (valid.some, valid.ends)
