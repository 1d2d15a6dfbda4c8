-- What is told of rounds that are read alike.
use Rattle.std.proofs.Common.{◌≡◌, ℕ, ℤ, zero, suc, ◌<◌, Bool, cond, List, [], ◌∷◌, ◌++◌, length, map, take, slice_get, Option, refl, ap, sym, subst, ◌∙◌, IsTrue}
use Rattle.std.specs.Prelude.{flat_map}
use Rattle.std.specs.List.{AllByRecursion, AllZip}
use Rattle.vx_aps.specs.declared.aps.Aps.{Aps}
use Rattle.vx_aps.specs.declared.aps.TheConstants as aps
use Rattle.vx_fields.specs.declared.ph.TheConstants as ph
use Rattle.vx_fit.specs.Lowest.{IsLowest}
use Rattle.vx_pic.specs.Parts.{Parts, SlicePart, read_of}
use Rattle.vx_pic.specs.Sets.{filter_items, named}
use Rattle.vx_frame.specs.Bodies.{filters_in, filters_of, lmcs_body, scaling_body}
use Rattle.vx_frame.specs.Rounds.{SomeUnlike, SomeUnlikeFirst, UnlikeFirst, UnlikeLowest, picture_at}
use Rattle.vx_frame.specs.Shapes.{of_lowest}
use Rattle.vx_segments.specs.Alike.{HaveAlike, IsReadAlike, slice_names}
use Rattle.vx_segments.proofs.Naming.{back, filters_same, front, named_same}

-- ---- a picture

-- the first as it is read elsewhere
abbrev pub elsewhere : Parts → Bool → ℤ → List (Option Aps) → Parts
elsewhere p clvss poc bodies = record p { kind = record p.kind { clvss = clvss; poc = poc }; bodies = bodies }

-- what tells nothing of these
abbrev pub Plain : {A : Type 0} → (Parts → A) → Type 0
Plain f = (p : Parts) (clvss : Bool) (poc : ℤ) (bodies : List (Option Aps)) → f (elsewhere p clvss poc bodies) ≡ f p

-- what tells the same of pictures that are read alike
abbrev pub Respects : {A : Type 0} → (Parts → A) → Type 0
Respects f = (p q : Parts) → IsReadAlike p q → f p ≡ f q

pub plainly : {A : Type 0} (f : Parts → A) → Plain f → Respects f
plainly f plain p q alike = sym (plain p q.kind.clvss q.kind.poc q.bodies) ∙ ap f (sym alike.same)

filters_of_slices : (p q : Parts) (slices : List SlicePart) → AllByRecursion (λ s. HaveAlike p q (slice_names p s)) slices
    → flat_map (filters_of p) slices ≡ flat_map (filters_of (elsewhere p q.kind.clvss q.kind.poc q.bodies)) slices
filters_of_slices p q [] all = refl
filters_of_slices p q (s ∷ slices) all =
    let same = filters_same p (elsewhere p q.kind.clvss q.kind.poc q.bodies) (filter_items p.pps p.header.fields (read_of s.header)) all.0 in
    ap (λ l. l ++ flat_map (filters_of p) slices) same
    ∙ ap (λ l. filters_of (elsewhere p q.kind.clvss q.kind.poc q.bodies) s ++ l) (filters_of_slices p q slices all.1)

pub filters_respect : Respects filters_in
filters_respect p q alike = filters_of_slices p q p.slices alike.slices ∙ ap filters_in (sym alike.same)

pub lmcs_respects : Respects lmcs_body
lmcs_respects p q alike =
    named_same p (elsewhere p q.kind.clvss q.kind.poc q.bodies) aps.LMCS ph.ph_lmcs_aps_id p.header.fields (front _ _ _ alike.header)
    ∙ ap lmcs_body (sym alike.same)

pub scaling_respects : Respects scaling_body
scaling_respects p q alike =
    named_same p (elsewhere p q.kind.clvss q.kind.poc q.bodies) aps.SCALING ph.ph_scaling_list_aps_id p.header.fields (back _ (named aps.LMCS ph.ph_lmcs_aps_id p.header.fields) _ alike.header)
    ∙ ap scaling_body (sym alike.same)

-- ---- lists of them

abbrev pub AreAlike : List Parts → List Parts → Type 0
AreAlike round other = AllZip IsReadAlike round other

pub at : (round other : List Parts) → AreAlike round other → (k : ℕ) → IsReadAlike (picture_at round k) (picture_at other k)
at [] [] alike k = record { same = refl; header = tt; slices = tt }
at [] (q ∷ other) alike k = absurd alike
at (p ∷ round) [] alike k = absurd alike
at (p ∷ round) (q ∷ other) alike zero = alike.0
at (p ∷ round) (q ∷ other) alike (suc k) = at round other alike.1 k

pub as_many : (round other : List Parts) → AreAlike round other → length round ≡ length other
as_many [] [] alike = refl
as_many [] (q ∷ other) alike = absurd alike
as_many (p ∷ round) [] alike = absurd alike
as_many (p ∷ round) (q ∷ other) alike = ap suc (as_many round other alike.1)

module _ {A : Type 0} (f : Parts → A) (respects : Respects f) where
  pub maps : (round other : List Parts) → AreAlike round other → map f round ≡ map f other
  maps [] [] alike = refl
  maps [] (q ∷ other) alike = absurd alike
  maps (p ∷ round) [] alike = absurd alike
  maps (p ∷ round) (q ∷ other) alike = ap (λ x. x ∷ map f round) (respects p q alike.0) ∙ ap (λ l. f q ∷ l) (maps round other alike.1)

  pub at_same : (round other : List Parts) → AreAlike round other → (k : ℕ) → f (picture_at round k) ≡ f (picture_at other k)
  at_same round other alike k = respects (picture_at round k) (picture_at other k) (at round other alike k)

module _ {A : Type 0} (f : Parts → List A) (respects : Respects f) where
  pub flats : (round other : List Parts) → AreAlike round other → flat_map f round ≡ flat_map f other
  flats [] [] alike = refl
  flats [] (q ∷ other) alike = absurd alike
  flats (p ∷ round) [] alike = absurd alike
  flats (p ∷ round) (q ∷ other) alike = ap (λ l. l ++ flat_map f round) (respects p q alike.0) ∙ ap (λ l. f q ++ l) (flats round other alike.1)

pub firsts : (n : ℕ) (round other : List Parts) → AreAlike round other → AreAlike (take n round) (take n other)
firsts zero round other alike = tt
firsts (suc n) [] [] alike = tt
firsts (suc n) [] (q ∷ other) alike = absurd alike
firsts (suc n) (p ∷ round) [] alike = absurd alike
firsts (suc n) (p ∷ round) (q ∷ other) alike = (alike.0, firsts n round other alike.1)

pub lowest_same : {A : Type 0} (has : Parts → Bool) (f : Parts → A) (none : A) → Respects has → Respects f → (round other : List Parts) → AreAlike round other
    → of_lowest has f none round ≡ of_lowest has f none other
lowest_same has f none there same [] [] alike = refl
lowest_same has f none there same [] (q ∷ other) alike = absurd alike
lowest_same has f none there same (p ∷ round) [] alike = absurd alike
lowest_same has f none there same (p ∷ round) (q ∷ other) alike =
    ap (λ b. cond b (f p) (of_lowest has f none round)) (there p q alike.0)
    ∙ (ap (λ x. cond (has q) x (of_lowest has f none round)) (same p q alike.0)
    ∙ ap (λ x. cond (has q) (f q) x) (lowest_same has f none there same round other alike.1))

-- ---- how sources differ

-- each of two follows from the other
abbrev pub Both : Type 0 → Type 0 → Type 0
Both A B = (A → B) × (B → A)

pub lowest_of : (n m : ℕ) (P Q : ℕ → Type 0) → n ≡ m → ((k : ℕ) → Both (P k) (Q k)) → (k : ℕ) → IsLowest n P k → IsLowest m Q k
lowest_of n m P Q same both k lowest = record {
  in_range = subst (λ i. k < i) same lowest.in_range;
  breaks = (both k).0 lowest.breaks;
  lower = λ j less breaks. lowest.lower j less ((both j).1 breaks);
}

turned : {A B : Type 0} → Both A B → Both B A
turned both = (both.1, both.0)

module _ (round other : List Parts) (alike : AreAlike round other) where
  pub unlike_first : {A : Type 0} (f : Parts → A) → Respects f → (k : ℕ) → Both (UnlikeFirst f round k) (UnlikeFirst f other k)
  unlike_first f respects k =
      let here = at_same f respects round other alike k in
      let first = at_same f respects round other alike 0 in
      ((λ differ same. differ (here ∙ (same ∙ sym first))), (λ differ same. differ (sym here ∙ (same ∙ first))))

  there_too : (has : Parts → Bool) → Respects has → (k : ℕ) → Both (IsTrue (has (picture_at round k))) (IsTrue (has (picture_at other k)))
  there_too has respects k =
      let here = at_same has respects round other alike k in
      (subst (λ b. IsTrue b) here, subst (λ b. IsTrue b) (sym here))

  pub unlike_lowest : {A : Type 0} (has : Parts → Bool) (f : Parts → A) → Respects has → Respects f → (k : ℕ)
      → Both (UnlikeLowest has f round k) (UnlikeLowest has f other k)
  unlike_lowest has f there respects k = (
    λ u. (
      (there_too has there k).0 u.0,
      (
        u.1.0,
        lowest_of (length round) (length other) _ _ (as_many round other alike) (there_too has there) u.1.0 u.1.1,
        λ same. u.1.2 (same_at k ∙ (same ∙ sym (same_at u.1.0))),
      ),
    ),
    λ u. (
      (there_too has there k).1 u.0,
      (
        u.1.0,
        lowest_of (length other) (length round) _ _ (sym (as_many round other alike)) (λ i. turned (there_too has there i)) u.1.0 u.1.1,
        λ same. u.1.2 (sym (same_at k) ∙ (same ∙ same_at u.1.0)),
      ),
    ),
  )
    where
      same_at : (i : ℕ) → f (picture_at round i) ≡ f (picture_at other i)
      same_at i = at_same f respects round other alike i

  pub some_unlike : {A : Type 0} (f : Parts → List A) → Respects f → (k : ℕ) → Both (SomeUnlikeFirst f round k) (SomeUnlikeFirst f other k)
  some_unlike {A} f respects k =
      let here = at_same f respects round other alike k in
      let all = flats f respects round other alike in
      (moved here all, moved (sym here) (sym all))
    where
      moved : {xs ys as_ bs : List A} → xs ≡ ys → as_ ≡ bs → SomeUnlike xs (slice_get as_ 0) → SomeUnlike ys (slice_get bs 0)
      moved {xs} {ys} {as_} {bs} same all some =
          subst (λ l. SomeUnlike ys (slice_get l 0)) all (subst (λ l. SomeUnlike l (slice_get as_ 0)) same some)
