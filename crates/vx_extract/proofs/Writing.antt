-- The units of the slices of a subpicture.
use Rattle.std.proofs.Common.{◌≡◌, ℕ, ◌+◌, ◌<◌, ◌≤◌, Bool, cond, List, [], ◌∷◌, ◌++◌, take, drop, zero, suc, length, map, filter, slice_get, Some, refl, sym, ap, ◌∙◌, arith}
use Rattle.std.specs.Prelude.{◌==◌, option_to_list}
use Rattle.std.proofs.lemmas.List.{map-append, take_all, take-append-drop}
use Rattle.std.proofs.lemmas.List.Elements.{filter_more, filter-append}
use Rattle.std.proofs.lemmas.Option.{slice_get_within, get_or_from_slice_get}
use Rattle.vx_pic.specs.Parts.{Parts, SlicePart}
use Rattle.vx_extract.specs.Written.{slice_alone}
use Rattle.vx_extract.specs.inner.Writing.{slice_units, slice_units_at}

-- the slices of the subpicture among the first
abbrev pub units_to : List SlicePart → ℕ → ℕ → List (List ℕ)
units_to slices target i = map (λ s. s.unit) (filter (λ s. s.header.subpic == target) (take i slices))

pub units_all : (q : Parts) (target : ℕ) → map (λ s. s.unit) (filter (λ s. s.header.subpic == target) q.slices) ≡ slice_units q target
units_all q target = by (filter (λ s. s.header.subpic == target) q.slices)
  where
    by : (xs : List SlicePart) → map (λ s. s.unit) xs ≡ map (λ s. s.unit) (map slice_alone xs)
    by [] = refl
    by (x ∷ xs) = ap (λ us. x.unit ∷ us) (by xs)

-- one slice more
pub units_more : (slices : List SlicePart) (target i : ℕ) (s : SlicePart) → slice_get slices i ≡ Some s
    → units_to slices target (i + 1) ≡ units_to slices target i ++ slice_units_at slices target i
units_more slices target i s at =
    let within = slice_get_within slices i s at in
    let is : SlicePart → Bool = λ x. x.header.subpic == target in
    let same = get_or_from_slice_get slices i s s at in
    let found : filter is (take (i + 1) slices) ≡ filter is (take i slices) ++ filter is (option_to_list (slice_get slices i)) =
    filter_more is slices i s within
    ∙ ap (λ x. filter is (take i slices) ++ cond (is x) (x ∷ []) []) same
    ∙ ap (λ o. filter is (take i slices) ++ filter is (option_to_list o)) (sym at) in
    ap (map (λ x. x.unit)) found ∙ map-append (λ x. x.unit) (filter is (take i slices)) (filter is (option_to_list (slice_get slices i)))

pub units_past : (q : Parts) (target i : ℕ) → length q.slices ≤ i → units_to q.slices target i ≡ slice_units q target
units_past q target i past = ap (λ xs. map (λ s. s.unit) (filter (λ s. s.header.subpic == target) xs)) (take_all i q.slices past) ∙ units_all q target

there : {X : Type 0} (xs : List X) (i : ℕ) → i < length xs → (x : X) × (slice_get xs i ≡ Some x)
there [] i within = absurd (omega arith)
there (x ∷ xs) zero within = (x, refl)
there (x ∷ xs) (suc i) within = there xs i (omega arith)

pub units_step : (slices : List SlicePart) (target i : ℕ) → i < length slices → units_to slices target (i + 1) ≡ units_to slices target i ++ slice_units_at slices target i
units_step slices target i within = let s = there slices i within in units_more slices target i s.0 s.1

-- all slices are the first ones and others
pub units_split : (q : Parts) (target i : ℕ) → i < length q.slices
    → (rest : List (List ℕ)) × (slice_units q target ≡ (units_to q.slices target i ++ slice_units_at q.slices target i) ++ rest)
units_split q target i within =
    let is : SlicePart → Bool = λ x. x.header.subpic == target in
    let others = filter is (drop (i + 1) q.slices) in (
      map (λ x. x.unit) others,
      sym (units_all q target)
          ∙ ap (λ xs. map (λ x. x.unit) (filter is xs)) (sym (take-append-drop (i + 1) q.slices))
          ∙ ap (map (λ x. x.unit)) (filter-append is (take (i + 1) q.slices) (drop (i + 1) q.slices))
          ∙ map-append (λ x. x.unit) (filter is (take (i + 1) q.slices)) others
          ∙ ap (λ us. us ++ map (λ x. x.unit) others) (units_step q.slices target i within),
    )
