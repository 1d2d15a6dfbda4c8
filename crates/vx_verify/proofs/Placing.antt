-- The places of slices, and the inputs of the slices there.
use Rattle.std.proofs.Common.{◌≡◌, ℕ, ◌+◌, ◌<◌, ◌≤◌, ◌==◌, Bool, true, false, List, [], ◌∷◌, ◌++◌, length, get_or, map, take, filter, slice_get, Option, Some, refl, sym, ap, ◌∙◌}
use Rattle.std.specs.Prelude.{None, option_map}
use Rattle.std.proofs.lemmas.Bool.{eq-eqb, ne_eqb}
use Rattle.std.proofs.lemmas.List.{append-nil, length-map, map_push, take_all, take_more_same}
use Rattle.std.proofs.lemmas.List.Elements.{filter_more}
use Rattle.std.proofs.lemmas.Option.{none-some, same_Some, slice_get-map, slice_get_read, slice_get_within, get_or_from_slice_get}
use Rattle.vx_pic.specs.Inputs.{Input, input_in, inputs_in}
use Rattle.vx_pic.specs.Parts.{Parts, SlicePart}
use Rattle.vx_verify.specs.inner.Found.{ArePlaces}

-- ---- one more place

module _ {A : Type 0} (test : A → Bool) (xs : List A) where
  abbrev AreFirst : ℕ → List ℕ → Type 0
  AreFirst i places = map (slice_get xs) places ≡ map Some (filter test (take i xs))

  kept_more : (i : ℕ) (x : A) → slice_get xs i ≡ Some x → test x ≡ true → filter test (take (i + 1) xs) ≡ filter test (take i xs) ++ x ∷ []
  kept_more i x is passes =
      let at : get_or xs i x ≡ x = get_or_from_slice_get xs i x x is in
      filter_more test xs i x (slice_get_within xs i x is) ∙ rw (at, passes) refl

  kept_same : (i : ℕ) (x : A) → slice_get xs i ≡ Some x → test x ≡ false → filter test (take (i + 1) xs) ≡ filter test (take i xs)
  kept_same i x is fails =
      let at : get_or xs i x ≡ x = get_or_from_slice_get xs i x x is in
      filter_more test xs i x (slice_get_within xs i x is) ∙ rw (at, fails) (append-nil (filter test (take i xs)))

  first_more : (i : ℕ) (x : A) (places : List ℕ) → slice_get xs i ≡ Some x → test x ≡ true → AreFirst i places → AreFirst (i + 1) (places ++ i ∷ [])
  first_more i x places is passes first =
      let front : List A = filter test (take i xs) in
      map_push (slice_get xs) places i
      ∙ (ap (λ ys. ys ++ slice_get xs i ∷ []) first
      ∙ (ap (λ o. map Some front ++ o ∷ []) is ∙ sym (ap (map Some) (kept_more i x is passes) ∙ map_push Some front x)))

  first_same : (i : ℕ) (x : A) (places : List ℕ) → slice_get xs i ≡ Some x → test x ≡ false → AreFirst i places → AreFirst (i + 1) places
  first_same i x places is fails first = first ∙ sym (ap (map Some) (kept_same i x is fails))

-- the places of the slices of subpicture k among the first i of its picture
abbrev pub ArePlacesOf : Parts → ℕ → ℕ → List ℕ → Type 0
ArePlacesOf q k i places = map (slice_get q.slices) places ≡ map Some (filter (λ s. s.header.subpic == k) (take i q.slices))

pub places_more : (q : Parts) (k i : ℕ) (s : SlicePart) (places more : List ℕ) → more ≡ places ++ i ∷ [] → slice_get q.slices i ≡ Some s → s.header.subpic ≡ k
    → ArePlacesOf q k i places → ArePlacesOf q k (i + 1) more
places_more q k i s places more pushed is own placed =
    ap (map (slice_get q.slices)) pushed ∙ first_more (λ t. t.header.subpic == k) q.slices i s places is (eq-eqb s.header.subpic k own) placed

pub places_same : (q : Parts) (k i : ℕ) (s : SlicePart) (places : List ℕ) → slice_get q.slices i ≡ Some s → ¬ (s.header.subpic ≡ k)
    → ArePlacesOf q k i places → ArePlacesOf q k (i + 1) places
places_same q k i s places is other placed = first_same (λ t. t.header.subpic == k) q.slices i s places is (ne_eqb s.header.subpic k other) placed

pub places_all : (q : Parts) (k i : ℕ) (places : List ℕ) → length q.slices ≤ i → ArePlacesOf q k i places → ArePlaces q k places
places_all q k i places past placed = placed ∙ ap (λ xs. map Some (filter (λ s. s.header.subpic == k) xs)) (take_all i q.slices past)

-- ---- what stands at a place

pub as_many : (q : Parts) (k : ℕ) (places : List ℕ) → ArePlaces q k places → length places ≡ length (inputs_in q k)
as_many q k places placed =
    let own : List SlicePart = filter (λ s. s.header.subpic == k) q.slices in
    sym (length-map places (slice_get q.slices)) ∙ (ap length placed ∙ (length-map own Some ∙ sym (length-map own (input_in q))))

found : {A B : Type 0} (f : A → B) (o : Option A) (x : Option A) → Some x ≡ option_map Some o → (y : A) × (x ≡ Some y) × (option_map f o ≡ Some (f y))
found f None x is = absurd (none-some x (sym is))
found f (Some y) x is = (y, same_Some x (Some y) is, refl)

pub record StandsThere (q : Parts) (k i place : ℕ) : Type 0 where
  pub part : SlicePart
  pub slice : slice_get q.slices place ≡ Some part
  pub input : slice_get (inputs_in q k) i ≡ Some (input_in q part)

pub stands_there : (q : Parts) (k i place : ℕ) (places : List ℕ) → ArePlaces q k places → slice_get places i ≡ Some place → StandsThere q k i place
stands_there q k i place places placed at =
    let own : List SlicePart = filter (λ s. s.header.subpic == k) q.slices in
    let is : Some (slice_get q.slices place) ≡ option_map Some (slice_get own i)
    = sym (ap (option_map (slice_get q.slices)) at) ∙ (sym (slice_get-map (slice_get q.slices) places i) ∙ (ap (λ xs. slice_get xs i) placed ∙ slice_get-map Some own i)) in
    let it = found (input_in q) (slice_get own i) (slice_get q.slices place) is in
    record { part = it.0; slice = it.1; input = slice_get-map (input_in q) own i ∙ it.2 }

pub place_read : (q : Parts) (k i place : ℕ) (places : List ℕ) → ArePlaces q k places → i < length places → place ≡ get_or places i place → StandsThere q k i place
place_read q k i place places placed low is = stands_there q k i place places placed (slice_get_read places (length places) i place refl low is)

pub within_slices : (q : Parts) (k i place : ℕ) → StandsThere q k i place → place < length q.slices
within_slices q k i place there = slice_get_within q.slices place there.part there.slice

-- ---- the same inputs so far

pub same_more : (xs ys : List Input) (i : ℕ) (a b : Input) → slice_get xs i ≡ Some a → slice_get ys i ≡ Some b → a ≡ b → take i xs ≡ take i ys
    → take (i + 1) xs ≡ take (i + 1) ys
same_more xs ys i a b here there same so_far =
    take_more_same xs ys i a (slice_get_within xs i a here) (slice_get_within ys i b there) so_far
    (get_or_from_slice_get xs i a a here ∙ (same ∙ sym (get_or_from_slice_get ys i b a there)))

pub same_all : (xs ys : List Input) (i : ℕ) → length xs ≤ i → length ys ≤ i → take i xs ≡ take i ys → xs ≡ ys
same_all xs ys i past past_others so_far = sym (take_all i xs past) ∙ (so_far ∙ take_all i ys past_others)
