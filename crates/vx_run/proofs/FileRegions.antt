-- The region of a file: as many as there are corners before the first file with its own.
use Rattle.std.proofs.Common.{◌≡◌, ◌≢◌, ℕ, zero, suc, ◌+◌, ◌<◌, ◌≤◌, ◌==◌, List, [], ◌∷◌, ◌++◌, ◌∙◌, Option, Some, Bool, true, false, not, cond, length, map, get_or, slice_get, take, inl, inr, sym, ap, refl, subst, arith, add-one}
use Rattle.std.specs.Prelude.{IfSome, option_map}
use Rattle.std.proofs.lemmas.Bool.{and_parts, cases_lt, eq-eqb, eqb-true, ne_eqb}
use Rattle.std.proofs.lemmas.List.{length-append}
use Rattle.std.proofs.lemmas.List.Folds.{position_or_len_push}
use Rattle.std.proofs.lemmas.List.Sums.{fails_before_first, passes_at_first, position_or_len_is, prefix_len-le-length}
use Rattle.std.proofs.lemmas.Option.{get_or_from_slice_get, slice_get-get_or, slice_get-map, slice_get_within}
use Rattle.vx_frame.specs.declared.corner.Corner.{Corner}
use Rattle.vx_run.specs.Play.{is_corner, region_at_corner, with_corner, with_corners}

pub no_corner : Corner
no_corner = record { x = 0; y = 0 }

-- ---- a corner among others

same_corner : (c d : Corner) → c.x ≡ d.x → c.y ≡ d.y → c ≡ d
same_corner c d p q = ap (λ (x : ℕ). let e : Corner = record { x = x; y = c.y } in e) p ∙ ap (λ (y : ℕ). let e : Corner = record { x = d.x; y = y } in e) q

is_same : (c d : Corner) → is_corner c d ≡ true → c ≡ d
is_same c d is =
    let both = and_parts (c.x == d.x) (c.y == d.y) is in
    same_corner c d (eqb-true c.x d.x both.0) (eqb-true c.y d.y both.1)

pub itself : (c : Corner) → is_corner c c ≡ true
itself c = rw (eq-eqb c.x c.x refl, eq-eqb c.y c.y refl) refl

turned : (c d : Corner) (b : Bool) → is_corner d c ≡ b → is_corner c d ≡ b
turned c d true is = ap (is_corner c) (is_same d c is) ∙ itself c
turned c d false is = by_test (is_corner c d) refl
  where
    by_test : (b : Bool) → is_corner c d ≡ b → is_corner c d ≡ false
    by_test false other = other
    by_test true same = let no : true ≡ false = sym (itself d) ∙ ap (is_corner d) (sym (is_same c d same)) ∙ is in absurd (cc)

-- the corner is among these, or isn't
abbrev Has : List Corner → Corner → Type 0
Has found c = region_at_corner found c < length found

abbrev Lacks : List Corner → Corner → Type 0
Lacks found c = region_at_corner found c ≡ length found

first_within : (found : List Corner) (c : Corner) → region_at_corner found c ≤ length found
first_within found c = prefix_len-le-length (λ x. not (is_corner c x)) found

-- with one more behind them
pushed : (found : List Corner) (c x : Corner) (last known : Bool) → (region_at_corner found c == length found) ≡ last → is_corner c x ≡ known
    → region_at_corner (found ++ x ∷ []) c ≡ cond last (length found + cond known 0 1) (region_at_corner found c)
pushed found c x last known is same = rw (← is, ← same) (position_or_len_push (is_corner c) found x)

-- and with one more if it is new
abbrev With : Bool → List Corner → Corner → List Corner
With new found x = cond new (found ++ x ∷ []) found

new_or_known : (found : List Corner) (x : Corner) (new : Bool) → (region_at_corner found x == length found) ≡ new → with_corner found x ≡ With new found x
new_or_known found x new is = ap (λ (b : Bool). With b found x) is

module _ (found : List Corner) (c x : Corner) where
  -- a corner that isn't among them isn't behind another one,
  lacks_still : Lacks found c → is_corner c x ≡ false → Lacks (with_corner found x) c
  lacks_still none other = by_test (region_at_corner found x == length found) refl
    where
      by_test : (new : Bool) → (region_at_corner found x == length found) ≡ new → Lacks (with_corner found x) c
      by_test true is = rw (new_or_known found x true is) (pushed found c x true false (eq-eqb (region_at_corner found c) (length found) none) other ∙ sym (length-append found (x ∷ [])))
      by_test false is = rw (new_or_known found x false is) none

  -- and one that is stays where it is
  has_still : Has found c → (region_at_corner (with_corner found x) c ≡ region_at_corner found c) × Has (with_corner found x) c
  has_still some = by_test (region_at_corner found x == length found) refl
    where
      stays : region_at_corner (found ++ x ∷ []) c ≡ region_at_corner found c
      stays = pushed found c x false (is_corner c x) (ne_eqb (region_at_corner found c) (length found) (λ is. omega (arith, is, some))) refl

      by_test : (new : Bool) → (region_at_corner found x == length found) ≡ new → (region_at_corner (with_corner found x) c ≡ region_at_corner found c) × Has (with_corner found x) c
      by_test true is = rw (new_or_known found x true is) (stays, omega (arith, stays, some, length-append found (x ∷ [])))
      by_test false is = rw (new_or_known found x false is) (refl, some)

-- one that is new is the last
has_new : (found : List Corner) (c : Corner) → Lacks found c → (region_at_corner (with_corner found c) c ≡ length found) × (length (with_corner found c) ≡ length found + 1)
has_new found c none =
    let is = eq-eqb (region_at_corner found c) (length found) none in
    let there : region_at_corner (found ++ c ∷ []) c ≡ length found = omega (arith, pushed found c c true true is (itself c)) in
    rw (new_or_known found c true is) (there, length-append found (c ∷ []))

-- ---- the corners so far

-- where none of them is the corner, it isn't found
lacks_all : (found xs : List Corner) (c : Corner) (i : ℕ) → Lacks found c → ((k : ℕ) → k < i → is_corner c (get_or xs k no_corner) ≡ false) → Lacks (with_corners found (take i xs)) c
lacks_all found [] c zero none others = none
lacks_all found [] c (suc i) none others = none
lacks_all found (x ∷ xs) c zero none others = none
lacks_all found (x ∷ xs) c (suc i) none others = lacks_all (with_corner found x) xs c i (lacks_still found c x none (others 0 (omega arith))) (λ k before. others (suc k) (omega (arith, before)))

has_all : (found xs : List Corner) (c : Corner) → Has found c → (region_at_corner (with_corners found xs) c ≡ region_at_corner found c) × Has (with_corners found xs) c
has_all found [] c some = (refl, some)
has_all found (x ∷ xs) c some =
    let one = has_still found c x some in
    let rest = has_all (with_corner found x) xs c one.1 in
    (rest.0 ∙ one.0, rest.1)

-- a corner is among them from its place on
has_itself : (found : List Corner) (c : Corner) → Has (with_corner found c) c
has_itself found c = elim (cases_lt (region_at_corner found c) (length found)) [
  | inl some ↦ (has_still found c c some).1
  | inr not_ ↦ let new = has_new found c (omega (arith, not_, first_within found c)) in omega (arith, new.0, new.1)
]

has_from : (found xs : List Corner) (c : Corner) (i j : ℕ) → j < i → j < length xs → c ≡ get_or xs j no_corner → Has (with_corners found (take i xs)) c
has_from found [] c i j before within is = absurd (omega (arith, within))
has_from found (x ∷ xs) c zero j before within is = absurd (omega (arith, before))
has_from found (x ∷ xs) c (suc i) zero before within is = (has_all (with_corner found x) (take i xs) c (subst (λ (d : Corner). Has (with_corner found d) c) is (has_itself found c))).1
has_from found (x ∷ xs) c (suc i) (suc j) before within is = has_from (with_corner found x) xs c i j (omega (arith, before)) (omega (arith, within)) is

-- the next one
with_next : (found xs : List Corner) (i : ℕ) → i < length xs → with_corners found (take (i + 1) xs) ≡ with_corner (with_corners found (take i xs)) (get_or xs i no_corner)
with_next found xs i within = rw add-one (with_suc found xs i within)
  where
    with_suc : (found xs : List Corner) (i : ℕ) → i < length xs → with_corners found (take (suc i) xs) ≡ with_corner (with_corners found (take i xs)) (get_or xs i no_corner)
    with_suc found [] i within = absurd (omega (arith, within))
    with_suc found (x ∷ xs) zero within = refl
    with_suc found (x ∷ xs) (suc i) within = with_suc (with_corner found x) xs i (omega (arith, within))

-- ---- regions

-- how many regions the first so many files have
abbrev pub regions_before : List Corner → ℕ → ℕ
regions_before xs i = length (with_corners [] (take i xs))

module _ (xs : List Corner) (i : ℕ) (c : Corner) (within : i < length xs) (is : c ≡ get_or xs i no_corner) where
  pub one_region_more : region_at_corner xs c ≡ i → regions_before xs (i + 1) ≡ regions_before xs i + 1
  one_region_more first =
      let none = lacks_all [] xs c i refl (λ k before. fails_before_first (is_corner c) xs k no_corner (omega (arith, before, first))) in
      ap (λ (l : List Corner). length l) (with_next [] xs i within ∙ ap (with_corner (with_corners [] (take i xs))) (sym is)) ∙ (has_new (with_corners [] (take i xs)) c none).1

  -- a corner comes first where it stands, or before
  no_later : region_at_corner xs c ≤ i
  no_later = elim (cases_lt i (region_at_corner xs c)) [
    | inl behind ↦ let no : true ≡ false = sym (itself c) ∙ ap (is_corner c) is ∙ fails_before_first (is_corner c) xs i no_corner behind in absurd (cc)
    | inr not_ ↦ not_
  ]

  pub no_region_more : region_at_corner xs c ≢ i → regions_before xs (i + 1) ≡ regions_before xs i
  no_region_more other =
      let j = region_at_corner xs c in
      let before : region_at_corner xs c < i = omega (arith, no_later, other) in
      let there : c ≡ get_or xs (region_at_corner xs c) no_corner = is_same c (get_or xs (region_at_corner xs c) no_corner) (passes_at_first (is_corner c) xs no_corner (omega (arith, before, within))) in
      let some = has_from [] xs c i (region_at_corner xs c) before (omega (arith, before, within)) there in
      let found = with_corners [] (take i xs) in
      let same : with_corner found c ≡ found = new_or_known found c false (ne_eqb (region_at_corner found c) (length found) (λ all. omega (arith, all, some))) in
      ap (λ (l : List Corner). length l) (with_next [] xs i within ∙ ap (with_corner found) (sym is) ∙ same)

-- a file's region is how many those before the first file with its corner have
pub region_counted : (xs : List Corner) (c : Corner) → region_at_corner xs c < length xs → region_at_corner (with_corners [] xs) c ≡ regions_before xs (region_at_corner xs c)
region_counted xs c there =
    counted [] xs c (region_at_corner xs c) there refl (λ k before. fails_before_first (is_corner c) xs k no_corner before)
    (is_same c (get_or xs (region_at_corner xs c) no_corner) (passes_at_first (is_corner c) xs no_corner there))
  where
    counted : (found xs : List Corner) (c : Corner) (j : ℕ) → j < length xs → Lacks found c → ((k : ℕ) → k < j → is_corner c (get_or xs k no_corner) ≡ false) → c ≡ get_or xs j no_corner
        → region_at_corner (with_corners found xs) c ≡ length (with_corners found (take j xs))
    counted found [] c j within none others is = absurd (omega (arith, within))
    counted found (x ∷ xs) c zero within none others is =
        let new = has_new found c none in
        let first : (region_at_corner (with_corner found x) c ≡ length found) × Has (with_corner found x) c = subst (λ (d : Corner). (region_at_corner (with_corner found d) c ≡ length found) × Has (with_corner found d) c) is (new.0, omega (arith, new.0, new.1)) in
        (has_all (with_corner found x) xs c first.1).0 ∙ first.0
    counted found (x ∷ xs) c (suc j) within none others is =
        counted (with_corner found x) xs c j (omega (arith, within)) (lacks_still found c x none (others 0 (omega arith))) (λ k before. others (suc k) (omega (arith, before))) is

-- ---- the corners of words

-- those before it are others
abbrev pub OthersBefore : List Corner → Corner → ℕ → Type 0
OthersBefore xs c i = (j : ℕ) (d : Corner) → j < i → is_corner c (get_or xs j d) ≡ false

pub others_more : (xs : List Corner) (c x : Corner) (i : ℕ) → OthersBefore xs c i → slice_get xs i ≡ Some x → is_corner x c ≡ false → OthersBefore xs c (i + 1)
others_more xs c x i others at other j d before = elim (cases_lt j i) [
  | inl earlier ↦ others j d earlier
  | inr not_ ↦ let same : j ≡ i = omega (arith, before, not_) in ap (λ (n : ℕ). is_corner c (get_or xs n d)) same ∙ ap (is_corner c) (get_or_from_slice_get xs i x d at) ∙ turned c x false other
]

pub first_so : (xs : List Corner) (k i : ℕ) (c x : Corner) → slice_get xs k ≡ Some c → OthersBefore xs c i → slice_get xs i ≡ Some x → is_corner x c ≡ true → IfSome (slice_get xs k) (λ corner. i ≡ region_at_corner xs corner)
first_so xs k i c x at others here same =
    rw at (sym (position_or_len_is (is_corner c) xs i no_corner (omega (arith, slice_get_within xs i x here)) (λ j before. others j no_corner before) (λ within. ap (is_corner c) (get_or_from_slice_get xs i x no_corner here) ∙ turned c x true same)))

-- ---- how many regions the words before one have

first_at : (xs : List Corner) (i r : ℕ) → i < length xs → IfSome (slice_get xs i) (λ corner. r ≡ region_at_corner xs corner) → r ≡ region_at_corner xs (get_or xs i no_corner)
first_at xs i r within first = rw (slice_get-get_or xs i no_corner within) at first

pub counted_more : (xs : List Corner) (i r region : ℕ) → i < length xs → IfSome (slice_get xs i) (λ corner. r ≡ region_at_corner xs corner) → region ≡ regions_before xs i → r ≡ i → region + 1 ≡ regions_before xs (i + 1)
counted_more xs i r region within first so_far here =
    omega (arith, so_far, one_region_more xs i (get_or xs i no_corner) within refl (sym (first_at xs i r within first) ∙ here))

pub counted_same : (xs : List Corner) (i r region : ℕ) → i < length xs → IfSome (slice_get xs i) (λ corner. r ≡ region_at_corner xs corner) → region ≡ regions_before xs i → r ≢ i → region ≡ regions_before xs (i + 1)
counted_same xs i r region within first so_far other =
    omega (arith, so_far, no_region_more xs i (get_or xs i no_corner) within refl (λ here. other (first_at xs i r within first ∙ here)))

-- those before the first with the corner of one are its region
pub region_there : (xs : List Corner) (k first region : ℕ) → k < length xs → IfSome (slice_get xs k) (λ corner. first ≡ region_at_corner xs corner) → region ≡ regions_before xs first
    → Some region ≡ slice_get (map (region_at_corner (with_corners [] xs)) xs) k
region_there xs k first region within is so_far =
    let c = get_or xs k no_corner in
    let place : first ≡ region_at_corner xs c = first_at xs k first within is in
    let low : region_at_corner xs c < length xs = omega (arith, within, no_later xs k c within refl) in
    let number : region ≡ region_at_corner (with_corners [] xs) c = so_far ∙ ap (regions_before xs) place ∙ sym (region_counted xs c low) in
    ap (λ (n : ℕ). let o : Option ℕ = Some n in o) number
    ∙ sym (slice_get-map (region_at_corner (with_corners [] xs)) xs k ∙ ap (option_map (region_at_corner (with_corners [] xs))) (slice_get-get_or xs k no_corner within))
