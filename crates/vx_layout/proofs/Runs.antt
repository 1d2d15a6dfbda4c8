-- The runs of columns or rows of the tiles, cut to a rectangle.
use Rattle.std.proofs.Common.{◌≡◌, ◌≢◌, ℕ, suc, zero, ◌+◌, ◌-◌, ◌<◌, ◌≤◌, min, max, Bool, true, false, cond, ◌&&◌, ltb, leb, List, [], ◌∷◌, length, filter, map, refl, ap, ◌∙◌, inl, inr, arith}
use Rattle.std.proofs.lemmas.Bool.{cases_lt, le-leb, lt-leb, lt-ltb, le-ltb, and_from, and_left, and_right}
use Rattle.std.proofs.lemmas.List.Sums.{sum_by-cons}
use Rattle.std.specs.List.{range_with_len, sum_by, AllByRecursion as Each}
use Rattle.vx_layout.specs.Bounds.{RisesAbove, last_after}
use Rattle.vx_layout.specs.Scan.{runs_after, tile_bound_after}
use Rattle.vx_layout.proofs.Parts.{Distinct, Each-filter, Each-weaker, Keyed}

-- whether a number is from lo on and below hi
abbrev pub is_in : ℕ → ℕ → ℕ → Bool
is_in lo hi x = leb lo x && ltb x hi

-- whether it is strictly between
abbrev pub is_inner : ℕ → ℕ → ℕ → Bool
is_inner lo hi b = ltb lo b && ltb b hi

range_from : (a n low : ℕ) → low ≤ a → Each (λ x. (low ≤ x) × (x < a + n)) (range_with_len a n)
range_from a zero low h = tt
range_from a (suc n) low h = ((h, omega arith), Each-weaker (λ x. (low ≤ x) × (x < a + 1 + n)) (λ x. (low ≤ x) × (x < a + suc n)) (λ x p. (p.0, omega (arith, p.1))) (range_with_len (a + 1) n) (range_from (a + 1) n low (omega arith)))

Distinct-filter : (t : ℕ → Bool) (xs : List ℕ) → Distinct xs → Distinct (filter t xs)
Distinct-filter t [] d = tt
Distinct-filter t (x ∷ xs) d =
    elim (t x) as (λ b. Distinct (cond b (x ∷ filter t xs) (filter t xs))) [ true ↦ (Each-filter (λ z. z ≢ x) t xs d.0, Distinct-filter t xs d.1) | false ↦ Distinct-filter t xs d.1 ]

Distinct-range : (a n : ℕ) → Distinct (range_with_len a n)
Distinct-range a zero = tt
Distinct-range a (suc n) = (Each-weaker (λ x. (a + 1 ≤ x) × (x < a + 1 + n)) (λ z. z ≢ a) (λ x p. let low = p.0 in omega arith) (range_with_len (a + 1) n) (range_from (a + 1) n (a + 1) (omega arith)), Distinct-range (a + 1) n)

pub Distinct-runs : (t : ℕ → Bool) (a : ℕ) (bs : List ℕ) → Each Distinct (map (filter t) (runs_after a bs))
Distinct-runs t a [] = tt
Distinct-runs t a (b ∷ bs) = (Distinct-filter t (range_with_len a (b - a)) (Distinct-range a (b - a)), Distinct-runs t b bs)

tile_bound-ge : (a : ℕ) (bs : List ℕ) (z : ℕ) → RisesAbove a bs → a ≤ tile_bound_after a bs z
tile_bound-ge a [] z rises = omega arith
tile_bound-ge a (b ∷ bs) z rises =
    let up : b ≤ tile_bound_after b bs z = tile_bound-ge b bs z rises.1 in
    elim (leb b z) as (λ t. a ≤ cond t (tile_bound_after b bs z) a) [ true ↦ omega (arith, rises.0) | false ↦ omega arith ]

-- what holds of all numbers from a on holds of the runs behind a
Each-runs : (P : ℕ → Type 0) (t : ℕ → Bool) (a : ℕ) (bs : List ℕ) → RisesAbove a bs → ((z : ℕ) → a ≤ z → P z) → Each (λ s. Each P s) (map (filter t) (runs_after a bs))
Each-runs P t a [] rises f = tt
Each-runs P t a (b ∷ bs) rises f = (
  Each-filter P t (range_with_len a (b - a)) (Each-weaker (λ x. (a ≤ x) × (x < a + (b - a))) P (λ x p. f x p.0) (range_with_len a (b - a)) (range_from a (b - a) a (omega arith))),
  Each-runs P t b bs rises.1 (λ z h. f z (omega (arith, rises.0))),
)

-- the bound at which its tile begins is the key of each run
pub Keyed-runs : (key : ℕ → ℕ) (t : ℕ → Bool) (a : ℕ) (bs : List ℕ) → RisesAbove a bs → ((z : ℕ) → a ≤ z → key z ≡ tile_bound_after a bs z) → Keyed key (map (filter t) (runs_after a bs))
Keyed-runs key t a [] rises is = tt
Keyed-runs key t a (b ∷ bs) rises is =
    let above : a < b = rises.0 in
    let later : (z : ℕ) → b ≤ z → key z ≡ tile_bound_after b bs z = λ z h. is z (omega arith) ∙ ap (λ u. cond u (tile_bound_after b bs z) a) (le-leb b z h) in (
      (
        a,
        Each-filter (λ x. key x ≡ a) t (range_with_len a (b - a))
            (Each-weaker (λ x. (a ≤ x) × (x < a + (b - a))) (λ x. key x ≡ a)
            (λ x p. is x p.0 ∙ ap (λ u. cond u (tile_bound_after b bs x) a) (lt-leb b x (omega (arith, p.1)))) (range_with_len a (b - a)) (range_from a (b - a) a (omega arith))),
        Each-runs (λ z. key z ≢ a) t b bs rises.1 (λ z h e. let up = tile_bound-ge b bs z rises.1 in omega (arith, up, later z h, e)),
      ),
      Keyed-runs key t b bs rises.1 later,
    )

-- how many of a run lie in a range
length-run : (lo hi a n : ℕ) → lo ≤ hi → length (filter (is_in lo hi) (range_with_len a n)) ≡ min (a + n) hi - max a lo
length-run lo hi a zero h = omega arith
length-run lo hi a (suc n) h =
    let rest : length (filter (is_in lo hi) (range_with_len (a + 1) n)) ≡ min (a + 1 + n) hi - max (a + 1) lo = length-run lo hi (a + 1) n h in
    elim (cases_lt a lo) [
      | inl under ↦ rw (and_left (leb lo a) (ltb a hi) (lt-leb lo a under)) (omega arith)
      | inr low ↦
          elim (cases_lt a hi) [
            | inl high ↦ rw (and_from (leb lo a) (ltb a hi) (le-leb lo a low) (lt-ltb a hi high)) (omega arith)
            | inr over ↦ rw (and_right (leb lo a) (ltb a hi) (le-ltb a hi over)) (omega arith)
          ]
    ]

run_is : (lo hi a b : ℕ) → lo ≤ hi → a < b → length (filter (is_in lo hi) (range_with_len a (b - a))) ≡ min b hi - max a lo
run_is lo hi a b h less =
    let end : a + (b - a) ≡ b = omega arith in
    length-run lo hi a (b - a) h ∙ ap (λ n. min n hi - max a lo) end

pub last_after-ge : (a : ℕ) (bs : List ℕ) → RisesAbove a bs → a ≤ last_after a bs
last_after-ge a [] rises = omega arith
last_after-ge a (b ∷ bs) rises = omega (arith, rises.0, last_after-ge b bs rises.1)

-- all the numbers in the range are in some run
pub sum-lengths : (lo hi a : ℕ) (bs : List ℕ) → lo ≤ hi → RisesAbove a bs → sum_by length (map (filter (is_in lo hi)) (runs_after a bs)) ≡ min (last_after a bs) hi - max a lo
sum-lengths lo hi a [] h rises = omega arith
sum-lengths lo hi a (b ∷ bs) h rises =
    let rest : sum_by length (map (filter (is_in lo hi)) (runs_after b bs)) ≡ min (last_after b bs) hi - max b lo = sum-lengths lo hi b bs h rises.1 in
    let up : b ≤ last_after b bs = last_after-ge b bs rises.1 in
    sum_by-cons length (filter (is_in lo hi) (range_with_len a (b - a))) (map (filter (is_in lo hi)) (runs_after b bs))
    ∙ (omega (arith, run_is lo hi a b h rises.0, rises.0))

-- no run from hi on has a number in the range, and no bound there is strictly inside
runs-beyond : (lo hi a : ℕ) (bs : List ℕ) → lo ≤ hi → RisesAbove a bs → hi ≤ a → (sum_by (λ xs. min 1 (length xs)) (map (filter (is_in lo hi)) (runs_after a bs)) ≡ 0) × (length (filter (is_inner lo hi) bs) ≡ 0)
runs-beyond lo hi a [] h rises past = (refl, refl)
runs-beyond lo hi a (b ∷ bs) h rises past =
    let rest = runs-beyond lo hi b bs h rises.1 (omega (arith, rises.0)) in (
      sum_by-cons (λ xs. min 1 (length xs)) (filter (is_in lo hi) (range_with_len a (b - a))) (map (filter (is_in lo hi)) (runs_after b bs)) ∙ (omega (arith, run_is lo hi a b h rises.0, rest.0, rises.0)),
      rw (and_right (ltb lo b) (ltb b hi) (le-ltb b hi (omega (arith, rises.0)))) rest.1,
    )

-- the range meets one run more than there are bounds strictly inside it
pub runs-met : (lo hi a : ℕ) (bs : List ℕ) → lo < hi → RisesAbove a bs → a < hi → hi ≤ last_after a bs → sum_by (λ xs. min 1 (length xs)) (map (filter (is_in lo hi)) (runs_after a bs)) ≡ length (filter (is_inner lo hi) bs) + 1
runs-met lo hi a [] h rises under upto = absurd (omega arith)
runs-met lo hi a (b ∷ bs) h rises under upto =
    let f : List ℕ → ℕ = λ xs. min 1 (length xs) in
    let more : sum_by f (map (filter (is_in lo hi)) (runs_after a (b ∷ bs))) ≡ min 1 (length (filter (is_in lo hi) (range_with_len a (b - a)))) + sum_by f (map (filter (is_in lo hi)) (runs_after b bs)) =
    sum_by-cons f (filter (is_in lo hi) (range_with_len a (b - a))) (map (filter (is_in lo hi)) (runs_after b bs))
    in
    let here : length (filter (is_in lo hi) (range_with_len a (b - a))) ≡ min b hi - max a lo = run_is lo hi a b (omega arith) rises.0 in
    let above : a < b = rises.0 in
    elim (cases_lt b hi) [
      | inr past ↦
          let rest = runs-beyond lo hi b bs (omega arith) rises.1 past in
          rw (and_right (ltb lo b) (ltb b hi) (le-ltb b hi past)) (omega (arith, more, rest.0, rest.1))
      | inl inside ↦
          let rest : sum_by f (map (filter (is_in lo hi)) (runs_after b bs)) ≡ length (filter (is_inner lo hi) bs) + 1 = runs-met lo hi b bs h rises.1 inside upto in
          elim (cases_lt lo b) [
            | inl line ↦ rw (and_from (ltb lo b) (ltb b hi) (lt-ltb lo b line) (lt-ltb b hi inside)) (omega (arith, more, rest))
            | inr before ↦ rw (and_left (ltb lo b) (ltb b hi) (le-ltb lo b before)) (omega (arith, more, rest))
          ]
    ]
