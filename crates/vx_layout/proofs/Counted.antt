-- The CTUs of a region's slices are those of the subpicture's, counted from its corner.
use Rattle.std.proofs.Common.{◌≡◌, ℕ, suc, zero, ◌+◌, ◌-◌, ◌<◌, ◌≤◌, min, max, true, false, cond, ◌&&◌, ltb, leb, List, [], ◌∷◌, ◌++◌, length, get_or, filter, map, refl, ap, sym, ◌∙◌, inl, inr, arith, ◌⊎◌}
use Rattle.std.proofs.lemmas.Bool.{and_from, and_left, and_right, cases_lt, le-leb, le-ltb, lt-leb, lt-ltb}
use Rattle.std.proofs.lemmas.List.{get_or-map, map-append}
use Rattle.std.specs.List.{flat_map, range_with_len}
use Rattle.vx_layout.specs.declared.numbers.Numbers.{Numbers}
use Rattle.vx_layout.specs.declared.rect.Rect.{Rect}
use Rattle.vx_layout.specs.Bounds.{Rises, RisesAbove, last, last_after}
use Rattle.vx_layout.specs.Layouts.{HasLayout, no_rect, slice_at, slices_in, subpic_at}
use Rattle.vx_layout.specs.Rects.{IsPart, fits}
use Rattle.vx_layout.specs.Regions.{counted_from, cut_bounds, moved, region_of}
use Rattle.vx_layout.specs.Scan.{ctus, raster, runs, runs_after}
use Rattle.vx_layout.proofs.Entries.{ctus-none, ctus-runs}
use Rattle.vx_layout.proofs.Holding.{fits_tells}
use Rattle.vx_layout.proofs.Moving.{all_fit, slices_in-region}
use Rattle.vx_layout.proofs.Runs.{is_in, is_inner}

-- the lists that aren't empty
abbrev pub strip : List (List ℕ) → List (List ℕ)
strip [] = []
strip ([] ∷ xss) = strip xss
strip ((x ∷ xs) ∷ xss) = (x ∷ xs) ∷ strip xss

pub strip-empty : (xs : List ℕ) (xss : List (List ℕ)) → xs ≡ [] → strip (xs ∷ xss) ≡ strip xss
strip-empty xs xss e = ap (λ t. strip (t ∷ xss)) e

-- a range cut to another
cut_range : (lo hi a n : ℕ) → filter (is_in lo hi) (range_with_len a n) ≡ range_with_len (max a lo) (min (a + n) hi - max a lo)
cut_range lo hi a zero =
    let none : min (a + zero) hi - max a lo ≡ 0 = omega arith in
    rw none refl
cut_range lo hi a (suc n) =
    let rest : filter (is_in lo hi) (range_with_len (a + 1) n) ≡ range_with_len (max (a + 1) lo) (min (a + 1 + n) hi - max (a + 1) lo) = cut_range lo hi (a + 1) n in
    elim (cases_lt a lo) [
      | inl under ↦
          let low : max (a + 1) lo ≡ max a lo = omega arith in
          let end : min (a + 1 + n) hi - max a lo ≡ min (a + suc n) hi - max a lo = omega arith in
          rw (and_left (leb lo a) (ltb a hi) (lt-leb lo a under)) (rest ∙ (ap (λ m. range_with_len m (min (a + 1 + n) hi - m)) low ∙ ap (λ m. range_with_len (max a lo) m) end))
      | inr low ↦
          elim (cases_lt a hi) [
            | inl high ↦
                let at : max a lo ≡ a = omega arith in
                let next : max (a + 1) lo ≡ a + 1 = omega arith in
                let more : min (a + suc n) hi - a ≡ suc (min (a + 1 + n) hi - (a + 1)) = omega arith in
                rw (and_from (leb lo a) (ltb a hi) (le-leb lo a low) (lt-ltb a hi high))
                (rw (at, more) (ap (λ t. a ∷ t) (rest ∙ ap (λ m. range_with_len m (min (a + 1 + n) hi - m)) next)))
            | inr over ↦
                let none : min (a + suc n) hi - max a lo ≡ 0 = omega arith in
                let none_later : min (a + 1 + n) hi - max (a + 1) lo ≡ 0 = omega arith in
                rw (and_right (leb lo a) (ltb a hi) (le-ltb a hi over)) (rw none (rest ∙ ap (λ m. range_with_len (max (a + 1) lo) m) none_later))
          ]
    ]

pub map-range : (from a n : ℕ) → map (λ x. x + from) (range_with_len a n) ≡ range_with_len (a + from) n
map-range from a zero = refl
map-range from a (suc n) =
    let next : a + 1 + from ≡ a + from + 1 = omega arith in
    ap (λ t. (a + from) ∷ t) (map-range from (a + 1) n ∙ ap (λ m. range_with_len m n) next)

-- a run of the picture, cut to a rectangle, is the run of the region that it meets, moved
run_moved : (from lo hi a b p q : ℕ) → from ≤ lo → from ≤ hi → a ≤ b → p ≡ max a from - from → p ≤ q → min b hi ≡ min (q + from) hi →
    filter (is_in lo hi) (range_with_len a (b - a)) ≡ map (λ x. x + from) (filter (is_in (lo - from) (hi - from)) (range_with_len p (q - p)))
run_moved from lo hi a b p q f g up at less end =
    let whole : a + (b - a) ≡ b = omega arith in
    let inner : p + (q - p) ≡ q = omega arith in
    let start : max p (lo - from) + from ≡ max a lo = omega arith in
    let size : min q (hi - from) - max p (lo - from) ≡ min b hi - max a lo = omega arith in
    cut_range lo hi a (b - a)
    ∙ (ap (λ m. range_with_len (max a lo) (min m hi - max a lo)) whole
    ∙ sym
    (ap (λ t. map (λ x. x + from) t) (cut_range (lo - from) (hi - from) p (q - p) ∙ ap (λ m. range_with_len (max p (lo - from)) (min m (hi - from) - max p (lo - from))) inner)
    ∙ (map-range from (max p (lo - from)) (min q (hi - from) - max p (lo - from))
    ∙ (ap (λ m. range_with_len m (min q (hi - from) - max p (lo - from))) start ∙ ap (λ m. range_with_len (max a lo) m) size))))

run_empty : (lo hi a b : ℕ) → a ≤ b → (b ≤ lo) ⊎ (hi ≤ a) → filter (is_in lo hi) (range_with_len a (b - a)) ≡ []
run_empty lo hi a b up out =
    let whole : a + (b - a) ≡ b = omega arith in
    let none : min (a + (b - a)) hi - max a lo ≡ 0 = elim out [ inl e ↦ omega arith | inr e ↦ omega arith ] in
    cut_range lo hi a (b - a) ∙ ap (λ m. range_with_len (max a lo) m) none

-- where two runs are one, moved, and so are the rests, so are both
strip-cons : (from : ℕ) (xs ys : List ℕ) (xss yss : List (List ℕ)) → xs ≡ map (λ x. x + from) ys → strip xss ≡ map (map (λ x. x + from)) (strip yss) → strip (xs ∷ xss) ≡ map (map (λ x. x + from)) (strip (ys ∷ yss))
strip-cons from xs [] xss yss e rest = strip-empty xs xss e ∙ rest
strip-cons from xs (y ∷ ys) xss yss e rest = ap (λ t. strip (t ∷ xss)) e ∙ ap (λ t. map (λ x. x + from) (y ∷ ys) ∷ t) rest

-- no run from hi on is met
strip-beyond : (lo hi a : ℕ) (bs : List ℕ) → RisesAbove a bs → hi ≤ a → strip (map (filter (is_in lo hi)) (runs_after a bs)) ≡ []
strip-beyond lo hi a [] rises past = refl
strip-beyond lo hi a (b ∷ bs) rises past =
    strip-empty (filter (is_in lo hi) (range_with_len a (b - a))) (map (filter (is_in lo hi)) (runs_after b bs)) (run_empty lo hi a b (omega (arith, rises.0)) (inr past))
    ∙ strip-beyond lo hi b bs rises.1 (omega (arith, rises.0))

none_inner : (from to a : ℕ) (bs : List ℕ) → RisesAbove a bs → to ≤ a → filter (is_inner from to) bs ≡ []
none_inner from to a [] rises past = refl
none_inner from to a (b ∷ bs) rises past = rw (and_right (ltb from b) (ltb b to) (le-ltb b to (omega (arith, rises.0)))) (none_inner from to b bs rises.1 (omega (arith, rises.0)))

-- the runs of the picture that a rectangle meets are those of the region, moved
pub runs_moved : (from size lo hi a p : ℕ) (bs : List ℕ) → 0 < size → RisesAbove a bs → from ≤ lo → lo ≤ hi → hi ≤ from + size → a < from + size → from + size ≤ last_after a bs → p ≡ max a from - from →
    strip (map (filter (is_in lo hi)) (runs_after a bs)) ≡ map (map (λ x. x + from)) (strip (map (filter (is_in (lo - from) (hi - from))) (runs_after p (map (λ b. b - from) (filter (is_inner from (from + size)) bs) ++ size ∷ []))))
runs_moved from size lo hi a p [] some rises f g h under upto at = absurd (omega arith)
runs_moved from size lo hi a p (b ∷ bs) some rises f g h under upto at =
    let up : a < b = rises.0 in
    let rest_runs : List (List ℕ) = map (filter (is_in lo hi)) (runs_after b bs) in
    elim (cases_lt from b) [
      | inr before ↦
          let same : p ≡ max b from - from = omega arith in
          rw (and_left (ltb from b) (ltb b (from + size)) (le-ltb from b before))
          (strip-empty (filter (is_in lo hi) (range_with_len a (b - a))) rest_runs (run_empty lo hi a b (omega arith) (inl (omega arith)))
          ∙ runs_moved from size lo hi b p bs some rises.1 f g h (omega arith) upto same)
      | inl past ↦
          elim (cases_lt b (from + size)) [
            | inl inside ↦
                let next : b - from ≡ max b from - from = omega arith in
                rw (and_from (ltb from b) (ltb b (from + size)) (lt-ltb from b past) (lt-ltb b (from + size) inside))
                (strip-cons from (filter (is_in lo hi) (range_with_len a (b - a))) (filter (is_in (lo - from) (hi - from)) (range_with_len p (b - from - p))) rest_runs
                (map (filter (is_in (lo - from) (hi - from))) (runs_after (b - from) (map (λ b. b - from) (filter (is_inner from (from + size)) bs) ++ size ∷ [])))
                (run_moved from lo hi a b p (b - from) f (omega arith) (omega arith) at (omega arith) (omega arith))
                (runs_moved from size lo hi b (b - from) bs some rises.1 f g h inside upto next))
            | inr beyond ↦
                rw (and_right (ltb from b) (ltb b (from + size)) (le-ltb b (from + size) beyond), none_inner from (from + size) b bs rises.1 beyond)
                (strip-cons from (filter (is_in lo hi) (range_with_len a (b - a))) (filter (is_in (lo - from) (hi - from)) (range_with_len p (size - p))) rest_runs []
                (run_moved from lo hi a b p size f (omega arith) (omega arith) at (omega arith) (omega arith))
                (strip-beyond lo hi b bs rises.1 (omega arith)))
          ]
    ]

-- joined, the lists that aren't empty are all that counts
strip-flat_map : {C : Type 0} (f : List ℕ → List C) → f [] ≡ [] → (xss : List (List ℕ)) → flat_map f xss ≡ flat_map f (strip xss)
strip-flat_map f none [] = refl
strip-flat_map f none ([] ∷ xss) = ap (λ t. t ++ flat_map f xss) none ∙ strip-flat_map f none xss
strip-flat_map f none ((x ∷ xs) ∷ xss) = ap (λ t. f (x ∷ xs) ++ t) (strip-flat_map f none xss)

raster-none : (ys : List ℕ) → raster [] ys ≡ []
raster-none [] = refl
raster-none (y ∷ ys) = raster-none ys

tiles-none : (xss : List (List ℕ)) → flat_map (λ xs. raster xs []) xss ≡ []
tiles-none [] = refl
tiles-none (xs ∷ xss) = tiles-none xss

row-moved : (a b y : ℕ) (xs : List ℕ) → map (λ x. (x, y + b)) (map (λ x. x + a) xs) ≡ map (moved a b) (map (λ x. (x, y)) xs)
row-moved a b y [] = refl
row-moved a b y (x ∷ xs) = ap (λ t. (x + a, y + b) ∷ t) (row-moved a b y xs)

raster-moved : (a b : ℕ) (xs ys : List ℕ) → raster (map (λ x. x + a) xs) (map (λ y. y + b) ys) ≡ map (moved a b) (raster xs ys)
raster-moved a b xs [] = refl
raster-moved a b xs (y ∷ ys) =
    ap (λ t. t ++ raster (map (λ x. x + a) xs) (map (λ z. z + b) ys)) (row-moved a b y xs)
    ∙ (ap (λ t. map (moved a b) (map (λ x. (x, y)) xs) ++ t) (raster-moved a b xs ys) ∙ sym (map-append (moved a b) (map (λ x. (x, y)) xs) (raster xs ys)))

flat_map-moved : (a b : ℕ) (f g : List ℕ → List (ℕ × ℕ)) (h : List ℕ → List ℕ) → ((xs : List ℕ) → f (h xs) ≡ map (moved a b) (g xs)) → (xss : List (List ℕ)) → flat_map f (map h xss) ≡ map (moved a b) (flat_map g xss)
flat_map-moved a b f g h each [] = refl
flat_map-moved a b f g h each (xs ∷ xss) =
    ap (λ t. t ++ flat_map f (map h xss)) (each xs)
    ∙ (ap (λ t. map (moved a b) (g xs) ++ t) (flat_map-moved a b f g h each xss) ∙ sym (map-append (moved a b) (g xs) (flat_map g xss)))

-- the CTUs of runs that are others, moved
scan-moved : (a b : ℕ) (XS YS US VS : List (List ℕ)) → strip XS ≡ map (map (λ x. x + a)) (strip US) → strip YS ≡ map (map (λ y. y + b)) (strip VS) →
    flat_map (λ ys. flat_map (λ xs. raster xs ys) XS) YS ≡ map (moved a b) (flat_map (λ ys. flat_map (λ xs. raster xs ys) US) VS)
scan-moved a b XS YS US VS e f =
    let row : (ys : List ℕ) → flat_map (λ xs. raster xs (map (λ y. y + b) ys)) XS ≡ map (moved a b) (flat_map (λ xs. raster xs ys) US) = λ ys.
    strip-flat_map (λ xs. raster xs (map (λ y. y + b) ys)) (raster-none (map (λ y. y + b) ys)) XS
    ∙ (ap (λ t. flat_map (λ xs. raster xs (map (λ y. y + b) ys)) t) e
    ∙ (flat_map-moved a b (λ xs. raster xs (map (λ y. y + b) ys)) (λ xs. raster xs ys) (map (λ x. x + a)) (λ xs. raster-moved a b xs ys) (strip US)
    ∙ ap (λ t. map (moved a b) t) (sym (strip-flat_map (λ xs. raster xs ys) (raster-none ys) US))))
    in
    strip-flat_map (λ ys. flat_map (λ xs. raster xs ys) XS) (tiles-none XS) YS
    ∙ (ap (λ t. flat_map (λ ys. flat_map (λ xs. raster xs ys) XS) t) f
    ∙ (flat_map-moved a b (λ ys. flat_map (λ xs. raster xs ys) XS) (λ ys. flat_map (λ xs. raster xs ys) US) (map (λ y. y + b)) row (strip VS)
    ∙ ap (λ t. map (moved a b) t) (sym (strip-flat_map (λ ys. flat_map (λ xs. raster xs ys) US) (tiles-none US) VS))))

-- the runs along one axis
axis_moved : (bounds : List ℕ) (from size lo len : ℕ) → Rises bounds → 0 < size → from ≤ lo → lo + len ≤ from + size → from + size ≤ last bounds →
    strip (map (filter (is_in lo (lo + len))) (runs bounds)) ≡ map (map (λ x. x + from)) (strip (map (filter (is_in (lo - from) (lo - from + len))) (runs (cut_bounds bounds from size))))
axis_moved [] from size lo len rises some f h upto = absurd (omega arith)
axis_moved (a ∷ bs) from size lo len rises some f h upto =
    let first : a ≡ 0 = rises.0 in
    let start : 0 ≡ max a from - from = omega arith in
    let skip : (ltb from a && ltb a (from + size)) ≡ false = and_left (ltb from a) (ltb a (from + size)) (le-ltb from a (omega arith)) in
    let end : lo + len - from ≡ lo - from + len = omega arith in
    runs_moved from size lo (lo + len) a 0 bs some rises.1 f (omega arith) h (omega arith) upto start
    ∙ (ap (λ m. map (map (λ x. x + from)) (strip (map (filter (is_in (lo - from) m)) (runs_after 0 (map (λ b. b - from) (filter (is_inner from (from + size)) bs) ++ size ∷ []))))) end
    ∙ ap (λ t. map (map (λ x. x + from)) (strip (map (filter (is_in (lo - from) (lo - from + len))) (runs_after 0 (map (λ b. b - from) t ++ size ∷ []))))) (sym (ap (λ t. cond t (a ∷ filter (is_inner from (from + size)) bs) (filter (is_inner from (from + size)) bs)) skip)))

-- the CTUs of a slice in a subpicture s
pub ctus-counted : (columns rows : List ℕ) (s r : Rect) → Rises columns → Rises rows → IsPart (last columns) (last rows) s → fits r s ≡ true →
    ctus columns rows r ≡ map (moved s.x s.y) (ctus (cut_bounds columns s.x s.w) (cut_bounds rows s.y s.h) (counted_from s r))
ctus-counted columns rows s r rises_c rises_r part f =
    elim (fits_tells r s f) [
      | inl empty ↦ ctus-none columns rows r empty ∙ ap (λ t. map (moved s.x s.y) t) (sym (ctus-none (cut_bounds columns s.x s.w) (cut_bounds rows s.y s.h) (counted_from s r) empty))
      | inr q ↦
          ctus-runs columns rows r
          ∙ (scan-moved s.x s.y (map (filter (is_in r.x (r.x + r.w))) (runs columns)) (map (filter (is_in r.y (r.y + r.h))) (runs rows))
          (map (filter (is_in (r.x - s.x) (r.x - s.x + r.w))) (runs (cut_bounds columns s.x s.w))) (map (filter (is_in (r.y - s.y) (r.y - s.y + r.h))) (runs (cut_bounds rows s.y s.h)))
          (axis_moved columns s.x s.w r.x r.w rises_c part.wide q.0 q.1 part.across) (axis_moved rows s.y s.h r.y r.h rises_r part.high q.2 q.3 part.down)
          ∙ ap (λ t. map (moved s.x s.y) t) (sym (ctus-runs (cut_bounds columns s.x s.w) (cut_bounds rows s.y s.h) (counted_from s r))))
    ]

-- slice m of the region is slice m of the subpicture, counted from its corner
pub slice_at-region : (n : Numbers) (k m : ℕ) → m < length (slices_in n k) → slice_at (region_of n k) 0 m ≡ counted_from (subpic_at n k) (slice_at n k m)
slice_at-region n k m low =
    ap (λ t. get_or t m no_rect) (slices_in-region n k)
    ∙ get_or-map (counted_from (subpic_at n k)) (slices_in n k) m no_rect no_rect low

pub ctus-region : (n : Numbers) (k m : ℕ) → HasLayout n → k < length n.subpics → m < length (slices_in n k) →
    ctus n.columns n.rows (slice_at n k m) ≡ map (moved (subpic_at n k).x (subpic_at n k).y) (ctus (region_of n k).columns (region_of n k).rows (slice_at (region_of n k) 0 m))
ctus-region n k m layout short low =
    ctus-counted n.columns n.rows (subpic_at n k) (slice_at n k m) layout.columns layout.rows (layout.faultless.subpics.parts k no_rect short) (all_fit n k m no_rect low)
    ∙ ap (λ r. map (moved (subpic_at n k).x (subpic_at n k).y) (ctus (region_of n k).columns (region_of n k).rows r)) (sym (slice_at-region n k m low))
