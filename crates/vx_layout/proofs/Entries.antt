-- The entry points of a slice, counted without its CTUs.
use Rattle.std.proofs.Common.{◌≡◌, ℕ, ◌+◌, ◌-◌, ◌*◌, ◌<◌, ◌≤◌, min, Bool, true, false, ◌&&◌, ltb, List, [], ◌∷◌, ◌++◌, length, filter, map, refl, ap, sym, ◌∙◌, inl, inr, arith, ◌⊎◌}
use Rattle.std.proofs.lemmas.Bool.{cases_Bool, and_from, and_left, and_right, false_from_ne_true, le-ltb}
use Rattle.std.proofs.lemmas.List.Elements.{filter-append}
use Rattle.std.proofs.lemmas.List.Folds.{flat_map-map}
use Rattle.std.specs.List.{flat_map, sum_by, AllByRecursion as Each}
use Rattle.vx_layout.specs.declared.rect.Rect.{Rect}
use Rattle.vx_layout.specs.Bounds.{Rises, last}
use Rattle.vx_layout.specs.Rects.{holds}
use Rattle.vx_layout.specs.Regions.{inner}
use Rattle.vx_layout.specs.Scan.{runs, raster, tile_scan, ctus, tile_bound, starts_entry, changes, entries}
use Rattle.vx_layout.proofs.Holding.{holds_tells}
use Rattle.vx_layout.proofs.Parts.{Distinct, Keyed, changes-parts, parts, parts-rows, rows_of}
use Rattle.vx_layout.proofs.Runs.{is_in, Keyed-runs, Distinct-runs, sum-lengths, runs-met}

pub filter_none : {X : Type 0} (p : X → Bool) (xs : List X) → ((x : X) → p x ≡ false) → filter p xs ≡ []
filter_none p [] f = refl
filter_none p (x ∷ xs) f = rw (f x) (filter_none p xs f)

pub filter-flat_map : {X Y : Type 0} (p : Y → Bool) (f : X → List Y) (xs : List X) → filter p (flat_map f xs) ≡ flat_map (λ x. filter p (f x)) xs
filter-flat_map p f [] = refl
filter-flat_map p f (x ∷ xs) = filter-append p (f x) (flat_map f xs) ∙ ap (λ t. filter p (f x) ++ t) (filter-flat_map p f xs)

pub flat_map-same : {X Y : Type 0} (f g : X → List Y) (xs : List X) → ((x : X) → f x ≡ g x) → flat_map f xs ≡ flat_map g xs
flat_map-same f g [] e = refl
flat_map-same f g (x ∷ xs) e = ap (λ t. t ++ flat_map f xs) (e x) ∙ ap (λ t. g x ++ t) (flat_map-same f g xs e)

-- the test of a rectangle, by column and by row
holds_is : (r : Rect) (x y : ℕ) → holds r x y ≡ (is_in r.x (r.x + r.w) x && is_in r.y (r.y + r.h) y)
unfolding holds
holds_is r x y = refl

filter-row : (r : Rect) (y : ℕ) (xs : List ℕ) → is_in r.y (r.y + r.h) y ≡ true → filter (λ (c : ℕ × ℕ). holds r c.0 c.1) (map (λ x. (x, y)) xs) ≡ map (λ x. (x, y)) (filter (is_in r.x (r.x + r.w)) xs)
filter-row r y [] on = refl
filter-row r y (x ∷ xs) on =
    let rest : filter (λ (c : ℕ × ℕ). holds r c.0 c.1) (map (λ x. (x, y)) xs) ≡ map (λ x. (x, y)) (filter (is_in r.x (r.x + r.w)) xs) = filter-row r y xs on in
    elim (cases_Bool (is_in r.x (r.x + r.w) x)) [
      | inl here ↦
          let yes_here : holds r x y ≡ true = holds_is r x y ∙ and_from _ _ here on in
          rw (yes_here, here) (ap (λ t. (x, y) ∷ t) rest)
      | inr off ↦
          let not_here : holds r x y ≡ false = holds_is r x y ∙ and_left _ _ off in
          rw (not_here, off) rest
    ]

filter-off : (r : Rect) (y : ℕ) (xs : List ℕ) → is_in r.y (r.y + r.h) y ≡ false → filter (λ (c : ℕ × ℕ). holds r c.0 c.1) (map (λ x. (x, y)) xs) ≡ []
filter-off r y [] off = refl
filter-off r y (x ∷ xs) off =
    let not_here : holds r x y ≡ false = holds_is r x y ∙ and_right _ _ off in
    rw not_here (filter-off r y xs off)

filter-raster : (r : Rect) (xs ys : List ℕ) → filter (λ (c : ℕ × ℕ). holds r c.0 c.1) (raster xs ys) ≡ raster (filter (is_in r.x (r.x + r.w)) xs) (filter (is_in r.y (r.y + r.h)) ys)
filter-raster r xs [] = refl
filter-raster r xs (y ∷ ys) =
    let p : ℕ × ℕ → Bool = λ c. holds r c.0 c.1 in
    let rest : filter p (raster xs ys) ≡ raster (filter (is_in r.x (r.x + r.w)) xs) (filter (is_in r.y (r.y + r.h)) ys) = filter-raster r xs ys in
    let split : filter p (raster xs (y ∷ ys)) ≡ filter p (map (λ x. (x, y)) xs) ++ filter p (raster xs ys) = filter-append p (map (λ x. (x, y)) xs) (raster xs ys) in
    elim (cases_Bool (is_in r.y (r.y + r.h) y)) [
      | inl here ↦ rw here (split ∙ (ap (λ t. t ++ filter p (raster xs ys)) (filter-row r y xs here) ∙ ap (λ t. map (λ x. (x, y)) (filter (is_in r.x (r.x + r.w)) xs) ++ t) rest))
      | inr off ↦
          let none : filter p (map (λ x. (x, y)) xs) ≡ [] = filter-off r y xs off in
          rw off (split ∙ (ap (λ t. t ++ filter p (raster xs ys)) none ∙ rest))
    ]

-- the CTUs of a slice, by the runs cut to its rectangle
pub ctus-runs : (columns rows : List ℕ) (r : Rect) →
    ctus columns rows r ≡ flat_map (λ ys. flat_map (λ xs. raster xs ys) (map (filter (is_in r.x (r.x + r.w))) (runs columns))) (map (filter (is_in r.y (r.y + r.h))) (runs rows))
ctus-runs columns rows r =
    let p : ℕ × ℕ → Bool = λ c. holds r c.0 c.1 in
    let in_x : List ℕ → List ℕ = filter (is_in r.x (r.x + r.w)) in
    let in_y : List ℕ → List ℕ = filter (is_in r.y (r.y + r.h)) in
    let row : (ys : List ℕ) → filter p (flat_map (λ xs. raster xs ys) (runs columns)) ≡ flat_map (λ xs. raster xs (in_y ys)) (map in_x (runs columns)) = λ ys.
    filter-flat_map p (λ xs. raster xs ys) (runs columns)
    ∙ (flat_map-same (λ xs. filter p (raster xs ys)) (λ xs. raster (in_x xs) (in_y ys)) (runs columns) (λ xs. filter-raster r xs ys)
    ∙ sym (flat_map-map (λ xs. raster xs (in_y ys)) in_x (runs columns)))
    in
    filter-flat_map p (λ ys. flat_map (λ xs. raster xs ys) (runs columns)) (runs rows)
    ∙ (flat_map-same (λ ys. filter p (flat_map (λ xs. raster xs ys) (runs columns))) (λ ys. flat_map (λ xs. raster xs (in_y ys)) (map in_x (runs columns))) (runs rows) row
    ∙ sym (flat_map-map (λ ys. flat_map (λ xs. raster xs ys) (map in_x (runs columns))) in_y (runs rows)))

-- the rows, or the tile rows, that a slice has a part in
unfoldable pub rows_met : Bool → List ℕ → ℕ → ℕ → ℕ
rows_met true rows from size = size
rows_met false rows from size = length (inner rows from size) + 1

-- a rectangle meets one tile column more than bounds pass through it
columns_met : (columns : List ℕ) (from size : ℕ) → Rises columns → 0 < size → from + size ≤ last columns → sum_by (λ xs. min 1 (length xs)) (map (filter (is_in from (from + size))) (runs columns)) ≡ length (inner columns from size) + 1
columns_met [] from size rises some upto = absurd (omega arith)
columns_met (a ∷ bs) from size rises some upto =
    let first : a ≡ 0 = rises.0 in
    let skip : (ltb from a && ltb a (from + size)) ≡ false = and_left (ltb from a) (ltb a (from + size)) (le-ltb from a (omega arith)) in
    rw skip (runs-met from (from + size) a bs (omega arith) rises.1 (omega arith) upto)

lines_met : (rows : List ℕ) (from size : ℕ) → Rises rows → from + size ≤ last rows → sum_by length (map (filter (is_in from (from + size))) (runs rows)) ≡ size
lines_met [] from size rises upto = omega arith
lines_met (a ∷ bs) from size rises upto =
    let first : a ≡ 0 = rises.0 in
    sum-lengths from (from + size) a bs (omega arith) rises.1 ∙ omega arith

rows_met-is : (sync : Bool) (rows : List ℕ) (from size : ℕ) → Rises rows → 0 < size → from + size ≤ last rows → sum_by (rows_of sync) (map (filter (is_in from (from + size))) (runs rows)) ≡ rows_met sync rows from size
unfolding rows_met rows_of
rows_met-is true rows from size rises some upto = lines_met rows from size rises upto
rows_met-is false rows from size rises some upto = columns_met rows from size rises some upto

keyed : (t : ℕ → Bool) (bounds : List ℕ) → Rises bounds → Keyed (tile_bound bounds) (map (filter t) (runs bounds))
keyed t [] rises = tt
keyed t (a ∷ bs) rises = Keyed-runs (tile_bound (a ∷ bs)) t a bs rises.1 (λ z h. refl)

distinct : (t : ℕ → Bool) (bounds : List ℕ) → Each Distinct (map (filter t) (runs bounds))
distinct t [] = tt
distinct t (a ∷ bs) = Distinct-runs t a bs

-- the number of entry points of a slice that lies in the picture
pub entries-is : (columns rows : List ℕ) (r : Rect) (sync : Bool) → Rises columns → Rises rows → 0 < r.w → 0 < r.h → r.x + r.w ≤ last columns → r.y + r.h ≤ last rows →
    entries columns rows r sync ≡ (length (inner columns r.x r.w) + 1) * rows_met sync rows r.y r.h - 1
unfolding entries
entries-is columns rows r sync rises_c rises_r wide high across down =
    let d = starts_entry (tile_bound columns) (tile_bound rows) sync in
    let XS : List (List ℕ) = map (filter (is_in r.x (r.x + r.w))) (runs columns) in
    let YS : List (List ℕ) = map (filter (is_in r.y (r.y + r.h))) (runs rows) in
    let whole : parts d (ctus columns rows r) ≡ sum_by (λ xs. min 1 (length xs)) XS * sum_by (rows_of sync) YS =
    ap (λ t. parts d t) (ctus-runs columns rows r)
    ∙ parts-rows (tile_bound columns) (tile_bound rows) sync XS YS (keyed (is_in r.x (r.x + r.w)) columns rises_c) (keyed (is_in r.y (r.y + r.h)) rows rises_r) (distinct (is_in r.y (r.y + r.h)) rows)
    in
    changes-parts d (ctus columns rows r)
    ∙ ap (λ n. n - 1)
    (whole
    ∙ (ap (λ n. n * sum_by (rows_of sync) YS) (columns_met columns r.x r.w rises_c wide across)
    ∙ ap (λ n. (length (inner columns r.x r.w) + 1) * n) (rows_met-is sync rows r.y r.h rises_r high down)))

-- a rectangle without a CTU has no CTUs
pub ctus-none : (columns rows : List ℕ) (r : Rect) → (r.w ≡ 0) ⊎ (r.h ≡ 0) → ctus columns rows r ≡ []
ctus-none columns rows r empty =
    filter_none (λ (c : ℕ × ℕ). holds r c.0 c.1) (tile_scan columns rows)
    (λ c. false_from_ne_true _ (λ on. let p = holds_tells r c.0 c.1 on in elim empty [ inl e ↦ omega (arith, p) | inr e ↦ omega (arith, p) ]))

pub entries-empty : (columns rows : List ℕ) (r : Rect) (sync : Bool) → (r.w ≡ 0) ⊎ (r.h ≡ 0) → entries columns rows r sync ≡ 0
unfolding entries
entries-empty columns rows r sync empty =
    ap (λ t. changes (starts_entry (tile_bound columns) (tile_bound rows) sync) t) (ctus-none columns rows r empty)

pub rows_met-sync : (rows : List ℕ) (from size : ℕ) → rows_met true rows from size ≡ size
unfolding rows_met
rows_met-sync rows from size = refl

pub rows_met-plain : (rows : List ℕ) (from size : ℕ) → rows_met false rows from size ≡ length (inner rows from size) + 1
unfolding rows_met
rows_met-plain rows from size = refl
