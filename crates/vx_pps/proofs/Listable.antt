-- Slices of groups that cover a picture once are listed tile by tile.
use Rattle.std.proofs.Common.{◌≡◌, ℕ, zero, suc, ◌+◌, ◌-◌, ◌<◌, ◌≤◌, true, List, [], ◌∷◌, ◌++◌, length, get_or, count_by, sum, sym, subst, inl, inr, arith, refl, length-append}
use Rattle.std.proofs.lemmas.Bool.{cases_lt}
use Rattle.std.proofs.lemmas.List.{get_or-append_right, get_or_append_left}
use Rattle.std.proofs.lemmas.List.Elements.{All-append, All-cons, All-head, All-nil, All-tail}
use Rattle.std.proofs.lemmas.List.Sums.{sum_by-cons}
use Rattle.std.specs.List.{All}
use Rattle.vx_layout.specs.declared.rect.Rect.{Rect}
use Rattle.vx_layout.specs.Bounds.{Rises, last}
use Rattle.vx_layout.specs.Faults.{IsSpan, IsTile}
use Rattle.vx_layout.specs.Rects.{CoversOnce, fits, holds}
use Rattle.vx_layout.specs.Shapes.{AreListable, AreRowsOf, AreTiles, AreTilesOrRows, HasCtu, StandTogether}
use Rattle.vx_layout.proofs.Counting.{count_by-append, count_by-cons, count_by-some, holds-fits}
use Rattle.vx_layout.proofs.Holding.{fits_from, holds_from, holds_tells}
use Rattle.vx_layout.proofs.Owners.{corner_held}
use Rattle.vx_layout.proofs.Rising.{Contains-le-last, Rises-apart, Rises-level, bound_from}
use Rattle.vx_pps.specs.declared.tiles.Tiles.{Tiles}
use Rattle.vx_pps.specs.Tiles.{IsGrid, block, column, row, tile}
use Rattle.vx_pps.specs.Groups.{Group, cut, slices_of_group, slices_of_all, strips, whole}
use Rattle.vx_pps.specs.inner.Found.{LiesInside}
use Rattle.vx_pps.proofs.Finding.{between, in_picture}
use Rattle.vx_pps.proofs.Named.{Named}
use Rattle.vx_pps.proofs.Runs.{tile_same, tiles_have}

-- tiles with bounds of a picture
pub record AreRising (g : Tiles) : Type 0 where
  pub grid : IsGrid g
  pub columns : Rises g.columns
  pub rows : Rises g.rows

-- ---- shapes

-- from a bound, so many columns or rows on, is a bound
bound_to : (bs : List ℕ) (i n : ℕ) → Rises bs → i + n < length bs → get_or bs i 0 + (get_or bs (i + n) 0 - get_or bs i 0) ≡ get_or bs (i + n) 0
bound_to bs i n rises short = omega (arith, Rises-level bs i (i + n) rises (omega arith) short)

block_tiles : (g : Tiles) (t wide high : ℕ) → AreRising g → column g t + wide < length g.columns → row g t + high < length g.rows → AreTiles g.columns g.rows (block g t wide high)
block_tiles g t wide high rising in_columns in_rows = record {
  left = bound_from g.columns (column g t) _ (omega arith) refl;
  right = bound_from g.columns (column g t + wide) _ in_columns (bound_to g.columns (column g t) wide rising.columns in_columns);
  top = bound_from g.rows (row g t) _ (omega arith) refl;
  bottom = bound_from g.rows (row g t + high) _ in_rows (bound_to g.rows (row g t) high rising.rows in_rows);
}

span_is : (bs : List ℕ) (i : ℕ) → Rises bs → i + 1 < length bs → IsSpan bs (get_or bs i 0) (get_or bs i 0 + (get_or bs (i + 1) 0 - get_or bs i 0))
span_is bs i rises short =
    let end = bound_to bs i 1 rises short in
    let up : get_or bs i 0 < get_or bs (i + 1) 0 = Rises-apart bs i (i + 1) rises (omega arith) short in
    record {
      begins = bound_from bs i _ (omega arith) refl;
      ends = bound_from bs (i + 1) _ short end;
      rises = omega (arith, up);
      next = λ c inside above. elim (cases_lt c (get_or bs (i + 1) 0)) [
        | inl under ↦ absurd (between bs i c rises short above under inside)
        | inr fine ↦ omega (arith, end, fine)
      ];
    }

tile_is : (g : Tiles) (t : ℕ) → AreRising g → column g t + 1 < length g.columns → row g t + 1 < length g.rows → IsTile g.columns g.rows (tile g t)
tile_is g t rising in_columns in_rows = record { across = span_is g.columns (column g t) rising.columns in_columns; down = span_is g.rows (row g t) rising.rows in_rows }

-- slices of a tile are rows of it
strips_rows : (columns rows : List ℕ) (t : Rect) (y : ℕ) (heights : List ℕ) → IsTile columns rows t → t.y ≤ y → y + sum heights ≤ t.y + t.h → All (λ r. AreRowsOf columns rows r t) (strips t y heights)
strips_rows columns rows t y [] is from to = All-nil (λ r. AreRowsOf columns rows r t)
strips_rows columns rows t y (h ∷ hs) is from to =
    let r : Rect = record { x = t.x; y = y; w = t.w; h = h } in
    let first = sum_by-cons (λ n. n) h hs in
    All-cons (λ r. AreRowsOf columns rows r t) r (strips t (y + h) hs)
    (record { tile = is; sides = (refl, refl); inside = fits_from r t (omega arith) (omega arith) from (omega (arith, first, to)) })
    (strips_rows columns rows t (y + h) hs is (omega (arith, from)) (omega (arith, first, to)))

cut_rows : (g : Tiles) (t : ℕ) (heights : List ℕ) → AreRising g → LiesInside g (cut t heights) → IsTile g.columns g.rows (tile g t) × All (λ r. AreRowsOf g.columns g.rows r (tile g t)) (slices_of_group g (cut t heights))
cut_rows g t heights rising inside =
    let within = in_picture g (cut t heights) rising.grid inside in
    let is = tile_is g t rising within.columns_in within.rows_in in
    (is, strips_rows g.columns g.rows (tile g t) (tile g t).y heights is (omega arith) (omega (arith, inside.lies.2)))

group_shapes : (g : Tiles) (group : Group) → AreRising g → LiesInside g group → All (AreTilesOrRows g.columns g.rows) (slices_of_group g group)
group_shapes g (whole t wide high) rising inside =
    let within = in_picture g (whole t wide high) rising.grid inside in
    All-cons (AreTilesOrRows g.columns g.rows) (block g t wide high) [] (inl (block_tiles g t wide high rising within.columns_in within.rows_in)) (All-nil (AreTilesOrRows g.columns g.rows))
group_shapes g (cut t heights) rising inside = λ k d short. inr (tile g t, (cut_rows g t heights rising inside).1 k d short)

shapes : (g : Tiles) (groups : List Group) → AreRising g → All (LiesInside g) groups → All (AreTilesOrRows g.columns g.rows) (slices_of_all g groups)
shapes g [] rising inside = All-nil (AreTilesOrRows g.columns g.rows)
shapes g (group ∷ groups) rising inside =
    All-append (AreTilesOrRows g.columns g.rows) (slices_of_group g group) (slices_of_all g groups) (group_shapes g group rising (All-head (LiesInside g) group groups inside)) (shapes g groups rising (All-tail (LiesInside g) group groups inside))

-- ---- those in one tile

-- slices that lie in a rectangle, each of whose CTUs is in one of them
record Fill (slices : List Rect) (t : Rect) : Type 0 where
  pub within : All (λ r. fits r t ≡ true) slices
  pub cover : (x y : ℕ) → holds t x y ≡ true → 1 ≤ count_by (λ r. holds r x y) slices

strips_cover : (t : Rect) (from : ℕ) (heights : List ℕ) (x y : ℕ) → t.x ≤ x → x < t.x + t.w → from ≤ y → y < from + sum heights → 1 ≤ count_by (λ r. holds r x y) (strips t from heights)
strips_cover t from [] x y left right above under = absurd (omega (arith, above, under))
strips_cover t from (h ∷ hs) x y left right above under =
    let r : Rect = record { x = t.x; y = from; w = t.w; h = h } in
    let first = sum_by-cons (λ n. n) h hs in
    elim (cases_lt y (from + h)) [
      | inl here ↦ count_by-some (λ r. holds r x y) (r ∷ strips t (from + h) hs) 0 r (omega arith) (holds_from r x y left right above here)
      | inr later ↦ omega (arith, count_by-cons (λ r. holds r x y) r (strips t (from + h) hs), strips_cover t (from + h) hs x y left right later (omega (arith, first, under)))
    ]

-- whole tiles that lie in a tile are it
block_fills : (g : Tiles) (r t : Rect) → AreTiles g.columns g.rows r → IsTile g.columns g.rows t → HasCtu r → fits r t ≡ true → Fill (r ∷ []) t
block_fills g r t tiles is some inside =
    let corner = corner_held r some.0 some.1 in
    let all = tiles_have g.columns g.rows r t r.x r.y tiles is corner (holds-fits r t r.x r.y inside corner) in
    record {
      within = All-cons (λ r. fits r t ≡ true) r [] inside (All-nil (λ r. fits r t ≡ true));
      cover = λ x y on.
          let p = holds_tells t x y on in
          count_by-some (λ r. holds r x y) (r ∷ []) 0 r (omega arith) (holds_from r x y (omega (arith, all, p)) (omega (arith, all, p)) (omega (arith, all, p)) (omega (arith, all, p)));
    }

-- a group one of whose slices lies in a tile fills it
group_fills : (g : Tiles) (group : Group) (t : Rect) (k : ℕ) (d : Rect) → AreRising g → LiesInside g group → IsTile g.columns g.rows t → k < length (slices_of_group g group) → HasCtu (get_or (slices_of_group g group) k d) → fits (get_or (slices_of_group g group) k d) t ≡ true → Fill (slices_of_group g group) t
group_fills g (whole t wide high) u zero d rising inside is short some fit =
    let within = in_picture g (whole t wide high) rising.grid inside in
    block_fills g (block g t wide high) u (block_tiles g t wide high rising within.columns_in within.rows_in) is some fit
group_fills g (whole t wide high) u (suc k) d rising inside is short some fit = absurd (omega (arith, short))
group_fills g (cut t heights) u k d rising inside is short some fit =
    let v : Rect = tile g t in
    let r : Rect = get_or (strips v v.y heights) k d in
    let rows = cut_rows g t heights rising inside in
    let corner = corner_held r some.0 some.1 in
    let same : v ≡ u = tile_same g.columns g.rows v u r.x r.y rows.0 is (holds-fits r v r.x r.y (rows.1 k d short).inside corner) (holds-fits r u r.x r.y fit corner) in
    subst (Fill (strips v v.y heights)) same (record {
      within = λ j e low. (rows.1 j e low).inside;
      cover = λ x y on. let p = holds_tells v x y on in strips_cover v v.y heights x y p.0 p.1 p.2 (omega (arith, p, inside.lies.2));
    })

-- no CTU of the picture lies in two
abbrev pub AtMostOnce : Tiles → List Rect → Type 0
AtMostOnce g slices = (x y : ℕ) → x < last g.columns → y < last g.rows → count_by (λ r. holds r x y) slices ≤ 1

-- a slice that lies in a tile is no other group's
one_group : (g : Tiles) (here behind : List Rect) (t : Rect) (k : ℕ) (d : Rect) → AreRising g → IsTile g.columns g.rows t → Fill here t → AtMostOnce g (here ++ behind) → k < length behind → HasCtu (get_or behind k d) → fits (get_or behind k d) t ≡ true → ⊥
one_group g here behind t k d rising is fill once short some fit =
    let r : Rect = get_or behind k d in
    let corner = corner_held r some.0 some.1 in
    let on : holds t r.x r.y ≡ true = holds-fits r t r.x r.y fit corner in
    let p = holds_tells t r.x r.y on in
    let in_columns = Contains-le-last g.columns (t.x + t.w) rising.columns is.across.ends in
    let in_rows = Contains-le-last g.rows (t.y + t.h) rising.rows is.down.ends in
    let most = once r.x r.y (omega (arith, p, in_columns)) (omega (arith, p, in_rows)) in
    omega (arith, most, count_by-append (λ r. holds r (get_or behind k d).x (get_or behind k d).y) here behind, fill.cover r.x r.y on, count_by-some (λ r. holds r (get_or behind k d).x (get_or behind k d).y) behind k d short corner)

once_behind : (g : Tiles) (here behind : List Rect) → AtMostOnce g (here ++ behind) → AtMostOnce g behind
once_behind g here behind once x y in_columns in_rows = omega (arith, once x y in_columns in_rows, count_by-append (λ r. holds r x y) here behind)

some_behind : (here behind : List Rect) → All HasCtu (here ++ behind) → All HasCtu behind
some_behind [] behind some = some
some_behind (r ∷ here) behind some = some_behind here behind (All-tail HasCtu r (here ++ behind) some)

together : (g : Tiles) (groups : List Group) (t : Rect) → AreRising g → All (LiesInside g) groups → IsTile g.columns g.rows t → All HasCtu (slices_of_all g groups) → AtMostOnce g (slices_of_all g groups) → StandTogether (slices_of_all g groups) t
together g [] t rising inside is some once i j k d before behind short fit_i fit_k = absurd (omega (arith, short))
together g (group ∷ groups) t rising inside is some once i j k d before behind short fit_i fit_k =
    let here : List Rect = slices_of_group g group in
    let rest : List Rect = slices_of_all g groups in
    let n : ℕ = length here in
    let long = length-append here rest in
    let first = All-head (LiesInside g) group groups inside in
    let left : (m : ℕ) → m < n → get_or (here ++ rest) m d ≡ get_or here m d = λ m low. get_or_append_left here rest d m low in
    let right : (m : ℕ) → n ≤ m → get_or (here ++ rest) m d ≡ get_or rest (m - n) d = λ m high. get_or-append_right here rest n m d refl high in
    let fills : i < n → Fill here t = λ low. group_fills g group t i d rising first is low (subst HasCtu (left i low) (some i d (omega (arith, before, behind, short)))) (subst (λ r. fits r t ≡ true) (left i low) fit_i) in
    elim (cases_lt k n) [
      | inl all ↦ subst (λ r. fits r t ≡ true) (sym (left j (omega (arith, behind, all)))) ((fills (omega (arith, before, behind, all))).within j d (omega (arith, behind, all)))
      | inr last_behind ↦
          let low_k : k - n < length rest = omega (arith, long, short, last_behind) in
          let fit_last : fits (get_or rest (k - n) d) t ≡ true = subst (λ r. fits r t ≡ true) (right k last_behind) fit_k in
          elim (cases_lt i n) [
            | inl low ↦ absurd (one_group g here rest t (k - n) d rising is (fills low) once low_k (some_behind here rest some (k - n) d low_k) fit_last)
            | inr high ↦ subst (λ r. fits r t ≡ true) (sym (right j (omega (arith, high, before))))
                (together g groups t rising (All-tail (LiesInside g) group groups inside) is (some_behind here rest some) (once_behind g here rest once) (i - n) (j - n) (k - n) d (omega (arith, before, high)) (omega (arith, behind, before, high)) low_k
                (subst (λ r. fits r t ≡ true) (right i high) fit_i) fit_last)
          ]
    ]

groups_listable : (g : Tiles) (groups : List Group) → AreRising g → All (LiesInside g) groups → All HasCtu (slices_of_all g groups) → CoversOnce (slices_of_all g groups) (last g.columns) (last g.rows) → AreListable g.columns g.rows (slices_of_all g groups)
groups_listable g groups rising inside some once = record {
  some = some;
  shapes = shapes g groups rising inside;
  together = λ t is. together g groups t rising inside is some (λ x y in_columns in_rows. omega (arith, once x y in_columns in_rows));
}

pub named_listable : (g : Tiles) (slices : List Rect) → AreRising g → Named g slices → All HasCtu slices → CoversOnce slices (last g.columns) (last g.rows) → AreListable g.columns g.rows slices
named_listable g slices rising named =
    subst (λ s. All HasCtu s → CoversOnce s (last g.columns) (last g.rows) → AreListable g.columns g.rows s) named.are.same (groups_listable g named.groups rising named.are.inside)
