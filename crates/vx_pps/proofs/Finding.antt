-- Groups of slices found in a list of slices: where each begins and ends.
use Rattle.std.proofs.Common.{◌≡◌, ℕ, zero, suc, ◌+◌, ◌-◌, ◌^◌, ◌<◌, ◌≤◌, List, [], ◌∷◌, ◌++◌, length, sum, get_or, sym, ap, ◌∙◌, subst, inl, inr, arith, refl, length-append}
use Rattle.std.proofs.Math.Nat.{mod-lt}
use Rattle.std.proofs.lemmas.Bool.{cases_lt}
use Rattle.std.proofs.lemmas.List.{get_or_append_left, get_or_default}
use Rattle.std.proofs.lemmas.List.Elements.{All-head, All-tail}
use Rattle.std.proofs.lemmas.List.Sums.{sum_by-cons}
use Rattle.std.specs.List.{All, Contains}
use Rattle.vx_layout.specs.declared.rect.Rect.{Rect}
use Rattle.vx_layout.specs.Bounds.{Rises, last}
use Rattle.vx_layout.proofs.Rising.{Contains-le-last, Rises-level, bound_at, bound_from}
use Rattle.vx_pps.specs.declared.tiles.Tiles.{Tiles}
use Rattle.vx_pps.specs.Tiles.{IsGrid, across, column, row, tile}
use Rattle.vx_pps.specs.Groups.{Group, cut, high_of, slices_of_group, first_tile_of, strips, whole, wide_of}
use Rattle.vx_pps.specs.inner.Found.{LiesInside}
use Rattle.vx_pps.proofs.Blocks.{before_index, row_inside}
use Rattle.vx_pps.proofs.Few.{group_some, strips_length}

-- the row below a rectangle
abbrev pub below : Rect → ℕ
below r = r.y + r.h

-- no bound stands between two neighbours
pub between : (bs : List ℕ) (i b : ℕ) → Rises bs → i + 1 < length bs → get_or bs i 0 < b → b < get_or bs (i + 1) 0 → Contains bs b → ⊥
between bs i b rises short above under inside =
    let at = bound_at bs b inside in
    let low = before_index bs i at.0 rises (omega arith) (omega (arith, at.2)) in
    let high = before_index bs at.0 (i + 1) rises at.1 (omega (arith, at.2)) in
    omega (arith, low, high)

-- the tiles of a group lie in the picture
pub record InPicture (g : Tiles) (group : Group) : Type 0 where
  pub columns_in : column g (first_tile_of group) + wide_of group < length g.columns
  pub rows_in : row g (first_tile_of group) + high_of group < length g.rows

pub in_picture : (g : Tiles) (group : Group) → IsGrid g → LiesInside g group → InPicture g group
in_picture g (whole t wide high) grid is = record { columns_in = omega (arith, is.lies.2, grid.columns); rows_in = omega (arith, is.lies.3, grid.rows) }
in_picture g (cut t heights) grid is = record {
  columns_in = let low : column g t < across g = mod-lt t (omega (arith, grid.columns)) in omega (arith, low);
  rows_in = let low = row_inside g t is.inside in omega (arith, low);
}

-- ---- where a group begins

pub record Begins (g : Tiles) (group : Group) (r : Rect) : Type 0 where
  pub left : get_or g.columns (column g (first_tile_of group)) 0 ≡ r.x
  pub right : get_or g.columns (column g (first_tile_of group) + wide_of group) 0 ≡ r.x + r.w
  pub top : get_or g.rows (row g (first_tile_of group)) 0 ≡ r.y

pub begins : (g : Tiles) (group : Group) (d : Rect) → IsGrid g → Rises g.columns → LiesInside g group → Begins g group (get_or (slices_of_group g group) 0 d)
begins g (whole t wide high) d grid rises is =
    let level = Rises-level g.columns (column g t) (column g t + wide) rises (omega arith) ((in_picture g (whole t wide high) grid is).columns_in) in
    record { left = refl; right = omega (arith, level); top = refl }
begins g (cut t []) d grid rises is = absurd (omega (arith, is.lies.0))
begins g (cut t (h ∷ heights)) d grid rises is =
    let level = Rises-level g.columns (column g t) (column g t + 1) rises (omega arith) ((in_picture g (cut t (h ∷ heights)) grid is).columns_in) in
    record { left = refl; right = omega (arith, level); top = refl }

-- no bound is above the last
pub upto_last : (bs : List ℕ) (i : ℕ) → Rises bs → i < length bs → get_or bs i 0 ≤ last bs
upto_last bs i rises short = Contains-le-last bs (get_or bs i 0) rises (bound_from bs i (get_or bs i 0) short refl)

-- ---- where its slices end

sum_some : (heights : List ℕ) → All (λ h. 1 ≤ h) heights → length heights ≤ sum heights
sum_some [] some = omega arith
sum_some (h ∷ heights) some =
    let whole = sum_by-cons (λ n. n) h heights in
    omega (arith, whole, All-head (λ n. 1 ≤ n) h heights some, sum_some heights (All-tail (λ n. 1 ≤ n) h heights some))

none_sum : (heights : List ℕ) → length heights ≡ 0 → sum heights ≡ 0
none_sum [] e = refl
none_sum (h ∷ heights) e = absurd (omega arith)

-- slice k of a tile's
pub record EndsStrip (y : ℕ) (heights : List ℕ) (k : ℕ) (r : Rect) : Type 0 where
  pub above : y < below r
  pub inner : k + 1 < length heights → below r < y + sum heights
  pub outer : k + 1 ≡ length heights → below r ≡ y + sum heights

strip_ends : (t : Rect) (y : ℕ) (heights : List ℕ) (k : ℕ) (d : Rect) → k < length heights → All (λ h. 1 ≤ h) heights → EndsStrip y heights k (get_or (strips t y heights) k d)
strip_ends t y [] k d short some = absurd (omega arith)
strip_ends t y (h ∷ heights) zero d short some =
    let total = sum_by-cons (λ n. n) h heights in
    let rest = sum_some heights (All-tail (λ n. 1 ≤ n) h heights some) in
    record {
      above = omega (arith, All-head (λ n. 1 ≤ n) h heights some);
      inner = λ more. omega (arith, total, rest, more);
      outer = λ end. omega (arith, total, none_sum heights (omega (arith, end)));
    }
strip_ends t y (h ∷ heights) (suc k) d short some =
    let total = sum_by-cons (λ n. n) h heights in
    let on = strip_ends t (y + h) heights k d (omega arith) (All-tail (λ n. 1 ≤ n) h heights some) in
    record {
      above = omega (arith, on.above);
      inner = λ more. let low = on.inner (omega (arith, more)) in omega (arith, total, low);
      outer = λ end. let level = on.outer (omega (arith, end)) in omega (arith, total, level);
    }

-- slice k of a group: the last one ends at a bound, and none before it
pub record EndsGroup (g : Tiles) (group : Group) (k : ℕ) (r : Rect) : Type 0 where
  pub inner : k + 1 < length (slices_of_group g group) → Contains g.rows (below r) → ⊥
  pub outer : k + 1 ≡ length (slices_of_group g group) → below r ≡ get_or g.rows (row g (first_tile_of group) + high_of group) 0
  pub low : below r < 2 ^ 32

pub ends_group : (g : Tiles) (group : Group) (k : ℕ) (d : Rect) → IsGrid g → Rises g.rows → LiesInside g group → k < length (slices_of_group g group) → EndsGroup g group k (get_or (slices_of_group g group) k d)
ends_group g (whole t wide high) zero d grid rises is short =
    let level = Rises-level g.rows (row g t) (row g t + high) rises (omega arith) ((in_picture g (whole t wide high) grid is).rows_in) in
    record { inner = λ more. absurd (omega (arith, more)); outer = λ end. omega (arith, level); low = omega (arith, level, grid.low (row g t + high)) }
ends_group g (whole t wide high) (suc k) d grid rises is short = absurd (omega arith)
ends_group g (cut t heights) k d grid rises is short =
    let long = strips_length (tile g t) (tile g t).y heights in
    let inside = (in_picture g (cut t heights) grid is).rows_in in
    let level = Rises-level g.rows (row g t) (row g t + 1) rises (omega arith) inside in
    let e = strip_ends (tile g t) (tile g t).y heights k d (omega (arith, long, short)) is.lies.1 in
    let full : (tile g t).y + sum heights ≡ get_or g.rows (row g t + 1) 0 = omega (arith, level, is.lies.2) in
    record {
      inner = λ more in_rows. let low = e.inner (omega (arith, long, more)) in between g.rows (row g t) (below (get_or (strips (tile g t) (tile g t).y heights) k d)) rises inside e.above (omega (arith, low, full)) in_rows;
      outer = λ end. e.outer (omega (arith, long, end)) ∙ full;
      low = elim (cases_lt (k + 1) (length heights)) [
        | inl more ↦ let low = e.inner more in omega (arith, low, full, grid.low (row g t + 1))
        | inr end ↦ let level_end = e.outer (omega (arith, end, long, short)) in omega (arith, level_end, full, grid.low (row g t + 1))
      ];
    }

-- ---- how many slices are its

-- of slices, none before slice i ends at a bound
pub record NoneEnds (g : Tiles) (slices : List Rect) (i : ℕ) : Type 0 where
  pub before : (k : ℕ) (d : Rect) → k < i → below (get_or slices k d) < 2 ^ 32 → Contains g.rows (below (get_or slices k d)) → ⊥

pub none_yet : (g : Tiles) (slices : List Rect) → NoneEnds g slices 0
none_yet g slices = record { before = λ k d low. absurd (omega arith) }

-- not all slices of a group end elsewhere
ended : (g : Tiles) (slices : List Rect) (i : ℕ) (r : Rect) (group : Group) (behind : List Rect) → IsGrid g → Rises g.rows → LiesInside g group → ((k : ℕ) (d : Rect) → k < length (slices_of_group g group) → get_or slices k d ≡ get_or (slices_of_group g group) k d) → NoneEnds g slices i → length (slices_of_group g group) - 1 < i → ⊥
ended g slices i r group behind grid rises is own none over =
    let some = group_some g group is.lies in
    let last_k : ℕ = length (slices_of_group g group) - 1 in
    let e = ends_group g group last_k r grid rises is (omega (arith, some)) in
    let here = own last_k r (omega (arith, some)) in
    let inside = (in_picture g group grid is).rows_in in
    none.before last_k r over (subst (λ q. below q < 2 ^ 32) (sym here) e.low)
    (bound_from g.rows (row g (first_tile_of group) + high_of group) (below (get_or slices last_k r)) inside (ap below here ∙ e.outer (omega (arith, some))))

-- the first to end there is the last of a group that stands in front
pub group_found : (g : Tiles) (slices : List Rect) (i : ℕ) (r : Rect) (group : Group) (behind : List Rect) → IsGrid g → Rises g.rows → LiesInside g group → slices ≡ slices_of_group g group ++ behind → NoneEnds g slices i → i < length slices → r ≡ get_or slices i r → (below r < 2 ^ 32 → Contains g.rows (below r))
    → i + 1 ≡ length (slices_of_group g group)
group_found g slices i r group behind grid rises is same none short at ends =
    let some = group_some g group is.lies in
    let own : (k : ℕ) (d : Rect) → k < length (slices_of_group g group) → get_or slices k d ≡ get_or (slices_of_group g group) k d = λ k d low. ap (λ rs. get_or rs k d) same ∙ get_or_append_left (slices_of_group g group) behind d k low in
    elim (cases_lt (i + 1) (length (slices_of_group g group))) [
      | inl more ↦
          let e = ends_group g group i r grid rises is (omega arith) in
          let here : get_or (slices_of_group g group) i r ≡ r = sym (own i r (omega arith)) ∙ sym at in
          absurd (e.inner more (subst (λ q. Contains g.rows (below q)) (sym here) (ends (subst (λ q. below q < 2 ^ 32) here e.low))))
      | inr past ↦ elim (cases_lt (length (slices_of_group g group)) (i + 1)) [
        | inr level ↦ omega arith
        | inl over ↦ absurd (ended g slices i r group behind grid rises is own none (omega (arith, some)))
      ]
    ]

pub group_fits : (g : Tiles) (slices : List Rect) (r : Rect) (group : Group) (behind : List Rect) → IsGrid g → Rises g.rows → LiesInside g group → slices ≡ slices_of_group g group ++ behind → NoneEnds g slices (length slices) → ⊥
group_fits g slices r group behind grid rises is same none =
    let some = group_some g group is.lies in
    let own : (k : ℕ) (d : Rect) → k < length (slices_of_group g group) → get_or slices k d ≡ get_or (slices_of_group g group) k d = λ k d low. ap (λ rs. get_or rs k d) same ∙ get_or_append_left (slices_of_group g group) behind d k low in
    ended g slices (length slices) r group behind grid rises is own none (omega (arith, some, ap length same, length-append (slices_of_group g group) behind))

pub none_more : (g : Tiles) (slices : List Rect) (i : ℕ) (r : Rect) → r ≡ get_or slices i r → i < length slices → NoneEnds g slices i → (below r < 2 ^ 32 → Contains g.rows (below r) → ⊥) → NoneEnds g slices (i + 1)
none_more g slices i r at short none here = record {
  before = λ k d less low inside. elim (cases_lt k i) [
    | inl earlier ↦ none.before k d earlier low inside
    | inr level ↦
        let e : k ≡ i = omega arith in
        let is : get_or slices k d ≡ r = ap (λ j. get_or slices j d) e ∙ get_or_default slices i d r short ∙ sym at in
        here (subst (λ q. below q < 2 ^ 32) is low) (subst (λ q. Contains g.rows (below q)) is inside)
  ];
}

-- ---- its tiles

-- the slices of a group by their first and their last one
pub group_edges : (g : Tiles) (group : Group) (slices : List Rect) (d : Rect) → IsGrid g → Rises g.columns → Rises g.rows → LiesInside g group → slices_of_group g group ≡ slices
    → Begins g group (get_or slices 0 d) × (below (get_or slices (length slices - 1) d) ≡ get_or g.rows (row g (first_tile_of group) + high_of group) 0) × (below (get_or slices (length slices - 1) d) < 2 ^ 32)
group_edges g group slices d grid rises_columns rises_rows is same =
    let some = group_some g group is.lies in
    let end = ends_group g group (length (slices_of_group g group) - 1) d grid rises_rows is (omega (arith, some)) in
    subst (λ rs. Begins g group (get_or rs 0 d) × (below (get_or rs (length rs - 1) d) ≡ get_or g.rows (row g (first_tile_of group) + high_of group) 0) × (below (get_or rs (length rs - 1) d) < 2 ^ 32)) same
    (begins g group d grid rises_columns is, end.outer (omega (arith, some)), end.low)
