-- The slices of one tile stand under one another in the list.
use Rattle.std.proofs.Common.{◌≡◌, ℕ, zero, suc, ◌+◌, ◌-◌, ◌<◌, ◌≤◌, true, List, [], ◌∷◌, ◌++◌, All, length, get_or, drop, sum, sym, ap, ◌∙◌, subst, inl, inr, arith, refl, add-one, drop-cons}
use Rattle.std.proofs.lemmas.Bool.{cases_lt}
use Rattle.std.proofs.lemmas.List.Elements.{All-cons, All-nil}
use Rattle.std.proofs.lemmas.List.Sums.{sum_by-cons}
use Rattle.vx_layout.specs.declared.rect.Rect.{Rect}
use Rattle.vx_layout.specs.Bounds.{last}
use Rattle.vx_layout.specs.Faults.{IsSpan, IsTile}
use Rattle.vx_layout.specs.Layouts.{no_rect}
use Rattle.vx_layout.specs.Rects.{IsPart, fits, holds}
use Rattle.vx_layout.specs.Shapes.{AreTiles, AreRowsOf}
use Rattle.vx_layout.proofs.Corners.{IsOrdered, holder, no_later}
use Rattle.vx_layout.proofs.Counting.{holds-fits, same_place}
use Rattle.vx_layout.proofs.FrameLines.{span_beside}
use Rattle.vx_layout.proofs.Holding.{fits_tells, holds_from, holds_tells, same_rect}
use Rattle.vx_layout.proofs.Owners.{corner_held}
use Rattle.vx_layout.proofs.Rising.{Contains-le-last}
use Rattle.vx_pps.specs.declared.tiles.Tiles.{Tiles}
use Rattle.vx_pps.specs.Groups.{IsList, strips}

-- slice i
abbrev pub nth : List Rect → ℕ → Rect
nth slices i = get_or slices i no_rect

-- tile columns, or tile rows, that share a number are the same
pub span_same : (bounds : List ℕ) (a b c e x : ℕ) → IsSpan bounds a b → IsSpan bounds c e → a ≤ x → x < b → c ≤ x → x < e → (a ≡ c) × (b ≡ e)
span_same bounds a b c e x s t low_a up_b low_c up_e =
    let from_a : c ≤ a = elim (cases_lt a c) [ inl less ↦ let up = s.next c t.begins less in absurd (omega arith) | inr fine ↦ fine ] in
    let from_c : a ≤ c = elim (cases_lt c a) [ inl less ↦ let up = t.next a s.begins less in absurd (omega arith) | inr fine ↦ fine ] in
    let to_b : b ≤ e = s.next e t.ends (omega arith) in
    let to_e : e ≤ b = t.next b s.ends (omega arith) in
    (omega arith, omega arith)

pub tile_same : (columns rows : List ℕ) (t u : Rect) (x y : ℕ) → IsTile columns rows t → IsTile columns rows u → holds t x y ≡ true → holds u x y ≡ true → t ≡ u
tile_same columns rows t u x y is_t is_u on_t on_u =
    let p = holds_tells t x y on_t in
    let q = holds_tells u x y on_u in
    let across = span_same columns t.x (t.x + t.w) u.x (u.x + u.w) x is_t.across is_u.across p.0 p.1 q.0 q.1 in
    let down = span_same rows t.y (t.y + t.h) u.y (u.y + u.h) y is_t.down is_u.down p.2 p.3 q.2 q.3 in
    same_rect t u across.0 down.0 (omega (arith, across)) (omega (arith, down))

-- whole tiles that share a CTU with a tile have all of it
pub tiles_have : (columns rows : List ℕ) (r t : Rect) (x y : ℕ) → AreTiles columns rows r → IsTile columns rows t → holds r x y ≡ true → holds t x y ≡ true
    → (r.x ≤ t.x) × (t.x + t.w ≤ r.x + r.w) × (r.y ≤ t.y) × (t.y + t.h ≤ r.y + r.h)
tiles_have columns rows r t x y tiles is_t on_r on_t =
    let p = holds_tells r x y on_r in
    let q = holds_tells t x y on_t in
    let across : (r.x ≤ t.x) × (t.x + t.w ≤ r.x + r.w) = elim (span_beside columns r.x (r.x + r.w) t.x (t.x + t.w) tiles.left tiles.right is_t.across) [
      | inl both ↦ both
      | inr (inl before) ↦ absurd (omega (arith, p, q))
      | inr (inr behind) ↦ absurd (omega (arith, p, q))
    ] in
    let down : (r.y ≤ t.y) × (t.y + t.h ≤ r.y + r.h) = elim (span_beside rows r.y (r.y + r.h) t.y (t.y + t.h) tiles.top tiles.bottom is_t.down) [
      | inl both ↦ both
      | inr (inl before) ↦ absurd (omega (arith, p, q))
      | inr (inr behind) ↦ absurd (omega (arith, p, q))
    ] in
    (across.0, across.1, down.0, down.1)

-- slice i has the sides of the tile t and lies in it
pub record InTile (g : Tiles) (slices : List Rect) (t : Rect) (i : ℕ) : Type 0 where
  pub short : i < length slices
  pub rows : AreRowsOf g.columns g.rows (nth slices i) t

pub part_of : (g : Tiles) (slices : List Rect) (i : ℕ) → IsList g slices → i < length slices → IsPart (last g.columns) (last g.rows) (nth slices i)
part_of g slices i l short = l.parts i no_rect short

pub ordered : (g : Tiles) (slices : List Rect) → IsList g slices → IsOrdered slices (last g.columns) (last g.rows)
ordered g slices l = record { once = l.once; order = l.order }

-- a CTU of a slice lies in the picture
pub held_inside : (g : Tiles) (slices : List Rect) (i x y : ℕ) → IsList g slices → i < length slices → holds (nth slices i) x y ≡ true → (x < last g.columns) × (y < last g.rows)
held_inside g slices i x y l short on =
    let p = holds_tells (nth slices i) x y on in
    let part = part_of g slices i l short in
    (omega (arith, p, part.across), omega (arith, p, part.down))

pub same_slice : (g : Tiles) (slices : List Rect) (i j x y : ℕ) → IsList g slices → i < length slices → j < length slices → holds (nth slices i) x y ≡ true → holds (nth slices j) x y ≡ true → i ≡ j
same_slice g slices i j x y l short_i short_j on_i on_j =
    let within = held_inside g slices i x y l short_i on_i in
    let one = l.once x y within.0 within.1 in
    same_place (λ r. holds r x y) slices i j no_rect (omega arith) short_i short_j on_i on_j

pub run_later : (g : Tiles) (slices : List Rect) (i j x y v u : ℕ) → IsList g slices → i < length slices → j < length slices → holds (nth slices i) x y ≡ true → holds (nth slices j) v u ≡ true → x ≤ v → y ≤ u → i ≤ j
run_later g slices i j x y v u l short_i short_j on_i on_j right below =
    let within = held_inside g slices j v u l short_j on_j in
    no_later slices (last g.columns) (last g.rows) x y v u i j no_rect (ordered g slices l) right below within.0 within.1 short_i short_j on_i on_j

pub corner_on : (g : Tiles) (slices : List Rect) (i : ℕ) → IsList g slices → i < length slices → holds (nth slices i) (nth slices i).x (nth slices i).y ≡ true
corner_on g slices i l short = let part = part_of g slices i l short in corner_held (nth slices i) part.wide part.high

-- the borders of a slice in a tile
pub in_tile : (g : Tiles) (slices : List Rect) (t : Rect) (i : ℕ) → IsList g slices → InTile g slices t i
    → ((nth slices i).x ≡ t.x) × ((nth slices i).w ≡ t.w) × (t.y ≤ (nth slices i).y) × ((nth slices i).y + (nth slices i).h ≤ t.y + t.h)
in_tile g slices t i l is =
    let part = part_of g slices i l is.short in
    elim (fits_tells (nth slices i) t is.rows.inside) [
      | inl (inl e) ↦ absurd (omega (arith, e, part.wide))
      | inl (inr e) ↦ absurd (omega (arith, e, part.high))
      | inr q ↦ (is.rows.sides.0, omega (arith, is.rows.sides), q.2, q.3)
    ]

-- a CTU of the tile's first column in a slice of the tile
pub column_on : (g : Tiles) (slices : List Rect) (t : Rect) (i y : ℕ) → IsList g slices → InTile g slices t i → (nth slices i).y ≤ y → y < (nth slices i).y + (nth slices i).h → holds (nth slices i) t.x y ≡ true
column_on g slices t i y l is from to =
    let f = in_tile g slices t i l is in
    let part = part_of g slices i l is.short in
    holds_from (nth slices i) t.x y (omega (arith, f)) (omega (arith, f, part.wide)) from to

-- beside a slice in the tile, each slice that holds one of the tile's CTUs is in it
pub rows_in : (g : Tiles) (slices : List Rect) (t : Rect) (i j x y : ℕ) → IsList g slices → InTile g slices t i → j < length slices → (i ≡ j → ⊥) → holds (nth slices j) x y ≡ true → holds t x y ≡ true → InTile g slices t j
rows_in g slices t i j x y l is short apart on_j on_t =
    elim (l.listable.shapes j no_rect short) [
      | inl tiles ↦
          let b = tiles_have g.columns g.rows (nth slices j) t x y tiles is.rows.tile on_j on_t in
          let f = in_tile g slices t i l is in
          let part = part_of g slices i l is.short in
          absurd (apart (same_slice g slices i j (nth slices i).x (nth slices i).y l is.short short (corner_on g slices i l is.short)
          (holds_from (nth slices j) (nth slices i).x (nth slices i).y (omega (arith, b, f)) (omega (arith, b, f, part.wide)) (omega (arith, b, f)) (omega (arith, b, f, part.high)))))
      | inr (u, rows) ↦
          let same : t ≡ u = tile_same g.columns g.rows t u x y is.rows.tile rows.tile on_t (holds-fits (nth slices j) u x y rows.inside on_j) in
          record { short = short; rows = subst (λ v. AreRowsOf g.columns g.rows (nth slices j) v) (sym same) rows }
    ]

-- the tile lies in the picture
pub tile_down : (g : Tiles) (slices : List Rect) (t : Rect) → IsList g slices → IsTile g.columns g.rows t → t.y + t.h ≤ last g.rows
tile_down g slices t l is = Contains-le-last g.rows (t.y + t.h) l.rows is.down.ends

-- where a slice in the tile doesn't end it, the next one is in it and begins there
pub next_in : (g : Tiles) (slices : List Rect) (t : Rect) (i : ℕ) → IsList g slices → InTile g slices t i → (nth slices i).y + (nth slices i).h < t.y + t.h
    → InTile g slices t (i + 1) × ((nth slices (i + 1)).y ≡ (nth slices i).y + (nth slices i).h)
next_in g slices t i l is more =
    let r : Rect = nth slices i in
    let f = in_tile g slices t i l is in
    let part = part_of g slices i l is.short in
    let y : ℕ = r.y + r.h in
    let k = holder slices (last g.columns) (last g.rows) t.x y (ordered g slices l) (omega (arith, f, part.across, part.wide)) (omega (arith, more, tile_down g slices t l is.rows.tile)) in
    let on_k : holds (nth slices k.place) t.x y ≡ true = k.passes no_rect in
    let no_sooner : i ≤ k.place = run_later g slices i k.place t.x r.y t.x y l is.short k.low (column_on g slices t i r.y l is (omega arith) (omega (arith, part.high))) on_k (omega arith) (omega arith) in
    let apart : i ≡ k.place → ⊥ = λ e. omega (arith, (holds_tells r t.x y (subst (λ j. holds (nth slices j) t.x y ≡ true) (sym e) on_k)).3) in
    let on_t : holds t t.x y ≡ true = holds_from t t.x y (omega arith) (omega (arith, is.rows.tile.across.rises)) (omega (arith, f)) more in
    let kin : InTile g slices t k.place = rows_in g slices t i k.place t.x y l is k.low apart on_k on_t in
    let later : i < k.place = elim (cases_lt i k.place) [ inl fine ↦ fine | inr level ↦ absurd (apart (omega arith)) ] in
    let short : i + 1 < length slices = omega (arith, later, k.low) in
    let inside : fits (nth slices (i + 1)) t ≡ true = elim (cases_lt (i + 1) k.place) [
      | inl before ↦ l.listable.together t is.rows.tile i (i + 1) k.place no_rect (omega arith) before k.low is.rows.inside kin.rows.inside
      | inr level ↦ let e : k.place ≡ i + 1 = omega arith in subst (λ j. fits (nth slices j) t ≡ true) e kin.rows.inside
    ] in
    let s : Rect = nth slices (i + 1) in
    let on_s : holds s s.x s.y ≡ true = corner_on g slices (i + 1) l short in
    let next : InTile g slices t (i + 1) = rows_in g slices t i (i + 1) s.x s.y l is short (λ e. omega (arith, e)) on_s (holds-fits s t s.x s.y inside on_s) in
    let part_s = part_of g slices (i + 1) l short in
    let on_top : holds s t.x s.y ≡ true = column_on g slices t (i + 1) s.y l next (omega arith) (omega (arith, part_s.high)) in
    let down : y ≤ s.y = elim (cases_lt s.y y) [
      | inl above ↦
          let back : i + 1 ≤ i = run_later g slices (i + 1) i t.x s.y t.x (y - 1) l short is.short on_top (column_on g slices t i (y - 1) l is (omega (arith, part.high)) (omega (arith, part.high))) (omega arith) (omega arith) in
          absurd (omega (arith, back))
      | inr fine ↦ fine
    ] in
    let up : s.y ≤ y = elim (cases_lt y s.y) [
      | inl below ↦
          let back : k.place ≤ i + 1 = run_later g slices k.place (i + 1) t.x y t.x s.y l k.low short on_k on_top (omega arith) (omega arith) in
          let e : k.place ≡ i + 1 = omega (arith, back, later) in
          absurd (omega (arith, below, (holds_tells s t.x y (subst (λ j. holds (nth slices j) t.x y ≡ true) e on_k)).2))
      | inr fine ↦ fine
    ] in
    (next, omega (arith, down, up))

-- the slices of the tile from slice i on, which begins at CTU row y
pub record Run (g : Tiles) (slices : List Rect) (t : Rect) (i y : ℕ) : Type 0 where
  pub heights : List ℕ
  pub some : 1 ≤ length heights
  pub several : (nth slices i).y + (nth slices i).h < t.y + t.h → 2 ≤ length heights
  pub each : All (λ height. 1 ≤ height) heights
  pub whole : y + sum heights ≡ t.y + t.h
  pub upto : i + length heights ≤ length slices
  pub same : strips t y heights ++ drop (i + length heights) slices ≡ drop i slices
  pub final : InTile g slices t (i + length heights - 1)
  pub ends : (nth slices (i + length heights - 1)).y + (nth slices (i + length heights - 1)).h ≡ t.y + t.h
  pub within : (j : ℕ) → i ≤ j → j < i + length heights → InTile g slices t j

-- a slice in a tile, as a strip
pub strip_is : (g : Tiles) (slices : List Rect) (t : Rect) (i y : ℕ) → IsList g slices → InTile g slices t i → (nth slices i).y ≡ y
    → record { x = t.x; y = y; w = t.w; h = (nth slices i).h } ≡ nth slices i
strip_is g slices t i y l is from = let f = in_tile g slices t i l is in same_rect (record { x = t.x; y = y; w = t.w; h = (nth slices i).h }) (nth slices i) (omega (arith, f)) (sym from) (omega (arith, f)) refl

strips_one : (t r : Rect) (y h : ℕ) (all behind : List Rect) → record { x = t.x; y = y; w = t.w; h = h } ≡ r → all ≡ r ∷ behind → strips t y (h ∷ []) ++ behind ≡ all
strips_one t r y h all behind is e = ap (λ s. s ∷ behind) is ∙ sym e

strips_more : (t r : Rect) (y h : ℕ) (heights : List ℕ) (all next behind : List Rect) → record { x = t.x; y = y; w = t.w; h = h } ≡ r → all ≡ r ∷ next → strips t (y + h) heights ++ behind ≡ next
    → strips t y (h ∷ heights) ++ behind ≡ all
strips_more t r y h heights all next behind is e more = ap (λ s. s ∷ (strips t (y + h) heights ++ behind)) is ∙ ap (λ s. r ∷ s) more ∙ sym e

pub run : (g : Tiles) (slices : List Rect) (t : Rect) (n i y : ℕ) → IsList g slices → length slices ≤ i + n → InTile g slices t i → (nth slices i).y ≡ y → Run g slices t i y
run g slices t zero i y l enough is from = absurd (omega (arith, enough, is.short))
run g slices t (suc n) i y l enough is from =
    let r : Rect = nth slices i in
    let part = part_of g slices i l is.short in
    let f = in_tile g slices t i l is in
    let split : drop i slices ≡ r ∷ drop (i + 1) slices = drop-cons slices i no_rect is.short ∙ ap (λ k. r ∷ drop k slices) (sym (add-one i)) in
    elim (cases_lt (r.y + r.h) (t.y + t.h)) [
      | inr ended ↦
          let back : i + 1 - 1 ≡ i = omega arith in
          record {
            heights = r.h ∷ [];
            some = omega arith;
            several = λ more. absurd (omega arith);
            each = All-cons (λ height. 1 ≤ height) r.h [] part.high (All-nil (λ height. 1 ≤ height));
            whole = omega (arith, sum_by-cons (λ height. height) r.h [], from, f);
            upto = omega (arith, is.short);
            same = strips_one t r y r.h (drop i slices) (drop (i + 1) slices) (strip_is g slices t i y l is from) split;
            final = subst (λ j. InTile g slices t j) (sym back) is;
            ends = subst (λ j. (nth slices j).y + (nth slices j).h ≡ t.y + t.h) (sym back) (omega (arith, f));
            within = λ j low high. let e : i ≡ j = omega arith in subst (λ k. InTile g slices t k) e is;
          }
      | inl more ↦
          let nx = next_in g slices t i l is more in
          let rest = run g slices t n (i + 1) (y + r.h) l (omega (arith, enough)) nx.0 (omega (arith, nx.1, from)) in
          let long : i + length (r.h ∷ rest.heights) ≡ i + 1 + length rest.heights = omega arith in
          let end : i + length (r.h ∷ rest.heights) - 1 ≡ i + 1 + length rest.heights - 1 = omega arith in
          record {
            heights = r.h ∷ rest.heights;
            some = omega arith;
            several = λ _. omega (arith, rest.some);
            each = All-cons (λ height. 1 ≤ height) r.h rest.heights part.high rest.each;
            whole = omega (arith, sum_by-cons (λ height. height) r.h rest.heights, rest.whole);
            upto = omega (arith, rest.upto);
            same = strips_more t r y r.h rest.heights (drop i slices) (drop (i + 1) slices) (drop (i + length (r.h ∷ rest.heights)) slices) (strip_is g slices t i y l is from) split
                (subst (λ k. strips t (y + r.h) rest.heights ++ drop k slices ≡ drop (i + 1) slices) (sym long) rest.same);
            final = subst (λ j. InTile g slices t j) (sym end) rest.final;
            ends = subst (λ j. (nth slices j).y + (nth slices j).h ≡ t.y + t.h) (sym end) rest.ends;
            within = λ j low high. elim (cases_lt i j) [ inl less ↦ rest.within j (omega arith) (omega (arith, high)) | inr level ↦ let e : i ≡ j = omega arith in subst (λ k. InTile g slices t k) e is ];
          }
    ]
