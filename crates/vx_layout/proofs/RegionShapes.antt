-- The slices of a region are made of its tiles as those of the layout are of the layout's.
use Rattle.std.proofs.Common.{◌≡◌, ℕ, suc, ◌+◌, ◌-◌, ◌<◌, ◌≤◌, Bool, true, List, [], ◌∷◌, length, get_or, filter, map, sym, subst, inl, inr, arith, ◌⊎◌, zero-add}
use Rattle.std.proofs.lemmas.Bool.{cases_Bool, cases_lt}
use Rattle.std.proofs.lemmas.List.{get_or-map, length-map}
use Rattle.std.proofs.lemmas.List.Elements.{All-filter, All-map}
use Rattle.std.proofs.lemmas.List.Kept.{AllPairs-filter}
use Rattle.std.specs.List.{All, Contains}
use Rattle.vx_layout.specs.declared.numbers.Numbers.{Numbers}
use Rattle.vx_layout.specs.declared.rect.Rect.{Rect}
use Rattle.vx_layout.specs.Borders.{SplitsAtLines}
use Rattle.vx_layout.specs.Faults.{IsSpan, IsTile, NoneBetween, SplitsWell, height, width}
use Rattle.vx_layout.specs.Layouts.{HasLayout, no_rect, slices_in, subpic_at}
use Rattle.vx_layout.specs.Rects.{IsPart, fits, whole_picture}
use Rattle.vx_layout.specs.Regions.{counted_from, cut_bounds, moved_to, region_of}
use Rattle.vx_layout.specs.Shapes.{AreListable, AreTilesOrRows, HasCtu, StandTogether}
use Rattle.vx_layout.proofs.FrameBounds.{cut_inner, cut_tells}
use Rattle.vx_layout.proofs.FrameLines.{Within, tile_from}
use Rattle.vx_layout.proofs.FrameRuns.{Leads, together_cons}
use Rattle.vx_layout.proofs.Holding.{fits_empty, fits_from, fits_tells}
use Rattle.vx_layout.proofs.Counting.{holds-fits}
use Rattle.vx_layout.proofs.Members.{LiesIn-fits}
use Rattle.vx_layout.proofs.Moving.{all_fit, cut_first, cut_last}
use Rattle.vx_layout.proofs.Owners.{corner_held}
use Rattle.vx_layout.proofs.Splitting.{SplitsAtLines-from}

-- a bound from the first to behind the last column is one of the cut bounds
cut_has : (bounds : List ℕ) (from size c : ℕ) → Contains bounds c → from ≤ c → c ≤ from + size → Contains (cut_bounds bounds from size) (c - from)
cut_has bounds from size c inside low high =
    elim (cases_lt from c) [
      | inr same ↦ let e : 0 ≡ c - from = omega arith in subst (λ m. Contains (cut_bounds bounds from size) m) e (cut_first bounds from size)
      | inl above ↦
          elim (cases_lt c (from + size)) [
            | inr end ↦ let e : size ≡ c - from = omega arith in subst (λ m. Contains (cut_bounds bounds from size) m) e (cut_last bounds from size)
            | inl below ↦
                let back : c ≡ from + (c - from) = omega arith in
                cut_inner bounds from size (c - from) (subst (λ m. Contains bounds m) back inside) (omega arith) (omega arith)
          ]
    ]

-- a tile column within the cut is one of the cut's
span_cut : (bounds : List ℕ) (from size a b : ℕ) → from ≤ a → b ≤ from + size → IsSpan bounds a b → IsSpan (cut_bounds bounds from size) (a - from) (b - from)
span_cut bounds from size a b low high span =
    let up = span.rises in
    record {
      begins = cut_has bounds from size a span.begins low (omega arith);
      ends = cut_has bounds from size b span.ends (omega arith) high;
      rises = omega arith;
      next = λ c inside above.
          elim (cut_tells bounds from size c inside) [
            | inl first ↦ absurd (omega arith)
            | inr (inl end) ↦ omega arith
            | inr (inr is) ↦ let later = span.next (from + c) is.0 (omega arith) in omega arith
          ];
    }

-- and where no bound passes through, the cut has one tile column
span_whole : (bounds : List ℕ) (from size : ℕ) → 0 < size → NoneBetween bounds from (from + size) → IsSpan (cut_bounds bounds from size) 0 size
span_whole bounds from size some none = record {
  begins = cut_first bounds from size;
  ends = cut_last bounds from size;
  rises = some;
  next = λ c inside above.
      elim (cut_tells bounds from size c inside) [
        | inl first ↦ absurd (omega arith)
        | inr (inl end) ↦ omega arith
        | inr (inr is) ↦ let later = none (from + c) is.0 (omega arith) in omega (arith, is)
      ];
}

-- a tile column of the cut is one of the bounds', where both ends of the cut are bounds
bound_uncut : (bounds : List ℕ) (from size c : ℕ) → Contains bounds from → Contains bounds (from + size) → Contains (cut_bounds bounds from size) c → Contains bounds (from + c) × (c ≤ size)
bound_uncut bounds from size c begins ends inside =
    elim (cut_tells bounds from size c inside) [
      | inl first ↦ let e : from ≡ from + c = omega arith in (subst (λ m. Contains bounds m) e begins, omega arith)
      | inr (inl end) ↦ let e : from + size ≡ from + c = omega arith in (subst (λ m. Contains bounds m) e ends, omega arith)
      | inr (inr is) ↦ (is.0, omega (arith, is))
    ]

span_uncut : (bounds : List ℕ) (from size a b : ℕ) → Contains bounds from → Contains bounds (from + size) → IsSpan (cut_bounds bounds from size) a b → IsSpan bounds (from + a) (from + b) × (b ≤ size)
span_uncut bounds from size a b begins ends span =
    let up = span.rises in
    let first = bound_uncut bounds from size a begins ends span.begins in
    let second = bound_uncut bounds from size b begins ends span.ends in
    let within : b ≤ size = second.1 in (
      record {
        begins = first.0;
        ends = second.0;
        rises = omega arith;
        next = λ c inside above.
            elim (cases_lt c (from + size)) [
              | inr past ↦ omega arith
              | inl below ↦
                  let back : c ≡ from + (c - from) = omega arith in
                  let later : b ≤ c - from = span.next (c - from) (cut_inner bounds from size (c - from) (subst (λ m. Contains bounds m) back inside) (omega arith) (omega arith)) (omega arith) in
                  omega arith
            ];
      },
      within,
    )

-- the one tile column of a cut through which no bound passes
span_alone : (bounds : List ℕ) (from size a b : ℕ) → NoneBetween bounds from (from + size) → IsSpan (cut_bounds bounds from size) a b → (a ≡ 0) × (b ≡ size)
span_alone bounds from size a b none span =
    let up = span.rises in
    let only : (c : ℕ) → Contains (cut_bounds bounds from size) c → (0 ≡ c) ⊎ (size ≡ c) = λ c inside.
    elim (cut_tells bounds from size c inside) [
      | inl first ↦ inl first
      | inr (inl end) ↦ inr end
      | inr (inr is) ↦ let later = none (from + c) is.0 (omega (arith, is)) in absurd (omega (arith, is, later))
    ]
    in
    let final = span.next size (cut_last bounds from size) in
    elim (only a span.begins) [
      | inl first ↦ elim (only b span.ends) [ inl other ↦ absurd (omega arith) | inr end ↦ (omega arith, omega arith) ]
      | inr past ↦ elim (only b span.ends) [ inl other ↦ absurd (omega arith) | inr end ↦ absurd (omega arith) ]
    ]

-- a slice that holds a CTU stands within its subpicture's borders
within_from : (s r : Rect) → fits r s ≡ true → 0 < r.w → 0 < r.h → Within s r
within_from s r f wide high =
    elim (fits_tells r s f) [
      | inl (inl e) ↦ absurd (omega (arith, e))
      | inl (inr e) ↦ absurd (omega (arith, e))
      | inr q ↦ record { left = q.0; right = q.1; top = q.2; bottom = q.3 }
    ]

fits_counted : (s r t : Rect) → Within s r → Within s t → Within t r → fits (counted_from s r) (counted_from s t) ≡ true
fits_counted s r t r_in t_in within = fits_from (counted_from s r) (counted_from s t) (omega arith) (omega arith) (omega arith) (omega arith)

-- a tile's borders, counted
tile_cut : (columns rows : List ℕ) (s t : Rect) → Within s t → IsTile columns rows t → IsTile (cut_bounds columns s.x s.w) (cut_bounds rows s.y s.h) (counted_from s t)
tile_cut columns rows s t within tile =
    let right : t.x + t.w - s.x ≡ t.x - s.x + t.w = omega arith in
    let bottom : t.y + t.h - s.y ≡ t.y - s.y + t.h = omega arith in
    record {
      across = subst (λ m. IsSpan (cut_bounds columns s.x s.w) (t.x - s.x) m) right (span_cut columns s.x s.w t.x (t.x + t.w) within.left within.right tile.across);
      down = subst (λ m. IsSpan (cut_bounds rows s.y s.h) (t.y - s.y) m) bottom (span_cut rows s.y s.h t.y (t.y + t.h) within.top within.bottom tile.down);
    }

-- the shape of a slice, counted from its subpicture's corner
shape_counted : (columns rows : List ℕ) (s r : Rect) → 0 < s.w → 0 < s.h → SplitsWell columns rows s → fits r s ≡ true → 0 < r.w → 0 < r.h → AreTilesOrRows columns rows r →
    AreTilesOrRows (cut_bounds columns s.x s.w) (cut_bounds rows s.y s.h) (counted_from s r)
shape_counted columns rows s r some_w some_h well f wide high (inl tiles) =
    let within = within_from s r f wide high in
    let right : r.x + r.w - s.x ≡ r.x - s.x + r.w = omega arith in
    let bottom : r.y + r.h - s.y ≡ r.y - s.y + r.h = omega arith in
    inl (record {
      left = cut_has columns s.x s.w r.x tiles.left within.left (omega arith);
      right = subst (λ m. Contains (cut_bounds columns s.x s.w) m) right (cut_has columns s.x s.w (r.x + r.w) tiles.right (omega arith) within.right);
      top = cut_has rows s.y s.h r.y tiles.top within.top (omega arith);
      bottom = subst (λ m. Contains (cut_bounds rows s.y s.h) m) bottom (cut_has rows s.y s.h (r.y + r.h) tiles.bottom (omega arith) within.bottom);
    })
shape_counted columns rows s r some_w some_h well f wide high (inr (t, rows_of)) =
    let within = within_from s r f wide high in
    let in_tile = within_from t r rows_of.inside wide high in
    let sides = rows_of.sides in
    let here = corner_held r wide high in
    elim (well t rows_of.tile (r.x, r.y, holds-fits r t r.x r.y rows_of.inside here, holds-fits r s r.x r.y f here)) [
      | inl inside ↦
          let tile_in = within_from s t (LiesIn-fits t s inside) (omega arith) (omega arith) in
          inr (
            counted_from s t,
            record {
              tile = tile_cut columns rows s t tile_in rows_of.tile;
              sides = (omega arith, omega arith);
              inside = fits_counted s r t within tile_in in_tile;
            },
          )
      | inr held ↦
          let tile_over = within_from t s (LiesIn-fits s t held.0) some_w some_h in
          let same = held.1 in
          let none_x : NoneBetween columns s.x (s.x + s.w) = λ c inside above. let later = rows_of.tile.across.next c inside (omega arith) in omega arith in
          let none_y : NoneBetween rows s.y (s.y + s.h) = λ c inside above. let later = rows_of.tile.down.next c inside (omega arith) in omega arith in
          inr (
            whole_picture s.w s.h,
            record {
              tile = record {
                across = subst (λ m. IsSpan (cut_bounds columns s.x s.w) 0 m) (sym (zero-add s.w)) (span_whole columns s.x s.w some_w none_x);
                down = subst (λ m. IsSpan (cut_bounds rows s.y s.h) 0 m) (sym (zero-add s.h)) (span_whole rows s.y s.h some_h none_y);
              };
              sides = (omega arith, omega arith);
              inside = fits_from (counted_from s r) (whole_picture s.w s.h) (omega arith) (omega arith) (omega arith) (omega arith);
            },
          )
    ]

-- fewer rectangles stand together where all do
together_filter : (p : Rect → Bool) (t : Rect) (rects : List Rect) → StandTogether rects t → StandTogether (filter p rects) t
together_filter p t [] together = together
together_filter p t (r ∷ rs) together =
    let rest : StandTogether (filter p rs) t = together_filter p t rs (λ i j k d a b low. together (suc i) (suc j) (suc k) d (omega arith) (omega arith) (omega arith)) in
    elim (cases_Bool (p r)) [
      | inl on ↦ rw on (together_cons t r (filter p rs) (λ f. AllPairs-filter (Leads t) p rs (λ j k d a low g. together 0 (suc j) (suc k) d (omega arith) (omega arith) (omega arith) f g)) rest)
      | inr off ↦ rw off rest
    ]

fits_moved : (s r t : Rect) → Within s r → fits (counted_from s r) t ≡ true → fits r (moved_to s t) ≡ true
fits_moved s r t within f =
    elim (fits_tells (counted_from s r) t f) [
      | inl empty ↦ fits_empty r (moved_to s t) empty
      | inr q ↦ fits_from r (moved_to s t) (omega (arith, q)) (omega (arith, q)) (omega (arith, q)) (omega (arith, q))
    ]

fits_unmoved : (s r t : Rect) → Within s r → fits r (moved_to s t) ≡ true → fits (counted_from s r) t ≡ true
fits_unmoved s r t within f =
    elim (fits_tells r (moved_to s t) f) [
      | inl empty ↦ fits_empty (counted_from s r) t empty
      | inr q ↦ fits_from (counted_from s r) t (omega (arith, q)) (omega (arith, q)) (omega (arith, q)) (omega (arith, q))
    ]

together_counted : (s t : Rect) (rects : List Rect) → All (Within s) rects → StandTogether rects (moved_to s t) → StandTogether (map (counted_from s) rects) t
together_counted s t rects within together = λ i j k d a b low f g.
    let low_k : k < length rects = omega (arith, length-map rects (counted_from s)) in
    let at : (m : ℕ) → m < length rects → get_or (map (counted_from s) rects) m d ≡ counted_from s (get_or rects m d) = λ m short. get_or-map (counted_from s) rects m d d short in
    let low_i : i < length rects = omega arith in
    let low_j : j < length rects = omega arith in
    let first = fits_moved s (get_or rects i d) t (within i d low_i) (subst (λ r. fits r t ≡ true) (at i low_i) f) in
    let third = fits_moved s (get_or rects k d) t (within k d low_k) (subst (λ r. fits r t ≡ true) (at k low_k) g) in
    subst (λ r. fits r t ≡ true) (sym (at j low_j)) (fits_unmoved s (get_or rects j d) t (within j d low_j) (together i j k d a b low_k first third))

-- the slices in a tile of the region stand together
tile_together : (columns rows : List ℕ) (s t : Rect) (slices : List Rect) → SplitsAtLines columns rows s → All (Within s) slices → ((u : Rect) → IsTile columns rows u → StandTogether slices u) → IsTile (cut_bounds columns s.x s.w) (cut_bounds rows s.y s.h) t →
    StandTogether (map (counted_from s) slices) t
tile_together columns rows s t slices lines within together tile =
    elim lines.ends [
      | inl ends ↦
          let across = span_uncut columns s.x s.w t.x (t.x + t.w) lines.left lines.right tile.across in
          let down = span_uncut rows s.y s.h t.y (t.y + t.h) ends.0 ends.1 tile.down in
          together_counted s t slices within (together (moved_to s t) (tile_from columns rows s t across.0 down.0))
      | inr none ↦
          let across = span_alone columns s.x s.w t.x (t.x + t.w) none.0 tile.across in
          let down = span_alone rows s.y s.h t.y (t.y + t.h) none.1 tile.down in
          λ i j k d a b low f g.
          let low_j : j < length slices = omega (arith, length-map slices (counted_from s)) in
          let at = within j d low_j in
          let r : Rect = get_or slices j d in
          subst (λ u. fits u t ≡ true) (sym (get_or-map (counted_from s) slices j d d low_j))
          (fits_from (counted_from s r) t (omega (arith, at, across)) (omega (arith, at, across)) (omega (arith, at, down)) (omega (arith, at, down)))
    ]

pub region-listable : (n : Numbers) (k : ℕ) → HasLayout n → k < length n.subpics → AreListable n.columns n.rows n.slices →
    AreListable (region_of n k).columns (region_of n k).rows (region_of n k).slices
region-listable n k layout short listable =
    let s : Rect = subpic_at n k in
    let inside : Rect → Bool = λ r. fits r s in
    let part : IsPart (width n) (height n) s = layout.faultless.subpics.parts k no_rect short in
    let well : SplitsWell n.columns n.rows s = layout.faultless.tiles k no_rect short in
    let held : All HasCtu (slices_in n k) = All-filter inside HasCtu n.slices listable.some in
    let shaped : All (AreTilesOrRows n.columns n.rows) (slices_in n k) = All-filter inside (AreTilesOrRows n.columns n.rows) n.slices listable.shapes in
    let within : All (Within s) (slices_in n k) = λ i d low. within_from s (get_or (slices_in n k) i d) (all_fit n k i d low) (held i d low).0 (held i d low).1 in
    record {
      some = All-map HasCtu (counted_from s) (slices_in n k) held;
      shapes = All-map (AreTilesOrRows (region_of n k).columns (region_of n k).rows) (counted_from s) (slices_in n k)
          (λ i d low. shape_counted n.columns n.rows s (get_or (slices_in n k) i d) part.wide part.high well (all_fit n k i d low) (held i d low).0 (held i d low).1 (shaped i d low));
      together = λ t tile.
          tile_together n.columns n.rows s t (slices_in n k) (SplitsAtLines-from n.columns n.rows s layout.columns layout.rows part well) within
          (λ u tile_u. together_filter inside u n.slices (listable.together u tile_u)) tile;
    }
