-- The slices of a frame are made of its tiles as those of its pictures are of theirs.
use Rattle.std.proofs.Common.{◌≡◌, ℕ, ◌+◌, ◌-◌, ◌≤◌, List, [], ◌∷◌, get_or, map, refl, sym, subst, inl, inr, arith, ◌⊎◌}
use Rattle.std.proofs.lemmas.Bool.{cases_lt}
use Rattle.std.proofs.lemmas.List.Elements.{All-append, All-head, All-map, All-nil, All-tail}
use Rattle.std.specs.List.{All, AllZip, Contains}
use Rattle.vx_layout.specs.declared.numbers.Numbers.{Numbers}
use Rattle.vx_layout.specs.declared.rect.Rect.{Rect}
use Rattle.vx_layout.specs.Borders.{SameInside}
use Rattle.vx_layout.specs.Bounds.{Rises, last}
use Rattle.vx_layout.specs.Faults.{IsSpan, IsTile, NoneBetween}
use Rattle.vx_layout.specs.Frames.{IsPlaced, frame_slices}
use Rattle.vx_layout.specs.Rects.{IsPart}
use Rattle.vx_layout.specs.Regions.{moved_to}
use Rattle.vx_layout.specs.Shapes.{AreListable, AreTilesOrRows}
use Rattle.vx_layout.proofs.FrameLines.{HasLines, bound_there, lines_across, lines_down, tile_there}
use Rattle.vx_layout.proofs.FrameWhole.{slices_fill}
use Rattle.vx_layout.proofs.Holding.{fits_empty, fits_from, fits_tells}
use Rattle.vx_layout.proofs.Rising.{Contains-le-last}
use Rattle.vx_layout.proofs.Splitting.{span_at}

-- the shape of a slice, moved, where all borders of the region are bounds
shape_lined : (columns rows : List ℕ) (s r : Rect) (n : Numbers) → IsPlaced columns rows s n → HasLines rows s.y n.rows → AreTilesOrRows n.columns n.rows r → AreTilesOrRows columns rows (moved_to s r)
shape_lined columns rows s r n placed lines (inl tiles) =
    let at : (c : ℕ) → Contains n.columns c → Contains columns (s.x + c) = λ c. bound_there columns n.columns s.x c placed.layout.columns (lines_across columns rows s n placed) in
    let down : (c : ℕ) → Contains n.rows c → Contains rows (s.y + c) = λ c. bound_there rows n.rows s.y c placed.layout.rows lines in
    let left : s.x + r.x ≡ r.x + s.x = omega arith in
    let right : s.x + (r.x + r.w) ≡ r.x + s.x + r.w = omega arith in
    let top : s.y + r.y ≡ r.y + s.y = omega arith in
    let bottom : s.y + (r.y + r.h) ≡ r.y + s.y + r.h = omega arith in
    inl (record {
      left = subst (λ m. Contains columns m) left (at r.x tiles.left);
      right = subst (λ m. Contains columns m) right (at (r.x + r.w) tiles.right);
      top = subst (λ m. Contains rows m) top (down r.y tiles.top);
      bottom = subst (λ m. Contains rows m) bottom (down (r.y + r.h) tiles.bottom);
    })
shape_lined columns rows s r n placed lines (inr (t, rows_of)) =
    let sides = rows_of.sides in
    inr (
      moved_to s t,
      record {
        tile = tile_there columns rows s t n placed lines rows_of.tile;
        sides = (omega arith, omega arith);
        inside = elim (fits_tells r t rows_of.inside) [
          | inl empty ↦ fits_empty (moved_to s r) (moved_to s t) empty
          | inr q ↦ fits_from (moved_to s r) (moved_to s t) (omega (arith, q)) (omega (arith, q)) (omega (arith, q)) (omega (arith, q))
        ];
      },
    )

-- where no bound passes through a picture, its own are only its borders
own_ends : (bounds own : List ℕ) (from c : ℕ) → Rises own → SameInside bounds from own → NoneBetween bounds from (from + last own) → Contains own c → (0 ≡ c) ⊎ (last own ≡ c)
own_ends bounds own from c rises same none inside =
    let upto = Contains-le-last own c rises inside in
    elim (cases_lt 0 c) [
      | inr first ↦ inl (omega arith)
      | inl above ↦
          elim (cases_lt c (last own)) [
            | inr past ↦ inr (omega arith)
            | inl below ↦ let beyond : from + last own ≤ from + c = none (from + c) ((same c above below).1 inside) (omega arith) in absurd (omega arith)
          ]
    ]

-- a slice's left and right borders are bounds
sides_are_bounds : (columns rows : List ℕ) (r : Rect) → AreTilesOrRows columns rows r → Contains columns r.x × Contains columns (r.x + r.w)
sides_are_bounds columns rows r (inl tiles) = (tiles.left, tiles.right)
sides_are_bounds columns rows r (inr (t, rows_of)) =
    (subst (λ m. Contains columns m) (sym rows_of.sides.0) rows_of.tile.across.begins, subst (λ m. Contains columns m) (sym rows_of.sides.1) rows_of.tile.across.ends)

-- so where no bound passes through, each slice has the picture's left and right borders
own_sides : (columns rows : List ℕ) (s r : Rect) (n : Numbers) → IsPlaced columns rows s n → NoneBetween columns s.x (s.x + s.w) → IsPart s.w s.h r → AreTilesOrRows n.columns n.rows r → (r.x ≡ 0) × (r.w ≡ s.w)
own_sides columns rows s r n placed none part shape =
    let sides = sides_are_bounds n.columns n.rows r shape in
    let free : NoneBetween columns s.x (s.x + last n.columns) = subst (λ m. NoneBetween columns s.x (s.x + m)) (sym placed.wide) none in
    let wide = part.wide in
    let across = part.across in
    let size : last n.columns ≡ s.w = placed.wide in
    let left : r.x ≡ 0 = elim (own_ends columns n.columns s.x r.x placed.layout.columns placed.across free sides.0) [ inl e ↦ sym e | inr e ↦ absurd (omega arith) ] in
    (left, elim (own_ends columns n.columns s.x (r.x + r.w) placed.layout.columns placed.across free sides.1) [ inl e ↦ absurd (omega arith) | inr e ↦ omega arith ])

-- the tile that a region lies in, which no bound passes through
record Over (columns rows : List ℕ) (s : Rect) : Type 0 where
  t : Rect
  tile : IsTile columns rows t
  left : t.x ≡ s.x
  wide : t.w ≡ s.w
  top : t.y ≤ s.y
  bottom : s.y + s.h ≤ t.y + t.h

tile_over : (columns rows : List ℕ) (s : Rect) → Rises rows → IsPart (last columns) (last rows) s → Contains columns s.x → Contains columns (s.x + s.w)
    → NoneBetween columns s.x (s.x + s.w) → NoneBetween rows s.y (s.y + s.h) → Over columns rows s
tile_over columns rows s rises part left right free_across free_down =
    let at = span_at rows s.y rises (omega (arith, part.high, part.down)) in
    let down = at.span.rises in
    let low = at.low in
    let to_end : at.a + (at.b - at.a) ≡ at.b = omega arith in
    let below : s.y + s.h ≤ at.b = free_down at.b at.span.ends at.high in
    record {
      t = record { x = s.x; y = at.a; w = s.w; h = at.b - at.a };
      tile = record {
        across = record { begins = left; ends = right; rises = omega (arith, part.wide); next = free_across };
        down = subst (λ m. IsSpan rows at.a m) (sym to_end) at.span;
      };
      left = refl;
      wide = refl;
      top = low;
      bottom = omega arith;
    }

-- the shape of a slice, moved, where no bound passes through the region: rows of the tile that the region lies in
shape_held : (columns rows : List ℕ) (s r : Rect) → Over columns rows s → (r.x ≡ 0) × (r.w ≡ s.w) → IsPart s.w s.h r → AreTilesOrRows columns rows (moved_to s r)
shape_held columns rows s r over sides part =
    let t : Rect = over.t in
    let same : (r.x + s.x ≡ t.x) × (r.x + s.x + r.w ≡ t.x + t.w) = (omega (arith, over.left, sides), omega (arith, over.left, over.wide, sides)) in
    inr (
      t,
      record {
        tile = over.tile;
        sides = same;
        inside = fits_from (moved_to s r) t (omega (arith, same)) (omega (arith, same)) (omega (arith, over.top)) (omega (arith, over.bottom, part.down));
      },
    )

shape_there : (columns rows : List ℕ) (s r : Rect) (n : Numbers) → Rises rows → IsPart (last columns) (last rows) s → IsPlaced columns rows s n → IsPart s.w s.h r → AreTilesOrRows n.columns n.rows r → AreTilesOrRows columns rows (moved_to s r)
shape_there columns rows s r n rises inside placed part shape =
    elim placed.borders.ends [
      | inl ends ↦ shape_lined columns rows s r n placed (lines_down columns rows s n placed ends.0 ends.1) shape
      | inr free ↦
          shape_held columns rows s r (tile_over columns rows s rises inside placed.borders.left placed.borders.right free.0 free.1)
          (own_sides columns rows s r n placed free.0 part shape) part
    ]

pub shapes_there : (columns rows : List ℕ) (regions : List Rect) (pictures : List Numbers) → Rises rows → All (IsPart (last columns) (last rows)) regions → AllZip (IsPlaced columns rows) regions pictures
    → All (λ p. AreListable p.columns p.rows p.slices) pictures → All (AreTilesOrRows columns rows) (frame_slices regions (map (λ p. p.slices) pictures))
shapes_there columns rows [] pictures rises parts all_placed listable = All-nil (AreTilesOrRows columns rows)
shapes_there columns rows (s ∷ ss) [] rises parts all_placed listable = absurd all_placed
shapes_there columns rows (s ∷ ss) (p ∷ ps) rises parts all_placed listable =
    let L : Numbers → Type 0 = λ q. AreListable q.columns q.rows q.slices in
    let P : Rect → Type 0 = IsPart (last columns) (last rows) in
    let mine = All-head L p ps listable in
    let fill = slices_fill columns rows s p all_placed.0 in
    All-append (AreTilesOrRows columns rows) (map (moved_to s) p.slices) (frame_slices ss (map (λ q. q.slices) ps))
    (All-map (AreTilesOrRows columns rows) (moved_to s) p.slices
    (λ k d low. shape_there columns rows s (get_or p.slices k d) p rises (All-head P s ss parts) all_placed.0 (fill.parts k d low) (mine.shapes k d low)))
    (shapes_there columns rows ss ps rises (All-tail P s ss parts) all_placed.1 (All-tail L p ps listable))
