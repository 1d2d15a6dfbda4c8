-- A picture's bounds, tile columns and tile rows, and tiles as those of the frame that it stands in.
use Rattle.std.proofs.Common.{◌≡◌, ℕ, ◌+◌, ◌-◌, ◌<◌, ◌≤◌, true, List, sym, subst, inl, inr, arith, ◌⊎◌}
use Rattle.std.proofs.lemmas.Bool.{cases_lt}
use Rattle.std.specs.List.{Contains}
use Rattle.vx_layout.specs.declared.numbers.Numbers.{Numbers}
use Rattle.vx_layout.specs.declared.rect.Rect.{Rect}
use Rattle.vx_layout.specs.Borders.{SameInside}
use Rattle.vx_layout.specs.Bounds.{Rises, last}
use Rattle.vx_layout.specs.Faults.{IsSpan, IsTile, NoneBetween}
use Rattle.vx_layout.specs.Frames.{IsPlaced}
use Rattle.vx_layout.specs.Rects.{fits}
use Rattle.vx_layout.specs.Regions.{counted_from, moved_to}
use Rattle.vx_layout.proofs.FrameSlices.{Apart}
use Rattle.vx_layout.proofs.Holding.{fits_from, holds_tells}
use Rattle.vx_layout.proofs.Rising.{Contains-first, Contains-last, Contains-le-last}

-- `own` are the bounds of a picture that stands at `from`: there the bounds are its own, and where it begins and ends there are bounds
pub record HasLines (bounds : List ℕ) (from : ℕ) (own : List ℕ) : Type 0 where
  pub begins : Contains bounds from
  pub ends : Contains bounds (from + last own)
  pub inside : SameInside bounds from own

has_lines : (bounds own : List ℕ) (from size : ℕ) → last own ≡ size → Contains bounds from → Contains bounds (from + size) → SameInside bounds from own → HasLines bounds from own
has_lines bounds own from size long begins ends inside = record { begins = begins; ends = subst (λ m. Contains bounds (from + m)) (sym long) ends; inside = inside }

-- so it is with the columns, and with the rows where the region's upper and lower borders are bounds
pub lines_across : (columns rows : List ℕ) (s : Rect) (n : Numbers) → IsPlaced columns rows s n → HasLines columns s.x n.columns
lines_across columns rows s n placed = has_lines columns n.columns s.x s.w placed.wide placed.borders.left placed.borders.right placed.across

pub lines_down : (columns rows : List ℕ) (s : Rect) (n : Numbers) → IsPlaced columns rows s n → Contains rows s.y → Contains rows (s.y + s.h) → HasLines rows s.y n.rows
lines_down columns rows s n placed begins ends = has_lines rows n.rows s.y s.h placed.high begins ends placed.down

-- a picture's bounds and spans are the frame's, moved
pub bound_there : (bounds own : List ℕ) (from c : ℕ) → Rises own → HasLines bounds from own → Contains own c → Contains bounds (from + c)
bound_there bounds own from c rises lines inside =
    let upto = Contains-le-last own c rises inside in
    elim (cases_lt 0 c) [
      | inr first ↦ let e : from ≡ from + c = omega arith in subst (λ m. Contains bounds m) e lines.begins
      | inl above ↦
          elim (cases_lt c (last own)) [
            | inl below ↦ (lines.inside c above below).1 inside
            | inr past ↦ let e : from + last own ≡ from + c = omega arith in subst (λ m. Contains bounds m) e lines.ends
          ]
    ]

bound_back : (bounds own : List ℕ) (from c : ℕ) → Rises own → 0 < last own → HasLines bounds from own → c ≤ last own → Contains bounds (from + c) → Contains own c
bound_back bounds own from c rises some lines upto inside =
    elim (cases_lt 0 c) [
      | inr first ↦ let e : 0 ≡ c = omega arith in subst (λ m. Contains own m) e (Contains-first own rises some)
      | inl above ↦
          elim (cases_lt c (last own)) [
            | inl below ↦ (lines.inside c above below).0 inside
            | inr past ↦ let e : last own ≡ c = omega arith in subst (λ m. Contains own m) e (Contains-last own some)
          ]
    ]

span_there : (bounds own : List ℕ) (from a b : ℕ) → Rises own → HasLines bounds from own → IsSpan own a b → IsSpan bounds (from + a) (from + b)
span_there bounds own from a b rises lines span =
    let upto = Contains-le-last own b rises span.ends in
    let up = span.rises in
    record {
      begins = bound_there bounds own from a rises lines span.begins;
      ends = bound_there bounds own from b rises lines span.ends;
      rises = omega arith;
      next = λ c inside above.
          elim (cases_lt c (from + last own)) [
            | inr past ↦ omega arith
            | inl under ↦
                let there : c ≡ from + (c - from) = omega arith in
                let own_has : Contains own (c - from) = (lines.inside (c - from) (omega arith) (omega arith)).0 (subst (λ m. Contains bounds m) there inside) in
                let later : b ≤ c - from = span.next (c - from) own_has (omega arith) in
                omega arith
          ];
    }

span_back : (bounds own : List ℕ) (from a b : ℕ) → Rises own → HasLines bounds from own → b ≤ last own → IsSpan bounds (from + a) (from + b) → IsSpan own a b
span_back bounds own from a b rises lines upto span =
    let up = span.rises in
    record {
      begins = bound_back bounds own from a rises (omega arith) lines (omega arith) span.begins;
      ends = bound_back bounds own from b rises (omega arith) lines upto span.ends;
      rises = omega arith;
      next = λ c inside above. let later = span.next (from + c) (bound_there bounds own from c rises lines inside) (omega arith) in omega arith;
    }

-- and so are its tiles
pub tile_from : (columns rows : List ℕ) (s t : Rect) → IsSpan columns (s.x + t.x) (s.x + (t.x + t.w)) → IsSpan rows (s.y + t.y) (s.y + (t.y + t.h)) → IsTile columns rows (moved_to s t)
tile_from columns rows s t across down =
    let left : s.x + t.x ≡ t.x + s.x = omega arith in
    let right : s.x + (t.x + t.w) ≡ t.x + s.x + t.w = omega arith in
    let top : s.y + t.y ≡ t.y + s.y = omega arith in
    let bottom : s.y + (t.y + t.h) ≡ t.y + s.y + t.h = omega arith in
    record {
      across = subst (λ m. IsSpan columns m (t.x + s.x + t.w)) left (subst (λ m. IsSpan columns (s.x + t.x) m) right across);
      down = subst (λ m. IsSpan rows m (t.y + s.y + t.h)) top (subst (λ m. IsSpan rows (s.y + t.y) m) bottom down);
    }

pub tile_there : (columns rows : List ℕ) (s t : Rect) (n : Numbers) → IsPlaced columns rows s n → HasLines rows s.y n.rows → IsTile n.columns n.rows t → IsTile columns rows (moved_to s t)
tile_there columns rows s t n placed down tile =
    tile_from columns rows s t (span_there columns n.columns s.x t.x (t.x + t.w) placed.layout.columns (lines_across columns rows s n placed) tile.across)
    (span_there rows n.rows s.y t.y (t.y + t.h) placed.layout.rows down tile.down)

-- a rectangle's borders within another's
pub record Within (s t : Rect) : Type 0 where
  pub left : s.x ≤ t.x
  pub right : t.x + t.w ≤ s.x + s.w
  pub top : s.y ≤ t.y
  pub bottom : t.y + t.h ≤ s.y + s.h

pub tile_back : (columns rows : List ℕ) (s t : Rect) (n : Numbers) → IsPlaced columns rows s n → HasLines rows s.y n.rows → Within s t → IsTile columns rows t → IsTile n.columns n.rows (counted_from s t)
tile_back columns rows s t n placed lines within tile =
    let left : t.x ≡ s.x + (t.x - s.x) = omega arith in
    let right : t.x + t.w ≡ s.x + (t.x - s.x + t.w) = omega arith in
    let top : t.y ≡ s.y + (t.y - s.y) = omega arith in
    let bottom : t.y + t.h ≡ s.y + (t.y - s.y + t.h) = omega arith in
    record {
      across = span_back columns n.columns s.x (t.x - s.x) (t.x - s.x + t.w) placed.layout.columns (lines_across columns rows s n placed) (omega (arith, placed.wide))
          (subst (λ m. IsSpan columns m (s.x + (t.x - s.x + t.w))) left (subst (λ m. IsSpan columns t.x m) right tile.across));
      down = span_back rows n.rows s.y (t.y - s.y) (t.y - s.y + t.h) placed.layout.rows lines (omega (arith, placed.high))
          (subst (λ m. IsSpan rows m (s.y + (t.y - s.y + t.h))) top (subst (λ m. IsSpan rows t.y m) bottom tile.down));
    }

-- a span lies between two bounds, or beyond one of them
pub span_beside : (bounds : List ℕ) (low high a b : ℕ) → Contains bounds low → Contains bounds high → IsSpan bounds a b → ((low ≤ a) × (b ≤ high)) ⊎ ((b ≤ low) ⊎ (high ≤ a))
span_beside bounds low high a b has_low has_high span =
    elim (cases_lt a low) [
      | inl before ↦ inr (inl (span.next low has_low before))
      | inr from ↦ elim (cases_lt a high) [ inl under ↦ inl (from, span.next high has_high under) | inr past ↦ inr (inr past) ]
    ]

-- where no bound stands strictly between two numbers, a span holds what is between them, or lies beyond one of them
span_free : (bounds : List ℕ) (low high a b : ℕ) → NoneBetween bounds low high → IsSpan bounds a b → ((a ≤ low) × (high ≤ b)) ⊎ ((high ≤ a) ⊎ (b ≤ low))
span_free bounds low high a b none span =
    elim (cases_lt low a) [
      | inl behind ↦ inr (inl (none a span.begins behind))
      | inr from ↦ elim (cases_lt low b) [ inl under ↦ inl (from, none b span.ends under) | inr past ↦ inr (inr past) ]
    ]

-- a rectangle lies in a tile, or shares no CTU with it
abbrev pub Beside : Rect → Rect → Type 0
Beside t s = (fits s t ≡ true) ⊎ Apart t s

apart_across : (t s : Rect) → (t.x + t.w ≤ s.x) ⊎ (s.x + s.w ≤ t.x) → Apart t s
apart_across t s out = λ x y on_t on_s.
    let p = holds_tells t x y on_t in
    let q = holds_tells s x y on_s in
    elim out [ inl e ↦ absurd (omega (arith, p, q, e)) | inr e ↦ absurd (omega (arith, p, q, e)) ]

apart_down : (t s : Rect) → (t.y + t.h ≤ s.y) ⊎ (s.y + s.h ≤ t.y) → Apart t s
apart_down t s out = λ x y on_t on_s.
    let p = holds_tells t x y on_t in
    let q = holds_tells s x y on_s in
    elim out [ inl e ↦ absurd (omega (arith, p, q, e)) | inr e ↦ absurd (omega (arith, p, q, e)) ]

other_way : {P Q : Type 0} → P ⊎ Q → Q ⊎ P
other_way (inl p) = inr p
other_way (inr q) = inl q

-- a tile of the frame lies in a region, holds it, or shares no CTU with it
pub tile_place : (columns rows : List ℕ) (s t : Rect) (n : Numbers) → IsPlaced columns rows s n → IsTile columns rows t → (Within s t × HasLines rows s.y n.rows) ⊎ Beside t s
tile_place columns rows s t n placed tile =
    elim placed.borders.ends [
      | inl ends ↦
          elim (span_beside columns s.x (s.x + s.w) t.x (t.x + t.w) placed.borders.left placed.borders.right tile.across) [
            | inr out ↦ inr (inr (apart_across t s out))
            | inl across ↦
                elim (span_beside rows s.y (s.y + s.h) t.y (t.y + t.h) ends.0 ends.1 tile.down) [
                  | inr out ↦ inr (inr (apart_down t s out))
                  | inl down ↦ inl (record { left = across.0; right = across.1; top = down.0; bottom = down.1 }, lines_down columns rows s n placed ends.0 ends.1)
                ]
          ]
      | inr free ↦
          elim (span_free columns s.x (s.x + s.w) t.x (t.x + t.w) free.0 tile.across) [
            | inr out ↦ inr (inr (apart_across t s (other_way out)))
            | inl across ↦
                elim (span_free rows s.y (s.y + s.h) t.y (t.y + t.h) free.1 tile.down) [
                  | inr out ↦ inr (inr (apart_down t s (other_way out)))
                  | inl down ↦ inr (inl (fits_from s t across.0 across.1 down.0 down.1))
                ]
          ]
    ]
