-- The region of a subpicture where each subpicture is a slice: it has one slice, which is all of it.
use Rattle.std.proofs.Common.{◌≡◌, ℕ, ◌+◌, ◌<◌, List, [], ◌∷◌, length, get_or, map, refl, ap, ◌∙◌, subst, inl, arith}
use Rattle.std.specs.List.{All, AllZip, Contains}
use Rattle.std.proofs.lemmas.List.{get_or-map}
use Rattle.std.proofs.lemmas.List.Elements.{All-cons, All-head, All-nil, All-tail}
use Rattle.vx_layout.specs.declared.numbers.Numbers.{Numbers}
use Rattle.vx_layout.specs.declared.rect.Rect.{Rect}
use Rattle.vx_layout.specs.Faults.{height, width}
use Rattle.vx_layout.specs.Frames.{Fills, frame_slices}
use Rattle.vx_layout.specs.Layouts.{HasLayout, no_rect, subpic_at}
use Rattle.vx_layout.specs.Rects.{CoversOnce, IsPart, holds, slices_of_subpicture, whole_picture}
use Rattle.vx_layout.specs.Regions.{counted_from, cut_bounds, moved_to, region_of}
use Rattle.vx_layout.specs.Shapes.{AreListable, AreTilesOrRows, HasCtu}
use Rattle.vx_layout.proofs.Counting.{count_by-cons}
use Rattle.vx_layout.proofs.FrameSlices.{frame-counted}
use Rattle.vx_layout.proofs.Holding.{holds_from}
use Rattle.vx_layout.proofs.Moving.{cut_first, cut_last}

-- a picture of one slice
abbrev one_slice : Rect → List Rect
one_slice r = whole_picture r.w r.h ∷ []

fills : (w h : ℕ) (r : Rect) → IsPart w h r → Fills r (one_slice r)
fills w h r part = record {
  parts = All-cons (IsPart r.w r.h) (whole_picture r.w r.h) [] (record { wide = part.wide; high = part.high; across = omega arith; down = omega arith }) (All-nil (IsPart r.w r.h));
  once = λ x y within under. rw (count_by-cons (λ s. holds s x y) (whole_picture r.w r.h) [], holds_from (whole_picture r.w r.h) x y (omega arith) (omega (arith, within)) (omega arith) (omega (arith, under))) refl;
}

fill_all : (w h : ℕ) (rects : List Rect) → All (IsPart w h) rects → AllZip Fills rects (map one_slice rects)
fill_all w h [] parts = tt
fill_all w h (r ∷ rects) parts = (fills w h r (All-head (IsPart w h) r rects parts), fill_all w h rects (All-tail (IsPart w h) r rects parts))

-- moved to their rectangles they are these
moved_whole : (r : Rect) → moved_to r (whole_picture r.w r.h) ≡ r
moved_whole r = let across : 0 + r.x ≡ r.x = omega arith in let down : 0 + r.y ≡ r.y = omega arith in rw (across, down) refl

slices_are : (rects : List Rect) → frame_slices rects (map one_slice rects) ≡ rects
slices_are [] = refl
slices_are (r ∷ rects) = ap (λ s. s ∷ frame_slices rects (map one_slice rects)) (moved_whole r) ∙ ap (λ rs. r ∷ rs) (slices_are rects)

-- of rectangles that cover a picture once each is the only one that lies in it
pub only_one : (rects : List Rect) (w h k : ℕ) → All (IsPart w h) rects → CoversOnce rects w h → k < length rects
    → map (counted_from (get_or rects k no_rect)) (slices_of_subpicture rects (get_or rects k no_rect)) ≡ one_slice (get_or rects k no_rect)
only_one rects w h k parts cover short =
    subst (λ rs. map (counted_from (get_or rects k no_rect)) (slices_of_subpicture rs (get_or rects k no_rect)) ≡ get_or (map one_slice rects) k []) (slices_are rects)
    (frame-counted rects (map one_slice rects) w h k no_rect [] parts cover (fill_all w h rects parts) short)
    ∙ get_or-map one_slice rects k no_rect [] short

-- such a slice can be listed
whole_listable : (columns rows : List ℕ) (w h : ℕ) → 0 < w → 0 < h → Contains columns 0 → Contains columns w → Contains rows 0 → Contains rows h → AreListable columns rows (whole_picture w h ∷ [])
whole_listable columns rows w h wide high left right top bottom =
    let across : 0 + w ≡ w = omega arith in
    let down : 0 + h ≡ h = omega arith in
    record {
      some = All-cons HasCtu (whole_picture w h) [] (wide, high) (All-nil HasCtu);
      shapes = All-cons (AreTilesOrRows columns rows) (whole_picture w h) [] (inl (record { left = left; right = rw across right; top = top; bottom = rw down bottom })) (All-nil (AreTilesOrRows columns rows));
      together = λ t tile i j k d less more short first last. absurd (omega (arith, less, more, short));
    }

pub subpics_listable : (n : Numbers) (k : ℕ) → HasLayout n → n.slices ≡ n.subpics → k < length n.subpics → AreListable (region_of n k).columns (region_of n k).rows (region_of n k).slices
subpics_listable n k layout same short =
    let s : Rect = subpic_at n k in
    let cover = layout.faultless.subpics in
    let part : IsPart (width n) (height n) s = cover.parts k no_rect short in
    let slices : (region_of n k).slices ≡ one_slice s
    = ap (λ rs. map (counted_from s) (slices_of_subpicture rs s)) same ∙ only_one n.subpics (width n) (height n) k cover.parts cover.once short in
    rw slices (whole_listable (cut_bounds n.columns s.x s.w) (cut_bounds n.rows s.y s.h) s.w s.h part.wide part.high
    (cut_first n.columns s.x s.w) (cut_last n.columns s.x s.w) (cut_first n.rows s.y s.h) (cut_last n.rows s.y s.h))
