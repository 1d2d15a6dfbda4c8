-- A frame of pictures that stand in its regions is a layout, and its regions are the pictures.
use Rattle.std.proofs.Common.{◌≡◌, ℕ, ◌-◌, ◌<◌, true, cond, List, [], ◌∷◌, length, get_or, count_by, map, ap, sym, ◌∙◌, subst, inl, inr, arith}
use Rattle.std.proofs.lemmas.Bool.{cases_Bool}
use Rattle.std.proofs.lemmas.List.{append-nil, get_or-map}
use Rattle.std.proofs.lemmas.List.Elements.{All-cons, All-head, All-nil}
use Rattle.std.specs.List.{All, AllPairs, AllZip}
use Rattle.vx_layout.specs.declared.numbers.Numbers.{Numbers}
use Rattle.vx_layout.specs.declared.rect.Rect.{Rect}
use Rattle.vx_layout.specs.Bounds.{Rises, last}
use Rattle.vx_layout.specs.Faults.{IsLayout, SplitsWell, SubpicsCover, height, width}
use Rattle.vx_layout.specs.Frames.{Fills, IsPlaced, frame_of, frame_slices, with_one_subpic}
use Rattle.vx_layout.specs.Layouts.{no_rect}
use Rattle.vx_layout.specs.Rects.{CoversOnce, IsPart, Precedes, fits, holds, in_order, slices_of_subpicture, whole_picture}
use Rattle.vx_layout.specs.Regions.{cut_bounds, region_of}
use Rattle.vx_layout.proofs.Alone.{layout-alone}
use Rattle.vx_layout.proofs.Counting.{count_by-cons, slices_all}
use Rattle.vx_layout.proofs.FrameBounds.{cut-own}
use Rattle.vx_layout.proofs.FrameSlices.{AllZip-at, AllZip-long, frame-counted, frame-fit, frame-in_order, frame-once, frame-order}
use Rattle.vx_layout.proofs.Holding.{fits_empty, fits_from, fits_tells, holds_tells, same_rect}
use Rattle.vx_layout.proofs.Nested.{same_numbers}
use Rattle.vx_layout.proofs.Splitting.{SplitsWell-from}

alone_holds : (r : Rect) (x y : ℕ) → count_by (λ s. holds s x y) (r ∷ []) ≡ 1 → holds r x y ≡ true
alone_holds r x y one =
    elim (cases_Bool (holds r x y)) [
      | inl on ↦ on
      | inr off ↦
          let none : cond {A = ℕ} (holds r x y) 1 0 ≡ 0 = ap (λ t. cond t 1 0) off in
          absurd (omega (arith, one, none, count_by-cons (λ s. holds s x y) r []))
    ]

-- one rectangle that covers a picture is the picture
lone_is : (rects : List Rect) (w h : ℕ) → All (IsPart w h) rects → CoversOnce rects w h → length rects ≡ 1 → rects ≡ whole_picture w h ∷ []
lone_is [] w h parts cover one = absurd (omega arith)
lone_is (r ∷ s ∷ rs) w h parts cover one = absurd (omega arith)
lone_is (r ∷ []) w h parts cover one =
    let part : IsPart w h r = All-head (IsPart w h) r [] parts in
    let in_w : 0 < w = omega (arith, part.wide, part.across) in
    let in_h : 0 < h = omega (arith, part.high, part.down) in
    let p = holds_tells r 0 0 (alone_holds r 0 0 (cover 0 0 in_w in_h)) in
    let q = holds_tells r (w - 1) (h - 1) (alone_holds r (w - 1) (h - 1) (cover (w - 1) (h - 1) (omega arith) (omega arith))) in
    ap (λ t. t ∷ []) (same_rect r (whole_picture w h) (omega (arith, p)) (omega (arith, p)) (omega (arith, p, q, part.across)) (omega (arith, p, q, part.down)))

-- the slices of a picture that stands in a region
pub slices_fill : (columns rows : List ℕ) (s : Rect) (n : Numbers) → IsPlaced columns rows s n → Fills s n.slices
slices_fill columns rows s n placed =
    let l = placed.layout.faultless in
    record {
      parts = λ k d low.
          let r : Rect = get_or n.slices k d in
          let some = l.split k d low in
          let part : IsPart (width n) (height n) some.1 = subst (λ t. IsPart (width n) (height n) t) some.3 (l.subpics.parts some.0 some.1 some.2) in
          let ctu = placed.slices k d low in
          elim (fits_tells r some.1 some.4) [
            | inl (inl e) ↦ absurd (omega (arith, e, ctu))
            | inl (inr e) ↦ absurd (omega (arith, e, ctu))
            | inr q ↦ record {
              wide = ctu.0;
              high = ctu.1;
              across = omega (arith, q, part.across, placed.wide);
              down = omega (arith, q, part.down, placed.high);
            }
          ];
      once = λ x y v u. l.slices x y (omega (arith, placed.wide)) (omega (arith, placed.high));
    }

slices_ordered : (columns rows : List ℕ) (s : Rect) (n : Numbers) → IsPlaced columns rows s n → AllPairs Precedes n.slices
slices_ordered columns rows s n placed =
    let l = placed.layout.faultless in
    let fill : Fills s n.slices = slices_fill columns rows s n placed in
    let all : Rect = whole_picture (width n) (height n) in
    let lone : n.subpics ≡ all ∷ [] = lone_is n.subpics (width n) (height n) l.subpics.parts l.subpics.once placed.lone in
    let fit : All (λ r. fits r all ≡ true) n.slices = λ k d low.
    let part = fill.parts k d low in
    fits_from (get_or n.slices k d) all (omega arith) (omega (arith, part.across, placed.wide)) (omega arith) (omega (arith, part.down, placed.high))
    in
    let same : in_order n.slices n.subpics ≡ n.slices = ap (λ t. in_order n.slices t) lone ∙ (append-nil (slices_of_subpicture n.slices all) ∙ slices_all n.slices all fit) in
    subst (AllPairs Precedes) same l.order

pub fill_each : (columns rows : List ℕ) (regions : List Rect) (pictures : List Numbers) → AllZip (IsPlaced columns rows) regions pictures → AllZip Fills regions (map (λ p. p.slices) pictures)
fill_each columns rows [] [] all_placed = tt
fill_each columns rows [] (p ∷ ps) all_placed = absurd all_placed
fill_each columns rows (s ∷ ss) [] all_placed = absurd all_placed
fill_each columns rows (s ∷ ss) (p ∷ ps) all_placed = (slices_fill columns rows s p all_placed.0, fill_each columns rows ss ps all_placed.1)

order_each : (columns rows : List ℕ) (regions : List Rect) (pictures : List Numbers) → AllZip (IsPlaced columns rows) regions pictures → All (AllPairs Precedes) (map (λ p. p.slices) pictures)
order_each columns rows [] [] all_placed = All-nil (AllPairs Precedes)
order_each columns rows [] (p ∷ ps) all_placed = absurd all_placed
order_each columns rows (s ∷ ss) [] all_placed = absurd all_placed
order_each columns rows (s ∷ ss) (p ∷ ps) all_placed = All-cons (AllPairs Precedes) p.slices (map (λ q. q.slices) ps) (slices_ordered columns rows s p all_placed.0) (order_each columns rows ss ps all_placed.1)

split_each : (columns rows : List ℕ) (regions : List Rect) (pictures : List Numbers) → AllZip (IsPlaced columns rows) regions pictures → All (SplitsWell columns rows) regions
split_each columns rows [] pictures all_placed = All-nil (SplitsWell columns rows)
split_each columns rows (s ∷ ss) [] all_placed = absurd all_placed
split_each columns rows (s ∷ ss) (p ∷ ps) all_placed =
    All-cons (SplitsWell columns rows) s ss
    (SplitsWell-from columns rows s all_placed.0.borders)
    (split_each columns rows ss ps all_placed.1)

pub frame-layout : (columns rows : List ℕ) (regions : List Rect) (pictures : List Numbers) → SubpicsCover (frame_of columns rows regions pictures) → AllPairs Precedes regions → AllZip (IsPlaced columns rows) regions pictures → IsLayout (frame_of columns rows regions pictures)
frame-layout columns rows regions pictures cover order all_placed =
    let slices : List (List Rect) = map (λ p. p.slices) pictures in
    let fill : AllZip Fills regions slices = fill_each columns rows regions pictures all_placed in
    record {
      subpics = cover;
      tiles = split_each columns rows regions pictures all_placed;
      slices = frame-once regions slices (last columns) (last rows) cover.once fill;
      split = frame-fit regions slices fill;
      order = subst (AllPairs Precedes) (sym (frame-in_order regions slices (last columns) (last rows) cover.parts cover.once fill)) (frame-order regions slices order fill (order_each columns rows regions pictures all_placed));
    }

pub frame-region : (columns rows : List ℕ) (regions : List Rect) (pictures : List Numbers) (k : ℕ) (d : Numbers) → Rises columns → Rises rows → SubpicsCover (frame_of columns rows regions pictures) → AllZip (IsPlaced columns rows) regions pictures → k < length regions →
    region_of (frame_of columns rows regions pictures) k ≡ get_or pictures k d
frame-region columns rows regions pictures k d columns_rise rows_rise cover all_placed short =
    let s : Rect = get_or regions k no_rect in
    let n : Numbers = get_or pictures k d in
    let part : IsPart (last columns) (last rows) s = cover.parts k no_rect short in
    let placed : IsPlaced columns rows s n = AllZip-at (IsPlaced columns rows) regions pictures k no_rect d all_placed short in
    let slices : List (List Rect) = map (λ p. p.slices) pictures in
    let fill : AllZip Fills regions slices = fill_each columns rows regions pictures all_placed in
    let l = placed.layout.faultless in
    let lone : n.subpics ≡ whole_picture (width n) (height n) ∷ [] = lone_is n.subpics (width n) (height n) l.subpics.parts l.subpics.once placed.lone in
    let sized : whole_picture (width n) (height n) ≡ whole_picture s.w s.h = ap (λ w. whole_picture w (height n)) placed.wide ∙ ap (λ h. whole_picture s.w h) placed.high in
    same_numbers (region_of (frame_of columns rows regions pictures) k) n
    (subst (λ m. cut_bounds columns s.x m ≡ n.columns) placed.wide (cut-own columns n.columns s.x columns_rise placed.layout.columns (omega (arith, placed.wide, part.wide)) placed.across))
    (subst (λ m. cut_bounds rows s.y m ≡ n.rows) placed.high (cut-own rows n.rows s.y rows_rise placed.layout.rows (omega (arith, placed.high, part.high)) placed.down))
    (frame-counted regions slices (last columns) (last rows) k no_rect [] cover.parts cover.once fill short ∙ get_or-map (λ p. p.slices) pictures k d [] (omega (arith, AllZip-long (IsPlaced columns rows) regions pictures all_placed)))
    (sym (lone ∙ ap (λ t. t ∷ []) sized))

pub frame-alone : (columns rows : List ℕ) (regions : List Rect) (pictures : List Numbers) → Rises columns → Rises rows → 0 < length regions → SubpicsCover (frame_of columns rows regions pictures) → AllPairs Precedes regions → AllZip (IsPlaced columns rows) regions pictures →
    IsLayout (with_one_subpic (frame_of columns rows regions pictures))
frame-alone columns rows regions pictures columns_rise rows_rise some cover order all_placed =
    let slices : List (List Rect) = map (λ p. p.slices) pictures in
    let fill : AllZip Fills regions slices = fill_each columns rows regions pictures all_placed in
    let all : Rect = whole_picture (last columns) (last rows) in
    let first = cover.parts 0 no_rect some in
    let fit : All (λ r. fits r all ≡ true) (frame_slices regions slices) = λ i d low.
    let r : Rect = get_or (frame_slices regions slices) i d in
    let one = frame-fit regions slices fill i d low in
    let part : IsPart (last columns) (last rows) one.1 = subst (λ t. IsPart (last columns) (last rows) t) one.3 (cover.parts one.0 one.1 one.2) in
    elim (fits_tells r one.1 one.4) [
      | inl empty ↦ fits_empty r all empty
      | inr q ↦ fits_from r all (omega arith) (omega (arith, q, part.across)) (omega arith) (omega (arith, q, part.down))
    ]
    in
    layout-alone (frame_of columns rows regions pictures) columns_rise rows_rise (omega (arith, first.wide, first.across)) (omega (arith, first.high, first.down)) (frame-once regions slices (last columns) (last rows) cover.once fill) fit
    (frame-order regions slices order fill (order_each columns rows regions pictures all_placed))
