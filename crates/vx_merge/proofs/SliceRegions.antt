-- The slices of a region of the frame, and their entry points, are those of the picture in it.
use Rattle.std.proofs.Common.{◌≡◌, ◌⊎◌, ℕ, zero, suc, ◌+◌, ◌-◌, ◌*◌, ◌<◌, ◌≤◌, ◌&&◌, Bool, true, false, cond, List, [], ◌∷◌, length, length-append, map, refl, ap, sym, subst, ◌∙◌, inl, inr, arith}
use Rattle.std.specs.Prelude.{filter, nat_lt, slice_index_or}
use Rattle.std.proofs.lemmas.Bool.{cases_Bool, cases_eq, lt-ltb, ltb-true, true≢false}
use Rattle.std.proofs.lemmas.List.{get_or-map, length-map}
use Rattle.vx_layout.specs.declared.numbers.Numbers.{Numbers}
use Rattle.vx_layout.specs.declared.rect.Rect.{Rect}
use Rattle.vx_layout.specs.Bounds.{last}
use Rattle.vx_layout.specs.Faults.{height, width}
use Rattle.vx_layout.specs.Layouts.{HasLayout, no_rect, slice_at, slices_in, subpic_at}
use Rattle.vx_layout.specs.Rects.{IsPart, fits}
use Rattle.vx_layout.specs.Regions.{counted_from, cut_bounds, inner, region_of}
use Rattle.vx_layout.specs.Scan.{entries}
use Rattle.vx_layout.proofs.Counted.{slice_at-region}
use Rattle.vx_layout.proofs.Entries.{entries-empty, entries-is, rows_met}
use Rattle.vx_layout.proofs.Holding.{fits_tells}
use Rattle.vx_layout.proofs.Moving.{HasLayout-region, last-cut}
use Rattle.vx_layout.proofs.Nested.{cut_nested, region_of-region}
use Rattle.vx_fit.proofs.Merged.{frame-merged}
use Rattle.vx_sh.specs.Reshaped.{HaveSameSlices}
use Rattle.vx_sh.specs.Whole.{points_at, num_slices_in_subpic}
use Rattle.vx_pic.specs.Parts.{Parts}
use Rattle.vx_frame.specs.declared.corner.Corner.{Corner}
use Rattle.vx_frame.specs.Regions.{layout_of}
use Rattle.vx_frame.specs.Rounds.{no_picture, picture_at}
use Rattle.vx_frame.specs.inner.Geometry.{HasShapes, MakeFrame}
use Rattle.vx_frame.proofs.FrameShaping.{merged}
use Rattle.vx_frame.proofs.Joining.{corners_count}

-- ---- entry points

cut_length : (bounds : List ℕ) (from size : ℕ) → length (cut_bounds bounds from size) ≡ length (inner bounds from size) + 2
cut_length bounds from size = omega (
  arith,
  length-append (map (λ b. b - from) (inner bounds from size)) (size ∷ []),
  length-map
      (inner bounds from size) (λ b. b - from),
)

-- as many bounds pass through a rectangle of a region
inner_same : (bounds : List ℕ) (from size at wide : ℕ) → from ≤ at → at + wide ≤ from + size
    → length (inner (cut_bounds bounds from size) (at - from) wide) ≡ length (inner bounds at wide)
inner_same bounds from size at wide behind inside =
    let there : from + (at - from) ≡ at = omega (arith, behind) in
    let same : cut_bounds (cut_bounds bounds from size) (at - from) wide ≡ cut_bounds bounds at wide = cut_nested bounds from size (at - from) wide
    (omega (arith, behind, inside)) ∙ ap (λ n. cut_bounds bounds n wide) there in
    omega (arith, cut_length (cut_bounds bounds from size) (at - from) wide, cut_length bounds at wide, ap (λ xs. length xs) same)

rows_same : (sync : Bool) (bounds : List ℕ) (from size at wide : ℕ) → from ≤ at → at + wide ≤ from + size
    → rows_met sync (cut_bounds bounds from size) (at - from) wide ≡ rows_met sync bounds at wide
unfolding rows_met
rows_same true bounds from size at wide behind inside = refl
rows_same false bounds from size at wide behind inside = ap (λ n. n + 1) (inner_same bounds from size at wide behind inside)

first_at : (p : Rect → Bool) (x : Rect) (rest : List Rect) (i : ℕ) (d : Rect) → ((j : ℕ) → j < length rest
    → p (slice_index_or rest j d) ≡ true) → p x ≡ true → i < length (x ∷ rest) → p (slice_index_or (x ∷ rest) i d) ≡ true
first_at p x rest zero d later on short = on
first_at p x rest (suc i) d later on short = later i (omega (arith, short))

filtered_at : (p : Rect → Bool) (xs : List Rect) (i : ℕ) (d : Rect) → i < length (filter p xs) → p (slice_index_or (filter p xs) i d) ≡ true
filtered_at p [] i d short = absurd (omega (arith, short))
filtered_at p (x ∷ xs) i d short = elim (cases_Bool (p x)) [
  | inl on ↦ rw on (first_at p x (filter p xs) i d (λ j less. filtered_at p xs j d less) on (rw on at short))
  | inr off ↦ rw off (filtered_at p xs i d (rw off at short))
]

-- a slice of a region has the entry points of the subpicture's
points_same : (n : Numbers) (k m : ℕ) (sync : Bool) → HasLayout n → k < length n.subpics → m < length (slices_in n k)
    → entries n.columns n.rows (slice_at n k m) sync ≡ entries (region_of n k).columns (region_of n k).rows
    (slice_at (region_of n k) 0 m) sync
points_same n k m sync layout within short =
    let s : Rect = subpic_at n k in
    let r : Rect = slice_at n k m in
    let region = HasLayout-region n k layout within in
    let part : IsPart (width n) (height n) s = layout.faultless.subpics.parts k no_rect within in
    let across = part.across in
    let down = part.down in
    let slice : slice_at (region_of n k) 0 m ≡ counted_from s r = slice_at-region n k m short in
    let fit : fits r s ≡ true = filtered_at (λ t. fits t s) n.slices m no_rect short in
    let to_slice : entries (region_of n k).columns (region_of n k).rows (slice_at (region_of n k) 0 m) sync ≡ entries
    (region_of n k).columns (region_of n k).rows (counted_from s r) sync =
    ap (λ t. entries (region_of n k).columns (region_of n k).rows t sync) slice in
    let none : (r.w ≡ 0) ⊎ (r.h ≡ 0) → entries n.columns n.rows r sync ≡ entries (region_of n k).columns (region_of n k).rows
    (slice_at (region_of n k) 0 m) sync =
    λ e. entries-empty n.columns n.rows r sync e ∙ sym (to_slice ∙ entries-empty (region_of n k).columns (region_of n k).rows
    (counted_from s r) sync e) in
    elim (fits_tells r s fit) [
      | inl e ↦ none e
      | inr inside ↦ elim (cases_eq r.w 0) [
        | inl e ↦ none (inl e)
        | inr wide ↦ elim (cases_eq r.h 0) [
          | inl e ↦ none (inr e)
          | inr high ↦
              let some : 0 < r.w = omega (arith, wide) in
              let tall : 0 < r.h = omega (arith, high) in
              let w_is : last (cut_bounds n.columns s.x s.w) ≡ s.w = last-cut n.columns s.x s.w in
              let h_is : last (cut_bounds n.rows s.y s.h) ≡ s.h = last-cut n.rows s.y s.h in
              entries-is n.columns n.rows r sync layout.columns layout.rows some tall (omega (arith, inside, across))
              (omega (arith, inside, down))
              ∙ ap (λ c. (c + 1) * rows_met sync n.rows r.y r.h - 1) (sym (inner_same n.columns s.x s.w r.x r.w inside.0 inside.1))
              ∙ ap (λ t. (length (inner (cut_bounds n.columns s.x s.w) (r.x - s.x) r.w) + 1) * t - 1)
              (sym (rows_same sync n.rows s.y s.h r.y r.h inside.2 inside.3))
              ∙ sym (to_slice ∙ entries-is (region_of n k).columns (region_of n k).rows (counted_from s r) sync region.columns
              region.rows some tall
              (omega (arith, inside, w_is)) (omega (arith, inside, h_is)))
        ]
      ]
    ]

-- ---- a subpicture and its region

-- a region has as many slices as the subpicture
count_same : (n : Numbers) (k : ℕ) → length (slices_in (region_of n k) 0) ≡ length (slices_in n k)
count_same n k =
    sym (length-map (slices_in (region_of n k) 0) (counted_from (subpic_at (region_of n k) 0)))
    ∙ ap (λ t. length t.slices) (region_of-region n k) ∙ length-map (slices_in n k) (counted_from (subpic_at n k))

choose_same : (on a b : Bool) (x y : ℕ) → a ≡ b → (a ≡ true → x ≡ y) → cond (on && a) x 0 ≡ cond (on && b) y 0
choose_same true true true x y same then = then refl
choose_same true false false x y same then = refl
choose_same true true false x y same then = absurd (true≢false same)
choose_same true false true x y same then = absurd (true≢false (sym same))
choose_same false a b x y same then = refl

module _ (n : Numbers) (k : ℕ) (layout : HasLayout n) (within : k < length n.subpics) where
  slices_same : num_slices_in_subpic n k ≡ num_slices_in_subpic (region_of n k) 0
  slices_same =
      let here : nat_lt k (length n.subpics) ≡ true = lt-ltb k (length n.subpics) within in
      ap (λ b. cond b (length (slices_in n k)) 0) here ∙ sym (count_same n k)

  points_at_same : (has_points sync : Bool) (address : ℕ) → points_at n has_points sync k address ≡ points_at (region_of n k) has_points
      sync 0 address
  unfolding points_at
  points_at_same has_points sync address =
      choose_same has_points (nat_lt address (num_slices_in_subpic n k)) (nat_lt address (num_slices_in_subpic (region_of n k) 0))
      (entries n.columns n.rows (slice_at n k address) sync)
      (entries (region_of n k).columns (region_of n k).rows (slice_at (region_of n k) 0 address) sync)
      (ap (λ m. nat_lt address m) slices_same)
      (λ low.
      let short : address < num_slices_in_subpic (region_of n k) 0 = let less = ltb-true address (num_slices_in_subpic n k) low in subst (λ m. address < m)
      slices_same less in
      let count = count_same n k in
      points_same n k address sync layout within (omega (arith, short, count)))

-- subpictures of two layouts whose regions are the same
pub same_slices : (n m : Numbers) (j k : ℕ) → HasLayout n → HasLayout m → j < length n.subpics → k < length m.subpics
    → region_of n j ≡ region_of m k
    → HaveSameSlices n j m k
same_slices n m j k layout other within short same = record {
  slices = slices_same n j layout within ∙ ap (λ r. num_slices_in_subpic r 0) same ∙ sym (slices_same m k other short);
  points = λ has_points sync address. points_at_same n j layout within has_points sync address
      ∙ ap (λ r. points_at r has_points sync 0 address) same
      ∙ sym (points_at_same m k other short has_points sync address);
}

-- ---- a region of the frame

module _ (corners : List Corner) (round : List Parts) (frame : Numbers) (made : MakeFrame corners round frame)
    (shapes : HasShapes corners round frame) where
  pub frame_layout : HasLayout frame
  frame_layout = record {
    faultless = shapes.layout;
    limits = shapes.limits;
    columns = made.is.lines.vertical.rises;
    rows =
        made.is.lines.horizontal.rises;
  }

  -- it has one for each source
  pub frame_count : length frame.subpics ≡ length round
  frame_count = ap (λ n. length n.subpics) made.is.pictures ∙ corners_count corners round made.can ∙ made.can.same

  -- each is the picture of its source
  pub region_is : (k : ℕ) → k < length round → region_of frame k ≡ layout_of (picture_at round k)
  region_is k short =
      let count = corners_count corners round made.can in
      let same = made.can.same in
      ap (λ n. region_of n k) made.is.pictures
      ∙ ((merged frame-merged corners round frame made).regions k (layout_of no_picture) (omega (arith, count, same, short))
      ∙ get_or-map layout_of round k no_picture (layout_of no_picture) short)
