-- A slice of a source has in its subpicture of the frame the place that it has in its own picture.
use Rattle.std.proofs.Common.{◌≡◌, ◌⊎◌, ℕ, ◌+◌, ◌-◌, ◌*◌, ◌<◌, ◌≤◌, ◌&&◌, Bool, true, false, List, [], ◌∷◌, length, map}
use Rattle.std.proofs.Common.{Option, Some, None, refl, ap, sym, subst, ◌∙◌, inl, inr, arith}
use Rattle.std.specs.Prelude.{nat_lt, slice_get}
use Rattle.std.specs.Int.{div_ceil}
use Rattle.std.proofs.lemmas.Bool.{cases_Bool, le-ltb, ltb-true, or_cases}
use Rattle.std.proofs.lemmas.Grind.{div_ceil_times}
use Rattle.std.proofs.lemmas.List.{get_or-map, length-map}
use Rattle.std.proofs.lemmas.Nat.{mul-le}
use Rattle.std.proofs.lemmas.Option.{get_or_from_slice_get, slice_get_within}
use Rattle.vx_fields.specs.declared.pps.TheConstants as pps_fields
use Rattle.vx_table.specs.Loaded.{number}
use Rattle.vx_table.specs.Scope.{is_set, one_if}
use Rattle.vx_layout.specs.declared.numbers.Numbers.{Numbers}
use Rattle.vx_layout.specs.declared.rect.Rect.{Rect}
use Rattle.vx_layout.specs.Bounds.{Rises, last, last_after}
use Rattle.vx_layout.specs.Faults.{height, width}
use Rattle.vx_layout.specs.Layouts.{no_rect, slices_in, subpic_at}
use Rattle.vx_layout.specs.Rects.{IsPart}
use Rattle.vx_layout.specs.Regions.{counted_from, cut_bounds, inner, region_of}
use Rattle.vx_layout.proofs.Counting.{length-slices_of-le}
use Rattle.vx_layout.proofs.Moving.{last-cut}
use Rattle.vx_fit.specs.Placing.{in_ctus}
use Rattle.vx_sps.specs.Set.{ctb_size_of}
use Rattle.vx_sps.specs.Subpictures.{rect_of, subpics_of}
use Rattle.vx_pps.specs.Reshaped.{TellsPpsShape}
use Rattle.vx_pps.specs.laws.Sets.{ReadSlicesAreListable, SetsTellPartitions}
use Rattle.vx_pps.specs.Tiles.{IsGrid}
use Rattle.vx_pps.proofs.Division.{grid_of}
use Rattle.vx_pic.specs.Inputs.{has_several_slices, has_several_tiles, luma_size, place_in}
use Rattle.vx_pic.specs.Parts.{Parts, SlicePart, parts_of}
use Rattle.vx_pic.specs.Readings.{Picture, Slice}
use Rattle.vx_pic.specs.Resident.{readings_of_plans}
use Rattle.vx_pic.specs.Sets.{address_of}
use Rattle.vx_pic.specs.Written.{Plan, planned}
use Rattle.vx_write.specs.InForce.{AreInForce}
use Rattle.vx_write.proofs.Sizes.{has_size, part_of, subpic_is}
use Rattle.vx_extract.specs.Shapes.{height_in, width_in}
use Rattle.vx_extract.proofs.AgainSlices.{cut_length}
use Rattle.vx_frame.specs.declared.corner.Corner.{Corner}
use Rattle.vx_frame.specs.Regions.{ctb_of, layout_of}
use Rattle.vx_frame.specs.Rounds.{no_picture, picture_at}
use Rattle.vx_frame.specs.Rules.{crosses_slices, crosses_tiles, has_slices, has_tiles}
use Rattle.vx_frame.specs.Shapes.{frame_pps_shape}
use Rattle.vx_frame.specs.inner.Geometry.{HasShapes, MakeFrame}
use Rattle.vx_frame.proofs.FrameShaping.{positive_ctb}
use Rattle.vx_frame.proofs.Passing.{one_subpic, slices_as_lowest, tiles_as_lowest}
use Rattle.vx_frame.proofs.Sized.{is_sized}
use Rattle.vx_merge.specs.Headers.{IsMergedSlice}
use Rattle.vx_merge.specs.Merging.{Judges}
use Rattle.vx_merge.specs.Written.{IsMerged}
use Rattle.vx_merge.proofs.SliceRegions.{frame_count, region_is}
use Rattle.vx_again.specs.Frames.{AreFrameSets, IsReadyRound, MakeTheFrame}
use Rattle.vx_again.specs.Sources.{IsSource, IsSourceSlice}
use Rattle.vx_again.proofs.Border.{its_samples, no_corner, rect_is, region_at, same_ctb}
use Rattle.vx_again.proofs.Facts.{made, sets_of, shapes, source_at}
use Rattle.vx_again.proofs.Frames.{make_the_frame, told}
use Rattle.vx_again.proofs.Orders.{address_is, subpic_is as of_subpic}

-- ---- bounds of a region

no_both : (a b : Bool) → b ≡ false → (a && b) ≡ false
no_both true b none = none
no_both false b none = refl

-- the last of some bounds isn't inside it
inner_fewer : (a from size : ℕ) (bs : List ℕ) → 0 < length bs → from + size ≤ last_after a bs → length (inner bs from size) < length bs
inner_fewer a from size [] some ends = absurd (omega (arith, some))
inner_fewer a from size (b ∷ []) some ends =
    let below : nat_lt b (from + size) ≡ false = le-ltb b (from + size) ends in
    let out : (nat_lt from b && nat_lt b (from + size)) ≡ false = no_both (nat_lt from b) (nat_lt b (from + size)) below in
    rw out (omega arith)
inner_fewer a from size (b ∷ c ∷ bs) some ends =
    let more = inner_fewer b from size (c ∷ bs) (omega arith) ends in
    elim (cases_Bool (nat_lt from b && nat_lt b (from + size))) [
      | inl on ↦ rw on (omega (arith, more))
      | inr off ↦ rw off (omega (arith, more))
    ]

-- nor is the first one
first_out : (b from size : ℕ) (bs : List ℕ) → b ≡ 0 → length (inner (b ∷ bs) from size) ≡ length (inner bs from size)
first_out b from size bs first =
    let above : nat_lt from b ≡ false = le-ltb from b (omega (arith, first)) in
    rw above refl

-- so what it is cut out of has several columns where it has
cut_several : (bounds : List ℕ) (from size : ℕ) → Rises bounds → from + size ≤ last bounds → 2 < length (cut_bounds bounds from size)
    → 2 < length bounds
cut_several [] from size rises ends several = absurd (omega (arith, several))
cut_several (b ∷ []) from size rises ends several =
    let first = first_out b from size [] rises.0 in
    absurd (omega (arith, several, first, cut_length (b ∷ []) from size))
cut_several (b ∷ c ∷ bs) from size rises ends several =
    let first = first_out b from size (c ∷ bs) rises.0 in
    let fewer = inner_fewer b from size (c ∷ bs) (omega arith) ends in
    omega (arith, several, first, fewer, cut_length (b ∷ c ∷ bs) from size)

-- ---- a region of several tiles, or of several slices

product : (a b : ℕ) → 0 < a → 0 < b → (1 < a) ⊎ (1 < b) → 1 < a * b
product a b wide high either = elim either [
  | inl more ↦ omega (arith, mul-le 2 1 a b more high)
  | inr more ↦ omega (arith, mul-le 1 2 a b wide more)
]

module _ (n : Numbers) (k : ℕ) where
  tiles_count : Rises n.columns → Rises n.rows → 2 ≤ length n.columns → 2 ≤ length n.rows → IsPart (width n) (height n) (subpic_at n k)
      → has_several_tiles (region_of n k) ≡ true → 1 < (length n.columns - 1) * (length n.rows - 1)
  tiles_count columns rows wide high part several =
      let s : Rect = subpic_at n k in
      let across = part.across in
      let down = part.down in
      let tests = or_cases (nat_lt 2 (length (region_of n k).columns)) (nat_lt 2 (length (region_of n k).rows)) several in
      let either : (1 < length n.columns - 1) ⊎ (1 < length n.rows - 1) = elim tests [
        | inl a ↦ inl (omega (arith, cut_several n.columns s.x s.w columns across (ltb-true 2 (length (region_of n k).columns) a)))
        | inr b ↦ inr (omega (arith, cut_several n.rows s.y s.h rows down (ltb-true 2 (length (region_of n k).rows) b)))
      ] in
      product (length n.columns - 1) (length n.rows - 1) (omega (arith, wide)) (omega (arith, high)) either

  slices_count : has_several_slices (region_of n k) ≡ true → 1 < length n.slices
  slices_count several =
      let more = ltb-true 1 (length (region_of n k).slices) several in
      let count = length-map (slices_in n k) (counted_from (subpic_at n k)) in
      omega (arith, more, count, length-slices_of-le n.slices (subpic_at n k))

-- ---- flags

flag_is : (n : ℕ) (b : Bool) → n ≡ one_if b → is_set n ≡ b
flag_is n true same = ap is_set same
flag_is n false same = ap is_set same

where_several : (several a b : Bool) → (several ≡ true → a ≡ b) → (several && a) ≡ (several && b)
where_several true a b then = then refl
where_several false a b then = refl

-- ---- a picture of one subpicture

-- all its samples are that one's
whole_size : (from size ctb total : ℕ) → 0 < ctb → size ≡ div_ceil total ctb → from + size ≤ div_ceil total ctb
    → luma_size from size ctb total ≡ total
whole_size from size ctb total some same inside =
    let first : from ≡ 0 = omega (arith, same, inside) in
    let most = div_ceil_times total ctb some in
    ap (λ n. luma_size n size ctb total) first ∙ ap (λ n. luma_size 0 n ctb total) same ∙ all_of (div_ceil total ctb) most.0
  where
    all_of : (n : ℕ) → total ≤ n * ctb → luma_size 0 n ctb total ≡ total
    all_of n enough =
        let none : 0 * ctb ≡ 0 = omega arith in
        let sum : 0 + n ≡ n = omega arith in
        rw (sum, none) (omega (arith, enough))

module _ (tells : SetsTellPartitions) (q : Parts) (are : AreInForce q) (one : subpics_of q.sps ≡ 1) where
  abbrev own : Rect
  own = rect_of q.sps 0

  abbrev ctb : ℕ
  ctb = ctb_size_of q.sps

  abbrev wide : ℕ
  wide = number q.pps pps_fields.pps_pic_width_in_luma_samples

  abbrev high : ℕ
  high = number q.pps pps_fields.pps_pic_height_in_luma_samples

  within : 0 < subpics_of q.sps
  within = omega (arith, one)

  some_ctb : 0 < ctb
  some_ctb = positive_ctb (q ∷ [])

  whole_width : width_in q 0 ≡ wide
  whole_width =
      let sized = is_sized tells no_corner q ctb are one refl in
      let cut_back = sym (last-cut q.layout.columns (subpic_at q.layout 0).x (subpic_at q.layout 0).w) in
      let size : own.w ≡ div_ceil wide ctb = ap (λ (r : Rect). r.w) (sym (subpic_is q 0 are within)) ∙ cut_back ∙ sized.wide.1 in
      let inside = (part_of q 0 are within).across in
      whole_size own.x own.w ctb wide some_ctb size (subst (λ n. own.x + own.w ≤ n) (has_size tells q are).wide inside)

  whole_height : height_in q 0 ≡ high
  whole_height =
      let sized = is_sized tells no_corner q ctb are one refl in
      let cut_back = sym (last-cut q.layout.rows (subpic_at q.layout 0).y (subpic_at q.layout 0).h) in
      let size : own.h ≡ div_ceil high ctb = ap (λ (r : Rect). r.h) (sym (subpic_is q 0 are within)) ∙ cut_back ∙ sized.high.1 in
      let inside = (part_of q 0 are within).down in
      whole_size own.y own.h ctb high some_ctb size (subst (λ n. own.y + own.h ≤ n) (has_size tells q are).high inside)

-- ---- a source in its frame

module _ (tells : SetsTellPartitions) (reads : ReadSlicesAreListable) (corners : List Corner) (level : Option ℕ) (round : List Parts)
    (done : List Plan) (p : Plan) (ready : IsReadyRound corners round) (passes : Judges corners round None)
    (is : IsMerged corners level round done p) where
  abbrev frame : Numbers
  frame = p.begun.layout

  -- the picture that is read again
  abbrev again : Parts
  again = parts_of (planned (readings_of_plans done) p)

  sets : AreFrameSets corners level round frame is.ids.pps p.begun.sps p.begun.pps
  sets = sets_of corners level round done p is

  makes : MakeFrame corners round frame
  makes = made tells reads corners round ready passes frame is.frame

  shaped : HasShapes corners round frame
  shaped = shapes tells reads corners round ready passes frame is.frame

  says : TellsPpsShape (picture_at round 0).pps (frame_pps_shape corners round frame is.ids.pps) p.begun.pps
  says = told tells reads corners level round frame is.ids.pps p.begun.sps p.begun.pps ready passes is.frame sets

  make : MakeTheFrame (length round) frame is.ids.pps p.begun.sps p.begun.pps
  make = make_the_frame tells reads corners level round frame is.ids.pps p.begun.sps p.begun.pps ready passes is.frame sets

  grid : IsGrid (record { columns = frame.columns; rows = frame.rows })
  grid = grid_of (frame_pps_shape corners round frame is.ids.pps) ((shaped.pps is.ids.pps sets.low).divided refl)

  module _ (k : ℕ) (short : k < length round) where
    abbrev q : Parts
    q = picture_at round k

    source : IsSource q
    source = source_at tells reads corners round ready passes k short

    alone : subpics_of q.sps ≡ 1
    alone = one_subpic corners round ready.same passes k short

    layout_same : region_of frame k ≡ layout_of q
    layout_same = region_is corners round frame makes shaped k short

    -- ---- sizes

    abbrev ctus : Rect
    ctus = in_ctus (ctb_of round) (region_at corners round k)

    rect_same : rect_of p.begun.sps k ≡ ctus
    rect_same = rect_is tells reads corners level round done p ready passes is k short

    ctb_same : ctb_size_of p.begun.sps ≡ ctb_of round
    ctb_same = same_ctb tells reads corners level round done p ready passes is

    width_same : width_in again k ≡ width_in q 0
    width_same =
        let total : ℕ = number p.begun.pps pps_fields.pps_pic_width_in_luma_samples in
        ap (λ (r : Rect). luma_size r.x r.w (ctb_size_of p.begun.sps) total) rect_same
        ∙ ap (λ c. luma_size ctus.x ctus.w c total) ctb_same
        ∙ ap (λ n. luma_size ctus.x ctus.w (ctb_of round) n) says.width
        ∙ (its_samples tells reads corners round ready passes k short).wide
        ∙ sym (whole_width tells q source.sets alone)

    height_same : height_in again k ≡ height_in q 0
    height_same =
        let total : ℕ = number p.begun.pps pps_fields.pps_pic_height_in_luma_samples in
        ap (λ (r : Rect). luma_size r.y r.h (ctb_size_of p.begun.sps) total) rect_same
        ∙ ap (λ c. luma_size ctus.y ctus.h c total) ctb_same
        ∙ ap (λ n. luma_size ctus.y ctus.h (ctb_of round) n) says.height
        ∙ (its_samples tells reads corners round ready passes k short).high
        ∙ sym (whole_height tells q source.sets alone)

    -- ---- flags: where it has several tiles or slices, so has the frame

    part : IsPart (width frame) (height frame) (subpic_at frame k)
    part = let count = frame_count corners round frame makes shaped in shaped.layout.subpics.parts k no_rect (omega (arith, short, count))

    tiles_flag : has_several_tiles (region_of frame k) ≡ true → crosses_tiles again ≡ crosses_tiles q
    tiles_flag several =
        let lines = is.frame.lines in
        let count = tiles_count frame k lines.vertical.rises lines.horizontal.rises grid.columns.0 grid.rows.0 part several in
        let is_several : has_tiles q ≡ true = ap (λ n. has_several_tiles n) (sym layout_same) ∙ several in
        flag_is (number p.begun.pps pps_fields.pps_loop_filter_across_tiles_enabled_flag) (crosses_tiles q)
        ((says.division refl).across_tiles count ∙ ap one_if (sym (tiles_as_lowest corners round ready.same passes k short is_several)))

    slices_flag : has_several_slices (region_of frame k) ≡ true → crosses_slices again ≡ crosses_slices q
    slices_flag several =
        let count = slices_count frame k several in
        let is_several : has_slices q ≡ true = ap (λ n. has_several_slices n) (sym layout_same) ∙ several in
        flag_is (number p.begun.pps pps_fields.pps_loop_filter_across_slices_enabled_flag) (crosses_slices q)
        ((says.division refl).across_slices count ∙ ap one_if (sym (slices_as_lowest corners round ready.same passes k short is_several)))

    tiles_same : (has_several_tiles (region_of frame k) && crosses_tiles again) ≡ (has_tiles q && crosses_tiles q)
    tiles_same =
        where_several (has_several_tiles (region_of frame k)) (crosses_tiles again) (crosses_tiles q) tiles_flag
        ∙ ap (λ n. has_several_tiles n && crosses_tiles q) layout_same

    slices_same : (has_several_slices (region_of frame k) && crosses_slices again) ≡ (has_slices q && crosses_slices q)
    slices_same =
        where_several (has_several_slices (region_of frame k)) (crosses_slices again) (crosses_slices q) slices_flag
        ∙ ap (λ n. has_several_slices n && crosses_slices q) layout_same

    -- ---- all of it

    places_same : (a b : ℕ) → a ≡ b → place_in again k a ≡ place_in q 0 b
    places_same a b address =
        let wide = width_same in
        let high = height_same in
        let layout = layout_same in
        let tiles = tiles_same in
        let slices = slices_same in
        λ j. record {
          width = wide j;
          height = high j;
          layout = layout j;
          address = address j;
          across_tiles = tiles j;
          across_slices = slices j;
        }

    -- of a slice of it
    pub place_of_source : (s : SlicePart) (w : Slice) → IsSourceSlice q s → IsMergedSlice round is.ids p.kind.nal_type p.begun k s w
        → place_in again w.header.subpic (address_of w.header) ≡ place_in q s.header.subpic s.header.address
    place_of_source s w of_source own =
        let low = of_source.subpic in
        let first : s.header.subpic ≡ 0 = omega (arith, low, alone) in
        let address = address_is tells reads corners level round done p ready passes is make q k s w of_source own in
        ap (λ i. place_in again i (address_of w.header)) (of_subpic tells reads corners level round done p ready passes is make k short s w own)
        ∙ places_same (address_of w.header) s.header.address address
        ∙ ap (λ i. place_in q i s.header.address) (sym first)

-- ---- of a round of pictures

picture_is : (pics : List Picture) (k : ℕ) (q : Picture) → slice_get pics k ≡ Some q → picture_at (map parts_of pics) k ≡ parts_of q
picture_is pics k q at =
    get_or-map parts_of pics k q no_picture (slice_get_within pics k q at) ∙ ap parts_of (get_or_from_slice_get pics k q q at)

module _ (tells : SetsTellPartitions) (reads : ReadSlicesAreListable) (corners : List Corner) (level : Option ℕ) (pics : List Picture)
    (done : List Plan) (p : Plan) (ready : IsReadyRound corners (map parts_of pics)) (passes : Judges corners (map parts_of pics) None)
    (is : IsMerged corners level (map parts_of pics) done p) where
  pub place_same : (k : ℕ) (q : Picture) → slice_get pics k ≡ Some q → (s : SlicePart) (w : Slice) → IsSourceSlice (parts_of q) s
      → IsMergedSlice (map parts_of pics) is.ids p.kind.nal_type p.begun k s w
      → place_in (parts_of (planned (readings_of_plans done) p)) w.header.subpic (address_of w.header)
      ≡ place_in (parts_of q) s.header.subpic s.header.address
  place_same k q at s w of_source own =
      let here : picture_at (map parts_of pics) k ≡ parts_of q = picture_is pics k q at in
      let count = length-map pics parts_of in
      let short : k < length (map parts_of pics) = omega (arith, slice_get_within pics k q at, count) in
      let there = subst (λ (r : Parts). IsSourceSlice r s) (sym here) of_source in
      place_of_source tells reads corners level (map parts_of pics) done p ready passes is k short s w there own
      ∙ ap (λ (r : Parts). place_in r s.header.subpic s.header.address) here
