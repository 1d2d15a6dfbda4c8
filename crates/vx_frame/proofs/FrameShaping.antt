-- The shapes of a frame's sets are ones that sets can have.
use Rattle.std.proofs.Common.{◌≡◌, ℕ, zero, suc, ◌+◌, ◌<◌, ◌≤◌, ◌%◌, ◌^◌, Bool, true, false, cond, List, [], ◌∷◌, map, filter, length, length-append, refl, sym, ap, subst, ◌∙◌, inl, inr, arith}
use Rattle.std.specs.Prelude.{◌==◌, max, All, sum_by, Option}
use Rattle.std.specs.Int.{div_ceil}
use Rattle.std.specs.List.{AllByRecursion, AllZip, zip, list_any}
use Rattle.std.proofs.lemmas.List.{length-map}
use Rattle.std.proofs.lemmas.List.Sums.{sum_by-cons}
use Rattle.std.proofs.lemmas.List.Elements.{All-cons, All-nil, recursion_from_All}
use Rattle.vx_bits.specs.Codes.{IsCodeNumber}
use Rattle.vx_bits.specs.declared.list.Item.{Item}
use Rattle.vx_fields.specs.declared.dpb.TheConstants as dpb
use Rattle.vx_fields.specs.declared.sps.TheConstants as sps_fields
use Rattle.vx_layout.specs.declared.numbers.Numbers.{Numbers}
use Rattle.vx_layout.specs.declared.rect.Rect.{Rect}
use Rattle.vx_layout.specs.Bounds.{Rises, last}
use Rattle.vx_layout.specs.Faults.{IsInLimits, IsLayout}
use Rattle.vx_layout.specs.Frames.{frame_slices, with_one_subpic}
use Rattle.vx_layout.specs.Regions.{moved_to}
use Rattle.vx_layout.specs.Shapes.{AreListable}
use Rattle.vx_layout.proofs.FrameSlices.{AllZip-long}
use Rattle.vx_layout.specs.Layouts.{HasLayout, no_rect}
use Rattle.vx_fit.specs.declared.placed.Placed.{Placed}
use Rattle.vx_fit.specs.laws.Fitting.{FrameOfRegions, IsMergedLayout}
use Rattle.vx_fit.specs.Placing.{IsOnGrid, IsTooLarge, frame_height, frame_width}
use Rattle.vx_fit.specs.Placing as placing
use Rattle.vx_fit.specs.Sources.{IsSource}
use Rattle.vx_table.specs.Forms.{has_value}
use Rattle.vx_table.specs.Loaded.{number}
use Rattle.vx_table.specs.Scope.{quotient}
use Rattle.vx_sps.specs.Reshaped as sps_reshaped
use Rattle.vx_sps.proofs.Bounded.{ctu_below}
use Rattle.vx_sps.proofs.Exists.{golomb_row}
use Rattle.vx_pps.specs.Reshaped as pps_reshaped
use Rattle.vx_pic.specs.Parts.{Parts}
use Rattle.vx_pic.proofs.PictureSizes.{both_sizes, large}
use Rattle.vx_pic.proofs.Sizes.{has_sides, quotient_is}
use Rattle.vx_write.specs.InForce.{AreInForce}
use Rattle.vx_write.proofs.Ids.{coded}
use Rattle.vx_frame.specs.declared.corner.Corner.{Corner}
use Rattle.vx_frame.specs.Regions.{corners_in, ctb_of, layouts_in, placed_in}
use Rattle.vx_frame.specs.Rounds.{picture_at}
use Rattle.vx_frame.specs.Shapes.{frame_dpb, greatest, latency_of, least, numbers_in_round, offsets_at, frame_pps_shape, frame_sps_shape, frame_window}
use Rattle.vx_frame.specs.inner.Geometry.{HasShapes, MakeFrame}
use Rattle.vx_frame.proofs.InitQp.{init_qp_is}

-- ---- sizes

-- a side that is a multiple of 8, as are all sides of regions on a grid of CTUs
of_eight : (log2 x w : ℕ) → log2 < 3 → x % (2 ^ (log2 + 5)) ≡ 0 → w % 8 ≡ 0 → (x + w) % 8 ≡ 0
of_eight zero x w few grid whole = omega (arith, grid, whole)
of_eight (suc zero) x w few grid whole = omega (arith, grid, whole)
of_eight (suc (suc zero)) x w few grid whole = omega (arith, grid, whole)
of_eight (suc (suc (suc log2))) x w few grid whole = absurd (omega (arith, few))

max_eight : (a b : ℕ) → a % 8 ≡ 0 → b % 8 ≡ 0 → max a b % 8 ≡ 0
max_eight a b p q = omega (arith, p, q)

greatest_eight : (f : Placed → ℕ) (ps : List Placed) → AllByRecursion (λ p. f p % 8 ≡ 0) ps → placing.greatest_by f ps % 8 ≡ 0
greatest_eight f [] all = refl
greatest_eight f (p ∷ ps) all = max_eight (f p) (placing.greatest_by f ps) all.0 (greatest_eight f ps all.1)

greatest_some : (f : Placed → ℕ) (ps : List Placed) → 0 < length ps → AllByRecursion (λ p. 0 < f p) ps → 0 < placing.greatest_by f ps
greatest_some f [] some all = absurd (omega (arith, some))
greatest_some f (p ∷ ps) some all = let one = all.0 in omega (arith, one)

-- what is known of each region
record IsWhole (ctb : ℕ) (p : Placed) : Type 0 where
  wide : 0 < p.w
  high : 0 < p.h
  width : p.w % 8 ≡ 0
  height : p.h % 8 ≡ 0
  grid : IsOnGrid ctb p

rights : (log2 : ℕ) (ps : List Placed) → log2 < 3 → AllByRecursion (IsWhole (2 ^ (log2 + 5))) ps → AllByRecursion (λ p. (p.x + p.w) % 8 ≡ 0) ps
rights log2 [] few all = tt
rights log2 (p ∷ ps) few all = (of_eight log2 p.x p.w few all.0.grid.0 all.0.width, rights log2 ps few all.1)

bottoms : (log2 : ℕ) (ps : List Placed) → log2 < 3 → AllByRecursion (IsWhole (2 ^ (log2 + 5))) ps → AllByRecursion (λ p. (p.y + p.h) % 8 ≡ 0) ps
bottoms log2 [] few all = tt
bottoms log2 (p ∷ ps) few all = (of_eight log2 p.y p.h few all.0.grid.1 all.0.height, bottoms log2 ps few all.1)

some_rights : (ctb : ℕ) (ps : List Placed) → AllByRecursion (IsWhole ctb) ps → AllByRecursion (λ p. 0 < p.x + p.w) ps
some_rights ctb [] all = tt
some_rights ctb (p ∷ ps) all = let one = all.0.wide in (omega (arith, one), some_rights ctb ps all.1)

some_bottoms : (ctb : ℕ) (ps : List Placed) → AllByRecursion (IsWhole ctb) ps → AllByRecursion (λ p. 0 < p.y + p.h) ps
some_bottoms ctb [] all = tt
some_bottoms ctb (p ∷ ps) all = let one = all.0.high in (omega (arith, one), some_bottoms ctb ps all.1)

whole_all : (ctb : ℕ) (corners : List Corner) (round : List Parts) → AllByRecursion AreInForce round → AllByRecursion (IsOnGrid ctb) (placed_in corners round)
    → AllByRecursion (IsWhole ctb) (placed_in corners round)
whole_all ctb [] [] are grid = tt
whole_all ctb [] (q ∷ round) are grid = tt
whole_all ctb (c ∷ corners) [] are grid = tt
whole_all ctb (c ∷ corners) (q ∷ round) are grid =
    let both = both_sizes q.sps q.pps are.0.size in
    let sides = has_sides q.sps are.0.sps in (
      record {
        wide = rw both.0 sides.wide;
        high = rw both.1 sides.high;
        width = rw both.0 sides.wide_whole;
        height = rw both.1 sides.high_whole;
        grid = grid.0;
      },
      whole_all ctb corners round are.1 grid.1,
    )

pub placed_count : (corners : List Corner) (round : List Parts) → length corners ≡ length round → length (placed_in corners round) ≡ length round
placed_count [] [] same = refl
placed_count [] (q ∷ round) same = absurd (omega (arith, same))
placed_count (c ∷ corners) [] same = absurd (omega (arith, same))
placed_count (c ∷ corners) (q ∷ round) same = ap suc (placed_count corners round (omega (arith, same)))

-- the frame's sides
record HasSides (placed : List Placed) : Type 0 where
  some_wide : 0 < frame_width placed
  some_high : 0 < frame_height placed
  small_wide : frame_width placed ≤ 16384
  small_high : frame_height placed ≤ 16384
  whole_wide : frame_width placed % 8 ≡ 0
  whole_high : frame_height placed % 8 ≡ 0

sides_of : (log2 : ℕ) (placed : List Placed) → log2 < 3 → 0 < length placed → (¬ IsTooLarge placed) → AllByRecursion (IsWhole (2 ^ (log2 + 5))) placed → HasSides placed
sides_of log2 placed few some small all = record {
  some_wide = greatest_some (λ p. p.x + p.w) placed some (some_rights _ placed all);
  some_high = greatest_some (λ p. p.y + p.h) placed some (some_bottoms _ placed all);
  small_wide = let no : 16384 < frame_width placed → ⊥ = λ over. small (inl over) in omega (arith, no);
  small_high = let no : 16384 < frame_height placed → ⊥ = λ over. small (inr over) in omega (arith, no);
  whole_wide = greatest_eight (λ p. p.x + p.w) placed (rights log2 placed few all);
  whole_high = greatest_eight (λ p. p.y + p.h) placed (bottoms log2 placed few all);
}

-- ---- numbers that have a code

least_coded : (xs : List ℕ) → AllByRecursion IsCodeNumber xs → IsCodeNumber (least xs)
least_coded [] all = omega arith
least_coded (x ∷ []) all = all.0
least_coded (x ∷ y ∷ xs) all = let one = all.0 in let rest = least_coded (y ∷ xs) all.1 in omega (arith, one, rest)

greatest_coded : (xs : List ℕ) → AllByRecursion IsCodeNumber xs → IsCodeNumber (greatest xs)
greatest_coded [] all = omega arith
greatest_coded (x ∷ xs) all = let one = all.0 in let rest = greatest_coded xs all.1 in omega (arith, one, rest)

latency_coded : (xs : List ℕ) → AllByRecursion IsCodeNumber xs → IsCodeNumber (latency_of xs)
latency_coded xs all = by (list_any (λ n. n == 0) xs) (greatest_coded xs all)
  where
    by : (b : Bool) → IsCodeNumber (greatest xs) → IsCodeNumber (cond b 0 (greatest xs))
    by true is = omega arith
    by false is = is

abbrev Codes : ℕ → Parts → Type 0
Codes of q = IsCodeNumber (number q.sps of)

numbers_coded : (of : ℕ) (round : List Parts) → AllByRecursion (Codes of) round → AllByRecursion IsCodeNumber (numbers_in_round round of)
numbers_coded of [] all = tt
numbers_coded of (q ∷ round) all = (all.0, numbers_coded of round all.1)

offsets_coded : (touches : Placed → Bool) (of : ℕ) (placed : List Placed) (round : List Parts) → AllByRecursion (Codes of) round → AllByRecursion IsCodeNumber (offsets_at touches of placed round)
offsets_coded touches of [] round all = tt
offsets_coded touches of (p ∷ placed) [] all = tt
offsets_coded touches of (p ∷ placed) (q ∷ round) all = by (touches p) (offsets_coded touches of placed round all.1)
  where
    by : (b : Bool) → AllByRecursion IsCodeNumber (offsets_at touches of placed round)
        → AllByRecursion IsCodeNumber (map (λ (r : Placed × Parts). number r.1.sps of) (cond b ((p, q) ∷ filter (λ r. touches r.0) (zip placed round)) (filter (λ r. touches r.0) (zip placed round))))
    by true rest = (all.0, rest)
    by false rest = rest

-- each SPS codes the numbers of windows and of the DPB so
record AreCoded (q : Parts) : Type 0 where
  left : Codes sps_fields.sps_conf_win_left_offset q
  right : Codes sps_fields.sps_conf_win_right_offset q
  top : Codes sps_fields.sps_conf_win_top_offset q
  bottom : Codes sps_fields.sps_conf_win_bottom_offset q
  buffering : Codes dpb.dpb_max_dec_pic_buffering_minus1 q
  reorder : Codes dpb.dpb_max_num_reorder_pics q
  latency : Codes dpb.dpb_max_latency_increase_plus1 q

are_coded : (q : Parts) → AreInForce q → AreCoded q
unfolding has_value golomb_row
are_coded q are = record {
  left = coded sps_fields.sps_conf_win_left_offset q.sps are.sps refl;
  right = coded sps_fields.sps_conf_win_right_offset q.sps are.sps refl;
  top = coded sps_fields.sps_conf_win_top_offset q.sps are.sps refl;
  bottom = coded sps_fields.sps_conf_win_bottom_offset q.sps are.sps refl;
  buffering = coded dpb.dpb_max_dec_pic_buffering_minus1 q.sps are.sps refl;
  reorder = coded dpb.dpb_max_num_reorder_pics q.sps are.sps refl;
  latency = coded dpb.dpb_max_latency_increase_plus1 q.sps are.sps refl;
}

all_weaker : {A : Type 0} (P Q : A → Type 0) (xs : List A) → ((x : A) → P x → Q x) → AllByRecursion P xs → AllByRecursion Q xs
all_weaker P Q [] weaker all = tt
all_weaker P Q (x ∷ xs) weaker all = (weaker x all.0, all_weaker P Q xs weaker all.1)

three : (a b c : ℕ) → IsCodeNumber a → IsCodeNumber b → IsCodeNumber c → All IsCodeNumber (a ∷ b ∷ c ∷ [])
three a b c p q r = All-cons IsCodeNumber a (b ∷ c ∷ []) p (All-cons IsCodeNumber b (c ∷ []) q (All-cons IsCodeNumber c [] r (All-nil IsCodeNumber)))

four : (a b c d : ℕ) → IsCodeNumber a → IsCodeNumber b → IsCodeNumber c → IsCodeNumber d → All IsCodeNumber (a ∷ b ∷ c ∷ d ∷ [])
four a b c d p q r s = All-cons IsCodeNumber a (b ∷ c ∷ d ∷ []) p (three b c d q r s)

window_coded : (placed : List Placed) (round : List Parts) → AllByRecursion AreInForce round → All IsCodeNumber (frame_window placed round)
window_coded placed round are =
    let all = all_weaker AreInForce AreCoded round are_coded are in
    four _ _ _ _
    (least_coded _ (offsets_coded _ sps_fields.sps_conf_win_left_offset placed round (all_weaker AreCoded (Codes sps_fields.sps_conf_win_left_offset) round (λ q is. is.left) all)))
    (least_coded _ (offsets_coded _ sps_fields.sps_conf_win_right_offset placed round (all_weaker AreCoded (Codes sps_fields.sps_conf_win_right_offset) round (λ q is. is.right) all)))
    (least_coded _ (offsets_coded _ sps_fields.sps_conf_win_top_offset placed round (all_weaker AreCoded (Codes sps_fields.sps_conf_win_top_offset) round (λ q is. is.top) all)))
    (least_coded _ (offsets_coded _ sps_fields.sps_conf_win_bottom_offset placed round (all_weaker AreCoded (Codes sps_fields.sps_conf_win_bottom_offset) round (λ q is. is.bottom) all)))

dpb_coded : (round : List Parts) → AllByRecursion AreInForce round → All IsCodeNumber (frame_dpb round)
dpb_coded round are =
    let all = all_weaker AreInForce AreCoded round are_coded are in
    three _ _ _
    (greatest_coded _ (numbers_coded dpb.dpb_max_dec_pic_buffering_minus1 round (all_weaker AreCoded (Codes dpb.dpb_max_dec_pic_buffering_minus1) round (λ q is. is.buffering) all)))
    (greatest_coded _ (numbers_coded dpb.dpb_max_num_reorder_pics round (all_weaker AreCoded (Codes dpb.dpb_max_num_reorder_pics) round (λ q is. is.reorder) all)))
    (latency_coded _ (numbers_coded dpb.dpb_max_latency_increase_plus1 round (all_weaker AreCoded (Codes dpb.dpb_max_latency_increase_plus1) round (λ q is. is.latency) all)))

-- ---- slices

pub slices_count : (regions : List Rect) (parts : List Numbers) → length regions ≡ length parts → length (frame_slices regions (map (λ p. p.slices) parts)) ≡ sum_by (λ p. length p.slices) parts
slices_count [] [] long = refl
slices_count [] (p ∷ parts) long = absurd (omega (arith, long))
slices_count (r ∷ regions) [] long = absurd (omega (arith, long))
slices_count (r ∷ regions) (p ∷ parts) long =
    length-append (map (moved_to r) p.slices) (frame_slices regions (map (λ p. p.slices) parts))
    ∙ ap (λ n. n + length (frame_slices regions (map (λ p. p.slices) parts))) (length-map p.slices (moved_to r))
    ∙ ap (λ n. length p.slices + n) (slices_count regions parts (omega (arith, long)))
    ∙ sym (sum_by-cons (λ p. length p.slices) p parts)

some_slices : (regions : List Rect) (parts : List Numbers) → 0 < length regions → AllZip IsSource regions parts → 1 ≤ sum_by (λ p. length p.slices) parts
some_slices [] parts some sources = absurd (omega (arith, some))
some_slices (r ∷ regions) [] some sources = absurd sources
some_slices (r ∷ regions) (p ∷ parts) some sources =
    let one = sources.0.layout.limits.slices.0 in
    let more = sum_by-cons (λ n. length n.slices) p parts in
    omega (arith, one, more)

-- ---- the frame

ctus : (log2 n total : ℕ) → log2 < 3 → 0 < n → n ≤ 16384 → total ≡ div_ceil n (2 ^ (log2 + 5)) → (0 < total) × (total ≤ 512)
ctus zero n total few some small is = (omega (arith, some, is), omega (arith, small, is))
ctus (suc zero) n total few some small is = (omega (arith, some, is), omega (arith, small, is))
ctus (suc (suc zero)) n total few some small is = (omega (arith, some, is), omega (arith, small, is))
ctus (suc (suc (suc log2))) n total few some small is = absurd (omega (arith, few))

first_in_force : (round : List Parts) → 0 < length round → AllByRecursion AreInForce round → AreInForce (picture_at round 0)
first_in_force [] some are = absurd (omega (arith, some))
first_in_force (q ∷ round) some are = are.0

pub positive_ctb : (round : List Parts) → 0 < ctb_of round
positive_ctb round = let most = large (picture_at round 0).sps in omega (arith, most)

module _ (frames : FrameOfRegions) (corners : List Corner) (round : List Parts) (frame : Numbers) (facts : MakeFrame corners round frame) where
  placed : List Placed
  placed = placed_in corners round

  some_round : 0 < length round
  some_round = let some = facts.can.are.some in let same = facts.can.same in omega (arith, some, same)

  some_placed : 0 < length (placed_in corners round)
  some_placed = let count = placed_count corners round facts.can.same in omega (arith, count, some_round)

  pub merged : IsMergedLayout (placed_in corners round) (ctb_of round) frame.columns frame.rows (corners_in corners round) (layouts_in round)
  merged = frames (placed_in corners round) (ctb_of round) frame.columns frame.rows (corners_in corners round) (layouts_in round)
      some_placed (positive_ctb round) facts.fit refl facts.can.sources facts.is.lines

  log2 : ℕ
  log2 = number (picture_at round 0).sps sps_fields.sps_log2_ctu_size_minus5

  few : number (picture_at round 0).sps sps_fields.sps_log2_ctu_size_minus5 < 3
  few = ctu_below (picture_at round 0).sps (first_in_force round some_round facts.are).sps

  sides : HasSides (placed_in corners round)
  sides = sides_of (number (picture_at round 0).sps sps_fields.sps_log2_ctu_size_minus5) (placed_in corners round) few some_placed facts.fit.small
      (whole_all (ctb_of round) corners round facts.are (recursion_from_All (IsOnGrid (ctb_of round)) (placed_in corners round) facts.fit.grid))

  -- its size in CTUs
  wide_is : quotient (frame_width (placed_in corners round)) (ctb_of round) ≡ last frame.columns
  wide_is = quotient_is (frame_width (placed_in corners round)) (ctb_of round) (large (picture_at round 0).sps) ∙ sym merged.wide

  high_is : quotient (frame_height (placed_in corners round)) (ctb_of round) ≡ last frame.rows
  high_is = quotient_is (frame_height (placed_in corners round)) (ctb_of round) (large (picture_at round 0).sps) ∙ sym merged.high

  corners_count : length (corners_in corners round) ≡ length corners
  corners_count = length-map (placed_in corners round) (placing.in_ctus (ctb_of round)) ∙ placed_count corners round facts.can.same ∙ sym facts.can.same

  parts : sps_reshaped.AreParts (last frame.columns) (last frame.rows) (corners_in corners round)
  parts = record {
    some = let some = facts.can.are.some in omega (arith, corners_count, some);
    few = let few = facts.can.are.few in omega (arith, corners_count, few);
    parts = merged.layout.subpics.parts;
    begins = merged.begins no_rect;
    ends = merged.ends no_rect;
  }

  pub sps_is_shape : (level : Option ℕ) → sps_reshaped.IsShape (ctb_of round) (frame_sps_shape corners round level)
  sps_is_shape level = record {
    id = omega arith;
    width = record { some = sides.some_wide; small = sides.small_wide; whole = sides.whole_wide };
    height = record { some = sides.some_high; small = sides.small_high; whole = sides.whole_high };
    window = window_coded (placed_in corners round) round facts.are;
    dpb = dpb_coded round facts.are;
    plan = rw (wide_is, high_is) parts;
  }

  -- its limits as a layout
  rising : (bounds : List ℕ) → Rises bounds → 0 < last bounds → 2 ≤ length bounds
  rising [] rises some = absurd (omega (arith, some))
  rising (a ∷ []) rises some = let first = rises.0 in absurd (omega (arith, some, first))
  rising (a ∷ b ∷ bounds) rises some = omega arith

  across : (0 < last frame.columns) × (last frame.columns ≤ 512)
  across = ctus (number (picture_at round 0).sps sps_fields.sps_log2_ctu_size_minus5) (frame_width (placed_in corners round)) (last frame.columns) few sides.some_wide sides.small_wide merged.wide

  down : (0 < last frame.rows) × (last frame.rows ≤ 512)
  down = ctus (number (picture_at round 0).sps sps_fields.sps_log2_ctu_size_minus5) (frame_height (placed_in corners round)) (last frame.rows) few sides.some_high sides.small_high merged.high

  slices_are : length frame.slices ≡ sum_by (λ p. length p.slices) (layouts_in round)
  slices_are = ap (λ n. length n.slices) facts.is.pictures
      ∙ slices_count (corners_in corners round) (layouts_in round) (AllZip-long IsSource (corners_in corners round) (layouts_in round) facts.can.sources)

  some_slice : 1 ≤ sum_by (λ p. length p.slices) (layouts_in round)
  some_slice = some_slices (corners_in corners round) (layouts_in round) (let some = facts.can.are.some in omega (arith, corners_count, some)) facts.can.sources

  -- as one subpicture it is a layout
  alone : HasLayout (with_one_subpic frame)
  alone = record {
    faultless = subst (λ n. IsLayout (with_one_subpic n)) (sym facts.is.pictures) merged.alone;
    limits = record {
      columns = (rising frame.columns facts.is.lines.vertical.rises across.0, across.1);
      rows = (rising frame.rows facts.is.lines.horizontal.rises down.0, down.1);
      slices = (omega (arith, slices_are, some_slice), let most = facts.can.few in omega (arith, slices_are, most));
      subpics = (omega arith, omega arith);
    };
    columns = facts.is.lines.vertical.rises;
    rows = facts.is.lines.horizontal.rises;
  }

  pub pps_is_shape : (source : List Item) (id : ℕ) → id < 64 → pps_reshaped.IsShape source (frame_pps_shape corners round frame id)
  pps_is_shape source id small = record {
    id = small;
    sps_id = omega arith;
    width = record { some = sides.some_wide; small = sides.small_wide; whole = sides.whole_wide };
    height = record { some = sides.some_high; small = sides.small_high; whole = sides.whole_high };
    subpic_id = tt;
    init_qp = init_qp_is (picture_at round 0).pps (first_in_force round some_round facts.are).pps;
    divided = λ none. record {
      ctb = (number (picture_at round 0).sps sps_fields.sps_log2_ctu_size_minus5, few, refl);
      columns = merged.wide;
      rows = merged.high;
      layout = alone;
      listable = subst (λ n. AreListable frame.columns frame.rows n.slices) (sym facts.is.pictures) merged.listable;
    };
  }

  -- and by its regions
  pub frame_is_layout : IsLayout frame
  frame_is_layout = subst IsLayout (sym facts.is.pictures) merged.layout

  pub frame_in_limits : IsInLimits frame
  frame_in_limits = record {
    columns = alone.limits.columns;
    rows = alone.limits.rows;
    slices = alone.limits.slices;
    subpics = subpics_fit;
  }
    where
      subpics_fit : (1 ≤ length frame.subpics) × (length frame.subpics ≤ 1000)
      subpics_fit =
          let count : length frame.subpics ≡ length (corners_in corners round) = ap (λ n. length n.subpics) facts.is.pictures in
          let some = facts.can.are.some in
          let most = facts.can.are.few in
          (omega (arith, count, corners_count, some), omega (arith, count, corners_count, most))

  pub has_shapes : HasShapes corners round frame
  has_shapes = record { sps = sps_is_shape; pps = λ id small. pps_is_shape (picture_at round 0).pps id small; layout = frame_is_layout; limits = frame_in_limits }
