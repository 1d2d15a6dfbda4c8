-- The sets and the picture header of a merge of generated pictures ask little of headers: no extra bits, no entry points, and few slices.
use Rattle.std.proofs.Common.{◌≡◌, ℕ, zero, suc, ◌+◌, ◌<◌, ◌≤◌, ◌==◌, ◌&&◌, Bool, true, false, List, [], ◌∷◌, get_or, length, map, slice_index, None, refl, ap, sym, subst, ◌∙◌, arith}
use Rattle.std.specs.Prelude.{count_by}
use Rattle.std.specs.List.{range_with_len}
use Rattle.std.proofs.lemmas.Bool.{and_parts, eqb-true}
use Rattle.std.proofs.lemmas.List.FromFn.{length-map-range_with_len}
use Rattle.vx_bits.specs.declared.list.Item.{Item}
use Rattle.vx_fields.specs.declared.pps.TheConstants as pps_fields
use Rattle.vx_fields.specs.declared.sps.TheConstants as sps_fields
use Rattle.vx_layout.specs.declared.numbers.Numbers.{Numbers}
use Rattle.vx_layout.specs.declared.rect.Rect.{Rect}
use Rattle.vx_layout.specs.Frames.{frame_slices}
use Rattle.vx_layout.specs.Rects.{fits}
use Rattle.vx_layout.proofs.Counting.{count_by-filter_all}
use Rattle.vx_fit.specs.Placing.{in_ctus}
use Rattle.vx_table.specs.Depends.{has}
use Rattle.vx_table.specs.Forms.{has_value}
use Rattle.vx_table.specs.Loaded.{code_below, number, range_below, row_below}
use Rattle.vx_table.specs.Scope.{capped, fresh, is_set, natural, powers_below}
use Rattle.vx_table.specs.Shown.{shown_items}
use Rattle.vx_table.proofs.Loading.{number_of_shown}
use Rattle.vx_table.proofs.Numbers.{powers_least}
use Rattle.vx_sps.specs.declared.shape.SpsShape.{SpsShape}
use Rattle.vx_sps.specs.Depends.{taken_sps_fields}
use Rattle.vx_sps.specs.laws.Reread.{ReshapedSignals}
use Rattle.vx_sps.specs.Set.{extra_ph_bits_of, extra_sh_bits_of, set_flags}
use Rattle.vx_sps.specs.Subpictures.{sps_subpic_id_of, subpics_of}
use Rattle.vx_sps.proofs.Stated.{below}
use Rattle.vx_pps.specs.Pps.{default_active}
use Rattle.vx_pps.specs.Reshaped.{taken}
use Rattle.vx_pps.proofs.Fields.{same_with}
use Rattle.vx_ph.specs.declared.header.PictureHeader.{PictureHeader}
use Rattle.vx_sh.specs.declared.numbers.SliceNumbers.{SliceNumbers}
use Rattle.vx_sh.specs.laws.Sizes.{AskLittle}
use Rattle.vx_sh.specs.Whole.{points_at}
use Rattle.vx_pic.specs.declared.kind.Kind.{Kind}
use Rattle.vx_pic.specs.Parts.{Parts}
use Rattle.vx_pic.specs.PictureLayout.{are_in_pps, ids_of}
use Rattle.vx_pic.specs.UnderSets.{picture_header_of}
use Rattle.vx_pic.specs.Written.{Plan}
use Rattle.vx_frame.specs.Regions.{corners_in, layout_of, placed_in}
use Rattle.vx_frame.specs.Rounds.{picture_at}
use Rattle.vx_frame.specs.Shapes.{frame_pps_shape, frame_sps_shape}
use Rattle.vx_merge.specs.Headers.{AreNumbers}
use Rattle.vx_merge.specs.Written.{IsMerged}
use Rattle.vx_gen.specs.Pictures.{kind, nal_type, generated_pps, generated_sps}
use Rattle.vx_gen.specs.Rounds.{corners, round}
use Rattle.vx_gen.specs.Shown.{no_lists}
use Rattle.vx_gen.proofs.SideBySide.{rects_long}
use Rattle.vx_gen.proofs.Unbroken.{ctb_is, part_of, placed_is, source}

-- ---- flags of a field that is taken over

same_flags : (of : ℕ) (names : List ℕ) (items others : List Item) → has names of ≡ true → shown_items names items ≡ shown_items names others
    → set_flags of items ≡ set_flags of others
same_flags of names items others there same =
    let test : Item → Bool = λ x. x.field == of && is_set (natural x.value) in
    let shown : Item → Bool = λ x. has names x.field in
    let passes : (x : Item) → test x ≡ true → shown x ≡ true = λ x on. ap (has names) (eqb-true x.field of (and_parts (x.field == of) (is_set (natural x.value)) on).0) ∙ there in
    ap capped (sym (count_by-filter_all test shown items (λ k d low. passes (get_or items k d)))
    ∙ (ap (count_by test) same ∙ count_by-filter_all test shown others (λ k d low. passes (get_or others k d))))

-- ---- small numbers

zeros_low : (k : ℕ) → slice_index (0 ∷ 0 ∷ []) k ≤ 14
zeros_low zero = omega arith
zeros_low (suc zero) = omega arith
zeros_low (suc (suc k)) = omega arith

type_low : (p : ℕ) → nal_type p ≤ 8
type_low zero = omega arith
type_low (suc p) = omega arith

-- ---- a round

module _ (signals : ReshapedSignals) (seed pictures n p : ℕ) (some : 1 ≤ n) (few : n ≤ 16) (done : List Plan) (q : Plan)
    (is : IsMerged (corners n) None (round seed pictures n p) done q) where
  abbrev all : List Parts
  all = round seed pictures n p

  pub first : picture_at all 0 ≡ part_of seed pictures n p some few 0
  first = source seed pictures n p some few 0 (omega (arith, some))

  pub kind_is : q.kind ≡ kind p
  kind_is = is.kind ∙ ap (λ (x : Parts). x.kind) first

  -- ---- its SPS

  sps_taken : shown_items taken_sps_fields q.begun.sps ≡ shown_items taken_sps_fields generated_sps
  sps_taken = is.sps.shown_ones ∙ ap (λ (x : Parts). shown_items taken_sps_fields x.sps) first

  pub no_ph_bits : extra_ph_bits_of q.begun.sps ≡ 0
  unfolding fresh natural
  no_ph_bits = same_flags sps_fields.sps_extra_ph_bit_present_flag taken_sps_fields q.begun.sps generated_sps refl sps_taken

  no_sh_bits : extra_sh_bits_of q.begun.sps ≡ 0
  unfolding fresh natural
  no_sh_bits = same_flags sps_fields.sps_extra_sh_bit_present_flag taken_sps_fields q.begun.sps generated_sps refl sps_taken

  no_points : number q.begun.sps sps_fields.sps_entry_point_offsets_present_flag ≡ 0
  unfolding fresh natural
  no_points =
      let of : ℕ = sps_fields.sps_entry_point_offsets_present_flag in
      number_of_shown taken_sps_fields of q.begun.sps refl ∙ ap (λ xs. number xs of) sps_taken ∙ sym (number_of_shown taken_sps_fields of generated_sps refl)

  -- its ids are indices
  abbrev shape : SpsShape
  shape = frame_sps_shape (corners n) all None

  regions_long : length (corners_in (corners n) all) ≡ n
  regions_long =
      ap (λ ctb. length (map (in_ctus ctb) (placed_in (corners n) all))) (ctb_is seed pictures n p some few)
      ∙ ap (λ ps. length (map (in_ctus 64) ps)) (placed_is seed pictures n p some few) ∙ rects_long n

  explicit : number q.begun.sps sps_fields.sps_subpic_id_mapping_explicitly_signalled_flag ≡ 0
  explicit =
      let long = regions_long in
      let bits : powers_below 32 (length (corners_in (corners n) all)) ≤ 6 = (powers_least 32 (length (corners_in (corners n) all)) 6 (omega (arith, long, few))).0 (omega (arith, long, few)) in
      (signals (picture_at all 0).sps q.begun.sps shape (omega arith) (omega (arith, bits)) is.sps).explicit

  subpics_low : subpics_of q.begun.sps ≤ 1000
  unfolding has_value row_below code_below range_below
  subpics_low =
      let low = subst (λ items. number items sps_fields.sps_num_subpics_minus1 < 1000) (sym is.sps.all) (below sps_fields.sps_num_subpics_minus1 1000 (omega arith) refl is.sps.follows) in
      omega (arith, low)

  ids_few : length (ids_of q.begun.sps q.begun.pps) ≤ 1000
  unfolding ids_of
  ids_few =
      let own : are_in_pps q.begun.sps q.begun.pps ≡ false = rw explicit refl in
      let long = length-map-range_with_len (sps_subpic_id_of q.begun.sps) 0 (subpics_of q.begun.sps) in
      let low = subpics_low in
      rw own (omega (arith, long, low))

  -- ---- its PPS

  active : (list : ℕ) → default_active q.begun.pps list ≤ 14
  unfolding fresh natural
  active list =
      let names : List ℕ = taken (frame_pps_shape (corners n) all q.begun.layout is.ids.pps) in
      let of : ℕ = pps_fields.pps_num_ref_idx_default_active_minus1 in
      let shown : shown_items names q.begun.pps ≡ shown_items names (generated_pps 0) = is.pps.rewritten.shown_ones ∙ ap (λ (x : Parts). shown_items names x.pps) first in
      let same = ap (λ xs. slice_index (map (λ (x : Item). natural x.value) xs) list) (same_with names of q.begun.pps (generated_pps 0) refl shown) in
      let low = zeros_low list in
      omega (arith, same, low)

  -- ---- its header and its layout

  none_listed : (picture_header_of q.begun).lists ≡ no_lists
  none_listed = is.header.says.lists ∙ ap (λ (x : Parts). x.header.lists) first

  one_each : (regions : List Rect) (a m : ℕ)
      → length (frame_slices regions (map (λ (l : Numbers). l.slices) (map layout_of (map (part_of seed pictures n p some few) (range_with_len a m))))) ≤ m
  unfolding fits
  one_each [] a m = omega arith
  one_each (r ∷ regions) a zero = omega arith
  one_each (r ∷ regions) a (suc m) = let more = one_each regions (a + 1) m in omega (arith, more)

  slices_few : length q.begun.layout.slices ≤ 16
  slices_few =
      let same = ap (λ (l : Numbers). length l.slices) is.frame.pictures in
      let each = one_each (corners_in (corners n) all) 0 n in
      omega (arith, same, each, few)

  -- ---- what is in force at its slices

  pub asks : (numbers : SliceNumbers) → AreNumbers q.kind.nal_type q.begun numbers → AskLittle numbers
  unfolding points_at
  asks numbers at = record {
    ph_bits = let none = ap extra_ph_bits_of at.sps ∙ no_ph_bits in omega (arith, none);
    sh_bits = let none = ap extra_sh_bits_of at.sps ∙ no_sh_bits in omega (arith, none);
    active = λ list. subst (λ items. default_active items list ≤ 14) (sym at.pps) (active list);
    type = let same = at.type ∙ ap (λ (k : Kind). k.nal_type) kind_is in let low = type_low p in omega (arith, same, low);
    first = let none = ap (λ (h : PictureHeader). length h.lists.first) at.header ∙ ap (λ l. length l.first) none_listed in omega (arith, none);
    second = let none = ap (λ (h : PictureHeader). length h.lists.second) at.header ∙ ap (λ l. length l.second) none_listed in omega (arith, none);
    ids = let same = ap length at.ids in let low = ids_few in omega (arith, same, low);
    slices = let same = ap (λ (l : Numbers). length l.slices) at.layout in let low = slices_few in omega (arith, same, low);
    points = λ k m.
        let none = ap (λ items. number items sps_fields.sps_entry_point_offsets_present_flag) at.sps ∙ no_points in
        let zero_points = ap (λ f. points_at numbers.layout.now (is_set f) (is_set (number numbers.sps.now sps_fields.sps_entropy_coding_sync_enabled_flag)) k m) none in
        omega (arith, zero_points);
  }
