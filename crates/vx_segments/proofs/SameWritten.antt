-- Rounds that are read alike are written alike.
use Rattle.std.proofs.Common.{◌≡◌, ℕ, ℤ, pos, suc, ◌+◌, ◌+ℤ◌, ◌<◌, ◌==◌, Bool, true, false, not, List, [], ◌∷◌, ◌++◌, length, map, filter, slice_get, Option, Some, None, refl, ap, sym, subst, ◌∙◌, inl, inr, arith}
use Rattle.std.specs.Prelude.{option_map, option_to_list, unwrap_or}
use Rattle.std.specs.List.{AllByRecursion, AllZip}
use Rattle.std.proofs.lemmas.Bool.{cases_Bool}
use Rattle.vx_bits.specs.declared.list.Item.{Item}
use Rattle.vx_bits.specs.declared.refusal.Refusal.{Refusal}
use Rattle.vx_bits.specs.declared.rules.TheConstants as codes
use Rattle.vx_annexb.specs.ByteStream.{source_limit}
use Rattle.vx_annexb.specs.Laws.{written}
use Rattle.vx_fields.specs.declared.dpb.TheConstants as dpb
use Rattle.vx_fields.specs.declared.ph.TheConstants as ph
use Rattle.vx_fields.specs.declared.pps.TheConstants as pps
use Rattle.vx_fields.specs.declared.ptl.TheConstants.{general_level_idc}
use Rattle.vx_fields.specs.declared.sh.TheConstants as sh
use Rattle.vx_fields.specs.declared.sps.TheConstants as sps
use Rattle.vx_table.specs.Loaded.{number}
use Rattle.vx_aps.specs.declared.aps.TheConstants as aps
use Rattle.vx_layout.specs.declared.numbers.Numbers.{Numbers}
use Rattle.vx_layout.specs.declared.rect.Rect.{Rect}
use Rattle.vx_layout.specs.Frames.{frame_of}
use Rattle.vx_fit.specs.declared.placed.Placed.{Placed}
use Rattle.vx_fit.specs.FrameLines.{HaveLines}
use Rattle.vx_fit.specs.Placing.{frame_height, frame_width}
use Rattle.vx_sps.specs.declared.shape.SpsShape.{SpsShape}
use Rattle.vx_sps.specs.declared.shape.SubpicPlan.TheVariants.{Many}
use Rattle.vx_sps.specs.Reshaped as sps_reshaped
use Rattle.vx_pps.specs.declared.shape.PpsShape.{PpsShape}
use Rattle.vx_pps.specs.Reshaped as pps_reshaped
use Rattle.vx_ph.specs.declared.shape.PhShape.{PhShape}
use Rattle.vx_ph.specs.Reshaped as ph_reshaped
use Rattle.vx_sh.specs.declared.shape.ShShape.{ShShape}
use Rattle.vx_pic.specs.declared.kind.Kind.{Kind}
use Rattle.vx_pic.specs.Inputs.{body_of, is_used}
use Rattle.vx_pic.specs.Parts.{Parts, SlicePart, read_of}
use Rattle.vx_pic.specs.Readings.{Begun, Slice}
use Rattle.vx_pic.specs.Resident.{history_of, is_resident, kept_for, sent_before, units_written}
use Rattle.vx_pic.specs.Sets.{filter_items, signed, slice_qp}
use Rattle.vx_pic.specs.UnderSets.{picture_header_of}
use Rattle.vx_pic.specs.Written.{Plan, Set, SetUnit, a_pps, an_sps, units_of}
use Rattle.vx_write.specs.Units.{IsSeiUnit}
use Rattle.vx_frame.specs.declared.corner.Corner.{Corner}
use Rattle.vx_frame.specs.Bodies.{filters_in, has_lmcs, has_scaling, is_chroma_scaled, lmcs_body, once, scaling_body, alf_bodies}
use Rattle.vx_frame.specs.Regions.{corners_in, ctb_of, layouts_in, placed_in}
use Rattle.vx_frame.specs.Rounds.{picture_at}
use Rattle.vx_frame.specs.Rules.{crosses_slices, crosses_tiles, has_slices, has_tiles, of_limit}
use Rattle.vx_frame.specs.Shapes.{IsFrame, frame_dpb, greatest, latency_of, least, frame_level, numbers_in_round, of_lowest, offsets_at, frame_pps_shape, frame_sps_shape, frame_window}
use Rattle.vx_frame.specs.Counts.{alf_slots, lmcs_slots, scaling_slots}
use Rattle.vx_frame.specs.Verdict.{IsVerdict}
use Rattle.vx_merge.specs.Headers.{HasMergedHeader, IsMergedSlice, SaysSlice, filter_in, id_for, ph_shape, sourced}
use Rattle.vx_merge.specs.Merging.{IsBarred, Passes}
use Rattle.vx_merge.specs.Needed.{Ids, TakeIds, aps_of_body, by_ids, id_of_body, lmcs_bodies, sets_of_round, scaling_bodies}
use Rattle.vx_merge.specs.Slots.{TakeSlots}
use Rattle.vx_merge.specs.Written.{IsMerged, limits_of, long_picture, long_unit}
use Rattle.vx_segments.specs.Alike.{HaveAlike, slice_names}
use Rattle.vx_segments.specs.Segments.{AreWrittenInTurn}
use Rattle.vx_segments.specs.Streams.{AreReadAlike}
use Rattle.vx_segments.specs.Whole.{AlikeAreWrittenAlike}
use Rattle.vx_segments.proofs.Naming.{ids_same}
use Rattle.vx_segments.proofs.Rounds.{AreAlike, at, at_same, elsewhere, filters_respect, flats, lmcs_respects, lowest_same, maps, plainly, scaling_respects}
use Rattle.vx_segments.proofs.SameRules.{corners_same, ctb, layouts_same, placed, same_verdict}

-- ---- shapes

offsets_same : (touches : Placed → Bool) (of : ℕ) (ps : List Placed) (round other : List Parts) → AreAlike round other
    → offsets_at touches of ps round ≡ offsets_at touches of ps other
offsets_same touches of [] round other alike = refl
offsets_same touches of (a ∷ ps) [] [] alike = refl
offsets_same touches of (a ∷ ps) [] (q ∷ other) alike = absurd alike
offsets_same touches of (a ∷ ps) (p ∷ round) [] alike = absurd alike
offsets_same touches of (a ∷ ps) (p ∷ round) (q ∷ other) alike =
    let rest = offsets_same touches of ps round other alike.1 in
    elim (cases_Bool (touches a)) [
      | inl on ↦ rw on
          (ap (λ n. n ∷ offsets_at touches of ps round) (plainly (λ x. number x.sps of) (λ p clvss poc bodies. refl) p q alike.0)
          ∙ ap (λ l. number q.sps of ∷ l) rest)
      | inr off ↦ rw off rest
    ]

abbrev window_by : List ℕ → List ℕ → List ℕ → List ℕ → List ℕ
window_by left right top bottom = least left ∷ least right ∷ least top ∷ least bottom ∷ []

abbrev dpb_by : List ℕ → List ℕ → List ℕ → List ℕ
dpb_by a b c = greatest a ∷ greatest b ∷ latency_of c ∷ []

abbrev sps_by : List Placed → List ℕ → ℕ → List ℕ → List Rect → SpsShape
sps_by ps window level dpb corners = record {
  id = 0;
  width = frame_width ps;
  height = frame_height ps;
  window = window;
  level = level;
  dpb = dpb;
  subpics = Many corners;
}

abbrev pps_by : List Placed → ℕ → Bool → Bool → ℤ → Numbers → ℕ → PpsShape
pps_by ps ctb tiles slices qp frame id = record {
  id = id;
  sps_id = 0;
  width = frame_width ps;
  height = frame_height ps;
  ctb = ctb;
  subpic_id = None;
  tiles = record { columns = frame.columns; rows = frame.rows };
  slices = frame.slices;
  across_tiles = tiles;
  across_slices = slices;
  init_qp = qp;
  merged = true;
}

abbrev ph_by : Bool → Ids → PhShape
ph_by scaled ids = record {
  pps_id = ids.pps;
  lmcs = option_map (λ id. record { id = id; scales_chroma = scaled }) (slice_get ids.lmcs 0);
  scaling = slice_get ids.scaling 0;
}

-- ---- lists, slice by slice

abbrev Each : (ℕ → SlicePart → Type 0) → List (ℕ × SlicePart) → Type 0
Each P xs = AllByRecursion (λ x. P x.0 x.1) xs

each_of : (P : ℕ → SlicePart → Type 0) (k : ℕ) (slices : List SlicePart) (more : List (ℕ × SlicePart)) → AllByRecursion (P k) slices → Each P more
    → Each P (map (λ s. (k, s)) slices ++ more)
each_of P k [] more all rest = rest
each_of P k (s ∷ slices) more all rest = (all.0, each_of P k slices more all.1 rest)

each_sourced : (P : ℕ → SlicePart → Type 0) (k : ℕ) (round : List Parts) → ((i : ℕ) → AllByRecursion (P (k + i)) (picture_at round i).slices)
    → Each P (sourced k round)
each_sourced P k [] all = tt
each_sourced P k (q ∷ round) all =
    let none : k + 0 ≡ k = omega arith in
    let one = λ (i : ℕ). let e : k + suc i ≡ (k + 1) + i = omega arith in e in
    each_of P k q.slices (sourced (k + 1) round) (subst (λ n. AllByRecursion (P n) q.slices) none (all 0))
    (each_sourced P (k + 1) round (λ i. subst (λ n. AllByRecursion (P n) (picture_at round i).slices) (one i) (all (suc i))))

sourced_same : (k : ℕ) (round other : List Parts) → AreAlike round other → sourced k round ≡ sourced k other
sourced_same k [] [] alike = refl
sourced_same k [] (q ∷ other) alike = absurd alike
sourced_same k (p ∷ round) [] alike = absurd alike
sourced_same k (p ∷ round) (q ∷ other) alike =
    ap (λ l. map (λ s. (k, s)) l ++ sourced (k + 1) round) (plainly (λ x. x.slices) (λ p clvss poc bodies. refl) p q alike.0)
    ∙ ap (λ l. map (λ s. (k, s)) q.slices ++ l) (sourced_same (k + 1) round other alike.1)

zip_each : {A B : Type 0} (P : A → Type 0) (R S : A → B → Type 0) → ((x : A) (w : B) → P x → R x w → S x w) → (xs : List A) (ws : List B)
    → AllByRecursion P xs → AllZip R xs ws → AllZip S xs ws
zip_each P R S step [] [] all zipped = tt
zip_each P R S step [] (w ∷ ws) all zipped = absurd zipped
zip_each P R S step (x ∷ xs) [] all zipped = absurd zipped
zip_each P R S step (x ∷ xs) (w ∷ ws) all zipped = (step x w all.0 zipped.0, zip_each P R S step xs ws all.1 zipped.1)

-- ---- a round

-- the plan of a round that is read elsewhere
abbrev pub reads_as : Plan → List Parts → Plan
reads_as p other = record p { kind = record p.kind { clvss = (picture_at other 0).kind.clvss; poc = (picture_at other 0).kind.poc } }

module _ (corners : List Corner) (level : Option ℕ) (round other : List Parts) (alike : AreAlike round other) where
  numbers_same : (of : ℕ) → numbers_in_round round of ≡ numbers_in_round other of
  numbers_same of = maps (λ q. number q.sps of) (plainly _ (λ p clvss poc bodies. refl)) round other alike

  window_same : frame_window (placed_in corners round) round ≡ frame_window (placed_in corners other) other
  window_same =
      let ps = placed_in corners other in
      let left = offsets_same (λ p. p.x == 0) sps.sps_conf_win_left_offset ps round other alike in
      let right = offsets_same (λ p. p.x + p.w == frame_width ps) sps.sps_conf_win_right_offset ps round other alike in
      let top = offsets_same (λ p. p.y == 0) sps.sps_conf_win_top_offset ps round other alike in
      let bottom = offsets_same (λ p. p.y + p.h == frame_height ps) sps.sps_conf_win_bottom_offset ps round other alike in
      ap (λ l. frame_window l round) (placed corners round other alike)
      ∙ (ap (λ l. window_by l (offsets_at (λ p. p.x + p.w == frame_width ps) sps.sps_conf_win_right_offset ps round)
      (offsets_at (λ p. p.y == 0) sps.sps_conf_win_top_offset ps round)
      (offsets_at (λ p. p.y + p.h == frame_height ps) sps.sps_conf_win_bottom_offset ps round)) left
      ∙ (ap (λ l. window_by (offsets_at (λ p. p.x == 0) sps.sps_conf_win_left_offset ps other) l
      (offsets_at (λ p. p.y == 0) sps.sps_conf_win_top_offset ps round)
      (offsets_at (λ p. p.y + p.h == frame_height ps) sps.sps_conf_win_bottom_offset ps round)) right
      ∙ (ap (λ l. window_by (offsets_at (λ p. p.x == 0) sps.sps_conf_win_left_offset ps other)
      (offsets_at (λ p. p.x + p.w == frame_width ps) sps.sps_conf_win_right_offset ps other) l
      (offsets_at (λ p. p.y + p.h == frame_height ps) sps.sps_conf_win_bottom_offset ps round)) top
      ∙ ap (λ l. window_by (offsets_at (λ p. p.x == 0) sps.sps_conf_win_left_offset ps other)
      (offsets_at (λ p. p.x + p.w == frame_width ps) sps.sps_conf_win_right_offset ps other)
      (offsets_at (λ p. p.y == 0) sps.sps_conf_win_top_offset ps other) l) bottom)))

  dpb_same : frame_dpb round ≡ frame_dpb other
  dpb_same =
      let a = numbers_same dpb.dpb_max_dec_pic_buffering_minus1 in
      let b = numbers_same dpb.dpb_max_num_reorder_pics in
      let c = numbers_same dpb.dpb_max_latency_increase_plus1 in
      ap (λ l. dpb_by l (numbers_in_round round dpb.dpb_max_num_reorder_pics) (numbers_in_round round dpb.dpb_max_latency_increase_plus1)) a
      ∙ (ap (λ l. dpb_by (numbers_in_round other dpb.dpb_max_dec_pic_buffering_minus1) l (numbers_in_round round dpb.dpb_max_latency_increase_plus1)) b
      ∙ ap (λ l. dpb_by (numbers_in_round other dpb.dpb_max_dec_pic_buffering_minus1) (numbers_in_round other dpb.dpb_max_num_reorder_pics) l) c)

  sps_same : frame_sps_shape corners round level ≡ frame_sps_shape corners other level
  sps_same =
      let ps = placed_in corners round in
      let qs = placed_in corners other in
      let window = frame_window ps round in
      let own = frame_window qs other in
      ap (λ l. sps_by l window (frame_level round level) (frame_dpb round) (corners_in corners round)) (placed corners round other alike)
      ∙ (ap (λ l. sps_by qs l (frame_level round level) (frame_dpb round) (corners_in corners round)) window_same
      ∙ (ap (λ l. sps_by qs own (unwrap_or level (greatest l)) (frame_dpb round) (corners_in corners round)) (numbers_same general_level_idc)
      ∙ (ap (λ l. sps_by qs own (frame_level other level) l (corners_in corners round)) dpb_same
      ∙ ap (λ l. sps_by qs own (frame_level other level) (frame_dpb other) l) (corners_same corners round other alike))))

  pps_same : (frame : Numbers) (id : ℕ) → frame_pps_shape corners round frame id ≡ frame_pps_shape corners other frame id
  pps_same frame id =
      let qs = placed_in corners other in
      let tiles : Bool = of_lowest has_tiles crosses_tiles false other in
      let slices : Bool = of_lowest has_slices crosses_slices false other in
      let qp = signed (picture_at round 0).pps pps.pps_init_qp_minus26 in
      ap (λ l. pps_by l (ctb_of round) (of_lowest has_tiles crosses_tiles false round) (of_lowest has_slices crosses_slices false round) qp frame id)
      (placed corners round other alike)
      ∙ (ap (λ n. pps_by qs n (of_lowest has_tiles crosses_tiles false round) (of_lowest has_slices crosses_slices false round) qp frame id) (ctb corners round other alike)
      ∙ (ap (λ b. pps_by qs (ctb_of other) b (of_lowest has_slices crosses_slices false round) qp frame id)
      (lowest_same has_tiles crosses_tiles false (plainly has_tiles (λ p clvss poc bodies. refl)) (plainly crosses_tiles (λ p clvss poc bodies. refl)) round other alike)
      ∙ (ap (λ b. pps_by qs (ctb_of other) tiles b qp frame id)
      (lowest_same has_slices crosses_slices false (plainly has_slices (λ p clvss poc bodies. refl)) (plainly crosses_slices (λ p clvss poc bodies. refl)) round other alike)
      ∙ ap (λ z. pps_by qs (ctb_of other) tiles slices z frame id)
      (at_same (λ q. signed q.pps pps.pps_init_qp_minus26) (plainly _ (λ p clvss poc bodies. refl)) round other alike 0))))

  ph_same : (ids : Ids) → ph_shape round ids ≡ ph_shape other ids
  ph_same ids =
      ap (λ b. ph_by b ids)
      (lowest_same has_lmcs is_chroma_scaled false (plainly has_lmcs (λ p clvss poc bodies. refl)) (plainly is_chroma_scaled (λ p clvss poc bodies. refl)) round other alike)

  -- ---- sets

  alf_same : alf_bodies round ≡ alf_bodies other
  alf_same = ap once (flats filters_in filters_respect round other alike)

  lmcs_same : lmcs_bodies round ≡ lmcs_bodies other
  lmcs_same = ap (λ o. option_to_list o) (lowest_same has_lmcs lmcs_body None (plainly has_lmcs (λ p clvss poc bodies. refl)) lmcs_respects round other alike)

  scaling_same : scaling_bodies round ≡ scaling_bodies other
  scaling_same =
      ap (λ o. option_to_list o) (lowest_same has_scaling scaling_body None (plainly has_scaling (λ p clvss poc bodies. refl)) scaling_respects round other alike)

  ids_taken : (t : ℕ) (sent : List SetUnit) (plain : List Item) (ids : Ids) → TakeIds round t sent plain ids → TakeIds other t sent plain ids
  ids_taken t sent plain ids is = record {
    of_pps = is.of_pps;
    of_alf = subst (λ b. TakeSlots alf_slots (length b) t sent (aps_of_body aps.ALF b) ids.alf) alf_same is.of_alf;
    of_lmcs = subst (λ b. TakeSlots lmcs_slots (length b) t sent (aps_of_body aps.LMCS b) ids.lmcs) lmcs_same is.of_lmcs;
    of_scaling = subst (λ b. TakeSlots scaling_slots (length b) t sent (aps_of_body aps.SCALING b) ids.scaling) scaling_same is.of_scaling;
  }

  abbrev sets_by : Ids → List Item → List Item → List (List ℕ) → List (List ℕ) → List (List ℕ) → List Set
  sets_by ids s p a b c =
      an_sps s ∷ a_pps p
      ∷ (by_ids aps.ALF alf_slots a ids.alf ++ (by_ids aps.LMCS lmcs_slots b ids.lmcs ++ by_ids aps.SCALING scaling_slots c ids.scaling))

  sets_same : (ids : Ids) (s p : List Item) → sets_of_round round ids s p ≡ sets_of_round other ids s p
  sets_same ids s p =
      ap (λ l. sets_by ids s p l (lmcs_bodies round) (scaling_bodies round)) alf_same
      ∙ (ap (λ l. sets_by ids s p (alf_bodies other) l (scaling_bodies round)) lmcs_same
      ∙ ap (λ l. sets_by ids s p (alf_bodies other) (lmcs_bodies other) l) scaling_same)

  -- ---- headers

  header_same : (ids : Ids) (b : Begun) → HasMergedHeader round ids b → HasMergedHeader other ids b
  header_same ids b is = record {
    says = subst (λ h. ph_reshaped.IsReshapedPictureHeader h (ph_shape other ids) b.sps b.pps (picture_header_of b))
        (at_same (λ q. q.header) (plainly _ (λ p clvss poc bodies. refl)) round other alike 0)
        (subst (λ s. ph_reshaped.IsReshapedPictureHeader (picture_at round 0).header s b.sps b.pps (picture_header_of b)) (ph_same ids) is.says);
    unit = is.unit;
    is = is.is;
    rbsp = is.rbsp;
    spelled = is.spelled;
    made = is.made;
  }

  filter_same : (ids : Ids) (k : ℕ) (s : SlicePart) → HaveAlike (picture_at round k) (picture_at other k) (slice_names (picture_at round k) s)
      → filter_in round ids (picture_at round k) s ≡ filter_in other ids (picture_at other k) s
  filter_same ids k s same =
      let p = picture_at round k in
      let q = picture_at other k in
      let here = at round other alike k in
      let e = elsewhere p q.kind.clvss q.kind.poc q.bodies in
      let told = λ (id : ℕ) (is : body_of p aps.ALF id ≡ body_of e aps.ALF id).
      ap (λ o. id_of_body (alf_bodies round) ids.alf (unwrap_or o [])) is ∙ ap (λ b. id_of_body b ids.alf (unwrap_or (body_of e aps.ALF id) [])) alf_same in
      ids_same p e (id_for round ids p) (id_for other ids e) told (filter_items p.pps p.header.fields (read_of s.header)) same
      ∙ ap (λ x. filter_in other ids x s) (sym here.same)

  says_same : (ids : Ids) (k : ℕ) (s : SlicePart) (shape : ShShape) → HaveAlike (picture_at round k) (picture_at other k) (slice_names (picture_at round k) s)
      → SaysSlice round ids k s shape → SaysSlice other ids k s shape
  says_same ids k s shape same says =
      let first = at_same (λ q. signed q.pps pps.pps_init_qp_minus26) (plainly _ (λ p clvss poc bodies. refl)) round other alike 0 in
      record {
        subpic = says.subpic;
        filter = says.filter ∙ filter_same ids k s same;
        lmcs = says.lmcs
            ∙ at_same (λ q. is_used q.header.fields s.header ph.ph_lmcs_enabled_flag sh.sh_lmcs_used_flag) (plainly _ (λ p clvss poc bodies. refl)) round other alike k;
        scaling = says.scaling
            ∙ at_same (λ q. is_used q.header.fields s.header ph.ph_explicit_scaling_list_enabled_flag sh.sh_explicit_scaling_list_used_flag)
            (plainly _ (λ p clvss poc bodies. refl)) round other alike k;
        qp = ap (λ z. (pos 26 +ℤ z) +ℤ shape.qp_delta) (sym first)
            ∙ (says.qp ∙ at_same (λ q. slice_qp q.pps q.header.fields (read_of s.header)) (plainly _ (λ p clvss poc bodies. refl)) round other alike k);
      }

  slice_same : (ids : Ids) (t : ℕ) (b : Begun) (k : ℕ) (s : SlicePart) (w : Slice)
      → HaveAlike (picture_at round k) (picture_at other k) (slice_names (picture_at round k) s) → IsMergedSlice round ids t b k s w → IsMergedSlice other ids t b k s w
  slice_same ids t b k s w same is = record {
    front = is.front;
    is = record {
      numbers = is.is.numbers;
      at = is.is.at;
      shape = is.is.shape;
      says = says_same ids k s is.is.shape same is.is.says;
      header = is.is.header;
      reshaped = is.is.reshaped;
      bytes = is.is.bytes;
      spelled = is.is.spelled;
      made = is.is.made;
    };
    read = is.read;
    unit = is.unit;
  }

  abbrev SameNames : ℕ → SlicePart → Type 0
  SameNames k s = HaveAlike (picture_at round k) (picture_at other k) (slice_names (picture_at round k) s)

  all_names : Each SameNames (sourced 0 round)
  all_names =
      each_sourced SameNames 0 round
      (λ i. let here : i ≡ 0 + i = omega arith in subst (λ n. AllByRecursion (SameNames n) (picture_at round i).slices) here (at round other alike i).slices)

  slices_same : (ids : Ids) (t : ℕ) (b : Begun) (ws : List Slice) → AllZip (λ x w. IsMergedSlice round ids t b x.0 x.1 w) (sourced 0 round) ws
      → AllZip (λ x w. IsMergedSlice other ids t b x.0 x.1 w) (sourced 0 other) ws
  slices_same ids t b ws zipped =
      subst (λ l. AllZip (λ (x : ℕ × SlicePart) w. IsMergedSlice other ids t b x.0 x.1 w) l ws) (sourced_same 0 round other alike)
      (zip_each (λ (x : ℕ × SlicePart). SameNames x.0 x.1) (λ x w. IsMergedSlice round ids t b x.0 x.1 w) (λ x w. IsMergedSlice other ids t b x.0 x.1 w)
      (λ x w same is. slice_same ids t b x.0 x.1 w same is) (sourced 0 round) ws all_names zipped)

  -- ---- what is written

  frame_same : (frame : Numbers) → IsFrame corners round frame → IsFrame corners other frame
  frame_same frame is =
      let cs = corners_same corners round other alike in
      let ls = layouts_same corners round other alike in
      record {
        lines = subst (λ l. HaveLines frame.columns frame.rows (corners_in corners other) l) ls
            (subst (λ c. HaveLines frame.columns frame.rows c (layouts_in round)) cs is.lines);
        pictures = is.pictures ∙ (ap (λ c. frame_of frame.columns frame.rows c (layouts_in round)) cs ∙ ap (λ l. frame_of frame.columns frame.rows (corners_in corners other) l) ls);
      }

  pub merged_alike : (done others : List Plan) (p : Plan) → history_of others ≡ history_of done → IsMerged corners level round done p
      → IsMerged corners level other others (reads_as p other)
  merged_alike done others p history is =
      let first = at round other alike 0 in
      let sent : kept_for p.kind.nal_type (history_of done) ≡ kept_for p.kind.nal_type (history_of others) = ap (λ h. kept_for p.kind.nal_type h) (sym history) in
      let of_pps = at_same (λ q. q.pps) (plainly _ (λ p clvss poc bodies. refl)) round other alike 0 in
      record {
        kind = ap (λ (k : Kind). let o : Kind = record k { clvss = (picture_at other 0).kind.clvss; poc = (picture_at other 0).kind.poc } in o) is.kind ∙ sym (ap (λ (q : Parts). q.kind) first.same);
        temporal_id = is.temporal_id;
        frame = frame_same p.begun.layout is.frame;
        sps = subst (λ l. sps_reshaped.IsReshapedSps l (frame_sps_shape corners other level) p.begun.sps)
            (at_same (λ q. q.sps) (plainly _ (λ p clvss poc bodies. refl)) round other alike 0)
            (subst (λ s. sps_reshaped.IsReshapedSps (picture_at round 0).sps s p.begun.sps) sps_same is.sps);
        ids = is.ids;
        plain = is.plain;
        plain_is = subst (λ l. pps_reshaped.IsReshapedPps l (frame_pps_shape corners other p.begun.layout 0) is.plain) of_pps
            (subst (λ s. pps_reshaped.IsReshapedPps (picture_at round 0).pps s is.plain) (pps_same p.begun.layout 0) is.plain_is);
        taken = subst (λ s. TakeIds other p.kind.temporal_id s is.plain is.ids) sent
            (ids_taken p.kind.temporal_id (sent_before done p) is.plain is.ids is.taken);
        pps = subst (λ l. pps_reshaped.IsReshapedPps l (frame_pps_shape corners other p.begun.layout is.ids.pps) p.begun.pps) of_pps
            (subst (λ s. pps_reshaped.IsReshapedPps (picture_at round 0).pps s p.begun.pps) (pps_same p.begun.layout is.ids.pps) is.pps);
        header = header_same is.ids p.begun is.header;
        slices = slices_same is.ids p.kind.nal_type p.begun _ is.slices;
        needed = is.needed;
        sets = is.sets ∙ sets_same is.ids p.begun.sps p.begun.pps;
        units = is.units;
        sent = subst (λ s. p.sent ≡ filter (λ x. not (is_resident p.kind.temporal_id s x)) is.needed) sent is.sent;
        sei = subst (λ m. IsSeiUnit p.kind.temporal_id m p.sei) (at_same (λ q. q.messages) (plainly _ (λ p clvss poc bodies. refl)) round other alike 0) is.sei;
        bytes = is.bytes;
      }

  limits_alike : (n : ℕ) (done others : List Plan) (p : Plan) (answer : Option Refusal) → units_written others ≡ units_written done
      → IsVerdict n (limits_of done p) answer → IsVerdict n (limits_of others (reads_as p other)) answer
  limits_alike n done others p answer units verdict =
      subst (λ us. IsVerdict n (long_unit p ∷ long_picture p ∷ of_limit codes.LONG_SOURCE (source_limit < length (written (us ++ units_of p))) ∷ []) answer)
      (sym units) verdict

  pub passes_alike : (done others : List Plan) (p : Plan) → history_of others ≡ history_of done → units_written others ≡ units_written done
      → Passes corners level round done p → Passes corners level other others (reads_as p other)
  passes_alike done others p history units passes = record {
    verdict = same_verdict corners round other alike (length corners) None passes.verdict;
    is = merged_alike done others p history passes.is;
    limits = limits_alike (length corners) done others p None units passes.limits;
  }

  pub barred_elsewhere : (done others : List Plan) (r : Refusal) → history_of others ≡ history_of done → units_written others ≡ units_written done
      → IsBarred corners level round done r → IsBarred corners level other others r
  barred_elsewhere done others r history units barred = elim barred [
    | inl judged ↦ inl (same_verdict corners round other alike (length corners) (Some r) judged)
    | inr long ↦ inr (record {
      verdict = same_verdict corners round other alike (length corners) None long.verdict;
      plan = reads_as long.plan other;
      is = merged_alike done others long.plan history long.is;
      limits = limits_alike (length corners) done others long.plan (Some r) units long.limits;
    })
  ]

-- ---- rounds

-- what others are written as
pub record Alike (corners : List Corner) (level : Option ℕ) (others : List (List Parts)) (ps : List Plan) : Type 0 where
  pub qs : List Plan
  pub are : AreWrittenInTurn corners level others qs
  pub history : history_of qs ≡ history_of ps
  pub units : units_written qs ≡ units_written ps

pub written_alike : (corners : List Corner) (level : Option ℕ) (rounds others : List (List Parts)) (ps : List Plan) → AreReadAlike rounds others
    → AreWrittenInTurn corners level rounds ps → Alike corners level others ps
written_alike corners level [] [] [] alike are = record { qs = []; are = tt; history = refl; units = refl }
written_alike corners level [] [] (p ∷ ps) alike are = absurd are
written_alike corners level [] (other ∷ others) ps alike are = absurd alike
written_alike corners level (round ∷ rounds) [] ps alike are = absurd alike
written_alike corners level (round ∷ rounds) (other ∷ others) [] alike are = absurd are
written_alike corners level (round ∷ rounds) (other ∷ others) (p ∷ ps) alike are =
    let rest = written_alike corners level rounds others ps alike.1 are.1 in
    record {
      qs = reads_as p other ∷ rest.qs;
      are = (passes_alike corners level round other alike.0 ps rest.qs p rest.history rest.units are.0, rest.are);
      history = ap (λ h. kept_for p.kind.nal_type h ++ p.sent) rest.history;
      units = ap (λ us. us ++ units_of p) rest.units;
    }

pub alike_are_written_alike : AlikeAreWrittenAlike
alike_are_written_alike corners level rounds others ps alike are =
    let same = written_alike corners level rounds others ps alike are in
    (same.qs, same.are, same.units)
