-- What the sets of a round alone tell is the same of rounds that have the same sets.
use Rattle.std.proofs.Common.{◌≡◌, ◌≢◌, ℕ, zero, suc, ◌+◌, ◌<◌, ◌≤◌, Bool, true, false, cond, List, [], ◌∷◌, ◌++◌, map, length, Option, Some, None, IfSome, refl, sym, ap, ap₂, subst, ◌∙◌, inl, inr, arith}
use Rattle.std.proofs.Math.Path.{fun_ext}
use Rattle.std.specs.Prelude.{◌==◌, ◌&&◌, ◌⊎◌, IsTrue, sum_by, unwrap_or}
use Rattle.std.specs.Bool.{OnTrue}
use Rattle.std.specs.List.{AllByRecursion, AllZip}
use Rattle.std.specs.Option.{option_or}
use Rattle.std.specs.Global.{Box}
use Rattle.std.proofs.lemmas.Bool.{cases_Bool, eqb-true, false≢true}
use Rattle.std.proofs.lemmas.List.{length-map}
use Rattle.vx_bits.specs.declared.list.Item.{Item}
use Rattle.vx_bits.specs.declared.refusal.Refusal.{Refusal}
use Rattle.vx_bits.specs.declared.rules.TheConstants as rules
use Rattle.vx_fields.specs.declared.dpb.TheConstants as dpb
use Rattle.vx_fields.specs.declared.ptl.TheConstants.{general_level_idc}
use Rattle.vx_fields.specs.declared.pps.TheConstants as pps
use Rattle.vx_fields.specs.declared.sps.TheConstants as sps
use Rattle.vx_table.specs.Loaded.{number}
use Rattle.vx_layout.specs.declared.numbers.Numbers.{Numbers}
use Rattle.vx_layout.specs.declared.rect.Rect.{Rect}
use Rattle.vx_layout.specs.Frames.{frame_of}
use Rattle.vx_fit.specs.declared.placed.Placed.{Placed}
use Rattle.vx_fit.specs.FitFaults.{IsFitFault}
use Rattle.vx_fit.specs.FrameLines.{HaveLines, IsLinesFault}
use Rattle.vx_fit.specs.Lowest.{IsLowest}
use Rattle.vx_fit.specs.Placing.{FitTogether, frame_height, frame_width, in_ctus}
use Rattle.vx_fit.specs.Sources.{IsSource}
use Rattle.vx_sps.specs.Set.{ctb_size_of}
use Rattle.vx_sps.specs.Subpictures.{subpics_of}
use Rattle.vx_sps.specs.declared.shape.SpsShape.{SpsShape}
use Rattle.vx_sps.specs.declared.shape.SubpicPlan.TheVariants.{Many}
use Rattle.vx_sps.specs.Reshaped as sps_reshaped
use Rattle.vx_pps.specs.declared.shape.PpsShape.{PpsShape}
use Rattle.vx_pps.specs.Reshaped as pps_reshaped
use Rattle.vx_pic.specs.Differences.{differing_field}
use Rattle.vx_pic.specs.Keys.{SetItems}
use Rattle.vx_pic.specs.Parts.{Parts}
use Rattle.vx_pic.specs.PictureLayout.{numbers_in}
use Rattle.vx_pic.specs.Sets.{same_items, signed}
use Rattle.vx_pic.proofs.Sent.{items_are}
use Rattle.vx_write.specs.InForce.{AreInForce}
use Rattle.vx_write.proofs.Held.{both}
use Rattle.vx_frame.specs.declared.corner.Corner.{Corner}
use Rattle.vx_frame.specs.declared.geometry.FrameGeometry.{FrameGeometry}
use Rattle.vx_frame.specs.declared.frame.Frame.{Frame}
use Rattle.vx_frame.specs.declared.frame.RenamedPps.{RenamedPps}
use Rattle.vx_frame.specs.declared.frame.RoundFrame.{RoundFrame}
use Rattle.vx_frame.specs.declared.frame.RoundFrame.TheVariants.{Kept, New}
use Rattle.vx_frame.specs.Corners.{AreCorners}
use Rattle.vx_frame.specs.Regions.{corners_in, ctb_of, layout_of, layouts_in, placed_at, placed_in}
use Rattle.vx_frame.specs.Rounds.{no_picture, picture_at}
use Rattle.vx_frame.specs.Rules.{crosses_slices, crosses_tiles, differing_number, filter_flags, has_slices, has_tiles, kept_pps, kept_sps, most_slices, of_field, of_source, pps_tools, profile_fields, profile_of, rules_of, rules_of_fit, rules_of_frame, rules_of_sets, several_subpictures, sps_tools, tile_lines, too_many_slices}
use Rattle.vx_frame.specs.Shapes as shapes
use Rattle.vx_frame.specs.Shapes.{IsFrame, frame_dpb, greatest, latency_of, least, frame_level, of_lowest, offsets_at, frame_pps_shape, frame_sps_shape, frame_window}
use Rattle.vx_frame.specs.Verdict.{IsVerdict, Rule}
use Rattle.vx_frame.specs.inner.Found.{Finds}
use Rattle.vx_frame.specs.inner.Geometry.{CanBeJoined, HasShapes, IsGeometryOf}
use Rattle.vx_frame.specs.inner.Frames.{AreSetsOf, HasPps, HasSetsOf, HavePassed, HaveSameSets, IsFrameFor, IsFrameOf, IsKeptFrame, IsPpsFor, IsRoundFrame, IsSomeKept, IsSomeUsed, IsUsedFor, KnownWhereKept, ServesAs, SomePassed, is_renamed, renamed_or, sets_in, sets_of}
use Rattle.vx_frame.proofs.Passing.{alone_found, flags_found, frame_found, pps_found, sps_found}
use Rattle.vx_frame.proofs.Verdicts.{passed, passed_all}

-- ---- of one round, and of its sets alone

at_sets : (round : List Parts) (k : ℕ) → picture_at (map sets_of round) k ≡ sets_of (picture_at round k)
at_sets [] k = refl
at_sets (q ∷ round) zero = refl
at_sets (q ∷ round) (suc k) = at_sets round k

placed_sets : (corners : List Corner) (round : List Parts) → placed_in corners (map sets_of round) ≡ placed_in corners round
placed_sets [] [] = refl
placed_sets [] (q ∷ round) = refl
placed_sets (corner ∷ corners) [] = refl
placed_sets (corner ∷ corners) (q ∷ round) = ap (λ ps. placed_at corner q ∷ ps) (placed_sets corners round)

layouts_sets : (round : List Parts) → layouts_in (map sets_of round) ≡ layouts_in round
layouts_sets [] = refl
layouts_sets (q ∷ round) = ap (λ ls. layout_of q ∷ ls) (layouts_sets round)

numbers_sets : (of : ℕ) (round : List Parts) → shapes.numbers_in_round (map sets_of round) of ≡ shapes.numbers_in_round round of
numbers_sets of [] = refl
numbers_sets of (q ∷ round) = ap (λ ns. number q.sps of ∷ ns) (numbers_sets of round)

ctb_sets : (round : List Parts) → ctb_of (map sets_of round) ≡ ctb_of round
ctb_sets round = ap (λ q. ctb_size_of q.sps) (at_sets round 0)

offsets_sets : (touches : Placed → Bool) (of : ℕ) (placed : List Placed) (round : List Parts)
    → offsets_at touches of placed (map sets_of round) ≡ offsets_at touches of placed round
offsets_sets touches of [] [] = refl
offsets_sets touches of [] (q ∷ round) = refl
offsets_sets touches of (p ∷ placed) [] = refl
offsets_sets touches of (p ∷ placed) (q ∷ round) =
    elim (cases_Bool (touches p)) [
      | inl is ↦ rw is (ap (λ ns. number q.sps of ∷ ns) (offsets_sets touches of placed round))
      | inr is ↦ rw is (offsets_sets touches of placed round)
    ]

lowest_sets : {A : Type 0} (has : Parts → Bool) (f : Parts → A) (none : A) → ((q : Parts) → has (sets_of q) ≡ has q) → ((q : Parts) → f (sets_of q) ≡ f q)
    → (round : List Parts) → of_lowest has f none (map sets_of round) ≡ of_lowest has f none round
lowest_sets has f none same_has same_f [] = refl
lowest_sets has f none same_has same_f (q ∷ round) =
    ap (λ b. cond b (f (sets_of q)) (of_lowest has f none (map sets_of round))) (same_has q)
    ∙ (ap (λ x. cond (has q) x (of_lowest has f none (map sets_of round))) (same_f q)
    ∙ ap (λ x. cond (has q) (f q) x) (lowest_sets has f none same_has same_f round))

window_sets : (placed : List Placed) (round : List Parts) → frame_window placed (map sets_of round) ≡ frame_window placed round
window_sets placed round =
    let left = offsets_sets (λ p. p.x == 0) sps.sps_conf_win_left_offset placed round in
    let right = offsets_sets (λ p. p.x + p.w == frame_width placed) sps.sps_conf_win_right_offset placed round in
    let top = offsets_sets (λ p. p.y == 0) sps.sps_conf_win_top_offset placed round in
    let bottom = offsets_sets (λ p. p.y + p.h == frame_height placed) sps.sps_conf_win_bottom_offset placed round in
    ap₂ (λ (a : ℕ) (b : List ℕ). a ∷ b) (ap least left) (ap₂ (λ (a : ℕ) (b : List ℕ). a ∷ b) (ap least right) (ap₂ (λ (a b : List ℕ). least a ∷ least b ∷ []) top bottom))

dpb_sets : (round : List Parts) → frame_dpb (map sets_of round) ≡ frame_dpb round
dpb_sets round =
    ap₂ (λ (a b : List ℕ). greatest a ∷ b) (numbers_sets dpb.dpb_max_dec_pic_buffering_minus1 round)
    (ap₂ (λ (a b : List ℕ). greatest a ∷ latency_of b ∷ []) (numbers_sets dpb.dpb_max_num_reorder_pics round) (numbers_sets dpb.dpb_max_latency_increase_plus1 round))

level_sets : (level : Option ℕ) (round : List Parts) → frame_level (map sets_of round) level ≡ frame_level round level
level_sets level round = ap (λ ns. unwrap_or level (greatest ns)) (numbers_sets general_level_idc round)

-- ---- of sets that are kept

pub sets_alike : (q : Parts) (x : SetItems) → x.sps ≡ q.sps → x.pps ≡ q.pps → q.layout ≡ numbers_in q.sps q.pps → sets_in x ≡ sets_of q
sets_alike q x of_sps of_pps layout =
    ap₂ (λ (s p : List Item). record no_picture { sps = s; pps = p; layout = numbers_in s p }) of_sps of_pps
    ∙ ap (λ (n : Numbers). record no_picture { sps = q.sps; pps = q.pps; layout = n }) (sym layout)

-- that are known again
pub known_alike : (q : Parts) (x : SetItems) (t : Bool) → t ≡ (same_items x.sps q.sps && same_items x.pps q.pps) → q.layout ≡ numbers_in q.sps q.pps
    → OnTrue t (sets_in x ≡ sets_of q)
known_alike q x true is layout =
    let parts = both (same_items x.sps q.sps) (same_items x.pps q.pps) (sym is) in
    sets_alike q x (items_are x.sps q.sps parts.0) (items_are x.pps q.pps parts.1) layout
known_alike q x false is layout = tt

-- ---- of two rounds with the same sets

module _ (kept round : List Parts) (same : HaveSameSets kept round) where
  -- what the sets alone tell
  told : {A : Type 0} (w : List Parts → A) → ((r : List Parts) → w (map sets_of r) ≡ w r) → w kept ≡ w round
  told w by = sym (by kept) ∙ (ap w same ∙ by round)

  pub size : length kept ≡ length round
  size = told length (λ r. length-map r sets_of)

  pub at : (k : ℕ) → sets_of (picture_at kept k) ≡ sets_of (picture_at round k)
  at k = sym (at_sets kept k) ∙ (ap (λ r. picture_at r k) same ∙ at_sets round k)

  each : ◌≡◌ {A = ℕ → Parts} (λ k. sets_of (picture_at kept k)) (λ k. sets_of (picture_at round k))
  each = fun_ext at

  placed : (corners : List Corner) → placed_in corners kept ≡ placed_in corners round
  placed corners = told (placed_in corners) (placed_sets corners)

  ctb : ctb_of kept ≡ ctb_of round
  ctb = told ctb_of ctb_sets

  layouts : layouts_in kept ≡ layouts_in round
  layouts = told layouts_in layouts_sets

  regions : (corners : List Corner) → corners_in corners kept ≡ corners_in corners round
  regions corners = ap₂ (λ (size : ℕ) (ps : List Placed). map (in_ctus size) ps) ctb (placed corners)

  window : (corners : List Corner) → frame_window (placed_in corners kept) kept ≡ frame_window (placed_in corners round) round
  window corners = ap (λ ps. frame_window ps kept) (placed corners) ∙ told (frame_window (placed_in corners round)) (window_sets (placed_in corners round))

  -- ---- shapes

  abbrev sps_by : List Placed → List ℕ → ℕ → List ℕ → List Rect → SpsShape
  sps_by ps edges level numbers areas =
      record { id = 0; width = frame_width ps; height = frame_height ps; window = edges; level = level; dpb = numbers; subpics = Many areas }

  sps_same : (corners : List Corner) (level : Option ℕ) → frame_sps_shape corners kept level ≡ frame_sps_shape corners round level
  sps_same corners level =
      ap (λ ps. sps_by ps (frame_window (placed_in corners kept) kept) (frame_level kept level) (frame_dpb kept) (corners_in corners kept)) (placed corners)
      ∙ (ap (λ w. sps_by (placed_in corners round) w (frame_level kept level) (frame_dpb kept) (corners_in corners kept)) (window corners)
      ∙ (ap (λ l. sps_by (placed_in corners round) (frame_window (placed_in corners round) round) l (frame_dpb kept) (corners_in corners kept)) (told (λ r. frame_level r level) (level_sets level))
      ∙ (ap (λ d. sps_by (placed_in corners round) (frame_window (placed_in corners round) round) (frame_level round level) d (corners_in corners kept)) (told frame_dpb dpb_sets)
      ∙ ap (λ s. sps_by (placed_in corners round) (frame_window (placed_in corners round) round) (frame_level round level) (frame_dpb round) s) (regions corners))))

  abbrev pps_by : Numbers → ℕ → List Placed → ℕ → Bool → Bool → Parts → PpsShape
  pps_by frame id ps size tiles slices q = record {
    id = id;
    sps_id = 0;
    width = frame_width ps;
    height = frame_height ps;
    ctb = size;
    subpic_id = None;
    tiles = record { columns = frame.columns; rows = frame.rows };
    slices = frame.slices;
    across_tiles = tiles;
    across_slices = slices;
    init_qp = signed q.pps pps.pps_init_qp_minus26;
    merged = true;
  }

  pps_same : (corners : List Corner) (frame : Numbers) (id : ℕ) → frame_pps_shape corners kept frame id ≡ frame_pps_shape corners round frame id
  pps_same corners frame id =
      let tiles : List Parts → Bool = of_lowest has_tiles crosses_tiles false in
      let slices : List Parts → Bool = of_lowest has_slices crosses_slices false in
      let by = pps_by frame id in
      ap (λ ps. by ps (ctb_of kept) (tiles kept) (slices kept) (sets_of (picture_at kept 0))) (placed corners)
      ∙ (ap (λ n. by (placed_in corners round) n (tiles kept) (slices kept) (sets_of (picture_at kept 0))) ctb
      ∙ (ap (λ t. by (placed_in corners round) (ctb_of round) t (slices kept) (sets_of (picture_at kept 0))) (told tiles (lowest_sets has_tiles crosses_tiles false (λ q. refl) (λ q. refl)))
      ∙ (ap (λ s. by (placed_in corners round) (ctb_of round) (tiles round) s (sets_of (picture_at kept 0))) (told slices (lowest_sets has_slices crosses_slices false (λ q. refl) (λ q. refl)))
      ∙ ap (λ q. by (placed_in corners round) (ctb_of round) (tiles round) (slices round) q) (at 0))))

  first_sps : (picture_at kept 0).sps ≡ (picture_at round 0).sps
  first_sps = ap (λ q. q.sps) (at 0)

  first_pps : (picture_at kept 0).pps ≡ (picture_at round 0).pps
  first_pps = ap (λ q. q.pps) (at 0)

  -- ---- the frame

  lines_too : (corners : List Corner) (columns rows : List ℕ) → HaveLines columns rows (corners_in corners kept) (layouts_in kept)
      → HaveLines columns rows (corners_in corners round) (layouts_in round)
  lines_too corners columns rows lines =
      subst (λ l. HaveLines columns rows (corners_in corners round) l) layouts (subst (λ r. HaveLines columns rows r (layouts_in kept)) (regions corners) lines)

  frame_too : (corners : List Corner) (frame : Numbers) → IsFrame corners kept frame → IsFrame corners round frame
  frame_too corners frame is = record {
    lines = lines_too corners frame.columns frame.rows is.lines;
    pictures = is.pictures ∙ ap₂ (frame_of frame.columns frame.rows) (regions corners) layouts;
  }

  shapes_too : (corners : List Corner) (frame : Numbers) → HasShapes corners kept frame → HasShapes corners round frame
  shapes_too corners frame has = record {
    sps = λ level. subst (λ s. sps_reshaped.IsShape (ctb_of round) s) (sps_same corners level) (subst (λ n. sps_reshaped.IsShape n (frame_sps_shape corners kept level)) ctb (has.sps level));
    pps = λ id low. subst (λ s. pps_reshaped.IsShape (picture_at round 0).pps s) (pps_same corners frame id)
        (subst (λ p. pps_reshaped.IsShape p (frame_pps_shape corners kept frame id)) first_pps (has.pps id low));
    layout = has.layout;
    limits = has.limits;
  }

  framed_too : (corners : List Corner) (frame : FrameGeometry) → IsGeometryOf corners kept frame → IsGeometryOf corners round frame
  framed_too corners frame is = record {
    same = is.same ∙ size;
    some = let some = is.some in let long = size in omega (arith, some, long);
    few = let few = is.few in let long = size in omega (arith, few, long);
    placed = is.placed ∙ placed corners;
    range = is.range;
    layouts = is.layouts ∙ layouts;
    width = is.width ∙ ap frame_width (placed corners);
    height = is.height ∙ ap frame_height (placed corners);
    is = frame_too corners frame.numbers is.is;
    shapes = shapes_too corners frame.numbers is.shapes;
  }

  fit_too : (corners : List Corner) → FitTogether (placed_in corners kept) (ctb_of kept) → FitTogether (placed_in corners round) (ctb_of round)
  fit_too corners fit =
      subst (λ n. FitTogether (placed_in corners round) n) ctb (subst (λ ps. FitTogether ps (ctb_of kept)) (placed corners) fit)

  pps_too : (corners : List Corner) (frame : Numbers) (id : ℕ) (items : List Item) → IsPpsFor corners kept frame id items → IsPpsFor corners round frame id items
  pps_too corners frame id items is =
      subst (λ shape. pps_reshaped.IsReshapedPps (picture_at round 0).pps shape items) (pps_same corners frame id)
      (subst (λ first. pps_reshaped.IsReshapedPps first (frame_pps_shape corners kept frame id) items) first_pps is)

  renamed_too : (corners : List Corner) (frame : Numbers) (renamed : Option RenamedPps) → IfSome renamed (λ r. IsPpsFor corners kept frame r.id r.pps)
      → IfSome renamed (λ r. IsPpsFor corners round frame r.id r.pps)
  renamed_too corners frame None is = tt
  renamed_too corners frame (Some r) is = pps_too corners frame r.id r.pps is

  -- it can be joined
  can_too : (corners : List Corner) → CanBeJoined corners kept → CanBeJoined corners round
  can_too corners can = record {
    are = can.are;
    same = can.same ∙ size;
    fits = λ e fault. can.fits e (subst (λ ps. IsFitFault ps (ctb_of kept) e) (sym (placed corners)) (subst (λ n. IsFitFault (placed_in corners round) n e) (sym ctb) fault));
    lines = λ k fault. can.lines k (subst (λ rs. IsLinesFault rs (layouts_in kept) k) (sym (regions corners)) (subst (λ l. IsLinesFault (corners_in corners round) l k) (sym layouts) fault));
    sources = subst (λ l. AllZip IsSource (corners_in corners round) l) layouts (subst (λ rs. AllZip IsSource rs (layouts_in kept)) (regions corners) can.sources);
    few = subst (λ l. sum_by (λ (n : Numbers). length n.slices) l ≤ most_slices) layouts can.few;
  }

  pub frame_for_too : (corners : List Corner) (level : Option ℕ) (f : Frame) → AllByRecursion AreInForce round
      → IsFrameFor corners level kept f → IsFrameFor corners level round f
  frame_for_too corners level f are is = record {
    geometry = framed_too corners f.geometry is.geometry;
    made = record { can = can_too corners is.made.can; fit = fit_too corners is.made.fit; is = frame_too corners f.geometry.numbers is.made.is; are = are };
    layout = is.layout;
    sps = subst (λ shape. sps_reshaped.IsReshapedSps (picture_at round 0).sps shape f.sps) (sps_same corners level)
        (subst (λ items. sps_reshaped.IsReshapedSps items (frame_sps_shape corners kept level) f.sps) first_sps is.sps);
    plain = pps_too corners f.geometry.numbers 0 f.plain is.plain;
    renamed = renamed_too corners f.geometry.numbers f.renamed is.renamed;
  }

  -- ---- rules

  several_same : several_subpictures kept ≡ several_subpictures round
  several_same = ap (λ (g : ℕ → Parts). of_source rules.SEVERAL_SUBPICTURES (λ k. 1 < subpics_of (g k).sps)) each

  tools_same : sps_tools kept ≡ sps_tools round
  tools_same =
      ap (λ (g : ℕ → Parts).
      of_field rules.SPS_TOOLS (λ k. (kept_sps (g k) ≢ kept_sps (g 0)) ⊎ (profile_of (g k) ≢ profile_of (g 0)))
      (λ k. unwrap_or (option_or (differing_field (kept_sps (g k)) (kept_sps (g 0))) (differing_number profile_fields (g k).sps (g 0).sps)) 0)) each

  pps_tools_same : pps_tools kept ≡ pps_tools round
  pps_tools_same =
      ap (λ (g : ℕ → Parts). of_field rules.PPS_TOOLS (λ k. kept_pps (g k) ≢ kept_pps (g 0)) (λ k. unwrap_or (differing_field (kept_pps (g k)) (kept_pps (g 0))) 0)) each

  frame_same : (corners : List Corner) → rules_of_frame corners kept ≡ rules_of_frame corners round
  frame_same corners =
      ap₂ (λ (fit : List Rule) (lines : Rule). fit ++ lines ∷ []) (ap₂ rules_of_fit (placed corners) ctb) (ap₂ tile_lines (regions corners) layouts)

  flags_same : filter_flags kept ≡ filter_flags round
  flags_same =
      ap₂ (λ (n : ℕ) (g : ℕ → Parts).
      of_source rules.FILTER_FLAGS (λ k.
      (IsTrue (has_tiles (g k)) × ((j : ℕ) × IsLowest n (λ i. IsTrue (has_tiles (g i))) j × (crosses_tiles (g k) ≢ crosses_tiles (g j))))
      ⊎ (IsTrue (has_slices (g k)) × ((j : ℕ) × IsLowest n (λ i. IsTrue (has_slices (g i))) j × (crosses_slices (g k) ≢ crosses_slices (g j)))))) size each

-- ---- a frame that is kept

pub past_of : (corners : List Corner) (level : Option ℕ) (round : List Parts) (f : Frame) → IsKeptFrame corners level f → HasSetsOf round f → HavePassed corners round
past_of corners level round f is sets = record { kept = is.kept; count = is.is.count; passes = is.is.passes; same = sym is.sets ∙ sets }

pub some_kept : (corners : List Corner) (level : Option ℕ) (kept : Option (Box Frame)) → IfSome kept (λ f. IsKeptFrame corners level f.value) → IfSome kept (λ f. IsSomeKept corners f.value)
some_kept corners level None is = tt
some_kept corners level (Some f) is = (level, is)

-- as many sources
pub sources_count : (corners : List Corner) (level : Option ℕ) (f : Frame) → IsKeptFrame corners level f → length f.sources.items ≡ length corners
sources_count corners level f is =
    sym (length-map f.sources.items sets_in) ∙ (ap length is.sets ∙ (length-map is.kept sets_of ∙ sym is.is.count))

-- it serves for a round with the same sets
pub kept_serves : (corners : List Corner) (level : Option ℕ) (round : List Parts) (f : Box Frame) → AllByRecursion AreInForce round → IsKeptFrame corners level f.value
    → HasSetsOf round f.value
    → IsRoundFrame corners level round (Kept f)
kept_serves corners level round f are is sets =
    (record { is = frame_for_too is.kept round (sym is.sets ∙ sets) corners level f.value are is.is.is; sets = sets }, past_of corners level round f.value is sets)

-- a round that has the same sets breaks none of the rules on them
module _ (corners : List Corner) (round : List Parts) (count : length corners ≡ length round) (past : HavePassed corners round) where
  as_found : (rule other : Rule) → rule ≡ other → Finds (length corners) (rule ∷ []) None → Finds (length round) (other ∷ []) None
  as_found rule other same found =
      subst (λ n. Finds n (other ∷ []) None) count (subst (λ r. Finds (length corners) (r ∷ []) None) same found)

  pub alone_known : Finds (length round) (several_subpictures round ∷ []) None
  alone_known =
      as_found (several_subpictures past.kept) (several_subpictures round) (several_same past.kept round past.same) (alone_found corners past.kept past.count past.passes)

  pub sps_known : Finds (length round) (sps_tools round ∷ []) None
  sps_known = as_found (sps_tools past.kept) (sps_tools round) (tools_same past.kept round past.same) (sps_found corners past.kept past.count past.passes)

  pub pps_known : Finds (length round) (pps_tools round ∷ []) None
  pps_known = as_found (pps_tools past.kept) (pps_tools round) (pps_tools_same past.kept round past.same) (pps_found corners past.kept past.count past.passes)

  pub flags_known : Finds (length round) (filter_flags round ∷ []) None
  flags_known = as_found (filter_flags past.kept) (filter_flags round) (flags_same past.kept round past.same) (flags_found corners past.kept past.count past.passes)

  pub frame_known : Finds (length round) (rules_of_frame corners round) None
  frame_known =
      subst (λ n. Finds n (rules_of_frame corners round) None) count
      (subst (λ rs. Finds (length corners) rs None) (frame_same past.kept round past.same corners) (frame_found corners past.kept past.count past.passes))

  -- the rules on sets, of which only the count of slices is to be tried
  pub few_known : (answer : Option Refusal) → Finds (length round) (too_many_slices round ∷ []) answer → Finds (length round) (rules_of_sets corners round) answer
  few_known answer found =
      let frame = rules_of_frame corners round in
      passed (length round) (several_subpictures round) (sps_tools round ∷ (frame ++ too_many_slices round ∷ [])) answer alone_known
      (passed (length round) (sps_tools round) (frame ++ too_many_slices round ∷ []) answer sps_known
      (passed_all (length round) frame (too_many_slices round ∷ []) answer frame_known found))

-- ---- what the rules on sets leave

-- what is known of it when the rules on pictures are tried
pub past_or_new : (corners : List Corner) (level : Option ℕ) (round : List Parts) (frame : RoundFrame) → IsRoundFrame corners level round frame
    → KnownWhereKept (SomePassed round) round frame
past_or_new corners level round (Kept f) is = (corners, is.1)
past_or_new corners level round (New g) is = is.is.layouts

pub known_for : {A B : Type 0} (round : List Parts) (frame : RoundFrame) → (A → B) → KnownWhereKept A round frame → KnownWhereKept B round frame
known_for round (Kept _) f are = f are
known_for round (New _) f are = are

pub some_pps_known : (round : List Parts) → SomePassed round → Finds (length round) (pps_tools round ∷ []) None
some_pps_known round past = pps_known past.0 round (past.1.count ∙ size past.1.kept round past.1.same) past.1

pub some_flags_known : (round : List Parts) → SomePassed round → Finds (length round) (filter_flags round ∷ []) None
some_flags_known round past = flags_known past.0 round (past.1.count ∙ size past.1.kept round past.1.same) past.1

-- the frame of a round that breaks no rule
pub frame_used : (corners : List Corner) (level : Option ℕ) (round : List Parts) (f : Frame) → AreCorners corners → length corners ≡ length round
    → IsVerdict (length corners) (rules_of corners round) None → IsFrameOf corners level round f → IsUsedFor corners level round f
frame_used corners level round f are count passes is = record { are = are; count = count; passes = passes; is = is.is }

-- ---- its PPS under an id

pub same_serves : (round : List Parts) (s : Frame) → ServesAs round s s
same_serves round s = record { sources = refl; plain = refl; used = λ corners level used. used }

pub plain_under : (round : List Parts) (s : Frame) (id : ℕ) → id ≡ 0 → HasPps round id s
plain_under round s id zero_is = λ corners level used. rw zero_is used.is.plain

named_at : (corners : List Corner) (round : List Parts) (frame : Numbers) (plain : List Item) (renamed : Option RenamedPps) (id : ℕ) → is_renamed renamed id ≡ true
    → IfSome renamed (λ r. IsPpsFor corners round frame r.id r.pps) → IsPpsFor corners round frame id (renamed_or plain renamed)
named_at corners round frame plain None id is all = absurd (false≢true is)
named_at corners round frame plain (Some r) id is all = subst (λ i. IsPpsFor corners round frame i r.pps) (eqb-true r.id id is) all

pub renamed_under : (round : List Parts) (s : Frame) (id : ℕ) → is_renamed s.renamed id ≡ true → HasPps round id s
renamed_under round s id is = λ corners level used.
    elim (cases_Bool (id == 0)) [
      | inl same ↦ plain_under round s id (eqb-true id 0 same) corners level used
      | inr other ↦ rw other (named_at corners round s.geometry.numbers s.plain s.renamed id is used.is.renamed)
    ]

-- it is kept behind the round
pub kept_next : (corners : List Corner) (level : Option ℕ) (round : List Parts) (before after : Frame) → IsUsedFor corners level round before → HasSetsOf round before
    → ServesAs round before after → IsKeptFrame corners level after
kept_next corners level round before after used sets serves =
    record { kept = round; sets = subst (λ x. AreSetsOf round x.items) (sym serves.sources) sets; is = serves.used corners level used }

-- ---- what it serves for

pub some_used : (round : List Parts) (s : Frame) → IsSomeUsed round s → 0 < length round
some_used round s used = used.1.1.is.geometry.some

pub frame_there : (corners : List Corner) (level : Option ℕ) (round : List Parts) (s : Frame) → IsUsedFor corners level round s → IsFrame corners round s.layout
frame_there corners level round s used = subst (IsFrame corners round) (sym used.is.layout) used.is.geometry.is
