-- The pictures of a round that breaks no rule are sources of its frame.
use Rattle.std.proofs.Common.{◌≡◌, ℕ, ◌<◌, ◌≤◌, false, cond, List, [], ◌∷◌, length, get_or, Some, None, refl, ap, sym, ◌∙◌, subst, inl, inr, arith}
use Rattle.std.specs.Prelude.{All, sum_by, unwrap_or}
use Rattle.std.specs.List.{AllByRecursion, AllZip}
use Rattle.std.proofs.lemmas.Bool.{cases_Bool}
use Rattle.std.proofs.lemmas.List.{length-map}
use Rattle.std.proofs.lemmas.List.Elements.{All-weaker, recursion_from_All}
use Rattle.std.proofs.lemmas.List.Sums.{sum_by-cons}
use Rattle.std.proofs.lemmas.Option.{none-some}
use Rattle.vx_layout.specs.declared.numbers.Numbers.{Numbers}
use Rattle.vx_layout.specs.declared.rect.Rect.{Rect}
use Rattle.vx_layout.specs.Bounds.{last}
use Rattle.vx_layout.specs.Faults.{height, width}
use Rattle.vx_layout.specs.laws.Layouts.{RegionIsListable}
use Rattle.vx_layout.specs.Layouts.{HasLayout, no_rect, subpic_at}
use Rattle.vx_layout.specs.Rects.{IsPart, slices_of_subpicture, whole_picture}
use Rattle.vx_layout.specs.Regions.{counted_from, region_of}
use Rattle.vx_layout.specs.Shapes.{AreListable}
use Rattle.vx_layout.proofs.Counting.{length-slices_of-le}
use Rattle.vx_layout.proofs.Holding.{same_rect}
use Rattle.vx_layout.proofs.Moving.{last-cut}
use Rattle.vx_fit.specs.declared.placed.FitFault.{FitFault}
use Rattle.vx_fit.specs.FitFaults.{IsFitFault}
use Rattle.vx_fit.specs.FrameLines.{IsLinesFault}
use Rattle.vx_fit.specs.laws.Fitting.{FitFaultIsOne}
use Rattle.vx_fit.specs.Placing.{in_ctus}
use Rattle.vx_fit.specs.Sources.{IsSized, IsSource}
use Rattle.vx_sps.specs.Set as sps
use Rattle.vx_sps.specs.Subpictures.{subpics_of}
use Rattle.vx_pps.specs.Pps as pps
use Rattle.vx_pps.specs.laws.Sets.{ReadSlicesAreListable, SetsTellPartitions}
use Rattle.vx_pic.specs.Parts.{Parts}
use Rattle.vx_pic.specs.PictureLayout.{one_tile, subpictures_of}
use Rattle.vx_write.specs.InForce.{AreInForce}
use Rattle.vx_write.proofs.Listable.{listable}
use Rattle.vx_write.proofs.Regions.{subpics_listable}
use Rattle.vx_write.proofs.Sizes.{has_size, subpics_count}
use Rattle.vx_frame.specs.declared.corner.Corner.{Corner}
use Rattle.vx_frame.specs.Corners.{AreCorners}
use Rattle.vx_frame.specs.Regions.{corners_in, ctb_of, layout_of, layouts_in, placed_in}
use Rattle.vx_frame.specs.Rules.{most_slices, rules_of, rules_of_fit, several_subpictures, sps_tools, too_many_slices}
use Rattle.vx_frame.specs.Verdict.{IsVerdict, Rule}
use Rattle.vx_frame.specs.inner.Found.{Finds, fit_refusal}
use Rattle.vx_frame.specs.inner.Geometry.{AreWhole, CanBeJoined, IsWhole}
use Rattle.vx_frame.specs.inner.Known.{IsKnown}
use Rattle.vx_frame.proofs.Fitted.{misfit_found}
use Rattle.vx_frame.proofs.Framing.{all_fit}
use Rattle.vx_frame.proofs.Passing.{alone_found, fit_found, lines_kept, slices_found, sps_found}
use Rattle.vx_frame.proofs.Sized.{all_sized, is_sized, placed_length}
use Rattle.vx_frame.proofs.Verdicts.{none_breaks, verdict_one}

-- the law that a region of a layout is one
abbrev pub RegionIsLayout : Type 0
RegionIsLayout = (n : Numbers) (k : ℕ) → HasLayout n → k < length n.subpics → HasLayout (region_of n k)

-- ---- one picture

lone_item : {A : Type 0} (xs : List A) (d : A) → length xs ≡ 1 → xs ≡ get_or xs 0 d ∷ []
lone_item [] d one = absurd (omega (arith, one))
lone_item (x ∷ []) d one = refl
lone_item (x ∷ y ∷ xs) d one = absurd (omega (arith, one))

module _ (tells : SetsTellPartitions) (q : Parts) (are : AreInForce q) (one : subpics_of q.sps ≡ 1) where
  count : length q.layout.subpics ≡ 1
  count = subpics_count q are ∙ one

  -- its one subpicture is all of it
  subpic_is : subpic_at q.layout 0 ≡ whole_picture (width q.layout) (height q.layout)
  subpic_is =
      let s : Rect = subpic_at q.layout 0 in
      let part : IsPart (width q.layout) (height q.layout) s = are.layout.faultless.subpics.parts 0 no_rect (omega (arith, count)) in
      let size = has_size tells q are in
      let sized = is_sized tells (record { x = 0; y = 0 }) q (sps.ctb_size_of q.sps) are one refl in
      let wide : s.w ≡ width q.layout = sym (last-cut q.layout.columns s.x s.w) ∙ (sized.wide.1 ∙ sym size.wide) in
      let high : s.h ≡ height q.layout = sym (last-cut q.layout.rows s.y s.h) ∙ (sized.high.1 ∙ sym size.high) in
      let left : s.x ≡ 0 = omega (arith, part.across, wide) in
      let top : s.y ≡ 0 = omega (arith, part.down, high) in
      same_rect s (whole_picture (width q.layout) (height q.layout)) left top wide high

  -- and where it isn't partitioned its one slice
  unparted : pps.is_partitioned q.pps ≡ false → q.layout.slices ≡ q.layout.subpics
  unparted none =
      let all : Rect = whole_picture (sps.ctu_columns_of q.sps) (sps.ctu_rows_of q.sps) in
      let slices : q.layout.slices ≡ all ∷ [] =
      ap (λ n. n.slices) are.numbers ∙ ap (λ b. cond b (unwrap_or (pps.slice_list_of q.pps) (subpictures_of q.sps)) (all ∷ [])) none in
      let wide : width q.layout ≡ sps.ctu_columns_of q.sps =
      ap (λ n. width n) are.numbers ∙ ap (λ b. last (cond b (pps.tile_columns_of q.pps) (one_tile (sps.ctu_columns_of q.sps)))) none in
      let high : height q.layout ≡ sps.ctu_rows_of q.sps =
      ap (λ n. height n) are.numbers ∙ ap (λ b. last (cond b (pps.tile_rows_of q.pps) (one_tile (sps.ctu_rows_of q.sps)))) none in
      let whole : whole_picture (width q.layout) (height q.layout) ≡ all =
      ap (λ w. whole_picture w (height q.layout)) wide ∙ ap (λ h. whole_picture (sps.ctu_columns_of q.sps) h) high in
      let subpics : q.layout.subpics ≡ all ∷ [] = lone_item q.layout.subpics no_rect count ∙ ap (λ r. r ∷ []) (subpic_is ∙ whole) in
      slices ∙ sym subpics

  lone_listable : ReadSlicesAreListable → RegionIsListable → AreListable (layout_of q).columns (layout_of q).rows (layout_of q).slices
  lone_listable reads regions =
      elim (cases_Bool (pps.is_partitioned q.pps)) [
        | inl is ↦ listable reads regions q 0 are (omega (arith, count)) is (pps.slice_list_of q.pps) refl
        | inr none ↦ subpics_listable q.layout 0 are.layout (unparted none) (omega (arith, count))
      ]

  is_source : ReadSlicesAreListable → RegionIsListable → RegionIsLayout → (s : Rect) → IsSized s (layout_of q) → IsSource s (layout_of q)
  is_source reads regions makes s sized = record {
    layout = makes q.layout 0 are.layout (omega (arith, count));
    lone = refl;
    listable = lone_listable reads regions;
    wide = sized.wide.1;
    high = sized.high.1;
  }

-- ---- all pictures

-- the layouts of the regions have no more slices than the pictures
few_slices : (round : List Parts) → AllByRecursion IsWhole round
    → sum_by (λ n. length n.slices) (layouts_in round) ≤ sum_by (λ q. length q.slices) round
few_slices [] known = omega arith
few_slices (q ∷ round) known =
    let s : Rect = subpic_at q.layout 0 in
    let own : length (layout_of q).slices ≡ length (slices_of_subpicture q.layout.slices s) =
    length-map (slices_of_subpicture q.layout.slices s) (counted_from s) in
    let most = length-slices_of-le q.layout.slices s in
    let whole = known.0 in
    let more = few_slices round known.1 in
    let layouts = sum_by-cons (λ (n : Numbers). length n.slices) (layout_of q) (layouts_in round) in
    let pictures = sum_by-cons (λ (p : Parts). length p.slices) q round in
    omega (arith, layouts, pictures, own, most, whole, more)

sources_of : SetsTellPartitions → ReadSlicesAreListable → RegionIsListable → RegionIsLayout → (corners : List Rect) (round : List Parts)
    → AllByRecursion (λ q. AreInForce q × (subpics_of q.sps ≡ 1)) round → AllZip IsSized corners (layouts_in round)
    → AllZip IsSource corners (layouts_in round)
sources_of tells reads regions makes [] [] known sized = tt
sources_of tells reads regions makes [] (q ∷ round) known sized = absurd sized
sources_of tells reads regions makes (s ∷ corners) [] known sized = absurd sized
sources_of tells reads regions makes (s ∷ corners) (q ∷ round) known sized = (
  is_source tells q known.0.0 known.0.1 reads regions makes s sized.0,
  sources_of tells reads regions makes corners round known.1 sized.1,
)

-- a round whose sets break no rule can be joined
pub joinable : SetsTellPartitions → ReadSlicesAreListable → RegionIsListable → RegionIsLayout → (corners : List Corner) (round : List Parts) → AreCorners corners
    → length corners ≡ length round → Finds (length round) (several_subpictures round ∷ []) None → Finds (length round) (sps_tools round ∷ []) None
    → ((e : FitFault) → ¬ IsFitFault (placed_in corners round) (ctb_of round) e) → ((k : ℕ) → ¬ IsLinesFault (corners_in corners round) (layouts_in round) k)
    → Finds (length round) (too_many_slices round ∷ []) None → All AreInForce round → AreWhole round → CanBeJoined corners round
joinable tells reads regions makes corners round are same alone alike fits lines slices sets whole =
    let each = all_fit round (ctb_of round) sets alone alike refl in
    let sized = all_sized tells corners round (ctb_of round) same each in
    let known : AllByRecursion (λ q. AreInForce q × (subpics_of q.sps ≡ 1)) round =
    recursion_from_All (λ q. AreInForce q × (subpics_of q.sps ≡ 1)) round (λ k d short. ((each k d short).0, (each k d short).1.0)) in
    let some : 0 < length round = let some = are.some in omega (arith, some, same) in
    let few : ¬ (most_slices < sum_by (λ q. length q.slices) round) = none_breaks (length round) (too_many_slices round) slices 0 some in
    let fewer = few_slices round (recursion_from_All IsWhole round whole) in
    record {
      are = are;
      same = same;
      fits = fits;
      lines = lines;
      sources = sources_of tells reads regions makes (corners_in corners round) round known sized;
      few = omega (arith, few, fewer);
    }

-- regions of which no fault was found have none
no_misfit : (corners : List Corner) (round : List Parts) → FitFaultIsOne → 0 < length corners → length corners ≡ length round
    → Finds (length corners) (rules_of_fit (placed_in corners round) (ctb_of round)) None
    → (e : FitFault) → ¬ IsFitFault (placed_in corners round) (ctb_of round) e
no_misfit corners round one some same found e fault =
    let size : length (placed_in corners round) ≡ length corners = placed_length corners round same ∙ sym same in
    let other = misfit_found (placed_in corners round) (ctb_of round) e (omega (arith, size, some)) one fault in
    none-some (fit_refusal e)
    (verdict_one (length corners) (rules_of_fit (placed_in corners round) (ctb_of round)) None (Some (fit_refusal e)) found.verdict
    (subst (λ n. IsVerdict n (rules_of_fit (placed_in corners round) (ctb_of round)) (Some (fit_refusal e))) size other.verdict))

-- as does one that breaks no rule
pub can_be_joined : SetsTellPartitions → ReadSlicesAreListable → RegionIsListable → RegionIsLayout → FitFaultIsOne
    → (corners : List Corner) (round : List Parts) → AreCorners corners → length corners ≡ length round
    → IsVerdict (length corners) (rules_of corners round) None → All IsKnown round → CanBeJoined corners round
can_be_joined tells reads regions makes one corners round are same passes each_known =
    let count : length (corners_in corners round) ≡ length corners =
    length-map (placed_in corners round) (in_ctus (ctb_of round)) ∙ placed_length corners round same ∙ sym same in
    let at_round = λ (rules : List Rule) (found : Finds (length corners) rules None). subst (λ n. Finds n rules None) same found in
    joinable tells reads regions makes corners round are same
    (at_round (several_subpictures round ∷ []) (alone_found corners round same passes)) (at_round (sps_tools round ∷ []) (sps_found corners round same passes))
    (no_misfit corners round one are.some same (fit_found corners round same passes))
    (λ k fault. lines_kept corners round same passes k (let short = fault.in_range in omega (arith, short, count)) fault)
    (at_round (too_many_slices round ∷ []) (slices_found corners round same passes))
    (All-weaker IsKnown AreInForce (λ q known. known.sets) round each_known) (All-weaker IsKnown IsWhole (λ q known. known.whole) round each_known)
