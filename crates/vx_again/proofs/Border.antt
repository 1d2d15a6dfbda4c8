-- The subpicture of a source in the frame of its round stands at its corner, and has its size.
use Rattle.std.proofs.Common.{◌≡◌, ℕ, zero, suc, ◌*◌, ◌<◌, List, [], ◌∷◌, length, get_or, Option, Some, None, refl, ap, sym, subst, ◌∙◌, arith}
use Rattle.std.specs.Prelude.{All, slice_get}
use Rattle.std.proofs.lemmas.List.{get_or-map}
use Rattle.std.proofs.lemmas.Option.{get_or_from_slice_get, slice_get_within}
use Rattle.vx_layout.specs.declared.rect.Rect.{Rect}
use Rattle.vx_layout.specs.Layouts.{no_rect}
use Rattle.vx_fit.specs.declared.placed.Placed.{Placed}
use Rattle.vx_fit.specs.FitFaults.{nowhere}
use Rattle.vx_fit.specs.laws.Fitting.{AreItsSamples}
use Rattle.vx_fit.specs.Placing.{in_ctus}
use Rattle.vx_fit.proofs.Border.{border_is_regions}
use Rattle.vx_sps.specs.laws.Reread.{Says}
use Rattle.vx_sps.specs.Set.{ctb_size_of}
use Rattle.vx_sps.specs.Subpictures.{rect_of}
use Rattle.vx_pps.specs.laws.Sets.{ReadSlicesAreListable, SetsTellPartitions}
use Rattle.vx_pic.specs.Parts.{Parts}
use Rattle.vx_pic.specs.Written.{Plan}
use Rattle.vx_frame.specs.declared.corner.Corner.{Corner}
use Rattle.vx_frame.specs.Regions.{corners_in, ctb_of, placed_at, placed_in}
use Rattle.vx_frame.specs.Rounds.{picture_at}
use Rattle.vx_frame.specs.Shapes.{frame_sps_shape}
use Rattle.vx_frame.proofs.FrameShaping.{placed_count, positive_ctb}
use Rattle.vx_frame.proofs.Sized.{in_range}
use Rattle.vx_merge.specs.Merging.{Judges}
use Rattle.vx_merge.specs.Written.{IsMerged}
use Rattle.vx_again.specs.Frames.{IsReadyRound}
use Rattle.vx_again.specs.Regions.{StandsAt}
use Rattle.vx_again.proofs.Facts.{fit, sets_of, source_at}
use Rattle.vx_again.proofs.Frames.{count_rects, said}

-- no corner: what stands past the end of a list
abbrev pub no_corner : Corner
no_corner = record { x = 0; y = 0 }

-- the region of source k
abbrev pub region_at : List Corner → List Parts → ℕ → Placed
region_at corners round k = placed_at (get_or corners k no_corner) (picture_at round k)

region_is : (corners : List Corner) (round : List Parts) (k : ℕ) (d : Placed) → length corners ≡ length round → k < length round
    → get_or (placed_in corners round) k d ≡ region_at corners round k
region_is [] [] k d same short = absurd (omega (arith, short))
region_is [] (q ∷ round) k d same short = absurd (omega (arith, same))
region_is (c ∷ corners) [] k d same short = absurd (omega (arith, same))
region_is (c ∷ corners) (q ∷ round) zero d same short = refl
region_is (c ∷ corners) (q ∷ round) (suc k) d same short = region_is corners round k d (omega (arith, same)) (omega (arith, short))

-- ---- its samples

abbrev IsSome : Placed → Type 0
IsSome p = (0 < p.w) × (0 < p.h)

module _ (tells : SetsTellPartitions) (reads : ReadSlicesAreListable) (corners : List Corner) (round : List Parts)
    (ready : IsReadyRound corners round) (passes : Judges corners round None) where
  all_some : All IsSome (placed_in corners round)
  all_some = λ k d within.
      let same = ready.same in
      let count = placed_count corners round same in
      let short : k < length round = omega (arith, within, count) in
      let is_corner = ready.are.each k no_corner (omega (arith, short, same)) in
      let range = in_range (get_or corners k no_corner) (picture_at round k) is_corner
      (source_at tells reads corners round ready passes k short).sets in
      let wide = range.wide.0 in
      let high = range.high.0 in
      subst IsSome (sym (region_is corners round k d same short)) (omega (arith, wide), omega (arith, high))

  -- those of its CTUs
  pub its_samples : (k : ℕ) → k < length round → AreItsSamples (placed_in corners round) (ctb_of round) (region_at corners round k)
  its_samples k short =
      let count = placed_count corners round ready.same in
      let fitting = fit tells reads corners round ready passes in
      subst (AreItsSamples (placed_in corners round) (ctb_of round)) (region_is corners round k nowhere ready.same short)
      (border_is_regions (placed_in corners round) (ctb_of round) (positive_ctb round) fitting all_some k nowhere (omega (arith, short, count)))

-- ---- its subpicture

module _ (tells : SetsTellPartitions) (reads : ReadSlicesAreListable) (corners : List Corner) (level : Option ℕ) (round : List Parts)
    (done : List Plan) (p : Plan) (ready : IsReadyRound corners round) (passes : Judges corners round None)
    (is : IsMerged corners level round done p) where
  says : Says (picture_at round 0).sps (frame_sps_shape corners round level) p.begun.sps
  says = said tells reads corners level round p.begun.layout is.ids.pps p.begun.sps p.begun.pps ready passes is.frame
      (sets_of corners level round done p is)

  count_is : length (corners_in corners round) ≡ length round
  count_is = count_rects tells reads corners level round p.begun.layout is.ids.pps p.begun.sps p.begun.pps ready passes is.frame
      (sets_of corners level round done p is)

  -- CTUs are those of source 0
  pub same_ctb : ctb_size_of p.begun.sps ≡ ctb_of round
  same_ctb = says.ctb

  pub rect_is : (k : ℕ) → k < length round → rect_of p.begun.sps k ≡ in_ctus (ctb_of round) (region_at corners round k)
  rect_is k short =
      let count = placed_count corners round ready.same in
      let rects = count_is in
      says.rect k (omega (arith, short, rects))
      ∙ get_or-map (in_ctus (ctb_of round)) (placed_in corners round) k nowhere no_rect (omega (arith, short, count))
      ∙ ap (in_ctus (ctb_of round)) (region_is corners round k nowhere ready.same short)

  pub stands_at : (k : ℕ) (corner : Corner) → slice_get corners k ≡ Some corner → StandsAt p.begun.sps k corner
  stands_at k corner at =
      let same = ready.same in
      let short : k < length round = omega (arith, slice_get_within corners k corner at, same) in
      let own : get_or corners k no_corner ≡ corner = get_or_from_slice_get corners k corner no_corner at in
      let samples = its_samples tells reads corners round ready passes k short in
      let ctus : Rect = in_ctus (ctb_of round) (region_at corners round k) in
      record {
        left =
            ap (λ (r : Rect). r.x * ctb_size_of p.begun.sps) (rect_is k short)
            ∙ ap (λ c. ctus.x * c) same_ctb ∙ samples.left ∙ ap (λ (c : Corner). c.x) own;
        top =
            ap (λ (r : Rect). r.y * ctb_size_of p.begun.sps) (rect_is k short)
            ∙ ap (λ c. ctus.y * c) same_ctb ∙ samples.top ∙ ap (λ (c : Corner). c.y) own;
      }
