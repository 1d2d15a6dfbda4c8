-- What is known of a round that breaks no rule, each fact once.
use Rattle.std.proofs.Common.{◌≡◌, ℕ, zero, suc, ◌<◌, List, [], ◌∷◌, length, Option, None, refl, sym, ◌∙◌, arith}
use Rattle.std.specs.List.{AllByRecursion}
use Rattle.std.proofs.lemmas.List.Elements.{All-from_recursion}
use Rattle.vx_bits.specs.declared.list.Item.{Item}
use Rattle.vx_layout.specs.declared.numbers.Numbers.{Numbers}
use Rattle.vx_layout.proofs.Moving.{HasLayout-region}
use Rattle.vx_layout.proofs.RegionShapes.{region-listable}
use Rattle.vx_fit.specs.Placing.{FitTogether}
use Rattle.vx_fit.proofs.Faultless.{faultless_fits}
use Rattle.vx_fit.proofs.Merged.{frame-merged}
use Rattle.vx_fit.proofs.Single.{fault_one}
use Rattle.vx_sps.specs.Depends as sps_set
use Rattle.vx_sps.proofs.Says.{reshaped_keeps}
use Rattle.vx_pps.specs.Pps as pps_set
use Rattle.vx_pps.specs.laws.Sets.{ReadSlicesAreListable, SetsTellPartitions}
use Rattle.vx_pps.proofs.Framing.{frame_keeps}
use Rattle.vx_ph.specs.Reshaped.{HaveSameKept, IsApart}
use Rattle.vx_pic.specs.Parts.{Parts}
use Rattle.vx_pic.specs.Resident.{sent_before}
use Rattle.vx_pic.specs.Written.{Plan, a_pps}
use Rattle.vx_write.specs.InForce.{AreInForce}
use Rattle.vx_write.specs.Slots.{pps_with_id}
use Rattle.vx_write.proofs.Spelled.{pps_items, sps_items}
use Rattle.vx_frame.specs.declared.corner.Corner.{Corner}
use Rattle.vx_frame.specs.Regions.{ctb_of, placed_in}
use Rattle.vx_frame.specs.Rounds.{picture_at}
use Rattle.vx_frame.specs.Shapes.{IsFrame, frame_pps_shape, frame_sps_shape}
use Rattle.vx_frame.specs.Counts.{pps_slots}
use Rattle.vx_frame.specs.inner.Geometry.{CanBeJoined, HasShapes, MakeFrame}
use Rattle.vx_frame.specs.inner.Known.{IsKnown}
use Rattle.vx_frame.proofs.FrameShaping.{has_shapes}
use Rattle.vx_frame.proofs.Passing.{pps_alike, sps_alike}
use Rattle.vx_frame.proofs.Sources.{can_be_joined}
use Rattle.vx_merge.specs.Merging.{Judges}
use Rattle.vx_merge.specs.Written.{IsMerged}
use Rattle.vx_merge.proofs.Apart.{frame_apart}
use Rattle.vx_merge.proofs.SliceFilters.{slots_low}
use Rattle.vx_again.specs.Frames.{AreFrameSets, IsReadyRound}
use Rattle.vx_again.specs.Sources.{IsSource}

-- ---- each picture of a round

-- what holds of each holds of the one at a place
pub one_at : (P : Parts → Type 0) (round : List Parts) (k : ℕ) → k < length round → AllByRecursion P round → P (picture_at round k)
one_at P [] k short all = absurd (omega (arith, short))
one_at P (q ∷ round) zero short all = all.0
one_at P (q ∷ round) (suc k) short all = one_at P round k (omega (arith, short)) all.1

pub each_weaker : {A : Type 0} (P Q : A → Type 0) → ((x : A) → P x → Q x) → (xs : List A) → AllByRecursion P xs → AllByRecursion Q xs
each_weaker P Q weaker [] all = tt
each_weaker P Q weaker (x ∷ xs) all = (weaker x all.0, each_weaker P Q weaker xs all.1)

module _ (tells : SetsTellPartitions) (reads : ReadSlicesAreListable) (corners : List Corner) (round : List Parts)
    (ready : IsReadyRound corners round) (passes : Judges corners round None) where
  pub some_round : 0 < length round
  some_round = let some = ready.are.some in let same = ready.same in omega (arith, some, same)

  pub source_at : (k : ℕ) → k < length round → IsSource (picture_at round k)
  source_at k short = one_at IsSource round k short ready.each

  pub are_in_force : AllByRecursion AreInForce round
  are_in_force = each_weaker IsSource AreInForce (λ q is. is.sets) round ready.each

  pub can : CanBeJoined corners round
  can = can_be_joined tells reads region-listable HasLayout-region fault_one corners round ready.are ready.same passes
      (All-from_recursion IsKnown round (each_weaker IsSource IsKnown (λ q is. record { sets = is.sets; whole = is.whole }) round ready.each))

  pub fit : FitTogether (placed_in corners round) (ctb_of round)
  fit = faultless_fits (placed_in corners round) (ctb_of round) can.fits

  -- ---- its frame

  module _ (frame : Numbers) (is : IsFrame corners round frame) where
    pub made : MakeFrame corners round frame
    made = record { can = can; fit = fit; is = is; are = are_in_force }

    pub shapes : HasShapes corners round frame
    shapes = has_shapes frame-merged corners round frame made

    -- ---- the sets of the frame

    module _ (level : Option ℕ) (id : ℕ) (sps pps : List Item) (sets : AreFrameSets corners level round frame id sps pps) where
      pub sps_kept : sps_set.kept_sps_items sps ≡ sps_set.kept_sps_items (picture_at round 0).sps
      sps_kept = reshaped_keeps (picture_at round 0).sps sps (frame_sps_shape corners round level) sets.of_sps

      pub pps_kept : pps_set.kept_pps_items pps ≡ pps_set.kept_pps_items (picture_at round 0).pps
      pps_kept = frame_keeps (picture_at round 0).pps pps (frame_pps_shape corners round frame id) (source_at 0 some_round).sets.pps sets.of_pps refl

      -- they keep what the sets of each picture keep
      pub kept_same : (k : ℕ) → k < length round → HaveSameKept (picture_at round k).sps (picture_at round k).pps sps pps
      kept_same k short = record {
        of_sps = sps_kept ∙ sym (sps_alike corners round ready.same passes k short);
        of_pps = pps_kept ∙ sym (pps_alike corners round ready.same passes k short);
        is_sps = (source_at k short).sets.sps;
        is_other_sps = sps_items (picture_at round 0).sps (frame_sps_shape corners round level) sps sets.of_sps;
        is_pps = (source_at k short).sets.pps;
        is_other_pps = pps_items (picture_at round 0).pps (frame_pps_shape corners round frame id) pps sets.of_pps;
      }

      -- the filter and the QP stand in slice headers
      pub apart : IsApart pps
      apart = frame_apart (picture_at round 0).pps pps (frame_pps_shape corners round frame id) sets.of_pps refl

-- ---- what is written

-- its sets are those of its frame
pub sets_of : (corners : List Corner) (level : Option ℕ) (round : List Parts) (done : List Plan) (p : Plan)
    (is : IsMerged corners level round done p)
    → AreFrameSets corners level round p.begun.layout is.ids.pps p.begun.sps p.begun.pps
sets_of corners level round done p is = record {
  low = slots_low pps_slots 1 p.kind.temporal_id (sent_before done p) (λ k id. a_pps (pps_with_id id is.plain)) (is.ids.pps ∷ []) is.taken.of_pps 0 (omega arith);
  of_sps = is.sps;
  of_pps = is.pps;
}
