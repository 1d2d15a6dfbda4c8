-- A round is written in one way: its rules and what was written before tell each unit.
use Rattle.std.proofs.Common.{◌≡◌, ℕ, true, false, List, [], ◌∷◌, ◌++◌, length, map, Option, Some, refl, sym, ap, subst, ◌∙◌, inl, inr, arith}
use Rattle.std.specs.Prelude.{option_to_list}
use Rattle.std.specs.List.{AllByRecursion, AllZip}
use Rattle.std.proofs.lemmas.Bool.{cases_Bool}
use Rattle.vx_bits.specs.declared.list.Item.{Item}
use Rattle.vx_layout.specs.Frames.{frame_of}
use Rattle.vx_fit.proofs.Single.{lines_one}
use Rattle.vx_table.specs.Shown.{shown_items}
use Rattle.vx_table.specs.Values.{bits_along}
use Rattle.vx_sps.specs.Depends.{taken_sps_fields}
use Rattle.vx_sps.specs.Reshaped as sps_reshaped
use Rattle.vx_sps.specs.Structure.{sps_form}
use Rattle.vx_pps.specs.Reshaped as pps_reshaped
use Rattle.vx_ph.specs.Depends as ph_kept
use Rattle.vx_ph.specs.Header.{header_form}
use Rattle.vx_ph.specs.InForce.{in_force, structures}
use Rattle.vx_ph.specs.Picture.{IsPictureHeaderUnit, unit_form}
use Rattle.vx_ph.specs.Reshaped as ph_reshaped
use Rattle.vx_pic.specs.declared.kind.Kind.{Kind}
use Rattle.vx_pic.specs.declared.unit_types.TheConstants.{PH_NUT}
use Rattle.vx_pic.specs.Parts.{Parts}
use Rattle.vx_pic.specs.Readings.{Begun}
use Rattle.vx_pic.specs.Resident.{history_of, is_resident, kept_for, last_of, sent_before, serves}
use Rattle.vx_pic.specs.UnderSets.{picture_header_of}
use Rattle.vx_pic.specs.Written.{Plan, SetUnit, eos_units, sei_units, planned_slices}
use Rattle.vx_write.specs.Sending.{unsent}
use Rattle.vx_write.specs.Units.{IsSeiUnit, IsSetUnit, IsUnitOf}
use Rattle.vx_frame.specs.declared.corner.Corner.{Corner}
use Rattle.vx_frame.specs.Regions.{corners_in, layouts_in}
use Rattle.vx_frame.specs.Rounds.{picture_at}
use Rattle.vx_frame.specs.Shapes.{frame_pps_shape, frame_sps_shape}
use Rattle.vx_merge.specs.Headers.{HasMergedHeader, IsMergedSlice, ph_shape, sourced}
use Rattle.vx_merge.specs.Needed.{Ids, TakeIds, sets_of_round}
use Rattle.vx_bits.specs.Codes.{AreBytes}
use Rattle.vx_frame.proofs.Gathered.{all_back, all_front}
use Rattle.vx_merge.specs.Written.{IsMerged, MergedIsOne}
use Rattle.vx_table.proofs.Rewriting.{rewritten_one}
use Rattle.vx_table.proofs.Writings.{values_one}
use Rattle.vx_pps.proofs.OneGrouping.{behind}
use Rattle.vx_merge.proofs.OneFrame.{frame_pps_one}
use Rattle.vx_merge.proofs.OneIds.{ids_one}
use Rattle.vx_merge.proofs.OneSlice.{slices_one}
use Rattle.vx_write.proofs.OneUnit.{sei_one, set_unit_one, unit_one}

abbrev first_or : {A : Type 0} → A → List A → A
first_or other [] = other
first_or other (x ∷ xs) = x

-- ---- the sets that are sent

abbrev AreAllBytes : List SetUnit → Type 0
AreAllBytes xs = AllByRecursion AreBytes (map (λ x. x.unit) xs)

module _ (t : ℕ) (history : List SetUnit) where
  resident_not : (x : SetUnit) (xs : List SetUnit) → is_resident t history x ≡ true → unsent t history (x ∷ xs) ≡ unsent t history xs
  resident_not x xs is = rw is refl

  absent_sent : (x : SetUnit) (xs : List SetUnit) → is_resident t history x ≡ false → unsent t history (x ∷ xs) ≡ x ∷ unsent t history xs
  absent_sent x xs is = rw is refl

  sent_one : (xs ys : List SetUnit) → map (λ x. x.set) xs ≡ map (λ x. x.set) ys → AllByRecursion (λ x. IsSetUnit t x.set x.unit) xs → AllByRecursion (λ x. IsSetUnit t x.set x.unit) ys
      → AreAllBytes (unsent t history xs) → AreAllBytes (unsent t history ys) → unsent t history xs ≡ unsent t history ys
  sent_one [] [] same is of bytes others = refl
  sent_one [] (y ∷ ys) same is of bytes others = let none = ap length same in absurd (omega (arith, none))
  sent_one (x ∷ xs) [] same is of bytes others = let none = ap length same in absurd (omega (arith, none))
  sent_one (x ∷ xs) (y ∷ ys) same is of bytes others =
      let set : x.set ≡ y.set = ap (first_or x.set) same in
      let alike : is_resident t history y ≡ is_resident t history x = ap (λ s. serves t s (last_of s history)) (sym set) in
      let rest = sent_one xs ys (ap behind same) is.1 of.1 in
      elim (cases_Bool (is_resident t history x)) [
        | inl resident ↦
            let here = resident_not x xs resident in
            let there = resident_not y ys (alike ∙ resident) in
            here ∙ (rest (subst AreAllBytes here bytes) (subst AreAllBytes there others) ∙ sym there)
        | inr absent ↦
            let here = absent_sent x xs absent in
            let there = absent_sent y ys (alike ∙ absent) in
            let left = subst AreAllBytes here bytes in
            let right = subst AreAllBytes there others in
            let unit = set_unit_one t y.set x.unit y.unit left.0 right.0 (subst (λ s. IsSetUnit t s x.unit) set is.0) of.0 in
            let more = rest left.1 right.1 in
            here ∙ ((λ j. record { unit = unit j; set = set j } ∷ more j) ∙ sym there)
      ]

-- ---- the picture header

module _ (round : List Parts) (ids : Ids) (b c : Begun) (x : HasMergedHeader round ids b) (y : HasMergedHeader round ids c) (sps : b.sps ≡ c.sps) (pps : b.pps ≡ c.pps) where
  header_one : b.header ≡ c.header
  header_one =
      let source : List Item = (picture_at round 0).header.fields in
      let shape = ph_shape round ids in
      rewritten_one (header_form (structures b.sps) (in_force b.sps b.pps)) ph_kept.kept_ph_fields (shown_items ph_kept.kept_ph_fields source) (ph_reshaped.stated_ph_items b.sps shape) b.header c.header x.says.fields
      (subst (λ s. ph_reshaped.AreReshapedInPictureHeader source shape s b.pps c.header) (sym sps) (subst (λ p. ph_reshaped.AreReshapedInPictureHeader source shape c.sps p c.header) (sym pps) y.says.fields))

  header_unit_one : b.temporal_id ≡ c.temporal_id → AllByRecursion AreBytes (option_to_list b.unit) → AllByRecursion AreBytes (option_to_list c.unit) → b.unit ≡ c.unit
  header_unit_one tid bytes others =
      let form = unit_form (structures b.sps) (in_force b.sps b.pps) in
      let spelled : IsPictureHeaderUnit (structures b.sps) (in_force b.sps b.pps) (picture_header_of c) y.rbsp
      = subst (λ s. IsPictureHeaderUnit (structures s) (in_force s b.pps) (picture_header_of c) y.rbsp) (sym sps) (subst (λ p. IsPictureHeaderUnit (structures c.sps) (in_force c.sps p) (picture_header_of c) y.rbsp) (sym pps) y.spelled) in
      let values = values_one form x.spelled.follows spelled.follows (sym x.spelled.all ∙ (header_one ∙ spelled.all)) in
      let here = (subst (λ o. AllByRecursion AreBytes (option_to_list o)) x.is bytes).0 in
      let there = (subst (λ o. AllByRecursion AreBytes (option_to_list o)) y.is others).0 in
      let unit = unit_one PH_NUT b.temporal_id x.rbsp y.rbsp x.unit y.unit here there (x.spelled.bits ∙ (ap (bits_along form 0) values ∙ sym spelled.bits)) x.made
      (subst (λ t. IsUnitOf PH_NUT t y.rbsp y.unit) (sym tid) y.made) in
      x.is ∙ (ap (λ u. Some u) unit ∙ sym y.is)

-- ---- all of it

module _ (corners : List Corner) (level : Option ℕ) (round : List Parts) (done : List Plan) where
  abbrev own : Parts
  own = picture_at round 0

  -- the units of a plan are bytes, kind by kind
  module _ (p : Plan) (is : IsMerged corners level round done p) where
    after_sent : AllByRecursion AreBytes (sei_units p.sei ++ (option_to_list p.begun.unit ++ map (λ s. s.unit) (planned_slices p)))
    after_sent = all_back AreBytes (map (λ x. x.unit) p.sent) _ (all_back AreBytes (eos_units p.kind.after_eos) _ is.bytes)

    sent_bytes : AreAllBytes p.sent
    sent_bytes = all_front AreBytes (map (λ x. x.unit) p.sent) _ (all_back AreBytes (eos_units p.kind.after_eos) _ is.bytes)

    header_bytes : AllByRecursion AreBytes (option_to_list p.begun.unit)
    header_bytes = all_front AreBytes (option_to_list p.begun.unit) _ (all_back AreBytes (sei_units p.sei) _ after_sent)

    slice_bytes : AllByRecursion AreBytes (map (λ s. s.unit) (planned_slices p))
    slice_bytes = all_back AreBytes (option_to_list p.begun.unit) _ (all_back AreBytes (sei_units p.sei) _ after_sent)

  module _ (p q : Plan) (is : IsMerged corners level round done p) (of : IsMerged corners level round done q) where
    kind_one : p.kind ≡ q.kind
    kind_one = is.kind ∙ sym of.kind

    tid_one : p.begun.temporal_id ≡ q.begun.temporal_id
    tid_one = is.temporal_id ∙ (ap (λ (k : Kind). k.temporal_id) kind_one ∙ sym of.temporal_id)

    layout_one : p.begun.layout ≡ q.begun.layout
    layout_one =
        let lines = lines_one p.begun.layout.columns p.begun.layout.rows q.begun.layout.columns q.begun.layout.rows (corners_in corners round) (layouts_in round) is.frame.lines of.frame.lines in
        let columns = lines.0 in
        let rows = lines.1 in
        is.frame.pictures ∙ ((λ j. frame_of (columns j) (rows j) (corners_in corners round) (layouts_in round)) ∙ sym of.frame.pictures)

    sps_one : p.begun.sps ≡ q.begun.sps
    sps_one = rewritten_one sps_form taken_sps_fields (shown_items taken_sps_fields own.sps) (sps_reshaped.stated_sps_items own.sps (frame_sps_shape corners round level)) p.begun.sps q.begun.sps is.sps of.sps

    plain_one : is.plain ≡ of.plain
    plain_one = frame_pps_one corners round p.begun.layout 0 own.pps is.plain of.plain is.frame.lines.vertical.rises is.frame.lines.horizontal.rises is.plain_is
        (subst (λ l. pps_reshaped.IsReshapedPps own.pps (frame_pps_shape corners round l 0) of.plain) (sym layout_one) of.plain_is)

    same_ids : is.ids ≡ of.ids
    same_ids = ids_one round p.kind.temporal_id (sent_before done p) is.plain is.ids of.ids is.taken
        (subst (λ x. TakeIds round p.kind.temporal_id (sent_before done p) x of.ids) (sym plain_one)
        (subst (λ (k : Kind). TakeIds round k.temporal_id (kept_for k.nal_type (history_of done)) of.plain of.ids) (sym kind_one) of.taken))

    pps_one : p.begun.pps ≡ q.begun.pps
    pps_one = frame_pps_one corners round p.begun.layout is.ids.pps own.pps p.begun.pps q.begun.pps is.frame.lines.vertical.rises is.frame.lines.horizontal.rises is.pps
        (subst (λ l. pps_reshaped.IsReshapedPps own.pps (frame_pps_shape corners round l is.ids.pps) q.begun.pps) (sym layout_one)
        (subst (λ (i : Ids). pps_reshaped.IsReshapedPps own.pps (frame_pps_shape corners round q.begun.layout i.pps) q.begun.pps) (sym same_ids) of.pps))

    begun_one : p.begun ≡ q.begun
    begun_one =
        let sps = sps_one in
        let pps = pps_one in
        let layout = layout_one in
        let tid = tid_one in
        let there = subst (λ i. HasMergedHeader round i q.begun) (sym same_ids) of.header in
        let header = header_one round is.ids p.begun q.begun is.header there sps pps in
        let unit = header_unit_one round is.ids p.begun q.begun is.header there sps pps tid (header_bytes p is) (header_bytes q of) in
        λ j. record { sps = sps j; pps = pps j; layout = layout j; header = header j; temporal_id = tid j; unit = unit j }

    same_slices : planned_slices p ≡ planned_slices q
    same_slices = slices_one round is.ids p.kind.nal_type p.begun (sourced 0 round) (planned_slices p) (planned_slices q) is.slices
        (subst (λ b. AllZip (λ x w. IsMergedSlice round is.ids p.kind.nal_type b x.0 x.1 w) (sourced 0 round) (planned_slices q)) (sym begun_one)
        (subst (λ i. AllZip (λ x w. IsMergedSlice round i p.kind.nal_type q.begun x.0 x.1 w) (sourced 0 round) (planned_slices q)) (sym same_ids)
        (subst (λ (k : Kind). AllZip (λ x w. IsMergedSlice round of.ids k.nal_type q.begun x.0 x.1 w) (sourced 0 round) (planned_slices q)) (sym kind_one) of.slices)))
        (slice_bytes p is) (slice_bytes q of)

    same_sent : p.sent ≡ q.sent
    same_sent =
        let ids = same_ids in
        let sps = sps_one in
        let pps = pps_one in
        let sets = is.sets ∙ ((λ j. sets_of_round round (ids j) (sps j) (pps j)) ∙ sym of.sets) in
        let units = subst (λ (k : Kind). AllByRecursion (λ x. IsSetUnit k.temporal_id x.set x.unit) of.needed) (sym kind_one) of.units in
        let there : q.sent ≡ unsent p.kind.temporal_id (sent_before done p) of.needed
        = of.sent ∙ ap (λ (k : Kind). unsent k.temporal_id (kept_for k.nal_type (history_of done)) of.needed) (sym kind_one) in
        is.sent
        ∙ (sent_one p.kind.temporal_id (sent_before done p) is.needed of.needed sets is.units units (subst AreAllBytes is.sent (sent_bytes p is)) (subst AreAllBytes there (sent_bytes q of))
        ∙ sym there)

    same_sei : p.sei ≡ q.sei
    same_sei = sei_one p.kind.temporal_id own.messages p.sei q.sei is.sei (subst (λ (k : Kind). IsSeiUnit k.temporal_id own.messages q.sei) (sym kind_one) of.sei)

    plan_one : p ≡ q
    plan_one =
        let sent = same_sent in
        let sei = same_sei in
        let begun = begun_one in
        let kind = kind_one in
        let first : p.first ≡ q.first = ap (first_or p.first) same_slices in
        let more : p.more ≡ q.more = ap behind same_slices in
        λ j. record { sent = sent j; sei = sei j; begun = begun j; kind = kind j; first = first j; more = more j }

pub merged_one : MergedIsOne
merged_one corners level round done p q is of = plan_one corners level round done p q is of
