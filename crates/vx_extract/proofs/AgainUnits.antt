-- The units of what is written for a picture of a stream are read again as the plan says.
use Rattle.std.proofs.Common.{◌≡◌, ℕ, pos, ◌+◌, ◌≤◌, ◌==◌, Bool, true, false, List, [], ◌∷◌, length, map, Option, Some, None, Ok, refl, ap, sym, subst, ◌∙◌, inl, inr, arith}
use Rattle.std.specs.Prelude.{filter, find, option_map, unwrap_or}
use Rattle.std.specs.List.{AllByRecursion}
use Rattle.std.proofs.lemmas.Bool.{cases_Bool, eqb-true}
use Rattle.std.proofs.lemmas.List.{length-map}
use Rattle.vx_bits.specs.declared.list.Item.{Item}
use Rattle.vx_fields.specs.declared.sps.TheConstants as sps_fields
use Rattle.vx_fields.specs.declared.pps.TheConstants as pps_fields
use Rattle.vx_table.specs.Loaded.{number}
use Rattle.vx_table.specs.Scope.{fresh}
use Rattle.vx_layout.specs.Layouts.{slices_in, subpic_at}
use Rattle.vx_layout.specs.Rects.{fits}
use Rattle.vx_layout.specs.Regions.{counted_from}
use Rattle.vx_layout.specs.declared.rect.Rect.{Rect}
use Rattle.vx_table.proofs.With.{with_field}
use Rattle.vx_pic.specs.Units.{has_header_inside, rbsp_of}
use Rattle.vx_pic.specs.Sets.{SliceHeader, is_qp, signed, slice_qp}
use Rattle.vx_pic.specs.Readings.{Begun, Picture, Slice, is_whole}
use Rattle.vx_pic.specs.Parts.{SlicePart, parts_of, slice_part}
use Rattle.vx_pic.specs.Rules.{Readers}
use Rattle.vx_pic.specs.Finished.{IsSoundPicture}
use Rattle.vx_pic.specs.Written.{HeadReads, HeaderReads, Plan, SliceReads, planned_slices}
use Rattle.vx_extract.specs.Written.{IsExtracted, slice_alone}
use Rattle.vx_extract.specs.Again.{AreRewritten, KeepIds, MakeRegion, ReadUnder, header_alone, begun_alone, begun_in}
use Rattle.vx_write.specs.Again.{UnitsAreRead}
use Rattle.vx_write.specs.InForce.{AreInForce}
use Rattle.vx_extract.proofs.AgainAgree.{pps_taken, pps_with}
use Rattle.vx_extract.proofs.AgainSps.{sps_taken}

-- ---- slices of the subpicture

abbrev pub short : Slice → Slice
short s = record { unit = s.unit; header = header_alone s.header }

abbrev pub those_of : ℕ → List Slice → List Slice
those_of target slices = map short (filter (λ (s : Slice). s.header.subpic == target) slices)

pub slices_shown : (b : Begun) (target : ℕ) (slices : List Slice) → map slice_alone (filter (λ (s : SlicePart). s.header.subpic == target) (map (slice_part b) slices)) ≡ those_of target slices
slices_shown b target [] = refl
slices_shown b target (s ∷ slices) = elim (cases_Bool (s.header.subpic == target)) [
  | inl on ↦ rw on (ap (λ xs. short s ∷ xs) (slices_shown b target slices))
  | inr off ↦ rw off (slices_shown b target slices)
]

each_of : (P Q : Slice → Type 0) (target : ℕ) → ((s : Slice) → s.header.subpic ≡ target → P s → Q (short s)) → (slices : List Slice) → AllByRecursion P slices → AllByRecursion Q (those_of target slices)
each_of P Q target move [] all = tt
each_of P Q target move (s ∷ slices) all = elim (cases_Bool (s.header.subpic == target)) [
  | inl on ↦ rw on (move s (eqb-true s.header.subpic target on) all.0, each_of P Q target move slices all.1)
  | inr off ↦ rw off (each_of P Q target move slices all.1)
]

first_of : Slice → List Slice → Slice
first_of d [] = d
first_of d (s ∷ slices) = s

rest_of : List Slice → List Slice
rest_of [] = []
rest_of (s ∷ slices) = slices

none_left : (slices : List Slice) → length slices ≡ 0 → slices ≡ []
none_left [] none = refl
none_left (s ∷ slices) none = absurd (omega (arith, none))

-- the only slice of a picture, where it is of the subpicture
only_slice : (target : ℕ) (s first : Slice) (more : List Slice) → first ∷ more ≡ those_of target (s ∷ []) → (first ≡ short s) × (more ≡ [])
unfolding first_of rest_of
only_slice target s first more same = elim (cases_Bool (s.header.subpic == target)) [
  | inl on ↦ let one : first ∷ more ≡ short s ∷ [] = rw on at same in (ap (λ xs. first_of first xs) one, ap rest_of one)
  | inr off ↦ let none : first ∷ more ≡ [] = rw off at same in absurd (omega (arith, ap (λ xs. length xs) none))
]

-- a region has no more slices than the picture
filter_short : (p : Rect → Bool) (xs : List Rect) → length (filter p xs) ≤ length xs
filter_short p [] = omega arith
filter_short p (x ∷ xs) = elim (cases_Bool (p x)) [
  | inl on ↦ rw on (let less = filter_short p xs in omega (arith, less))
  | inr off ↦ rw off (let less = filter_short p xs in omega (arith, less))
]

-- ---- the QP

found_with : (of : ℕ) (items : List Item) → find (λ (x : Item). x.field == of) items ≡ find (λ (x : Item). x.field == of) (with_field of items)
found_with of [] = refl
found_with of (x ∷ items) = elim (cases_Bool (x.field == of)) [
  | inl on ↦ rw (on, on) refl
  | inr off ↦ rw off (found_with of items)
]

pub same_signed : (of : ℕ) (items others : List Item) → with_field of items ≡ with_field of others → signed items of ≡ signed others of
same_signed of items others same =
    ap (λ o. unwrap_or (option_map (λ (x : Item). x.value) o) (pos 0))
    (found_with of items ∙ ap (λ xs. find (λ (x : Item). x.field == of) xs) same ∙ sym (found_with of others))

-- that of a slice is told by what is taken over
module _ (target : ℕ) (level : Option ℕ) (pic : Picture) (done : List Plan) (p : Plan) (are : AreInForce (parts_of pic)) (ex : IsExtracted target level (parts_of pic) done p) where
  pub qp_same : (h : SliceHeader) → slice_qp p.begun.pps p.begun.header (header_alone h) ≡ slice_qp pic.begun.pps pic.begun.header h
  unfolding slice_qp fresh
  qp_same h =
      let re : AreRewritten target level (parts_of pic) p.begun.sps p.begun.pps = record { of_sps = ex.sps; of_pps = ex.pps } in
      let init : signed p.begun.pps pps_fields.pps_init_qp_minus26 ≡ signed pic.begun.pps pps_fields.pps_init_qp_minus26 =
      same_signed pps_fields.pps_init_qp_minus26 p.begun.pps pic.begun.pps (sym (pps_with target level (parts_of pic) p.begun.sps p.begun.pps are re pps_fields.pps_init_qp_minus26 refl)) in
      let flag : number p.begun.pps pps_fields.pps_qp_delta_info_in_ph_flag ≡ number pic.begun.pps pps_fields.pps_qp_delta_info_in_ph_flag =
      sym (pps_taken target level (parts_of pic) p.begun.sps p.begun.pps are re pps_fields.pps_qp_delta_info_in_ph_flag refl) in
      rw (init, flag, ex.header) refl

module _ (R : Readers) (target : ℕ) (level : Option ℕ) (earlier : List Picture) (pic : Picture) (done : List Plan) (p : Plan) (sound : IsSoundPicture R earlier pic) (whole : is_whole pic ≡ true) (are : AreInForce (parts_of pic))
    (ex : IsExtracted target level (parts_of pic) done p) (make : MakeRegion target (parts_of pic) p.begun.sps p.begun.pps) (keep : KeepIds (parts_of pic) p.begun.sps p.begun.pps) (under : ReadUnder R target (parts_of pic) p.begun.sps p.begun.pps) where
  old_begun : begun_in (parts_of pic) ≡ pic.begun
  old_begun = ap (λ t. record { sps = pic.begun.sps; pps = pic.begun.pps; layout = pic.begun.layout; header = pic.begun.header; temporal_id = t; unit = pic.begun.unit }) sound.tid

  new_begun : begun_alone target (parts_of pic) p.begun.sps p.begun.pps ≡ p.begun
  new_begun =
      ap (λ l. record { sps = p.begun.sps; pps = p.begun.pps; layout = l; header = pic.begun.header; temporal_id = pic.kind.temporal_id; unit = pic.begun.unit }) (sym ex.layout)
      ∙ ap (λ h. record { sps = p.begun.sps; pps = p.begun.pps; layout = p.begun.layout; header = h; temporal_id = pic.kind.temporal_id; unit = pic.begun.unit }) (sym ex.header)
      ∙ ap (λ t. record { sps = p.begun.sps; pps = p.begun.pps; layout = p.begun.layout; header = p.begun.header; temporal_id = t; unit = pic.begun.unit }) (sym ex.temporal_id)
      ∙ ap (λ u. record { sps = p.begun.sps; pps = p.begun.pps; layout = p.begun.layout; header = p.begun.header; temporal_id = p.begun.temporal_id; unit = u }) (sym ex.unit)

  tid_same : pic.begun.temporal_id ≡ p.begun.temporal_id
  tid_same = sym sound.tid ∙ sym ex.temporal_id

  pub slices_are : planned_slices p ≡ those_of target pic.slices
  slices_are = ex.slices ∙ slices_shown pic.begun target pic.slices

  -- ---- slices

  qp_fits : (h : SliceHeader) → is_qp pic.begun.sps (slice_qp pic.begun.pps pic.begun.header h) ≡ true → is_qp p.begun.sps (slice_qp p.begun.pps p.begun.header (header_alone h)) ≡ true
  unfolding is_qp fresh
  qp_fits h fits_in =
      let bits : number p.begun.sps sps_fields.sps_bitdepth_minus8 ≡ number pic.begun.sps sps_fields.sps_bitdepth_minus8 = sps_taken (parts_of pic) target level p.begun.sps ex.sps sps_fields.sps_bitdepth_minus8 refl in
      rw (bits, qp_same target level pic done p are ex h) fits_in

  slice_again : (s : Slice) → s.header.subpic ≡ target → SliceReads R pic.begun pic.kind.nal_type s → SliceReads R p.begun p.kind.nal_type (short s)
  slice_again s mine reads = record {
    plain = reads.plain;
    tid = reads.tid ∙ tid_same;
    type = reads.type ∙ ap (λ k. k.nal_type) (sym ex.kind);
    header =
        let old : R.slice pic.kind.nal_type (begun_in (parts_of pic)) s.unit ≡ Ok s.header = ap (λ b. R.slice pic.kind.nal_type b s.unit) old_begun ∙ reads.header in
        ap (λ k. R.slice k.nal_type p.begun s.unit) ex.kind ∙ ap (λ b. R.slice pic.kind.nal_type b s.unit) (sym new_begun) ∙ under.slice pic.kind.nal_type s.unit s.header mine old;
    qp = qp_fits s.header reads.qp;
    payload = reads.payload;
  }

  slices_again : AllByRecursion (SliceReads R p.begun p.kind.nal_type) (planned_slices p)
  slices_again = subst (λ xs. AllByRecursion (SliceReads R p.begun p.kind.nal_type) xs) (sym slices_are) (each_of (SliceReads R pic.begun pic.kind.nal_type) (SliceReads R p.begun p.kind.nal_type) target slice_again pic.slices sound.each)

  -- ---- the header

  header_again : (inside : Bool) (u : List ℕ) → HeaderReads R inside u pic.begun → HeaderReads R inside u p.begun
  header_again inside u reads = record {
    referred = reads.referred ∙ ap (λ n. Ok n) (sym keep.of_pps);
    size = make.size;
    layout = under.layout ∙ ap (λ l. Ok l) (sym ex.layout);
    header = under.header inside (rbsp_of u) ∙ reads.header ∙ ap (λ h. Ok h) (sym ex.header);
    tid = reads.tid ∙ tid_same;
  }

  abbrev IsOutside : Slice → Type 0
  IsOutside s = has_header_inside s.unit ≡ false

  apart : AllByRecursion IsOutside pic.slices → AllByRecursion IsOutside (planned_slices p)
  apart all = subst (λ xs. AllByRecursion IsOutside xs) (sym slices_are) (each_of IsOutside IsOutside target (λ s mine is. is) pic.slices all)

  -- where it stands inside, the slice is the only one
  alone_there : length pic.begun.layout.slices ≤ 1 → (p.first ≡ short sound.first) × (p.more ≡ [])
  alone_there few =
      let all : length pic.slices ≡ length pic.begun.layout.slices = eqb-true (length pic.slices) (length pic.begun.layout.slices) whole in
      let count : length pic.slices ≡ length sound.more + 1 = ap (λ xs. length xs) sound.slices ∙ omega arith in
      let none : sound.more ≡ [] = none_left sound.more (omega (arith, all, count, few)) in
      only_slice target sound.first p.first p.more (slices_are ∙ ap (λ xs. those_of target xs) (sound.slices ∙ ap (λ xs. sound.first ∷ xs) none))

  few_slices : length pic.begun.layout.slices ≤ 1 → length p.begun.layout.slices ≤ 1
  few_slices few =
      let count : length p.begun.layout.slices ≡ length (slices_in pic.begun.layout target) = ap (λ l. length l.slices) ex.layout ∙ length-map (slices_in pic.begun.layout target) (counted_from (subpic_at pic.begun.layout target)) in
      let less = filter_short (λ r. fits r (subpic_at pic.begun.layout target)) pic.begun.layout.slices in
      omega (arith, few, count, less)

  record HeadAgain (unit : Option (List ℕ)) : Type 0 where
    head : HeadReads R unit p.begun p.first
    outside : AllByRecursion IsOutside p.more

  head_again : (unit : Option (List ℕ)) → HeadReads R unit pic.begun sound.first → HeadAgain unit
  head_again (Some u) (plain, reads, out) =
      let all = apart (subst (λ xs. AllByRecursion IsOutside xs) (sym sound.slices) (out, sound.outside)) in
      record { head = (plain, header_again false u reads, all.0); outside = all.1 }
  head_again None (reads, in_slice, few) =
      let only = alone_there few in
      let unit_is : sound.first.unit ≡ p.first.unit = ap (λ s. s.unit) (sym only.0) in
      record {
        head = (subst (λ u. HeaderReads R true u p.begun) unit_is (header_again true sound.first.unit reads), subst (λ u. has_header_inside u ≡ true) unit_is in_slice, few_slices few);
        outside = subst (λ xs. AllByRecursion IsOutside xs) (sym only.1) tt;
      }

  heads : HeadAgain pic.begun.unit
  heads = head_again pic.begun.unit sound.head

  pub units_again : UnitsAreRead R p
  units_again = record {
    head = subst (λ o. HeadReads R o p.begun p.first) (sym ex.unit) heads.head;
    slices = slices_again;
    outside = heads.outside;
    refers = keep.referred ∙ sound.refers ∙ sym keep.of_sps;
    tid = ap (λ k. k.temporal_id) ex.kind ∙ sym ex.temporal_id;
  }
