-- What was made of a round is a picture as it is to be written.
use Rattle.std.proofs.Common.{◌≡◌, ℕ, Bor, Vec, Global, ◌+◌, ◌<◌, List, take, slice_get, [], ◌∷◌, ◌++◌, length, map, Option, Some, None, refl, sym, ap, subst, ◌∙◌, arith, length-append, not, filter}
use Rattle.std.specs.Prelude.{flat_map, option_map, option_to_list, sum_by}
use Rattle.std.specs.List.{AllByRecursion, AllZip}
use Rattle.std.proofs.lemmas.List.{append_assoc, length-map, map-append}
use Rattle.std.proofs.lemmas.List.Concat.{flat_map-cons}
use Rattle.std.proofs.lemmas.List.Sums.{sum_by-cons}
use Rattle.vx_layout.specs.declared.numbers.Numbers.{Numbers}
use Rattle.vx_layout.proofs.FrameSlices.{AllZip-long}
use Rattle.vx_pps.specs.Reshaped as pps_reshaped
use Rattle.vx_sps.specs.Reshaped as sps_reshaped
use Rattle.vx_pic.specs.declared.kind.Kind.{Kind}
use Rattle.vx_pic.specs.Parts.{Parts, SlicePart}
use Rattle.vx_pic.specs.Readings.{Begun, Slice}
use Rattle.vx_pic.specs.Resident.{history_of, is_resident, kept_for}
use Rattle.vx_pic.specs.Rules.{unit_size}
use Rattle.vx_pic.specs.Written.{Plan, SeiUnit, SetUnit, eos_units, sei_units, units_of}
use Rattle.vx_write.specs.Sending.{AreSent, unsent}
use Rattle.vx_write.specs.Slots.{AreLastOf, Sent}
use Rattle.vx_write.specs.Units.{IsSeiUnit}
use Rattle.vx_frame.specs.declared.corner.Corner.{Corner}
use Rattle.vx_frame.specs.Rounds.{picture_at}
use Rattle.vx_frame.specs.Shapes.{IsFrame, frame_pps_shape, frame_sps_shape}
use Rattle.vx_merge.specs.declared.needed.RoundSets.{RoundSets}
use Rattle.vx_merge.specs.declared.output.RoundUnits.{RoundUnits}
use Rattle.vx_merge.specs.Headers.{IsFront, IsMergedSlice, sourced}
use Rattle.vx_merge.specs.Needed.{Ids, TakeIds, sets_of_round}
use Rattle.vx_bits.specs.Codes.{AreBytes}
use Rattle.vx_merge.specs.Written.{IsMerged}
use Rattle.vx_merge.specs.inner.Making.{AreHeaders, AreRoundUnits, with_payloads, payload_of, payloads_in, size_of, slice_units, units_made}
use Rattle.vx_merge.specs.inner.Ready.{AreNeeded, IsReadyAt, ids_in}
use Rattle.vx_merge.proofs.Limiting.{next_item}

-- a round that is ready has a picture
pub some_round : (round : List Parts) (n : RoundSets) (frame : Numbers) → IsReadyAt round n frame → 0 < length round
some_round round n frame ready =
    let is = ready.1.1 in
    let some = is.made.can.are.some in
    let same = is.same in
    omega (arith, some, same)

-- the last sets behind those that still count as sent
pub kept_last : (slots kept : List Sent) (kind own : Kind) (history : List SetUnit) → kind ≡ own
    → ((h : List SetUnit) → AreLastOf h slots → AreLastOf (kept_for kind.nal_type h) kept) → AreLastOf history slots → AreLastOf (kept_for own.nal_type history) kept
kept_last slots kept kind own history is forgets last = subst (λ k. AreLastOf (kept_for k.nal_type history) kept) is (forgets history last)

-- as many fronts as payloads
pub count_of : (fronts : List (Vec ℕ Global)) (payloads : List (Bor (List ℕ))) → length (map (λ u. u.items) fronts) ≡ length (map (λ b. b.now) payloads)
    → length fronts ≡ length payloads
count_of fronts payloads same = sym (length-map fronts (λ u. u.items)) ∙ (same ∙ length-map payloads (λ b. b.now))

-- ---- slices

abbrev pub own_payload : ℕ × SlicePart → List ℕ
own_payload x = payload_of x.1

-- slices with these fronts
pub record HaveFronts (round : List Parts) (ids : Ids) (nal_type : ℕ) (b : Begun) (xs : List (ℕ × SlicePart)) (fronts : List (List ℕ)) : Type 0 where
  pub slices : List Slice
  pub each : AllZip (λ x w. IsMergedSlice round ids nal_type b x.0 x.1 w) xs slices
  pub units : map (λ s. s.unit) slices ≡ with_payloads fronts (map own_payload xs)

slices_made : (round : List Parts) (ids : Ids) (nal_type : ℕ) (b : Begun) (xs : List (ℕ × SlicePart)) (fronts : List (List ℕ))
    → AllZip (λ x front. IsFront round ids nal_type b x.0 x.1 front) xs fronts → HaveFronts round ids nal_type b xs fronts
slices_made round ids nal_type b [] [] fronts_are = record { slices = []; each = tt; units = refl }
slices_made round ids nal_type b [] (f ∷ fronts) fronts_are = absurd fronts_are
slices_made round ids nal_type b (x ∷ xs) [] fronts_are = absurd fronts_are
slices_made round ids nal_type b (x ∷ xs) (f ∷ fronts) fronts_are =
    let is = fronts_are.0 in
    let more = slices_made round ids nal_type b xs fronts fronts_are.1 in
    let w : Slice = record {
      unit = f ++ payload_of x.1;
      header = record { fields = is.header.fields; subpic = is.header.subpic; payload = length f };
    } in
    let one : IsMergedSlice round ids nal_type b x.0 x.1 w = record { front = f; is = is; read = refl; unit = refl } in
    record { slices = w ∷ more.slices; each = (one, more.each); units = ap (λ us. (f ++ payload_of x.1) ∷ us) more.units }

-- the payload of one slice more
pub payload_more : (old new : List (Bor (List ℕ))) (start : List (List ℕ)) (slices : List SlicePart) (i : ℕ) (s : SlicePart) (x : Bor (List ℕ)) → slice_get slices i ≡ Some s
    → x.now ≡ payload_of s → new ≡ old ++ x ∷ [] → map (λ b. b.now) old ≡ start ++ map payload_of (take i slices)
    → map (λ b. b.now) new ≡ start ++ map payload_of (take (i + 1) slices)
payload_more old new start slices i s x at is next so_far =
    let one : map payload_of (take (i + 1) slices) ≡ map payload_of (take i slices) ++ payload_of s ∷ [] =
    ap (map payload_of) (next_item slices i s at) ∙ map-append payload_of (take i slices) (s ∷ []) in
    ap (map (λ (b : Bor (List ℕ)). b.now)) next
    ∙ (map-append (λ (b : Bor (List ℕ)). b.now) old (x ∷ [])
    ∙ (ap (λ us. us ++ x.now ∷ []) so_far
    ∙ (append_assoc start (map payload_of (take i slices)) (x.now ∷ [])
    ∙ (ap (λ u. start ++ (map payload_of (take i slices) ++ u ∷ [])) is ∙ ap (λ us. start ++ us) (sym one)))))

own_payloads : (k : ℕ) (slices : List SlicePart) → map own_payload (map (λ s. (k, s)) slices) ≡ map payload_of slices
own_payloads k [] = refl
own_payloads k (s ∷ slices) = ap (λ us. payload_of s ∷ us) (own_payloads k slices)

all_payloads : (k : ℕ) (round : List Parts) → map own_payload (sourced k round) ≡ flat_map payloads_in round
all_payloads k [] = refl
all_payloads k (q ∷ round) =
    map-append own_payload (map (λ s. (k, s)) q.slices) (sourced (k + 1) round)
    ∙ (ap (λ us. us ++ map own_payload (sourced (k + 1) round)) (own_payloads k q.slices)
    ∙ (ap (λ us. map payload_of q.slices ++ us) (all_payloads (k + 1) round) ∙ sym (flat_map-cons payloads_in q round)))

-- there are as many payloads as fronts
pub payload_count : (round : List Parts) (P : (ℕ × SlicePart) → List ℕ → Type 0) (fronts payloads : List (List ℕ)) → AllZip P (sourced 0 round) fronts
    → payloads ≡ flat_map payloads_in round → length fronts ≡ length payloads
payload_count round P fronts payloads are is =
    sym (AllZip-long P (sourced 0 round) fronts are)
    ∙ (sym (length-map (sourced 0 round) own_payload) ∙ ap length (all_payloads 0 round ∙ sym is))

-- the first picture has a slice
some_sourced : (round : List Parts) → 0 < length round → 0 < length (picture_at round 0).slices → 0 < length (sourced 0 round)
some_sourced [] some slices = absurd (omega (arith, some))
some_sourced (q ∷ round) some slices =
    let pair : SlicePart → ℕ × SlicePart = λ s. (0, s) in
    let all = length-append (map pair q.slices) (sourced 1 round) in
    let own = length-map q.slices pair in
    omega (arith, all, own, slices)

slice_sizes : (slices : List Slice) → sum_by (λ s. length s.unit) slices ≡ size_of 0 (map (λ s. s.unit) slices)
slice_sizes [] = refl
slice_sizes (s ∷ slices) =
    let more = slice_sizes slices in
    let one = sum_by-cons (λ (x : Slice). length x.unit) s slices in
    let other = sum_by-cons (λ (u : List ℕ). 0 + length u) s.unit (map (λ x. x.unit) slices) in
    omega (arith, more, one, other)

-- ---- the picture

abbrev sei_of : Parts → RoundUnits → Option SeiUnit
sei_of q m = option_map (λ u. record { unit = u.items; messages = q.messages }) m.sei

sei_units_of : (q : Parts) (m : RoundUnits) → sei_units (sei_of q m) ≡ option_to_list (option_map (λ u. u.items) m.sei)
sei_units_of q m =
    elim m.sei as (λ o. sei_units (option_map (λ u. record { unit = u.items; messages = q.messages }) o) ≡ option_to_list (option_map (λ u. u.items) o)) [
      | None ↦ refl
      | Some u ↦ refl
    ]

-- What is known of what was made, with the sets that the round needs behind these, in this frame.
pub record IsDone (corners : List Corner) (level : Option ℕ) (round : List Parts) (history : List SetUnit) (frame : Numbers) (n : RoundSets) (m : RoundUnits) (slots : List Sent) : Type 0 where
  pub some : 0 < length round
  pub first : 0 < length (picture_at round 0).slices
  pub frame_is : IsFrame corners round frame
  pub needed : AreNeeded corners level round frame (kept_for (picture_at round 0).kind.nal_type history) n
  pub eos : m.after_eos ≡ (picture_at round 0).kind.after_eos
  pub headers : AreHeaders round n frame m.header.items (map (λ u. u.items) m.fronts.items)
  pub sent : AreSent (picture_at round 0).kind.temporal_id (kept_for (picture_at round 0).kind.nal_type history) (sets_of_round round (ids_in n) n.sps.now n.pps.now) slots
      (map (λ u. u.items) m.sets.items)
  pub sei : IsSeiUnit (picture_at round 0).kind.temporal_id (picture_at round 0).messages (option_map (λ u. record { unit = u.items; messages = (picture_at round 0).messages }) m.sei)
  pub payloads : map (λ b. b.now) m.payloads ≡ flat_map payloads_in round

module _ (corners : List Corner) (level : Option ℕ) (round : List Parts) (history : List SetUnit) (frame : Numbers) (n : RoundSets) (m : RoundUnits) (slots : List Sent)
    (made : IsDone corners level round history frame n m slots) where
  abbrev own : Parts
  own = picture_at round 0

  abbrev before : List SetUnit
  before = kept_for own.kind.nal_type history

  abbrev plan : Slice → List Slice → Plan
  plan first more = record {
    sent = unsent own.kind.temporal_id before made.sent.needed;
    sei = sei_of own m;
    begun = made.headers.begun;
    kind = own.kind;
    first = first;
    more = more;
  }

  is_merged : (first : Slice) (more : List Slice) → AllZip (λ x w. IsMergedSlice round (ids_in n) own.kind.nal_type made.headers.begun x.0 x.1 w) (sourced 0 round) (first ∷ more)
      → (done : List Plan) → history_of done ≡ history → AllByRecursion AreBytes (units_of (plan first more)) → IsMerged corners level round done (plan first more)
  is_merged first more each done same bytes =
      let b = made.headers.begun in
      let back : kept_for own.kind.nal_type history ≡ kept_for own.kind.nal_type (history_of done) = ap (kept_for own.kind.nal_type) (sym same) in
      let layout = sym made.headers.layout in
      record {
        kind = refl;
        temporal_id = made.headers.temporal_id;
        frame = subst (IsFrame corners round) layout made.frame_is;
        sps = subst (sps_reshaped.IsReshapedSps own.sps (frame_sps_shape corners round level)) (sym made.headers.sps) made.needed.sps;
        ids = ids_in n;
        plain = made.needed.plain;
        plain_is = subst (λ l. pps_reshaped.IsReshapedPps own.pps (frame_pps_shape corners round l 0) made.needed.plain) layout made.needed.plain_is;
        taken = subst (λ h. TakeIds round own.kind.temporal_id h made.needed.plain (ids_in n)) back made.needed.taken;
        pps = subst (pps_reshaped.IsReshapedPps own.pps (frame_pps_shape corners round b.layout n.pps_id)) (sym made.headers.pps)
            (subst (λ l. pps_reshaped.IsReshapedPps own.pps (frame_pps_shape corners round l n.pps_id) n.pps.now) layout made.needed.pps);
        header = made.headers.header;
        slices = each;
        needed = made.sent.needed;
        sets = made.sent.of ∙ (ap (λ s. sets_of_round round (ids_in n) s n.pps.now) (sym made.headers.sps) ∙ ap (sets_of_round round (ids_in n) b.sps) (sym made.headers.pps));
        units = made.sent.spelled;
        sent = ap (λ h. filter (λ x. not (is_resident own.kind.temporal_id h x)) made.sent.needed) back;
        sei = made.sei;
        bytes = bytes;
      }

  have : HaveFronts round (ids_in n) own.kind.nal_type made.headers.begun (sourced 0 round) (map (λ u. u.items) m.fronts.items)
  have = slices_made round (ids_in n) own.kind.nal_type made.headers.begun (sourced 0 round) (map (λ u. u.items) m.fronts.items) made.headers.slices

  units_are : map (λ s. s.unit) have.slices ≡ slice_units m
  units_are = have.units ∙ ap (with_payloads (map (λ u. u.items) m.fronts.items)) (all_payloads 0 round ∙ sym made.payloads)

  units_made_of : (first : Slice) (more : List Slice) → map (λ s. s.unit) (first ∷ more) ≡ slice_units m → units_of (plan first more) ≡ units_made m
  units_made_of first more are =
      ap (λ e. eos_units e ++ (map (λ x. x.unit) (plan first more).sent ++ (sei_units (sei_of own m) ++ (option_to_list made.headers.begun.unit ++ map (λ s. s.unit) (first ∷ more))))) (sym made.eos)
      ∙ (ap (λ us. eos_units m.after_eos ++ (us ++ (sei_units (sei_of own m) ++ (option_to_list made.headers.begun.unit ++ map (λ s. s.unit) (first ∷ more))))) (sym made.sent.made)
      ∙ (ap (λ us. eos_units m.after_eos ++ (map (λ u. u.items) m.sets.items ++ (us ++ (option_to_list made.headers.begun.unit ++ map (λ s. s.unit) (first ∷ more))))) (sei_units_of own m)
      ∙ (ap (λ o. eos_units m.after_eos ++ (map (λ u. u.items) m.sets.items ++ (option_to_list (option_map (λ u. u.items) m.sei) ++ (option_to_list o ++ map (λ s. s.unit) (first ∷ more))))) made.headers.unit
      ∙ ap (λ us. eos_units m.after_eos ++ (map (λ u. u.items) m.sets.items ++ (option_to_list (option_map (λ u. u.items) m.sei) ++ (m.header.items ∷ us)))) are)))

  plan_made : (first : Slice) (more : List Slice) → AllZip (λ x w. IsMergedSlice round (ids_in n) own.kind.nal_type made.headers.begun x.0 x.1 w) (sourced 0 round) (first ∷ more)
      → map (λ s. s.unit) (first ∷ more) ≡ slice_units m → AreRoundUnits corners level round history m slots
  plan_made first more each are = record {
    plan = plan first more;
    is = λ done same bytes. is_merged first more each done same (subst (AllByRecursion AreBytes) (sym (units_made_of first more are)) bytes);
    units = units_made_of first more are;
    size =
        ap (λ o. unit_size o + sum_by (λ s. length s.unit) (first ∷ more)) made.headers.unit
        ∙ ap (λ k. length m.header.items + k) (slice_sizes (first ∷ more) ∙ ap (size_of 0) are);
    last = made.sent.held;
  }

  by_slices : (slices : List Slice) → AllZip (λ x w. IsMergedSlice round (ids_in n) own.kind.nal_type made.headers.begun x.0 x.1 w) (sourced 0 round) slices
      → map (λ s. s.unit) slices ≡ slice_units m → AreRoundUnits corners level round history m slots
  by_slices [] each are =
      let some = some_sourced round made.some made.first in
      let none = AllZip-long (λ x w. IsMergedSlice round (ids_in n) own.kind.nal_type made.headers.begun x.0 x.1 w) (sourced 0 round) [] each in
      absurd (omega (arith, some, none))
  by_slices (first ∷ more) each are = plan_made first more each are

  pub is_made : AreRoundUnits corners level round history m slots
  is_made = by_slices have.slices have.each units_are
