-- What is written for rounds of generated pictures has few bytes, so that no limit is broken.
use Rattle.std.proofs.Common.{◌≡◌, ℕ, zero, suc, ◌+◌, ◌*◌, ◌<◌, ◌≤◌, Bool, false, not, cond, List, [], ◌∷◌, ◌++◌, length, drop, map, Some, None, refl, ap, sym, subst, ◌∙◌, inl, inr, arith}
use Rattle.std.specs.Prelude.{filter, option_to_list, sum_by}
use Rattle.std.specs.List.{AllByRecursion, AllZip, range_with_len}
use Rattle.std.proofs.lemmas.Bool.{cases_Bool}
use Rattle.std.proofs.lemmas.List.{length-append, length-map}
use Rattle.std.proofs.lemmas.List.FromFn.{length-map-range_with_len}
use Rattle.std.proofs.lemmas.Option.{none-some}
use Rattle.vx_bits.specs.Limits.{unit_limit}
use Rattle.vx_annexb.specs.ByteStream.{source_limit}
use Rattle.vx_annexb.specs.Laws.{EscapedIsShort, written}
use Rattle.vx_aps.specs.declared.aps.TheConstants as aps
use Rattle.vx_sps.specs.laws.Reread.{ReshapedSignals}
use Rattle.vx_sps.specs.Set as sps_set
use Rattle.vx_pps.specs.laws.Sets as pps_set
use Rattle.vx_ph.specs.InForce.{in_force, structures}
use Rattle.vx_ph.specs.laws.Sizes as ph
use Rattle.vx_sh.specs.InForce.{in_force_at}
use Rattle.vx_sh.specs.laws.Sizes as sh
use Rattle.vx_pic.specs.declared.kind.Kind.{Kind}
use Rattle.vx_pic.specs.declared.unit_types.TheConstants as types
use Rattle.vx_pic.specs.Parts.{Parts, SlicePart}
use Rattle.vx_pic.specs.Readings.{Slice}
use Rattle.vx_pic.specs.Resident.{is_resident, sent_before, units_written}
use Rattle.vx_pic.specs.Rules.{picture_limit, unit_size}
use Rattle.vx_pic.specs.UnderSets.{picture_header_of}
use Rattle.vx_pic.specs.Written.{Plan, Set, SetUnit, a_pps, an_aps, an_sps, eos_units, sei_units, planned_slices, units_of}
use Rattle.vx_write.specs.Units.{IsSeiUnit, IsSetUnit, IsUnitOf}
use Rattle.vx_write.proofs.OwnSets.{units_hold}
use Rattle.vx_frame.specs.Bodies.{has_lmcs, has_scaling, lmcs_body, once, scaling_body, alf_bodies}
use Rattle.vx_frame.specs.Rules.{VerdictIsOne, rules_of}
use Rattle.vx_frame.specs.Shapes.{of_lowest}
use Rattle.vx_frame.specs.Counts.{alf_slots, lmcs_slots, scaling_slots}
use Rattle.vx_frame.specs.Verdict.{IsVerdict}
use Rattle.vx_frame.proofs.Passing.{NoneBroken, none_found}
use Rattle.vx_frame.proofs.Verdicts.{verdict_one}
use Rattle.vx_merge.specs.Headers.{IsFront, IsMergedSlice, sourced}
use Rattle.vx_merge.specs.Needed.{by_ids, lmcs_bodies, sets_of_round, scaling_bodies}
use Rattle.vx_merge.specs.Written.{IsMerged, limits_of}
use Rattle.vx_gen.specs.Rounds.{AreGeneratedRounds, GeneratedAreNotBarred, GeneratedBreakNoRule, corners, round}
use Rattle.vx_gen.specs.Units.{slice}
use Rattle.vx_gen.proofs.Asking.{asks, first, kind_is, no_ph_bits}
use Rattle.vx_gen.proofs.Lengths.{AreFew, IsShort, both_long, few_bytes, few_joined, few_more, few_none, few_weaker, slices_within}
use Rattle.vx_gen.proofs.Unbroken.{no_filter_from, no_lmcs, no_scaling, part_of}

-- The laws of lower crates that this stands on.
pub record Laws : Type 0 where
  pub escaped : EscapedIsShort
  pub signals : ReshapedSignals
  pub sps : sps_set.SpellingIsShort
  pub pps : pps_set.SpellingIsShort
  pub header : ph.SpellingIsShort
  pub bounded : ph.SetsAreBounded
  pub slice : sh.SpellingIsShort
  pub numbers : sh.NumbersAreBounded

-- ---- units

-- a unit, by its RBSP
unit_short : EscapedIsShort → (nal_type tid : ℕ) (rbsp unit : List ℕ) → IsUnitOf nal_type tid rbsp unit → length rbsp ≤ 524288 → length unit ≤ 790000
unit_short escaped nal_type tid rbsp unit is few = let twice = escaped (0 ∷ (nal_type * 8 + (tid + 1)) ∷ rbsp) unit is in omega (arith, twice, few)

-- that of an SPS or of a PPS
abbrev IsParameterSet : Set → Type 0
IsParameterSet (an_sps items) = Unit {0}
IsParameterSet (a_pps items) = Unit {0}
IsParameterSet (an_aps a) = ⊥

set_short : Laws → (tid : ℕ) (s : Set) (unit : List ℕ) → IsParameterSet s → IsSetUnit tid s unit → IsShort unit
set_short laws tid (an_sps items) unit plain (rbsp, spelled, is) =
    let few = laws.sps items rbsp spelled in
    let short = unit_short laws.escaped types.SPS_NUT 0 rbsp unit is (omega (arith, few)) in
    omega (arith, short)
set_short laws tid (a_pps items) unit plain (rbsp, spelled, is) =
    let few = laws.pps items rbsp spelled in
    let short = unit_short laws.escaped types.PPS_NUT tid rbsp unit is (omega (arith, few)) in
    omega (arith, short)
set_short laws tid (an_aps a) unit plain is = absurd plain

-- those of such sets that pass a test
sets_few : Laws → (tid : ℕ) (test : SetUnit → Bool) (xs : List SetUnit) → AllByRecursion (λ (x : SetUnit). IsParameterSet x.set) xs
    → AllByRecursion (λ (x : SetUnit). IsSetUnit tid x.set x.unit) xs → AreFew (length xs) (map (λ (x : SetUnit). x.unit) (filter test xs))
sets_few laws tid test [] plain are = few_none
sets_few laws tid test (x ∷ xs) plain are =
    let units : List (List ℕ) = map (λ (y : SetUnit). y.unit) (filter test xs) in
    let more = sets_few laws tid test xs plain.1 are.1 in
    elim (cases_Bool (test x)) [
      | inl on ↦ rw on (few_more (length xs) x.unit units (set_short laws tid x.set x.unit plain.0 are.0) more)
      | inr off ↦ rw off (few_weaker (length xs) (suc (length xs)) units (omega arith) more)
    ]

-- the payload of a slice
payload_long : (seed n p : ℕ) → length (drop 4 (slice seed n p)) ≡ 6
payload_long seed n zero = refl
payload_long seed n (suc p) = refl

-- ---- a round

module _ (laws : Laws) (seed pictures n p : ℕ) (some : 1 ≤ n) (low : n ≤ 16) (done : List Plan) (q : Plan)
    (is : IsMerged (corners n) None (round seed pictures n p) done q) where
  abbrev all : List Parts
  all = round seed pictures n p

  abbrev part : ℕ → Parts
  part = part_of seed pictures n p some low

  -- ---- its sets

  none_has : {A : Type 0} (has : Parts → Bool) (f : Parts → A) (absent : A) → ((k : ℕ) → has (part k) ≡ false) → (a m : ℕ)
      → of_lowest has f absent (map part (range_with_len a m)) ≡ absent
  none_has has f absent none a zero = refl
  none_has has f absent none a (suc m) =
      ap (λ b. cond b (f (part a)) (of_lowest has f absent (map part (range_with_len (a + 1) m)))) (none a) ∙ none_has has f absent none (a + 1) m

  none_alf : alf_bodies all ≡ []
  none_alf = ap once (no_filter_from seed pictures n p some low 0 n)

  none_lmcs : lmcs_bodies all ≡ []
  none_lmcs = ap option_to_list (none_has has_lmcs lmcs_body None (λ k. no_lmcs seed (5 * (k * pictures) + 5 * p) k p) 0 n)

  none_scaling : scaling_bodies all ≡ []
  none_scaling = ap option_to_list (none_has has_scaling scaling_body None (λ k. no_scaling seed (5 * (k * pictures) + 5 * p) k p) 0 n)

  two_sets : sets_of_round all is.ids q.begun.sps q.begun.pps ≡ an_sps q.begun.sps ∷ a_pps q.begun.pps ∷ []
  two_sets = λ j.
      an_sps q.begun.sps ∷ a_pps q.begun.pps
      ∷ (by_ids aps.ALF alf_slots (none_alf j) is.ids.alf
      ++ (by_ids aps.LMCS lmcs_slots (none_lmcs j) is.ids.lmcs ++ by_ids aps.SCALING scaling_slots (none_scaling j) is.ids.scaling))

  needed_are : map (λ (x : SetUnit). x.set) is.needed ≡ an_sps q.begun.sps ∷ a_pps q.begun.pps ∷ []
  needed_are = is.sets ∙ two_sets

  sent_few : AreFew 2 (map (λ (x : SetUnit). x.unit) q.sent)
  sent_few =
      let test : SetUnit → Bool = λ x. not (is_resident q.kind.temporal_id (sent_before done q) x) in
      let plain = units_hold IsParameterSet is.needed (subst (AllByRecursion IsParameterSet) (sym needed_are) (tt, (tt, tt))) in
      let two = sym (length-map is.needed (λ (x : SetUnit). x.set)) ∙ ap length needed_are in
      subst (λ xs. AreFew 2 (map (λ (x : SetUnit). x.unit) xs)) (sym is.sent)
      (few_weaker (length is.needed) 2 (map (λ (x : SetUnit). x.unit) (filter test is.needed)) (omega (arith, two)) (sets_few laws q.kind.temporal_id test is.needed plain is.units))

  -- ---- its picture header

  header_short : length is.header.unit ≤ 790000
  header_short =
      let none = no_ph_bits laws.signals seed pictures n p some low done q is in
      let bounded = laws.bounded q.begun.sps q.begun.pps (omega (arith, none)) in
      let few = laws.header (structures q.begun.sps) (in_force q.begun.sps q.begun.pps) (picture_header_of q.begun) is.header.rbsp bounded is.header.spelled in
      unit_short laws.escaped types.PH_NUT q.begun.temporal_id is.header.rbsp is.header.unit is.header.made (omega (arith, few))

  header_few : AreFew 1 (option_to_list q.begun.unit)
  header_few =
      let short = header_short in
      subst (λ u. AreFew 1 (option_to_list u)) (sym is.header.is) (few_more 0 is.header.unit [] (omega (arith, short)) few_none)

  -- ---- its slices

  front_short : (k : ℕ) (s : SlicePart) (front : List ℕ) → IsFront all is.ids q.kind.nal_type q.begun k s front → length front ≤ 790000
  front_short k s front f =
      let little = asks laws.signals seed pictures n p some low done q is f.numbers f.at in
      let few = laws.slice (in_force_at f.numbers) f.header.fields q.begun.header f.bytes (laws.numbers f.numbers little) f.spelled in
      unit_short laws.escaped q.kind.nal_type q.begun.temporal_id f.bytes front f.made few

  slices_few : (k a m : ℕ) (ws : List Slice) → AllZip (λ x w. IsMergedSlice all is.ids q.kind.nal_type q.begun x.0 x.1 w) (sourced k (map part (range_with_len a m))) ws
      → AreFew m (map (λ (w : Slice). w.unit) ws)
  slices_few k a zero [] are = few_none
  slices_few k a zero (w ∷ ws) are = absurd are
  slices_few k a (suc m) [] are = absurd are
  slices_few k a (suc m) (w ∷ ws) (here, are) =
      let draws : ℕ = 5 * (a * pictures) + 5 * p in
      let front = front_short k _ here.front here.is in
      let long = ap length here.unit ∙ length-append here.front (drop 4 (slice seed draws p)) in
      let payload = payload_long seed draws p in
      few_more m w.unit (map (λ (x : Slice). x.unit) ws) (omega (arith, long, payload, front)) (slices_few (k + 1) (a + 1) m ws are)

  own_slices : AreFew n (map (λ (s : Slice). s.unit) (planned_slices q))
  own_slices = slices_few 0 0 n (planned_slices q) is.slices

  -- ---- all of it

  none_ended : eos_units q.kind.after_eos ≡ []
  none_ended = ap (λ (k : Kind). eos_units k.after_eos) (kind_is laws.signals seed pictures n p some low done q is)

  none_told : sei_units q.sei ≡ []
  none_told = ap sei_units (subst (λ (x : Parts). IsSeiUnit q.kind.temporal_id x.messages q.sei) (first laws.signals seed pictures n p some low done q is) is.sei)

  units_few : AreFew 19 (units_of q)
  units_few =
      let sets : List (List ℕ) = map (λ (x : SetUnit). x.unit) q.sent in
      let header : List (List ℕ) = option_to_list q.begun.unit in
      let slices : List (List ℕ) = map (λ (s : Slice). s.unit) (planned_slices q) in
      let eos : AreFew 0 (eos_units q.kind.after_eos) = subst (AreFew 0) (sym none_ended) few_none in
      let sei : AreFew 0 (sei_units q.sei) = subst (AreFew 0) (sym none_told) few_none in
      few_weaker (0 + (2 + (0 + (1 + n)))) 19 (units_of q) (omega (arith, low))
      (few_joined 0 (2 + (0 + (1 + n))) (eos_units q.kind.after_eos) (sets ++ (sei_units q.sei ++ (header ++ slices))) eos
      (few_joined 2 (0 + (1 + n)) sets (sei_units q.sei ++ (header ++ slices)) sent_few
      (few_joined 0 (1 + n) (sei_units q.sei) (header ++ slices) sei
      (few_joined 1 n header slices header_few own_slices))))

  picture_short : unit_size q.begun.unit + sum_by (λ (s : Slice). length s.unit) (planned_slices q) ≤ 17 * 800004
  picture_short =
      let one = ap unit_size is.header.is in
      let short = header_short in
      let within = slices_within (planned_slices q) in
      let bytes = few_bytes n (map (λ (s : Slice). s.unit) (planned_slices q)) own_slices in
      omega (arith, one, short, within, bytes, low)

-- ---- all rounds

rounds_short : Laws → (seed pictures n : ℕ) (done : List Plan) → 1 ≤ n → n ≤ 16 → AreGeneratedRounds seed pictures n done
    → length (written (units_written done)) ≤ length done * (19 * 800004)
rounds_short laws seed pictures n [] some low are = omega arith
rounds_short laws seed pictures n (q ∷ done) some low (passes, are) =
    let before = rounds_short laws seed pictures n done some low are in
    let here = few_bytes 19 (units_of q) (units_few laws seed pictures n (length done) some low done q passes.is) in
    omega (arith, before, here, both_long (units_written done) (units_of q))

-- units that are short
all_within : (us : List (List ℕ)) → AllByRecursion IsShort us → AllByRecursion (λ u. length u ≤ unit_limit) us
all_within [] short = tt
all_within (u ∷ us) short = (let one = short.0 in omega (arith, one), all_within us short.1)

no_limit : Laws → (seed pictures n : ℕ) (done : List Plan) (q : Plan) → 1 ≤ n → n ≤ 16 → length done < 1000 → AreGeneratedRounds seed pictures n done
    → IsMerged (corners n) None (round seed pictures n (length done)) done q → NoneBroken (length (corners n)) (limits_of done q)
unfolding picture_limit source_limit
no_limit laws seed pictures n done q some low few are is =
    let units = units_few laws seed pictures n (length done) some low done q is in
    let picture = picture_short laws seed pictures n (length done) some low done q is in
    let before = rounds_short laws seed pictures n done some low are in
    let here = few_bytes 19 (units_of q) units in
    let both = both_long (units_written done) (units_of q) in (
      λ k within long. long (all_within (units_of q) units.short),
      (λ k within long. absurd (omega (arith, long, picture)), (λ k within long. absurd (omega (arith, long, both, before, here, few)), tt)),
    )

pub none_barred : Laws → VerdictIsOne → GeneratedBreakNoRule → GeneratedAreNotBarred
none_barred laws one unbroken seed pictures n done r some low few are (inl broken) =
    let size : length (corners n) ≡ n = length-map-range_with_len _ 0 n in
    let verdict = subst (λ m. IsVerdict m (rules_of (corners n) (round seed pictures n (length done))) (Some r)) size broken in
    none-some r (one (corners n) (round seed pictures n (length done)) n None (Some r) (unbroken seed pictures n (length done) some low) verdict)
none_barred laws one unbroken seed pictures n done r some low few are (inr long) =
    let none = none_found (length (corners n)) (limits_of done long.plan) (no_limit laws seed pictures n done long.plan some low few are long.is) in
    none-some r (verdict_one (length (corners n)) (limits_of done long.plan) None (Some r) none long.limits)
