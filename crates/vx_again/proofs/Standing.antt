-- The units that are written for rounds can stand in a byte stream.
use Rattle.std.proofs.Common.{◌≡◌, ℕ, ◌+◌, ◌*◌, ◌<◌, ◌≤◌, List, [], ◌∷◌, ◌++◌, length, map, drop, Option, Some, None, sym, subst, inl, inr, arith}
use Rattle.std.specs.Prelude.{option_to_list}
use Rattle.std.specs.List.{AllByRecursion, AllZip}
use Rattle.std.proofs.lemmas.Bool.{cases_lt}
use Rattle.std.proofs.lemmas.List.Elements.{All-from_recursion}
use Rattle.vx_bits.specs.Limits.{unit_limit}
use Rattle.vx_annexb.specs.Emulation.{IsEscaped}
use Rattle.vx_annexb.specs.Laws.{CanStand, EscapedJoins}
use Rattle.vx_layout.proofs.Parts.{Each-append}
use Rattle.vx_sei.specs.declared.message.Message.{Message}
use Rattle.vx_aps.specs.Aps.{spelled}
use Rattle.vx_pic.specs.declared.kind.Kind.{Kind}
use Rattle.vx_pic.specs.declared.unit_types.TheConstants as types
use Rattle.vx_pic.specs.Parts.{Parts, SlicePart, parts_of}
use Rattle.vx_pic.specs.Readings.{Picture, Slice}
use Rattle.vx_pic.specs.Resident.{units_written}
use Rattle.vx_pic.specs.Rules.{Readers}
use Rattle.vx_pic.specs.Written as written
use Rattle.vx_pic.specs.Written.{Plan, SeiUnit, Set, SetUnit, a_pps, an_aps, an_sps, eos_units, sei_units, units_of}
use Rattle.vx_write.specs.Units.{IsSeiUnit, IsSetUnit, IsUnitOf, header_bytes}
use Rattle.vx_write.proofs.Ending.{header_ends}
use Rattle.vx_write.proofs.OwnSets.{each_passing}
use Rattle.vx_write.proofs.Standing.{ended_stand, unit_stands}
use Rattle.vx_frame.specs.declared.corner.Corner.{Corner}
use Rattle.vx_frame.specs.Corners.{AreCorners}
use Rattle.vx_frame.specs.Rounds.{picture_at}
use Rattle.vx_frame.proofs.Passing.{none_broken}
use Rattle.vx_merge.specs.Headers.{IsMergedSlice, sourced}
use Rattle.vx_merge.specs.Merging.{Passes}
use Rattle.vx_merge.specs.Written.{IsMerged, limits_of}
use Rattle.vx_again.specs.Frames.{IsReadyRound}
use Rattle.vx_again.specs.Sources.{CanBeMerged, IsSource}
use Rattle.vx_again.specs.Streams.{AreMerged, earlier}
use Rattle.vx_again.specs.Whole.{MergedUnitsCanStand}
use Rattle.vx_again.proofs.Columns.{all_last, earlier_can, earlier_long, ready_round, sound_lasts}
use Rattle.vx_again.proofs.Facts.{each_weaker, one_at}
use Rattle.vx_again.proofs.ReadBack.{IsOfItsSource, all_of_sources}

abbrev AllStand : List (List ℕ) → Type 0
AllStand units = AllByRecursion CanStand units

abbrev IsShort : List ℕ → Type 0
IsShort u = length u ≤ unit_limit

-- ---- lengths

-- what isn't known to be too long is short
all_short : (units : List (List ℕ)) → ¬ (¬ AllByRecursion IsShort units) → AllByRecursion IsShort units
all_short [] may = tt
all_short (u ∷ units) may = elim (cases_lt unit_limit (length u)) [
  | inl long ↦ absurd (may (λ both. let short = both.0 in omega (arith, short, long)))
  | inr short ↦ (omega (arith, short), all_short units (λ none. may (λ both. none both.1)))
]

front_short : (xs ys : List (List ℕ)) → AllByRecursion IsShort (xs ++ ys) → AllByRecursion IsShort xs
front_short [] ys all = tt
front_short (x ∷ xs) ys all = (all.0, front_short xs ys all.1)

back_short : (xs ys : List (List ℕ)) → AllByRecursion IsShort (xs ++ ys) → AllByRecursion IsShort ys
back_short [] ys all = all
back_short (x ∷ xs) ys all = back_short xs ys all.1

-- ---- units

set_stands : (tid : ℕ) (s : Set) (unit : List ℕ) → tid < 7 → IsSetUnit tid s unit → IsShort unit → CanStand unit
set_stands tid (an_sps items) unit low (rbsp, spelling, is) short = unit_stands types.SPS_NUT 0 rbsp unit (omega arith) is short
set_stands tid (a_pps items) unit low (rbsp, spelling, is) short = unit_stands types.PPS_NUT tid rbsp unit low is short
set_stands tid (an_aps a) unit low is short = unit_stands types.PREFIX_APS_NUT tid (spelled a.kind a.id a.body) unit low is short

sets_stand : (tid : ℕ) (sent : List SetUnit) → tid < 7 → AllByRecursion (λ (x : SetUnit). IsSetUnit tid x.set x.unit) sent
    → AllByRecursion IsShort (map (λ (x : SetUnit). x.unit) sent) → AllStand (map (λ (x : SetUnit). x.unit) sent)
sets_stand tid [] low are short = tt
sets_stand tid (x ∷ sent) low are short = (set_stands tid x.set x.unit low are.0 short.0, sets_stand tid sent low are.1 short.1)

sei_stands : (tid : ℕ) (ms : List Message) (sei : Option SeiUnit) → tid < 7 → IsSeiUnit tid ms sei → AllByRecursion IsShort (sei_units sei)
    → AllStand (sei_units sei)
sei_stands tid ms None low is short = tt
sei_stands tid [] (Some s) low is short = absurd (cc)
sei_stands tid (m ∷ ms) (Some s) low (same, (rbsp, are, is)) short = (unit_stands types.PREFIX_SEI_NUT tid rbsp s.unit low is short.0, tt)

-- ---- a round

module _ (joins : EscapedJoins) (corners : List Corner) (level : Option ℕ) (round : List Parts) (done : List Plan) (p : Plan)
    (ready : IsReadyRound corners round) (passes : Passes corners level round done p) where
  abbrev is : IsMerged corners level round done p
  is = passes.is

  low : p.kind.temporal_id < 7
  low = let some = ready.are.some in let same = ready.same in subst (λ (k : Kind). k.temporal_id < 7) (sym is.kind) (one_at IsSource round 0 (omega (arith, some, same)) ready.each).tid

  low_begun : p.begun.temporal_id < 7
  low_begun = subst (λ t. t < 7) (sym is.temporal_id) low

  short : AllByRecursion IsShort (units_of p)
  short = all_short (units_of p) ((none_broken (length corners) (limits_of done p) passes.limits).0 0 ready.are.some)

  abbrev eos : List (List ℕ)
  eos = eos_units p.kind.after_eos

  abbrev sets : List (List ℕ)
  sets = map (λ (x : SetUnit). x.unit) p.sent

  abbrev sei : List (List ℕ)
  sei = sei_units p.sei

  abbrev header : List (List ℕ)
  header = option_to_list p.begun.unit

  abbrev slices : List (List ℕ)
  slices = map (λ (s : Slice). s.unit) (written.planned_slices p)

  short_sets : AllByRecursion IsShort sets
  short_sets = front_short sets (sei ++ (header ++ slices)) (back_short eos (sets ++ (sei ++ (header ++ slices))) short)

  short_sei : AllByRecursion IsShort sei
  short_sei = front_short sei (header ++ slices) (back_short sets (sei ++ (header ++ slices)) (back_short eos (sets ++ (sei ++ (header ++ slices))) short))

  short_rest : AllByRecursion IsShort (header ++ slices)
  short_rest = back_short sei (header ++ slices) (back_short sets (sei ++ (header ++ slices)) (back_short eos (sets ++ (sei ++ (header ++ slices))) short))

  own_sets : AllStand sets
  own_sets = sets_stand p.kind.temporal_id p.sent low
      (subst (λ xs. AllByRecursion (λ (x : SetUnit). IsSetUnit p.kind.temporal_id x.set x.unit) xs) (sym is.sent) (each_passing (λ (x : SetUnit). IsSetUnit p.kind.temporal_id x.set x.unit) _ is.needed is.units)) short_sets

  header_stands : AllStand header
  header_stands =
      let one : AllByRecursion IsShort (is.header.unit ∷ []) = subst (λ o. AllByRecursion IsShort (option_to_list o)) is.header.is (front_short header slices short_rest) in
      subst (λ o. AllStand (option_to_list o)) (sym is.header.is) (unit_stands types.PH_NUT p.begun.temporal_id is.header.rbsp is.header.unit low_begun is.header.made one.0, tt)

  -- a slice
  slice_stands : (k : ℕ) (s : SlicePart) (w : Slice) → (rest : List ℕ) × IsEscaped rest (drop s.payload s.unit)
      → IsMergedSlice round is.ids p.kind.nal_type p.begun k s w → IsShort w.unit → CanStand w.unit
  slice_stands k s w payload own few =
      let whole : IsUnitOf p.kind.nal_type p.begun.temporal_id (own.is.bytes ++ payload.0) w.unit =
      subst (IsEscaped (header_bytes p.kind.nal_type p.begun.temporal_id ++ (own.is.bytes ++ payload.0))) (sym own.unit)
      (joins (header_bytes p.kind.nal_type p.begun.temporal_id ++ own.is.bytes) payload.0 own.front (drop s.payload s.unit) (header_ends 0 (p.kind.nal_type * 8 + (p.begun.temporal_id + 1)) own.is.bytes (omega arith) own.is.spelled.last) own.is.made payload.1) in
      unit_stands p.kind.nal_type p.begun.temporal_id (own.is.bytes ++ payload.0) w.unit low_begun whole few

  each_stands : (xs : List (ℕ × SlicePart)) (ws : List Slice) → AllZip (λ x w. IsMergedSlice round is.ids p.kind.nal_type p.begun x.0 x.1 w) xs ws
      → AllByRecursion (λ (x : ℕ × SlicePart). (rest : List ℕ) × IsEscaped rest (drop x.1.payload x.1.unit)) xs
      → AllByRecursion IsShort (map (λ (s : Slice). s.unit) ws) → AllStand (map (λ (s : Slice). s.unit) ws)
  each_stands [] [] own payloads few = tt
  each_stands [] (w ∷ ws) own payloads few = absurd own
  each_stands (x ∷ xs) [] own payloads few = tt
  each_stands (x ∷ xs) (w ∷ ws) own payloads few = (slice_stands x.0 x.1 w payloads.0 own.0 few.0, each_stands xs ws own.1 payloads.1 few.1)

  payloads : AllByRecursion (λ (x : ℕ × SlicePart). (rest : List ℕ) × IsEscaped rest (drop x.1.payload x.1.unit)) (sourced 0 round)
  payloads =
      each_weaker (IsOfItsSource round) (λ (x : ℕ × SlicePart). (rest : List ℕ) × IsEscaped rest (drop x.1.payload x.1.unit)) (λ x is. is.1.payload)
      (sourced 0 round) (all_of_sources round (λ k few. one_at IsSource round k few ready.each))

  pub round_stands : AllStand (units_of p)
  round_stands =
      Each-append CanStand eos (sets ++ (sei ++ (header ++ slices))) (ended_stand p.kind.after_eos)
      (Each-append CanStand sets (sei ++ (header ++ slices)) own_sets
      (Each-append CanStand sei (header ++ slices) (sei_stands p.kind.temporal_id (picture_at round 0).messages p.sei low is.sei short_sei)
      (Each-append CanStand header slices header_stands
      (each_stands (sourced 0 round) (written.planned_slices p) is.slices payloads (back_short header slices short_rest)))))

-- ---- all rounds

module _ (joins : EscapedJoins) (R : Readers) (corners : List Corner) (level : Option ℕ) (are : AreCorners corners) where
  all_stand : (sources : List (List Picture)) (done : List Plan) → length corners ≡ length sources → AllByRecursion (CanBeMerged R) sources
      → AreMerged corners level sources done → AllStand (units_written done)
  all_stand sources [] same can merged = tt
  all_stand sources (p ∷ done) same can ((round, at, passes), merged) =
      let lasts_ = all_last sources round at in
      let ready = ready_round R corners sources round are same (sound_lasts R sources round lasts_ can) in
      Each-append CanStand (units_written done) (units_of p) (all_stand (earlier sources) done (earlier_long corners sources same) (earlier_can R sources can) merged)
      (round_stands joins corners level (map parts_of round) done p ready passes)

pub units_can_stand : EscapedJoins → MergedUnitsCanStand
units_can_stand joins R corners level sources done of so = All-from_recursion CanStand (units_written done) (all_stand joins R corners level so.are sources done so.same so.can so.merged)
