-- The units that are written for a whole stream can stand in one.
use Rattle.std.proofs.Common.{◌≡◌, ℕ, ◌+◌, ◌*◌, ◌^◌, ◌<◌, ◌≤◌, ◌==◌, true, not, List, [], ◌∷◌, ◌++◌, length, map, Option, Some, None, refl, ap, sym, subst, ◌∙◌, inl, inr, arith}
use Rattle.std.specs.Prelude.{Bool, filter, option_map, option_to_list}
use Rattle.std.specs.List.{AllByRecursion}
use Rattle.std.proofs.lemmas.Bool.{cases_Bool}
use Rattle.std.proofs.lemmas.List.{length_push}
use Rattle.std.proofs.lemmas.List.Elements.{All-from_recursion, recursion_from_All}
use Rattle.vx_bits.specs.Limits.{unit_limit}
use Rattle.vx_annexb.specs.Laws.{CanStand, EscapedIsUnique, EscapedSplits, written}
use Rattle.vx_aps.specs.Aps.{spelled}
use Rattle.vx_layout.proofs.Parts.{Each-append}
use Rattle.vx_sps.specs.Set as sps
use Rattle.vx_pps.specs.laws.Sets as pps
use Rattle.vx_sei.specs.declared.message.Message.{Message}
use Rattle.vx_sei.specs.Sei.{IsSei, sei_messages, spelled_length}
use Rattle.vx_pic.specs.declared.unit_types.TheConstants as types
use Rattle.vx_pic.specs.Readings.{Begun, Picture, Slice, messages_of}
use Rattle.vx_pic.specs.Parts.{SlicePart, parts_of, slice_part}
use Rattle.vx_pic.specs.Rules.{Readers, message_limit}
use Rattle.vx_pic.specs.Units.{rbsp_of}
use Rattle.vx_pic.specs.Streams.{StreamReading, ending_of, pictures_of, read_on}
use Rattle.vx_pic.specs.Bytes.{ArePictures, ending_by}
use Rattle.vx_pic.specs.Finished.{AreFinished, IsSoundPicture, PicturesAreFinished}
use Rattle.vx_pic.specs.Sublayers.{KeptAreFinished, at_most}
use Rattle.vx_pic.specs.laws.Pictures.{WrittenHasPictures}
use Rattle.vx_pic.specs.Written.{Plan, SeiUnit, Set, SetUnit, a_pps, an_aps, an_sps, eos_units, sei_units, planned_slices, units_of}
use Rattle.vx_pic.specs.Resident.{is_resident, sent_before, units_written}
use Rattle.vx_pic.proofs.Sublayers.{low_tid}
use Rattle.vx_write.specs.Units.{IsSeiUnit, IsSetUnit, IsUnitOf}
use Rattle.vx_write.proofs.Standing.{ended_stand, two_bytes, unit_stands}
use Rattle.vx_write.proofs.UnitsRead.{front_of}
use Rattle.vx_extract.specs.Written.{AreExtracted, IsExtracted, all_slots, is_named, slice_alone}
use Rattle.vx_extract.specs.Whole.{ExtractedUnitsReadAgain, ExtractionReadsAgain}
use Rattle.vx_write.proofs.OwnSets.{each_passing, units_hold}
use Rattle.vx_extract.proofs.AgainBodies.{slots_hold}
use Rattle.vx_extract.proofs.ReadyPictures.{each_kept}
use Rattle.vx_extract.proofs.WholeSizes.{as_long, twice_at_most}
use Rattle.vx_extract.proofs.WholeSource.{OfPicture, OfSet, OfSlices, OfUnit, have_units, sets_have}

abbrev AllStand : List (List ℕ) → Type 0
AllStand units = AllByRecursion CanStand units

-- the source has a unit of the set
abbrev HasSource : Set → Type 0
HasSource (an_sps items) = Unit {0}
HasSource (a_pps items) = Unit {0}
HasSource (an_aps a) = OfSet CanStand a

-- ---- one unit

-- the unit of an adaptation parameter set is as long as the source's
as_source : EscapedSplits → EscapedIsUnique → (tid : ℕ) (rbsp unit u : List ℕ) → IsUnitOf types.PREFIX_APS_NUT tid rbsp unit → CanStand u → rbsp_of u ≡ rbsp → length unit ≡ length u
as_source splits unique tid rbsp unit u is stands same =
    let front = front_of 0 (types.PREFIX_APS_NUT * 8 + (tid + 1)) rbsp unit is in
    let at = front.at_1 in
    let header = stands.sound.header.temporal in
    as_long splits unique unit u
    (record { two = two_bytes 0 (types.PREFIX_APS_NUT * 8 + (tid + 1)) rbsp unit (length unit) refl is; last = omega (arith, at); escaped = record { rules = is.rules; last = is.last; is = refl } })
    (record { two = stands.sound.header.bytes; last = omega (arith, header); escaped = record { rules = stands.sound.emulation; last = stands.last; is = refl } })
    (front.behind ∙ sym same)

-- that of a set is short, since its spelling is
set_short : (nal_type tid : ℕ) (rbsp unit : List ℕ) → length rbsp ≤ 2 ^ 17 → IsUnitOf nal_type tid rbsp unit → length unit ≤ unit_limit
set_short nal_type tid rbsp unit few is =
    let twice = twice_at_most (0 ∷ (nal_type * 8 + (tid + 1)) ∷ rbsp) unit is in
    omega (arith, twice, few)

set_stands : EscapedSplits → EscapedIsUnique → sps.SpellingIsShort → pps.SpellingIsShort → (tid : ℕ) (s : Set) (unit : List ℕ) → tid < 7 → IsSetUnit tid s unit → HasSource s → CanStand unit
set_stands splits unique few_sps few_pps tid (an_sps items) unit low (rbsp, spelling, is) from =
    let few = few_sps items rbsp spelling in
    unit_stands types.SPS_NUT 0 rbsp unit (omega arith) is (set_short types.SPS_NUT 0 rbsp unit (omega (arith, few)) is)
set_stands splits unique few_sps few_pps tid (a_pps items) unit low (rbsp, spelling, is) from =
    let few = few_pps items rbsp spelling in
    unit_stands types.PPS_NUT tid rbsp unit low is (set_short types.PPS_NUT tid rbsp unit (omega (arith, few)) is)
set_stands splits unique few_sps few_pps tid (an_aps a) unit low is (u, stands, same) =
    let size = as_source splits unique tid (spelled a.kind a.id a.body) unit u is stands same in
    let few = stands.sound.size in
    unit_stands types.PREFIX_APS_NUT tid (spelled a.kind a.id a.body) unit low is (omega (arith, size, few))

-- that of messages is short
sei_short : (tid : ℕ) (rbsp unit : List ℕ) (ms : List Message) → IsSei rbsp ms → spelled_length ms ≤ message_limit → IsUnitOf types.PREFIX_SEI_NUT tid rbsp unit → length unit ≤ unit_limit
unfolding message_limit
sei_short tid rbsp unit ms are few is =
    let twice = twice_at_most (0 ∷ (types.PREFIX_SEI_NUT * 8 + (tid + 1)) ∷ rbsp) unit is in
    let long = ap (λ xs. length xs) are.bytes ∙ length_push (sei_messages ms) 128 in
    omega (arith, twice, long, few)

-- ---- the units of a picture

sets_stand : EscapedSplits → EscapedIsUnique → sps.SpellingIsShort → pps.SpellingIsShort → (tid : ℕ) (sent : List SetUnit) → tid < 7 → AllByRecursion (λ (x : SetUnit). IsSetUnit tid x.set x.unit) sent
    → AllByRecursion (λ (x : SetUnit). HasSource x.set) sent → AllStand (map (λ x. x.unit) sent)
sets_stand splits unique few_sps few_pps tid [] low are from = tt
sets_stand splits unique few_sps few_pps tid (x ∷ sent) low are from = (set_stands splits unique few_sps few_pps tid x.set x.unit low are.0 from.0, sets_stand splits unique few_sps few_pps tid sent low are.1 from.1)

sei_stands : (tid : ℕ) (ms : List Message) (sei : Option SeiUnit) → tid < 7 → spelled_length ms ≤ message_limit → IsSeiUnit tid ms sei → AllStand (sei_units sei)
sei_stands tid ms None low few is = tt
sei_stands tid [] (Some s) low few is = absurd (cc)
sei_stands tid (m ∷ ms) (Some s) low few (same, (rbsp, are, is)) = (unit_stands types.PREFIX_SEI_NUT tid rbsp s.unit low is (sei_short tid rbsp s.unit (m ∷ ms) are few is), tt)

header_stands : (unit : Option (List ℕ)) → OfUnit CanStand unit → AllStand (option_to_list unit)
header_stands None stands = tt
header_stands (Some u) stands = (stands, tt)

slices_stand : (b : Begun) (target : ℕ) (slices : List Slice) → OfSlices CanStand slices
    → AllStand (map (λ (s : Slice). s.unit) (map slice_alone (filter (λ (s : SlicePart). s.header.subpic == target) (map (slice_part b) slices))))
slices_stand b target [] stand = tt
slices_stand b target (s ∷ slices) stand = elim (cases_Bool (s.header.subpic == target)) [
  | inl on ↦ rw on (stand.0, slices_stand b target slices stand.1)
  | inr off ↦ rw off (slices_stand b target slices stand.1)
]

module _ (splits : EscapedSplits) (unique : EscapedIsUnique) (few_sps : sps.SpellingIsShort) (few_pps : pps.SpellingIsShort) (R : Readers) (target : ℕ) (level : Option ℕ) where
  module _ (earlier : List Picture) (pic : Picture) (done : List Plan) (p : Plan) (sound : IsSoundPicture R earlier pic) (ex : IsExtracted target level (parts_of pic) done p)
      (stand : OfPicture CanStand pic) where
    abbrev are_sent : SetUnit → Bool
    are_sent x = not (is_resident pic.kind.temporal_id (sent_before done p) x)

    -- what holds of those that are needed holds of those that are sent
    sent_hold : (Q : SetUnit → Type 0) → AllByRecursion Q ex.needed → AllByRecursion Q p.sent
    sent_hold Q all = subst (λ xs. AllByRecursion Q xs) (sym ex.sent) (each_passing Q are_sent ex.needed all)

    each_source : AllByRecursion (λ (x : SetUnit). HasSource x.set) ex.needed
    each_source = units_hold HasSource ex.needed (subst (λ xs. AllByRecursion HasSource xs) (sym ex.sets)
        (tt, (tt, slots_hold HasSource (parts_of pic) (λ slot a is. sets_have CanStand pic stand slot a is) (filter (is_named (parts_of pic) target) all_slots))))

    picture_stands : AllStand (units_of p)
    picture_stands =
        let eos : List (List ℕ) = eos_units p.kind.after_eos in
        let sets : List (List ℕ) = map (λ (x : SetUnit). x.unit) p.sent in
        let sei : List (List ℕ) = sei_units p.sei in
        let header : List (List ℕ) = option_to_list p.begun.unit in
        let slices : List (List ℕ) = map (λ (s : Slice). s.unit) (planned_slices p) in
        let low = low_tid R earlier pic sound in
        let own_sets = sets_stand splits unique few_sps few_pps pic.kind.temporal_id p.sent low (sent_hold (λ (x : SetUnit). IsSetUnit pic.kind.temporal_id x.set x.unit) ex.units) (sent_hold (λ (x : SetUnit). HasSource x.set) each_source) in
        let own_sei = sei_stands pic.kind.temporal_id (messages_of pic) p.sei low sound.messages ex.sei in
        let own_header : AllStand header = header_stands p.begun.unit (subst (OfUnit CanStand) (sym ex.unit) stand.0) in
        let own_slices : AllStand slices = subst (λ xs. AllStand (map (λ (s : Slice). s.unit) xs)) (sym ex.slices) (slices_stand pic.begun target pic.slices stand.1) in
        Each-append CanStand eos (sets ++ (sei ++ (header ++ slices))) (ended_stand p.kind.after_eos)
        (Each-append CanStand sets (sei ++ (header ++ slices)) own_sets
        (Each-append CanStand sei (header ++ slices) own_sei
        (Each-append CanStand header slices own_header own_slices)))

  -- ---- all of them

  all_stand : (pics : List Picture) (done : List Plan) → AreFinished R pics → AllByRecursion (OfPicture CanStand) pics
      → AreExtracted target level (map parts_of pics) done → AllStand (units_written done)
  all_stand [] [] finished stand were = tt
  all_stand [] (p ∷ done) finished stand were = absurd were
  all_stand (pic ∷ pics) [] finished stand were = absurd were
  all_stand (pic ∷ pics) (p ∷ done) (sound, whole, finished) (one, stand) (ex, were) =
      Each-append CanStand (units_written done) (units_of p) (all_stand pics done finished stand were) (picture_stands pics pic done p sound ex one)

ends_well : (o : StreamReading) → ending_of o ≡ None → ending_by true None o ≡ None
ends_well o none = ap (λ r. option_map (λ x. record { units = length o.before; refusal = x }) r) none

pub reads_again : EscapedSplits → EscapedIsUnique → PicturesAreFinished → KeptAreFinished → WrittenHasPictures → ExtractedUnitsReadAgain → sps.SpellingIsShort → pps.SpellingIsShort → ExtractionReadsAgain
reads_again splits unique finished kept has_pictures reads few_sps few_pps R units target tid level bytes of sources fit (done, were, same) =
    let all : List Picture = pictures_of R units in
    let pics : List Picture = at_most tid all in
    let own = each_kept (OfPicture CanStand) tid all (have_units CanStand R units of (recursion_from_All CanStand units sources)) in
    let stand = all_stand splits unique few_sps few_pps R target level pics done (kept R tid all (finished R units) fit.starts) own were in
    let again = reads R units target tid level done of fit were in
    let qs : List Picture = pictures_of R (units_written done) in
    let are = has_pictures R (units_written done) (All-from_recursion CanStand (units_written done) stand) in
    let ends = ends_well (read_on R [] (units_written done)) again.ends in
    let well : ArePictures R (written (units_written done)) true qs None = subst (λ e. ArePictures R (written (units_written done)) true qs e) ends are in
    (qs, subst (λ b. ArePictures R b true qs None) (sym same) well, again.pictures)
