-- The messages of a picture that is written.
use Rattle.std.proofs.Common.{◌≡◌, ℕ, true, false, Bool, List, [], ◌∷◌, ◌++◌, map, Option, Some, None, refl, ap, ◌∙◌}
use Rattle.vx_sei.specs.declared.message.Message.{Message}
use Rattle.vx_pic.specs.Readings.{Begun, Reading, Slice, first_slice, gathered, messages_of, next_slice}
use Rattle.vx_pic.specs.Written.{Plan, SeiUnit, Set, SetUnit, a_pps, readings_after, an_aps, an_sps, eos_readings, header_readings, planned, readings_of, messages_sent, sei_readings, set_reading, set_readings, slice_readings}
use Rattle.vx_pic.specs.Resident.{readings_of_plans}
use Rattle.vx_write.specs.Units.{IsSeiUnit}

-- ---- what comes before the slices

ended_gather : (before : List Reading) (ends : Bool) → gathered (readings_after before (eos_readings ends)) ≡ gathered before
ended_gather before true = refl
ended_gather before false = refl

set_gathers : (s : Set) (before : List Reading) → gathered (set_reading s ∷ before) ≡ gathered before
set_gathers (an_sps s) before = refl
set_gathers (a_pps p) before = refl
set_gathers (an_aps a) before = refl

sets_gather : (before : List Reading) (sent : List SetUnit) → gathered (readings_after before (set_readings sent)) ≡ gathered before
sets_gather before [] = refl
sets_gather before (x ∷ sent) = sets_gather (set_reading x.set ∷ before) sent ∙ set_gathers x.set before

sei_gathers : (before : List Reading) (sei : Option SeiUnit) → gathered before ≡ [] → gathered (readings_after before (sei_readings sei)) ≡ messages_sent sei
sei_gathers before None none = none
sei_gathers before (Some s) none = ap (λ ms. ms ++ s.messages) none

header_gathers : (before : List Reading) (unit : Option (List ℕ)) (b : Begun) → gathered (readings_after before (header_readings unit b)) ≡ gathered before
header_gathers before None b = refl
header_gathers before (Some u) b = refl

pub unit_has : (tid : ℕ) (messages : List Message) (sei : Option SeiUnit) → IsSeiUnit tid messages sei → messages_sent sei ≡ messages
unit_has tid [] sei is = ap messages_sent is
unit_has tid (m ∷ more) None is = absurd is
unit_has tid (m ∷ more) (Some s) is = is.0

-- behind a slice nothing is gathered
slices_gather : (before : List Reading) (more : List Slice) → gathered before ≡ [] → gathered (readings_after before (map next_slice more)) ≡ []
slices_gather before [] none = none
slices_gather before (s ∷ more) none = slices_gather (next_slice s ∷ before) more refl

joined : (before rs ss : List Reading) → readings_after before (rs ++ ss) ≡ readings_after (readings_after before rs) ss
joined before [] ss = refl
joined before (r ∷ rs) ss = joined (r ∷ before) rs ss

plan_gathers : (before : List Reading) (p : Plan) → gathered (readings_after before (readings_of p)) ≡ []
plan_gathers before p =
    let ended : List Reading = eos_readings p.kind.after_eos in
    let sets : List Reading = set_readings p.sent in
    let sei : List Reading = sei_readings p.sei in
    let header : List Reading = header_readings p.begun.unit p.begun in
    ap gathered (joined before ended (sets ++ (sei ++ (header ++ slice_readings p))) ∙ joined (readings_after before ended) sets (sei ++ (header ++ slice_readings p))
    ∙ joined (readings_after (readings_after before ended) sets) sei (header ++ slice_readings p) ∙ joined (readings_after (readings_after (readings_after before ended) sets) sei) header (slice_readings p))
    ∙ slices_gather (first_slice p.begun p.kind p.first ∷ readings_after (readings_after (readings_after (readings_after before ended) sets) sei) header) p.more refl

read_gathers : (done : List Plan) → gathered (readings_of_plans done) ≡ []
read_gathers [] = refl
read_gathers (p ∷ done) = plan_gathers (readings_of_plans done) p

-- ---- a plan

-- The messages of the picture of a plan are those of its SEI unit.
pub planned_messages : (done : List Plan) (p : Plan) → messages_of (planned (readings_of_plans done) p) ≡ messages_sent p.sei
planned_messages done p =
    let before : List Reading = readings_of_plans done in
    let ended : List Reading = readings_after before (eos_readings p.kind.after_eos) in
    let sets : List Reading = readings_after ended (set_readings p.sent) in
    let none : gathered sets ≡ [] = sets_gather ended p.sent ∙ (ended_gather before p.kind.after_eos ∙ read_gathers done) in
    header_gathers (readings_after sets (sei_readings p.sei)) p.begun.unit p.begun ∙ sei_gathers sets p.sei none
