use Rattle.std.proofs.Common.{◌∷◌, [], Result, Ok, Err, ap, sym, subst}
use Rattle.std.specs.Result.{OnOk}
use Rattle.vx_pic.specs.Resident.{kept_for}
use Rattle.vx_pic.specs.Written.{a_pps}
use Rattle.vx_write.specs.Slots.{pps_with_id}
use Rattle.vx_write.proofs.Spelled.{pps_items}
use Rattle.vx_frame.specs.Rounds.{picture_at}
use Rattle.vx_frame.specs.Shapes.{frame_pps_shape}
use Rattle.vx_frame.specs.Counts.{pps_slots}
use Rattle.vx_frame.proofs.SameSets.{some_used}
use Rattle.vx_merge.specs.Slots.{TakeSlots}
use Rattle.vx_merge.proofs.Planning.{kept_last}
use Rattle.vx_merge.proofs.round.units_behind.Goals as goal

-- what holds at all holds of a value
whatever : {T E P : Type 0} (r : Result T E) → P → OnOk r P
whatever (Ok x) holds = holds
whatever (Err e) holds = tt

pub kind_of-kind-requires : goal.kind_of-kind-requires
kind_of-kind-requires c = some_used c.args.round.now c.args.frame.now c.requires.used

pub taken_pps_id-pps_id-requires : goal.taken_pps_id-pps_id-requires
taken_pps_id-pps_id-requires c =
    let round = c.args.round.now in
    let used = c.requires.used.1.1 in
    pps_items (picture_at round 0).pps (frame_pps_shape c.requires.used.0 round c.args.frame.now.geometry.numbers 0) c.args.frame.now.plain used.is.plain

pub have_pps-requires-clause-used : goal.have_pps-requires-clause-used
have_pps-requires-clause-used c = c.requires.used

pub have_pps-requires-clause-id : goal.have_pps-requires-clause-id
have_pps-requires-clause-id c = c.taken_pps_id-pps_id.ensures.low

pub units_under-requires-clause-frame : goal.units_under-requires-clause-frame
units_under-requires-clause-frame c =
    let used = c.requires.used in
    (used.0, (used.1.0, c.in_ok-have_pps.ensures.same.used used.0 used.1.0 used.1.1))

pub units_under-requires-clause-pps : goal.units_under-requires-clause-pps
units_under-requires-clause-pps c = c.in_ok-have_pps.ensures.pps

pub units_under-requires-clause-low : goal.units_under-requires-clause-low
units_under-requires-clause-low c = c.taken_pps_id-pps_id.ensures.low

pub units_under-requires-clause-taken : goal.units_under-requires-clause-taken
units_under-requires-clause-taken c = λ sent last.
    subst (λ plain. TakeSlots pps_slots 1 (picture_at c.args.round.now 0).kind.temporal_id sent (λ k id. a_pps (pps_with_id id plain)) (c.taken_pps_id-pps_id.result ∷ []))
    (sym c.in_ok-have_pps.ensures.same.plain) (rw (ap (λ k. k.temporal_id) c.kind_of-kind.ensures.value) at (c.taken_pps_id-pps_id.ensures.taken sent last))

pub units_under-requires-clause-slots : goal.units_under-requires-clause-slots
units_under-requires-clause-slots c =
    (kept_for c.kind_of-kind.result.nal_type c.requires.slots.0, c.forget_before.ensures c.requires.slots.0 c.requires.slots.1)

pub returns-clause-frame : goal.returns-clause-frame
returns-clause-frame c = whatever c.units_under.result c.in_ok-have_pps.ensures.same

pub returns-clause-payloads : goal.returns-clause-payloads
returns-clause-payloads c = c.units_under.ensures.payloads

pub returns-clause-units : goal.returns-clause-units
returns-clause-units c corners level history used stood =
    let own = (picture_at c.args.round.now 0).kind in
    let last = kept_last c.args.slots.now c.forget_before.new.slots c.kind_of-kind.result own history c.kind_of-kind.ensures.value c.forget_before.ensures stood in
    c.units_under.ensures.units corners level history (c.in_ok-have_pps.ensures.same.used corners level used) last
