use Rattle.std.proofs.Common.{◌≡◌, ◌^◌, ◌<◌, Some, None, sym, subst, ◌∙◌, arith}
use Rattle.vx_pic.specs.Written.{a_pps}
use Rattle.vx_pps.specs.Pps.{ArePpsItems}
use Rattle.vx_write.specs.Slots.{a_pps_of, pps_with_id}
use Rattle.vx_write.proofs.Headed.{place_alike, with_id_slot}
use Rattle.vx_write.proofs.Held.{none_serves, one_serves}
use Rattle.vx_write.proofs.slots.Slots.serves_pps_as.Goals as goal

pub returns-in-Some : goal.returns-in-Some
returns-in-Some c =
    let pps = c.args.pps.now in
    let small : c.args.id < 2 ^ 32 = omega arith in
    let is : ArePpsItems pps = subst ArePpsItems c.fields-items.ensures.items c.fields-items.ensures.set in
    let own = with_id_slot c.args.id pps small is in
    let place = place_alike (a_pps_of c.args.id) (a_pps (pps_with_id c.args.id pps)) c.args.self.now (Some c.in-Some.i) own c.in-Some.ensures in
    let same : c.as_slice.result.now ≡ pps = c.as_slice.ensures ∙ c.fields-items.ensures.items in
    (rw same at c.serves_pps_as.ensures)
    ∙ sym (one_serves c.args.temporal_id (a_pps (pps_with_id c.args.id pps)) c.args.self.now c.in-Some.i c.index.result.now place (rw c.self.view_is at c.index.ensures))

pub returns-in-None : goal.returns-in-None
returns-in-None c =
    let pps = c.args.pps.now in
    let small : c.args.id < 2 ^ 32 = omega arith in
    let is : ArePpsItems pps = subst ArePpsItems c.fields-items.ensures.items c.fields-items.ensures.set in
    let own = with_id_slot c.args.id pps small is in
    sym (none_serves c.args.temporal_id (a_pps (pps_with_id c.args.id pps)) c.args.self.now (place_alike (a_pps_of c.args.id) (a_pps (pps_with_id c.args.id pps)) c.args.self.now None own c.in-None.ensures))
