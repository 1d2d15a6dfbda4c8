use Rattle.std.proofs.Common.{ap}
use Rattle.vx_frame.specs.Rounds.{picture_at}
use Rattle.vx_pic.specs.Resident.{kept_for}
use Rattle.vx_merge.proofs.Planning.{count_of, is_made, payload_count, some_round}
use Rattle.vx_merge.proofs.round.units_with.Goals as goal

pub kind_of-kind-requires : goal.kind_of-kind-requires
kind_of-kind-requires c = some_round _ _ c.args.layout.now c.requires.ready

pub header_units-requires : goal.header_units-requires
header_units-requires c = c.requires.ready

pub send_needed-requires-clause-tid : goal.send_needed-requires-clause-tid
send_needed-requires-clause-tid c = c.kind_of-kind.ensures.tid

pub send_needed-requires-clause-can : goal.send_needed-requires-clause-can
send_needed-requires-clause-can c = c.requires.can

pub kept_parts-requires : goal.kept_parts-requires
kept_parts-requires c = some_round _ _ c.args.layout.now c.requires.ready

pub returns-clause-payloads : goal.returns-clause-payloads
returns-clause-payloads c =
    let count = payload_count c.args.round.now _ _ _ c.in_ok-headers.ensures.slices c.in_ok-sei.ensures.payloads in
    count_of c.in_ok-headers.headers.fronts.items c.in_ok-sei.payloads count

pub returns-clause-units : goal.returns-clause-units
returns-clause-units c corners level history frame needed last =
    let round = c.args.round.now in
    let layout = c.args.layout.now in
    let sent = kept_for (picture_at round 0).kind.nal_type history in
    is_made corners level round history layout c.args.needed.now _ c.send_needed.new.slots
    (record {
      some = some_round _ _ layout c.requires.ready;
      first = c.kind_of-kind.ensures.some;
      frame_is = frame;
      needed = needed;
      eos = ap (λ k. k.after_eos) c.kind_of-kind.ensures.value;
      headers = c.in_ok-headers.ensures;
      sent = rw (ap (λ k. k.temporal_id) c.kind_of-kind.ensures.value) at (c.in_ok-sets.ensures corners level round layout sent last needed);
      sei = c.in_ok-sei.ensures.sei;
      payloads = c.in_ok-sei.ensures.payloads;
    })
