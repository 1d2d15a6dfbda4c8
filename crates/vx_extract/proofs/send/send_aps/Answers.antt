use Rattle.vx_aps.specs.declared.aps.Aps.{Aps}
use Rattle.vx_extract.specs.inner.Sending.{sets_to}
use Rattle.vx_extract.proofs.Sending.{to_more, others_at}
use Rattle.vx_extract.proofs.send.send_aps.Goals as goal

pub send-requires-clause-set : goal.send-requires-clause-set
send-requires-clause-set c = (c.in-Some.ensures.kind, c.in-Some.ensures.id, c.in-Some.ensures.some, c.in-Some.ensures.ends)

pub returns-in-Some : goal.returns-in-Some
returns-in-Some c target before sps pps names sent =
    let a : Aps = record { kind = c.in-Some.aps.kind; id = c.in-Some.aps.id; body = c.in-Some.aps.body.now } in
    let more = c.in-Some.ensures.needed target names in
    let others = others_at c.args.picture.now target sps pps c.args.place a c.requires.place more in
    let answer = rw c.kind-temporal_id.ensures.value at (c.send.ensures.sent before (sets_to c.args.picture.now target sps pps c.args.place) (rw c.kind-temporal_id.ensures.value sent) others) in
    rw (to_more c.args.picture.now target sps pps c.args.place _ more) answer
