use Rattle.vx_pic.specs.Resident.{kept_for}
use Rattle.vx_frame.specs.Rounds.{picture_at}
use Rattle.vx_frame.proofs.SameSets.{frame_there}
use Rattle.vx_merge.proofs.ReadyFrame.{needed_there, ready_for}
use Rattle.vx_merge.proofs.round.units_under.Goals as goal

pub needed-requires-clause-frame : goal.needed-requires-clause-frame
needed-requires-clause-frame c = c.requires.frame

pub needed-requires-clause-pps : goal.needed-requires-clause-pps
needed-requires-clause-pps c = c.requires.pps

pub needed-requires-clause-low : goal.needed-requires-clause-low
needed-requires-clause-low c = c.requires.low

pub needed-requires-clause-taken : goal.needed-requires-clause-taken
needed-requires-clause-taken c = c.requires.taken

pub units_with-requires-clause-ready : goal.units_with-requires-clause-ready
units_with-requires-clause-ready c =
    let used = c.requires.frame in
    let sent = c.requires.slots.0 in
    let needed = c.in-Ok.ensures.needed used.0 used.1.0 sent used.1.1 c.requires.slots.1 in
    (used.1.0, (sent, ready_for used.0 used.1.0 c.args.round.now c.args.frame.now sent c.in-Ok.needed used.1.1 needed))

pub units_with-requires-clause-can : goal.units_with-requires-clause-can
units_with-requires-clause-can c = c.in-Ok.ensures.can

pub returns-in-Ok-clause-payloads : goal.returns-in-Ok-clause-payloads
returns-in-Ok-clause-payloads c = c.units_with.ensures.payloads

pub returns-in-Ok-clause-units : goal.returns-in-Ok-clause-units
returns-in-Ok-clause-units c corners level history used last =
    let round = c.args.round.now in
    let frame = c.args.frame.now in
    let sent = kept_for (picture_at round 0).kind.nal_type history in
    let needed = needed_there corners level round frame sent c.in-Ok.needed used (c.in-Ok.ensures.needed corners level sent used last) in
    c.units_with.ensures.units corners level history (frame_there corners level round frame used) needed last
