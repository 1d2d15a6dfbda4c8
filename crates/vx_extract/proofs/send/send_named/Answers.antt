use Rattle.std.proofs.Common.{◌≡◌, arith}
use Rattle.vx_extract.specs.inner.Needed.{slot_count}
use Rattle.vx_extract.proofs.Sending.{to_none, to_all}
use Rattle.vx_extract.proofs.send.send_named.Goals as goal

pub loop-place-init : goal.loop-place-init
loop-place-init c before sps pps sent = rw (to_none c.args.picture.now c.args.target sps pps) sent

pub returns : goal.returns
returns c before sps pps sent =
    let all : c.loop-place.place ≡ slot_count = omega arith in
    rw (← to_all c.args.picture.now c.args.target sps pps, ← all) (c.loop-place.invariant before sps pps sent)
