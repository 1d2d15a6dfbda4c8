use Rattle.std.proofs.Common.{◌<◌, ◌∙◌, length, arith}
use Rattle.vx_bits.proofs.Windows.{length_ahead, byte_ahead, byte_below}
use Rattle.vx_bits.proofs.window.with_bytes.Goals as goal

pub bounds-bytes-next : goal.bounds-bytes-next
bounds-bytes-next c =
    let kept = c.loop-held.invariant in
    omega (arith, kept.5, kept.4, length_ahead c.args.bytes.now c.args.window, c.requires.within, c.loop-held-test.true)

pub loop-held-preserved : goal.loop-held-preserved
loop-held-preserved c =
    let kept = c.loop-held.invariant in
    let within : c.loop-held.next < length c.args.bytes.now
    = omega (arith, kept.5, kept.4, length_ahead c.args.bytes.now c.args.window, c.requires.within, c.loop-held-test.true) in
    let range : c.from.result < 256 = omega (arith, c.from.ensures, c.type_inv.bytes c.loop-held.next) in (
      byte_ahead c.args.bytes.now c.loop-held.word c.loop-held.held c.loop-held.next c.from.result kept.1 within c.from.ensures range ∙ kept.0,
      byte_below c.loop-held.word c.loop-held.held c.from.result kept.1 range,
      omega (arith, c.loop-held-test.true, c.requires.count),
      omega (arith, kept.3),
      omega arith,
      omega (arith, kept.5),
    )
