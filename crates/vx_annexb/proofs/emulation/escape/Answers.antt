use Rattle.std.proofs.Common.{◌≡◌, ◌<◌, inl, inr, length, arith, refl}
use Rattle.vx_annexb.proofs.EscapedBytes.{escape_turn, escape_end}
use Rattle.vx_annexb.proofs.emulation.escape.Goals as goal
use Rattle.vx_annexb.proofs.emulation.escape.Goals.{then-zeros-eq2+then-byte-le-EMULATION+in_ok-push, else-zeros-eq2, else-zeros-eq2-via-then-zeros-eq2+else-byte-le-EMULATION, else-zeros-eq2-via-else-zeros-eq2, then-byte-eq0, else-byte-eq0}

pub loop-byte-preserved : goal.loop-byte-preserved
loop-byte-preserved c =
    let within : c.loop-byte.byte-index < length c.args.bytes.now = omega (arith, c.loop-byte-test.true) in
    rw c.in_ok-push-2.ensures.items (escape_turn c.args.bytes.now c.loop-byte.unit.items c.if-zeros-eq2.unit.items c.loop-byte.byte-index c.loop-byte.zeros c.if-zeros-eq2.zeros c.if-byte-eq0.zeros c.loop-byte.invariant within
    (elim c.if-zeros-eq2.branch [
      | then-zeros-eq2+then-byte-le-EMULATION+in_ok-push w ↦ inl (omega (arith, w.if-zeros-eq2.true), w.if-byte-le-EMULATION.true, rw w.unit-is w.in_ok-push.ensures.items, w.zeros-is)
      | else-zeros-eq2 w ↦ inr (
        (λ two. elim w.else-zeros-eq2.branch [
          | else-zeros-eq2-via-then-zeros-eq2+else-byte-le-EMULATION v ↦ v.if-byte-le-EMULATION.false
          | else-zeros-eq2-via-else-zeros-eq2 v ↦ absurd (v.if-zeros-eq2.false (omega (arith, two, c.loop-byte.invariant.few)))
        ]),
        rw w.unit-is refl,
        w.zeros-is,
      )
    ])
    (elim c.if-byte-eq0.branch [
      | then-byte-eq0 w ↦ inl (w.if-byte-eq0.true, w.zeros-is)
      | else-byte-eq0 w ↦ inr (w.if-byte-eq0.false, w.zeros-is)
    ]))

pub returns : goal.returns
returns c =
    let all : c.loop-byte.byte-index ≡ length c.args.bytes.now = omega (arith, c.loop-byte-test.false, c.loop-byte.auto.byte-index-end) in
    escape_end c.args.bytes.now c.loop-byte.unit.items c.loop-byte.zeros c.requires (rw all at c.loop-byte.invariant)
