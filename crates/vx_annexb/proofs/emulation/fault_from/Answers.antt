use Rattle.std.proofs.Common.{◌≡◌, ◌+◌, slice_index, arith}
use Rattle.vx_annexb.proofs.Fault.{clear_from, breaks_at_mark, breaks_behind, clear_behind, clear_all}
use Rattle.vx_annexb.proofs.emulation.fault_from.Goals as goal
use Rattle.vx_annexb.proofs.emulation.fault_from.Goals.{else-at-unit-via-then-at-unit+else-unit-at-gt-EMULATION, else-at-unit-via-else-at-unit}

pub loop-mark-init : goal.loop-mark-init
loop-mark-init c = clear_from c.args.unit.now c.args.from c.requires.within c.requires.clear

pub returns-then-unit-mark-lt-EMULATION : goal.returns-then-unit-mark-lt-EMULATION
returns-then-unit-mark-lt-EMULATION c =
    breaks_at_mark c.args.unit.now c.loop-mark.at c.loop-mark.invariant c.in-Some.mark c.in-Some.ensures c.if-unit-mark-lt-EMULATION.true

pub returns-then-unit-at-gt-EMULATION : goal.returns-then-unit-at-gt-EMULATION
returns-then-unit-at-gt-EMULATION c =
    let three : slice_index c.args.unit.now (c.in-Some.mark + 2) ≡ 3 = omega (arith, c.if-unit-mark-lt-EMULATION.false, c.in-Some.ensures.here.third) in
    breaks_behind c.args.unit.now c.loop-mark.at c.loop-mark.invariant c.in-Some.mark c.in-Some.ensures three c.if-at-unit.true c.if-unit-at-gt-EMULATION.true

pub loop-mark-preserved : goal.loop-mark-preserved
loop-mark-preserved c =
    let three : slice_index c.args.unit.now (c.in-Some.mark + 2) ≡ 3 = omega (arith, c.if-unit-mark-lt-EMULATION.false, c.in-Some.ensures.here.third) in
    clear_behind c.args.unit.now c.loop-mark.at c.loop-mark.invariant c.in-Some.mark c.in-Some.ensures three (λ within. elim c.else-at-unit.branch [
      | else-at-unit-via-then-at-unit+else-unit-at-gt-EMULATION w ↦ w.if-unit-at-gt-EMULATION.false
      | else-at-unit-via-else-at-unit w ↦ omega (arith, w.if-at-unit.false)
    ])

pub returns : goal.returns
returns c = clear_all c.args.unit.now c.loop-mark.at c.loop-mark.invariant c.in_default.ensures
