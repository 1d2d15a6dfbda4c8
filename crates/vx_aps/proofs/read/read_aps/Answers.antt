use Rattle.std.proofs.Common.{◌-◌, length, sym, arith}
use Rattle.std.proofs.lemmas.Bool.{eqb-true, eqb-false}
use Rattle.vx_aps.proofs.Bytes.{is_bare, is_unknown, is_empty, ends_badly}
use Rattle.vx_aps.proofs.read.read_aps.Goals as goal

pub returns-in_default : goal.returns-in_default
returns-in_default c = rw c.missed.ensures (is_bare c.args.rbsp.now (rw c.in_default.is at c.split_first.ensures.cases))

pub returns-then-id-ids : goal.returns-then-id-ids
returns-then-id-ids c =
    is_unknown c.args.rbsp.now c.in-Some.first.now c.in-Some.behind.now c.in-Some.ensures.cases.0 (omega (arith, c.if-kind-gt-SCALING.false))
    (rw (sym c.ids.ensures) c.if-id-ids.true)

pub returns-then-is_empty : goal.returns-then-is_empty
returns-then-is_empty c =
    rw c.missed-then-is_empty.ensures (is_empty c.args.rbsp.now c.in-Some.first.now c.in-Some.behind.now c.in-Some.ensures.cases.0
    (omega (arith, c.if-kind-gt-SCALING.false)) (rw (sym c.ids.ensures) (omega (arith, c.if-id-ids.false))) (eqb-true (length c.in-Some.behind.now) 0 (sym c.if-is_empty.ensures)))

pub returns-then-behind-eq0 : goal.returns-then-behind-eq0
returns-then-behind-eq0 c =
    rw c.missed-then-behind-eq0.ensures (ends_badly c.args.rbsp.now c.in-Some.first.now c.in-Some.behind.now (length c.in-Some.behind.now - 1) c.in-Some.ensures.cases.0
    (omega (arith, c.if-kind-gt-SCALING.false)) (rw (sym c.ids.ensures) (omega (arith, c.if-id-ids.false))) (omega (arith, eqb-false (length c.in-Some.behind.now) 0 (sym c.if-is_empty.ensures))) c.if-behind-eq0.true)
