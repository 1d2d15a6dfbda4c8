use Rattle.std.proofs.Common.{sym, arith}
use Rattle.vx_aps.proofs.Fielded.{bare_fields, type_fields, all_fields}
use Rattle.vx_aps.proofs.fields.read_aps_fields.Goals as goal

pub returns-in_default : goal.returns-in_default
returns-in_default c = rw c.new.ensures (bare_fields c.args.rbsp.now (rw c.in_default.is at c.split_first.ensures.cases))

pub returns-then-id-ids : goal.returns-then-id-ids
returns-then-id-ids c =
    rw c.in_ok-items-2.ensures (type_fields c.args.rbsp.now c.in-Some.first.now c.in-Some.behind.now c.in-Some.ensures.cases.0 (omega (arith, c.if-kind-gt-SCALING.false))
    (rw (sym c.ids.ensures) c.if-id-ids.true))

pub returns : goal.returns
returns c =
    rw (c.in_ok-items-3.ensures, c.body_len.ensures) (all_fields c.args.rbsp.now c.in-Some.first.now c.in-Some.behind.now c.in-Some.ensures.cases.0 (omega (arith, c.if-kind-gt-SCALING.false))
    (rw (sym c.ids.ensures) (omega (arith, c.if-id-ids.false))))
