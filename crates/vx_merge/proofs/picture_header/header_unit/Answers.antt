use Rattle.std.proofs.Common.{subst}
use Rattle.vx_ph.specs.InForce.{in_force, structures}
use Rattle.vx_pic.specs.declared.unit_types.TheConstants as types
use Rattle.vx_write.specs.Units.{IsUnitOf}
use Rattle.vx_merge.proofs.OneHeader.{unit_ends}
use Rattle.vx_merge.proofs.picture_header.header_unit.Goals as goal

pub plain_unit-requires-clause-ends : goal.plain_unit-requires-clause-ends
plain_unit-requires-clause-ends c =
    let needed = c.args.needed.now in
    let table = structures needed.sps.now in
    let scope = in_force needed.sps.now needed.pps.now in
    rw c.deref.ensures.value (unit_ends table scope c.args.header.now c.in_ok-rbsp.rbsp.items c.in_ok-rbsp.ensures)

pub plain_unit-requires-clause-temporal_id : goal.plain_unit-requires-clause-temporal_id
plain_unit-requires-clause-temporal_id c = c.requires.tid

pub returns : goal.returns
returns c =
    let made = subst (λ xs. IsUnitOf types.PH_NUT c.args.temporal_id xs c.in_ok-unit.unit.items) c.deref.ensures.value c.in_ok-unit.ensures in
    (c.in_ok-rbsp.rbsp.items, c.in_ok-rbsp.ensures, made)
