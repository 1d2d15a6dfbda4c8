use Rattle.std.proofs.lemmas.Result.{err_from_is_err_and}
use Rattle.vx_sh.specs.InForce.{in_force_at}
use Rattle.vx_pic.specs.Readings.{Begun}
use Rattle.vx_pic.specs.Rules.{Readers}
use Rattle.vx_pic.specs.H266.{AreOfH266}
use Rattle.vx_assemble.specs.inner.Answered.{AreOfBegun}
use Rattle.vx_assemble.proofs.Answers.{gives_slice, gives_slice_error, slice_fits, subpic_below}
use Rattle.vx_assemble.proofs.Small.{slice_small}
use Rattle.vx_assemble.proofs.readers.read_slice.Goals as goal

pub returns-in_err-header-clause-answer : goal.returns-in_err-header-clause-answer
returns-in_err-header-clause-answer c = λ (R : Readers) (are : AreOfH266 R) (b : Begun) (of : AreOfBegun c.args.numbers.now b).
    let p = err_from_is_err_and c.from_residual.result c.from_residual.ensures.1 in
    let read = rw c.in_err-header.was at c.read_sh_at.ensures in
    rw (p.1, p.2) (gives_slice_error c.args.numbers.now b c.args.unit.now c.args.rbsp.now (R.slice c.args.numbers.now.nal_type b c.args.unit.now) _ of c.requires.spells
    (are.slice c.args.numbers.now.nal_type b c.args.unit.now) read)

pub unit_place-payload-requires : goal.unit_place-payload-requires
unit_place-payload-requires c =
    let read = rw c.in_ok-header.was at c.read_sh_at.ensures in
    slice_fits (in_force_at c.args.numbers.now) c.args.unit.now c.args.rbsp.now c.in_ok-header.header c.in_ok-header.size c.requires.spells read

pub returns-clause-answer : goal.returns-clause-answer
returns-clause-answer c = λ (R : Readers) (are : AreOfH266 R) (b : Begun) (of : AreOfBegun c.args.numbers.now b).
    let read = rw c.in_ok-header.was at c.read_sh_at.ensures in
    gives_slice c.args.numbers.now b c.args.unit.now c.args.rbsp.now (R.slice c.args.numbers.now.nal_type b c.args.unit.now) c.in_ok-header.header c.in_ok-header.size c.unit_place-payload.result of c.requires.spells
    (are.slice c.args.numbers.now.nal_type b c.args.unit.now) read c.unit_place-payload.ensures.first

pub returns-clause-lists : goal.returns-clause-lists
returns-clause-lists c =
    let read = rw c.in_ok-header.was at c.read_sh_at.ensures in
    read.numbers.lists

pub returns-clause-subpic : goal.returns-clause-subpic
returns-clause-subpic c =
    let read = rw c.in_ok-header.was at c.read_sh_at.ensures in
    subpic_below c.args.numbers.now c.args.rbsp.now c.in_ok-header.header c.in_ok-header.size read

pub returns-clause-small : goal.returns-clause-small
returns-clause-small c =
    let read = rw c.in_ok-header.was at c.read_sh_at.ensures in
    slice_small (in_force_at c.args.numbers.now) c.args.rbsp.now c.in_ok-header.header c.in_ok-header.size read

pub returns-clause-read : goal.returns-clause-read
returns-clause-read c =
    let read = rw c.in_ok-header.was at c.read_sh_at.ensures in
    record { inside = read.inside; fields = read.fields; numbers = read.numbers }
