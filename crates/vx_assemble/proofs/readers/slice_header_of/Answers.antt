use Rattle.std.proofs.Common.{subst}
use Rattle.vx_assemble.specs.inner.Held.{begun_of}
use Rattle.vx_assemble.specs.inner.Takes.{Gives, answer_by, header_read_as}
use Rattle.vx_assemble.proofs.Fronts.{slice_on}
use Rattle.vx_assemble.proofs.readers.slice_header_of.Goals as goal

pub returns-in-Ok-clause-answer : goal.returns-in-Ok-clause-answer
returns-in-Ok-clause-answer c R h head =
    let u = c.args.unit in
    slice_on R c.args.nal_type (begun_of c.args.begun.now head) u.front.bytes.now u.bytes.now (header_read_as c.in-Ok.read) h u.begins u.front.sound.header
    c.in-Ok.ensures.within (c.in-Ok.ensures.answer R h head)

pub returns-clause-answer : goal.returns-clause-answer
returns-clause-answer c R h head =
    subst (λ x. Gives (R.slice c.args.nal_type (begun_of c.args.begun.now head) x) (answer_by header_read_as c.slice_of-2.result)) c.whole-whole.ensures
    (c.slice_of-2.ensures.answer R h head)
