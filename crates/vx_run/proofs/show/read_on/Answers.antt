use Rattle.std.proofs.Common.{Ok, Err, ap, refl}
use Rattle.vx_annexb.specs.declared.unit_reader.ReadFault.TheVariants.{Memory, SourceFailed}
use Rattle.vx_run.proofs.Taking.{reads_at}
use Rattle.vx_run.proofs.show.read_on.Goals as goal

-- the source in the box is the source that was given
pub returns-in-Ok-clause-answer : goal.returns-in-Ok-clause-answer
returns-in-Ok-clause-answer g c R b units before fed =
    reads_at R b units before c.read.new.self _ _ (Ok tt) (c.in-Ok.ensures.answer R b units before fed)
    (ap (λ p. (g.dyn-1.0.entry p.0).1.bytes_left p.1) c.deref_box_mut-1.ensures.value.1)
    (ap (λ p. (g.dyn-1.0.entry p.0).1.read_faults p.1) c.deref_box_mut-1.ensures.value.1)

pub returns-in-Err-Memory-clause-answer : goal.returns-in-Err-Memory-clause-answer
returns-in-Err-Memory-clause-answer g c R b units before fed =
    reads_at R b units before c.read.new.self _ _ (Err Memory) (rw c.in-Err-Memory.field-0-is at c.in-Err-Memory.ensures.answer R b units before fed)
    (ap (λ p. (g.dyn-1.0.entry p.0).1.bytes_left p.1) c.deref_box_mut-1.ensures.value.1)
    (ap (λ p. (g.dyn-1.0.entry p.0).1.read_faults p.1) c.deref_box_mut-1.ensures.value.1)

pub returns-in-Err-SourceFailed-clause-answer : goal.returns-in-Err-SourceFailed-clause-answer
returns-in-Err-SourceFailed-clause-answer g c R b units before fed = (
  refl,
  reads_at R b units before c.read.new.self _ _ (Err SourceFailed) (rw c.in-Err-SourceFailed.field-0-is at c.in-Err-SourceFailed.ensures.answer R b units before fed)
      (ap (λ p. (g.dyn-1.0.entry p.0).1.bytes_left p.1) c.deref_box_mut-1.ensures.value.1)
      (ap (λ p. (g.dyn-1.0.entry p.0).1.read_faults p.1) c.deref_box_mut-1.ensures.value.1),
)
