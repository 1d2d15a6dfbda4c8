use Rattle.std.proofs.Common.{ap, sym, ◌∙◌}
use Rattle.vx_pps.specs.declared.partition.Partition.{Partition}
use Rattle.vx_pps.proofs.Told.{partition_is}
use Rattle.vx_pps.proofs.pps.Pps.slices.Goals as goal

pub returns : goal.returns
returns c =
    let is = partition_is c.self.inside.fields c.self.inside.partition c.self.invariant.0 in
    let same = rw c.self.view_is at is in
    c.as_ref.ensures.value ∙ sym (ap (λ (p : Partition). p.slices) same)
