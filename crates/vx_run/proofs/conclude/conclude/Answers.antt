use Rattle.std.proofs.Common.{rules, refl}
use Rattle.vx_run.specs.declared.stop.Stop.TheVariants.{NotUnderstood, ReadFault, WriteFault}
use Rattle.vx_run.proofs.Concluding.{concludes-own, concludes-made}
use Rattle.vx_run.proofs.conclude.conclude.Goals as goal

pub returns-in-NotUnderstood : goal.returns-in-NotUnderstood
returns-in-NotUnderstood g c = concludes-own NotUnderstood c.in-NotUnderstood.is refl c.tell.ensures

pub returns-in-ReadFault : goal.returns-in-ReadFault
returns-in-ReadFault g c =
    concludes-made (ReadFault c.in-ReadFault.source) c.read_fault_line.result (λ v. v.items) c.in-ReadFault.is (search rules) c.read_fault_line.ensures c.end-in-ReadFault.ensures.made c.end-in-ReadFault.ensures.memory

pub returns-in-WriteFault : goal.returns-in-WriteFault
returns-in-WriteFault g c = concludes-own WriteFault c.in-WriteFault.is refl c.tell-in-WriteFault.ensures
