use Rattle.std.proofs.Common.{sym, subst}
use Rattle.std.specs.Prelude.{IfErr}
use Rattle.vx_layout.specs.Faults.{IfFault, IsLayout, IsLowestFault}
use Rattle.vx_layout.proofs.Lowest.{layout-faultless}
use Rattle.vx_frame.proofs.frame.layout_of.Goals as goal

pub unreachable-requires : goal.unreachable-requires
unreachable-requires c =
    let numbers = c.in_ok-numbers.numbers in
    layout-faultless numbers _ (subst IsLayout (sym c.in_ok-numbers.ensures) c.requires.layout) (subst (λ e. IfFault e (IsLowestFault numbers)) c.in-Err-Fault.field-0-is
    (subst (λ r. IfErr r (λ e. IfFault e (IsLowestFault numbers))) c.in-Err-Fault.is c.new.ensures.fault))
