use Rattle.std.proofs.Common.{◌≡◌, subst}
use Rattle.vx_assemble.specs.Fields as fields
use Rattle.vx_assemble.proofs.state.State.slice_unit_fields.Goals as goal

pub returns : goal.returns
returns c R h before held =
    subst (λ u. c.in_ok-read.read ≡ fields.slice_fields R h before u) c.new-slice.ensures (c.in_ok-read.ensures R h before held)
