use Rattle.std.proofs.Common.{◌≡◌, subst}
use Rattle.std.proofs.lemmas.Result.{err_from_is_err_and}
use Rattle.vx_assemble.specs.Fields as fields
use Rattle.vx_assemble.specs.inner.Classes.{class_seen}
use Rattle.vx_assemble.proofs.state.State.whole_unit_fields.Goals as goal

pub returns-in_err-bytes : goal.returns-in_err-bytes
returns-in_err-bytes c = rw (err_from_is_err_and c.from_residual.result c.from_residual.ensures.1).1 tt

pub returns-in_err-given : goal.returns-in_err-given
returns-in_err-given c = rw (err_from_is_err_and c.from_residual-in_err-given.result c.from_residual-in_err-given.ensures.1).1 tt

pub returns : goal.returns
returns c R h before held = subst (λ u. c.in_ok-given.given ≡ fields.fields_as R h (class_seen c.args.class) before u) c.new-whole.ensures (c.in_ok-given.ensures R h before held)
