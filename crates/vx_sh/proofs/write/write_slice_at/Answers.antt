use Rattle.std.proofs.Common.{subst, sym, ◌∙◌}
use Rattle.vx_sh.specs.Whole.{at_of}
use Rattle.vx_sh.proofs.Sized.{all_follow}
use Rattle.vx_sh.proofs.Stopped.{slice_ends, whole_bytes}
use Rattle.vx_table.proofs.Stopped.{last_byte}
use Rattle.vx_table.specs.laws.Trailing.{EndsWithStop}
use Rattle.vx_sh.proofs.write.write_slice_at.Goals as goal

pub into_bytes-requires : goal.into_bytes-requires
into_bytes-requires c =
    let written = rw c.in-Ok.is at c.write_fields.ensures in
    let f = written.0.slice in
    rw (written.1) (whole_bytes _ (slice_ends (at_of c.args.n.now c.args.scope.now) _ f.end (all_follow (at_of c.args.n.now c.args.scope.now) _ _ f)))

pub only_memory-requires : goal.only_memory-requires
only_memory-requires c = λ none. rw (c.in-Err.is, none) at c.write_fields.ensures

pub returns-in-Ok : goal.returns-in-Ok
returns-in-Ok c =
    let written = rw c.in-Ok.is at c.write_fields.ensures in
    let f = written.0.slice in
    let bits = c.into_bytes.ensures ∙ written.1 in
    record { is = written.0; bits = bits; last = last_byte c.into_bytes.result.items (subst (EndsWithStop 0) (sym bits) (slice_ends (at_of c.args.n.now c.args.scope.now) _ f.end (all_follow (at_of c.args.n.now c.args.scope.now) _ _ f))) }
