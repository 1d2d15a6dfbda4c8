-- What is made is the rewritten set, and it never comes that there is none.
use Rattle.std.proofs.Common.{◌∙◌}
use Rattle.vx_sps.proofs.Exists.{reshapes, reshaped_set, is_made}
use Rattle.vx_sps.proofs.reshape.reshape_sps.Goals as goal

pub new-requires-clause-items : goal.new-requires-clause-items
new-requires-clause-items c =
    let is = reshapes c.rewrite.new.into c.rewrite.result c.fields.ensures.items c.fields.ensures.set c.requires c.in_ok-stated.ensures.level (c.as_slice.ensures ∙ c.in_ok-names.ensures) c.in_ok-taken.ensures c.in_ok-stated.ensures.items
    c.rewrite.ensures in
    reshaped_set c.args.sps.now c.rewrite.new.into c.args.shape.now (rw c.in-Ok.is at is)

pub returns-in-Ok : goal.returns-in-Ok
returns-in-Ok c =
    let is = reshapes c.rewrite.new.into c.rewrite.result c.fields.ensures.items c.fields.ensures.set c.requires c.in_ok-stated.ensures.level (c.as_slice.ensures ∙ c.in_ok-names.ensures) c.in_ok-taken.ensures c.in_ok-stated.ensures.items
    c.rewrite.ensures in
    is_made c.args.sps.now c.rewrite.new.into c.args.shape.now c.new.result (rw c.in-Ok.is at is) c.new.ensures

pub only_memory-requires : goal.only_memory-requires
only_memory-requires c = λ none.
    let is = reshapes c.rewrite.new.into c.rewrite.result c.fields.ensures.items c.fields.ensures.set c.requires c.in_ok-stated.ensures.level (c.as_slice.ensures ∙ c.in_ok-names.ensures) c.in_ok-taken.ensures c.in_ok-stated.ensures.items
    c.rewrite.ensures in
    rw (c.in-Err.is, none) at is
