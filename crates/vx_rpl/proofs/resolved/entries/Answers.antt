use Rattle.std.proofs.Common.{◌∷◌, length, ◌∙◌, sym}
use Rattle.vx_rpl.specs.Resolved.{entries_from}
use Rattle.vx_rpl.proofs.Entries.{entries_stop, entries_none}
use Rattle.vx_rpl.proofs.Whole.{whole_end, whole_full}
use Rattle.vx_rpl.proofs.resolved.entries.Goals as goal

pub returns-then-not-is_of_structure : goal.returns-then-not-is_of_structure
returns-then-not-is_of_structure c =
    whole_end 29 c.loop-item.list (entries_from c.args.weighted (length c.loop-item.list) (c.in-Some.item.now ∷ c.in-Some.rest.now)) _ c.loop-item.invariant.0
    (entries_stop c.args.weighted (length c.loop-item.list) c.in-Some.item.now c.in-Some.rest.now (sym c.is_of_structure.ensures ∙ c.if-not-is_of_structure.true))
    (rw c.in-Some.ensures.cases.0 at c.loop-item.invariant.1)

pub returns-then-len-eq29 : goal.returns-then-len-eq29
returns-then-len-eq29 c =
    whole_full 29 c.loop-item.list (entries_from c.args.weighted (length c.loop-item.list) c.loop-item.left.now) _
    (sym c.len.ensures.value ∙ c.if-len-eq29.true) c.loop-item.invariant.1

pub returns : goal.returns
returns c =
    whole_end 29 c.loop-item.list (entries_from c.args.weighted (length c.loop-item.list) c.loop-item.left.now) _ c.loop-item.invariant.0
    (entries_none c.args.weighted (length c.loop-item.list) c.loop-item.left.now (rw c.in_default.is at c.split_first.ensures.cases)) c.loop-item.invariant.1
