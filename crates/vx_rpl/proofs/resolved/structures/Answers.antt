use Rattle.std.proofs.Common.{◌∷◌, ◌∙◌, sym}
use Rattle.vx_rpl.specs.Resolved.{structures_from}
use Rattle.vx_rpl.proofs.Structures.{structures_stop, structures_none}
use Rattle.vx_rpl.proofs.Whole.{whole_end, whole_full}
use Rattle.vx_rpl.proofs.resolved.structures.Goals as goal

pub returns-then-item-eq-sps_num_ref_pic_lists : goal.returns-then-item-eq-sps_num_ref_pic_lists
returns-then-item-eq-sps_num_ref_pic_lists c =
    whole_end 64 c.loop-item.list (structures_from c.args.weighted (c.in-Some.item.now ∷ c.in-Some.rest.now)) _ c.loop-item.invariant.0
    (structures_stop c.args.weighted c.in-Some.item.now c.in-Some.rest.now c.if-item-eq-sps_num_ref_pic_lists.true)
    (rw c.in-Some.ensures.cases.0 at c.loop-item.invariant.1)

pub returns-then-len-eq64 : goal.returns-then-len-eq64
returns-then-len-eq64 c =
    whole_full 64 c.loop-item.list (structures_from c.args.weighted c.loop-item.left.now) _
    (sym c.len.ensures.value ∙ c.if-len-eq64.true) c.loop-item.invariant.1

pub returns : goal.returns
returns c =
    whole_end 64 c.loop-item.list (structures_from c.args.weighted c.loop-item.left.now) _ c.loop-item.invariant.0
    (structures_none c.args.weighted c.loop-item.left.now (rw c.in_default.is at c.split_first.ensures.cases)) c.loop-item.invariant.1
