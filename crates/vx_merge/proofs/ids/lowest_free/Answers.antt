use Rattle.std.proofs.Common.{◌≡◌, ◌<◌, true, below_more, sym, ◌∙◌, arith}
use Rattle.vx_merge.specs.inner.Taking.{is_taken}
use Rattle.vx_merge.proofs.Assigning.{free_above, lowest_is}
use Rattle.vx_merge.proofs.ids.lowest_free.Goals as goal

pub overflow_add-id : goal.overflow_add-id
overflow_add-id c =
    let less : c.loop-id.id < c.args.search.count = free_above c.args.search.count c.args.held.now c.args.ids.now c.loop-id.id c.requires.few c.requires.room c.loop-id.invariant in
    omega arith

pub loop-id-preserved : goal.loop-id-preserved
loop-id-preserved c = below_more (λ i. is_taken c.args.held.now c.args.ids.now i ≡ true) c.loop-id.id c.loop-id.invariant (sym c.is_taken.ensures ∙ c.loop-id-test.true)

pub loop-id-smaller : goal.loop-id-smaller
loop-id-smaller c =
    let less : c.loop-id.id < c.args.search.count = free_above c.args.search.count c.args.held.now c.args.ids.now c.loop-id.id c.requires.few c.requires.room c.loop-id.invariant in
    omega arith

pub returns : goal.returns
returns c sent =
    lowest_is sent c.args.search.kind c.args.search.count c.args.held.now c.args.ids.now c.loop-id.id c.requires.few c.requires.room c.loop-id.invariant
    (sym c.is_taken.ensures ∙ c.loop-id-test.false)
