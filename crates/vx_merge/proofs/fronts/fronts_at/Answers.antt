use Rattle.std.proofs.Common.{ℕ, List, map, take, sym, subst, arith}
use Rattle.vx_pic.specs.Parts.{SlicePart}
use Rattle.vx_sh.specs.declared.numbers.SliceNumbers.{SliceNumbers}
use Rattle.vx_merge.specs.Headers.{sourced}
use Rattle.vx_merge.specs.inner.Fronts.{AreFronts, IsBegun}
use Rattle.vx_merge.proofs.SliceFronts.{few_ids, one_each, sourced_all, sourced_more}
use Rattle.vx_merge.proofs.fronts.fronts_at.Goals as goal

pub new-sender-requires-clause-few : goal.new-sender-requires-clause-few
new-sender-requires-clause-few c = few_ids c.args.round.now c.args.needed.now c.args.numbers.now c.requires.numbers

pub new-sender-requires-clause-one_each : goal.new-sender-requires-clause-one_each
new-sender-requires-clause-one_each c = one_each c.args.round.now c.args.needed.now c.args.numbers.now c.requires.numbers

pub loop-k-preserved : goal.loop-k-preserved
loop-k-preserved c = λ b begun.
    let round = c.args.round.now in
    let k : ℕ = c.loop-k.k in
    let sent = subst (λ (m : SliceNumbers). IsBegun round c.args.needed.now m.header.now m.layout.now b) (sym c.new-sender.ensures) begun in
    subst (λ (xs : List (ℕ × SlicePart)). AreFronts round c.args.needed.now b xs (map (λ f. f.items) c.push_fronts.new.fronts.items))
    (sym (sourced_more round k c.loop-k-test.true))
    (c.in_ok-push_fronts.ensures b (sourced 0 (take k round)) sent (c.loop-k.invariant b begun))

pub returns : goal.returns
returns c = λ b begun.
    let round = c.args.round.now in
    subst (λ (xs : List (ℕ × SlicePart)). AreFronts round c.args.needed.now b xs (map (λ f. f.items) c.loop-k.fronts.items))
    (sourced_all round c.loop-k.k (omega arith))
    (c.loop-k.invariant b begun)
