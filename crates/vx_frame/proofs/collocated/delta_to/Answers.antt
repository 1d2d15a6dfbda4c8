use Rattle.std.proofs.Common.{rules, ◌≡◌, ℕ, ℤ, pos, neg_ℤ, ◌+◌, ◌*◌, ◌+ℤ◌, ◌≤ℤ◌, ◌∙◌, ap, sym, subst, take, w64, to_z, of_z, arith}
use Rattle.vx_frame.specs.Collocated.{delta_to}
use Rattle.vx_frame.proofs.Deltas.{delta_more, high_sum, low_sum}
use Rattle.vx_frame.proofs.collocated.delta_to.Goals as goal

pub loop-i-preserved : goal.loop-i-preserved
loop-i-preserved c =
    let list = c.args.list.now in
    let i : ℕ = c.loop-i.i in
    let s : ℤ = to_z w64 c.loop-i.sum-bits in
    let d : ℤ = c.delta_of-sum.result in
    let whole : to_z w64 (of_z w64 (to_z w64 c.loop-i.sum-bits +ℤ to_z w64 (of_z w64 c.delta_of-sum.result))) ≡ to_z w64 c.loop-i.sum-bits +ℤ c.delta_of-sum.result = search rules in
    let times : i * 4294967295 + 4294967295 ≡ (i + 1) * 4294967295 = omega arith in
    record {
      value = whole ∙ (ap (λ z. z +ℤ d) c.loop-i.invariant.value
          ∙ (ap (λ e. delta_to (take i list) +ℤ e) c.delta_of-sum.ensures.value ∙ sym (delta_more list i c.item.result c.item.ensures)));
      low = subst (λ z. neg_ℤ (pos ((i + 1) * 4294967295)) ≤ℤ z) (sym whole)
          (subst (λ n. neg_ℤ (pos n) ≤ℤ (s +ℤ d)) times (low_sum (i * 4294967295) 4294967295 s d c.loop-i.invariant.low c.delta_of-sum.ensures.low));
      high = subst (λ z. z ≤ℤ pos ((i + 1) * 4294967295)) (sym whole)
          (subst (λ n. (s +ℤ d) ≤ℤ pos n) times (high_sum (i * 4294967295) 4294967295 s d c.loop-i.invariant.high c.delta_of-sum.ensures.high));
    }
