-- One more corner.
use Rattle.std.proofs.Common.{◌++◌, ◌∷◌, [], ◌*◌, ◌∙◌, ℕ, List, ap, sym, arith}
use Rattle.std.proofs.lemmas.List.FromFn.{map-range_with_len_more}
use Rattle.vx_frame.specs.declared.corner.Corner.{Corner}
use Rattle.vx_trial.proofs.tally.side_by_side.Goals as goal

pub loop-k-preserved : goal.loop-k-preserved
loop-k-preserved c =
    let at : ℕ → Corner = λ k. record { x = 128 * k; y = 0 } in
    let k : ℕ = c.loop-k.k in
    c.in_ok-push.ensures.items ∙ ap (λ (l : List Corner). l ++ at k ∷ []) c.loop-k.invariant ∙ sym (map-range_with_len_more at 0 k k (omega arith))
