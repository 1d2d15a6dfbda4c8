use Rattle.std.proofs.Common.{◌≡◌, arith, inl, inr, subst}
use Rattle.std.proofs.lemmas.Bool.{cases_lt}
use Rattle.vx_layout.specs.inner.Marks.{RisesAt}
use Rattle.vx_layout.proofs.grid.Grid.is_rising.Goals as goal

pub loop-y-preserved : goal.loop-y-preserved
loop-y-preserved c = λ x y v u.
    elim (cases_lt y c.loop-y.y) [
      | inl above ↦ c.loop-y.invariant x y v above
      | inr here ↦
          let e : c.loop-y.y ≡ y = omega arith in
          subst (λ n. RisesAt c.args.self.now x n) e (c.if-not-row_rises.ensures.rises x v)
    ]
