use Rattle.std.proofs.Common.{◌≡◌, ◌<◌, ◌==◌, ◌-◌, ◌+◌, true, false, ℕ, Option, Bool, length, filter, slice_get, ap, ◌∙◌, arith}
use Rattle.std.specs.Prelude.{slice_index}
use Rattle.std.specs.List.{range_with_len}
use Rattle.std.proofs.lemmas.Bool.{eq-eqb, ne_eqb}
use Rattle.vx_play.proofs.Searching.{passed, skipped}
use Rattle.vx_play.proofs.schedule.file_behind.Goals as goal
use Rattle.vx_play.proofs.schedule.file_behind.Goals.{then-regions-file+else-left-eq0, else-regions-file}

pub loop-file-preserved : goal.loop-file-preserved
loop-file-preserved c =
    let regions = c.args.regions.now in
    let n : ℕ = length regions in
    let file = c.loop-file.file in
    let test : ℕ → Bool = λ j. slice_index regions j == c.args.region in
    let rest : ℕ → Option ℕ = λ m. slice_get (filter test (range_with_len (file + 1) (n - (file + 1)))) m in
    elim c.if-regions-file.branch [
      | then-regions-file+else-left-eq0 w ↦
          let some : 0 < c.loop-file.left = omega (arith, w.if-left-eq0.false) in
          let is : test file ≡ true = eq-eqb (slice_index regions file) c.args.region w.if-regions-file.true in
          ap rest w.left-is ∙ (passed test n file c.loop-file.left c.loop-file-test.true is some ∙ c.loop-file.invariant)
      | else-regions-file w ↦
          let is : test file ≡ false = ne_eqb (slice_index regions file) c.args.region w.if-regions-file.false in
          ap rest w.left-is ∙ (skipped test n file c.loop-file.left c.loop-file-test.true is ∙ c.loop-file.invariant)
    ]
