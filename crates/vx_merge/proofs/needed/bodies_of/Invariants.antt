use Rattle.std.proofs.Common.{ℕ, ◌<◌, ◌/◌, ◌%◌}
use Rattle.std.specs.Prelude.{IfSome}
use Rattle.vx_pic.specs.Inputs.{body_of}
use Rattle.vx_merge.specs.inner.Sending.{CanEnd}
use Rattle.vx_merge.proofs.needed.bodies_of.Given as goal

abbrev pub invariant-loop-place : goal.invariant-loop-place
invariant-loop-place l = (i : ℕ) → i < l.place → IfSome (body_of l.picture (i / 8) (i % 8)) CanEnd
