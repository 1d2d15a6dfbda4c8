use Rattle.std.proofs.Common.{◌≡◌, vec_len}
use Rattle.vx_run.specs.inner.Advancing.{OfAll, IsUnfed}
use Rattle.vx_run.proofs.rounds.feeds_for.Given as goal

-- each so far was given nothing
abbrev pub invariant-loop : goal.invariant-loop
invariant-loop l = (vec_len l.feeds ≡ l.counter) × OfAll (λ k f. IsUnfed f) l.feeds.items
