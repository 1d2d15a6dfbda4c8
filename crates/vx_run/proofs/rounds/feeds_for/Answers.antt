use Rattle.std.proofs.Common.{arith}
use Rattle.vx_run.specs.inner.Advancing.{IsUnfed}
use Rattle.vx_run.proofs.Indexed.{all_none, all_push}
use Rattle.vx_run.proofs.rounds.feeds_for.Goals as goal

pub loop-init : goal.loop-init
loop-init c = (c.new-feeds.ensures.len, all_none (λ k f. IsUnfed f) c.new-feeds.result.items c.new-feeds.ensures.items)

pub loop-preserved : goal.loop-preserved
loop-preserved c = (
  omega (arith, c.in_ok-push.ensures.len, c.loop.invariant.0),
  all_push IsUnfed c.loop.feeds.items c.push.new.self.items c.in_ok-feed.feed c.in_ok-push.ensures.items c.loop.invariant.1
      (record { fed = c.in_ok-feed.ensures.fed; needed = c.in_ok-feed.ensures.needed; open_ = c.in_ok-feed.ensures.open }),
)

pub returns-clause-unfed : goal.returns-clause-unfed
returns-clause-unfed c = c.loop.invariant.1
