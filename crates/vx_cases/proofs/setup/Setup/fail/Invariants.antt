use Rattle.std.proofs.Common.{◌≡◌}
use Rattle.vx_cases.specs.Said.{SaysOf}
use Rattle.vx_cases.proofs.setup.Setup.fail.Given as goal

-- so far this alone was said, and nothing else changed
abbrev pub invariant-loop-number : goal.invariant-loop-number
invariant-loop-number l = SaysOf l.fn.end l.fn.self.failing.items l.self.failing.items × (l.self ≡ record l.fn.self { failing = l.self.failing })
