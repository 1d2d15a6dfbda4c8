use Rattle.std.proofs.Common.{◌≡◌, [], arith}
use Rattle.vx_pic.specs.Rules.{Readers}
use Rattle.vx_push.specs.declared.intake.State.TheVariants.{Waits}
use Rattle.vx_push.specs.Comes.{Intaking, HasCome, nothing}
use Rattle.vx_run.proofs.Indexed.{all_none, all_push}
use Rattle.vx_push.proofs.mixer.intakes_for.Goals as goal

-- nothing was handed in to it
abbrev IsNew : Intaking → Type 0
IsNew i = (i.state ≡ Waits) × ((R : Readers) → HasCome R i nothing [])

pub loop-init : goal.loop-init
loop-init c = (c.new-intakes.ensures.len, all_none (λ k i. IsNew i) c.new-intakes.result.items c.new-intakes.ensures.items)

pub loop-preserved : goal.loop-preserved
loop-preserved c = (
  omega (arith, c.in_ok-push.ensures.len, c.loop.invariant.0),
  all_push IsNew c.loop.intakes.items c.push.new.self.items c.in_ok-intake.intake c.in_ok-push.ensures.items c.loop.invariant.1
      (c.in_ok-intake.ensures.waits, c.in_ok-intake.ensures.comes),
)

pub returns-clause-new : goal.returns-clause-new
returns-clause-new c = c.loop.invariant.1
