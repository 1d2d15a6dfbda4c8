-- One more round.
use Rattle.std.proofs.Common.{◌≡◌, ◌+◌, ◌-◌, ◌∙◌, ℕ, suc, refl, subst, arith}
use Rattle.vx_trial.specs.inner.Merges.{HasMerged}
use Rattle.vx_trial.proofs.merge.write_rounds.Goals as goal

pub loop-init : goal.loop-init
loop-init c =
    let all : c.args.pictures ≡ c.args.pictures - 0 = omega arith in (
      record { corners = refl; level = refl },
      λ R of sources merged. subst (λ (m : ℕ). HasMerged R m sources c.args.feeds.now.items c.args.merger.now c.args.merged.now.taken) all merged,
    )

pub write_next-requires : goal.write_next-requires
write_next-requires c R of =
    let has = c.requires R of in
    let next : c.args.pictures - c.loop.counter ≡ suc (c.args.pictures - (c.loop.counter + 1)) = omega (arith, c.loop-test.true) in
    record {
      left = c.args.pictures - (c.loop.counter + 1);
      sources = has.0;
      merged = subst (λ (m : ℕ). HasMerged R m has.0 c.loop.feeds.items c.loop.merger c.loop.merged.taken) next (c.loop.invariant.1 R of has.0 has.1);
    }

pub loop-preserved : goal.loop-preserved
loop-preserved c =
    let was = c.loop.invariant.0 in
    let task = c.write_next.ensures.task in
    let next : c.args.pictures - c.loop.counter ≡ suc (c.args.pictures - (c.loop.counter + 1)) = omega (arith, c.loop-test.true) in (
      record { corners = task.corners ∙ was.corners; level = task.level ∙ was.level },
      λ R of sources merged. c.in_ok-write_next.ensures.merged R of (c.args.pictures - (c.loop.counter + 1)) sources
          (subst (λ (m : ℕ). HasMerged R m sources c.loop.feeds.items c.loop.merger c.loop.merged.taken) next (c.loop.invariant.1 R of sources merged)),
    )
