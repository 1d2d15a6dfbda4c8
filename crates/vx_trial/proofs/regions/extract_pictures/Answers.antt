-- One more picture.
use Rattle.std.proofs.Common.{◌≡◌, ◌+◌, ◌-◌, ◌∙◌, ℕ, suc, [], refl, ap, subst, arith}
use Rattle.vx_io.specs.Memory.{Growth}
use Rattle.vx_trial.specs.inner.Regions.{HasExtracted}
use Rattle.vx_trial.proofs.regions.extract_pictures.Goals as goal

pub loop-init : goal.loop-init
loop-init c =
    let none : c.new-region.result.taken ≡ [] = ap (λ (g : Growth). g.taken) c.new-region.ensures in
    let all : c.args.pictures ≡ c.args.pictures - 0 = omega arith in (
      record { target = refl; level = refl; tid = refl },
      λ R of ps extracted. rw none (subst (λ (m : ℕ). HasExtracted R m ps c.args.feed.now c.args.extractor.now []) all extracted),
    )

pub extract_next-requires : goal.extract_next-requires
extract_next-requires c R of =
    let has = c.requires R of in
    let next : c.args.pictures - c.loop.counter ≡ suc (c.args.pictures - (c.loop.counter + 1)) = omega (arith, c.loop-test.true) in
    record {
      left = c.args.pictures - (c.loop.counter + 1);
      pictures = has.0;
      extracted = subst (λ (m : ℕ). HasExtracted R m has.0 c.loop.feed c.loop.extractor c.loop.region.taken) next (c.loop.invariant.1 R of has.0 has.1);
    }

pub loop-preserved : goal.loop-preserved
loop-preserved c =
    let was = c.loop.invariant.0 in
    let task = c.extract_next.ensures.task in
    let next : c.args.pictures - c.loop.counter ≡ suc (c.args.pictures - (c.loop.counter + 1)) = omega (arith, c.loop-test.true) in (
      record { target = task.target ∙ was.target; level = task.level ∙ was.level; tid = task.tid ∙ was.tid },
      λ R of ps extracted. c.in_ok-extract_next.ensures.extracted R of (c.args.pictures - (c.loop.counter + 1)) ps
          (subst (λ (m : ℕ). HasExtracted R m ps c.loop.feed c.loop.extractor c.loop.region.taken) next (c.loop.invariant.1 R of ps extracted)),
    )

pub returns-clause-extracted : goal.returns-clause-extracted
returns-clause-extracted c R of ps extracted =
    let none : c.args.pictures - c.loop.counter ≡ 0 = omega (arith, c.loop-test.false) in
    subst (λ (m : ℕ). HasExtracted R m ps c.loop.feed c.loop.extractor c.loop.region.taken) none (c.loop.invariant.1 R of ps extracted)
