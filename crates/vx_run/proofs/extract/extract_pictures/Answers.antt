use Rattle.std.proofs.Common.{◌≡◌, ◌∙◌, ℕ, Ok, Err, refl, arith}
use Rattle.std.specs.Prelude.{IfErr}
use Rattle.std.proofs.lemmas.Result.{err_from_is_err_and}
use Rattle.vx_pic.proofs.Existing.{there_are_readers}
use Rattle.vx_bits.specs.declared.refusal.Refusal.TheVariants.{Extract}
use Rattle.vx_bits.specs.declared.rules.TheConstants.{NO_PICTURE}
use Rattle.vx_run.specs.declared.stop.Place.TheVariants as places
use Rattle.vx_run.specs.declared.stop.Stop.TheVariants.{Refused}
use Rattle.vx_run.specs.Conclusion.{Outcome, IsOfCommand}
use Rattle.vx_run.specs.inner.Extracting.{task_held}
use Rattle.vx_run.proofs.extract.extract_pictures.Goals as goal

-- want of a picture is of a command
none_of_command : (outcome : Outcome) (n : ℕ) → IfErr outcome (λ stop. (n ≡ 0) × (stop ≡ Refused (Extract NO_PICTURE) (places.Picture 0))) → IfErr outcome IsOfCommand
none_of_command (Ok _) n none = tt
none_of_command (Err stop) n none = rw none.1 tt

pub loop-feed-init : goal.loop-feed-init
loop-feed-init g c = (record { target = refl; level = refl; tid = refl }, c.requires.none)

pub returns-in_err-extract_next-clause-extracts : goal.returns-in_err-extract_next-clause-extracts
returns-in_err-extract_next-clause-extracts g c R of =
    let p = err_from_is_err_and c.from_residual.result c.from_residual.ensures.1 in
    rw (p.1, p.2) (c.in_err-extract_next.ensures.answer R of (task_held c.args.extractor.now) c.loop-feed.invariant.0 (c.requires.again R of) c.args.source.now c.args.out.now (c.loop-feed.invariant.1 R of))

pub loop-feed-preserved : goal.loop-feed-preserved
loop-feed-preserved g c =
    let was = c.loop-feed.invariant.0 in
    let same = c.extract_next.ensures.task in (
      record { target = same.target ∙ was.target; level = same.level ∙ was.level; tid = same.tid ∙ was.tid },
      λ R of.
          let next = rw c.if-branch.true at c.in_ok-extract_next.ensures.answer R of (task_held c.args.extractor.now) was (c.requires.again R of) c.args.source.now c.args.out.now (c.loop-feed.invariant.1 R of) in
          rw (c.one_more-pictures.ensures (rw c.unit.ensures next.1)) next.0,
    )

pub loop-feed-smaller : goal.loop-feed-smaller
loop-feed-smaller g c =
    let R = there_are_readers.0 in
    let of = there_are_readers.1 in
    let next = rw c.if-branch.true at c.in_ok-extract_next.ensures.answer R of (task_held c.args.extractor.now) c.loop-feed.invariant.0 (c.requires.again R of) c.args.source.now c.args.out.now (c.loop-feed.invariant.1 R of) in
    omega (arith, next.2, c.in_ok-extract_next.ensures.few)

pub returns-clause-extracts : goal.returns-clause-extracts
returns-clause-extracts g c R of =
    let end = rw c.if-branch.false at c.in_ok-extract_next.ensures.answer R of (task_held c.args.extractor.now) c.loop-feed.invariant.0 (c.requires.again R of) c.args.source.now c.args.out.now (c.loop-feed.invariant.1 R of) in
    end c.some_picture.result c.some_picture.ensures.some c.some_picture.ensures.none

pub returns-in_err-extract_next-clause-stop : goal.returns-in_err-extract_next-clause-stop
returns-in_err-extract_next-clause-stop g c =
    let p = err_from_is_err_and c.from_residual.result c.from_residual.ensures.1 in
    rw (p.1, p.2) c.in_err-extract_next.ensures.stop

pub returns-clause-stop : goal.returns-clause-stop
returns-clause-stop g c = none_of_command c.some_picture.result c.loop-feed.pictures c.some_picture.ensures.none
