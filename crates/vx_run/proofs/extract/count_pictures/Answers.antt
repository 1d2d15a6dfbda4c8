use Rattle.std.proofs.Common.{◌≡◌, refl, None, arith}
use Rattle.std.proofs.lemmas.Result.{err_from_is_err_and}
use Rattle.vx_pic.proofs.Existing.{there_are_readers}
use Rattle.vx_run.proofs.extract.count_pictures.Goals as goal

pub loop-stays-init : goal.loop-stays-init
loop-stays-init g c = (c.requires.task, c.requires.going, c.requires.none)

pub returns-in_err-stays-clause-counts : goal.returns-in_err-stays-clause-counts
returns-in_err-stays-clause-counts g c R of =
    let p = err_from_is_err_and c.from_residual.result c.from_residual.ensures.1 in
    rw (p.1, p.2) (c.in_err-stays.ensures.answer c.loop-stays.invariant.1 R of c.args.task c.loop-stays.invariant.0 refl c.args.source.now c.loop-stays.kept (c.loop-stays.invariant.2 R of))

pub loop-stays-smaller : goal.loop-stays-smaller
loop-stays-smaller g c =
    let R = there_are_readers.0 in
    let of = there_are_readers.1 in
    let next = rw c.in-Some.is at c.in_ok-stays.ensures.answer c.loop-stays.invariant.1 R of c.args.task c.loop-stays.invariant.0 refl c.args.source.now c.loop-stays.kept (c.loop-stays.invariant.2 R of) in
    omega (arith, next.3, c.in_ok-stays.ensures.few)

pub loop-stays-preserved : goal.loop-stays-preserved
loop-stays-preserved g c =
    let stays = c.in_ok-stays.ensures.stays in (
      rw stays c.loop-stays.invariant.0,
      rw stays c.loop-stays.invariant.1,
      λ R of.
          let next = rw c.in-Some.is at c.in_ok-stays.ensures.answer c.loop-stays.invariant.1 R of c.args.task c.loop-stays.invariant.0 refl c.args.source.now c.loop-stays.kept (c.loop-stays.invariant.2 R of) in
          let one = c.one_more-pictures.ensures (rw c.unit.ensures next.1) in
          let kept = c.with_one-kept.ensures (omega (arith, one, next.2)) in
          rw (one, kept) next.0,
    )

pub returns-in_err-some_picture-clause-counts : goal.returns-in_err-some_picture-clause-counts
returns-in_err-some_picture-clause-counts g c R of =
    let p = err_from_is_err_and c.from_residual-in_err-some_picture.result c.from_residual-in_err-some_picture.ensures.1 in
    let at_end : c.in_ok-stays.field-0 ≡ None = c.in_default.is in
    let end = rw at_end at c.in_ok-stays.ensures.answer c.loop-stays.invariant.1 R of c.args.task c.loop-stays.invariant.0 refl c.args.source.now c.loop-stays.kept (c.loop-stays.invariant.2 R of) in
    let none = c.in_err-some_picture.ensures.none in
    rw (p.1, p.2, none.1) (end.1 none.0)

pub returns-clause-counts : goal.returns-clause-counts
returns-clause-counts g c R of =
    let at_end : c.in_ok-stays.field-0 ≡ None = c.in_default.is in
    let end = rw at_end at c.in_ok-stays.ensures.answer c.loop-stays.invariant.1 R of c.args.task c.loop-stays.invariant.0 refl c.args.source.now c.loop-stays.kept (c.loop-stays.invariant.2 R of) in
    end.0 c.in_ok-some_picture.ensures.some

pub returns-in_err-stays-clause-stop : goal.returns-in_err-stays-clause-stop
returns-in_err-stays-clause-stop g c =
    let p = err_from_is_err_and c.from_residual.result c.from_residual.ensures.1 in
    rw (p.1, p.2) c.in_err-stays.ensures.stop

pub returns-in_err-some_picture-clause-stop : goal.returns-in_err-some_picture-clause-stop
returns-in_err-some_picture-clause-stop g c =
    let p = err_from_is_err_and c.from_residual-in_err-some_picture.result c.from_residual-in_err-some_picture.ensures.1 in
    let none = c.in_err-some_picture.ensures.none in
    rw (p.1, p.2, none.1) tt
