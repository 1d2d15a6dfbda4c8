use Rattle.std.proofs.Common.{◌∙◌, ap, Ok}
use Rattle.std.proofs.lemmas.Result.{err_from_is_err_and}
use Rattle.vx_run.specs.inner.Extracting.{IsTask}
use Rattle.vx_run.proofs.Extracting.{extract_stopped, extract_end, extract_cut, extract_more, more_units, pictures_below}
use Rattle.vx_run.proofs.extract.extract_next.Goals as goal

pub returns-in_err-advance-clause-answer : goal.returns-in_err-advance-clause-answer
returns-in_err-advance-clause-answer g c R of t task again first start e =
    let p = err_from_is_err_and c.from_residual.result c.from_residual.ensures.1 in
    rw (p.1, p.2) (extract_stopped _ _ _ _ R (c.pictures_have_slices.ensures R of) t first c.args.source.now c.advance.new.source start c.args.out.now c.args.feed.now c.advance.new.feed c.args.extractor.now c.args.pictures e (c.advance.ensures.end e.taken.ended) _ (c.in_err-advance.ensures.answer R of))

pub returns-then-not-branch-clause-answer : goal.returns-then-not-branch-clause-answer
returns-then-not-branch-clause-answer g c R of t task again first start e =
    extract_end _ _ _ _ R (c.pictures_have_slices.ensures R of) t first c.args.source.now c.advance.new.source start c.args.out.now c.args.feed.now c.advance.new.feed c.args.extractor.now c.args.pictures e (c.advance.ensures.end e.taken.ended)
    (rw c.if-not-branch.true at c.in_ok-advance.ensures.answer R of)

pub returns-in_err-extract_picture-clause-answer : goal.returns-in_err-extract_picture-clause-answer
returns-in_err-extract_picture-clause-answer g c R of t task again first start e =
    let p = err_from_is_err_and c.from_residual-in_err-extract_picture.result c.from_residual-in_err-extract_picture.ensures.1 in
    let same = c.extract_picture.ensures.task in
    let still : IsTask t c.extract_picture.new.extractor = record { target = same.target ∙ task.target; level = same.level ∙ task.level; tid = same.tid ∙ task.tid } in
    rw (p.1, p.2) (extract_cut _ _ _ _ R (c.pictures_have_slices.ensures R of) t first c.args.source.now c.advance.new.source start c.args.out.now c.args.feed.now c.advance.new.feed c.args.extractor.now c.args.pictures e (c.advance.ensures.end e.taken.ended)
    (c.in_ok-advance.ensures.lent (ap Ok c.if-not-branch.false)).holds (rw c.if-not-branch.false at c.in_ok-advance.ensures.answer R of) c.extract_picture.new.extractor c.extract_picture.new.out still _ (c.in_err-extract_picture.ensures.answer R))

pub returns-clause-answer : goal.returns-clause-answer
returns-clause-answer g c R of t task again first start e =
    let have = c.pictures_have_slices.ensures R of in
    let same = c.extract_picture.ensures.task in
    let still : IsTask t c.extract_picture.new.extractor = record { target = same.target ∙ task.target; level = same.level ∙ task.level; tid = same.tid ∙ task.tid } in
    let ended = c.advance.ensures.end e.taken.ended in
    let has = (c.in_ok-advance.ensures.lent (ap Ok c.if-not-branch.false)).holds in
    let came = rw c.if-not-branch.false at c.in_ok-advance.ensures.answer R of in (
      extract_more _ _ _ _ R have t first c.args.source.now c.advance.new.source start c.args.out.now c.args.feed.now c.advance.new.feed c.args.extractor.now c.args.pictures e ended has came c.extract_picture.new.extractor c.extract_picture.new.out still again (c.in_ok-extract_picture.ensures.answer R),
      pictures_below _ _ _ _ R have t first c.args.source.now c.advance.new.source start c.args.out.now c.args.feed.now c.advance.new.feed c.args.extractor.now c.args.pictures e ended has came,
      more_units _ _ _ _ R have t first c.args.source.now c.advance.new.source start c.args.out.now c.args.feed.now c.advance.new.feed c.args.extractor.now c.args.pictures e came,
    )
