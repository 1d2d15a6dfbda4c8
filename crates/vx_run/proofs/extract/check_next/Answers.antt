use Rattle.std.proofs.Common.{ap, sym, Ok}
use Rattle.std.proofs.lemmas.Result.{err_from_is_err_and}
use Rattle.vx_assemble.specs.Held.{lent_by}
use Rattle.vx_run.proofs.Checking.{count_stopped, count_done, count_none, count_cut, count_more, count_units, count_below, kept_below}
use Rattle.vx_run.proofs.extract.check_next.Goals as goal

pub returns-in_err-advance-clause-answer : goal.returns-in_err-advance-clause-answer
returns-in_err-advance-clause-answer g c going R of t task tid first kept e =
    let p = err_from_is_err_and c.from_residual.result c.from_residual.ensures.1 in
    rw (p.1, p.2) (count_stopped _ _ R t first c.args.source.now c.advance.new.source c.args.feed.now c.advance.new.feed c.args.pictures kept e (c.advance.ensures.end e.taken.ended) _ (c.in_err-advance.ensures.answer R of))

pub returns-then-not-branch-clause-answer : goal.returns-then-not-branch-clause-answer
returns-then-not-branch-clause-answer g c going R of t task tid first kept e =
    let ended = c.advance.ensures.end e.taken.ended in
    let came = rw c.if-not-branch.true at c.in_ok-advance.ensures.answer R of in (
      λ some. count_done _ _ R t first c.args.source.now c.advance.new.source c.args.feed.now c.advance.new.feed c.args.pictures kept e ended came some,
      λ none. count_none _ _ R t first c.args.source.now c.advance.new.source c.args.feed.now c.advance.new.feed c.args.pictures kept e ended came none,
    )

pub returns-in_err-kept-clause-answer : goal.returns-in_err-kept-clause-answer
returns-in_err-kept-clause-answer g c going R of t task tid first kept e =
    let p = err_from_is_err_and c.from_residual-in_err-kept.result c.from_residual-in_err-kept.ensures.1 in
    rw (p.1, p.2) (count_cut _ _ R t first c.args.source.now c.advance.new.source c.args.feed.now c.advance.new.feed c.args.pictures kept e (c.advance.ensures.end e.taken.ended)
    (c.in_ok-advance.ensures.lent (ap Ok c.if-not-branch.false)).holds (rw c.if-not-branch.false at c.in_ok-advance.ensures.answer R of) c.args.extractor.now (lent_by c.advance.new.feed.assembler) task (c.check_latest.ensures.shows R) _ (c.in_err-kept.ensures.answer going))

pub returns-clause-answer : goal.returns-clause-answer
returns-clause-answer g c going R of t task tid first kept e =
    let q = lent_by c.advance.new.feed.assembler in
    let ended = c.advance.ensures.end e.taken.ended in
    let has = (c.in_ok-advance.ensures.lent (ap Ok c.if-not-branch.false)).holds in
    let came = rw c.if-not-branch.false at c.in_ok-advance.ensures.answer R of in
    let fine = c.in_ok-kept.ensures.answer going in
    let more = count_more _ _ R t first c.args.source.now c.advance.new.source c.args.feed.now c.advance.new.feed c.args.pictures kept e ended has came c.args.extractor.now q task (c.check_latest.ensures.shows R) fine.0 in (
      rw (fine.1, sym tid) more,
      count_below _ _ R t first c.args.source.now c.advance.new.source c.args.feed.now c.advance.new.feed c.args.pictures kept e ended has came,
      kept_below _ _ R t first c.args.source.now c.advance.new.source c.args.feed.now c.advance.new.feed c.args.pictures kept e ended has came,
      count_units _ _ R t first c.args.source.now c.advance.new.source c.args.feed.now c.advance.new.feed c.args.pictures kept e came,
    )
