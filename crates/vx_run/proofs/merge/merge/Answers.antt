use Rattle.std.proofs.Common.{refl, arith}
use Rattle.vx_run.proofs.Corners.{many_corners, too_many_stop}
use Rattle.vx_run.proofs.merge.merge.Goals as goal

-- more than 64 are named
pub returns-then-len-gt-MOST_SOURCES-clause-merges : goal.returns-then-len-gt-MOST_SOURCES-clause-merges
returns-then-len-gt-MOST_SOURCES-clause-merges g c =
    let count = many_corners c.args.placings.words.now in
    record { stop = too_many_stop c.too_many.result c.too_many.ensures; many = λ many. (c.too_many.ensures, refl, refl); few = λ few. absurd (omega (arith, few, count, c.len.ensures)) }

-- or not
pub returns-clause-merges : goal.returns-clause-merges
returns-clause-merges g c =
    let count = many_corners c.args.placings.words.now in
    record { stop = c.write_rounds.ensures.stop; many = λ many. absurd (omega (arith, many, count, c.len.ensures)); few = λ few. c.write_rounds.ensures.merges }
