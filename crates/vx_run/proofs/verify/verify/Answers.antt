use Rattle.std.proofs.Common.{refl, arith}
use Rattle.vx_run.specs.Verify.{spot_of}
use Rattle.vx_run.proofs.Corners.{many_placed, too_many_stop}
use Rattle.vx_run.proofs.verify.verify.Goals as goal

-- more than 64 sources are named
pub returns-then-len-gt-MOST_SOURCES-clause-verifies : goal.returns-then-len-gt-MOST_SOURCES-clause-verifies
returns-then-len-gt-MOST_SOURCES-clause-verifies g c =
    let count = many_placed spot_of c.args.placings.words.now in
    record { stop = too_many_stop c.too_many.result c.too_many.ensures; many = λ many. (c.too_many.ensures, refl, refl); few = λ few. absurd (omega (arith, few, count, c.len.ensures)) }

-- or not
pub returns-clause-verifies : goal.returns-clause-verifies
returns-clause-verifies g c =
    let count = many_placed spot_of c.args.placings.words.now in
    record { stop = c.verify_files.ensures.stop; many = λ many. absurd (omega (arith, many, count, c.len.ensures)); few = λ few. c.verify_files.ensures.verifies }
