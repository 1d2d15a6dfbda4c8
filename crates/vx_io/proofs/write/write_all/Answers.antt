use Rattle.std.proofs.Common.{ap, arith, length, length-append}
use Rattle.vx_io.proofs.WrittenLemmas.{underway_more}
use Rattle.vx_io.proofs.write.write_all.Goals as goal

pub loop-rest-preserved : goal.loop-rest-preserved
loop-rest-preserved g c = (
  underway_more _ _ _ _ _ _ _ _ _ c.loop-rest.invariant.0 c.in_ok-taken.ensures.bytes c.in_ok-taken.ensures.faults,
  λ none. absurd (grind (arith, c.is_empty.ensures, c.loop-rest-test.true, ap length c.loop-rest.invariant.0.split, length-append c.loop-rest.invariant.0.front c.loop-rest.rest.now)),
)
