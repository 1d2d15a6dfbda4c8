use Rattle.vx_pps.proofs.Ranges.{below_bound, ok_by}
use Rattle.vx_pps.proofs.numbers.code_below.Goals as goal

pub returns-clause-range : goal.returns-clause-range
returns-clause-range g c = ok_by c.code_number.result (λ n range. below_bound c.args.bound n range) (rw c.below.ensures at c.code_number.ensures.range)
