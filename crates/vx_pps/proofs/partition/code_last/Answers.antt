use Rattle.vx_bits.specs.declared.rules.TheConstants.{TOO_MANY_SLICES}
use Rattle.vx_table.specs.declared.rows.Fault.TheVariants.{Limit}
use Rattle.vx_pps.proofs.Ranges.{limited_bound, ok_by}
use Rattle.vx_pps.proofs.partition.code_last.Goals as goal

pub returns-clause-most : goal.returns-clause-most
returns-clause-most g c = ok_by c.code_number.result (λ n range. limited_bound 1000 n (Limit TOO_MANY_SLICES) range) c.code_number.ensures.range
