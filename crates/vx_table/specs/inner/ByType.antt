-- The rows that a type has.
use Rattle.std.specs.Prelude.{ℕ, Bool, cond, ◌==◌}
use Rattle.vx_table.specs.declared.rows.Term.{Term}
use Rattle.vx_table.specs.declared.rows.Term.TheVariants.{Number, Latest}
use Rattle.vx_table.specs.declared.rows.Formula.{Formula}
use Rattle.vx_table.specs.declared.rows.Formula.TheVariants.{Plain}
use Rattle.vx_table.specs.declared.rows.Coding.TheVariants.{Fixed}
use Rattle.vx_table.specs.declared.rows.Limits.TheVariants.{Any}
use Rattle.vx_table.specs.declared.rows.Cell.{Cell}

-- A term from the two numbers of a type: the latest number of a field or name, or a written number if no field is named.
abbrev pub term_of : ℕ → ℕ → Term
term_of of number = cond (of == 65535) (Number number) (Latest of)

-- A field of one bit without a range.
abbrev pub flag_cell : ℕ → Bool → Cell Formula
flag_cell of is_kept = record { field = of; kept = is_kept; coding = Fixed (Plain (Number 1)); limits = Any }
