-- The values in the code of counts, related to those of their definition. The contract of `picture_order_count` relies on it.
use Rattle.std.specs.Prelude.{ℤ, pos, ◌-ℤ◌, cond, Result, Ok, Err}
use Rattle.vx_bits.specs.declared.refusal.Refusal.{Refusal}
use Rattle.vx_bits.specs.declared.refusal.Refusal.TheVariants.{Structure}
use Rattle.vx_bits.specs.declared.rules.TheConstants.{POC_RANGE}
use Rattle.vx_pic.specs.declared.count.PrevTid0.{PrevTid0}
use Rattle.vx_pic.specs.Counts.{Previous, fits_count}

-- PrevPicOrderCntMsb is the count less the lsb.
abbrev pub previous_of : PrevTid0 → Previous
previous_of p = record { lsb = p.lsb; msb = p.poc -ℤ pos p.lsb }

-- A count, refused if it doesn't fit in 32 bits.
abbrev pub checked : ℤ → Result ℤ Refusal
checked z = cond (fits_count z) (Ok z) (Err (Structure POC_RANGE 0 0))
