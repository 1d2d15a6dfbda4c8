-- The answer for the numbers of a layout.
use Rattle.std.specs.Prelude.{◌≡◌, ℕ, Result, Ok, Err}
use Rattle.vx_bits.specs.declared.refusal.ReadError.{ReadError}
use Rattle.vx_bits.specs.declared.refusal.ReadError.TheVariants.{Memory, Refused}
use Rattle.vx_layout.specs.declared.numbers.Numbers.{Numbers}
use Rattle.vx_layout.specs.Faults.{IsLayout, IsLowestFault}
use Rattle.vx_pic.specs.PictureLayout.{layout_refusal}

abbrev pub IsLayoutOf : Numbers → Result Numbers ReadError → Type 0
IsLayoutOf n (Ok made) = IsLayout n × (made ≡ n)
IsLayoutOf n (Err Memory) = Unit {0}
IsLayoutOf n (Err (Refused r)) = (k : ℕ) × IsLowestFault n k × (r ≡ layout_refusal k)
