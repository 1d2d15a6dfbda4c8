-- Which values have codes, by their ranges.
use Rattle.std.specs.Int.RustNames.{unsigned_abs}
use Rattle.std.proofs.Common.{◌≡◌, ◌↔◌, ℕ, ℤ, pos, negsuc, zero, suc, ◌+◌, ◌-◌, ◌*◌, ◌^◌, ◌<◌, ◌≤ℤ◌, refl, arith, w32}
use Rattle.std.proofs.lemmas.Int.{ints}
use Rattle.std.proofs.Math.Pow.{pow_pos}
use mir.Val.{SFits}
use Rattle.vx_bits.specs.Codes.{IsCodeNumber}
use Rattle.vx_table.specs.declared.rows.Coding.TheVariants.{Fixed, Golomb, SignedGolomb}
use Rattle.vx_table.specs.Spelling.{HasCode}

pub fixed_range : (n : ℕ) (v : ℤ) → ((pos 0 ≤ℤ v) × (v ≤ℤ pos (2 ^ n - 1))) ↔ HasCode (Fixed n) v
unfolding HasCode
fixed_range n (pos v) = let some : 0 < 2 ^ n = pow_pos n in (λ (range : (pos 0 ≤ℤ pos v) × (pos v ≤ℤ pos (2 ^ n - 1))). omega (arith, ints, range.1), λ (small : v < 2 ^ n). (omega (arith, ints), omega (arith, ints)))
fixed_range n (negsuc v) = (λ (range : (pos 0 ≤ℤ negsuc v) × (negsuc v ≤ℤ pos (2 ^ n - 1))). absurd (omega (arith, ints, range.0)), λ (none : ⊥). absurd none)

pub golomb_range : (v : ℤ) → ((pos 0 ≤ℤ v) × (v ≤ℤ pos 4294967294)) ↔ HasCode Golomb v
unfolding HasCode
golomb_range (pos v) = (λ (range : (pos 0 ≤ℤ pos v) × (pos v ≤ℤ pos 4294967294)). omega (arith, ints, range.1), λ (small : IsCodeNumber v). (omega (arith, ints), omega (arith, ints)))
golomb_range (negsuc v) = (λ (range : (pos 0 ≤ℤ negsuc v) × (negsuc v ≤ℤ pos 4294967294)). absurd (omega (arith, ints, range.0)), λ (none : ⊥). absurd none)

pub signed_range : (v : ℤ) → ((negsuc 2147483646 ≤ℤ v) × (v ≤ℤ pos 2147483647)) ↔ HasCode SignedGolomb v
unfolding HasCode
signed_range (pos zero) = (λ (range : (negsuc 2147483646 ≤ℤ pos 0) × (pos 0 ≤ℤ pos 2147483647)). omega arith, λ (small : 0 + 1 < 2 ^ 32). (omega (arith, ints), omega (arith, ints)))
signed_range (pos (suc v)) = (λ (range : (negsuc 2147483646 ≤ℤ pos (suc v)) × (pos (suc v) ≤ℤ pos 2147483647)). omega (arith, ints, range.1), λ (small : 2 * v + 1 + 1 < 2 ^ 32). (omega (arith, ints), omega (arith, ints)))
signed_range (negsuc v) = (λ (range : (negsuc 2147483646 ≤ℤ negsuc v) × (negsuc v ≤ℤ pos 2147483647)). omega (arith, ints, range.0), λ (small : 2 * v + 2 + 1 < 2 ^ 32). (omega (arith, ints), omega (arith, ints)))

-- the number of a value
pub fixed_number : (n : ℕ) (v : ℤ) → HasCode (Fixed n) v → (v ≡ pos (unsigned_abs v)) × (unsigned_abs v < 2 ^ n)
unfolding HasCode
fixed_number n (pos v) has = (refl, has)
fixed_number n (negsuc v) has = absurd has

pub golomb_number : (v : ℤ) → HasCode Golomb v → (v ≡ pos (unsigned_abs v)) × IsCodeNumber (unsigned_abs v)
unfolding HasCode
golomb_number (pos v) has = (refl, has)
golomb_number (negsuc v) has = absurd has

-- one test after another
pub chain : {P Q R : Type 0} → P ↔ Q → Q ↔ R → P ↔ R
chain f g = (λ p. g.0 (f.0 p), λ r. f.1 (g.1 r))

-- a gap counts as 0
pub gap_range : (v : ℤ) → ((pos 0 ≤ℤ v) × (v ≤ℤ pos 0)) ↔ (v ≡ pos 0)
gap_range v = (λ (range : (pos 0 ≤ℤ v) × (v ≤ℤ pos 0)). omega (arith, ints, range.0, range.1), λ (none : v ≡ pos 0). (omega (arith, ints), omega (arith, ints)))

pub signed_fits : (v : ℤ) → HasCode SignedGolomb v → SFits w32 v
unfolding HasCode
signed_fits (pos zero) has = record { sfits = omega arith }
signed_fits (pos (suc v)) has = let small : 2 * v + 1 + 1 < 2 ^ 32 = has in record { sfits = omega arith }
signed_fits (negsuc v) has = let small : 2 * v + 2 + 1 < 2 ^ 32 = has in record { sfits = omega arith }
