-- No field is wider than 32 bits.
use Rattle.std.proofs.Common.{◌≡◌, ℕ, zero, suc, Bool, true, nat_le, List, [], ◌∷◌, slice_index_or, Some, None, refl}
use Rattle.std.specs.Prelude.{◌&&◌, Option}
use Rattle.std.proofs.lemmas.Bool.{and_parts, leb-true}
use Rattle.vx_table.specs.declared.rows.Coding.{Coding}
use Rattle.vx_table.specs.declared.rows.Coding.TheVariants.{Fixed, Golomb, SignedGolomb, Zeros, OneAndZeros, Trailing, Absent, Refused}
use Rattle.vx_ptl.specs.declared.run.FieldCode.{FieldCode}
use Rattle.vx_ptl.specs.Run.{field_codes, field_code, no_code, IsCodableIfAny}

fits : Option (Coding ℕ) → Bool
fits None = true
fits (Some (Fixed n)) = nat_le n 32
fits (Some Golomb) = true
fits (Some SignedGolomb) = true
fits (Some Zeros) = true
fits (Some OneAndZeros) = true
fits (Some Trailing) = true
fits (Some Absent) = true
fits (Some Refused) = true

all_fit : List FieldCode → Bool
all_fit [] = true
all_fit (code ∷ codes) = fits code.coding && all_fit codes

codable_if : (coding : Option (Coding ℕ)) → fits coding ≡ true → IsCodableIfAny coding
unfolding fits
codable_if None h = tt
codable_if (Some (Fixed n)) h = leb-true n 32 h
codable_if (Some Golomb) h = tt
codable_if (Some SignedGolomb) h = tt
codable_if (Some Zeros) h = tt
codable_if (Some OneAndZeros) h = tt
codable_if (Some Trailing) h = tt
codable_if (Some Absent) h = tt
codable_if (Some Refused) h = tt

codable_at : (codes : List FieldCode) (n : ℕ) → all_fit codes ≡ true → IsCodableIfAny (slice_index_or codes n no_code).coding
unfolding all_fit
codable_at [] n h = tt
codable_at (code ∷ codes) zero h = codable_if code.coding (and_parts (fits code.coding) (all_fit codes) h).0
codable_at (code ∷ codes) (suc n) h = codable_at codes n (and_parts (fits code.coding) (all_fit codes) h).1

pub codable : (field : ℕ) → IsCodableIfAny (field_code field).coding
unfolding fits all_fit field_codes
codable field = codable_at field_codes field refl
