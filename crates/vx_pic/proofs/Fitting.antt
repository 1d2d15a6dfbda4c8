-- Counts that have 32 bits.
use Rattle.std.proofs.Common.{◌≡◌, ℤ, pos, negsuc, FitsSigned, w32, Bool, true, cond, sym, ◌∙◌, ap, arith, Ok, Err, Result, inl, inr}
use Rattle.std.proofs.lemmas.Bool.{cases_Bool}
use Rattle.std.proofs.lemmas.Bool.Decides.{nat_tests}
use Rattle.vx_bits.specs.declared.refusal.Refusal.{Refusal}
use Rattle.vx_bits.specs.declared.refusal.Refusal.TheVariants.{Structure}
use Rattle.vx_bits.specs.declared.rules.TheConstants.{POC_RANGE}
use Rattle.vx_pic.specs.Counts.{fits_count}
use Rattle.vx_pic.specs.Counted.{checked}

fits : (z : ℤ) → FitsSigned w32 z → fits_count z ≡ true
fits (pos n) h = grind (arith, nat_tests)
fits (negsuc n) h = grind (arith, nat_tests)

fitting : (z : ℤ) → fits_count z ≡ true → FitsSigned w32 z
fitting (pos n) h = grind (arith, nat_tests)
fitting (negsuc n) h = grind (arith, nat_tests)

pub fit_count : (z p : ℤ) → FitsSigned w32 z → p ≡ z → Ok p ≡ checked z
fit_count z p h is =
    let given : ℤ → Result ℤ Refusal = λ q. Ok q in
    let by : Bool → Result ℤ Refusal = λ b. cond b (Ok z) (Err (Structure POC_RANGE 0 0)) in
    ap given is ∙ sym (ap by (fits z h))

pub misfit_count : (z : ℤ) → ¬ FitsSigned w32 z → Err (Structure POC_RANGE 0 0) ≡ checked z
misfit_count z h =
    let by : Bool → Result ℤ Refusal = λ b. cond b (Ok z) (Err (Structure POC_RANGE 0 0)) in
    elim (cases_Bool (fits_count z)) [
      | inl fit ↦ absurd (h (fitting z fit))
      | inr other ↦ sym (ap by other)
    ]
