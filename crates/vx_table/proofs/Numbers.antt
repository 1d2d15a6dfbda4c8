-- Counting the powers of two below a number.
use Rattle.std.proofs.Common.{◌≡◌, ◌↔◌, ◌∙◌, ℕ, zero, suc, ◌^◌, ◌<◌, ◌≤◌, min, refl, arith, true, false, ltb, inl, inr}
use Rattle.std.proofs.Math.Pow.{pow_mono, pow_pos}
use Rattle.std.proofs.lemmas.Bool.{cases_lt, lt-ltb, le-ltb}
use Rattle.vx_table.specs.Scope.{powers_below}

-- none of them is below 0 or 1
pub powers_none : (k n : ℕ) → n ≤ 1 → powers_below k n ≡ 0
unfolding powers_below
powers_none zero n small = refl
powers_none (suc k) n small =
    let first : 1 ≤ 2 ^ k = pow_pos k in
    let not_below : ltb (2 ^ k) n ≡ false = le-ltb _ _ (omega arith) in
    rw (powers_none k n small, not_below) refl

-- n lies above 2^j and not above the next power
pub powers_to : (k j n : ℕ) → 2 ^ j < n → n ≤ 2 ^ suc j → powers_below k n ≡ min k (suc j)
unfolding powers_below
powers_to zero j n above upto = omega arith
powers_to (suc k) j n above upto =
    let before = powers_to k j n above upto in
    elim (cases_lt j k) [
      | inl past ↦
          let larger : 2 ^ suc j ≤ 2 ^ k = pow_mono past in
          let not_below : ltb (2 ^ k) n ≡ false = le-ltb _ _ (omega arith) in
          rw (before, not_below) (omega arith)
      | inr upto_j ↦
          let smaller : 2 ^ k ≤ 2 ^ j = pow_mono upto_j in
          let below : ltb (2 ^ k) n ≡ true = lt-ltb _ _ (omega arith) in
          rw (before, below) (omega arith)
    ]

-- of m of them so many are below n that n isn't above the power of that number, and is above each before
pub powers_least : (m n k : ℕ) → n ≤ 2 ^ m → n ≤ 2 ^ k ↔ powers_below m n ≤ k
unfolding powers_below
powers_least zero n k within = let first : 1 ≤ 2 ^ k = pow_pos k in (λ upto. omega arith, λ few. omega arith)
powers_least (suc m) n k within = elim (cases_lt (2 ^ m) n) [
  | inl above ↦
      let count : powers_below (suc m) n ≡ suc m = powers_to (suc m) m n above within ∙ omega arith in (
        λ upto. elim (cases_lt m k) [
          | inl past ↦ omega (arith, count)
          | inr not_past ↦ let smaller : 2 ^ k ≤ 2 ^ m = pow_mono not_past in absurd (omega arith)
        ],
        λ few. let larger : 2 ^ suc m ≤ 2 ^ k = pow_mono (omega (arith, count)) in omega arith,
      )
  | inr upto_m ↦
      let not_below : ltb (2 ^ m) n ≡ false = le-ltb _ _ upto_m in
      let before = powers_least m n k upto_m in
      let count : powers_below (suc m) n ≡ powers_below m n = rw not_below (omega arith) in
      (λ upto. omega (arith, count, before.0 upto), λ few. before.1 (omega (arith, count)))
]
