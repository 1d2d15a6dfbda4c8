-- Numbers have one lowest fault at most, and a layout has none.
use Rattle.std.proofs.Common.{◌≡◌, ℕ, ◌<◌, inl, inr, arith}
use Rattle.std.proofs.lemmas.Bool.{cases_lt}
use Rattle.vx_layout.specs.declared.numbers.Numbers.{Numbers}
use Rattle.vx_layout.specs.Faults.{IsLayout, IsLowestFault}

pub layout-faultless : (n : Numbers) (k : ℕ) → IsLayout n → ¬ IsLowestFault n k
layout-faultless n k layout lowest =
    elim (cases_lt 3 k) [
      | inr subpics ↦ lowest.breaks_subpics (omega (arith, lowest.from)) layout.subpics
      | inl past_subpics ↦
          elim (cases_lt 4 k) [
            | inr tiles ↦ lowest.breaks_tiles (omega arith) layout.tiles
            | inl past_tiles ↦
                elim (cases_lt 5 k) [
                  | inr slices ↦ lowest.breaks_slices (omega arith) layout.slices
                  | inl past_slices ↦
                      elim (cases_lt 6 k) [
                        | inr split ↦ lowest.breaks_split (omega arith) layout.split
                        | inl past_split ↦ lowest.breaks_order (omega (arith, lowest.upto)) layout.order
                      ]
                ]
          ]
    ]

-- a fault below the lowest one
none_below : (n : Numbers) (j k : ℕ) → IsLowestFault n j → IsLowestFault n k → ¬ (j < k)
none_below n j k at_j at_k below =
    elim (cases_lt 3 j) [
      | inr subpics ↦ at_j.breaks_subpics (omega (arith, at_j.from)) (at_k.keeps_subpics (omega (arith, at_j.from)))
      | inl past_subpics ↦
          elim (cases_lt 4 j) [
            | inr tiles ↦ at_j.breaks_tiles (omega arith) (at_k.keeps_tiles (omega arith))
            | inl past_tiles ↦
                elim (cases_lt 5 j) [
                  | inr slices ↦ at_j.breaks_slices (omega arith) (at_k.keeps_slices (omega arith))
                  | inl past_slices ↦ at_j.breaks_split (omega (arith, at_k.upto)) (at_k.keeps_split (omega arith))
                ]
          ]
    ]

pub lowest-one : (n : Numbers) (j k : ℕ) → IsLowestFault n j → IsLowestFault n k → j ≡ k
lowest-one n j k at_j at_k =
    elim (cases_lt j k) [
      | inl below ↦ absurd (none_below n j k at_j at_k below)
      | inr from ↦ elim (cases_lt k j) [ inl above ↦ absurd (none_below n k j at_k at_j above) | inr upto ↦ omega arith ]
    ]
