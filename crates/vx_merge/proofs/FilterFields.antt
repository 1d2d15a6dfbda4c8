-- The fields of a filter.
use Rattle.std.proofs.Common.{◌≡◌, ◌≢◌, ℕ, ◌<◌, ◌≤◌, true, false, List, [], ◌∷◌, refl, sym, subst, ◌∙◌, inl, inr, arith}
use Rattle.std.specs.Prelude.{nat_le}
use Rattle.std.specs.List.{AllByRecursion}
use Rattle.std.proofs.lemmas.Bool.Decides.{eqb_tells, leb_tells}
use Rattle.std.proofs.lemmas.Bool.{cases_eq}
use Rattle.vx_fields.specs.declared.alf.TheConstants as alf
use Rattle.vx_table.specs.Depends.{has}

-- ---- what isn't one of these

outside : (xs : List ℕ) (n : ℕ) → AllByRecursion (λ x. n ≢ x) xs → has xs n ≡ false
outside [] n none = refl
outside (x ∷ xs) n none = elim (eqb_tells x n) [
  | inl same ↦ absurd (none.0 (sym same.1))
  | inr other ↦ rw other.0 (outside xs n none.1)
]

-- ---- the fields of a filter

in_filter : (n : ℕ) → 681 ≤ n → n ≤ 690 → has alf.ALL n ≡ true
in_filter n low high =
    let is = λ (m : ℕ) (e : n ≡ m) (t : has alf.ALL m ≡ true). subst (λ m. has alf.ALL m ≡ true) (sym e) t in
    elim (cases_eq n 681) [
      | inl e ↦ is 681 e refl
      | inr a ↦
          elim (cases_eq n 682) [
            | inl e ↦ is 682 e refl
            | inr b ↦
                elim (cases_eq n 683) [
                  | inl e ↦ is 683 e refl
                  | inr c ↦
                      elim (cases_eq n 684) [
                        | inl e ↦ is 684 e refl
                        | inr d ↦
                            elim (cases_eq n 685) [
                              | inl e ↦ is 685 e refl
                              | inr f ↦
                                  elim (cases_eq n 686) [
                                    | inl e ↦ is 686 e refl
                                    | inr g ↦
                                        elim (cases_eq n 687) [
                                          | inl e ↦ is 687 e refl
                                          | inr h ↦
                                              elim (cases_eq n 688) [
                                                | inl e ↦ is 688 e refl
                                                | inr i ↦
                                                    elim (cases_eq n 689) [
                                                      | inl e ↦ is 689 e refl
                                                      | inr j ↦
                                                          is 690 (omega arith) refl
                                                    ]
                                              ]
                                        ]
                                  ]
                            ]
                      ]
                ]
          ]
    ]

below_filter : (n : ℕ) → n < 681 → has alf.ALL n ≡ false
below_filter n low = outside alf.ALL n
    (omega arith, (omega arith, (omega arith, (omega arith, (omega arith, (omega arith, (omega arith, (omega arith, (omega arith, (omega arith, tt))))))))))

past_filter : (n : ℕ) → 690 < n → has alf.ALL n ≡ false
past_filter n high = outside alf.ALL n
    (omega arith, (omega arith, (omega arith, (omega arith, (omega arith, (omega arith, (omega arith, (omega arith, (omega arith, (omega arith, tt))))))))))

pub up_to_last : (n : ℕ) → 681 ≤ n → nat_le n 690 ≡ has alf.ALL n
up_to_last n low = elim (leb_tells n 690) [
  | inl within ↦ within.0 ∙ sym (in_filter n low within.1)
  | inr past ↦ past.0 ∙ sym (past_filter n past.1)
]

pub from_first : (n : ℕ) → n < 681 → nat_le 681 n ≡ has alf.ALL n
from_first n low = elim (leb_tells 681 n) [
  | inl within ↦ absurd (omega (arith, within.1, low))
  | inr past ↦ past.0 ∙ sym (below_filter n low)
]
