-- The counts of generated pictures (H.266 8.3.1): picture p has the count p.
use Rattle.std.proofs.Common.{◌≡◌, ℕ, pos, zero, suc, ◌%◌, ◌≤◌, true, false, Option, None, refl, ap, sym, ◌∙◌, inl, inr, arith}
use Rattle.std.specs.Prelude.{◌+ℤ◌, ◌-ℤ◌}
use Rattle.std.proofs.lemmas.Int.{ints}
use Rattle.std.proofs.lemmas.Bool.{cases_lt}
use Rattle.std.proofs.lemmas.Bool.Decides.{nat_tests}
use Rattle.vx_table.specs.Scope.{fresh, natural}
use Rattle.vx_pic.specs.Alike.{IsNext}
use Rattle.vx_pic.specs.Counts.{Previous, count, pic_order_count, fits_count, nearest_msb, previous}
use Rattle.vx_pic.specs.Resident.{planned_of}
use Rattle.vx_pic.specs.Sets.{is_non_ref, lsb_of, max_lsb, msb_cycle}
use Rattle.vx_gen.specs.Pictures.{generated_begun, generated_header, kind, plans, generated_sps}

-- the count behind a picture whose count is q, from the low bits of both
goes_up : (q a l : ℕ) → a ≡ q % 16 → l ≡ suc q % 16 → nearest_msb 16 l (record { lsb = a; msb = pos q -ℤ pos a }) +ℤ pos l ≡ pos (suc q)
goes_up q a l is_a is_l = elim (cases_lt a 15) [
  | inl low ↦
      let next : l ≡ suc a = omega (arith, is_a, is_l, low) in
      grind (arith, nat_tests, ints)
  | inr last ↦
      let at : a ≡ 15 = omega (arith, is_a, last) in
      let none : l ≡ 0 = omega (arith, is_a, is_l, last) in
      grind (arith, nat_tests, ints)
]

-- prevTid0Pic is the picture before
pub before : (seed n k q : ℕ) → previous (planned_of (plans seed n k (suc q))) ≡ record { lsb = lsb_of (generated_header q); msb = pos q -ℤ pos (lsb_of (generated_header q)) }
unfolding is_non_ref fresh natural
before seed n k zero = refl
before seed n k (suc q) = refl

low_is : (q : ℕ) → lsb_of (generated_header q) ≡ q % 16
unfolding lsb_of fresh natural
low_is zero = refl
low_is (suc q) = let few : suc q % 16 ≤ 4294967295 = omega arith in omega (arith, few)

max_is : max_lsb generated_sps ≡ 16
unfolding max_lsb fresh natural
max_is = refl

no_cycle : (p : ℕ) → msb_cycle (generated_header p) ≡ None
unfolding msb_cycle fresh natural
no_cycle zero = refl
no_cycle (suc p) = refl

fits : (p : ℕ) → p ≤ 1000 → fits_count (pos p) ≡ true
fits p few = grind (arith, nat_tests)

counted_is : (c : Option ℕ) (m l : ℕ) (a : Previous) (q : ℕ) → c ≡ None → m ≡ 16 → l ≡ suc q % 16 → a ≡ record { lsb = q % 16; msb = pos q -ℤ pos (q % 16) } → pic_order_count c false m l a ≡ pos (suc q)
counted_is c m l a q none max low is = rw (none, max, is) (goes_up q (q % 16) l refl low)

count_is : (seed n k q : ℕ) → count (planned_of (plans seed n k (suc q))) (generated_begun k (suc q)) false ≡ pos (suc q)
count_is seed n k q =
    counted_is (msb_cycle (generated_header (suc q))) (max_lsb generated_sps) (lsb_of (generated_header (suc q))) (previous (planned_of (plans seed n k (suc q)))) q (no_cycle (suc q)) max_is (low_is (suc q))
    (before seed n k q ∙ ap (λ a. record { lsb = a; msb = pos q -ℤ pos a }) (low_is q))

pub next : (seed n k p : ℕ) → p ≤ 1000 → IsNext (planned_of (plans seed n k p)) (generated_begun k p) (kind p)
unfolding max_lsb lsb_of msb_cycle fresh natural
next seed n k zero few = record { ends = λ h. absurd (cc); kind = refl; begins = λ h. refl; same = λ h. refl; fits = fits 0 few }
next seed n k (suc q) few = record {
  ends = λ h. absurd (cc);
  kind = ap (λ z. record (kind (suc q)) { poc = z }) (sym (count_is seed n k q));
  begins = λ h. absurd (cc);
  same = λ h. refl;
  fits = fits (suc q) few;
}
