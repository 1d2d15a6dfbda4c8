-- The CTUs of a region have its own samples.
use Rattle.std.proofs.Common.{◌≡◌, ℕ, ◌+◌, ◌*◌, ◌/◌, ◌%◌, ◌-◌, ◌<◌, ◌≤◌, ◌⊎◌, min, true, List, length, get_or, refl, sym, ◌∙◌, subst, inl, inr, arith}
use Rattle.std.proofs.Math.Nat.{add-mul, mod-add-mod}
use Rattle.std.proofs.lemmas.Bool.{cases_eq, cases_lt, cases_order}
use Rattle.std.proofs.lemmas.Grind.{div_ceil_times}
use Rattle.std.proofs.lemmas.List.{get_or_default}
use Rattle.std.specs.Int.{div_ceil}
use Rattle.vx_fit.specs.declared.placed.Placed.{Placed}
use Rattle.vx_fit.specs.laws.Fitting.{AreItsSamples, BorderIsRegions}
use Rattle.vx_fit.specs.Placing.{FitTogether, IsCovered, IsOnGrid, covers, frame_height, frame_width}
use Rattle.vx_fit.proofs.Overlapping.{covers_from, covers_tells}
use Rattle.vx_fit.proofs.Positions.{on_grid}
use Rattle.vx_fit.proofs.Sizes.{greatest_bounds}

-- A number of so many from a multiple of c on, that is a multiple of c too or reaches to the end.
its_size : (c n m total : ℕ) → 0 < c → n % c ≡ 0 → n + m ≤ total → (m % c ≡ 0) ⊎ (n + m ≡ total) → min ((n / c + div_ceil m c) * c) total - n / c * c ≡ m
its_size c n m total some even within ends =
    let from : n / c * c ≡ n = on_grid c n even in
    let both = div_ceil_times m c some in
    let sum : (n / c + div_ceil m c) * c ≡ n / c * c + div_ceil m c * c = add-mul (n / c) (div_ceil m c) c in
    elim ends [
      | inr last ↦ omega (arith, both.0, sum, from)
      | inl whole ↦
          let exact : div_ceil m c * c ≡ m = grind (arith, whole) in
          omega (arith, sum, from, exact)
    ]

-- Regions that fit together: where one ends inside the frame, another begins.
module _ (placed : List Placed) (ctb : ℕ) (some : 0 < ctb) (fit : FitTogether placed ctb) where
  -- a position that two regions cover is in one
  same_region : (i j : ℕ) (d : Placed) (x y : ℕ) → i < length placed → j < length placed → covers (get_or placed i d) x y ≡ true → covers (get_or placed j d) x y ≡ true → i ≡ j
  same_region i j d x y low short on_i on_j =
      elim (cases_order i j) [
        | inl same ↦ same
        | inr (inl less) ↦ absurd (fit.apart i j d less short (x, y, on_i, on_j))
        | inr (inr more) ↦ absurd (fit.apart j i d more low (x, y, on_j, on_i))
      ]

  sum_even : (n m : ℕ) → n % ctb ≡ 0 → (n + m) % ctb ≡ 0 → m % ctb ≡ 0
  sum_even n m even both =
      let back : (n % ctb + m) % ctb ≡ (n + m) % ctb = mod-add-mod n ctb m in
      let none : n % ctb + m ≡ m = omega arith in
      subst (λ k. k % ctb ≡ 0) none (back ∙ both)

  -- where region k covers a position and not the one behind it, another region begins there, at a CTU
  begins_right : (k : ℕ) (d : Placed) (x y : ℕ) → k < length placed → covers (get_or placed k d) x y ≡ true → ¬ (covers (get_or placed k d) (x + 1) y ≡ true) → IsCovered placed (x + 1) y →
      (x + 1) % ctb ≡ 0
  begins_right k d x y short on off (j, q, low, is, on_q) =
      let same : get_or placed j d ≡ q = get_or_default placed j d q low ∙ is in
      let on_j : covers (get_or placed j d) (x + 1) y ≡ true = subst (λ r. covers r (x + 1) y ≡ true) (sym same) on_q in
      let at = covers_tells (get_or placed j d) (x + 1) y on_j in
      elim (cases_lt x (get_or placed j d).x) [
        | inl behind ↦
            let begins : (get_or placed j d).x ≡ x + 1 = omega (arith, at.0) in
            subst (λ n. n % ctb ≡ 0) begins (fit.grid j d low).0
        | inr before ↦
            let both : covers (get_or placed j d) x y ≡ true = covers_from (get_or placed j d) x y before (omega (arith, at.1)) at.2 at.3 in
            let one : k ≡ j = same_region k j d x y short low on both in
            absurd (off (subst (λ i. covers (get_or placed i d) (x + 1) y ≡ true) (sym one) on_j))
      ]

  begins_below : (k : ℕ) (d : Placed) (x y : ℕ) → k < length placed → covers (get_or placed k d) x y ≡ true → ¬ (covers (get_or placed k d) x (y + 1) ≡ true) → IsCovered placed x (y + 1) →
      (y + 1) % ctb ≡ 0
  begins_below k d x y short on off (j, q, low, is, on_q) =
      let same : get_or placed j d ≡ q = get_or_default placed j d q low ∙ is in
      let on_j : covers (get_or placed j d) x (y + 1) ≡ true = subst (λ r. covers r x (y + 1) ≡ true) (sym same) on_q in
      let at = covers_tells (get_or placed j d) x (y + 1) on_j in
      elim (cases_lt y (get_or placed j d).y) [
        | inl behind ↦
            let begins : (get_or placed j d).y ≡ y + 1 = omega (arith, at.2) in
            subst (λ n. n % ctb ≡ 0) begins (fit.grid j d low).1
        | inr before ↦
            let both : covers (get_or placed j d) x y ≡ true = covers_from (get_or placed j d) x y at.0 at.1 before (omega (arith, at.3)) in
            let one : k ≡ j = same_region k j d x y short low on both in
            absurd (off (subst (λ i. covers (get_or placed i d) x (y + 1) ≡ true) (sym one) on_j))
      ]

  -- A region that isn't empty.
  module _ (k : ℕ) (d : Placed) (short : k < length placed) (p : Placed) (is : get_or placed k d ≡ p) (wide : 0 < p.w) (high : 0 < p.h) where
    on_its_grid : IsOnGrid ctb p
    on_its_grid = subst (IsOnGrid ctb) is (fit.grid k d short)

    across : p.x + p.w ≤ frame_width placed
    across = subst (λ q. q.x + q.w ≤ frame_width placed) is (greatest_bounds (λ q. q.x + q.w) placed k d short)

    down : p.y + p.h ≤ frame_height placed
    down = subst (λ q. q.y + q.h ≤ frame_height placed) is (greatest_bounds (λ q. q.y + q.h) placed k d short)

    covers_there : (x y : ℕ) → p.x ≤ x → x < p.x + p.w → p.y ≤ y → y < p.y + p.h → covers (get_or placed k d) x y ≡ true
    covers_there x y a b c e = subst (λ q. covers q x y ≡ true) (sym is) (covers_from p x y a b c e)

    covers_not : (x y : ℕ) → (p.x + p.w ≤ x) ⊎ (p.y + p.h ≤ y) → ¬ (covers (get_or placed k d) x y ≡ true)
    covers_not x y past on =
        let at = covers_tells p x y (subst (λ q. covers q x y ≡ true) is on) in
        omega (arith, at.1, at.3, past)

    ends_across : (p.w % ctb ≡ 0) ⊎ (p.x + p.w ≡ frame_width placed)
    ends_across = elim (cases_eq (p.x + p.w) (frame_width placed)) [
      | inl last ↦ inr last
      | inr inside ↦
          let next : p.x + p.w - 1 + 1 ≡ p.x + p.w = omega arith in
          let begins = begins_right k d (p.x + p.w - 1) p.y short (covers_there (p.x + p.w - 1) p.y (omega arith) (omega arith) (omega arith) (omega arith)) (covers_not (p.x + p.w - 1 + 1) p.y (inl (omega arith)))
          (fit.filled (p.x + p.w - 1 + 1) p.y (omega (arith, across)) (omega (arith, down))) in
          inl (sum_even p.x p.w on_its_grid.0 (subst (λ n. n % ctb ≡ 0) next begins))
    ]

    ends_down : (p.h % ctb ≡ 0) ⊎ (p.y + p.h ≡ frame_height placed)
    ends_down = elim (cases_eq (p.y + p.h) (frame_height placed)) [
      | inl last ↦ inr last
      | inr inside ↦
          let next : p.y + p.h - 1 + 1 ≡ p.y + p.h = omega arith in
          let begins = begins_below k d p.x (p.y + p.h - 1) short (covers_there p.x (p.y + p.h - 1) (omega arith) (omega arith) (omega arith) (omega arith)) (covers_not p.x (p.y + p.h - 1 + 1) (inr (omega arith)))
          (fit.filled p.x (p.y + p.h - 1 + 1) (omega (arith, across)) (omega (arith, down))) in
          inl (sum_even p.y p.h on_its_grid.1 (subst (λ n. n % ctb ≡ 0) next begins))
    ]

    its_samples : AreItsSamples placed ctb p
    its_samples = record {
      left = on_grid ctb p.x on_its_grid.0;
      top = on_grid ctb p.y on_its_grid.1;
      wide = its_size ctb p.x p.w (frame_width placed) some on_its_grid.0 across ends_across;
      high = its_size ctb p.y p.h (frame_height placed) some on_its_grid.1 down ends_down;
    }

pub border_is_regions : BorderIsRegions
border_is_regions placed ctb some fit filled = λ k d short. its_samples placed ctb some fit k d short (get_or placed k d) refl (filled k d short).0 (filled k d short).1
