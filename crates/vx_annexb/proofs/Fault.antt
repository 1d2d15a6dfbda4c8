-- The search for the first byte that emulation prevention rules out, and the unit without its emulation bytes.
use Rattle.std.proofs.Common.{◌≡◌, ℕ, ◌+◌, ◌-◌, ◌<◌, ◌≤◌, inl, inr, true, List, ◌++◌, length, slice_index, slice_range, sym, ap, subst, ◌∙◌, arith, ⊎_elim}
use Rattle.std.proofs.lemmas.Bool.{cases_lt}
use Rattle.vx_annexb.specs.Places.{IsMark, IsFirstFrom}
use Rattle.vx_annexb.specs.Emulation.{is_emulation, BreaksRule, unescaped_to, unescaped}
use Rattle.vx_annexb.proofs.EmulationBytes.{StandsApart, apart_behind, emulation_is, emulation_from, no_emulation, no_break, unescaped_run, unescaped_skip}

-- up to this place no byte breaks a rule, and none of what is searched from there on begins before
pub record IsClear (n : List ℕ) (at : ℕ) : Type 0 where
  pub within : at ≤ length n
  pub apart : StandsApart n at
  pub rules : (k : ℕ) → k ≤ at → ¬ BreaksRule n k

-- as where no mark of at most 3 stands before
pub clear_from : (n : List ℕ) (at : ℕ) → at ≤ length n → ((k : ℕ) → k < at → ¬ IsMark 3 n k) → IsClear n at
clear_from n at within none = record {
  within = within;
  apart = λ j m le. ⊎_elim (λ below. absurd (none j below m)) (λ above. above) (cases_lt j at);
  rules = λ k le. ⊎_elim
      (λ some. no_break n 0 (λ j m le0. omega arith) at (λ j le0 lt. none j lt) k some (omega arith))
      (λ first b. ⊎_elim (λ x. omega (arith, x.0)) (λ x. omega (arith, x.0)) b)
      (cases_lt 0 k);
}

-- a mark behind clear bytes
module _ (n : List ℕ) (at : ℕ) (clear : IsClear n at) (mark : ℕ) (first : IsFirstFrom (IsMark 3 n) at mark) where
  clear_before : (k : ℕ) → k < mark + 2 → ¬ BreaksRule n k
  clear_before k lt = ⊎_elim
      (λ above. no_break n at clear.apart mark first.before k above lt)
      (λ low. clear.rules k low)
      (cases_lt at k)

  pub breaks_at_mark : slice_index n (mark + 2) < 3 → IsFirstFrom (BreaksRule n) 0 (mark + 2)
  breaks_at_mark lt =
      let e : mark + 2 - 2 ≡ mark = omega arith in
      let m : IsMark 2 n mark = record { within = first.here.within; first = first.here.first; second = first.here.second; third = omega (arith, lt) } in
      record { order = omega arith; here = inl (omega arith, rw e m); before = λ k le below. clear_before k below }

  -- from here on the mark is an emulation byte
  module _ (three : slice_index n (mark + 2) ≡ 3) where
    at_mark : is_emulation n (mark + 2) ≡ true
    at_mark =
        let e1 : mark + 2 - 1 ≡ mark + 1 = omega arith in
        let e2 : mark + 2 - 2 ≡ mark = omega arith in
        emulation_from n (mark + 2) (record { two = omega arith; first = rw e2 first.here.first; second = rw e1 first.here.second; three = three })

    mark_clear : ¬ BreaksRule n (mark + 2)
    mark_clear (inl b) = let e : mark + 2 - 2 + 2 ≡ mark + 2 = omega arith in let t = rw e at b.1.third in omega (arith, t, three)
    mark_clear (inr b) =
        let e : mark + 2 - 1 ≡ mark + 1 = omega arith in
        let t = rw e at (emulation_is n (mark + 2 - 1) b.2).three in
        omega (arith, t, first.here.second)

    behind_clear : slice_index n (mark + 3) ≤ 3 → ¬ BreaksRule n (mark + 3)
    behind_clear small (inl b) =
        let e : mark + 3 - 2 + 1 ≡ mark + 2 = omega arith in
        let t = rw e at b.1.second in
        omega (arith, t, three)
    behind_clear small (inr b) = omega (arith, b.3, small)

    -- past the end no byte breaks a rule
    past_clear : length n ≤ mark + 3 → ¬ BreaksRule n (mark + 3)
    past_clear past (inl b) = omega (arith, b.1.within, b.0, past)
    past_clear past (inr b) = omega (arith, b.1, past)

    pub breaks_behind : mark + 3 < length n → 3 < slice_index n (mark + 3) → IsFirstFrom (BreaksRule n) 0 (mark + 3)
    breaks_behind within lt =
        let e : mark + 3 - 1 ≡ mark + 2 = omega arith in
        record {
          order = omega arith;
          here = inr (omega arith, within, rw e at_mark, lt);
          before = λ k le below. ⊎_elim (λ low. clear_before k low) (λ high. let same : mark + 2 ≡ k = omega arith in let P : ℕ → Type 0 = λ j. ¬ BreaksRule n j in subst P same mark_clear) (cases_lt k (mark + 2));
        }

    pub clear_behind : (mark + 3 < length n → slice_index n (mark + 3) ≤ 3) → IsClear n (mark + 3)
    clear_behind small =
        let e : mark + 2 + 1 ≡ mark + 3 = omega arith in
        record {
          within = omega (arith, first.here.within);
          apart = rw e at (apart_behind n (mark + 2) (λ z. omega (arith, z, three)));
          rules = λ k le. ⊎_elim (λ low. clear_before k low) (λ high. ⊎_elim
              (λ middle. let same : mark + 2 ≡ k = omega arith in let P : ℕ → Type 0 = λ j. ¬ BreaksRule n j in subst P same mark_clear)
              (λ last. let same : mark + 3 ≡ k = omega arith in let P : ℕ → Type 0 = λ j. ¬ BreaksRule n j in subst P same (⊎_elim (λ inside. behind_clear (small inside)) (λ outside. past_clear outside) (cases_lt (mark + 3) (length n))))
              (cases_lt k (mark + 3))) (cases_lt k (mark + 2));
        }

-- no mark behind clear bytes
pub clear_all : (n : List ℕ) (at : ℕ) → IsClear n at → ((k : ℕ) → at ≤ k → ¬ IsMark 3 n k) → (k : ℕ) → ¬ BreaksRule n k
clear_all n at clear none k = ⊎_elim
    (λ above. no_break n at clear.apart k (λ j le lt. none j le) k above (omega arith))
    (λ low. clear.rules k low)
    (cases_lt at k)

-- the unit without its emulation bytes, up to a place behind one of them
pub record IsUnescaped (n bytes : List ℕ) (at : ℕ) : Type 0 where
  pub within : at ≤ length n
  pub apart : StandsApart n at
  pub is : bytes ≡ unescaped_to n at

module _ (n bytes : List ℕ) (at : ℕ) (so_far : IsUnescaped n bytes at) where
  pub unescape_step : ((k : ℕ) → ¬ BreaksRule n k) → (mark : ℕ) → IsFirstFrom (IsMark 3 n) at mark → IsUnescaped n (bytes ++ slice_range n at (mark + 2)) (mark + 3)
  unescape_step rules mark first =
      let e2 : mark + 2 - 2 ≡ mark = omega arith in
      let three : slice_index n (mark + 2) ≡ 3 = ⊎_elim
      (λ small. absurd (rules (mark + 2) (inl (omega arith, rw e2 (let m : IsMark 2 n mark = record { within = first.here.within; first = first.here.first; second = first.here.second; third = omega (arith, small) } in m)))))
      (λ large. omega (arith, first.here.third))
      (cases_lt (slice_index n (mark + 2)) 3) in
      let e1 : mark + 2 - 1 ≡ mark + 1 = omega arith in
      let here = emulation_from n (mark + 2) (record { two = omega arith; first = rw e2 first.here.first; second = rw e1 first.here.second; three = three }) in
      let d : at + (mark + 2 - at) ≡ mark + 2 = omega (arith, first.order) in
      let run = unescaped_run n at (mark + 2 - at) (omega (arith, first.here.within)) (λ k le lt. no_emulation n at so_far.apart mark first.before k le (omega arith)) in
      let skip = unescaped_skip n (mark + 2) here in
      let e3 : mark + 2 + 1 ≡ mark + 3 = omega arith in
      record {
        within = omega (arith, first.here.within);
        apart = rw e3 at (apart_behind n (mark + 2) (λ z. omega (arith, z, three)));
        is = ap (λ xs. xs ++ slice_range n at (mark + 2)) so_far.is ∙ sym (rw d at run) ∙ sym (rw e3 at skip);
      }

  pub unescape_end : ((k : ℕ) → at ≤ k → ¬ IsMark 3 n k) → bytes ++ slice_range n at (length n) ≡ unescaped n
  unescape_end none =
      let d : at + (length n - at) ≡ length n = omega (arith, so_far.within) in
      let run = unescaped_run n at (length n - at) (omega (arith, so_far.within)) (λ k le lt. no_emulation n at so_far.apart k (λ j le2 lt2. none j le2) k le (omega arith)) in
      ap (λ xs. xs ++ slice_range n at (length n)) so_far.is ∙ sym (rw d at run)
