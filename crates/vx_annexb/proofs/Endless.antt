-- A unit that is too long already: what its bytes so far are refused for, and what it is refused for as it goes on.
use Rattle.std.proofs.Common.{◌≡◌, ℕ, ◌+◌, ◌-◌, ◌<◌, ◌≤◌, inl, inr, List, ◌++◌, length, drop, slice_index, sym, ap, ◌∙◌, arith, ⊎_elim, refl, get_or-drop, length-append, length-drop}
use Rattle.std.proofs.lemmas.Bool.{cases_lt}
use Rattle.vx_bits.specs.declared.refusal.Refusal.{Refusal}
use Rattle.vx_bits.specs.declared.refusal.Refusal.TheVariants.{Framing, Limit}
use Rattle.vx_bits.specs.declared.rules.TheConstants.{BAD_EMULATION, LONG_UNIT}
use Rattle.vx_annexb.specs.NalUnit.{HasHeader}
use Rattle.vx_annexb.specs.Places.{IsFirstFrom}
use Rattle.vx_annexb.specs.Emulation.{BreaksRule}
use Rattle.vx_bits.specs.Limits.{unit_limit}
use Rattle.vx_annexb.specs.ByteStream.{RefusesUnit}
use Rattle.vx_annexb.proofs.Places.{index_on, mark_on, mark_stream, mark_kept}
use Rattle.vx_annexb.proofs.EmulationBytes.{emulation_is, emulation_from, same_emulation, breaks_before}

-- a byte that breaks a rule stands among the bytes
breaks_within : (n : List ℕ) (k : ℕ) → BreaksRule n k → k < length n
breaks_within n k (inl x) = omega (arith, x.0, x.1.within)
breaks_within n k (inr x) = x.1

-- the bytes go on
module _ (n more : List ℕ) where
  breaks_on : (k : ℕ) → BreaksRule n k → BreaksRule (n ++ more) k
  breaks_on k (inl x) = inl (x.0, mark_on n more 2 (k - 2) x.1)
  breaks_on k (inr x) = inr (x.0, omega (arith, x.1, length-append n more), same_emulation (n ++ more) n (k - 1) (λ i le. index_on n more i (omega (arith, x.1, x.0))) ∙ x.2, rw (index_on n more k x.1) x.3)

  header_on : HasHeader n → HasHeader (n ++ more)
  header_on h =
      let a = index_on n more 0 (omega (arith, h.bytes)) in
      let b = index_on n more 1 (omega (arith, h.bytes)) in
      record { bytes = omega (arith, h.bytes, length-append n more); forbidden = rw a h.forbidden; temporal = rw b h.temporal }

  header_before : 2 ≤ length n → HasHeader (n ++ more) → HasHeader n
  header_before two h =
      let a = index_on n more 0 (omega arith) in
      let b = index_on n more 1 (omega arith) in
      record { bytes = two; forbidden = rw a at h.forbidden; temporal = rw b at h.temporal }

-- the first d bytes are dropped
module _ (u : List ℕ) (d : ℕ) (le : d ≤ length u) where
  dropped_len : length u ≡ d + length (drop d u)
  dropped_len = omega (arith, length-drop d u)

  breaks_undropped : (k : ℕ) → BreaksRule (drop d u) k → BreaksRule u (d + k)
  breaks_undropped k (inl x) =
      let e : d + (k - 2) ≡ d + k - 2 = omega (arith, x.0) in
      inl (omega (arith, x.0), rw e at (mark_stream u (drop d u) d refl dropped_len 2 (k - 2) x.1))
  breaks_undropped k (inr x) =
      let at = emulation_is (drop d u) (k - 1) x.2 in
      let e0 : d + (k - 1) ≡ d + k - 1 = omega (arith, x.0) in
      let e1 : d + (k - 1 - 1) ≡ d + k - 1 - 1 = omega (arith, at.two) in
      let e2 : d + (k - 1 - 2) ≡ d + k - 1 - 2 = omega (arith, at.two) in
      let three : 3 < slice_index u (d + k) = rw (get_or-drop d u k 0) at x.3 in (
      inr (
        omega (arith, x.0),
        omega (arith, x.1, dropped_len),
        emulation_from u (d + k - 1) (record {
          two = omega (arith, at.two);
          first = ap (slice_index u) (sym e2) ∙ sym (get_or-drop d u (k - 1 - 2) 0) ∙ at.first;
          second = ap (slice_index u) (sym e1) ∙ sym (get_or-drop d u (k - 1 - 1) 0) ∙ at.second;
          three = ap (slice_index u) (sym e0) ∙ sym (get_or-drop d u (k - 1) 0) ∙ at.three;
        }),
        three,
      ))

  breaks_dropped : (k : ℕ) → 3 ≤ k → BreaksRule u (d + k) → BreaksRule (drop d u) k
  breaks_dropped k three (inl x) =
      let e : d + k - 2 - d ≡ k - 2 = omega arith in
      inl (omega arith, rw e at (mark_kept u (drop d u) d refl dropped_len 2 (d + k - 2) (omega arith) x.1))
  breaks_dropped k three (inr x) =
      let at = emulation_is u (d + k - 1) x.2 in
      let e0 : d + (k - 1) ≡ d + k - 1 = omega arith in
      let e1 : d + (k - 1 - 1) ≡ d + k - 1 - 1 = omega arith in
      let e2 : d + (k - 1 - 2) ≡ d + k - 1 - 2 = omega arith in
      let high : 3 < slice_index (drop d u) k = rw (get_or-drop d u k 0) x.3 in (
      inr (
        omega arith,
        omega (arith, x.1, dropped_len),
        emulation_from (drop d u) (k - 1) (record {
          two = omega arith;
          first = get_or-drop d u (k - 1 - 2) 0 ∙ ap (slice_index u) e2 ∙ at.first;
          second = get_or-drop d u (k - 1 - 1) 0 ∙ ap (slice_index u) e1 ∙ at.second;
          three = get_or-drop d u (k - 1) 0 ∙ ap (slice_index u) e0 ∙ at.three;
        }),
        high,
      ))

-- The bytes n of a unit are too many, and all but their last three are given up; the unit goes on.
module _ (n more : List ℕ) (place d : ℕ) (long : unit_limit < length n) (is : length n ≡ d + 3) where
  -- what isn't for its length stays
  pub refuses_longer : (r : Refusal) → RefusesUnit n place r → (r ≡ Limit LONG_UNIT → ⊥) → RefusesUnit (n ++ more) place r
  refuses_longer r (inl h) other = inl ((λ x. h.0 (header_before n more (omega arith) x)), h.1)
  refuses_longer r (inr (inl h)) other =
      let k = h.1.0 in
      let first = h.1.1 in
      let within = breaks_within n k first.here in
      inr (inl (
        header_on n more h.0,
        (
          k,
          record { order = first.order; here = breaks_on n more k first.here; before = λ j le lt b. first.before j le lt (breaks_before n more j (omega arith) b) },
          h.1.2,
        ),
      ))
  refuses_longer r (inr (inr h)) other = absurd (other h.3)

  -- before the first byte that breaks a rule in what is kept none breaks one
  none_before : ((k : ℕ) → ¬ BreaksRule n k) → (k : ℕ) → ((j : ℕ) → j < k → ¬ BreaksRule (drop d (n ++ more)) j) → (j : ℕ) → j < d + k → ¬ BreaksRule (n ++ more) j
  none_before none k kept j lt b =
      let low : d ≤ length (n ++ more) = omega (arith, length-append n more) in
      ⊎_elim
      (λ inside. none j (breaks_before n more j inside b))
      (λ behind.
      let e : d + (j - d) ≡ j = omega arith in
      kept (j - d) (omega arith) (breaks_dropped (n ++ more) d low (j - d) (omega arith) (rw e b)))
      (cases_lt j (length n))

  -- a byte that breaks a rule comes before the length
  pub refuses_at : (r : Refusal) (code : ℕ) → r ≡ Limit code → RefusesUnit n place r → (k : ℕ) → IsFirstFrom (BreaksRule (drop d (n ++ more))) 0 k → RefusesUnit (n ++ more) place (Framing BAD_EMULATION (place + d + k))
  refuses_at r code same (inl h) k first = let e = h.1 in cc
  refuses_at r code same (inr (inl h)) k first = let e = h.1.2 in cc
  refuses_at r code same (inr (inr h)) k first =
      let low : d ≤ length (n ++ more) = omega (arith, length-append n more) in
      let e : place + d + k ≡ place + (d + k) = omega arith in
      inr (inl (
        header_on n more h.0,
        (
          d + k,
          record { order = omega arith; here = breaks_undropped (n ++ more) d low k first.here; before = λ j le lt. none_before h.1 k (λ i below. first.before i (omega arith) below) j lt },
          ap (λ p. Framing BAD_EMULATION p) e,
        ),
      ))

  -- else it stays too long
  pub refuses_still : (r : Refusal) (code : ℕ) → r ≡ Limit code → RefusesUnit n place r → ((k : ℕ) → ¬ BreaksRule (drop d (n ++ more)) k) → RefusesUnit (n ++ more) place r
  refuses_still r code same (inl h) none = let e = h.1 in cc
  refuses_still r code same (inr (inl h)) none = let e = h.1.2 in cc
  refuses_still r code same (inr (inr h)) none =
      inr (inr (
        header_on n more h.0,
        (λ j b. none_before h.1 (j + 1) (λ i below. none i) j (omega arith) b),
        omega (arith, length-append n more),
        h.3,
      ))
