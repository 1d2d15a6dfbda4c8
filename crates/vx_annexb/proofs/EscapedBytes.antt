-- Bytes that grow, with emulation bytes where they are needed.
use Rattle.std.proofs.Common.{◌≡◌, ℕ, zero, suc, ◌+◌, ◌-◌, ◌<◌, ◌≤◌, ◌⊎◌, inl, inr, true, false, List, [], ◌∷◌, ◌++◌, length, take, slice_index, sym, ap, subst, ◌∙◌, arith, refl, ⊎_elim}
use Rattle.std.proofs.lemmas.Bool.{cases_lt, cases_eq, false_from_ne_true, false≢true}
use Rattle.std.proofs.lemmas.List.{get_or_append_left, get_or_push, length_push, take_more, take_all}
use Rattle.vx_bits.specs.Codes.{EndsInNoZero}
use Rattle.vx_annexb.specs.Emulation.{is_emulation, BreaksRule, unescaped_to, unescaped, IsEscaped}
use Rattle.vx_annexb.specs.Laws.{EscapedExists}
use Rattle.vx_annexb.proofs.EmulationBytes.{emulation_is, emulation_from, same_emulation, same_unescaped, unescaped_skip, unescaped_keep, breaks_before}

-- z zeros stand at the end of n, and no more
pub record EndsInZeros (n : List ℕ) (z : ℕ) : Type 0 where
  pub within : z ≤ length n
  pub zeros : (k : ℕ) → k < z → slice_index n (length n - 1 - k) ≡ 0
  pub more : z < length n → slice_index n (length n - 1 - z) ≡ 0 → ⊥

-- n is the first i bytes of r with their emulation bytes, and ends in z zeros
pub record Escapes (r n : List ℕ) (i z : ℕ) : Type 0 where
  pub rules : (k : ℕ) → ¬ BreaksRule n k
  pub plain : is_emulation n (length n - 1) ≡ false
  pub is : unescaped n ≡ take i r
  pub ends : EndsInZeros n z
  pub few : z ≤ 2

-- one more byte
module _ (n : List ℕ) (b : ℕ) where
  old_index : (k : ℕ) → k < length n → slice_index (n ++ b ∷ []) k ≡ slice_index n k
  old_index k lt = get_or_append_left n (b ∷ []) 0 k lt

  new_index : slice_index (n ++ b ∷ []) (length n) ≡ b
  new_index = get_or_push n b 0 (length n) refl

  old_emulation : (k : ℕ) → k < length n → is_emulation (n ++ b ∷ []) k ≡ is_emulation n k
  old_emulation k lt = same_emulation (n ++ b ∷ []) n k (λ i le. old_index i (omega arith))

  push_rules : ((k : ℕ) → ¬ BreaksRule n k) → ¬ BreaksRule (n ++ b ∷ []) (length n) → (k : ℕ) → ¬ BreaksRule (n ++ b ∷ []) k
  push_rules old new k broken = ⊎_elim
      (λ low. old k (breaks_before n (b ∷ []) k low broken))
      (λ high. ⊎_elim
      (λ here. let e : length n ≡ k = omega arith in let P : ℕ → Type 0 = λ j. ¬ BreaksRule (n ++ b ∷ []) j in (subst P e new) broken)
      (λ past. ⊎_elim (λ x. omega (arith, x.0, x.1.within, length_push n b)) (λ x. omega (arith, x.1, length_push n b)) broken)
      (cases_lt k (length n + 1)))
      (cases_lt k (length n))

  unescaped_before : unescaped_to (n ++ b ∷ []) (length n) ≡ unescaped n
  unescaped_before = same_unescaped (n ++ b ∷ []) n (length n) old_index

  push_plain : is_emulation (n ++ b ∷ []) (length n) ≡ false → unescaped (n ++ b ∷ []) ≡ unescaped n ++ b ∷ []
  push_plain e =
      let len = length_push n b in
      let keep = unescaped_keep (n ++ b ∷ []) (length n) e in
      rw len (keep ∙ (rw (unescaped_before, new_index) refl))

  push_skip : is_emulation (n ++ b ∷ []) (length n) ≡ true → unescaped (n ++ b ∷ []) ≡ unescaped n
  push_skip e =
      let len = length_push n b in
      let skip = unescaped_skip (n ++ b ∷ []) (length n) e in
      rw len (skip ∙ unescaped_before)

  last_is : length (n ++ b ∷ []) - 1 ≡ length n
  last_is = omega (arith, length_push n b)

  push_other : (b ≡ 0 → ⊥) → EndsInZeros (n ++ b ∷ []) 0
  push_other other = record {
    within = omega arith;
    zeros = λ k lt. absurd (omega arith);
    more = λ lt z. let e : length (n ++ b ∷ []) - 1 - 0 ≡ length n = omega (arith, length_push n b) in other (sym new_index ∙ (rw e at z));
  }

  push_zero : (z : ℕ) → b ≡ 0 → EndsInZeros n z → EndsInZeros (n ++ b ∷ []) (z + 1)
  push_zero z zero_is ends = record {
    within = omega (arith, length_push n b, ends.within);
    zeros = λ k lt. ⊎_elim
        (λ first. let e : length (n ++ b ∷ []) - 1 - k ≡ length n = omega (arith, length_push n b) in rw e (new_index ∙ zero_is))
        (λ later.
        let e : length (n ++ b ∷ []) - 1 - k ≡ length n - 1 - (k - 1) = omega (arith, length_push n b, ends.within) in
        rw e (old_index (length n - 1 - (k - 1)) (omega (arith, ends.within)) ∙ ends.zeros (k - 1) (omega arith)))
        (cases_lt k 1);
    more = λ lt same.
        let e : length (n ++ b ∷ []) - 1 - (z + 1) ≡ length n - 1 - z = omega (arith, length_push n b) in
        let inside : z < length n = omega (arith, length_push n b) in
        ends.more inside (sym (old_index (length n - 1 - z) (omega arith)) ∙ (rw e at same));
  }

two_zeros : (n : List ℕ) (z : ℕ) → EndsInZeros n z → 2 ≤ length n → slice_index n (length n - 1) ≡ 0 → slice_index n (length n - 2) ≡ 0 → 2 ≤ z
two_zeros n z ends two last before = ⊎_elim
    (λ less. ⊎_elim
    (λ none. let e : length n - 1 - z ≡ length n - 1 = omega arith in absurd (ends.more (omega arith) (rw e last)))
    (λ one. let e : length n - 1 - z ≡ length n - 2 = omega arith in absurd (ends.more (omega arith) (rw e before)))
    (cases_lt z 1))
    (λ enough. enough)
    (cases_lt z 2)

-- the next byte of r is taken as it is
module _ (r n : List ℕ) (i z : ℕ) (so_far : Escapes r n i z) (b : ℕ) (within : i < length r) (is : slice_index r i ≡ b) (free : (2 ≤ z) → 3 < b) where
  zeros_before : (2 ≤ length n) → slice_index (n ++ b ∷ []) (length n - 2) ≡ 0 → slice_index (n ++ b ∷ []) (length n - 1) ≡ 0 → 2 ≤ z
  zeros_before two first second = two_zeros n z so_far.ends two (sym (old_index n b (length n - 1) (omega arith)) ∙ second) (sym (old_index n b (length n - 2) (omega arith)) ∙ first)

  keep_plain : is_emulation (n ++ b ∷ []) (length n) ≡ false
  keep_plain = false_from_ne_true (is_emulation (n ++ b ∷ []) (length n)) (λ e.
      let at = emulation_is (n ++ b ∷ []) (length n) e in
      let big = free (zeros_before at.two at.first at.second) in
      omega (arith, big, at.three, new_index n b))

  keep_rule : ¬ BreaksRule (n ++ b ∷ []) (length n)
  keep_rule (inl x) =
      let e1 : length n - 2 + 1 ≡ length n - 1 = omega (arith, x.0) in
      let e2 : length n - 2 + 2 ≡ length n = omega (arith, x.0) in
      let second = rw e1 at x.1.second in
      let third = rw e2 at x.1.third in
      let big = free (zeros_before x.0 x.1.first second) in
      omega (arith, big, third, new_index n b)
  keep_rule (inr x) = false≢true (sym so_far.plain ∙ sym (old_emulation n b (length n - 1) (omega (arith, x.0))) ∙ x.2)

  keep_byte : (w : ℕ) → EndsInZeros (n ++ b ∷ []) w → w ≤ 2 → Escapes r (n ++ b ∷ []) (i + 1) w
  keep_byte w ends few = record {
    rules = push_rules n b so_far.rules keep_rule;
    plain = rw (last_is n b) keep_plain;
    is = push_plain n b keep_plain ∙ ap (λ xs. xs ++ b ∷ []) so_far.is ∙ ap (λ (x : ℕ). take i r ++ x ∷ []) (sym is) ∙ sym (take_more r i 0 within);
    ends = ends;
    few = few;
  }

  pub keep_other : (b ≡ 0 → ⊥) → Escapes r (n ++ b ∷ []) (i + 1) 0
  keep_other other = keep_byte 0 (push_other n b other) (omega arith)

  pub keep_zero : b ≡ 0 → Escapes r (n ++ b ∷ []) (i + 1) (z + 1)
  keep_zero zero_is = keep_byte (z + 1) (push_zero n b z zero_is so_far.ends)
      (⊎_elim (λ less. omega arith) (λ enough. let big = free enough in omega (arith, big)) (cases_lt z 2))

-- an emulation byte comes first
module _ (r n : List ℕ) (i z : ℕ) (so_far : Escapes r n i z) (b : ℕ) (within : i < length r) (is : slice_index r i ≡ b) (two : 2 ≤ z) (small : b ≤ 3) where
  marked : List ℕ
  marked = n ++ 3 ∷ []

  here : is_emulation (n ++ 3 ∷ []) (length n) ≡ true
  here =
      let le : 2 ≤ length n = omega (arith, so_far.ends.within) in
      let e : length n - 1 - 0 ≡ length n - 1 = omega arith in
      let f : length n - 1 - 1 ≡ length n - 2 = omega arith in
      let second = rw e at (so_far.ends.zeros 0 (omega arith)) in
      let first = rw f at (so_far.ends.zeros 1 (omega arith)) in
      emulation_from (n ++ 3 ∷ []) (length n) (record {
        two = le;
        first = old_index n 3 (length n - 2) (omega arith) ∙ first;
        second = old_index n 3 (length n - 1) (omega arith) ∙ second;
        three = new_index n 3;
      })

  mark_rule : ¬ BreaksRule (n ++ 3 ∷ []) (length n)
  mark_rule (inl x) =
      let e2 : length n - 2 + 2 ≡ length n = omega (arith, x.0) in
      let third = rw e2 at x.1.third in
      omega (arith, third, new_index n 3)
  mark_rule (inr x) = false≢true (sym so_far.plain ∙ sym (old_emulation n 3 (length n - 1) (omega (arith, x.0))) ∙ x.2)

  len3 : length (n ++ 3 ∷ []) ≡ length n + 1
  len3 = length_push n 3

  three_at : slice_index ((n ++ 3 ∷ []) ++ b ∷ []) (length n) ≡ 3
  three_at = old_index (n ++ 3 ∷ []) b (length n) (omega (arith, len3)) ∙ new_index n 3

  behind_plain : is_emulation ((n ++ 3 ∷ []) ++ b ∷ []) (length (n ++ 3 ∷ [])) ≡ false
  behind_plain = false_from_ne_true (is_emulation ((n ++ 3 ∷ []) ++ b ∷ []) (length (n ++ 3 ∷ []))) (λ e.
      let at = emulation_is ((n ++ 3 ∷ []) ++ b ∷ []) (length (n ++ 3 ∷ [])) e in
      let f : length (n ++ 3 ∷ []) - 1 ≡ length n = omega (arith, len3) in
      let second = rw f at at.second in
      omega (arith, second, three_at))

  behind_rule : ¬ BreaksRule ((n ++ 3 ∷ []) ++ b ∷ []) (length (n ++ 3 ∷ []))
  behind_rule (inl x) =
      let f : length (n ++ 3 ∷ []) - 2 + 1 ≡ length n = omega (arith, len3, x.0) in
      let second = rw f at x.1.second in
      omega (arith, second, three_at)
  behind_rule (inr x) = omega (arith, x.3, small, new_index (n ++ 3 ∷ []) b)

  insert_byte : (w : ℕ) → EndsInZeros ((n ++ 3 ∷ []) ++ b ∷ []) w → w ≤ 2 → Escapes r ((n ++ 3 ∷ []) ++ b ∷ []) (i + 1) w
  insert_byte w ends few = record {
    rules = push_rules (n ++ 3 ∷ []) b (push_rules n 3 so_far.rules mark_rule) behind_rule;
    plain = rw (last_is (n ++ 3 ∷ []) b) behind_plain;
    is = push_plain (n ++ 3 ∷ []) b behind_plain ∙ ap (λ xs. xs ++ b ∷ []) (push_skip n 3 here ∙ so_far.is) ∙ ap (λ (x : ℕ). take i r ++ x ∷ []) (sym is) ∙ sym (take_more r i 0 within);
    ends = ends;
    few = few;
  }

  pub insert_other : (b ≡ 0 → ⊥) → Escapes r ((n ++ 3 ∷ []) ++ b ∷ []) (i + 1) 0
  insert_other other = insert_byte 0 (push_other (n ++ 3 ∷ []) b other) (omega arith)

  pub insert_zero : b ≡ 0 → Escapes r ((n ++ 3 ∷ []) ++ b ∷ []) (i + 1) 1
  insert_zero zero_is =
      let none : EndsInZeros (n ++ 3 ∷ []) 0 = push_other n 3 (λ e. omega (arith, e)) in
      let e : 0 + 1 ≡ 1 = omega arith in
      let P : ℕ → Type 0 = λ w. EndsInZeros ((n ++ 3 ∷ []) ++ b ∷ []) w in
      insert_byte 1 (subst P e (push_zero (n ++ 3 ∷ []) b 0 zero_is none)) (omega arith)

-- one turn: an emulation byte or none, and then the byte
pub escape_turn : (r n m : List ℕ) (i z y w : ℕ) → Escapes r n i z → i < length r
    → ((2 ≤ z) × (slice_index r i ≤ 3) × (m ≡ n ++ 3 ∷ []) × (y ≡ 0)) ⊎ ((2 ≤ z → 3 < slice_index r i) × (m ≡ n) × (y ≡ z))
    → ((slice_index r i ≡ 0) × (w ≡ y + 1)) ⊎ ((slice_index r i ≡ 0 → ⊥) × (w ≡ 0))
    → Escapes r (m ++ slice_index r i ∷ []) (i + 1) w
escape_turn r n m i z y w e lt (inl a) (inl c) =
    let one : w ≡ 1 = omega (arith, c.1, a.3) in
    rw (a.2, one) (insert_zero r n i z e (slice_index r i) lt refl a.0 a.1 c.0)
escape_turn r n m i z y w e lt (inl a) (inr c) = rw (a.2, c.1) (insert_other r n i z e (slice_index r i) lt refl a.0 a.1 c.0)
escape_turn r n m i z y w e lt (inr a) (inl c) = rw (a.1, c.1, a.2) (keep_zero r n i z e (slice_index r i) lt refl a.0 c.0)
escape_turn r n m i z y w e lt (inr a) (inr c) = rw (a.1, c.1) (keep_other r n i z e (slice_index r i) lt refl a.0 c.0)

pub escape_start : (r : List ℕ) → Escapes r [] 0 0
escape_start r = record {
  rules = λ k. ⊎_elim (λ x. omega (arith, x.1.within)) (λ x. omega (arith, x.1));
  plain = refl;
  is = refl;
  ends = record { within = omega arith; zeros = λ k lt. absurd (omega arith); more = λ lt. absurd (omega arith) };
  few = omega arith;
}

-- all bytes of r were taken
pub escape_end : (r n : List ℕ) (z : ℕ) → EndsInNoZero r → Escapes r n (length r) z → IsEscaped r n
escape_end r n z last e =
    let all : unescaped n ≡ r = e.is ∙ take_all (length r) r (omega arith) in
    record {
      rules = e.rules;
      last = λ k len zero_is.
          let f : length n - 1 ≡ k = omega arith in
          let plain = rw f at e.plain in
          let split : unescaped n ≡ unescaped_to n k ++ slice_index n k ∷ [] = rw len (unescaped_keep n k plain) in
          let same : r ≡ unescaped_to n k ++ slice_index n k ∷ [] = sym all ∙ split in
          let count = ap length same ∙ length_push (unescaped_to n k) (slice_index n k) in
          last (length (unescaped_to n k)) count (ap (λ xs. slice_index xs (length (unescaped_to n k))) same ∙ get_or_push (unescaped_to n k) (slice_index n k) 0 (length (unescaped_to n k)) refl ∙ zero_is);
      is = sym all;
    }

-- Some bytes escape those of r from place i on, if others escape those before.
Some_escape : List ℕ → Type 0
Some_escape r = (n : List ℕ) × (z : ℕ) × Escapes r n (length r) z

escape_step : (r n : List ℕ) (i z : ℕ) → Escapes r n i z → i < length r → (m : List ℕ) × (w : ℕ) × Escapes r m (i + 1) w
escape_step r n i z e lt =
    let b = slice_index r i in
    ⊎_elim
    (λ less.
    let free : 2 ≤ z → 3 < b = λ two. absurd (omega arith) in
    ⊎_elim
    (λ zero_is. (n ++ b ∷ [], z + 1, keep_zero r n i z e b lt refl free zero_is))
    (λ other. (n ++ b ∷ [], 0, keep_other r n i z e b lt refl free other))
    (cases_eq b 0))
    (λ two. ⊎_elim
    (λ big.
    ⊎_elim
    (λ zero_is. absurd (omega arith))
    (λ other. (n ++ b ∷ [], 0, keep_other r n i z e b lt refl (λ _. big) other))
    (cases_eq b 0))
    (λ small. ⊎_elim
    (λ zero_is. ((n ++ 3 ∷ []) ++ b ∷ [], 1, insert_zero r n i z e b lt refl two small zero_is))
    (λ other. ((n ++ 3 ∷ []) ++ b ∷ [], 0, insert_other r n i z e b lt refl two small other))
    (cases_eq b 0))
    (cases_lt 3 b))
    (cases_lt z 2)

escape_from : (r : List ℕ) (d i : ℕ) (n : List ℕ) (z : ℕ) → i + d ≡ length r → Escapes r n i z → Some_escape r
unfolding Some_escape
escape_from r zero i n z len e = let all : i ≡ length r = omega arith in let P : ℕ → Type 0 = λ j. Escapes r n j z in (n, z, subst P all e)
escape_from r (suc d) i n z len e =
    let next = escape_step r n i z e (omega arith) in
    escape_from r d (i + 1) next.0 next.1 (omega arith) next.2

pub escaped_exists : EscapedExists
unfolding Some_escape
escaped_exists r last =
    let e = escape_from r (length r) 0 [] 0 (omega arith) (escape_start r) in
    (e.0, escape_end r e.0 e.1 last e.2)
