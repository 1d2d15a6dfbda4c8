-- The escaped form of bytes is one, and can be split and joined behind a byte that is no zero.
use Rattle.std.proofs.Common.{◌≡◌, ℕ, zero, suc, ◌+◌, ◌-◌, ◌<◌, ◌≤◌, inl, inr, true, false, List, [], ◌∷◌, ◌++◌, length, take, drop, slice_index, sym, ap, ap₂, subst, ◌∙◌, arith, refl, ⊎_elim, add-one, append_assoc, length-append, length-drop, get_or-drop, get_or-take}
use Rattle.std.proofs.lemmas.Bool.{cases_lt, cases_eq, cases_Bool, cases_order, false_from_ne_true, false≢true}
use Rattle.std.proofs.lemmas.List.{get_or_push, get_or-append-add, length_push, take-append-drop, take_at, take_all, drop_at, drop_all, append_cancel_left, append-nil, length-take-le, ext_get_or}
use Rattle.vx_bits.specs.Codes.{EndsInNoZero}
use Rattle.vx_annexb.specs.Emulation.{is_emulation, BreaksRule, unescaped_to, unescaped, IsEscaped}
use Rattle.vx_annexb.specs.Laws.{EscapedIsUnique, EscapedJoins, EscapedSplits, UnescapedJoins}
use Rattle.vx_annexb.specs.Places.{IsFirstFrom}
use Rattle.vx_annexb.proofs.Places.{index_on, mark_kept, mark_on, mark_stream}
use Rattle.vx_annexb.proofs.EmulationBytes.{emulation_is, emulation_from, same_emulation, same_unescaped, unescaped_skip, unescaped_keep, breaks_before}
use Rattle.vx_annexb.proofs.EscapedBytes.{escape_start, escape_end}

-- what was unescaped stays at the front
unescaped_more : (n : List ℕ) (k d : ℕ) → (tail : List ℕ) × (unescaped_to n (k + d) ≡ unescaped_to n k ++ tail)
unescaped_more n k zero = let e : k + 0 ≡ k = omega arith in ([], rw e (sym (append-nil (unescaped_to n k))))
unescaped_more n k (suc d) =
    let e : k + suc d ≡ k + d + 1 = omega arith in
    let before = unescaped_more n k d in
    ⊎_elim
    (λ marked. (before.0, rw e (unescaped_skip n (k + d) marked ∙ before.1)))
    (λ plain. (before.0 ++ slice_index n (k + d) ∷ [], rw e (unescaped_keep n (k + d) plain ∙ ap (λ xs. xs ++ slice_index n (k + d) ∷ []) before.1 ∙ append_assoc (unescaped_to n k) before.0 (slice_index n (k + d) ∷ []))))
    (cases_Bool (is_emulation n (k + d)))

unescaped_front : (n : List ℕ) (k : ℕ) → k ≤ length n → (tail : List ℕ) × (unescaped n ≡ unescaped_to n k ++ tail)
unescaped_front n k le =
    let e : k + (length n - k) ≡ length n = omega arith in
    let more = unescaped_more n k (length n - k) in
    (more.0, rw e at more.1)

-- a byte that is no emulation byte is found again
kept_index : (r n : List ℕ) (k : ℕ) → r ≡ unescaped n → k < length n → is_emulation n k ≡ false → (length (unescaped_to n k) < length r) × (slice_index r (length (unescaped_to n k)) ≡ slice_index n k)
kept_index r n k is within plain =
    let u = unescaped_to n k in
    let front = unescaped_front n (k + 1) (omega arith) in
    let same : r ≡ u ++ (slice_index n k ∷ front.0) = is ∙ front.1 ∙ ap (λ xs. xs ++ front.0) (unescaped_keep n k plain) ∙ append_assoc u (slice_index n k ∷ []) front.0 in
    let j : length u + 0 ≡ length u = omega arith in
    let at = get_or-append-add u (slice_index n k ∷ front.0) 0 0 in
    (omega (arith, ap length same, length-append u (slice_index n k ∷ front.0)), ap (λ xs. slice_index xs (length u)) same ∙ (rw j at at))

-- Two escaped forms of the same bytes that agree up to a place.
module _ (r n m : List ℕ) (en : IsEscaped r n) (em : IsEscaped r m) (k : ℕ) (agree : (i : ℕ) → i < k → slice_index n i ≡ slice_index m i) where
  same_length : length (unescaped_to n k) ≡ length (unescaped_to m k)
  same_length = ap length (same_unescaped n m k agree)

  -- an emulation byte stands in both or in none
  not_in_one : k < length n → k < length m → is_emulation n k ≡ true → is_emulation m k ≡ false → ⊥
  not_in_one inside within marked plain =
      let at = emulation_is n k marked in
      let first : slice_index m (k - 2) ≡ 0 = sym (agree (k - 2) (omega (arith, at.two))) ∙ at.first in
      let second : slice_index m (k - 1) ≡ 0 = sym (agree (k - 1) (omega (arith, at.two))) ∙ at.second in
      let kept = kept_index r m k em.is within plain in
      let e1 : k - 2 + 1 ≡ k - 1 = omega (arith, at.two) in
      let e2 : k - 2 + 2 ≡ k = omega (arith, at.two) in
      let large : 3 < slice_index m k = ⊎_elim
      (λ big. big)
      (λ (small : slice_index m k ≤ 3). ⊎_elim
      (λ three. absurd (false≢true (sym plain ∙ emulation_from m k (record { two = at.two; first = first; second = second; three = three }))))
      (λ (other : slice_index m k ≡ 3 → ⊥). absurd (em.rules k (inl (at.two, record { within = rw e2 within; first = first; second = rw e1 second; third = rw e2 (omega arith) }))))
      (cases_eq (slice_index m k) 3))
      (cases_lt 3 (slice_index m k)) in
      let skip = unescaped_skip n k marked in
      let more : k + 1 < length n = ⊎_elim (λ lt. lt)
      (λ end.
      let e : length n ≡ k + 1 = omega arith in
      let all : r ≡ unescaped_to n (k + 1) = rw e at en.is in
      absurd (omega (arith, ap length all, ap length skip, same_length, kept.0)))
      (cases_lt (k + 1) (length n)) in
      let e : k + 1 - 1 ≡ k = omega arith in
      let next_plain : is_emulation n (k + 1) ≡ false = false_from_ne_true (is_emulation n (k + 1)) (λ t. let z = rw e at (emulation_is n (k + 1) t).second in omega (arith, z, at.three)) in
      let next = kept_index r n (k + 1) en.is more next_plain in
      let place : length (unescaped_to n (k + 1)) ≡ length (unescaped_to m k) = ap length skip ∙ same_length in
      let value : slice_index n (k + 1) ≡ slice_index m k = sym next.1 ∙ ap (slice_index r) place ∙ kept.1 in
      en.rules (k + 1) (inr (omega arith, more, rw e marked, rw value large))

  -- neither ends before the other
  not_longer : length n ≡ k → k < length m → ⊥
  not_longer end within =
      let all : length (unescaped_to n k) ≡ length r = (let e = ap length en.is in let P : ℕ → Type 0 = λ j. length r ≡ length (unescaped_to n j) in sym (subst P end e)) in
      ⊎_elim
      (λ marked.
      let at = emulation_is m k marked in
      let e : length n ≡ k - 1 + 1 = omega (arith, at.two) in
      en.last (k - 1) e (agree (k - 1) (omega (arith, at.two)) ∙ at.second))
      (λ plain. let kept = kept_index r m k em.is within plain in omega (arith, kept.0, same_length, all))
      (cases_Bool (is_emulation m k))

next_same : (r n m : List ℕ) → IsEscaped r n → IsEscaped r m → (k : ℕ) → ((i : ℕ) → i < k → slice_index n i ≡ slice_index m i) → k < length n → k < length m → slice_index n k ≡ slice_index m k
next_same r n m en em k agree inside within =
    let back : (i : ℕ) → i < k → slice_index m i ≡ slice_index n i = λ i lt. sym (agree i lt) in
    ⊎_elim
    (λ a. ⊎_elim
    (λ c. (emulation_is n k a).three ∙ sym (emulation_is m k c).three)
    (λ c. absurd (not_in_one r n m en em k agree inside within a c))
    (cases_Bool (is_emulation m k)))
    (λ a. ⊎_elim
    (λ c. absurd (not_in_one r m n em en k back within inside c a))
    (λ c.
    let x = kept_index r n k en.is inside a in
    let y = kept_index r m k em.is within c in
    sym x.1 ∙ ap (slice_index r) (same_length r n m en em k agree) ∙ y.1)
    (cases_Bool (is_emulation m k)))
    (cases_Bool (is_emulation n k))

agree_to : (r n m : List ℕ) → IsEscaped r n → IsEscaped r m → (k : ℕ) → k ≤ length n → k ≤ length m → (i : ℕ) → i < k → slice_index n i ≡ slice_index m i
agree_to r n m en em zero a c i lt = absurd (omega arith)
agree_to r n m en em (suc k) a c i lt =
    let before = agree_to r n m en em k (omega arith) (omega arith) in
    ⊎_elim (λ low. before i low) (λ high. let same : k ≡ i = omega arith in let P : ℕ → Type 0 = λ j. slice_index n j ≡ slice_index m j in subst P same (next_same r n m en em k before (omega arith) (omega arith))) (cases_lt i k)

pub escaped_unique : EscapedIsUnique
escaped_unique r n m en em = ⊎_elim
    (λ same. ext_get_or 0 n m same (agree_to r n m en em (length n) (omega arith) (omega arith)))
    (λ other. ⊎_elim
    (λ shorter. absurd (not_longer r n m en em (length n) (agree_to r n m en em (length n) (omega arith) (omega arith)) refl shorter))
    (λ longer. absurd (not_longer r m n em en (length m) (agree_to r m n em en (length m) (omega arith) (omega arith)) refl longer))
    other)
    (cases_order (length n) (length m))

-- what was unescaped ends with the last byte, where it doesn't end in 00
push_no_zero : (xs : List ℕ) (b : ℕ) → EndsInNoZero (xs ++ b ∷ []) → b ≡ 0 → ⊥
push_no_zero xs b last z = last (length xs) (length_push xs b) (get_or_push xs b 0 (length xs) refl ∙ z)

-- a place behind which what was unescaped doesn't end in 00
module _ (n : List ℕ) (j : ℕ) (last : EndsInNoZero (unescaped_to n (j + 1))) where
  last_plain : is_emulation n j ≡ false
  last_plain = false_from_ne_true (is_emulation n j) (λ e.
      let at = emulation_is n j e in
      let i : j - 1 + 1 ≡ j = omega (arith, at.two) in
      let zero_plain : is_emulation n (j - 1) ≡ false = false_from_ne_true (is_emulation n (j - 1)) (λ f. let three = (emulation_is n (j - 1) f).three in omega (arith, three, at.second)) in
      let ends : unescaped_to n (j + 1) ≡ unescaped_to n (j - 1) ++ slice_index n (j - 1) ∷ [] = unescaped_skip n j e ∙ ap (unescaped_to n) (sym i) ∙ unescaped_keep n (j - 1) zero_plain in
      let P : List ℕ → Type 0 = λ xs. EndsInNoZero xs in
      push_no_zero (unescaped_to n (j - 1)) (slice_index n (j - 1)) (subst P ends last) at.second)

  last_nonzero : slice_index n j ≡ 0 → ⊥
  last_nonzero =
      let P : List ℕ → Type 0 = λ xs. EndsInNoZero xs in
      push_no_zero (unescaped_to n j) (slice_index n j) (subst P (unescaped_keep n j last_plain) last)

-- Behind a byte that is no zero and no emulation byte.
module _ (n : List ℕ) (k : ℕ) (within : k ≤ length n) (behind : 0 < k → slice_index n (k - 1) ≡ 0 → ⊥) (some : 0 < k) where
  shift : (i : ℕ) → slice_index (drop k n) i ≡ slice_index n (k + i)
  shift i = get_or-drop k n i 0

  emulation_on : (i : ℕ) → is_emulation (drop k n) i ≡ true → is_emulation n (k + i) ≡ true
  emulation_on i e =
      let at = emulation_is (drop k n) i e in
      let e1 : k + (i - 1) ≡ k + i - 1 = omega (arith, at.two) in
      let e2 : k + (i - 2) ≡ k + i - 2 = omega (arith, at.two) in
      emulation_from n (k + i) (record {
        two = omega (arith, at.two);
        first = rw (← e2) (sym (shift (i - 2)) ∙ at.first);
        second = rw (← e1) (sym (shift (i - 1)) ∙ at.second);
        three = sym (shift i) ∙ at.three;
      })

  emulation_back : (i : ℕ) → is_emulation n (k + i) ≡ true → is_emulation (drop k n) i ≡ true
  emulation_back i e =
      let at = emulation_is n (k + i) e in
      let two : 2 ≤ i = ⊎_elim
      (λ less. ⊎_elim
      (λ none. let f : k + i - 1 ≡ k - 1 = omega arith in absurd (behind some (rw f at at.second)))
      (λ one. let f : k + i - 2 ≡ k - 1 = omega arith in absurd (behind some (rw f at at.first)))
      (cases_lt i 1))
      (λ enough. enough)
      (cases_lt i 2) in
      let e1 : k + i - 1 ≡ k + (i - 1) = omega arith in
      let e2 : k + i - 2 ≡ k + (i - 2) = omega arith in
      emulation_from (drop k n) i (record {
        two = two;
        first = shift (i - 2) ∙ (rw e2 at at.first);
        second = shift (i - 1) ∙ (rw e1 at at.second);
        three = shift i ∙ at.three;
      })

  emulation_shift : (i : ℕ) → is_emulation n (k + i) ≡ is_emulation (drop k n) i
  emulation_shift i = ⊎_elim
      (λ t. t ∙ sym (emulation_back i t))
      (λ f. f ∙ sym (false_from_ne_true (is_emulation (drop k n) i) (λ t. false≢true (sym f ∙ emulation_on i t))))
      (cases_Bool (is_emulation n (k + i)))

  unescaped_shift : (d : ℕ) → unescaped_to n (k + d) ≡ unescaped_to n k ++ unescaped_to (drop k n) d
  unescaped_shift zero = let e : k + 0 ≡ k = omega arith in rw e (sym (append-nil (unescaped_to n k)))
  unescaped_shift (suc d) =
      let e : k + suc d ≡ k + d + 1 = omega arith in
      let before = unescaped_shift d in
      ⊎_elim
      (λ marked.
      let skip : unescaped_to (drop k n) (suc d) ≡ unescaped_to (drop k n) d = (let f = unescaped_skip (drop k n) d (sym (emulation_shift d) ∙ marked) in rw add-one at f) in
      rw e (unescaped_skip n (k + d) marked ∙ before ∙ ap (λ xs. unescaped_to n k ++ xs) (sym skip)))
      (λ plain.
      let keep : unescaped_to (drop k n) (suc d) ≡ unescaped_to (drop k n) d ++ slice_index (drop k n) d ∷ [] = (let f = unescaped_keep (drop k n) d (sym (emulation_shift d) ∙ plain) in rw add-one at f) in
      rw e (unescaped_keep n (k + d) plain ∙ ap (λ xs. xs ++ slice_index n (k + d) ∷ []) before ∙ append_assoc (unescaped_to n k) (unescaped_to (drop k n) d) (slice_index n (k + d) ∷ [])
      ∙ ap (λ xs. unescaped_to n k ++ xs) (ap (λ (x : ℕ). unescaped_to (drop k n) d ++ x ∷ []) (sym (shift d)) ∙ sym keep)))
      (cases_Bool (is_emulation n (k + d)))

  rest_rules : ((j : ℕ) → ¬ BreaksRule n j) → (j : ℕ) → ¬ BreaksRule (drop k n) j
  rest_rules rules j (inl x) =
      let e : k + j - 2 ≡ k + (j - 2) = omega (arith, x.0) in
      let len : length n ≡ k + length (drop k n) = omega (arith, length-drop k n) in
      rules (k + j) (inl (omega (arith, x.0), rw e (mark_stream n (drop k n) k refl len 2 (j - 2) x.1)))
  rest_rules rules j (inr x) =
      let e : k + j - 1 ≡ k + (j - 1) = omega (arith, x.0) in
      rules (k + j) (inr (omega (arith, x.0), omega (arith, x.1, length-drop k n), rw e (emulation_on (j - 1) x.2), rw (← shift j) x.3))

  rest_escaped : (r p : List ℕ) → IsEscaped r n → r ≡ unescaped_to n k ++ p → IsEscaped p (drop k n)
  rest_escaped r p e split =
      let f : k + (length n - k) ≡ length n = omega arith in
      let len : length (drop k n) ≡ length n - k = length-drop k n in
      let all : unescaped n ≡ unescaped_to n k ++ unescaped_to (drop k n) (length n - k) = rw f at (unescaped_shift (length n - k)) in
      let same : unescaped_to n k ++ p ≡ unescaped_to n k ++ unescaped_to (drop k n) (length n - k) = sym split ∙ e.is ∙ all in
      record {
        rules = rest_rules e.rules;
        last = λ j end zero_is. e.last (k + j) (omega (arith, end, len)) (sym (shift j) ∙ zero_is);
        is = append_cancel_left (unescaped_to n k) p (unescaped_to (drop k n) (length n - k)) same ∙ ap (unescaped_to (drop k n)) (sym len);
      }

  front_rules : ((j : ℕ) → ¬ BreaksRule n j) → (j : ℕ) → ¬ BreaksRule (take k n) j
  front_rules rules j b =
      let at : (i : ℕ) → i < k → slice_index (take k n) i ≡ slice_index n i = λ i lt. get_or-take k n i 0 lt in
      let len : length (take k n) ≡ k = length-take-le k n within in
      ⊎_elim
      (λ x. let m = mark_on (take k n) (drop k n) 2 (j - 2) x.1 in rules j (inl (x.0, rw (take-append-drop k n) at m)))
      (λ x. rules j (inr (x.0, omega (arith, x.1, len), sym (same_emulation (take k n) n (j - 1) (λ i le. at i (omega (arith, x.0, x.1, len)))) ∙ x.2, rw (← at j (omega (arith, x.1, len))) x.3)))
      b

  front_escaped : (r h : List ℕ) → IsEscaped r n → h ≡ unescaped_to n k → IsEscaped h (take k n)
  front_escaped r h e is =
      let len : length (take k n) ≡ k = length-take-le k n within in
      record {
        rules = front_rules e.rules;
        last = λ j end zero_is. let f : j ≡ k - 1 = omega (arith, end, len) in behind some (sym (get_or-take k n (k - 1) 0 (omega arith)) ∙ (rw f at zero_is));
        is = is ∙ sym (same_unescaped (take k n) n k (λ i lt. get_or-take k n i 0 lt)) ∙ ap (unescaped_to (take k n)) (sym len);
      }

nothing_escaped : IsEscaped [] []
nothing_escaped = escape_end [] [] 0 (λ k len. absurd (omega (arith, len))) (escape_start [])

-- A place behind which what was unescaped doesn't end in 00 splits the escaped form.
split_at : (n : List ℕ) (place : ℕ) → place ≤ length n → EndsInNoZero (unescaped_to n place) → (r p : List ℕ) → IsEscaped r n → r ≡ unescaped_to n place ++ p
    → IsEscaped (unescaped_to n place) (take place n) × IsEscaped p (drop place n)
split_at n zero within last r p e split =
    let P : List ℕ → Type 0 = λ xs. IsEscaped xs n in
    (nothing_escaped, subst P split e)
split_at n (suc j) within last r p e split =
    let i : suc j - 1 ≡ j = omega arith in
    let P : ℕ → Type 0 = λ k. EndsInNoZero (unescaped_to n k) in
    let s : suc j ≡ j + 1 = omega arith in
    let nonzero : 0 < suc j → slice_index n (suc j - 1) ≡ 0 → ⊥ = λ _ z. last_nonzero n j (subst P s last) (rw i at z) in
    (front_escaped n (suc j) within nonzero (omega arith) r (unescaped_to n (suc j)) e refl, rest_escaped n (suc j) within nonzero (omega arith) r p e split)

pub escaped_splits : EscapedSplits
escaped_splits r n k place e count last = ⊎_elim
    (λ past.
    let f : length n + (place - length n) ≡ place = omega arith in
    let more = unescaped_more n (length n) (place - length n) in
    let longer : unescaped_to n place ≡ unescaped n ++ more.0 = rw f at more.1 in
    let all_taken : length r ≤ k = omega (arith, ap length e.is, ap length longer, length-append (unescaped n) more.0, count) in
    (rw (take_all k r all_taken, take_all place n (omega arith)) e, rw (drop_all k r all_taken, drop_all place n (omega arith)) nothing_escaped))
    (λ within.
    let front = unescaped_front n place within in
    let split : r ≡ unescaped_to n place ++ front.0 = e.is ∙ front.1 in
    let head : take k r ≡ unescaped_to n place = ap (take k) split ∙ take_at (unescaped_to n place) front.0 k count in
    let rest : drop k r ≡ front.0 = ap (drop k) split ∙ drop_at (unescaped_to n place) front.0 k count in
    let P : List ℕ → Type 0 = λ xs. EndsInNoZero xs in
    let both = split_at n place within (subst P head last) r front.0 e split in
    (rw head both.0, rw rest both.1))
    (cases_lt (length n) place)

-- Any bytes behind the escaped form of bytes that don't end in 00, whose last byte stands at place j.
module _ (h m q : List ℕ) (last : EndsInNoZero h) (eh : IsEscaped h m) (j : ℕ) (len : length m ≡ j + 1) where
  front_is : h ≡ unescaped_to m (j + 1)
  front_is = rw len at eh.is

  front_last : EndsInNoZero (unescaped_to m (j + 1))
  front_last = let P : List ℕ → Type 0 = λ xs. EndsInNoZero xs in subst P front_is last

  front_at : (i : ℕ) → i < j + 1 → slice_index (m ++ q) i ≡ slice_index m i
  front_at i lt = index_on m q i (omega (arith, len))

  total : length (m ++ q) ≡ j + 1 + length q
  total = omega (arith, length-append m q, len)

  inside : j + 1 ≤ length (m ++ q)
  inside = omega (arith, total)

  nonzero_at : slice_index (m ++ q) j ≡ 0 → ⊥
  nonzero_at z = last_nonzero m j front_last (sym (front_at j (omega arith)) ∙ z)

  nonzero : 0 < j + 1 → slice_index (m ++ q) (j + 1 - 1) ≡ 0 → ⊥
  nonzero some z = let i : j + 1 - 1 ≡ j = omega arith in nonzero_at (rw i at z)

  rest_is : drop (j + 1) (m ++ q) ≡ q
  rest_is = drop_at m q (j + 1) len

  rest_at : (i : ℕ) → slice_index (m ++ q) (j + 1 + i) ≡ slice_index q i
  rest_at i = rw len at (get_or-append-add m q i 0)

  rest_emulation : (i : ℕ) → is_emulation (m ++ q) (j + 1 + i) ≡ is_emulation q i
  rest_emulation i = emulation_shift (m ++ q) (j + 1) inside nonzero (omega arith) i ∙ ap (λ xs. is_emulation xs i) rest_is

  front_in : h ≡ unescaped_to (m ++ q) (j + 1)
  front_in = front_is ∙ sym (same_unescaped (m ++ q) m (j + 1) front_at)

  unescaped_seam : unescaped (m ++ q) ≡ h ++ unescaped q
  unescaped_seam =
      let rest : unescaped_to (drop (j + 1) (m ++ q)) (length q) ≡ unescaped q = ap (λ xs. unescaped_to xs (length q)) rest_is in
      ap (unescaped_to (m ++ q)) total ∙ unescaped_shift (m ++ q) (j + 1) inside nonzero (omega arith) (length q) ∙ ap₂ (λ (xs ys : List ℕ). xs ++ ys) (sym front_in) rest

  -- at its last byte, which is no emulation byte, not all of h is there
  fewer_before : (i : ℕ) → i < j + 1 → length (unescaped_to (m ++ q) i) < length h
  fewer_before i lt =
      let e : i + (j - i) ≡ j = omega arith in
      let more = unescaped_more (m ++ q) i (j - i) in
      let grown : unescaped_to (m ++ q) j ≡ unescaped_to (m ++ q) i ++ more.0 = rw e at more.1 in
      let plain : is_emulation (m ++ q) j ≡ false = same_emulation (m ++ q) m j (λ k le. front_at k (omega arith)) ∙ last_plain m j front_last in
      let keep : h ≡ unescaped_to (m ++ q) j ++ slice_index (m ++ q) j ∷ [] = front_in ∙ unescaped_keep (m ++ q) j plain in
      omega (arith, ap length keep, length_push (unescaped_to (m ++ q) j) (slice_index (m ++ q) j), ap length grown, length-append (unescaped_to (m ++ q) i) more.0)

  first_at_seam : IsFirstFrom (λ place. length (unescaped_to (m ++ q) place) ≡ length h) 0 (length m)
  first_at_seam = record {
    order = omega arith;
    here = ap (λ k. length (unescaped_to (m ++ q) k)) len ∙ ap length (sym front_in);
    before = λ i from lt same. omega (arith, fewer_before i (omega (arith, lt, len)), same);
  }

  -- and an escaped form among them
  module _ (p : List ℕ) (ep : IsEscaped p q) where
    rest_rule : (i : ℕ) → ¬ BreaksRule (m ++ q) (j + 1 + i)
    rest_rule i (inl x) = ⊎_elim
        (λ first. let e : j + 1 + i - 2 + 1 ≡ j = omega (arith, x.0) in nonzero_at (rw e at x.1.second))
        (λ later. ⊎_elim
        (λ second. let e : j + 1 + i - 2 ≡ j = omega (arith, x.0) in nonzero_at (rw e at x.1.first))
        (λ far.
        let e : j + 1 + i - 2 - (j + 1) ≡ i - 2 = omega arith in
        ep.rules i (inl (far, rw e at (mark_kept (m ++ q) q (j + 1) (sym rest_is) total 2 (j + 1 + i - 2) (omega arith) x.1))))
        (cases_lt i 2))
        (cases_lt i 1)
    rest_rule i (inr x) = ⊎_elim
        (λ first.
        let e : j + 1 + i - 1 ≡ j = omega arith in
        let same = same_emulation (m ++ q) m j (λ k le. front_at k (omega arith)) in
        false≢true (sym (last_plain m j front_last) ∙ sym same ∙ (rw e at x.2)))
        (λ later.
        let e : j + 1 + i - 1 ≡ j + 1 + (i - 1) = omega arith in
        ep.rules i (inr (later, omega (arith, x.1, total), sym (rest_emulation (i - 1)) ∙ (rw e at x.2), rw (rest_at i) at x.3)))
        (cases_lt i 1)

    joined : IsEscaped (h ++ p) (m ++ q)
    joined =
        let rest : p ≡ unescaped_to (drop (j + 1) (m ++ q)) (length q) = ep.is ∙ ap (λ xs. unescaped_to xs (length q)) (sym rest_is) in
        record {
          rules = λ i b. ⊎_elim
              (λ low. eh.rules i (breaks_before m q i (omega (arith, len)) b))
              (λ high. let e : i ≡ j + 1 + (i - (j + 1)) = omega arith in let P : ℕ → Type 0 = λ k. BreaksRule (m ++ q) k in rest_rule (i - (j + 1)) (subst P e b))
              (cases_lt i (j + 1));
          last = λ i end z. ⊎_elim
              (λ low. let e : i ≡ j = omega (arith, total, end) in nonzero_at (ap (slice_index (m ++ q)) (sym e) ∙ z))
              (λ high. let e : j + 1 + (i - (j + 1)) ≡ i = omega arith in ep.last (i - (j + 1)) (omega (arith, total, end)) (sym (rest_at (i - (j + 1))) ∙ ap (slice_index (m ++ q)) e ∙ z))
              (cases_lt i (j + 1));
          is = ap₂ (λ (xs ys : List ℕ). xs ++ ys) front_in rest ∙ sym (unescaped_shift (m ++ q) (j + 1) inside nonzero (omega arith) (length q)) ∙ ap (unescaped_to (m ++ q)) (sym total);
        }

pub escaped_joins : EscapedJoins
escaped_joins h p [] q last eh ep = let none : h ≡ [] = eh.is in rw none ep
escaped_joins h p (x ∷ m) q last eh ep = joined h (x ∷ m) q last eh (length m) (omega arith) p ep

pub unescaped_joins : UnescapedJoins
unescaped_joins h [] q last eh =
    let none : h ≡ [] = eh.is in
    rw none (refl, record { order = omega arith; here = refl; before = λ i from lt. absurd (omega arith) })
unescaped_joins h (x ∷ m) q last eh = (unescaped_seam h (x ∷ m) q last eh (length m) (omega arith), first_at_seam h (x ∷ m) q last eh (length m) (omega arith))
