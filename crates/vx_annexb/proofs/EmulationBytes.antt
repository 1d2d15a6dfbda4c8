-- Emulation bytes at places of a list, and the searches for them.
use Rattle.std.proofs.Common.{◌≡◌, ℕ, zero, suc, ◌+◌, ◌*◌, ◌-◌, ◌<◌, ◌≤◌, inl, inr, true, false, List, [], ◌∷◌, ◌++◌, length, take, drop, slice_index, sym, ap, ◌∙◌, subst, arith, refl, ⊎_elim, add-one, append_assoc, length-drop, get_or-drop}
use Rattle.std.proofs.lemmas.Bool.{cases_lt, cases_Bool, and_parts, and_from, leb-true, le-leb, eqb-true, eq-eqb, false_from_ne_true, false≢true}
use Rattle.std.proofs.lemmas.List.{get_or_past, length_push, take_more, append-nil}
use Rattle.vx_bits.specs.Codes.{AreBytes}
use Rattle.vx_annexb.specs.Places.{IsMark}
use Rattle.vx_annexb.specs.Emulation.{is_emulation, BreaksRule, unescaped_to}
use Rattle.vx_annexb.specs.Laws.{EscapedIsShort}
use Rattle.vx_annexb.proofs.Places.{index_on, mark_before, mark_wider}

-- an emulation byte, part by part
pub record EmulationAt (n : List ℕ) (k : ℕ) : Type 0 where
  pub two : 2 ≤ k
  pub first : slice_index n (k - 2) ≡ 0
  pub second : slice_index n (k - 1) ≡ 0
  pub three : slice_index n k ≡ 3

pub emulation_is : (n : List ℕ) (k : ℕ) → is_emulation n k ≡ true → EmulationAt n k
emulation_is n k e =
    let a = and_parts _ _ e in
    let b = and_parts _ _ a.1 in
    let c = and_parts _ _ b.1 in
    record { two = leb-true 2 k a.0; first = eqb-true _ _ b.0; second = eqb-true _ _ c.0; three = eqb-true _ _ c.1 }

pub emulation_from : (n : List ℕ) (k : ℕ) → EmulationAt n k → is_emulation n k ≡ true
emulation_from n k e = and_from _ _ (le-leb 2 k e.two) (and_from _ _ (eq-eqb _ _ e.first) (and_from _ _ (eq-eqb _ _ e.second) (eq-eqb _ _ e.three)))

-- what is no zero stands within the list
pub within_from : (n : List ℕ) (k : ℕ) → (slice_index n k ≡ 0 → ⊥) → k < length n
within_from n k some = ⊎_elim (λ lt. lt) (λ past. absurd (some (get_or_past n k 0 past))) (cases_lt k (length n))

pub emulation_mark : (n : List ℕ) (k : ℕ) → is_emulation n k ≡ true → IsMark 3 n (k - 2)
emulation_mark n k e =
    let at = emulation_is n k e in
    let e1 : k - 2 + 1 ≡ k - 1 = omega (arith, at.two) in
    let e2 : k - 2 + 2 ≡ k = omega (arith, at.two) in
    record {
      within = rw e2 (within_from n k (λ z. omega (arith, z, at.three)));
      first = at.first;
      second = rw e1 at.second;
      third = rw (e2, at.three) (omega arith);
    }

-- lists that agree up to a place have the same emulation bytes there
pub same_emulation : (n m : List ℕ) (k : ℕ) → ((i : ℕ) → i ≤ k → slice_index n i ≡ slice_index m i) → is_emulation n k ≡ is_emulation m k
same_emulation n m k agree =
    let a = agree k (omega arith) in
    let b = agree (k - 1) (omega arith) in
    let c = agree (k - 2) (omega arith) in
    rw (a, b, c) refl

pub same_unescaped : (n m : List ℕ) (k : ℕ) → ((i : ℕ) → i < k → slice_index n i ≡ slice_index m i) → unescaped_to n k ≡ unescaped_to m k
same_unescaped n m zero agree = refl
same_unescaped n m (suc k) agree =
    let e = same_emulation n m k (λ i le. agree i (omega arith)) in
    let u = same_unescaped n m k (λ i lt. agree i (omega arith)) in
    let a = agree k (omega arith) in
    rw (e, u, a) refl

pub unescaped_skip : (n : List ℕ) (k : ℕ) → is_emulation n k ≡ true → unescaped_to n (k + 1) ≡ unescaped_to n k
unescaped_skip n k e = rw (add-one k, e) refl

pub unescaped_keep : (n : List ℕ) (k : ℕ) → is_emulation n k ≡ false → unescaped_to n (k + 1) ≡ unescaped_to n k ++ slice_index n k ∷ []
unescaped_keep n k e = rw (add-one k, e) refl

-- however the bytes go on, none among them comes to break a rule
pub breaks_before : (n more : List ℕ) (k : ℕ) → k < length n → BreaksRule (n ++ more) k → BreaksRule n k
breaks_before n more k lt (inl x) = inl (x.0, mark_before n more 2 (k - 2) (omega (arith, x.0)) x.1)
breaks_before n more k lt (inr x) = inr (x.0, lt, sym (same_emulation (n ++ more) n (k - 1) (λ i le. index_on n more i (omega arith))) ∙ x.2, rw (index_on n more k lt) at x.3)

-- no more bytes are left than were taken
pub unescaped_size : (n : List ℕ) (k : ℕ) → length (unescaped_to n k) ≤ k
unescaped_size n zero = omega arith
unescaped_size n (suc k) =
    let before = unescaped_size n k in
    ⊎_elim
    (λ marked. let skip = ap length (unescaped_skip n k marked) in let here = rw add-one at skip in omega (arith, here, before))
    (λ plain. let keep = ap length (unescaped_keep n k plain) in let here = rw add-one at keep in omega (arith, here, before, length_push (unescaped_to n k) (slice_index n k)))
    (cases_Bool (is_emulation n k))

-- an emulation byte stands behind two bytes that are kept, so there are no more than one for two of these
pub unescaped_short : (n : List ℕ) (most k : ℕ) → k ≤ most → 2 * k ≤ 3 * length (unescaped_to n k)
unescaped_short n most zero le = omega arith
unescaped_short n zero (suc k) le = absurd (omega arith)
unescaped_short n (suc most) (suc k) le =
    elim (cases_Bool (is_emulation n k)) [
      | inr plain ↦
          let keep = rw add-one at (ap length (unescaped_keep n k plain)) in
          omega (arith, keep, length_push (unescaped_to n k) (slice_index n k), unescaped_short n most k (omega arith))
      | inl marked ↦
          let at = emulation_is n k marked in
          let first : is_emulation n (k - 2) ≡ false = false_from_ne_true (is_emulation n (k - 2)) (λ e. omega (arith, at.first, (emulation_is n (k - 2) e).three)) in
          let second : is_emulation n (k - 1) ≡ false = false_from_ne_true (is_emulation n (k - 1)) (λ e. omega (arith, at.second, (emulation_is n (k - 1) e).three)) in
          let e1 : k - 2 + 1 ≡ k - 1 = omega (arith, at.two) in
          let e2 : k - 1 + 1 ≡ k = omega (arith, at.two) in
          let one : unescaped_to n (k - 1) ≡ unescaped_to n (k - 2) ++ slice_index n (k - 2) ∷ [] = rw e1 at (unescaped_keep n (k - 2) first) in
          let two : unescaped_to n k ≡ unescaped_to n (k - 1) ++ slice_index n (k - 1) ∷ [] = rw e2 at (unescaped_keep n (k - 1) second) in
          let skip = rw add-one at (ap length (unescaped_skip n k marked)) in
          omega (arith, at.two, skip, ap length one, ap length two, length_push (unescaped_to n (k - 2)) (slice_index n (k - 2)), length_push (unescaped_to n (k - 1)) (slice_index n (k - 1)), unescaped_short n most (k - 2) (omega arith))
    ]

pub escaped_short : EscapedIsShort
escaped_short r n e = omega (arith, ap length e.is, unescaped_short n (length n) (length n) (omega arith))

-- bytes among which no emulation byte stands are kept
pub unescaped_run : (n : List ℕ) (at d : ℕ) → at + d ≤ length n → ((k : ℕ) → at ≤ k → k < at + d → is_emulation n k ≡ false) → unescaped_to n (at + d) ≡ unescaped_to n at ++ take d (drop at n)
unescaped_run n at zero le none = let e : at + 0 ≡ at = omega arith in rw e (sym (append-nil (unescaped_to n at)))
unescaped_run n at (suc d) le none =
    let e : at + suc d ≡ at + d + 1 = omega arith in
    let before = unescaped_run n at d (omega arith) (λ k a lt. none k a (omega arith)) in
    let last = unescaped_keep n (at + d) (none (at + d) (omega arith) (omega arith)) in
    let more = take_more (drop at n) d 0 (omega (arith, length-drop at n)) in
    rw e last ∙ ap (λ xs. xs ++ slice_index n (at + d) ∷ []) before ∙ append_assoc (unescaped_to n at) (take d (drop at n)) (slice_index n (at + d) ∷ [])
    ∙ ap (λ xs. unescaped_to n at ++ xs) (ap (λ (x : ℕ). take d (drop at n) ++ x ∷ []) (sym (get_or-drop at n d 0)) ∙ sym more ∙ ap (λ k. take k (drop at n)) (add-one d))

-- no mark of at most 3 reaches from before this place to its byte or beyond
abbrev pub StandsApart : List ℕ → ℕ → Type 0
StandsApart n at = (j : ℕ) → IsMark 3 n j → at ≤ j + 2 → at ≤ j

-- as behind a byte that is no zero
pub apart_behind : (n : List ℕ) (at : ℕ) → (slice_index n at ≡ 0 → ⊥) → StandsApart n (at + 1)
apart_behind n at some j m le = ⊎_elim
    (λ below. ⊎_elim
    (λ one. let e : at ≡ j = omega arith in absurd (some (ap (slice_index n) e ∙ m.first)))
    (λ two. let e : at ≡ j + 1 = omega arith in absurd (some (ap (slice_index n) e ∙ m.second)))
    (cases_lt at (j + 1)))
    (λ above. above)
    (cases_lt j (at + 1))

-- Searches that go on from such a place.
module _ (n : List ℕ) (at : ℕ) (apart : StandsApart n at) where
  -- no emulation byte where no mark was found
  pub no_emulation : (stop : ℕ) → ((j : ℕ) → at ≤ j → j < stop → ¬ IsMark 3 n j) → (k : ℕ) → at ≤ k → k < stop + 2 → is_emulation n k ≡ false
  no_emulation stop none k le lt = false_from_ne_true (is_emulation n k) (λ e.
      let m = emulation_mark n k e in
      let two = (emulation_is n k e).two in
      none (k - 2) (apart (k - 2) m (omega arith)) (omega arith) m)

  -- no byte that breaks a rule either
  pub no_break : (stop : ℕ) → ((j : ℕ) → at ≤ j → j < stop → ¬ IsMark 3 n j) → (k : ℕ) → at < k → k < stop + 2 → ¬ BreaksRule n k
  no_break stop none k le lt (inl b) =
      let m = mark_wider 2 3 n (k - 2) (omega arith) b.1 in
      none (k - 2) (apart (k - 2) m (omega (arith, b.0))) (omega (arith, b.0)) m
  no_break stop none k le lt (inr b) = false≢true (sym (no_emulation stop none (k - 1) (omega arith) (omega arith)) ∙ b.2)

-- ---- bytes stay bytes

byte_at : (n : List ℕ) (k : ℕ) → AreBytes n → slice_index n k < 256
byte_at [] k are = omega arith
byte_at (x ∷ xs) zero are = are.0
byte_at (x ∷ xs) (suc k) are = byte_at xs k are.1

push_byte : (bs : List ℕ) (b : ℕ) → AreBytes bs → b < 256 → AreBytes (bs ++ b ∷ [])
push_byte [] b are last = (last, tt)
push_byte (x ∷ bs) b are last = (are.0, push_byte bs b are.1 last)

-- without its emulation bytes a unit has bytes
pub unescaped_bytes : (n : List ℕ) (k : ℕ) → AreBytes n → AreBytes (unescaped_to n k)
unescaped_bytes n zero are = tt
unescaped_bytes n (suc k) are =
    let before = unescaped_bytes n k are in
    let here = byte_at n k are in
    elim (cases_Bool (is_emulation n k)) [
      | inl marked ↦ subst AreBytes (sym (ap (unescaped_to n) (sym (add-one k)) ∙ unescaped_skip n k marked)) before
      | inr plain ↦ subst AreBytes (sym (ap (unescaped_to n) (sym (add-one k)) ∙ unescaped_keep n k plain))
          (push_byte (unescaped_to n k) (slice_index n k) before here)
    ]
