-- Every list of bytes has units and an ending: each search of the definition comes to an answer.
use Rattle.std.proofs.Common.{◌≡◌, ℕ, zero, suc, ◌+◌, ◌-◌, ◌/◌, ◌%◌, ◌<◌, ◌≤◌, ◌⊎◌, inl, inr, Bool, IsTrue, List, [], ◌∷◌, Option, Some, None, length, slice_index, sym, ap, subst, ◌∙◌, arith, refl, ⊎_elim}
use Rattle.std.proofs.lemmas.Bool.{cases_lt, cases_eq, cases_Bool, false≢true}
use Rattle.vx_bits.specs.declared.refusal.Refusal.{Refusal}
use Rattle.vx_bits.specs.declared.refusal.Refusal.TheVariants.{Framing, Limit}
use Rattle.vx_annexb.specs.NalUnit.{HasHeader}
use Rattle.vx_annexb.specs.Places.{AreZeros, IsMark, IsFirstFrom}
use Rattle.vx_annexb.specs.Emulation.{is_emulation, BreaksRule}
use Rattle.vx_bits.specs.Limits.{unit_limit}
use Rattle.vx_annexb.specs.ByteStream.{StartsAt, CanEnd, UnitPlace, unit_bytes, IsUnit, IsSound, RefusesUnit, FollowsFrom, end_of, EndsWith}
use Rattle.vx_annexb.specs.Laws.{StreamExists}
use Rattle.vx_annexb.proofs.Places.{zeros_join}

-- a fact that holds or doesn't
Known : Type 0 → Type 0
Known P = P ⊎ (¬ P)

-- the zeros from place p on end at another byte or with the bytes
FirstByte : List ℕ → ℕ → Type 0
FirstByte b p = AreZeros b p (length b) ⊎ ((q : ℕ) × AreZeros b p q × (q < length b) × (slice_index b q ≡ 0 → ⊥))

first_byte : (b : List ℕ) (n p : ℕ) → p + n ≡ length b → FirstByte b p
unfolding FirstByte
first_byte b zero p e = inl (record { order = omega (arith, e); within = omega arith; each = λ k le lt. absurd (omega (arith, e)) })
first_byte b (suc n) p e = ⊎_elim
    (λ zero_is.
    let here : AreZeros b p (p + 1) = record { order = omega arith; within = omega (arith, e); each = λ k le lt. let same : k ≡ p = omega arith in ap (slice_index b) same ∙ zero_is } in
    ⊎_elim
    (λ z. inl (zeros_join b p (p + 1) (length b) here z))
    (λ s. inr (s.0, zeros_join b p (p + 1) s.0 here s.1, s.2, s.3))
    (first_byte b n (p + 1) (omega (arith, e))))
    (λ other. inr (p, record { order = omega arith; within = omega (arith, e); each = λ k le lt. absurd (omega arith) }, omega (arith, e), other))
    (cases_eq (slice_index b p) 0)

known_mark : (most : ℕ) (b : List ℕ) (k : ℕ) → Known (IsMark most b k)
unfolding Known
known_mark most b k = ⊎_elim
    (λ within. ⊎_elim
    (λ first. ⊎_elim
    (λ second. ⊎_elim
    (λ more. inr (λ m. omega (arith, m.third, more)))
    (λ third. inl (record { within = within; first = first; second = second; third = third }))
    (cases_lt most (slice_index b (k + 2))))
    (λ no. inr (λ m. no m.second))
    (cases_eq (slice_index b (k + 1)) 0))
    (λ no. inr (λ m. no m.first))
    (cases_eq (slice_index b k) 0))
    (λ past. inr (λ m. omega (arith, m.within, past)))
    (cases_lt (k + 2) (length b))

known_zeros : (b : List ℕ) (k : ℕ) → Known (AreZeros b k (length b))
unfolding Known FirstByte
known_zeros b k = ⊎_elim
    (λ past. inr (λ z. omega (arith, z.order, past)))
    (λ within. ⊎_elim
    (λ z. inl z)
    (λ s. inr (λ z. s.3 (z.each s.0 s.1.order s.2)))
    (first_byte b (length b - k) k (omega (arith, within))))
    (cases_lt (length b) k)

known_end : (b : List ℕ) (all : Bool) (k : ℕ) → Known (CanEnd b all k)
unfolding Known
known_end b all k = ⊎_elim
    (λ m. inl (inl m))
    (λ none. ⊎_elim
    (λ done. ⊎_elim
    (λ z. inl (inr (done, z)))
    (λ no. inr (λ c. ⊎_elim none (λ z. no z.1) c))
    (known_zeros b k))
    (λ more. inr (λ c. ⊎_elim none (λ z. false≢true (sym more ∙ z.0)) c))
    (cases_Bool all))
    (known_mark 1 b k)

-- the first of n places from s on where P holds, or none of them
first_place : (P : ℕ → Type 0) → ((k : ℕ) → Known (P k)) → (n s : ℕ) → ((e : ℕ) × IsFirstFrom P s e) ⊎ ((k : ℕ) → s ≤ k → k < s + n → ¬ P k)
unfolding Known
first_place P known zero s = inr (λ k le lt. absurd (omega arith))
first_place P known (suc n) s = ⊎_elim
    (λ here. inl (s, record { order = omega arith; here = here; before = λ k le lt. absurd (omega arith) }))
    (λ no.
    let none_here : (k : ℕ) → s ≤ k → k < s + 1 → ¬ P k = λ k le lt. let same : s ≡ k = omega arith in subst (λ (j : ℕ). ¬ P j) same no in
    ⊎_elim
    (λ found. inl (
      found.0,
      record {
        order = omega (arith, found.1.order);
        here = found.1.here;
        before = λ k le lt. ⊎_elim (λ below. none_here k le below) (λ above. found.1.before k above lt) (cases_lt k (s + 1));
      },
    ))
    (λ none. inr (λ k le lt. ⊎_elim (λ below. none_here k le below) (λ above. none k above (omega arith)) (cases_lt k (s + 1))))
    (first_place P known n (s + 1)))
    (known s)

known_header : (unit : List ℕ) → Known (HasHeader unit)
unfolding Known
known_header unit = ⊎_elim
    (λ short. inr (λ h. omega (arith, h.bytes, short)))
    (λ long. ⊎_elim
    (λ clear. ⊎_elim
    (λ none. inr (λ h. omega (arith, h.temporal, none)))
    (λ some. inl (record { bytes = long; forbidden = clear; temporal = omega (arith, some) }))
    (cases_eq (slice_index unit 1 % 8) 0))
    (λ set. inr (λ h. set h.forbidden))
    (cases_eq (slice_index unit 0 / 128) 0))
    (cases_lt (length unit) 2)

known_break : (unit : List ℕ) (k : ℕ) → Known (BreaksRule unit k)
unfolding Known
known_break unit k =
    let second : Known ((1 ≤ k) × (k < length unit) × IsTrue (is_emulation unit (k - 1)) × (3 < slice_index unit k)) =
    ⊎_elim
    (λ none. inr (λ b. omega (arith, b.0, none)))
    (λ one. ⊎_elim
    (λ within. ⊎_elim
    (λ there. ⊎_elim (λ big. inl (one, within, there, big)) (λ small. inr (λ b. omega (arith, b.3, small))) (cases_lt 3 (slice_index unit k)))
    (λ not_there. inr (λ b. false≢true (sym not_there ∙ b.2)))
    (cases_Bool (is_emulation unit (k - 1))))
    (λ past. inr (λ b. omega (arith, b.1, past)))
    (cases_lt k (length unit)))
    (cases_lt k 1) in
    ⊎_elim
    (λ two. ⊎_elim
    (λ m. inl (inl (two, m)))
    (λ no. ⊎_elim (λ b. inl (inr b)) (λ none. inr (λ b. ⊎_elim (λ x. no x.1) none b)) second)
    (known_mark 2 unit (k - 2)))
    (λ less. ⊎_elim (λ b. inl (inr b)) (λ none. inr (λ b. ⊎_elim (λ x. omega (arith, x.0, less)) none b)) second)
    (⊎_elim (λ lt. inr lt) (λ le. inl le) (cases_lt k 2))

break_within : (unit : List ℕ) (k : ℕ) → BreaksRule unit k → k < length unit
break_within unit k = ⊎_elim (λ x. omega (arith, x.0, x.1.within)) (λ x. x.1)

-- a unit is sound, or refused
sound_or_refused : (unit : List ℕ) (place : ℕ) → IsSound unit ⊎ ((r : Refusal) × RefusesUnit unit place r)
unfolding Known
sound_or_refused unit place = ⊎_elim
    (λ h. ⊎_elim
    (λ found. inr (Framing 2 (place + found.0), inr (inl (h, (found.0, found.1, refl)))))
    (λ none.
    let rules : (k : ℕ) → ¬ BreaksRule unit k = λ k b. none k (omega arith) (omega (arith, break_within unit k b)) b in
    ⊎_elim
    (λ long. inr (Limit 1, inr (inr (h, rules, long, refl))))
    (λ fits. inl (record { header = h; emulation = rules; size = fits }))
    (cases_lt unit_limit (length unit)))
    (first_place (BreaksRule unit) (known_break unit) (length unit) 0))
    (λ no. inr (Framing 3 place, inl (no, refl)))
    (known_header unit)

-- what comes next behind place p
Next : List ℕ → Bool → ℕ → Type 0
Next b all p = ((r : Option Refusal) × EndsWith b all p r) ⊎ ((u : UnitPlace) × IsUnit b all p u × IsSound (unit_bytes b u))

after_start : (b : List ℕ) (all : Bool) (p s : ℕ) → StartsAt b p s → Next b all p
unfolding Next
after_start b all p s starts = ⊎_elim
    (λ found.
    let u : UnitPlace = record { start = s; end = found.0 } in
    let is : IsUnit b all p u = record { starts = starts; ends = found.1 } in
    ⊎_elim
    (λ sound. inr (u, is, sound))
    (λ refused. inl (Some refused.0, inr (u, is, refused.1)))
    (sound_or_refused (unit_bytes b u) s))
    (λ none.
    let within : (k : ℕ) → CanEnd b all k → k ≤ length b = λ k. ⊎_elim (λ m. omega (arith, m.within)) (λ z. z.1.order) in
    inl (None, inr (s, starts, λ k le c. none k le (omega (arith, within k c)) c)))
    (first_place (CanEnd b all) (known_end b all) (length b + 1) s)

next_of : (b : List ℕ) (all : Bool) (p : ℕ) → p ≤ length b → Next b all p
unfolding Next FirstByte
next_of b all p le = ⊎_elim
    (λ z. inl (None, inl z))
    (λ s.
    let q = s.0 in
    ⊎_elim
    (λ one. ⊎_elim
    (λ early. inl (Some (Framing 1 q), inl (q, record { zeros = s.1; within = s.2; nonzero = s.3; no_code = λ _. early }, refl)))
    (λ code.
    let e : q + 1 - 1 ≡ q = omega arith in
    after_start b all p (q + 1) (record { prefix = omega (arith, code); within = omega (arith, s.2); zeros = rw e s.1; one = rw e one }))
    (cases_lt q (p + 2)))
    (λ other. inl (Some (Framing 1 q), inl (q, record { zeros = s.1; within = s.2; nonzero = s.3; no_code = λ one. absurd (other one) }, refl)))
    (cases_eq (slice_index b q) 1))
    (first_byte b (length b - p) p (omega (arith, le)))

-- the units and the ending behind place p, which n bytes follow at most
Rest : List ℕ → Bool → ℕ → Type 0
Rest b all p = (us : List UnitPlace) × (r : Option Refusal) × FollowsFrom b all p us × EndsWith b all (end_of p us) r

exists_from : (b : List ℕ) (all : Bool) (n p : ℕ) → p ≤ length b → length b < p + n → Rest b all p
unfolding Next Rest
exists_from b all zero p le fuel = absurd (omega arith)
exists_from b all (suc n) p le fuel = ⊎_elim
    (λ ending. ([], ending.0, tt, ending.1))
    (λ next.
    let u = next.0 in
    let within : u.end ≤ length b = ⊎_elim (λ m. omega (arith, m.within)) (λ z. z.1.order) next.1.ends.here in
    let rest = exists_from b all n u.end within (omega (arith, next.1.starts.prefix, next.1.ends.order)) in
    (u ∷ rest.0, rest.1, (next.1, next.2, rest.2), rest.3))
    (next_of b all p le)

pub stream_exists : StreamExists
unfolding Rest
stream_exists b all =
    let rest = exists_from b all (length b + 1) 0 (omega arith) (omega arith) in
    (rest.0, rest.1, record { follow = rest.2; behind = rest.3 })
