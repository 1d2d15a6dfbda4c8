-- The places of a byte stream are those of Annex B's concatenation, in both directions.
use Rattle.std.proofs.Common.{◌≡◌, ℕ, zero, suc, ◌+◌, ◌-◌, ◌<◌, ◌≤◌, inl, inr, Bool, true, List, [], ◌∷◌, ◌++◌, length, take, drop, replicate, slice_index, slice_range, flat_map, map, sym, ap, ap₂, subst, ◌∙◌, arith, refl, ⊎_elim, append_assoc, length-append}
use Rattle.std.proofs.lemmas.List.{length-replicate, get_or-replicate, get_or_append_left, get_or-append-add, take-append-drop, drop-drop, drop_more, drop_all, take_at, drop_at}
use Rattle.std.proofs.lemmas.List.Elements.{All-cons, All-head, All-nil, All-tail}
use Rattle.std.proofs.lemmas.Bool.{cases_lt}
use Rattle.std.specs.List.{All}
use Rattle.vx_bits.specs.Codes.{EndsInNoZero}
use Rattle.vx_annexb.proofs.Places.{length-slice, index-slice, mark_wider}
use Rattle.vx_annexb.specs.Places.{AreZeros}
use Rattle.vx_annexb.specs.Emulation.{BreaksRule}
use Rattle.vx_annexb.specs.ByteStream.{StartsAt, CanEnd, UnitPlace, unit_bytes, IsUnit, FollowsFrom, end_of}
use Rattle.vx_annexb.specs.Laws.{Part, part_bytes, annex_b, places_from, units_of, CanStand, HoldsNoCode, UnitsCanStand, StreamIsAnnexB, AnnexBIsStream}

length-zeros : (z : ℕ) → length {A = ℕ} (replicate z 0) ≡ z
length-zeros z = length-replicate {A = ℕ} z 0

-- zeros, and what is behind them
zeros_drop : (b : List ℕ) (n p : ℕ) → AreZeros b p (p + n) → drop p b ≡ replicate n 0 ++ drop (p + n) b
zeros_drop b zero p z = let e : p + 0 ≡ p = omega arith in rw e refl
zeros_drop b (suc n) p z =
    let first = z.each p (omega arith) (omega arith) in
    let later : AreZeros b (p + 1) ((p + 1) + n) = record { order = omega arith; within = omega (arith, z.within); each = λ k le lt. z.each k (omega arith) (omega arith) } in
    let e : (p + 1) + n ≡ p + suc n = omega arith in
    drop_more b p 0 (omega (arith, z.within)) ∙ ap₂ (λ (x : ℕ) (xs : List ℕ). x ∷ xs) first (rw e at (zeros_drop b n (p + 1) later))

-- a unit and what is behind it
unit_drop : (b : List ℕ) (s e : ℕ) → s ≤ e → drop s b ≡ slice_range b s e ++ drop e b
unit_drop b s e le =
    let n : s + (e - s) ≡ e = omega arith in
    sym (take-append-drop (e - s) (drop s b)) ∙ ap (λ xs. slice_range b s e ++ xs) (drop-drop (e - s) s b ∙ ap (λ k. drop k b) n)

-- where no byte breaks a rule no start code stands
no_code : (unit : List ℕ) → ((k : ℕ) → ¬ BreaksRule unit k) → HoldsNoCode unit
no_code unit rules k m = let e : k + 2 - 2 ≡ k = omega arith in rules (k + 2) (inl (omega arith, rw e (mark_wider 1 2 unit k (omega arith) m)))

-- a unit of the stream doesn't end in 00
module _ (b : List ℕ) (all : Bool) (p : ℕ) (u : UnitPlace) (is : IsUnit b all p u) where
  unit_within : u.end ≤ length b
  unit_within = ⊎_elim (λ m. omega (arith, m.within)) (λ z. z.1.order) is.ends.here

  len_is : length (unit_bytes b u) ≡ u.end - u.start
  len_is = length-slice b u.start u.end is.ends.order unit_within

  at_unit : (k : ℕ) → k < u.end - u.start → slice_index (unit_bytes b u) k ≡ slice_index b (u.start + k)
  at_unit = index-slice b u.start u.end

  last : EndsInNoZero (unit_bytes b u)
  last k len zero_is =
      let e : u.start + k + 1 ≡ u.end = omega (arith, len, len_is) in
      let here : slice_index b (u.start + k) ≡ 0 = sym (at_unit k (omega (arith, len, len_is))) ∙ zero_is in
      let ends : CanEnd b all (u.start + k) = ⊎_elim
      (λ m. inl (record {
        within = omega (arith, m.within);
        first = here;
        second = rw e m.first;
        third = let e2 : u.start + k + 2 ≡ u.end + 1 = omega arith in rw (e2, m.second) (omega arith);
      }))
      (λ z. inr (
        z.0,
        record {
          order = omega (arith, z.1.order);
          within = omega arith;
          each = λ j le lt. ⊎_elim (λ below. let same : j ≡ u.start + k = omega arith in ap (slice_index b) same ∙ here) (λ above. z.1.each j above lt) (cases_lt j u.end);
        },
      ))
      is.ends.here in
      is.ends.before (u.start + k) (omega arith) (omega arith) ends

pub units_can_stand : UnitsCanStand
units_can_stand b all p [] f = All-nil (λ u. CanStand (unit_bytes b u) × HoldsNoCode (unit_bytes b u))
units_can_stand b all p (u ∷ us) f =
    All-cons (λ v. CanStand (unit_bytes b v) × HoldsNoCode (unit_bytes b v)) u us
    (record { last = last b all p u f.0; sound = f.1 }, no_code (unit_bytes b u) f.1.emulation)
    (units_can_stand b all u.end us f.2)

-- what follows place p is zeros and parts
Parts : List ℕ → ℕ → List UnitPlace → Type 0
Parts b p us = (z : ℕ) × (parts : List Part) × (drop p b ≡ replicate z 0 ++ flat_map part_bytes parts) × (us ≡ places_from (p + z) parts) × All CanStand (units_of parts)

parts_from : (b : List ℕ) (p : ℕ) (us : List UnitPlace) → FollowsFrom b true p us → AreZeros b (end_of p us) (length b) → Parts b p us
unfolding Parts
parts_from b p [] f z =
    let n : p + (length b - p) ≡ length b = omega (arith, z.order) in
    let e = zeros_drop b (length b - p) p (rw n z) in
    let rest : drop (length b) b ≡ [] = drop_all (length b) b (omega arith) in
    (length b - p, [], rw (n, rest) at e, refl, All-nil CanStand)
parts_from b p (u ∷ us) f z =
    let rest = parts_from b u.end us f.2 z in
    let starts = f.0.starts in
    let n : p + (u.start - 3 - p) ≡ u.start - 3 = omega (arith, starts.prefix) in
    let code : ℕ = u.start - 3 in
    let front : AreZeros b p (p + (u.start - 3 - p)) = record { order = omega arith; within = omega (arith, starts.within); each = λ k le lt. starts.zeros.each k le (omega (arith, starts.prefix)) } in
    let z0 : slice_index b code ≡ 0 = starts.zeros.each code (omega (arith, starts.prefix)) (omega (arith, starts.prefix)) in
    let z1 : slice_index b (code + 1) ≡ 0 = starts.zeros.each (code + 1) (omega (arith, starts.prefix)) (omega (arith, starts.prefix)) in
    let e2 : code + 1 + 1 ≡ u.start - 1 = omega (arith, starts.prefix) in
    let z2 : slice_index b (code + 1 + 1) ≡ 1 = rw e2 starts.one in
    let e3 : code + 1 + 1 + 1 ≡ u.start = omega (arith, starts.prefix) in
    let d0 = drop_more b code 0 (omega (arith, starts.prefix, starts.within)) in
    let d1 = drop_more b (code + 1) 0 (omega (arith, starts.prefix, starts.within)) in
    let d2 = drop_more b (code + 1 + 1) 0 (omega (arith, starts.prefix, starts.within)) in
    let cons : ℕ → List ℕ → List ℕ = λ x xs. x ∷ xs in
    let codes : drop code b ≡ 0 ∷ 0 ∷ 1 ∷ drop u.start b = d0 ∙ ap₂ cons z0 (d1 ∙ ap₂ cons z1 (d2 ∙ ap₂ cons z2 (ap (λ k. drop k b) e3))) in
    let unit = unit_bytes b u in
    let all : drop u.start b ≡ unit ++ (replicate rest.0 0 ++ flat_map part_bytes rest.1) = unit_drop b u.start u.end f.0.ends.order ∙ ap (λ xs. unit ++ xs) rest.2 in
    let joined : unit ++ (replicate rest.0 0 ++ flat_map part_bytes rest.1) ≡ (unit ++ replicate rest.0 0) ++ flat_map part_bytes rest.1 = sym (append_assoc unit (replicate rest.0 0) (flat_map part_bytes rest.1)) in
    let head = zeros_drop b (u.start - 3 - p) p front in
    let place : p + (u.start - 3 - p) + 3 ≡ u.start = omega (arith, starts.prefix) in
    let end : p + (u.start - 3 - p) + 3 + length unit ≡ u.end = omega (arith, len_is b true p u f.0, f.0.ends.order, starts.prefix) in (
      u.start - 3 - p,
      record { unit = unit; zeros = rest.0 } ∷ rest.1,
      head ∙ ap (λ xs. replicate (u.start - 3 - p) 0 ++ xs) (ap (λ k. drop k b) n ∙ codes ∙ ap (λ xs. 0 ∷ 0 ∷ 1 ∷ xs) (all ∙ joined)),
      ap₂ (λ (x : UnitPlace) (xs : List UnitPlace). x ∷ xs) (ap₂ (λ (s t : ℕ). let w : UnitPlace = record { start = s; end = t } in w) (sym place) (sym end)) (rest.3 ∙ ap (λ k. places_from (k + rest.0) rest.1) (sym end)),
      All-cons CanStand unit (units_of rest.1) (record { last = last b true p u f.0; sound = f.1 }) rest.4,
    )

from_start : (b : List ℕ) (us : List UnitPlace) → Parts b 0 us → (zeros : ℕ) × (parts : List Part) × (b ≡ annex_b zeros parts) × (us ≡ places_from zeros parts) × All CanStand (units_of parts)
unfolding Parts
from_start b us parts =
    let none : 0 + parts.0 ≡ parts.0 = omega arith in
    (parts.0, parts.1, parts.2, parts.3 ∙ ap (λ k. places_from k parts.1) none, parts.4)

pub stream_is_annex_b : StreamIsAnnexB
stream_is_annex_b b us s =
    let zeros : AreZeros b (end_of 0 us) (length b) = ⊎_elim (λ z. z)
    (λ n. absurd (n.2 (length b) n.1.within (inr (refl, record { order = omega arith; within = omega arith; each = λ k le lt. absurd (omega arith) })))) s.behind in
    from_start b us (parts_from b 0 us s.follow zeros)

-- The other way: zeros, a start code, a unit, and what is behind it, after other bytes.
whole : List ℕ → ℕ → List ℕ → List ℕ → List ℕ
whole before z unit rest = before ++ (replicate z 0 ++ (0 ∷ 0 ∷ 1 ∷ (unit ++ rest)))

module _ (before : List ℕ) (z : ℕ) (unit rest : List ℕ) (p : ℕ) (is : length before ≡ p) where
  length-whole : length (whole before z unit rest) ≡ p + z + 3 + length unit + length rest
  unfolding whole
  length-whole = simp (length-append, length-replicate) (omega (arith, is))

  at_zeros : (k : ℕ) → slice_index (whole before z unit rest) (p + k) ≡ slice_index (replicate z 0 ++ (0 ∷ 0 ∷ 1 ∷ (unit ++ rest))) k
  unfolding whole
  at_zeros k = rw (← is) (get_or-append-add before (replicate z 0 ++ (0 ∷ 0 ∷ 1 ∷ (unit ++ rest))) k 0)

  at_code : (k : ℕ) → slice_index (whole before z unit rest) (p + z + k) ≡ slice_index (0 ∷ 0 ∷ 1 ∷ (unit ++ rest)) k
  at_code k =
      let e : p + z + k ≡ p + (z + k) = omega arith in
      let n = length-zeros z in
      let g = get_or-append-add (replicate z 0) (0 ∷ 0 ∷ 1 ∷ (unit ++ rest)) k 0 in
      rw e (at_zeros (z + k) ∙ (rw n at g))

  at_tail : (k : ℕ) → slice_index (whole before z unit rest) (p + z + 3 + k) ≡ slice_index (unit ++ rest) k
  at_tail k =
      let e : p + z + 3 + k ≡ p + z + suc (suc (suc k)) = omega arith in
      rw e (at_code (suc (suc (suc k))))

  at_rest : (k : ℕ) → slice_index (whole before z unit rest) (p + z + 3 + length unit + k) ≡ slice_index rest k
  at_rest k =
      let e : p + z + 3 + length unit + k ≡ p + z + 3 + (length unit + k) = omega arith in
      rw e (at_tail (length unit + k) ∙ get_or-append-add unit rest k 0)

  in_unit : (k : ℕ) → k < length unit → slice_index (whole before z unit rest) (p + z + 3 + k) ≡ slice_index unit k
  in_unit k lt = at_tail k ∙ get_or_append_left unit rest 0 k lt

  -- the zeros up to the one
  code_zeros : AreZeros (whole before z unit rest) p (p + z + 2)
  code_zeros = record {
    order = omega arith;
    within = omega (arith, length-whole);
    each = λ k le lt. ⊎_elim
        (λ low. let e : p + (k - p) ≡ k = omega arith in
        ap (slice_index (whole before z unit rest)) (sym e) ∙ at_zeros (k - p) ∙ get_or_append_left (replicate z 0) (0 ∷ 0 ∷ 1 ∷ (unit ++ rest)) 0 (k - p) (omega (arith, length-zeros z)) ∙ get_or-replicate z (k - p) 0 0 (omega arith))
        (λ high. ⊎_elim
        (λ first. let e : k ≡ p + z + 0 = omega arith in rw e (at_code 0))
        (λ second. let e : k ≡ p + z + 1 = omega arith in rw e (at_code 1))
        (cases_lt k (p + z + 1)))
        (cases_lt k (p + z));
  }

  code_starts : StartsAt (whole before z unit rest) p (p + z + 3)
  code_starts =
      let e : p + z + 3 - 1 ≡ p + z + 2 = omega arith in
      record { prefix = omega arith; within = omega (arith, length-whole); zeros = rw e code_zeros; one = rw e (at_code 2) }

  unit_is : unit_bytes (whole before z unit rest) (record { start = p + z + 3; end = p + z + 3 + length unit }) ≡ unit
  unfolding whole
  unit_is =
      let n : p + z + 3 + length unit - (p + z + 3) ≡ length unit = omega arith in
      let front : List ℕ = before ++ (replicate z 0 ++ (0 ∷ 0 ∷ 1 ∷ [])) in
      let split : before ++ (replicate z 0 ++ (0 ∷ 0 ∷ 1 ∷ (unit ++ rest))) ≡ front ++ (unit ++ rest) = sym (append_assoc before (replicate z 0 ++ (0 ∷ 0 ∷ 1 ∷ [])) (unit ++ rest) ∙ ap (λ xs. before ++ xs) (append_assoc (replicate z 0) (0 ∷ 0 ∷ 1 ∷ []) (unit ++ rest))) in
      let len : length front ≡ p + z + 3 = simp (length-append, length-replicate) (omega (arith, is)) in
      rw (n, split) (ap (take (length unit)) (drop_at front (unit ++ rest) (p + z + 3) len) ∙ take_at unit rest (length unit) refl)

  -- no end before the unit's own
  not_before : CanStand unit → (k : ℕ) → p + z + 3 ≤ k → k < p + z + 3 + length unit → ¬ CanEnd (whole before z unit rest) true k
  not_before plain k le lt c =
      let s = p + z + 3 in
      let n : length unit ≡ length unit - 1 + 1 = omega arith in
      let e : s + (k - s) ≡ k = omega arith in
      let b = whole before z unit rest in
      let last_is : slice_index b (s + (length unit - 1)) ≡ 0 → ⊥ = λ zero_is. plain.last (length unit - 1) n (sym (in_unit (length unit - 1) (omega arith)) ∙ zero_is) in
      ⊎_elim
      (λ m. ⊎_elim
      (λ inner. no_code unit plain.sound.emulation (k - s) (record {
        within = omega arith;
        first = sym (in_unit (k - s) (omega arith)) ∙ ap (slice_index b) e ∙ m.first;
        second = let e1 : s + (k - s + 1) ≡ k + 1 = omega arith in sym (in_unit (k - s + 1) (omega arith)) ∙ ap (slice_index b) e1 ∙ m.second;
        third = let e2 : s + (k - s + 2) ≡ k + 2 = omega arith in rw (← in_unit (k - s + 2) (omega arith), e2) m.third;
      }))
      (λ outer. ⊎_elim
      (λ at_last. let same : s + (length unit - 1) ≡ k = omega arith in last_is (ap (slice_index b) same ∙ m.first))
      (λ before_last. let same : s + (length unit - 1) ≡ k + 1 = omega arith in last_is (ap (slice_index b) same ∙ m.second))
      (cases_lt (s + length unit) (k + 2)))
      (cases_lt (k + 2) (s + length unit)))
      (λ zs. last_is (zs.1.each (s + (length unit - 1)) (omega arith) (omega (arith, length-whole))))
      c

-- zeros, and nothing behind them
zeros_to_end : (b : List ℕ) (e z : ℕ) → length b ≡ e + length {A = ℕ} (replicate z 0 ++ []) → ((k : ℕ) → slice_index b (e + k) ≡ slice_index (replicate z 0 ++ []) k) → AreZeros b e (length b)
zeros_to_end b e z len at =
    let n : length {A = ℕ} (replicate z 0 ++ []) ≡ z = simp (length-append, length-replicate) (omega arith) in
    record {
      order = omega arith;
      within = omega arith;
      each = λ k le lt.
          let same : e + (k - e) ≡ k = omega arith in
          ap (slice_index b) (sym same) ∙ at (k - e) ∙ get_or_append_left (replicate z 0) [] 0 (k - e) (omega (arith, length-zeros z)) ∙ get_or-replicate z (k - e) 0 0 (omega (arith, n));
    }

-- 00 00 and a byte of at most 1 end a unit
code_ends : (b : List ℕ) (e x : ℕ) (rest : List ℕ) → length b ≡ e + length (0 ∷ 0 ∷ x ∷ rest) → ((k : ℕ) → slice_index b (e + k) ≡ slice_index (0 ∷ 0 ∷ x ∷ rest) k) → x ≤ 1 → CanEnd b true e
code_ends b e x rest len at small =
    let zero_is : e + 0 ≡ e = omega arith in
    inl (record { within = omega (arith, len); first = rw zero_is at (at 0); second = at 1; third = rw (at 2) small })

-- what stands behind a unit: zeros to the end, or a start code behind zeros
rest_ends : (b : List ℕ) (e : ℕ) (z : ℕ) (parts : List Part) → length b ≡ e + length (replicate z 0 ++ flat_map part_bytes parts) → ((k : ℕ) → slice_index b (e + k) ≡ slice_index (replicate z 0 ++ flat_map part_bytes parts) k) → CanEnd b true e
rest_ends b e z [] len at =
    inr (refl, zeros_to_end b e z len at)
rest_ends b e zero (q ∷ qs) len at = code_ends b e 1 _ len at (omega arith)
rest_ends b e (suc zero) (q ∷ qs) len at = code_ends b e 0 (drop 2 (flat_map part_bytes (q ∷ qs))) len at (omega arith)
rest_ends b e (suc (suc zero)) (q ∷ qs) len at = code_ends b e 0 (drop 1 (flat_map part_bytes (q ∷ qs))) len at (omega arith)
rest_ends b e (suc (suc (suc z))) (q ∷ qs) len at = code_ends b e 0 _ len at (omega arith)

-- the units of parts behind other bytes
Follow : List ℕ → ℕ → ℕ → List Part → Type 0
Follow b p z parts =
    FollowsFrom b true p (places_from (p + z) parts)
    × AreZeros b (end_of p (places_from (p + z) parts)) (length b)
    × (map (unit_bytes b) (places_from (p + z) parts) ≡ units_of parts)

follow_parts : (before : List ℕ) (p z : ℕ) (parts : List Part) → length before ≡ p → All CanStand (units_of parts) → Follow (before ++ (replicate z 0 ++ flat_map part_bytes parts)) p z parts
unfolding Follow whole
follow_parts before p z [] len sound =
    let at : (k : ℕ) → slice_index (before ++ (replicate z 0 ++ [])) (p + k) ≡ slice_index (replicate z 0 ++ []) k = λ k. rw (← len) (get_or-append-add before (replicate z 0 ++ []) k 0) in
    (tt, zeros_to_end (before ++ (replicate z 0 ++ [])) p z (omega (arith, length-append before (replicate z 0 ++ []), len)) at, refl)
follow_parts before p z (q ∷ qs) len sound =
    let rest = replicate q.zeros 0 ++ flat_map part_bytes qs in
    let same : before ++ (replicate z 0 ++ flat_map part_bytes (q ∷ qs)) ≡ whole before z q.unit rest = ap (λ xs. before ++ (replicate z 0 ++ (0 ∷ 0 ∷ 1 ∷ xs))) (append_assoc q.unit (replicate q.zeros 0) (flat_map part_bytes qs)) in
    let e = p + z + 3 + length q.unit in
    let before2 : List ℕ = before ++ (replicate z 0 ++ (0 ∷ 0 ∷ 1 ∷ q.unit)) in
    let len2 : length before2 ≡ e = simp (length-append, length-replicate) (omega (arith, len)) in
    let stands = All-head CanStand q.unit (units_of qs) sound in
    let later = follow_parts before2 e q.zeros qs len2 (All-tail CanStand q.unit (units_of qs) sound) in
    let same2 : before2 ++ rest ≡ whole before z q.unit rest = append_assoc before (replicate z 0 ++ (0 ∷ 0 ∷ 1 ∷ q.unit)) rest ∙ ap (λ xs. before ++ xs) (append_assoc (replicate z 0) (0 ∷ 0 ∷ 1 ∷ q.unit) rest) in
    let P : List ℕ → Type 0 = λ b. Follow b p z (q ∷ qs) in
    let Q : List ℕ → Type 0 = λ b. Follow b e q.zeros qs in
    let after : Q (whole before z q.unit rest) = subst Q same2 later in
    let ends = rest_ends (whole before z q.unit rest) e q.zeros qs (length-whole before z q.unit rest p len) (at_rest before z q.unit rest p len) in
    let place : UnitPlace = record { start = p + z + 3; end = e } in
    let is : IsUnit (whole before z q.unit rest) true p place = record {
      starts = code_starts before z q.unit rest p len;
      ends = record { order = omega arith; here = ends; before = not_before before z q.unit rest p len stands };
    } in
    let holds : P (whole before z q.unit rest) = (
      (is, rw (unit_is before z q.unit rest p len) stands.sound, after.0),
      after.1,
      ap₂ (λ (x : List ℕ) (xs : List (List ℕ)). x ∷ xs) (unit_is before z q.unit rest p len) after.2,
    ) in
    subst P (sym same) holds

pub annex_b_is_stream : AnnexBIsStream
unfolding Follow
annex_b_is_stream z parts sound =
    let f = follow_parts [] 0 z parts refl sound in
    let none : 0 + z ≡ z = omega arith in
    let P : ℕ → Type 0 = λ k.
    FollowsFrom (annex_b z parts) true 0 (places_from k parts)
    × AreZeros (annex_b z parts) (end_of 0 (places_from k parts)) (length (annex_b z parts))
    × (map (unit_bytes (annex_b z parts)) (places_from k parts) ≡ units_of parts) in
    let g : P z = subst P none f in
    (record { follow = g.0; behind = inl g.1 }, g.2)
