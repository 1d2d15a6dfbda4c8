-- Before a byte that is no start code the units are those of the bytes before it.
use Rattle.std.proofs.Common.{◌≡◌, ℕ, ◌+◌, ◌-◌, ◌<◌, ◌≤◌, inl, inr, Bool, true, List, [], ◌∷◌, length, take, drop, slice_index, sym, subst, ◌∙◌, arith, refl, ⊎_elim, get_or-take}
use Rattle.std.proofs.lemmas.Bool.{cases_lt}
use Rattle.std.proofs.lemmas.List.{length-take-le, take-append-drop}
use Rattle.vx_bits.specs.declared.refusal.Refusal.TheVariants.{Framing}
use Rattle.vx_annexb.specs.Places.{AreZeros, IsMark, IsFirstFrom}
use Rattle.vx_annexb.specs.ByteStream.{StartsAt, CanEnd, UnitPlace, unit_bytes, IsUnit, IsStray, IsSound, RefusesNext, FollowsFrom, end_of}
use Rattle.vx_annexb.specs.Laws.{StrayEndsStream}
use Rattle.vx_annexb.proofs.Places.{mark_on, bytes_on}

-- The first p bytes, behind which a byte stands that is no start code.
module _ (b : List ℕ) (p : ℕ) (inside : p ≤ length b) where
  len : length (take p b) ≡ p
  len = length-take-le p b inside

  in_front : (k : ℕ) → k < p → slice_index (take p b) k ≡ slice_index b k
  in_front k lt = get_or-take p b k 0 lt

  zeros_in : (i j : ℕ) → j ≤ p → AreZeros b i j → AreZeros (take p b) i j
  zeros_in i j le z = record { order = z.order; within = omega (arith, len); each = λ k low lt. in_front k (omega arith) ∙ z.each k low lt }

  starts_in : (q s : ℕ) → s ≤ p → StartsAt b q s → StartsAt (take p b) q s
  starts_in q s le h = record { prefix = h.prefix; within = omega (arith, len); zeros = zeros_in q (s - 1) (omega arith) h.zeros; one = in_front (s - 1) (omega (arith, h.prefix)) ∙ h.one }

  mark_out : (k : ℕ) → IsMark 1 (take p b) k → IsMark 1 b k
  mark_out k m = let e = mark_on (take p b) (drop p b) 1 k m in rw (take-append-drop p b) at e

  -- where a unit of b ends by a mark, it ends in the first p bytes too, if these go on behind the mark or with zeros alone
  ends_in : (s e : ℕ) → e ≤ p → IsMark 1 b e → ((e + 2 < p → ⊥) → AreZeros b e p) → ((k : ℕ) → s ≤ k → k < e → ¬ IsMark 1 b k) → s ≤ e → IsFirstFrom (CanEnd (take p b) true) s e
  ends_in s e le m zeros before order = record {
    order = order;
    here = ⊎_elim
        (λ within. inl (record { within = omega (arith, len); first = in_front e (omega arith) ∙ m.first; second = in_front (e + 1) (omega arith) ∙ m.second; third = rw (in_front (e + 2) within) m.third }))
        (λ past. inr (refl, rw len (zeros_in e p (omega arith) (zeros (λ lt. omega (arith, lt, past))))))
        (cases_lt (e + 2) p);
    before = λ k low lt. ⊎_elim
        (λ mark. before k low lt (mark_out k mark))
        (λ z.
        let near : (i : ℕ) → k ≤ i → i < e → slice_index b i ≡ 0 = λ i a c. sym (in_front i (omega arith)) ∙ z.1.each i a (omega (arith, len)) in
        let from_mark : (i : ℕ) → e ≤ i → i < e + 2 → slice_index b i ≡ 0 = λ i a c. ⊎_elim
        (λ one. let same : i ≡ e = omega arith in rw same m.first)
        (λ two. let same : i ≡ e + 1 = omega arith in rw same m.second)
        (cases_lt i (e + 1)) in
        let all : (i : ℕ) → k ≤ i → i < e + 2 → slice_index b i ≡ 0 = λ i a c. ⊎_elim (λ low2. near i a low2) (λ high. from_mark i high c) (cases_lt i e) in
        before k low lt (record {
          within = omega (arith, m.within);
          first = all k (omega arith) (omega arith);
          second = all (k + 1) (omega arith) (omega arith);
          third = rw (all (k + 2) (omega arith) (omega arith)) (omega arith);
        }));
  }

-- where the units begin behind a place, they end behind it
pub end_after : (b : List ℕ) (all : Bool) (q : ℕ) (us : List UnitPlace) → FollowsFrom b all q us → q ≤ end_of q us
end_after b all q [] f = omega arith
end_after b all q (u ∷ us) f = omega (arith, end_after b all u.end us f.2, f.0.starts.prefix, f.0.ends.order)

-- what stands behind the end of a unit: the next start code, or the byte that is none
module _ (b : List ℕ) (all : Bool) (p : ℕ) where
  zeros_behind : (e : ℕ) (us : List UnitPlace) → FollowsFrom b all e us → IsStray b (end_of e us) p → IsMark 1 b e → (e + 2 < p → ⊥) → AreZeros b e p
  zeros_behind e [] f stray m past = stray.zeros
  zeros_behind e (u ∷ us) f stray m past =
      absurd (past (omega (arith, f.0.starts.prefix, f.0.ends.order, end_after b all u.end us f.2, stray.zeros.order)))

  marked : (e : ℕ) (us : List UnitPlace) → FollowsFrom b all e us → IsStray b (end_of e us) p → CanEnd b all e → IsMark 1 b e
  marked e us f stray (inl m) = m
  marked e us f stray (inr z) = absurd (stray.nonzero (z.1.each p (omega (arith, end_after b all e us f, stray.zeros.order)) stray.within))

  follow_in : (q : ℕ) (us : List UnitPlace) → FollowsFrom b all q us → IsStray b (end_of q us) p → FollowsFrom (take p b) true q us
  follow_in q [] f stray = tt
  follow_in q (u ∷ us) f stray =
      let inside : p ≤ length b = omega (arith, stray.within) in
      let end : u.end ≤ p = omega (arith, end_after b all u.end us f.2, stray.zeros.order) in
      let m = marked u.end us f.2 stray f.0.ends.here in
      let is : IsUnit (take p b) true q u = record {
        starts = starts_in b p inside q u.start (omega (arith, f.0.ends.order)) f.0.starts;
        ends = ends_in b p inside u.start u.end end m (zeros_behind u.end us f.2 stray m) (λ k le lt mark. f.0.ends.before k le lt (inl mark)) f.0.ends.order;
      } in
      let same = bytes_on (take p b) (drop p b) u f.0.ends.order (omega (arith, len b p inside)) in
      let bytes : unit_bytes b u ≡ unit_bytes (take p b) u = rw (take-append-drop p b) at same in
      let P : List ℕ → Type 0 = λ xs. IsSound xs in
      (is, subst P bytes f.1, follow_in u.end us f.2 stray)

stray_at : (b : List ℕ) (all : Bool) (q p : ℕ) → RefusesNext b all q (Framing 1 p) → IsStray b q p
stray_at b all q p (inl s) =
    let same : s.0 ≡ p = (let e = s.2 in cc) in
    let P : ℕ → Type 0 = λ k. IsStray b q k in
    subst P same s.1
stray_at b all q p (inr s) = ⊎_elim
    (λ x. let e = x.1 in cc)
    (λ y. ⊎_elim (λ x. let e = x.1.2 in cc) (λ x. let e = x.3 in cc) y)
    s.2

pub stray_ends : StrayEndsStream
stray_ends b all us p s =
    let stray = stray_at b all (end_of 0 us) p s.behind in
    let inside : p ≤ length b = omega (arith, stray.within) in
    record { follow = follow_in b all p 0 us s.follow stray; behind = inl (rw (len b p inside) (zeros_in b p inside (end_of 0 us) p (omega arith) stray.zeros)) }
