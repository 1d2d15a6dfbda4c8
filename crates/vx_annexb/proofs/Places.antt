-- Zeros, marks and units at places of a list, as the list goes on and as its front is dropped.
use Rattle.std.proofs.Common.{◌≡◌, ℕ, ◌+◌, ◌-◌, ◌<◌, ◌≤◌, inl, inr, Bool, false, List, [], ◌∷◌, ◌++◌, length, drop, slice_index, slice_range, sym, ap, ◌∙◌, arith, get_or-drop, length-append, length-drop, ⊎_elim, refl, get_or-take}
use Rattle.std.proofs.lemmas.Bool.{cases_lt, false≢true}
use Rattle.std.proofs.lemmas.List.{get_or_append_left, length-take-le, take-append-le, drop-append-le, drop-drop}
use Rattle.vx_bits.specs.declared.refusal.Refusal.{Refusal}
use Rattle.vx_annexb.specs.Places.{AreZeros, IsMark, IsFirstFrom}
use Rattle.vx_annexb.specs.ByteStream.{StartsAt, CanEnd, UnitPlace, unit_bytes, IsUnit, IsStray, IsSound, RefusesNext, FollowsFrom, end_of}

-- Bytes from place `base` on, and what stands there.
module _ (g kept : List ℕ) (base : ℕ) (is : kept ≡ drop base g) where
  pub index_kept : (k : ℕ) → slice_index kept k ≡ slice_index g (base + k)
  index_kept k = rw is (get_or-drop base g k 0)

  pub index_stream : (k : ℕ) → base ≤ k → slice_index g k ≡ slice_index kept (k - base)
  index_stream k le = let e : base + (k - base) ≡ k = omega arith in ap (slice_index g) (sym e) ∙ sym (index_kept (k - base))

module _ (g kept : List ℕ) (base : ℕ) (is : kept ≡ drop base g) (len : length g ≡ base + length kept) where
  pub zeros_stream : (i j : ℕ) → AreZeros kept i j → AreZeros g (base + i) (base + j)
  zeros_stream i j z = record {
    order = omega (arith, z.order);
    within = omega (arith, z.within);
    each = λ k le lt. index_stream g kept base is k (omega arith) ∙ z.each (k - base) (omega arith) (omega arith);
  }

  pub zeros_kept : (i j : ℕ) → base ≤ i → AreZeros g i j → AreZeros kept (i - base) (j - base)
  zeros_kept i j le z = record {
    order = omega (arith, z.order);
    within = omega (arith, z.within);
    each = λ k a lt. index_kept g kept base is k ∙ z.each (base + k) (omega arith) (omega arith);
  }

  pub mark_stream : (most i : ℕ) → IsMark most kept i → IsMark most g (base + i)
  mark_stream most i m = record {
    within = omega (arith, m.within);
    first = sym (index_kept g kept base is i) ∙ m.first;
    second = let e : (base + i) + 1 ≡ base + (i + 1) = omega arith in rw e (sym (index_kept g kept base is (i + 1)) ∙ m.second);
    third = let e : (base + i) + 2 ≡ base + (i + 2) = omega arith in rw e (rw (← index_kept g kept base is (i + 2)) m.third);
  }

  pub mark_kept : (most k : ℕ) → base ≤ k → IsMark most g k → IsMark most kept (k - base)
  mark_kept most k le m =
      let e : base + (k - base) ≡ k = omega arith in
      let e1 : base + ((k - base) + 1) ≡ k + 1 = omega arith in
      let e2 : base + ((k - base) + 2) ≡ k + 2 = omega arith in record {
        within = omega (arith, m.within);
        first = index_kept g kept base is (k - base) ∙ ap (slice_index g) e ∙ m.first;
        second = index_kept g kept base is ((k - base) + 1) ∙ ap (slice_index g) e1 ∙ m.second;
        third = rw (index_kept g kept base is ((k - base) + 2)) (rw e2 m.third);
      }

pub zeros_join : (g : List ℕ) (i j k : ℕ) → AreZeros g i j → AreZeros g j k → AreZeros g i k
zeros_join g i j k a b = record {
  order = omega (arith, a.order, b.order);
  within = b.within;
  each = λ n le lt. ⊎_elim (λ below. a.each n le below) (λ above. b.each n above lt) (cases_lt n j);
}

-- where three bytes are zeros, a mark stands
pub zeros_mark : (g : List ℕ) (k n : ℕ) → AreZeros g k n → k + 2 < n → IsMark 1 g k
zeros_mark g k n z lt = record {
  within = omega (arith, z.within);
  first = z.each k (omega arith) (omega arith);
  second = z.each (k + 1) (omega arith) (omega arith);
  third = rw (z.each (k + 2) (omega arith) lt) (omega arith);
}

-- a byte of at most `most` is of at most `more`
pub mark_wider : (most more : ℕ) (b : List ℕ) (k : ℕ) → most ≤ more → IsMark most b k → IsMark more b k
mark_wider most more b k le m = record { within = m.within; first = m.first; second = m.second; third = omega (arith, m.third) }

-- bytes from place s up to place e
pub length-slice : (b : List ℕ) (s e : ℕ) → s ≤ e → e ≤ length b → length (slice_range b s e) ≡ e - s
length-slice b s e le within = length-take-le (e - s) (drop s b) (omega (arith, length-drop s b))

pub index-slice : (b : List ℕ) (s e k : ℕ) → k < e - s → slice_index (slice_range b s e) k ≡ slice_index b (s + k)
index-slice b s e k lt = get_or-take (e - s) (drop s b) k 0 lt ∙ get_or-drop s b k 0

-- a unit's bytes among those that are kept
pub slice_kept : (g kept : List ℕ) (base s e : ℕ) → kept ≡ drop base g → base ≤ s → slice_range kept (s - base) (e - base) ≡ slice_range g s e
slice_kept g kept base s e is le =
    let a : base + (s - base) ≡ s = omega arith in
    let n : (e - base) - (s - base) ≡ e - s = omega arith in
    rw (is, n, drop-drop (s - base) base g, a) refl

-- one more unit behind those that follow one another
pub follows_more : (g : List ℕ) (all : Bool) (p : ℕ) (us : List UnitPlace) (u : UnitPlace) → FollowsFrom g all p us → IsUnit g all (end_of p us) u → IsSound (unit_bytes g u) → FollowsFrom g all p (us ++ u ∷ [])
follows_more g all p [] u f is sound = (is, sound, tt)
follows_more g all p (v ∷ us) u f is sound = (f.0, f.1, follows_more g all v.end us u f.2 is sound)

pub end_of_more : (p : ℕ) (us : List UnitPlace) (u : UnitPlace) → end_of p (us ++ u ∷ []) ≡ u.end
end_of_more p [] u = refl
end_of_more p (v ∷ us) u = end_of_more v.end us u

-- the bytes go on
module _ (g more : List ℕ) where
  pub index_on : (k : ℕ) → k < length g → slice_index (g ++ more) k ≡ slice_index g k
  index_on k lt = get_or_append_left g more 0 k lt

  pub zeros_on : (i j : ℕ) → AreZeros g i j → AreZeros (g ++ more) i j
  zeros_on i j z = record {
    order = z.order;
    within = omega (arith, z.within, length-append g more);
    each = λ k le lt. index_on k (omega (arith, z.within)) ∙ z.each k le lt;
  }

  pub mark_on : (most i : ℕ) → IsMark most g i → IsMark most (g ++ more) i
  mark_on most i m = record {
    within = omega (arith, m.within, length-append g more);
    first = index_on i (omega (arith, m.within)) ∙ m.first;
    second = index_on (i + 1) (omega (arith, m.within)) ∙ m.second;
    third = rw (index_on (i + 2) m.within) m.third;
  }

  pub mark_before : (most i : ℕ) → i + 2 < length g → IsMark most (g ++ more) i → IsMark most g i
  mark_before most i lt m = record {
    within = lt;
    first = sym (index_on i (omega arith)) ∙ m.first;
    second = sym (index_on (i + 1) (omega arith)) ∙ m.second;
    third = rw (← index_on (i + 2) lt) m.third;
  }

  -- a place at which a unit can end in longer bytes is a mark, where three bytes are there
  pub end_before : (all : Bool) (i : ℕ) → i + 2 < length g → CanEnd (g ++ more) all i → IsMark 1 g i
  end_before all i lt (inl m) = mark_before 1 i lt m
  end_before all i lt (inr z) =
      let len = length-append g more in
      let at : (k : ℕ) → i ≤ k → k < length g → slice_index g k ≡ 0 = λ k le below. sym (index_on k below) ∙ z.1.each k le (omega arith) in
      record {
        within = lt;
        first = at i (omega arith) (omega arith);
        second = at (i + 1) (omega arith) (omega arith);
        third = rw (at (i + 2) (omega arith) lt) (omega arith);
      }

  pub starts_on : (p s : ℕ) → StartsAt g p s → StartsAt (g ++ more) p s
  starts_on p s h = record {
    prefix = h.prefix;
    within = omega (arith, h.within, length-append g more);
    zeros = zeros_on p (s - 1) h.zeros;
    one = index_on (s - 1) (omega (arith, h.within, h.prefix)) ∙ h.one;
  }

  pub ends_on : (all : Bool) (s e : ℕ) → IsFirstFrom (CanEnd g false) s e → IsFirstFrom (CanEnd (g ++ more) all) s e
  ends_on all s e h =
      let m : IsMark 1 g e = ⊎_elim (λ m. m) (λ z. absurd (false≢true z.0)) h.here in
      record {
        order = h.order;
        here = inl (mark_on 1 e m);
        before = λ k le lt c. h.before k le lt (inl (end_before all k (omega (arith, m.within)) c));
      }

  pub unit_on : (all : Bool) (p : ℕ) (u : UnitPlace) → IsUnit g false p u → IsUnit (g ++ more) all p u
  unit_on all p u h = record { starts = starts_on p u.start h.starts; ends = ends_on all u.start u.end h.ends }

  pub bytes_on : (u : UnitPlace) → u.start ≤ u.end → u.end ≤ length g → unit_bytes (g ++ more) u ≡ unit_bytes g u
  bytes_on u order within =
      let a = drop-append-le u.start g more (omega arith) in
      let b = length-drop u.start g in
      rw a (take-append-le (u.end - u.start) (drop u.start g) more (omega arith))

  pub stray_on : (p q : ℕ) → IsStray g p q → IsStray (g ++ more) p q
  stray_on p q h = record {
    zeros = zeros_on p q h.zeros;
    within = omega (arith, h.within, length-append g more);
    nonzero = λ e. h.nonzero (sym (index_on q h.within) ∙ e);
    no_code = λ e. h.no_code (sym (index_on q h.within) ∙ e);
  }

  pub unit_within : (p : ℕ) (u : UnitPlace) → IsUnit g false p u → u.end ≤ length g
  unit_within p u h = ⊎_elim (λ m. omega (arith, m.within)) (λ z. absurd (false≢true z.0)) h.ends.here

  pub follows_on : (all : Bool) (p : ℕ) (us : List UnitPlace) → FollowsFrom g false p us → FollowsFrom (g ++ more) all p us
  follows_on all p [] f = tt
  follows_on all p (u ∷ us) f =
      let same = bytes_on u f.0.ends.order (unit_within p u f.0) in
      (unit_on all p u f.0, rw same f.1, follows_on all u.end us f.2)

  pub refuses_on : (all : Bool) (p : ℕ) (r : Refusal) → RefusesNext g false p r → RefusesNext (g ++ more) all p r
  refuses_on all p r (inl s) = inl (s.0, stray_on p s.0 s.1, s.2)
  refuses_on all p r (inr s) =
      let u = s.0 in
      let same = bytes_on u s.1.ends.order (unit_within p u s.1) in
      inr (u, unit_on all p u s.1, rw same s.2)
