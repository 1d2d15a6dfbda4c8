-- The bytes determine their units and the ending behind them.
use Rattle.std.proofs.Common.{◌≡◌, ℕ, ◌+◌, ◌-◌, inl, inr, Bool, false, List, [], ◌∷◌, ◌++◌, Option, Some, None, length, slice_index, sym, ap, ap₂, subst, ◌∙◌, arith, refl, ⊎_elim}
use Rattle.std.proofs.lemmas.Bool.{cases_order}
use Rattle.vx_bits.specs.declared.refusal.Refusal.{Refusal}
use Rattle.vx_bits.specs.declared.refusal.Refusal.TheVariants.{Framing}
use Rattle.vx_annexb.specs.Places.{AreZeros, IsFirstFrom}
use Rattle.vx_annexb.specs.ByteStream.{StartsAt, CanEnd, UnitPlace, unit_bytes, IsUnit, SeesNoMore, IsStray, IsSound, RefusesUnit, RefusesNext, FollowsFrom, end_of, EndsWith}
use Rattle.vx_annexb.specs.Emulation.{BreaksRule}
use Rattle.vx_annexb.specs.Laws.{StreamIsUnique, StreamGoesOn}
use Rattle.vx_annexb.proofs.Places.{follows_on, refuses_on}

first_unique : (P : ℕ → Type 0) (s e f : ℕ) → IsFirstFrom P s e → IsFirstFrom P s f → e ≡ f
first_unique P s e f a b = ⊎_elim (λ is. is) (λ o. ⊎_elim (λ lt. absurd (b.before e a.order lt a.here)) (λ gt. absurd (a.before f b.order gt b.here)) o) (cases_order e f)

-- what a unit's rules say of it is one thing
unit_refusal : (unit : List ℕ) (place : ℕ) (r t : Refusal) → RefusesUnit unit place r → RefusesUnit unit place t → r ≡ t
unit_refusal unit place r t (inl a) (inl c) = a.1 ∙ sym c.1
unit_refusal unit place r t (inl a) (inr (inl c)) = absurd (a.0 c.0)
unit_refusal unit place r t (inl a) (inr (inr c)) = absurd (a.0 c.0)
unit_refusal unit place r t (inr (inl a)) (inl c) = absurd (c.0 a.0)
unit_refusal unit place r t (inr (inl a)) (inr (inl c)) = a.1.2 ∙ ap (λ k. Framing 2 (place + k)) (first_unique (BreaksRule unit) 0 a.1.0 c.1.0 a.1.1 c.1.1) ∙ sym c.1.2
unit_refusal unit place r t (inr (inl a)) (inr (inr c)) = absurd (c.1 a.1.0 a.1.1.here)
unit_refusal unit place r t (inr (inr a)) (inl c) = absurd (c.0 a.0)
unit_refusal unit place r t (inr (inr a)) (inr (inl c)) = absurd (a.1 c.1.0 c.1.1.here)
unit_refusal unit place r t (inr (inr a)) (inr (inr c)) = a.3 ∙ sym c.3

unit_refused : (unit : List ℕ) (place : ℕ) (r : Refusal) → RefusesUnit unit place r → ¬ IsSound unit
unit_refused unit place r (inl a) s = a.0 s.header
unit_refused unit place r (inr (inl a)) s = s.emulation a.1.0 a.1.1.here
unit_refused unit place r (inr (inr a)) s = omega (arith, a.2, s.size)

module _ (b : List ℕ) (all : Bool) (p : ℕ) where
  starts_unique : (s t : ℕ) → StartsAt b p s → StartsAt b p t → s ≡ t
  starts_unique s t a c = ⊎_elim (λ is. is) (λ o. ⊎_elim
      (λ lt. let z = c.zeros.each (s - 1) (omega (arith, a.prefix)) (omega (arith, a.prefix)) in absurd (omega (arith, z, a.one)))
      (λ gt. let z = a.zeros.each (t - 1) (omega (arith, c.prefix)) (omega (arith, c.prefix)) in absurd (omega (arith, z, c.one)))
      o) (cases_order s t)

  unit_unique : (u v : UnitPlace) → IsUnit b all p u → IsUnit b all p v → u ≡ v
  unit_unique u v a c =
      let start = starts_unique u.start v.start a.starts c.starts in
      let P : ℕ → Type 0 = λ s. IsFirstFrom (CanEnd b all) s v.end in
      let end = first_unique (CanEnd b all) u.start u.end v.end a.ends (subst P (sym start) c.ends) in
      ap₂ (λ (s e : ℕ). let w : UnitPlace = record { start = s; end = e } in w) start end

  stray_unique : (q o : ℕ) → IsStray b p q → IsStray b p o → q ≡ o
  stray_unique q o a c = ⊎_elim (λ is. is) (λ e. ⊎_elim (λ lt. absurd (a.nonzero (c.zeros.each q a.zeros.order lt))) (λ gt. absurd (c.nonzero (a.zeros.each o c.zeros.order gt))) e) (cases_order q o)

  stray_or_start : (q s : ℕ) → IsStray b p q → StartsAt b p s → ⊥
  stray_or_start q s a c =
      ⊎_elim
      (λ is. let no = a.no_code (ap (slice_index b) is ∙ c.one) in omega (arith, no, c.prefix))
      (λ e. ⊎_elim
      (λ lt. a.nonzero (c.zeros.each q a.zeros.order lt))
      (λ gt. let z = a.zeros.each (s - 1) (omega (arith, c.prefix)) gt in omega (arith, z, c.one)) e)
      (cases_order q (s - 1))

  zeros_or_start : (s : ℕ) → AreZeros b p (length b) → StartsAt b p s → ⊥
  zeros_or_start s a c = let z = a.each (s - 1) (omega (arith, c.prefix)) (omega (arith, c.prefix, c.within)) in omega (arith, z, c.one)

  zeros_or_stray : (q : ℕ) → AreZeros b p (length b) → IsStray b p q → ⊥
  zeros_or_stray q a c = c.nonzero (a.each q c.zeros.order c.within)

  pub none_or_unit : (u : UnitPlace) → SeesNoMore b all p → IsUnit b all p u → ⊥
  none_or_unit u (inl z) is = zeros_or_start u.start z is.starts
  none_or_unit u (inr n) is =
      let e = starts_unique n.0 u.start n.1 is.starts in
      n.2 u.end (omega (arith, is.ends.order)) is.ends.here

  none_or_stray : (q : ℕ) → SeesNoMore b all p → IsStray b p q → ⊥
  none_or_stray q (inl z) is = zeros_or_stray q z is
  none_or_stray q (inr n) is = stray_or_start q n.0 is n.1

  none_or_refusal : (r : Refusal) → SeesNoMore b all p → RefusesNext b all p r → ⊥
  none_or_refusal r n (inl s) = none_or_stray s.0 n s.1
  none_or_refusal r n (inr s) = none_or_unit s.0 n s.1

  refusal_unique : (r t : Refusal) → RefusesNext b all p r → RefusesNext b all p t → r ≡ t
  refusal_unique r t (inl a) (inl c) = a.2 ∙ ap (λ q. Framing 1 q) (stray_unique a.0 c.0 a.1 c.1) ∙ sym c.2
  refusal_unique r t (inl a) (inr c) = absurd (stray_or_start a.0 c.0.start a.1 c.1.starts)
  refusal_unique r t (inr a) (inl c) = absurd (stray_or_start c.0 a.0.start c.1 a.1.starts)
  refusal_unique r t (inr a) (inr c) =
      let e = unit_unique a.0 c.0 a.1 c.1 in
      let P : UnitPlace → Type 0 = λ u. RefusesUnit (unit_bytes b u) u.start t in
      unit_refusal (unit_bytes b a.0) a.0.start r t a.2 (subst P (sym e) c.2)

  ending_unique : (r t : Option Refusal) → EndsWith b all p r → EndsWith b all p t → r ≡ t
  ending_unique None None a c = refl
  ending_unique None (Some t) a c = absurd (none_or_refusal t a c)
  ending_unique (Some r) None a c = absurd (none_or_refusal r c a)
  ending_unique (Some r) (Some t) a c = ap (λ (x : Refusal). Some x) (refusal_unique r t a c)

  -- a sound unit is no ending
  ending_or_unit : (r : Option Refusal) (u : UnitPlace) → EndsWith b all p r → IsUnit b all p u → IsSound (unit_bytes b u) → ⊥
  ending_or_unit None u n is sound = none_or_unit u n is
  ending_or_unit (Some r) u (inl s) is sound = stray_or_start s.0 u.start s.1 is.starts
  ending_or_unit (Some r) u (inr s) is sound =
      let e = unit_unique s.0 u s.1 is in
      let P : UnitPlace → Type 0 = λ v. RefusesUnit (unit_bytes b v) v.start r in
      unit_refused (unit_bytes b u) u.start r (subst P e s.2) sound

follow_unique : (b : List ℕ) (all : Bool) (p : ℕ) (us vs : List UnitPlace) (r t : Option Refusal) → FollowsFrom b all p us → EndsWith b all (end_of p us) r → FollowsFrom b all p vs → EndsWith b all (end_of p vs) t → (us ≡ vs) × (r ≡ t)
follow_unique b all p [] [] r t f e g d = (refl, ending_unique b all p r t e d)
follow_unique b all p [] (v ∷ vs) r t f e g d = absurd (ending_or_unit b all p r v e g.0 g.1)
follow_unique b all p (u ∷ us) [] r t f e g d = absurd (ending_or_unit b all p t u d f.0 f.1)
follow_unique b all p (u ∷ us) (v ∷ vs) r t f e g d =
    let same = unit_unique b all p u v f.0 g.0 in
    let P : UnitPlace → Type 0 = λ w. FollowsFrom b all w.end vs × EndsWith b all (end_of w.end vs) t in
    let others = subst P (sym same) (g.2, d) in
    let later = follow_unique b all u.end us vs r t f.2 e others.0 others.1 in
    (ap₂ (λ (x : UnitPlace) (xs : List UnitPlace). x ∷ xs) same later.0, later.1)

-- units that follow one another from a place on are the first of those that the bytes have there
pub follow_front : (b : List ℕ) (all : Bool) (p : ℕ) (us vs : List UnitPlace) (t : Option Refusal) → FollowsFrom b all p us → FollowsFrom b all p vs → EndsWith b all (end_of p vs) t → (more : List UnitPlace) × (vs ≡ us ++ more)
follow_front b all p [] vs t f g d = (vs, refl)
follow_front b all p (u ∷ us) [] t f g d = absurd (ending_or_unit b all p t u d f.0 f.1)
follow_front b all p (u ∷ us) (v ∷ vs) t f g d =
    let same = unit_unique b all p u v f.0 g.0 in
    let P : UnitPlace → Type 0 = λ w. FollowsFrom b all w.end vs × EndsWith b all (end_of w.end vs) t in
    let others = subst P (sym same) (g.2, d) in
    let later = follow_front b all u.end us vs t f.2 others.0 others.1 in
    (later.0, ap₂ (λ (x : UnitPlace) (xs : List UnitPlace). x ∷ xs) (sym same) later.1)

pub stream_unique : StreamIsUnique
stream_unique b all us vs r t f g = follow_unique b all 0 us vs r t f.follow f.behind g.follow g.behind

pub stream_goes_on : StreamGoesOn
stream_goes_on b more all us vs r t f g =
    let follow = follows_on b more all 0 us f.follow in (
      follow_front (b ++ more) all 0 us vs t follow g.follow g.behind,
      λ refusal is.
          let P : Option Refusal → Type 0 = λ e. EndsWith b false (end_of 0 us) e in
          let behind = refuses_on b more all (end_of 0 us) refusal (subst P is f.behind) in
          let same = follow_unique (b ++ more) all 0 us vs (Some refusal) t follow behind g.follow g.behind in
          (sym same.0, sym same.1),
    )
