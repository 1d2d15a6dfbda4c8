-- Slots into which nothing was sent.
use Rattle.std.proofs.Common.{◌≡◌, ℕ, zero, suc, pos, ◌<◌, ◌^◌, Bool, true, false, cond, ◌&&◌, List, [], ◌∷◌, slice_get, Option, Some, None, refl, sym, ap, ◌∙◌, inl, inr, arith}
use Rattle.std.specs.Prelude.{◌==◌, nat_le}
use Rattle.std.specs.Option.{option_or}
use Rattle.std.specs.List.{AllByRecursion}
use Rattle.std.proofs.lemmas.Bool.{cases_Bool, eq-eqb, le-leb, true≢false}
use Rattle.std.proofs.lemmas.Option.{none-some}
use Rattle.std.proofs.lemmas.List.Elements.{recursion_from_All, All-nil}
use Rattle.vx_fields.specs.declared.pps.TheConstants.{pps_pic_parameter_set_id}
use Rattle.vx_table.proofs.Loading.{number_of_last}
use Rattle.vx_table.specs.Scope.{natural}
use Rattle.vx_pic.proofs.SameItems.{same_itself}
use Rattle.vx_pic.specs.Sets.{pps_id, sps_id}
use Rattle.vx_pic.specs.Units.{temporal_id}
use Rattle.vx_pic.specs.Written.{Set, an_sps, a_pps, an_aps, SetUnit}
use Rattle.vx_pic.specs.Resident.{same_slot, same_set, same_bytes, last_of, serves}
use Rattle.vx_write.specs.Slots.{Sent, AreLastOf, held_serves, is_vacant}
use Rattle.vx_write.specs.inner.Places.{IsPlace, NoneIsOf}
use Rattle.vx_write.proofs.Held.{right_alike}

-- the id that stands for a PPS is its own
pub pps_id_of : (id : ℕ) → id < 2 ^ 32 → pps_id (record { field = pps_pic_parameter_set_id; value = pos id } ∷ []) ≡ id
unfolding pps_id natural
pps_id_of id small = number_of_last pps_pic_parameter_set_id (pos id) [] [] (omega arith) (All-nil _) ∙ omega (arith, small)

-- ---- by places

none_vacant : (s : Set) (slots : List Sent) → AllByRecursion (λ x. same_slot x.set s ≡ false) slots → is_vacant s slots ≡ true
none_vacant s [] none = refl
none_vacant s (x ∷ slots) none = ap (λ b. cond b false (is_vacant s slots)) none.0 ∙ none_vacant s slots none.1

pub vacant_from_none : (s : Set) (slots : List Sent) → NoneIsOf s slots → is_vacant s slots ≡ true
vacant_from_none s slots none = none_vacant s slots (recursion_from_All (λ x. same_slot x.set s ≡ false) slots none)

some_there : (s : Set) (slots : List Sent) (i : ℕ) (x : Sent) → slice_get slots i ≡ Some x → same_slot x.set s ≡ true → is_vacant s slots ≡ false
some_there s [] i x at own = absurd (none-some x at)
some_there s (y ∷ slots) zero x at own =
    let same : y ≡ x = cc in
    rw (same, own) refl
some_there s (y ∷ slots) (suc i) x at own = by (same_slot y.set s) (some_there s slots i x at own)
  where
    by : (b : Bool) → is_vacant s slots ≡ false → cond b false (is_vacant s slots) ≡ false
    by true rest = refl
    by false rest = rest

pub vacant_from_place : (s : Set) (slots : List Sent) (i : ℕ) → IsPlace s slots (Some i) → is_vacant s slots ≡ false
vacant_from_place s slots i place = some_there s slots i place.0 place.1 place.2

-- ---- behind units that were sent

same_field : (n : ℕ) → (n == n) ≡ true
same_field n = eq-eqb n n refl

pub itself_bytes : (bytes : List ℕ) → same_bytes bytes bytes ≡ true
itself_bytes [] = refl
itself_bytes (b ∷ bytes) = rw (same_field b, itself_bytes bytes) refl

own_slot : (s : Set) → same_slot s s ≡ true
own_slot (an_sps s) = same_field (sps_id s)
own_slot (a_pps p) = same_field (pps_id p)
own_slot (an_aps a) = rw (same_field a.kind, same_field a.id) refl

own_set : (s : Set) → same_set s s ≡ true
own_set (an_sps s) = same_itself s
own_set (a_pps p) = same_itself p
own_set (an_aps a) = rw (same_field a.kind, same_field a.id, itself_bytes a.body) refl

pub last_alike : (a b : Set) (sent : List SetUnit) → same_slot a b ≡ true → last_of a sent ≡ last_of b sent
last_alike a b [] is = refl
last_alike a b (x ∷ sent) is = rw (last_alike a b sent is, right_alike x.set a b is) refl

last_slot : (s : Set) (x : SetUnit) (sent : List SetUnit) → last_of s sent ≡ Some x → same_slot x.set s ≡ true
last_slot s x [] is = absurd (none-some x is)
last_slot s x (y ∷ sent) is = by (last_of s sent) (λ some. last_slot s x sent some) is
  where
    one : (b : Bool) → same_slot y.set s ≡ b → cond b (Some y) None ≡ Some x → same_slot x.set s ≡ true
    one true own same = let is_y : y ≡ x = cc in rw (← is_y) own
    one false other same = absurd (none-some x same)

    by : (o : Option SetUnit) → (o ≡ Some x → same_slot x.set s ≡ true) → option_or o (cond (same_slot y.set s) (Some y) None) ≡ Some x → same_slot x.set s ≡ true
    by None before same = one (same_slot y.set s) refl same
    by (Some z) before same = before same

pub vacant_alike : (a b : Set) (slots : List Sent) → same_slot a b ≡ true → is_vacant a slots ≡ is_vacant b slots
vacant_alike a b [] is = refl
vacant_alike a b (x ∷ slots) is = rw (right_alike x.set a b is, vacant_alike a b slots is) refl

vacant_serves : (t : ℕ) (s : Set) (slots : List Sent) → is_vacant s slots ≡ true → held_serves t s slots ≡ false
vacant_serves t s [] is = refl
vacant_serves t s (x ∷ slots) is = by (same_slot x.set s) (λ vacant. vacant_serves t s slots vacant) is
  where
    by : (b : Bool) → (is_vacant s slots ≡ true → held_serves t s slots ≡ false) → cond b false (is_vacant s slots) ≡ true
        → cond b (same_set x.set s && nat_le x.temporal_id t) (held_serves t s slots) ≡ false
    by true rest vacant = absurd (true≢false (sym vacant))
    by false rest vacant = rest vacant

-- nothing was sent with an id that is vacant
pub none_sent_there : (sent : List SetUnit) (slots : List Sent) (s : Set) → AreLastOf sent slots → is_vacant s slots ≡ true → last_of s sent ≡ None
none_sent_there sent slots s last vacant = by (last_of s sent) refl
  where
    by : (o : Option SetUnit) → last_of s sent ≡ o → last_of s sent ≡ None
    by None none = none
    by (Some x) some =
        let slot = last_slot s x sent some in
        let t : ℕ = temporal_id x.unit in
        let own : last_of x.set sent ≡ Some x = last_alike x.set s sent slot ∙ some in
        let low : nat_le t t ≡ true = le-leb t t (omega arith) in
        let serving : serves t x.set (last_of x.set sent) ≡ true = rw (own, own_set x.set, low) refl in
        let held : held_serves t x.set slots ≡ false = vacant_serves t x.set slots (vacant_alike x.set s slots slot ∙ vacant) in
        absurd (true≢false (sym serving ∙ (sym (last t x.set) ∙ held)))

-- one that isn't vacant serves as itself
first_there : (s : Set) (slots : List Sent) → is_vacant s slots ≡ false → (y : Sent) × (same_slot y.set s ≡ true) × (held_serves y.temporal_id y.set slots ≡ true)
first_there s [] is = absurd (true≢false is)
first_there s (x ∷ slots) is = by (same_slot x.set s) refl (λ vacant. first_there s slots vacant) is
  where
    by : (b : Bool) → same_slot x.set s ≡ b → (is_vacant s slots ≡ false → (y : Sent) × (same_slot y.set s ≡ true) × (held_serves y.temporal_id y.set slots ≡ true))
        → cond b false (is_vacant s slots) ≡ false
        → (y : Sent) × (same_slot y.set s ≡ true) × (held_serves y.temporal_id y.set (x ∷ slots) ≡ true)
    by true own later vacant =
        let low : nat_le x.temporal_id x.temporal_id ≡ true = le-leb x.temporal_id x.temporal_id (omega arith) in
        (x, own, rw (own_slot x.set, own_set x.set, low) refl)
    by false other later vacant =
        let rest = later vacant in
        let apart : same_slot x.set rest.0.set ≡ false = right_alike x.set rest.0.set s rest.1 ∙ other in
        (rest.0, rest.1, ap (λ b. cond b (same_set x.set rest.0.set && nat_le x.temporal_id rest.0.temporal_id) (held_serves rest.0.temporal_id rest.0.set slots)) apart ∙ rest.2)

pub vacant_there : (sent : List SetUnit) (slots : List Sent) (s : Set) → AreLastOf sent slots → last_of s sent ≡ None → is_vacant s slots ≡ true
vacant_there sent slots s last none = elim (cases_Bool (is_vacant s slots)) [
  | inl is ↦ is
  | inr is ↦
      let y = first_there s slots is in
      let gone : last_of y.0.set sent ≡ None = last_alike y.0.set s sent y.1 ∙ none in
      let not : serves y.0.temporal_id y.0.set (last_of y.0.set sent) ≡ false = ap (serves y.0.temporal_id y.0.set) gone in
      absurd (true≢false (sym y.2 ∙ (last y.0.temporal_id y.0.set ∙ not)))
]
