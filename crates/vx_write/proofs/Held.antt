-- The sets that were sent, one of each type and id.
use Rattle.std.proofs.Common.{◌≡◌, ℕ, zero, suc, ◌&&◌, Bool, true, false, cond, List, [], ◌∷◌, ◌++◌, take, slice_get, get_or, set, Some, None, refl, sym, ap, ◌∙◌}
use Rattle.std.proofs.Common.{inl, inr}
use Rattle.std.specs.Prelude.{◌==◌, nat_le, Option}
use Rattle.std.specs.Option.{option_or}
use Rattle.std.specs.List.{AllByRecursion}
use Rattle.std.proofs.lemmas.Bool.{cases_Bool, eqb-true}
use Rattle.std.proofs.lemmas.Option.{none-some, get_or_from_slice_get}
use Rattle.std.proofs.lemmas.List.Elements.{recursion_from_All}
use Rattle.vx_pic.specs.Sets.{sps_id, pps_id}
use Rattle.vx_pic.specs.Units.{temporal_id, is_irap_or_gdr}
use Rattle.vx_pic.specs.Written.{Set, an_sps, a_pps, an_aps, SetUnit}
use Rattle.vx_pic.specs.Resident.{same_slot, same_set, last_of, serves, kept_for}
use Rattle.vx_write.specs.inner.Places.{NoneIsOf, IsPlace}
use Rattle.vx_write.specs.Slots.{Sent, held_serves, AnswerAlike, AreLastOf}

pub both : (a b : Bool) → (a && b) ≡ true → (a ≡ true) × (b ≡ true)
both true b is = (refl, is)
both false b is = absurd (cc)

-- ---- types and ids

-- sets of one slot are of another one's slot alike
left_alike : (a b s : Set) → same_slot a b ≡ true → same_slot a s ≡ same_slot b s
left_alike (an_sps a) (an_sps b) (an_sps s) is = ap (λ n. n == sps_id s) (eqb-true (sps_id a) (sps_id b) is)
left_alike (an_sps a) (an_sps b) (a_pps s) is = refl
left_alike (an_sps a) (an_sps b) (an_aps s) is = refl
left_alike (an_sps a) (a_pps b) s is = absurd (cc)
left_alike (an_sps a) (an_aps b) s is = absurd (cc)
left_alike (a_pps a) (an_sps b) s is = absurd (cc)
left_alike (a_pps a) (a_pps b) (an_sps s) is = refl
left_alike (a_pps a) (a_pps b) (a_pps s) is = ap (λ n. n == pps_id s) (eqb-true (pps_id a) (pps_id b) is)
left_alike (a_pps a) (a_pps b) (an_aps s) is = refl
left_alike (a_pps a) (an_aps b) s is = absurd (cc)
left_alike (an_aps a) (an_sps b) s is = absurd (cc)
left_alike (an_aps a) (a_pps b) s is = absurd (cc)
left_alike (an_aps a) (an_aps b) (an_sps s) is = refl
left_alike (an_aps a) (an_aps b) (a_pps s) is = refl
left_alike (an_aps a) (an_aps b) (an_aps s) is =
    let parts = both (a.kind == b.kind) (a.id == b.id) is in
    rw (eqb-true a.kind b.kind parts.0, eqb-true a.id b.id parts.1) refl

pub right_alike : (s a b : Set) → same_slot a b ≡ true → same_slot s a ≡ same_slot s b
right_alike (an_sps s) (an_sps a) (an_sps b) is = ap (λ n. sps_id s == n) (eqb-true (sps_id a) (sps_id b) is)
right_alike (a_pps s) (an_sps a) (an_sps b) is = refl
right_alike (an_aps s) (an_sps a) (an_sps b) is = refl
right_alike s (an_sps a) (a_pps b) is = absurd (cc)
right_alike s (an_sps a) (an_aps b) is = absurd (cc)
right_alike s (a_pps a) (an_sps b) is = absurd (cc)
right_alike (an_sps s) (a_pps a) (a_pps b) is = refl
right_alike (a_pps s) (a_pps a) (a_pps b) is = ap (λ n. pps_id s == n) (eqb-true (pps_id a) (pps_id b) is)
right_alike (an_aps s) (a_pps a) (a_pps b) is = refl
right_alike s (a_pps a) (an_aps b) is = absurd (cc)
right_alike s (an_aps a) (an_sps b) is = absurd (cc)
right_alike s (an_aps a) (a_pps b) is = absurd (cc)
right_alike (an_sps s) (an_aps a) (an_aps b) is = refl
right_alike (a_pps s) (an_aps a) (an_aps b) is = refl
right_alike (an_aps s) (an_aps a) (an_aps b) is =
    let parts = both (a.kind == b.kind) (a.id == b.id) is in
    rw (eqb-true a.kind b.kind parts.0, eqb-true a.id b.id parts.1) refl

-- ---- answers

-- one that isn't of a set's slot is passed over
passed : (t : ℕ) (s : Set) (x : Sent) (slots : List Sent) → same_slot x.set s ≡ false → held_serves t s (x ∷ slots) ≡ held_serves t s slots
passed t s x slots other = ap (λ b. cond b (same_set x.set s && nat_le x.temporal_id t) (held_serves t s slots)) other

-- the first one that is of it answers
found : (t : ℕ) (s : Set) (x : Sent) (slots : List Sent) → same_slot x.set s ≡ true
    → held_serves t s (x ∷ slots) ≡ (same_set x.set s && nat_le x.temporal_id t)
found t s x slots own = ap (λ b. cond b (same_set x.set s && nat_le x.temporal_id t) (held_serves t s slots)) own

-- where none is of its slot, none serves
none : (t : ℕ) (s : Set) (slots : List Sent) → AllByRecursion (λ x. same_slot x.set s ≡ false) slots → held_serves t s slots ≡ false
none t s [] others = refl
none t s (x ∷ slots) others = passed t s x slots others.0 ∙ none t s slots others.1

pub none_serves : (t : ℕ) (s : Set) (slots : List Sent) → NoneIsOf s slots → held_serves t s slots ≡ false
none_serves t s slots others = none t s slots (recursion_from_All (λ x. same_slot x.set s ≡ false) slots others)

at_place : (t : ℕ) (s : Set) (slots : List Sent) (i : ℕ) (x : Sent) → slice_get slots i ≡ Some x → same_slot x.set s ≡ true
    → AllByRecursion (λ y. same_slot y.set s ≡ false) (take i slots) → held_serves t s slots ≡ (same_set x.set s && nat_le x.temporal_id t)
at_place t s [] i x at own others = absurd (none-some x at)
at_place t s (y ∷ slots) zero x at own others =
    let same : y ≡ x = cc in
    rw same (found t s x slots own)
at_place t s (y ∷ slots) (suc i) x at own others = passed t s y slots others.0 ∙ at_place t s slots i x at own others.1

pub one_serves : (t : ℕ) (s : Set) (slots : List Sent) (i : ℕ) (x : Sent) → IsPlace s slots (Some i) → x ≡ get_or slots i x
    → held_serves t s slots ≡ (same_set x.set s && nat_le x.temporal_id t)
one_serves t s slots i x place at =
    let same : x ≡ place.0 = at ∙ get_or_from_slice_get slots i place.0 x place.1 in
    let own : same_slot x.set s ≡ true = ap (λ y. same_slot y.set s) same ∙ place.2 in
    let there : slice_get slots i ≡ Some x = place.1 ∙ ap Some (sym same) in
    at_place t s slots i x there own (recursion_from_All (λ y. same_slot y.set s ≡ false) (take i slots) place.3)

-- ---- one that is put

-- behind others none of which is of its slot
behind : (t : ℕ) (s : Set) (slots : List Sent) (x : Sent) → AllByRecursion (λ y. same_slot y.set x.set ≡ false) slots
    → held_serves t s (slots ++ x ∷ []) ≡ held_serves t s (x ∷ slots)
behind t s [] x others = refl
behind t s (y ∷ slots) x others =
    let rest = behind t s slots x others.1 in
    elim (cases_Bool (same_slot x.set s)) [
      | inl own ↦
          let other : same_slot y.set s ≡ false = sym (right_alike y.set x.set s own) ∙ others.0 in
          passed t s y (slots ++ x ∷ []) other ∙ rest ∙ found t s x slots own ∙ sym (found t s x (y ∷ slots) own)
      | inr else ↦
          ap (λ r. cond (same_slot y.set s) (same_set y.set s && nat_le y.temporal_id t) r) (rest ∙ passed t s x slots else)
          ∙ sym (passed t s x (y ∷ slots) else)
    ]

pub put_behind : (slots : List Sent) (x : Sent) → NoneIsOf x.set slots → AnswerAlike (slots ++ x ∷ []) (x ∷ slots)
put_behind slots x others t s = behind t s slots x (recursion_from_All (λ y. same_slot y.set x.set ≡ false) slots others)

-- in the place of the one of its slot
there : (t : ℕ) (s : Set) (slots : List Sent) (i : ℕ) (x y : Sent) → slice_get slots i ≡ Some y → same_slot y.set x.set ≡ true
    → AllByRecursion (λ z. same_slot z.set x.set ≡ false) (take i slots) → held_serves t s (set slots i x) ≡ held_serves t s (x ∷ slots)
there t s [] i x y at own others = absurd (none-some y at)
there t s (z ∷ slots) zero x y at own others =
    let same : z ≡ y = cc in
    let alike : same_slot z.set s ≡ same_slot x.set s = ap (λ w. same_slot w.set s) same ∙ left_alike y.set x.set s own in
    elim (cases_Bool (same_slot x.set s)) [
      | inl mine ↦ found t s x slots mine ∙ sym (found t s x (z ∷ slots) mine)
      | inr else ↦ passed t s x slots else ∙ sym (passed t s z slots (alike ∙ else)) ∙ sym (passed t s x (z ∷ slots) else)
    ]
there t s (z ∷ slots) (suc i) x y at own others =
    let rest = there t s slots i x y at own others.1 in
    elim (cases_Bool (same_slot x.set s)) [
      | inl mine ↦
          let other : same_slot z.set s ≡ false = sym (right_alike z.set x.set s mine) ∙ others.0 in
          passed t s z (set slots i x) other ∙ rest ∙ found t s x slots mine ∙ sym (found t s x (z ∷ slots) mine)
      | inr else ↦
          ap (λ r. cond (same_slot z.set s) (same_set z.set s && nat_le z.temporal_id t) r) (rest ∙ passed t s x slots else)
          ∙ sym (passed t s x (z ∷ slots) else)
    ]

pub put_there : (slots : List Sent) (i : ℕ) (x : Sent) → IsPlace x.set slots (Some i) → AnswerAlike (set slots i x) (x ∷ slots)
put_there slots i x place t s =
    there t s slots i x place.0 place.1 place.2 (recursion_from_All (λ y. same_slot y.set x.set ≡ false) (take i slots) place.3)

-- ---- the last ones of units

pub last_append : (s : Set) (xs ys : List SetUnit) → last_of s (xs ++ ys) ≡ option_or (last_of s ys) (last_of s xs)
last_append s [] ys = sym (or_none (last_of s ys))
  where
    or_none : (o : Option SetUnit) → option_or o None ≡ o
    or_none None = refl
    or_none (Some x) = refl
last_append s (x ∷ xs) ys =
    ap (λ o. option_or o (cond (same_slot x.set s) (Some x) None)) (last_append s xs ys)
    ∙ assoc (last_of s ys) (last_of s xs) (cond (same_slot x.set s) (Some x) None)
  where
    assoc : (a b c : Option SetUnit) → option_or (option_or a b) c ≡ option_or a (option_or b c)
    assoc None b c = refl
    assoc (Some x) b c = refl

-- none was sent
pub none_sent : AreLastOf [] []
none_sent t s = refl

-- before an IRAP or GDR picture none counts as sent
pub still_last : (nal : ℕ) (history : List SetUnit) (slots : List Sent) → is_irap_or_gdr nal ≡ false → AreLastOf history slots → AreLastOf (kept_for nal history) slots
still_last nal history slots is last t s = last t s ∙ ap (λ b. serves t s (last_of s (cond b [] history))) (sym is)

pub none_last : (nal : ℕ) (history : List SetUnit) → is_irap_or_gdr nal ≡ true → AreLastOf (kept_for nal history) []
none_last nal history is t s = ap (λ b. serves t s (last_of s (cond b [] history))) (sym is)

-- a set that is sent is the last of its slot
pub one_sent : (history : List SetUnit) (slots others : List Sent) (x : SetUnit) (y : Sent) → AreLastOf history slots → y.set ≡ x.set
    → y.temporal_id ≡ temporal_id x.unit → AnswerAlike others (y ∷ slots) → AreLastOf (history ++ x ∷ []) others
one_sent history slots others x y last set tid alike t s =
    alike t s
    ∙ by (same_slot y.set s) refl
    ∙ ap (serves t s) (sym (last_append s history (x ∷ [])))
  where
    by : (b : Bool) → same_slot y.set s ≡ b
        → held_serves t s (y ∷ slots) ≡ serves t s (option_or (last_of s (x ∷ [])) (last_of s history))
    by true own =
        let mine : same_slot x.set s ≡ true = ap (λ z. same_slot z s) (sym set) ∙ own in
        let first : last_of s (x ∷ []) ≡ Some x = ap (λ b. cond b (Some x) None) mine in
        found t s y slots own
        ∙ ap (λ z. same_set z s && nat_le y.temporal_id t) set
        ∙ ap (λ n. same_set x.set s && nat_le n t) tid
        ∙ ap (λ o. serves t s (option_or o (last_of s history))) (sym first)
    by false other =
        let others : same_slot x.set s ≡ false = ap (λ z. same_slot z s) (sym set) ∙ other in
        let first : last_of s (x ∷ []) ≡ None = ap (λ b. cond b (Some x) None) others in
        passed t s y slots other
        ∙ last t s
        ∙ ap (λ o. serves t s (option_or o (last_of s history))) (sym first)
