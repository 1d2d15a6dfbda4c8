-- Different bodies of one type have different ids.
use Rattle.std.proofs.Common.{◌≡◌, ◌≢◌, ℕ, zero, suc, ◌<◌, ◌&&◌, ◌||◌, Bool, true, false, List, [], ◌∷◌, ◌++◌, length, slice_index, Option, Some, None, refl, sym, ap, subst, ◌∙◌, inl, inr, arith}
use Rattle.std.specs.Prelude.{◌==◌, ◌⊎◌, flat_map, option_to_list}
use Rattle.std.specs.List.{slice_index_or}
use Rattle.std.proofs.lemmas.Bool.{cases_Bool, cases_lt, eq-eqb, eqb-true, false≢true, true≢false}
use Rattle.vx_aps.specs.declared.aps.TheConstants as aps
use Rattle.vx_layout.specs.declared.numbers.Numbers.{Numbers}
use Rattle.vx_pic.specs.Parts.{Parts}
use Rattle.vx_pic.specs.Resident.{last_of, same_bytes, same_set, serves}
use Rattle.vx_pic.specs.Written.{Set, an_sps, a_pps, an_aps, SetUnit}
use Rattle.vx_write.proofs.Held.{both}
use Rattle.vx_write.proofs.Vacant.{itself_bytes, last_alike}
use Rattle.vx_frame.specs.declared.corner.Corner.{Corner}
use Rattle.vx_frame.specs.Bodies.{filters_in, has_lmcs, has_scaling, is_among, lmcs_body, once, scaling_body, with_bodies, alf_bodies}
use Rattle.vx_frame.specs.Rounds.{picture_at}
use Rattle.vx_frame.specs.Shapes.{of_lowest}
use Rattle.vx_frame.specs.Counts.{alf_slots, lmcs_slots, scaling_slots}
use Rattle.vx_merge.specs.declared.needed.RoundSets.{RoundSets}
use Rattle.vx_merge.specs.Needed.{aps_of_body, lmcs_bodies, scaling_bodies}
use Rattle.vx_merge.specs.Slots.{IsHeld, IsTaken, TakeSlots, TakesFree}
use Rattle.vx_merge.specs.inner.Ready.{AreNeeded}
use Rattle.vx_merge.specs.inner.Sending.{AreAllApart, AreApart}

-- ---- the same bytes

pub bytes_are : (a b : List ℕ) → same_bytes a b ≡ true → a ≡ b
bytes_are [] [] is = refl
bytes_are [] (y ∷ b) is = absurd (false≢true is)
bytes_are (x ∷ a) [] is = absurd (false≢true is)
bytes_are (x ∷ a) (y ∷ b) is =
    let parts = both (x == y) (same_bytes a b) is in
    rw (eqb-true x y parts.0, bytes_are a b parts.1) refl

bytes_differ : (a b : List ℕ) → same_bytes a b ≡ false → same_bytes b a ≡ false
bytes_differ a b other = elim (cases_Bool (same_bytes b a)) [
  | inl is ↦ absurd (true≢false (sym (itself_bytes a) ∙ (ap (same_bytes a) (sym (bytes_are b a is)) ∙ other)))
  | inr is ↦ is
]

-- ---- bodies, each once

-- each is another one than those before it
abbrev pub AreOnce : List (List ℕ) → Type 0
AreOnce bodies = (j k : ℕ) → j < k → k < length bodies → slice_index_or bodies j [] ≢ slice_index_or bodies k []

abbrev EachIsNew : List (List ℕ) → Type 0
EachIsNew [] = Unit {0}
EachIsNew (b ∷ bodies) = (is_among b bodies ≡ false) × EachIsNew bodies

or_false : (a b : Bool) → (a || b) ≡ false → (a ≡ false) × (b ≡ false)
or_false true b e = absurd (true≢false e)
or_false false b e = (refl, e)

among_more : (b x : List ℕ) (bodies : List (List ℕ)) → is_among b bodies ≡ false → same_bytes x b ≡ false → is_among b (bodies ++ x ∷ []) ≡ false
among_more b x [] none other = ap (λ t. t || false) other
among_more b x (y ∷ bodies) none other =
    let parts = or_false (same_bytes y b) (is_among b bodies) none in
    rw (parts.0) (among_more b x bodies parts.1 other)

new_more : (bodies : List (List ℕ)) (x : List ℕ) → EachIsNew bodies → is_among x bodies ≡ false → EachIsNew (bodies ++ x ∷ [])
new_more [] x all none = (refl, tt)
new_more (b ∷ bodies) x all none =
    let parts = or_false (same_bytes b x) (is_among x bodies) none in
    (among_more b x bodies all.0 (bytes_differ b x parts.0), new_more bodies x all.1 parts.1)

new_with : (bodies xs : List (List ℕ)) → EachIsNew bodies → EachIsNew (with_bodies bodies xs)
new_with bodies [] all = all
new_with bodies (x ∷ xs) all = elim (cases_Bool (is_among x bodies)) [
  | inl is ↦ rw is (new_with bodies xs all)
  | inr none ↦ rw none (new_with (bodies ++ x ∷ []) xs (new_more bodies x all none))
]

among_at : (bodies : List (List ℕ)) (b : List ℕ) (k : ℕ) → k < length bodies → slice_index_or bodies k [] ≡ b → is_among b bodies ≡ true
among_at [] b k within is = absurd (omega (arith, within))
among_at (x ∷ bodies) b zero within is = ap (λ t. t || is_among b bodies) (ap (same_bytes x) (sym is) ∙ itself_bytes x)
among_at (x ∷ bodies) b (suc k) within is = ap (λ t. same_bytes x b || t) (among_at bodies b k (omega (arith, within)) is) ∙ or_true (same_bytes x b)
  where
    or_true : (t : Bool) → (t || true) ≡ true
    or_true true = refl
    or_true false = refl

apart_at : (bodies : List (List ℕ)) → EachIsNew bodies → AreOnce bodies
apart_at [] all j k less within same = omega (arith, within)
apart_at (b ∷ bodies) all j zero less within same = omega (arith, less)
apart_at (b ∷ bodies) all zero (suc k) less within same = true≢false (sym (among_at bodies b k (omega (arith, within)) (sym same)) ∙ all.0)
apart_at (b ∷ bodies) all (suc j) (suc k) less within same = apart_at bodies all.1 j k (omega (arith, less)) (omega (arith, within)) same

pub once_apart : (xs : List (List ℕ)) → AreOnce (once xs)
once_apart xs = apart_at (once xs) (new_with [] xs tt)

-- there is one at most
pub single_apart : (o : Option (List ℕ)) → AreOnce (option_to_list o)
single_apart None j k less within same = omega (arith, within)
single_apart (Some b) j k less within same = omega (arith, less, within)

-- ---- what a slot holds

set_body : (kind id : ℕ) (body : List ℕ) (x : Set) → same_set x (an_aps (record { kind = kind; id = id; body = body })) ≡ true
    → (own : List ℕ) × (own ≡ body) × ((other : List ℕ) → same_set x (an_aps (record { kind = kind; id = id; body = other })) ≡ true → own ≡ other)
set_body kind id body (an_sps s) is = absurd (false≢true is)
set_body kind id body (a_pps p) is = absurd (false≢true is)
set_body kind id body (an_aps a) is = (a.body, parts body is, λ other also. parts other also)
  where
    parts : (b : List ℕ) → ((a.kind == kind) && ((a.id == id) && same_bytes a.body b)) ≡ true → a.body ≡ b
    parts b is =
        let first = both (a.kind == kind) ((a.id == id) && same_bytes a.body b) is in
        bytes_are a.body b (both (a.id == id) (same_bytes a.body b) first.1).1

one_body : (t kind id : ℕ) (a b : List ℕ) (o : Option SetUnit) → serves t (an_aps (record { kind = kind; id = id; body = a })) o ≡ true
    → serves t (an_aps (record { kind = kind; id = id; body = b })) o ≡ true → a ≡ b
one_body t kind id a b None first second = absurd (false≢true first)
one_body t kind id a b (Some x) first second =
    let of_a = both (same_set x.set (an_aps (record { kind = kind; id = id; body = a }))) _ first in
    let of_b = both (same_set x.set (an_aps (record { kind = kind; id = id; body = b }))) _ second in
    let own = set_body kind id a x.set of_a.0 in
    sym own.1 ∙ own.2 b of_b.0

-- ---- ids

found_below : (test : ℕ → Bool) (n : ℕ) → ((i : ℕ) × (i < n) × (test i ≡ true)) ⊎ ((i : ℕ) → i < n → test i ≢ true)
found_below test zero = inr (λ i less. absurd (omega (arith, less)))
found_below test (suc n) = elim (cases_Bool (test n)) [
  | inl is ↦ inl (n, omega arith, is)
  | inr not ↦ elim (found_below test n) [
    | inl found ↦ let less = found.1 in inl (found.0, omega (arith, less), found.2)
    | inr none ↦ inr (λ i less is. by i less is not none)
  ]
]
  where
    by : (i : ℕ) → i < suc n → test i ≡ true → test n ≡ false → ((i : ℕ) → i < n → test i ≢ true) → ⊥
    by i less is not none = elim (cases_lt i n) [
      | inl below ↦ none i below is
      | inr last ↦ let same : i ≡ n = omega (arith, less, last) in true≢false (sym is ∙ (ap test same ∙ not))
    ]

module _ (kind count t : ℕ) (bodies : List (List ℕ)) (sent : List SetUnit) (ids : List ℕ) (takes : TakeSlots count (length bodies) t sent (aps_of_body kind bodies) ids) (own : AreOnce bodies) where
  held_or_not : (k : ℕ) → IsHeld count (length bodies) t sent (aps_of_body kind bodies) k ⊎ (¬ IsHeld count (length bodies) t sent (aps_of_body kind bodies) k)
  held_or_not k = elim (found_below (λ i. serves t (aps_of_body kind bodies k i) (last_of (aps_of_body kind bodies k i) sent)) count) [
    | inl found ↦ inl found
    | inr none ↦ inr (λ is. none is.0 is.1 is.2)
  ]

  free : (k : ℕ) → TakesFree count (length bodies) t sent (aps_of_body kind bodies) ids k (slice_index ids k) → ¬ IsTaken count (length bodies) t sent (aps_of_body kind bodies) ids k (slice_index ids k)
  free k (inl fresh) = fresh.breaks.1
  free k (inr (none, low)) = low.breaks

  -- one slot doesn't hold two bodies
  not_both : (j k : ℕ) → j < k → k < length bodies → slice_index ids j ≡ slice_index ids k → IsHeld count (length bodies) t sent (aps_of_body kind bodies) j
      → IsHeld count (length bodies) t sent (aps_of_body kind bodies) k → ⊥
  not_both j k less within same first second =
      let id : ℕ = slice_index ids k in
      let at_j = (takes.held j (omega (arith, less, within)) first).breaks in
      let at_k = (takes.held k within second).breaks in
      let here : serves t (aps_of_body kind bodies j id) (last_of (aps_of_body kind bodies j id) sent) ≡ true = subst (λ i. serves t (aps_of_body kind bodies j i) (last_of (aps_of_body kind bodies j i) sent) ≡ true) same at_j in
      let alike : last_of (aps_of_body kind bodies j id) sent ≡ last_of (aps_of_body kind bodies k id) sent =
      last_alike (aps_of_body kind bodies j id) (aps_of_body kind bodies k id) sent (rw (eq-eqb kind kind refl, eq-eqb id id refl) refl) in
      own j k less within (one_body t kind id (slice_index_or bodies j []) (slice_index_or bodies k []) (last_of (aps_of_body kind bodies k id) sent) (ap (serves t (aps_of_body kind bodies j id)) (sym alike) ∙ here) at_k)

  pub own_ids : AreApart ids
  own_ids j k less within same =
      let size = takes.one_each in
      let inside : k < length bodies = omega (arith, within, size) in
      let before : j < length bodies = omega (arith, less, inside) in
      elim (held_or_not k) [
        | inr none ↦ free k (takes.others k inside none) (j, before, same, inr less)
        | inl held ↦ elim (held_or_not j) [
          | inr none ↦ free j (takes.others j before none) (k, inside, sym same, inl held)
          | inl first ↦ not_both j k less inside same first held
        ]
      ]

-- those of all types
pub apart_ids : (corners : List Corner) (level : Option ℕ) (round : List Parts) (frame : Numbers) (sent : List SetUnit) (n : RoundSets) → AreNeeded corners level round frame sent n → AreAllApart n
apart_ids corners level round frame sent n needed =
    let t : ℕ = (picture_at round 0).kind.temporal_id in
    record {
      alf = own_ids aps.ALF alf_slots t (alf_bodies round) sent n.alf.ids.items needed.taken.of_alf (once_apart (flat_map filters_in round));
      lmcs = own_ids aps.LMCS lmcs_slots t (lmcs_bodies round) sent n.lmcs.ids.items needed.taken.of_lmcs (single_apart (of_lowest has_lmcs lmcs_body None round));
      scaling = own_ids aps.SCALING scaling_slots t (scaling_bodies round) sent n.scaling.ids.items needed.taken.of_scaling (single_apart (of_lowest has_scaling scaling_body None round));
    }
