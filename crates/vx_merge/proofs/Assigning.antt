-- The ids that bodies take are as slots are to be taken.
use Rattle.std.proofs.Common.{◌≡◌, ℕ, zero, suc, ◌+◌, ◌<◌, ◌≤◌, ◌||◌, ◌&&◌, not, Bool, true, false, List, [], ◌∷◌, ◌++◌, length, length-append, take, map, slice_get, slice_index, get_or, Option, Some, None, refl, sym, ap, subst, ◌∙◌, inl, inr, arith}
use Rattle.std.specs.Prelude.{◌==◌, ◌⊎◌}
use Rattle.std.specs.List.{list_any, slice_index_or}
use Rattle.std.proofs.lemmas.Bool.{cases_Bool, cases_lt, eqb-true, eq-eqb, true≢false}
use Rattle.std.proofs.lemmas.List.{map-append, take_all, take_more}
use Rattle.vx_fit.specs.Lowest.{IsLowest, IsLowestAnswer}
use Rattle.vx_pic.specs.Resident.{same_slot}
use Rattle.vx_pic.specs.Written.{Set, an_sps, a_pps, an_aps, SetUnit}
use Rattle.vx_write.specs.Slots.{AreLastOf, Sent, is_vacant}
use Rattle.vx_write.proofs.Vacant.{none_sent_there, vacant_there}
use Rattle.vx_merge.specs.Needed.{aps_of_body}
use Rattle.vx_merge.specs.Slots.{Holds, IsFresh, IsHeld, IsTaken, TakeSlots, TakesFree}
use Rattle.vx_merge.specs.inner.Taking.{AreHeld, AreIds, HasRoom, IsNextId, an_aps_of, IsHeldBy, IsOpen, TakesOpen, is_id, is_taken}

slice_get_at : {X : Type 0} (xs : List X) (k : ℕ) (d : X) → k < length xs → slice_get xs k ≡ Some (get_or xs k d)
slice_get_at [] k d within = absurd (omega (arith, within))
slice_get_at (x ∷ xs) zero d within = refl
slice_get_at (x ∷ xs) (suc k) d within = slice_get_at xs k d (omega (arith, within))

-- ---- there is room

-- a number is in a list
abbrev pub In : ℕ → List ℕ → Type 0
In n [] = ⊥
In n (x ∷ xs) = (x ≡ n) ⊎ In n xs

-- the list without one of its members
abbrev without : (n : ℕ) (xs : List ℕ) → In n xs → List ℕ
without n [] there = absurd there
without n (x ∷ xs) (inl same) = xs
without n (x ∷ xs) (inr there) = x ∷ without n xs there

shorter : (n : ℕ) (xs : List ℕ) (there : In n xs) → length (without n xs there) + 1 ≡ length xs
shorter n [] there = absurd there
shorter n (x ∷ xs) (inl same) = omega arith
shorter n (x ∷ xs) (inr there) = let rest = shorter n xs there in omega (arith, rest)

stays : (n m : ℕ) (xs : List ℕ) (there : In n xs) → (m ≡ n → ⊥) → In m xs → In m (without n xs there)
stays n m [] there other is = absurd there
stays n m (x ∷ xs) (inl same) other (inl is) = absurd (other (sym is ∙ same))
stays n m (x ∷ xs) (inl same) other (inr is) = is
stays n m (x ∷ xs) (inr there) other (inl is) = inl is
stays n m (x ∷ xs) (inr there) other (inr is) = inr (stays n m xs there other is)

-- a list that has all numbers below a bound is as long
long_enough : (bound : ℕ) (xs : List ℕ) → ((n : ℕ) → n < bound → In n xs) → bound ≤ length xs
long_enough zero xs all = omega arith
long_enough (suc bound) xs all =
    let last = all bound (omega arith) in
    let rest = long_enough bound (without bound xs last) (λ n less. stays bound n xs last (λ same. absurd (omega (arith, less, same))) (all n (omega (arith, less)))) in
    let size = shorter bound xs last in
    omega (arith, rest, size)

-- the ids of resident bodies, and those of others so far
abbrev assigned : List (Option ℕ) → List ℕ → List ℕ
assigned [] ids = []
assigned (Some i ∷ held) [] = i ∷ assigned held []
assigned (Some i ∷ held) (x ∷ ids) = i ∷ assigned held ids
assigned (None ∷ held) [] = assigned held []
assigned (None ∷ held) (x ∷ ids) = x ∷ assigned held ids

at_most : (held : List (Option ℕ)) (ids : List ℕ) → length (assigned held ids) ≤ length held
at_most [] ids = omega arith
at_most (Some i ∷ held) [] = let rest = at_most held [] in omega (arith, rest)
at_most (Some i ∷ held) (x ∷ ids) = let rest = at_most held ids in omega (arith, rest)
at_most (None ∷ held) [] = let rest = at_most held [] in omega (arith, rest)
at_most (None ∷ held) (x ∷ ids) = let rest = at_most held ids in omega (arith, rest)

-- one fewer than bodies, where the next one isn't resident
fewer : (held : List (Option ℕ)) (ids : List ℕ) → slice_get held (length ids) ≡ Some None → length (assigned held ids) < length held
fewer [] ids next = absurd (cc)
fewer (Some i ∷ held) [] next = absurd (cc)
fewer (None ∷ held) [] next = let rest = at_most held [] in omega (arith, rest)
fewer (Some i ∷ held) (x ∷ ids) next = let rest = fewer held ids next in omega (arith, rest)
fewer (None ∷ held) (x ∷ ids) next = let rest = fewer held ids next in omega (arith, rest)

or_split : (a b : Bool) → (a || b) ≡ true → (a ≡ true) ⊎ (b ≡ true)
or_split true b is = inl refl
or_split false b is = inr is

held_in : (held : List (Option ℕ)) (ids : List ℕ) (id : ℕ) → list_any (is_id id) held ≡ true → In id (assigned held ids)
held_in [] ids id is = absurd (cc)
held_in (Some i ∷ held) [] id is = elim (or_split (i == id) (list_any (is_id id) held) is) [
  | inl here ↦ inl (eqb-true i id here)
  | inr rest ↦ inr (held_in held [] id rest)
]
held_in (Some i ∷ held) (x ∷ ids) id is = elim (or_split (i == id) (list_any (is_id id) held) is) [
  | inl here ↦ inl (eqb-true i id here)
  | inr rest ↦ inr (held_in held ids id rest)
]
held_in (None ∷ held) [] id is = held_in held [] id is
held_in (None ∷ held) (x ∷ ids) id is = inr (held_in held ids id is)

abbrev Matched : List (Option ℕ) → List ℕ → Type 0
Matched held ids = (k i : ℕ) → k < length ids → slice_get held k ≡ Some (Some i) → slice_index ids k ≡ i

ids_in : (held : List (Option ℕ)) (ids : List ℕ) (id : ℕ) → length ids ≤ length held → Matched held ids → list_any (λ i. i == id) ids ≡ true → In id (assigned held ids)
ids_in held [] id few matched is = absurd (cc)
ids_in [] (x ∷ ids) id few matched is = absurd (omega (arith, few))
ids_in (Some i ∷ held) (x ∷ ids) id few matched is = elim (or_split (x == id) (list_any (λ i. i == id) ids) is) [
  | inl here ↦ inl (sym (matched 0 i (omega arith) refl) ∙ eqb-true x id here)
  | inr rest ↦ inr (ids_in held ids id (omega (arith, few)) (λ k j less at. matched (suc k) j (omega (arith, less)) at) rest)
]
ids_in (None ∷ held) (x ∷ ids) id few matched is = elim (or_split (x == id) (list_any (λ i. i == id) ids) is) [
  | inl here ↦ inl (eqb-true x id here)
  | inr rest ↦ inr (ids_in held ids id (omega (arith, few)) (λ k j less at. matched (suc k) j (omega (arith, less)) at) rest)
]

before_end : {X : Type 0} (xs : List X) (k : ℕ) (x : X) → slice_get xs k ≡ Some x → k < length xs
before_end [] k x at = absurd (cc)
before_end (y ∷ xs) zero x at = omega arith
before_end (y ∷ xs) (suc k) x at = let rest = before_end xs k x at in omega (arith, rest)

-- not all ids are taken
pub has_free : (count : ℕ) (held : List (Option ℕ)) (ids : List ℕ) → length held ≤ count → HasRoom held ids → ((id : ℕ) → id < count → is_taken held ids id ≡ true) → ⊥
has_free count held ids few room all =
    let inside = before_end held (length ids) None room.next in
    let each : (id : ℕ) → id < count → In id (assigned held ids) = λ id less. elim (or_split (list_any (is_id id) held) (list_any (λ i. i == id) ids) (all id less)) [
      | inl is ↦ held_in held ids id is
      | inr is ↦ ids_in held ids id (omega (arith, inside)) room.matched is
    ] in
    let most = long_enough count (assigned held ids) each in
    let size = fewer held ids room.next in
    absurd (omega (arith, most, size, few))

-- ---- members by their places

any_at : (held : List (Option ℕ)) (id : ℕ) → list_any (is_id id) held ≡ true → (j : ℕ) × (slice_get held j ≡ Some (Some id))
any_at [] id is = absurd (cc)
any_at (None ∷ held) id is = let rest = any_at held id is in (suc rest.0, rest.1)
any_at (Some i ∷ held) id is = elim (or_split (i == id) (list_any (is_id id) held) is) [
  | inl here ↦ (0, ap (λ n. Some (Some n)) (eqb-true i id here))
  | inr rest ↦ let more = any_at held id rest in (suc more.0, more.1)
]

at_any : (held : List (Option ℕ)) (id j : ℕ) → slice_get held j ≡ Some (Some id) → list_any (is_id id) held ≡ true
at_any [] id j at = absurd (cc)
at_any (x ∷ held) id zero at =
    let same : x ≡ Some id = cc in
    rw same (ap (λ b. b || list_any (is_id id) held) (eq-eqb id id refl))
at_any (x ∷ held) id (suc j) at = ap (λ b. is_id id x || b) (at_any held id j at) ∙ or_true (is_id id x)
  where
    or_true : (b : Bool) → (b || true) ≡ true
    or_true true = refl
    or_true false = refl

before_at : (ids : List ℕ) (id k : ℕ) → k ≤ length ids → list_any (λ i. i == id) (take k ids) ≡ true → (j : ℕ) × (j < k) × (slice_index ids j ≡ id)
before_at ids id zero within is = absurd (cc)
before_at [] id (suc k) within is = absurd (omega (arith, within))
before_at (x ∷ ids) id (suc k) within is = elim (or_split (x == id) (list_any (λ i. i == id) (take k ids)) is) [
  | inl here ↦ (0, omega arith, eqb-true x id here)
  | inr rest ↦ let more = before_at ids id k (omega (arith, within)) rest in let less = more.1 in (suc more.0, omega (arith, less), more.2)
]

at_before : (ids : List ℕ) (id k j : ℕ) → k ≤ length ids → j < k → slice_index ids j ≡ id → list_any (λ i. i == id) (take k ids) ≡ true
at_before ids id zero j within less is = absurd (omega (arith, less))
at_before [] id (suc k) j within less is = absurd (omega (arith, within))
at_before (x ∷ ids) id (suc k) zero within less is = ap (λ b. b || list_any (λ i. i == id) (take k ids)) (eq-eqb x id is)
at_before (x ∷ ids) id (suc k) (suc j) within less is = ap (λ b. (x == id) || b) (at_before ids id k j (omega (arith, within)) (omega (arith, less)) is) ∙ or_true (x == id)
  where
    or_true : (b : Bool) → (b || true) ≡ true
    or_true true = refl
    or_true false = refl

-- ---- open ids

pub opened : (taken empty vacant : Bool) → (not taken && (not empty || vacant)) ≡ true → (taken ≡ false) × (empty ≡ true → vacant ≡ true)
opened true empty vacant is = absurd (cc)
opened false true vacant is = (refl, λ e. is)
opened false false vacant is = (refl, λ e. absurd (cc))

opens : (taken empty vacant : Bool) → taken ≡ false → vacant ≡ true → (not taken && (not empty || vacant)) ≡ true
opens true empty vacant free is = absurd (cc)
opens false true vacant free is = is
opens false false vacant free is = refl

opens_any : (taken vacant : Bool) → taken ≡ false → (not taken && (not false || vacant)) ≡ true
opens_any true vacant free = absurd (cc)
opens_any false vacant free = refl

-- ---- slots

held_at : (slots : List Sent) (t kind count : ℕ) (bodies : List (List ℕ)) (held : List (Option ℕ)) (k : ℕ) → AreHeld slots t kind count bodies held → k < length bodies
    → (o : Option ℕ) × (slice_get held k ≡ Some o) × IsLowestAnswer count (IsHeldBy slots t kind (slice_index_or bodies k [])) o
held_at slots t kind count [] held k are within = absurd (omega (arith, within))
held_at slots t kind count (b ∷ bodies) [] k are within = absurd are
held_at slots t kind count (b ∷ bodies) (o ∷ held) zero are within = (o, refl, are.0)
held_at slots t kind count (b ∷ bodies) (o ∷ held) (suc k) are within = held_at slots t kind count bodies held k are.1 (omega (arith, within))

pub held_count : (slots : List Sent) (t kind count : ℕ) (bodies : List (List ℕ)) (held : List (Option ℕ)) → AreHeld slots t kind count bodies held → length held ≡ length bodies
held_count slots t kind count [] [] are = refl
held_count slots t kind count [] (o ∷ held) are = absurd are
held_count slots t kind count (b ∷ bodies) [] are = absurd are
held_count slots t kind count (b ∷ bodies) (o ∷ held) are = ap suc (held_count slots t kind count bodies held are.1)

lowest_as : (count : ℕ) (P Q : ℕ → Type 0) (k : ℕ) → ((i : ℕ) → P i → Q i) → ((i : ℕ) → Q i → P i) → IsLowest count P k → IsLowest count Q k
lowest_as count P Q k there back low = record { in_range = low.in_range; breaks = there k low.breaks; lower = λ j less is. low.lower j less (back j is) }

-- an id is vacant whatever the body
pub slot_as : (x : Set) (kind i : ℕ) (body : List ℕ) → same_slot x (an_aps (record { kind = kind; id = i; body = body })) ≡ same_slot x (an_aps_of kind i)
slot_as (an_sps s) kind i body = refl
slot_as (a_pps p) kind i body = refl
slot_as (an_aps a) kind i body = refl

vacant_as : (slots : List Sent) (kind i : ℕ) (body : List ℕ) → is_vacant (an_aps (record { kind = kind; id = i; body = body })) slots ≡ is_vacant (an_aps_of kind i) slots
vacant_as [] kind i body = refl
vacant_as (x ∷ slots) kind i body = rw (slot_as x.set kind i body, vacant_as slots kind i body) refl

module _ (slots : List Sent) (t kind count : ℕ) (bodies : List (List ℕ)) (held : List (Option ℕ)) (ids : List ℕ) (sent : List SetUnit)
    (last : AreLastOf sent slots) (are : AreHeld slots t kind count bodies held) (found : AreIds slots kind count held ids) (size : length ids ≡ length held) where
  abbrev at : ℕ → ℕ → Set
  at = aps_of_body kind bodies

  holds : (k i : ℕ) → IsHeldBy slots t kind (slice_index_or bodies k []) i → Holds count (length bodies) t sent at k i
  holds k i is = sym (last t (at k i)) ∙ is

  holds_back : (k i : ℕ) → Holds count (length bodies) t sent at k i → IsHeldBy slots t kind (slice_index_or bodies k []) i
  holds_back k i is = last t (at k i) ∙ is

  total : length ids ≡ length bodies
  total = size ∙ held_count slots t kind count bodies held are

  -- a body that is resident has its id
  held_has : (k : ℕ) → k < length bodies → IsHeld count (length bodies) t sent at k → (i : ℕ) × (slice_get held k ≡ Some (Some i)) × IsLowest count (IsHeldBy slots t kind (slice_index_or bodies k [])) i
  held_has k within is = by (held_at slots t kind count bodies held k are within)
    where
      by : (o : Option ℕ) × (slice_get held k ≡ Some o) × IsLowestAnswer count (IsHeldBy slots t kind (slice_index_or bodies k [])) o
          → (i : ℕ) × (slice_get held k ≡ Some (Some i)) × IsLowest count (IsHeldBy slots t kind (slice_index_or bodies k [])) i
      by (Some i, there, low) = (i, there, low)
      by (None, there, none) = absurd (none is.0 is.1 (holds_back k is.0 is.2))

  not_held : (k : ℕ) → k < length bodies → (¬ IsHeld count (length bodies) t sent at k) → slice_get held k ≡ Some None
  not_held k within none = by (held_at slots t kind count bodies held k are within)
    where
      by : (o : Option ℕ) × (slice_get held k ≡ Some o) × IsLowestAnswer count (IsHeldBy slots t kind (slice_index_or bodies k [])) o → slice_get held k ≡ Some None
      by (Some i, there, low) = absurd (none (i, low.in_range, holds k i low.breaks))
      by (None, there, others) = there

  -- an id is taken exactly so
  taken : (k i : ℕ) → k < length bodies → is_taken held (take k ids) i ≡ true → IsTaken count (length bodies) t sent at ids k i
  taken k i within is = elim (or_split (list_any (is_id i) held) (list_any (λ x. x == i) (take k ids)) is) [
    | inl there ↦
        let j = any_at held i there in
        let inside = before_end held j.0 (Some i) j.1 in
        let here : j.0 < length bodies = let all = total in omega (arith, inside, size, all) in
        (j.0, here, found.matched j.0 i (omega (arith, inside, size)) j.1, inl (by j.0 here j.1 (held_at slots t kind count bodies held j.0 are here)))
    | inr before ↦
        let j = before_at ids i k (let all = total in omega (arith, within, all)) before in
        let less = j.1 in
        (j.0, omega (arith, less, within), j.2, inr less)
  ]
    where
      by : (j : ℕ) → j < length bodies → slice_get held j ≡ Some (Some i) → (o : Option ℕ) × (slice_get held j ≡ Some o) × IsLowestAnswer count (IsHeldBy slots t kind (slice_index_or bodies j [])) o
          → IsHeld count (length bodies) t sent at j
      by j here at (Some n, there, low) = (n, low.in_range, holds j n low.breaks)
      by j here at (None, there, none) = absurd (cc)

  taken_back : (k i : ℕ) → k < length bodies → IsTaken count (length bodies) t sent at ids k i → is_taken held (take k ids) i ≡ true
  taken_back k i within (j, here, is, inl holding) =
      let one = held_has j here holding in
      let same : one.0 ≡ i = sym (found.matched j one.0 (let all = total in omega (arith, here, all)) one.1) ∙ is in
      ap (λ b. b || list_any (λ x. x == i) (take k ids)) (at_any held i j (one.1 ∙ ap (λ n. Some (Some n)) same))
  taken_back k i within (j, here, is, inr less) =
      ap (λ b. list_any (is_id i) held || b) (at_before ids i k j (let all = total in omega (arith, within, all)) less is) ∙ or_true (list_any (is_id i) held)
    where
      or_true : (b : Bool) → (b || true) ≡ true
      or_true true = refl
      or_true false = refl

  free : (k i : ℕ) → k < length bodies → is_taken held (take k ids) i ≡ false → ¬ IsTaken count (length bodies) t sent at ids k i
  free k i within is is_so = true≢false (sym (taken_back k i within is_so) ∙ is)

  free_back : (k i : ℕ) → k < length bodies → (¬ IsTaken count (length bodies) t sent at ids k i) → is_taken held (take k ids) i ≡ false
  free_back k i within none = elim (cases_Bool (is_taken held (take k ids) i)) [
    | inl is ↦ absurd (none (taken k i within is))
    | inr is ↦ is
  ]

  open_ : (k i : ℕ) → k < length bodies → IsOpen slots kind held (take k ids) true i → IsFresh count (length bodies) t sent at ids k i
  open_ k i within is =
      let parts = opened (is_taken held (take k ids) i) true (is_vacant (an_aps_of kind i) slots) is in
      (none_sent_there sent slots (at k i) last (vacant_as slots kind i (slice_index_or bodies k []) ∙ parts.1 refl), free k i within parts.0)

  open_back : (k i : ℕ) → k < length bodies → IsFresh count (length bodies) t sent at ids k i → IsOpen slots kind held (take k ids) true i
  open_back k i within is = opens (is_taken held (take k ids) i) true (is_vacant (an_aps_of kind i) slots) (free_back k i within is.1)
      (sym (vacant_as slots kind i (slice_index_or bodies k [])) ∙ vacant_there sent slots (at k i) last is.0)

  any_open : (k i : ℕ) → k < length bodies → IsOpen slots kind held (take k ids) false i → ¬ IsTaken count (length bodies) t sent at ids k i
  any_open k i within is = free k i within (opened (is_taken held (take k ids) i) false (is_vacant (an_aps_of kind i) slots) is).0

  any_open_back : (k i : ℕ) → k < length bodies → (¬ IsTaken count (length bodies) t sent at ids k i) → IsOpen slots kind held (take k ids) false i
  any_open_back k i within is = opens_any (is_taken held (take k ids) i) (is_vacant (an_aps_of kind i) slots) (free_back k i within is)

  takes : (k id : ℕ) → k < length bodies → TakesOpen slots kind count held (take k ids) id → TakesFree count (length bodies) t sent at ids k id
  takes k id within (inl low) = inl (lowest_as count _ _ id (λ i is. open_ k i within is) (λ i is. open_back k i within is) low)
  takes k id within (inr (none, low)) =
      inr (λ i less is. none i less (open_back k i within is), lowest_as count _ _ id (λ i is. any_open k i within is) (λ i is. any_open_back k i within is) low)

  pub take_slots : TakeSlots count (length bodies) t sent at ids
  take_slots = record {
    one_each = total;
    held = λ k within is.
        let one = held_has k within is in
        let same : one.0 ≡ slice_index ids k = sym (found.matched k one.0 (let all = total in omega (arith, within, all)) one.1) in
        subst (IsLowest count (Holds count (length bodies) t sent at k)) same (lowest_as count _ _ one.0 (λ i is. holds k i is) (λ i is. holds_back k i is) one.2);
    others = λ k within none.
        takes k (slice_index ids k) within (found.others k (let all = total in omega (arith, within, all)) (not_held k within none));
  }

-- ---- one body more

are_more : (slots : List Sent) (t kind count : ℕ) (bodies : List (List ℕ)) (held : List (Option ℕ)) (b : List ℕ) (o : Option ℕ) → AreHeld slots t kind count bodies held
    → IsLowestAnswer count (IsHeldBy slots t kind b) o → AreHeld slots t kind count (bodies ++ b ∷ []) (held ++ o ∷ [])
are_more slots t kind count [] [] b o are one = (one, tt)
are_more slots t kind count [] (x ∷ held) b o are one = absurd are
are_more slots t kind count (y ∷ bodies) [] b o are one = absurd are
are_more slots t kind count (y ∷ bodies) (x ∷ held) b o are one = (are.0, are_more slots t kind count bodies held b o are.1 one)

pub held_step : {B : Type 0} (f : B → List ℕ) (slots : List Sent) (t kind count : ℕ) (bodies : List B) (k : ℕ) (b : B) (held new : List (Option ℕ)) (o : Option ℕ)
    → k < length bodies → b ≡ get_or bodies k b → AreHeld slots t kind count (map f (take k bodies)) held → IsLowestAnswer count (IsHeldBy slots t kind (f b)) o
    → new ≡ held ++ o ∷ [] → AreHeld slots t kind count (map f (take (k + 1) bodies)) new
held_step f slots t kind count bodies k b held new o within at are one is =
    let more : map f (take (k + 1) bodies) ≡ map f (take k bodies) ++ f b ∷ [] =
    ap (map f) (take_more bodies k b within ∙ ap (λ x. take k bodies ++ x ∷ []) (sym at)) ∙ map-append f (take k bodies) (b ∷ []) in
    rw (more, is) (are_more slots t kind count (map f (take k bodies)) held (f b) o are one)

-- ---- one id more

pub next_held : (slots : List Sent) (kind count : ℕ) (held : List (Option ℕ)) (ids : List ℕ) (k id : ℕ) (d : Option ℕ) → k < length held → length ids ≡ k → get_or held k d ≡ Some id
    → IsNextId slots kind count held ids id
next_held slots kind count held ids k id d within place is =
    let there : slice_get held (length ids) ≡ Some (Some id) = ap (slice_get held) place ∙ slice_get_at held k d within ∙ ap Some is in
    record { matched = λ i at. let same : Some (Some id) ≡ Some (Some i) = sym there ∙ at in cc; other = λ none. absurd (let no : Some (Some id) ≡ Some None = sym there ∙ none in cc) }

pub next_other : (slots : List Sent) (kind count : ℕ) (held : List (Option ℕ)) (ids : List ℕ) (k id : ℕ) (d : Option ℕ) → k < length held → length ids ≡ k → get_or held k d ≡ None
    → TakesOpen slots kind count held ids id → IsNextId slots kind count held ids id
next_other slots kind count held ids k id d within place is takes =
    let there : slice_get held (length ids) ≡ Some None = ap (slice_get held) place ∙ slice_get_at held k d within ∙ ap Some is in
    record { matched = λ i at. absurd (let no : Some None ≡ Some (Some i) = sym there ∙ at in cc); other = λ none. takes }

pub room_there : (slots : List Sent) (kind count : ℕ) (held : List (Option ℕ)) (ids : List ℕ) (k : ℕ) (d : Option ℕ) → k < length held → length ids ≡ k → get_or held k d ≡ None
    → AreIds slots kind count held ids → HasRoom held ids
room_there slots kind count held ids k d within place is are =
    record { next = ap (slice_get held) place ∙ slice_get_at held k d within ∙ ap Some is; matched = are.matched }

-- ids that are taken from the lowest on leave one
pub free_above : (count : ℕ) (held : List (Option ℕ)) (ids : List ℕ) (id : ℕ) → length held ≤ count → HasRoom held ids
    → ((i : ℕ) → i < id → is_taken held ids i ≡ true) → id < count
free_above count held ids id few room taken =
    elim (cases_lt id count) [
      | inl less ↦ less
      | inr most ↦ absurd (has_free count held ids few room (λ i less. taken i (omega (arith, less, most))))
    ]

-- the lowest that isn't taken
pub lowest_is : (sent : List Sent) (kind count : ℕ) (held : List (Option ℕ)) (ids : List ℕ) (id : ℕ) → length held ≤ count → HasRoom held ids
    → ((i : ℕ) → i < id → is_taken held ids i ≡ true) → is_taken held ids id ≡ false → IsLowest count (IsOpen sent kind held ids false) id
lowest_is sent kind count held ids id few room taken free = record {
  in_range = free_above count held ids id few room taken;
  breaks = opens_any (is_taken held ids id) (is_vacant (an_aps_of kind id) sent) free;
  lower = λ j less is. let closed = (opened (is_taken held ids j) false (is_vacant (an_aps_of kind j) sent) is).0 in let was = taken j less in true≢false (sym was ∙ closed);
}

index_front : (xs ys : List ℕ) (k : ℕ) → k < length xs → slice_index (xs ++ ys) k ≡ slice_index xs k
index_front [] ys k within = absurd (omega (arith, within))
index_front (x ∷ xs) ys zero within = refl
index_front (x ∷ xs) ys (suc k) within = index_front xs ys k (omega (arith, within))

index_last : (xs : List ℕ) (x : ℕ) → slice_index (xs ++ x ∷ []) (length xs) ≡ x
index_last [] x = refl
index_last (y ∷ xs) x = index_last xs x

take_front : (xs ys : List ℕ) (k : ℕ) → k ≤ length xs → take k (xs ++ ys) ≡ take k xs
take_front xs ys zero within = refl
take_front [] ys (suc k) within = absurd (omega (arith, within))
take_front (x ∷ xs) ys (suc k) within = ap (λ zs. x ∷ zs) (take_front xs ys k (omega (arith, within)))

pub no_ids : (slots : List Sent) (kind count : ℕ) (held : List (Option ℕ)) → AreIds slots kind count held []
no_ids slots kind count held = record { matched = λ k i less at. absurd (omega (arith, less)); others = λ k less at. absurd (omega (arith, less)) }

pub ids_more : (slots : List Sent) (kind count : ℕ) (held : List (Option ℕ)) (ids : List ℕ) (id : ℕ) → AreIds slots kind count held ids → IsNextId slots kind count held ids id
    → AreIds slots kind count held (ids ++ id ∷ [])
ids_more slots kind count held ids id are next = record {
  matched = λ k i less at. elim (cases_lt k (length ids)) [
    | inl before ↦ index_front ids (id ∷ []) k before ∙ are.matched k i before at
    | inr last ↦
        let same : k ≡ length ids = let size = length-append ids (id ∷ []) in omega (arith, less, last, size) in
        ap (slice_index (ids ++ id ∷ [])) same ∙ index_last ids id ∙ next.matched i (ap (slice_get held) (sym same) ∙ at)
  ];
  others = λ k less at. elim (cases_lt k (length ids)) [
    | inl before ↦ rw (take_front ids (id ∷ []) k (omega (arith, before)), index_front ids (id ∷ []) k before) (are.others k before at)
    | inr last ↦
        let same : k ≡ length ids = let size = length-append ids (id ∷ []) in omega (arith, less, last, size) in
        let whole : take k (ids ++ id ∷ []) ≡ ids = take_front ids (id ∷ []) k (omega (arith, same)) ∙ take_all k ids (omega (arith, same)) in
        let here : slice_index (ids ++ id ∷ []) k ≡ id = ap (slice_index (ids ++ id ∷ [])) same ∙ index_last ids id in
        rw (whole, here) (next.other (ap (slice_get held) (sym same) ∙ at))
  ];
}
