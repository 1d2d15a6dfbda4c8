-- The ids that sets of one type take, as they are found one by one. Our own.
use Rattle.std.specs.Prelude.{◌≡◌, ◌⊎◌, ℕ, ◌<◌, ◌==◌, ◌||◌, ◌&&◌, not, Bool, true, false, List, [], length, take, slice_get, slice_index, Option, Some, None}
use Rattle.std.specs.List.{AllZip, list_any}
use Rattle.vx_bits.specs.declared.list.Item.{Item}
use Rattle.vx_fit.specs.Lowest.{IsLowest, IsLowestAnswer}
use Rattle.vx_pic.specs.Written.{Set, a_pps, an_aps}
use Rattle.vx_write.specs.Slots.{Sent, a_pps_of, held_serves, is_vacant, pps_with_id}

-- A set of this type and id.
abbrev pub an_aps_of : ℕ → ℕ → Set
an_aps_of kind id = an_aps (record { kind = kind; id = id; body = [] })

-- A body is resident with this id.
abbrev pub is_held : List Sent → (t kind : ℕ) → List ℕ → ℕ → Bool
is_held slots t kind body id = held_serves t (an_aps (record { kind = kind; id = id; body = body })) slots

abbrev pub IsHeldBy : List Sent → (t kind : ℕ) → List ℕ → ℕ → Type 0
IsHeldBy slots t kind body id = is_held slots t kind body id ≡ true

-- The lowest id under which each body is resident, if it is.
abbrev pub AreHeld : List Sent → (t kind count : ℕ) → List (List ℕ) → List (Option ℕ) → Type 0
AreHeld slots t kind count bodies held = AllZip (λ body id. IsLowestAnswer count (IsHeldBy slots t kind body) id) bodies held

-- An id is taken: by a body that is resident, or by one before.
abbrev pub is_id : ℕ → Option ℕ → Bool
is_id id None = false
is_id id (Some i) = i == id

abbrev pub is_taken : List (Option ℕ) → List ℕ → ℕ → Bool
is_taken held ids id = list_any (is_id id) held || list_any (λ i. i == id) ids

-- An id isn't taken, and if empty ones are wanted nothing was sent under it.
abbrev pub is_open : List Sent → (kind : ℕ) → List (Option ℕ) → List ℕ → (empty : Bool) → ℕ → Bool
is_open slots kind held ids empty id = not (is_taken held ids id) && (not empty || is_vacant (an_aps_of kind id) slots)

abbrev pub IsOpen : List Sent → (kind : ℕ) → List (Option ℕ) → List ℕ → (empty : Bool) → ℕ → Type 0
IsOpen slots kind held ids empty id = is_open slots kind held ids empty id ≡ true

-- The ids so far are those of the bodies that are resident, if they are, and the next body isn't.
pub record HasRoom (held : List (Option ℕ)) (ids : List ℕ) : Type 0 where
  pub next : slice_get held (length ids) ≡ Some None
  pub matched : (k i : ℕ) → k < length ids → slice_get held k ≡ Some (Some i) → slice_index ids k ≡ i

-- The lowest empty id that isn't taken, or else the lowest that isn't taken.
abbrev pub TakesOpen : List Sent → (kind count : ℕ) → List (Option ℕ) → List ℕ → ℕ → Type 0
TakesOpen slots kind count held ids id =
    IsLowest count (IsOpen slots kind held ids true) id
    ⊎ (((i : ℕ) → i < count → ¬ IsOpen slots kind held ids true i) × IsLowest count (IsOpen slots kind held ids false) id)

-- The ids that are found of the first bodies.
pub record AreIds (slots : List Sent) (kind count : ℕ) (held : List (Option ℕ)) (ids : List ℕ) : Type 0 where
  pub matched : (k i : ℕ) → k < length ids → slice_get held k ≡ Some (Some i) → slice_index ids k ≡ i
  pub others : (k : ℕ) → k < length ids → slice_get held k ≡ Some None → TakesOpen slots kind count held (take k ids) (slice_index ids k)

-- The id of the next one.
pub record IsNextId (slots : List Sent) (kind count : ℕ) (held : List (Option ℕ)) (ids : List ℕ) (id : ℕ) : Type 0 where
  pub matched : (i : ℕ) → slice_get held (length ids) ≡ Some (Some i) → id ≡ i
  pub other : slice_get held (length ids) ≡ Some None → TakesOpen slots kind count held ids id

-- ---- the PPS

-- It is resident with this id.
abbrev pub IsHeldAs : List Sent → (t : ℕ) → List Item → ℕ → Type 0
IsHeldAs slots t pps id = held_serves t (a_pps (pps_with_id id pps)) slots ≡ true

-- None was sent with this id.
abbrev pub IsEmptyPps : List Sent → ℕ → Type 0
IsEmptyPps slots id = is_vacant (a_pps_of id) slots ≡ true
