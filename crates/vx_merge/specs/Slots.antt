-- The ids that the sets of a picture take (our own rule, none of H.266). Each type of sets has ids from 0 up to a count: slots, into
-- which sets are sent.
use Rattle.std.specs.Prelude.{◌≡◌, ◌⊎◌, ℕ, ◌<◌, true, List, length, slice_index, None}
use Rattle.vx_fit.specs.Lowest.{IsLowest}
use Rattle.vx_pic.specs.Resident.{last_of, serves}
use Rattle.vx_pic.specs.Written.{Set, SetUnit}

-- Sets of one type, in the order of their first use: `at k i` is the k-th one with the id i. These slots are considered for a picture of
-- a TemporalId, after the sets that count as sent.
module _ (count n t : ℕ) (sent : List SetUnit) (at : ℕ → ℕ → Set) where
  -- slot i holds set k
  abbrev pub Holds : ℕ → ℕ → Type 0
  Holds k i = serves t (at k i) (last_of (at k i) sent) ≡ true

  -- a slot holds it
  abbrev pub IsHeld : ℕ → Type 0
  IsHeld k = (i : ℕ) × (i < count) × Holds k i

  -- nothing was sent into slot i
  abbrev pub IsEmpty : ℕ → ℕ → Type 0
  IsEmpty k i = last_of (at k i) sent ≡ None

  -- when set k takes its slot, slot i is taken: by one that a slot holds, or by one before it
  abbrev pub IsTaken : List ℕ → ℕ → ℕ → Type 0
  IsTaken slots k i = (j : ℕ) × (j < n) × (slice_index slots j ≡ i) × (IsHeld j ⊎ (j < k))

  -- slot i is free for it, and empty
  abbrev pub IsFresh : List ℕ → ℕ → ℕ → Type 0
  IsFresh slots k i = IsEmpty k i × (¬ IsTaken slots k i)

  -- Set k takes the lowest such slot; if there is none, the lowest that is free.
  abbrev pub TakesFree : List ℕ → ℕ → ℕ → Type 0
  TakesFree slots k slot =
      IsLowest count (IsFresh slots k) slot
      ⊎ (((i : ℕ) → i < count → ¬ IsFresh slots k i) × IsLowest count (λ i. ¬ IsTaken slots k i) slot)

  -- Each set takes its slot: one that a slot holds the lowest of these, and then each other one, in order, as said.
  pub record TakeSlots (slots : List ℕ) : Type 0 where
    pub one_each : length slots ≡ n
    pub held : (k : ℕ) → k < n → IsHeld k → IsLowest count (Holds k) (slice_index slots k)
    pub others : (k : ℕ) → k < n → ¬ IsHeld k → TakesFree slots k (slice_index slots k)
