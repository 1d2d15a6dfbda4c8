-- The sets that were sent, as they are kept: the last one of each type and id. Our own.
use Rattle.std.specs.Prelude.{◌≡◌, ℕ, pos, ◌&&◌, nat_le, Bool, true, false, cond, List, [], ◌∷◌, drop}
use Rattle.vx_bits.specs.declared.list.Item.{Item}
use Rattle.vx_fields.specs.declared.pps.TheConstants.{pps_pic_parameter_set_id}
use Rattle.vx_pic.specs.Written.{Set, a_pps, SetUnit}
use Rattle.vx_pic.specs.Resident.{same_slot, same_set, last_of, serves}

-- A set that was sent, with its TemporalId.
pub record Sent : Type 0 where
  pub set : Set
  pub temporal_id : ℕ

-- The one of a set's type and id is the same set, and can be decoded with pictures of this TemporalId.
abbrev pub held_serves : ℕ → Set → List Sent → Bool
held_serves t s [] = false
held_serves t s (x ∷ more) = cond (same_slot x.set s) (same_set x.set s && nat_le x.temporal_id t) (held_serves t s more)

-- They give the same results.
abbrev pub AnswerAlike : List Sent → List Sent → Type 0
AnswerAlike slots others = (t : ℕ) (s : Set) → held_serves t s slots ≡ held_serves t s others

-- They are the last ones of these units.
abbrev pub AreLastOf : List SetUnit → List Sent → Type 0
AreLastOf history slots = (t : ℕ) (s : Set) → held_serves t s slots ≡ serves t s (last_of s history)

-- Nothing was sent of a set's type and id.
abbrev pub is_vacant : Set → List Sent → Bool
is_vacant s [] = true
is_vacant s (x ∷ more) = cond (same_slot x.set s) false (is_vacant s more)

-- A set with only an id, in place of all PPSs with it.
abbrev pub a_pps_of : ℕ → Set
a_pps_of id = a_pps (record { field = pps_pic_parameter_set_id; value = pos id } ∷ [])

-- A PPS with another id, which is its first item (7.3.2.5).
abbrev pub pps_with_id : ℕ → List Item → List Item
pps_with_id id items = record { field = pps_pic_parameter_set_id; value = pos id } ∷ drop 1 items
