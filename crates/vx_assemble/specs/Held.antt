-- How callers see an assembler: a few observable values, and the relation `Stands` between it and what the units that it took were
-- read as. The relation begins with no units; `Takes` says what it implies. All that read streams rely on it.
use Rattle.std.specs.Prelude.{◌≡◌, ℕ, ◌≤◌, length, map, List, [], ◌∷◌, Option, Some, None, is_some, Result, Ok, Err}
use Rattle.std.specs.List.{count_by, range_with_len}
use Rattle.vx_bits.specs.declared.list.Item.{Item}
use Rattle.vx_bits.specs.declared.refusal.Refusal.{Refusal}
use Rattle.vx_aps.specs.declared.aps.Aps.{Aps}
use Rattle.vx_aps.specs.declared.aps.TheConstants.{ALF, LMCS, SCALING}
use Rattle.vx_sei.specs.Sei.{spelled_length}
use Rattle.vx_pic.specs.declared.accepted.Accepted.{Accepted}
use Rattle.vx_pic.specs.declared.accepted.Accepted.TheVariants as accepted
use Rattle.vx_pic.specs.Parts.{Parts, ShowsPicture, aps_at, id_count}
use Rattle.vx_pic.specs.Readings.{Reading, vps_read, sps_read, pps_read, aps_read, Picture}
use Rattle.vx_pic.specs.Rules.{picture_limit, message_limit}
use Rattle.vx_pic.specs.Streams.{lacks_slice}
use Rattle.vx_pic.specs.Told.{told_of}
use Rattle.vx_assemble.specs.declared.fault.AssembleFault.{AssembleFault}
use Rattle.vx_assemble.specs.declared.fault.AssembleFault.TheVariants as faults
use Rattle.vx_assemble.specs.declared.fault.First.{First}
use Rattle.vx_assemble.specs.declared.fault.First.TheVariants as firsts
use Rattle.vx_assemble.specs.inner.Held.{IsHeld}
use Rattle.vx_assemble.specs.inner.Lent.{parts_in}
pub use Rattle.vx_assemble.specs.inner.Held.{Held, aps_items}

-- The result for the last unit that was handed in; `Nothing` for one that wasn't taken.
abbrev pub told : Held → Accepted
told h = h.told

-- It holds a picture: the last unit was the last slice of one.
abbrev pub HasPicture : Held → Type 0
HasPicture h = told h ≡ accepted.PictureDone

-- The model of that picture.
abbrev pub lent_by : Held → Parts
lent_by h = parts_in h.state.picture

-- The first fault, for which a unit wasn't taken.
abbrev pub first_fault : Held → Option First
first_fault h = h.first

-- That fault, from an error.
abbrev pub first_of : AssembleFault → First
first_of faults.Memory = firsts.Memory
first_of (faults.Refused r) = firsts.Refused r
first_of (faults.Stopped f) = f

-- The result for the latest unit.
abbrev pub last_told : List Reading → Accepted
last_told [] = accepted.Nothing
last_told (r ∷ before) = told_of r before

-- It has taken units that were read as these, the latest first, and refused none.
pub record Stands (h : Held) (before : List Reading) : Type 0 where
  pub state : IsHeld h.state before
  pub told : told h ≡ last_told before
  pub first : first_fault h ≡ None

-- The unit was read so after those before it, and taken.
pub record Took (answer : Result Reading Refusal) (before : List Reading) (new : Held) (what : Accepted) : Type 0 where
  pub reading : Reading
  pub reads : answer ≡ Ok reading
  pub stands : Stands new (reading ∷ before)
  pub told : what ≡ told_of reading before

-- The answer of a call that takes a unit after these, and what is held then.
abbrev pub Takes : Result Reading Refusal → List Reading → Held → Result Accepted AssembleFault → Type 0
Takes answer before new (Ok what) = Took answer before new what
Takes answer before new (Err faults.Memory) = Unit {0}
Takes answer before new (Err (faults.Refused r)) = answer ≡ Err r
Takes answer before new (Err (faults.Stopped f)) = ⊥

-- The answer of a call that ends the units: a picture lacks a slice, or none does.
abbrev pub Ends : List Reading → Result (Unit {0}) AssembleFault → Type 0
Ends before (Ok done) = lacks_slice before ≡ None
Ends before (Err faults.Memory) = ⊥
Ends before (Err (faults.Refused r)) = lacks_slice before ≡ Some r
Ends before (Err (faults.Stopped f)) = ⊥

-- A set.
abbrev pub IsSet : Accepted → Type 0
IsSet accepted.Nothing = ⊥
IsSet accepted.PictureDone = ⊥
IsSet _ = Unit {0}

-- The items of a set that was read, and of an adaptation parameter set its type and its id.
abbrev pub items_of : Reading → Option (List Item)
items_of (vps_read v) = Some v
items_of (sps_read s) = Some s
items_of (pps_read p) = Some p
items_of (aps_read a) = Some (aps_items a)
items_of _ = None

-- They are those of the latest of these pictures.
abbrev pub ShowsLatest : Parts → List Picture → Type 0
ShowsLatest parts [] = ⊥
ShowsLatest parts (p ∷ earlier) = ShowsPicture parts p

-- How many of these adaptation parameter sets are of a type.
abbrev pub count_of : ℕ → List (Option Aps) → ℕ
count_of kind sets = count_by is_some (map (aps_at sets kind) (range_with_len 0 id_count))

-- There are at most 8 ALF, 4 LMCS and 8 scaling bodies, and no others: each of the three types has eight places.
pub record AreFewBodies (sets : List (Option Aps)) : Type 0 where
  pub places : length sets ≡ 24
  pub alf : count_of ALF sets ≤ 8
  pub lmcs : count_of LMCS sets ≤ 4
  pub scaling : count_of SCALING sets ≤ 8

-- It holds a picture of at most 2^25 bytes, messages of at most 65,536 bytes for it and for the next one, and a bounded number of
-- sets. These are those that are stored, and the bodies that were stored at the picture's first slice.
pub record IsBounded (h : Held) : Type 0 where
  pub bytes : length h.state.picture.bytes ≤ picture_limit
  pub messages : spelled_length h.state.picture.messages ≤ message_limit
  pub gathered : spelled_length h.state.gathered ≤ message_limit
  pub sps : length h.state.sps ≡ 16
  pub pps : length h.state.pps ≡ 64
  pub aps : AreFewBodies h.state.aps
  pub bodies : AreFewBodies h.state.picture.bodies
