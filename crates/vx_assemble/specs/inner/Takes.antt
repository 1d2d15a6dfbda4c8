-- The results of steps of an assembler, related to the rules.
use Rattle.std.specs.Prelude.{◌≡◌, ℕ, ◌<◌, List, ◌∷◌, length, None, Result, Ok, Err}
use Rattle.std.specs.List.{AllByRecursion}
use Rattle.vx_bits.specs.declared.list.Item.{Item}
use Rattle.vx_bits.specs.declared.refusal.Refusal.{Refusal}
use Rattle.vx_bits.specs.declared.refusal.ReadError.{ReadError}
use Rattle.vx_bits.specs.declared.refusal.ReadError.TheVariants as errors
use Rattle.vx_bits.specs.declared.rules.TheConstants as rules
use Rattle.vx_pic.specs.declared.accepted.Accepted.{Accepted}
use Rattle.vx_aps.specs.declared.aps.TheConstants as aps
use Rattle.vx_fields.specs.declared.ph.TheConstants as ph
use Rattle.vx_pic.specs.Sets.{SliceHeader, Slot, named, named_filters, names_of}
use Rattle.vx_pic.specs.Answers.{refuse_if}
use Rattle.vx_pic.specs.Readings.{Slice, Reading, current, is_open, is_within_picture}
use Rattle.vx_pic.specs.Rules.{structure}
use Rattle.vx_sh.specs.Whole.{At}
use Rattle.vx_sh.specs.InForce.{at_sets}
use Rattle.vx_pic.specs.Parts.{IsReadAt, id_count, slice_header_of}
use Rattle.vx_pic.specs.Told.{told_of}
use Rattle.vx_assemble.specs.declared.readers.ReadSlice.{ReadSlice}
use Rattle.vx_assemble.specs.declared.state.BegunPicture.{BegunPicture}
use Rattle.vx_assemble.specs.declared.state.State.{State}
use Rattle.vx_assemble.specs.inner.Held.{begun_of, IsHeld}
pub use Rattle.vx_assemble.specs.inner.Given.{Gives}

-- An answer, as one of what it contains.
abbrev pub answer_by : {A B : Type 0} → (A → B) → Result A ReadError → Result B ReadError
answer_by f (Ok a) = Ok (f a)
answer_by f (Err e) = Err e

-- ---- headers

-- The header is read as this in a unit of these bytes.
abbrev pub header_read_as : ReadSlice → SliceHeader
header_read_as r = record { fields = r.header.fields; subpic = r.header.subpic; payload = r.payload }

abbrev pub slice_read_as : List ℕ → ReadSlice → Slice
slice_read_as unit r = record { unit = unit; header = header_read_as r }

-- No set that it names has an id that none can have.
abbrev pub AreSmall : List Slot → Type 0
AreSmall slots = AllByRecursion (λ slot. slot.id < id_count) slots

-- Those that the items of a picture header, or of a slice header, name: filters, LMCS and scaling lists.
pub record NamesSmall (items : List Item) : Type 0 where
  pub filters : AreSmall (named_filters items)
  pub lmcs : AreSmall (named aps.LMCS ph.ph_lmcs_aps_id items)
  pub scaling : AreSmall (named aps.SCALING ph.ph_scaling_list_aps_id items)

-- What a slice of this type is read under, with this picture header.
abbrev pub at_begun : ℕ → BegunPicture → At
at_begun t b = at_sets t b.sets.sps b.sets.pps b.header b.sets.ids b.sets.layout

-- A slice header that was read under this picture header, as one of this type.
pub record IsReadUnder (b : BegunPicture) (t : ℕ) (r : ReadSlice) : Type 0 where
  pub read : IsReadAt (at_begun t b) r.header
  pub subpic : r.header.subpic < length b.sets.layout.subpics
  pub header : r.header ≡ slice_header_of (begun_of b None) (header_read_as r)
  pub small : AreSmall (names_of b.sets.pps b.header.fields (record { fields = r.header.fields; subpic = 0; payload = 0 }))

-- ---- units

-- A set that slices refer to is refused within a picture.
abbrev pub outside_picture : List Reading → Result (Unit {0}) Refusal
outside_picture before = refuse_if (is_within_picture (current before)) (structure rules.SET_INSIDE_PICTURE)

-- What ends a picture, or begins one, is refused if a slice of the last one is missing.
abbrev pub no_slice_missing : List Reading → Result (Unit {0}) Refusal
no_slice_missing before = refuse_if (is_open (current before)) (structure rules.SLICE_MISSING)

-- The unit was read so, and is held.
pub record TookUnit (answer : Result Reading Refusal) (before : List Reading) (new : State) (what : Accepted) : Type 0 where
  pub reading : Reading
  pub reads : answer ≡ Ok reading
  pub held : IsHeld new (reading ∷ before)
  pub told : what ≡ told_of reading before

abbrev pub TakesUnit : Result Reading Refusal → List Reading → State → Result Accepted ReadError → Type 0
TakesUnit answer before new (Ok what) = TookUnit answer before new what
TakesUnit answer before new (Err errors.Memory) = Unit {0}
TakesUnit answer before new (Err (errors.Refused r)) = answer ≡ Err r
