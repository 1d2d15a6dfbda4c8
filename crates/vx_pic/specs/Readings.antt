-- What units are read as, and the state that follows at a place: `before` is the list of what the units before it were read as, the
-- latest first. Our own. All definitions of pictures rely on it.
use Rattle.std.specs.Prelude.{ℕ, ◌==◌, ◌&&◌, not, Bool, true, false, cond, List, [], ◌∷◌, ◌++◌, length, Option, Some, None}
use Rattle.std.specs.Option.{option_or}
use Rattle.vx_bits.specs.declared.list.Item.{Item}
use Rattle.vx_layout.specs.declared.numbers.Numbers.{Numbers}
use Rattle.vx_aps.specs.declared.aps.Aps.{Aps}
use Rattle.vx_sei.specs.declared.message.Message.{Message}
use Rattle.vx_pic.specs.declared.kind.Kind.{Kind}
use Rattle.vx_pic.specs.Sets.{SliceHeader, sps_id, pps_id}

-- A picture header with what is in force for it: the sets to which it refers, their layout, and its TemporalId. Also the PH unit in
-- which it came, None if it is inside a slice.
pub record Begun : Type 0 where
  pub sps : List Item
  pub pps : List Item
  pub layout : Numbers
  pub header : List Item
  pub temporal_id : ℕ
  pub unit : Option (List ℕ)

-- A slice: its unit, and what is read of it.
pub record Slice : Type 0 where
  pub unit : List ℕ
  pub header : SliceHeader

-- What a unit is read as.
pub data Reading : Type 0 where
  -- It is dropped.
  dropped : Reading
  vps_read : List Item → Reading
  sps_read : List Item → Reading
  pps_read : List Item → Reading
  aps_read : Aps → Reading
  -- SEI messages that are copied with the next picture.
  messages_read : List Message → Reading
  -- A PH unit.
  header_read : Begun → Reading
  -- The first slice of a picture, and a further one.
  first_slice : Begun → Kind → Slice → Reading
  next_slice : Slice → Reading
  -- An end of sequence, or of the bitstream.
  sequence_ended : Reading

-- ---- sets in force

-- The latest reading that has a value.
abbrev pub latest_given : {A : Type 0} → (Reading → Option A) → List Reading → Option A
latest_given gives [] = None
latest_given gives (r ∷ before) = option_or (gives r) (latest_given gives before)

-- The set with an id, if the unit is one.
abbrev pub sps_in : ℕ → Reading → Option (List Item)
sps_in id (sps_read s) = cond (sps_id s == id) (Some s) None
sps_in id _ = None

abbrev pub pps_in : ℕ → Reading → Option (List Item)
pps_in id (pps_read p) = cond (pps_id p == id) (Some p) None
pps_in id _ = None

abbrev pub aps_in : ℕ → ℕ → Reading → Option Aps
aps_in kind id (aps_read a) = cond ((a.kind == kind) && (a.id == id)) (Some a) None
aps_in kind id _ = None

-- Those in force: of the last units with their ids, and for APSs with their types and ids (7.4.3.4 to 7.4.3.6, on the content of
-- sets).
abbrev pub stored_sps : ℕ → List Reading → Option (List Item)
stored_sps id before = latest_given (sps_in id) before

abbrev pub stored_pps : ℕ → List Reading → Option (List Item)
stored_pps id before = latest_given (pps_in id) before

abbrev pub stored_aps : ℕ → ℕ → List Reading → Option Aps
stored_aps kind id before = latest_given (aps_in kind id) before

-- ---- what came since the last slice

-- Whether a sequence ended there.
abbrev pub is_ended : List Reading → Bool
is_ended [] = false
is_ended (sequence_ended ∷ before) = true
is_ended (first_slice b k s ∷ before) = false
is_ended (next_slice s ∷ before) = false
is_ended (_ ∷ before) = is_ended before

-- The messages, in the order of the units.
abbrev pub gathered : List Reading → List Message
gathered [] = []
gathered (messages_read messages ∷ before) = gathered before ++ messages
gathered (first_slice b k s ∷ before) = []
gathered (next_slice s ∷ before) = []
gathered (_ ∷ before) = gathered before

-- ---- pictures

-- A picture: its header with what is in force, its kind, what the units before its first slice were read as, and its slices.
pub record Picture : Type 0 where
  pub begun : Begun
  pub kind : Kind
  pub before : List Reading
  pub slices : List Slice

-- Its adaptation parameter sets: those in force at its first slice (7.4.3.6).
abbrev pub aps_of : Picture → ℕ → ℕ → Option Aps
aps_of p kind id = stored_aps kind id p.before

-- Its messages: those since the last slice of the picture before it.
abbrev pub messages_of : Picture → List Message
messages_of p = gathered p.before

-- All its slices are present.
abbrev pub is_whole : Picture → Bool
is_whole p = length p.slices == length p.begun.layout.slices

-- The picture that was begun last: none, only a header, or with slices.
pub data Current : Type 0 where
  nothing : Current
  headed : Begun → Current
  going : Picture → Current

abbrev pub with_slice : Slice → Current → Current
with_slice s nothing = nothing
with_slice s (headed b) = headed b
with_slice s (going p) = going (record p { slices = p.slices ++ s ∷ [] })

abbrev pub current : List Reading → Current
current [] = nothing
current (header_read b ∷ before) = headed b
current (first_slice b k s ∷ before) = going (record { begun = b; kind = k; before = before; slices = s ∷ [] })
current (next_slice s ∷ before) = with_slice s (current before)
current (_ ∷ before) = current before

-- A picture is begun, and not all its slices are present.
abbrev pub is_open : Current → Bool
is_open nothing = false
is_open (headed b) = true
is_open (going p) = not (is_whole p)

-- Some of its slices are present, and not all.
abbrev pub is_within_picture : Current → Bool
is_within_picture nothing = false
is_within_picture (headed b) = false
is_within_picture (going p) = not (is_whole p)

-- The picture, if it is whole.
abbrev pub picture_if_whole : Current → List Picture
picture_if_whole nothing = []
picture_if_whole (headed b) = []
picture_if_whole (going p) = cond (is_whole p) (p ∷ []) []

abbrev pub is_slice : Reading → Bool
is_slice (first_slice b k s) = true
is_slice (next_slice s) = true
is_slice _ = false

-- The picture that this reading completes.
abbrev pub completed : Reading → List Reading → List Picture
completed r before = cond (is_slice r) (picture_if_whole (current (r ∷ before))) []

-- The whole pictures, the latest first: a picture is complete with its last slice.
abbrev pub pictures : List Reading → List Picture
pictures [] = []
pictures (r ∷ before) = completed r before ++ pictures before
