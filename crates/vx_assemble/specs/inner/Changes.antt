-- What an assembler keeps, with one thing more.
use Rattle.std.specs.Prelude.{◌≡◌, ◌<◌, ℕ, ◌+◌, ◌==◌, ◌&&◌, cond, List, [], ◌∷◌, ◌++◌, length, Option, Some, None, slice_set, Bool, true, false}
use Rattle.vx_bits.specs.declared.list.Item.{Item}
use Rattle.vx_aps.specs.declared.aps.Aps.{Aps}
use Rattle.vx_sei.specs.declared.message.Message.{Message}
use Rattle.vx_sei.specs.Sei.{spelled_length}
use Rattle.vx_pic.specs.declared.kind.Kind.{Kind}
use Rattle.vx_pic.specs.declared.count.PrevTid0.{PrevTid0}
use Rattle.vx_pic.specs.declared.picture.SliceSlot.{SliceSlot}
use Rattle.vx_pic.specs.Sets.{lsb_of}
use Rattle.vx_pic.specs.Counts.{is_tid0}
use Rattle.vx_pic.specs.Rules.{message_limit}
use Rattle.vx_pic.specs.Parts.{slot_of}
use Rattle.vx_assemble.specs.declared.readers.ReadSlice.{ReadSlice}
use Rattle.vx_assemble.specs.declared.state.BegunPicture.{BegunPicture}
use Rattle.vx_assemble.specs.declared.state.CurrentPicture.{CurrentPicture}
use Rattle.vx_assemble.specs.declared.state.MadeSets.{MadeSets}
use Rattle.vx_assemble.specs.declared.state.Stage.{Stage}
use Rattle.vx_assemble.specs.declared.state.Stage.TheVariants as stages
use Rattle.vx_assemble.specs.declared.state.State.{State}
use Rattle.vx_assemble.specs.inner.Held.{begun_of, aps_items}

-- ---- sets

abbrev pub with_items : List Item → State → State
with_items items s = record s { fields = items }

abbrev pub with_sps : List (Option (List Item)) → Option MadeSets → State → State
with_sps sets made s = record s { sps = sets; made = made }

abbrev pub with_pps : List (Option (List Item)) → Option MadeSets → State → State
with_pps sets made s = record s { pps = sets; made = made }

abbrev pub with_aps : Aps → State → State
with_aps a s = record s { aps = slice_set s.aps (slot_of a.kind a.id) (Some a); fields = aps_items a }

-- ---- messages, and the end of a sequence

abbrev pub with_messages : List Message → State → State
with_messages messages s = record s { gathered = s.gathered ++ messages; gathered_len = spelled_length (s.gathered ++ messages) }

abbrev pub with_end : State → State
with_end s = record s { ended = true }

-- ---- pictures

-- A header that was taken in this PH unit, or in none.
abbrev pub with_header : BegunPicture → List ℕ → CurrentPicture → CurrentPicture
with_header b unit c = record c { stage = stages.Headed b; bytes = unit; header_end = length unit; slices = [] }

-- The first slice is taken, if the header was.
abbrev pub first_comes : Kind → Stage → Stage
first_comes k stages.Nothing = stages.Nothing
first_comes k (stages.Headed b) = stages.Going (record { begun = b; kind = k })
first_comes k (stages.Going g) = stages.Going g

-- Before the first slice: the picture's kind, its adaptation parameter sets, and the messages gathered for it; no slice is present.
abbrev pub with_kind : Kind → List (Option Aps) → List Message → CurrentPicture → CurrentPicture
with_kind k sets messages c = record c { stage = first_comes k c.stage; slices = []; bodies = sets; messages = messages }

-- A slice after this number of bytes.
abbrev pub slot_behind : ℕ → List ℕ → ReadSlice → SliceSlot
slot_behind at unit r = record { header = r.header; start = at; payload = at + r.payload; end = at + length unit }

abbrev pub with_bytes : List ℕ → CurrentPicture → CurrentPicture
with_bytes unit c = record c { bytes = c.bytes ++ unit }

abbrev pub with_slot : SliceSlot → CurrentPicture → CurrentPicture
with_slot slot c = record c { slices = c.slices ++ slot ∷ [] }

abbrev pub with_slice : List ℕ → ReadSlice → CurrentPicture → CurrentPicture
with_slice unit r c = with_slot (slot_behind (length c.bytes) unit r) (with_bytes unit c)

-- Of everything that is kept, the picture changes.
abbrev pub with_picture : CurrentPicture → State → State
with_picture c s = record s { picture = c }

-- What the sets of a PPS id make up is kept.
abbrev pub is_made : ℕ → Option MadeSets → Bool
is_made id None = false
is_made id (Some m) = m.id == id

-- A picture begins with such a header, and what is in force for it is kept.
abbrev pub with_begun : BegunPicture → List ℕ → State → State
with_begun b unit s = record s {
  made = Some (record { id = b.pps_id; sets = b.sets });
  picture = with_header b unit s.picture;
  unchanged = s.unchanged && is_made b.pps_id s.made;
}

-- No messages are gathered then, and no sequence has ended.
abbrev pub with_begun_picture : CurrentPicture → State → State
with_begun_picture c s = record s { picture = c; gathered = []; gathered_len = 0; ended = false }

-- ---- whole pictures

abbrev pub counts_behind : BegunPicture → Kind → PrevTid0 → PrevTid0
counts_behind b k old = cond (is_tid0 (begun_of b None) k) (record { lsb = lsb_of b.header.fields; poc = k.poc }) old

abbrev pub with_whole : BegunPicture → Kind → State → State
with_whole b k s = record s { last = Some b.sets; unchanged = true; previous = counts_behind b k s.previous }

abbrev pub came_all : BegunPicture → CurrentPicture → Bool
came_all b c = length c.slices == b.sets.slices

abbrev pub settled : BegunPicture → Kind → State → State
settled b k s = cond (came_all b s.picture) (with_whole b k s) s

-- Messages are gathered, or would exceed the limit.
abbrev pub Gathers : Bool → List Message → State → State → Type 0
Gathers true messages old new = new ≡ with_messages messages old
Gathers false messages old new = (new ≡ old) × (message_limit < old.gathered_len + spelled_length messages)
