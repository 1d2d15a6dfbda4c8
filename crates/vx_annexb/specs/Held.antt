-- How callers see a splitter: a few observable values, and the relation `Stands` between it, the bytes that it was fed and the
-- units that it returned. The relation begins with no bytes and no units; `Answers` says what it implies for the next unit. The
-- contracts of `Splitter` rely on it.
use Rattle.std.specs.Prelude.{◌≡◌, ℕ, ◌+◌, ◌-◌, ◌≤◌, Bool, List, [], ◌∷◌, ◌++◌, Option, Some, None, Result, Ok, Err, length, slice_range}
use Rattle.vx_bits.specs.declared.refusal.Refusal.{Refusal}
use Rattle.vx_annexb.specs.declared.span.Span.{Span}
use Rattle.vx_annexb.specs.ByteStream.{UnitPlace, unit_bytes, IsSound, IsStream}
pub use Rattle.vx_annexb.specs.inner.Held.{Held, fed, Stands}

-- The bytes that it lends, which are those that it holds.
abbrev pub lent : Held → List ℕ
lent h = h.kept

-- The number of bytes that it holds.
abbrev pub held : Held → ℕ
held h = length h.kept

-- The number of further bytes that it takes without allocating memory.
abbrev pub room : Held → ℕ
room h = h.room

-- Whether the bytes fed are all there are.
abbrev pub is_all : Held → Bool
is_all h = h.all

-- The first refusal that it returned.
abbrev pub first_refusal : Held → Option Refusal
first_refusal h = h.refused

-- The number of bytes fed that come after the last unit returned.
abbrev pub ahead : Held → ℕ
ahead h = fed h - h.from

-- All bytes have been searched except the last two, with which what comes next may begin.
abbrev pub IsSought : Held → Type 0
IsSought h = fed h ≤ h.sought + 2

-- The place of the unit of a span.
abbrev pub place_of : Span → UnitPlace
place_of span = record { start = span.offset; end = span.offset + (span.end - span.start) }

-- A span that can be read: its unit lies in what is lent, and is sound.
pub record IsReadable (h : Held) (span : Span) : Type 0 where
  pub order : span.start ≤ span.end
  pub within : span.end ≤ held h
  pub sound : IsSound (slice_range (lent h) span.start span.end)

-- The bytes fed and lent are unchanged, so that spans returned before can be read.
pub record Lends (old new : Held) : Type 0 where
  pub lent : lent new ≡ lent old
  pub fed : fed new ≡ fed old
  pub room : room new ≡ room old
  pub all : is_all new ≡ is_all old

-- The result of a call that looks for the next unit, for bytes g of which these units were returned.
abbrev pub Answers : List ℕ → List UnitPlace → Held → Result (Option Span) Refusal → Type 0
Answers g units h (Ok (Some span)) =
    Stands h g (units ++ place_of span ∷ []) × (unit_bytes g (place_of span) ≡ slice_range (lent h) span.start span.end)
Answers g units h (Ok None) = Stands h g units × IsStream g (is_all h) units None
Answers g units h (Err r) = Stands h g units × IsStream g (is_all h) units (Some r)
