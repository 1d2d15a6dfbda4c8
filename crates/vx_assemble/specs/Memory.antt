-- How callers see a feed of bytes in memory: as a feed that was given all bytes within the limit, and by the relation `HasSeen`. It
-- relates the feed to the bytes and to the pictures that it reached, the latest first. It begins with none of these; `Sees` says
-- what it implies. The contracts of `MemoryFeed` rely on it.
use Rattle.std.specs.Prelude.{◌≡◌, ℕ, ◌^◌, nat_le, cond, List, ◌∷◌, ◌++◌, length, Option, Some, None, Result, Ok, Err}
use Rattle.vx_annexb.specs.ByteStream.{source_limit, UnitPlace}
use Rattle.vx_annexb.specs.Held.{Held as Splitting, is_all}
use Rattle.vx_annexb.specs.Reading as reader
use Rattle.vx_annexb.specs.declared.unit_reader.Closed.{Closed}
use Rattle.vx_annexb.specs.declared.unit_reader.Closed.TheVariants as closed
use Rattle.vx_pic.specs.Readings.{Reading, Picture, pictures}
use Rattle.vx_pic.specs.Rules.{Readers}
use Rattle.vx_pic.specs.Bytes.{Ending}
use Rattle.vx_pic.specs.Parts.{parts_of}
use Rattle.vx_assemble.specs.declared.fault.AssembleFault.{AssembleFault}
use Rattle.vx_assemble.specs.declared.fault.AssembleFault.TheVariants as faults
use Rattle.vx_assemble.specs.declared.feed.Step.{Step}
use Rattle.vx_assemble.specs.declared.feed.Step.TheVariants.{Picture as ToPicture, End as ToEnd}
use Rattle.vx_assemble.specs.Held.{lent_by}
use Rattle.vx_assemble.specs.Feed.{Feeding, seen_of, HasFed}

-- Why no more is read of a source that gave this number of bytes: they are all there are, or more than the limit.
abbrev pub closed_at : ℕ → Closed
closed_at n = cond (nat_le n (2 ^ 40)) closed.End closed.TooLong

-- Its source, of which this number of bytes was given at once.
abbrev pub given : Splitting → ℕ → reader.Reading
given h n = record { splitter = h; taken = n; closed = Some (closed_at n) }

-- These are pictures of the bytes, and those that it reached.
pub record HasSeen (R : Readers) (f : Feeding) (bytes : List ℕ) (ps : List Picture) : Type 0 where
  pub front : List ℕ
  pub places : List UnitPlace
  pub before : List Reading
  pub fed : HasFed R f front places before
  pub seen : seen_of front ≡ seen_of bytes
  pub all : is_all f.reader.splitter ≡ nat_le (length bytes) source_limit
  pub done : pictures before ≡ ps

-- It advanced in bytes that have the pictures qs and this ending, the latest picture first, after ps. It reached their next
-- picture, which it lends, or their end, which comes after all of them; or it was refused, after all of them, for what ends them.
-- After lack of memory the result is unspecified.
abbrev pub Sees : Readers → List ℕ → List Picture → Option Ending → List Picture → Feeding → Result Step AssembleFault → Type 0
Sees R bytes qs ending ps new (Ok ToPicture) =
    (p : Picture) × HasSeen R new bytes (p ∷ ps) × ((later : List Picture) × (qs ≡ later ++ p ∷ ps)) × (lent_by new.assembler ≡ parts_of p)
Sees R bytes qs ending ps new (Ok ToEnd) = HasSeen R new bytes ps × (qs ≡ ps) × (ending ≡ None)
Sees R bytes qs ending ps new (Err faults.Memory) = Unit {0}
Sees R bytes qs ending ps new (Err (faults.Refused r)) = (qs ≡ ps) × (ending ≡ Some (record { units = new.units; refusal = r }))
Sees R bytes qs ending ps new (Err (faults.Stopped first)) = ⊥
