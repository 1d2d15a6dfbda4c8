-- An intake, as its callers see it: by these definitions, and by the relation `HasCome` between it, what was pushed to it, and the
-- pictures that it found, the latest first. That relation begins with none of these; `ComesTo` says what it means. Our own.
use Rattle.std.specs.Prelude.{◌≡◌, ℕ, ◌<◌, Bool, true, false, List, ◌∷◌, length, Some, None}
use Rattle.vx_annexb.specs.Reading.{fed_at_once}
use Rattle.vx_pic.specs.Readings.{Picture}
use Rattle.vx_pic.specs.Rules.{Readers}
use Rattle.vx_pic.specs.Bytes.{AreSeenPictures}
use Rattle.vx_assemble.specs.Held.{ShowsLatest, lent_by}
use Rattle.vx_assemble.specs.Feed.{seen_of}
use Rattle.vx_assemble.specs.Feed as feed
use Rattle.vx_run.specs.Extract.{BeginsWithPictures}
use Rattle.vx_push.specs.declared.intake.State.{State}
use Rattle.vx_push.specs.declared.intake.State.TheVariants as states
pub use Rattle.vx_push.specs.Handed.{Handed, nothing, with_more, with_end, zeros, IsOpenedBy, OfEachStream}
pub use Rattle.vx_push.specs.inner.Comes.{Intaking, IsFedBy}

-- The state of an intake that has found these pictures. However the stream goes on, they are its first ones. If it waits, they are all
-- that are complete in what was pushed. If it is at the end or refused, they are all, and after them the stream ends or is refused so.
abbrev pub ComesTo : Readers → Handed → List Picture → State → Type 0
ComesTo R h ps states.Waits =
    OfEachStream R h (λ qs ending. BeginsWithPictures qs ps) × AreSeenPictures R (seen_of h.bytes) ps × (h.all ≡ false)
ComesTo R h ps states.Picture = OfEachStream R h (λ qs ending. BeginsWithPictures qs ps) × (0 < length ps)
ComesTo R h ps states.Ended = OfEachStream R h (λ qs ending. (qs ≡ ps) × (ending ≡ None)) × (h.all ≡ true)
ComesTo R h ps (states.Refused r n) =
    OfEachStream R h (λ qs ending. (qs ≡ ps) × (ending ≡ Some (record { units = n; refusal = r })))
ComesTo R h ps states.NoMemory = OfEachStream R h (λ qs ending. BeginsWithPictures qs ps)

-- This was pushed to it, and it has found these pictures. If it lends a picture, that is the latest one.
pub record HasCome (R : Readers) (i : Intaking) (h : Handed) (ps : List Picture) : Type 0 where
  pub told : ComesTo R h ps i.state
  pub lends : i.state ≡ states.Picture → ShowsLatest (lent_by i.feed.assembler) ps
  pub fed : IsFedBy R i h ps i.state

-- It advanced past these pictures: to one more, or to none.
abbrev pub ComesNext : Readers → Intaking → Handed → List Picture → State → Type 0
ComesNext R i h ps states.Picture = (p : Picture) × HasCome R i h (p ∷ ps)
ComesNext R i h ps state = HasCome R i h ps

-- The zeros that `flush` pushes: while it waits or lends a picture, unless they or the end were declared after that picture.
abbrev pub flushed_by : State → (flushed ended : Bool) → Handed → Handed
flushed_by states.Waits flushed ended h = with_more h zeros
flushed_by states.Picture false false h = with_more h zeros
flushed_by state flushed ended h = h

abbrev pub with_zeros : Intaking → Handed → Handed
with_zeros i h = flushed_by i.state i.flushed i.ended h

-- How many of n bytes it takes at once: 65,536 at most, and of a stream one more than a source may have.
abbrev pub taken_at_once : Intaking → ℕ → ℕ
taken_at_once i n = fed_at_once i.feed.reader.taken n

-- How many bytes it holds: those after the last unit taken, and those of the picture that was begun last.
abbrev pub bytes_held : Intaking → ℕ
bytes_held i = feed.bytes_held i.feed
