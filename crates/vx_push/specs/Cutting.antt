-- A cutter, as its callers see it: by these definitions, and by the relation `HasCut` between it, what was pushed of its source, the
-- pictures that it passed, and those that it wrote. That relation begins with none of these; `Answers` says what it means. Lists of
-- pictures and of plans have the latest first. Our own.
use Rattle.std.specs.Prelude.{◌≡◌, ◌⊎◌, ℕ, false, List, [], ◌∷◌, ◌++◌, length, map, Option, Some, None}
use Rattle.vx_bits.specs.declared.refusal.Refusal.{Refusal}
use Rattle.vx_bits.specs.declared.refusal.Refusal.TheVariants.{Extract}
use Rattle.vx_bits.specs.declared.rules.TheConstants.{NO_PICTURE}
use Rattle.vx_annexb.specs.Laws.{written}
use Rattle.vx_pic.specs.declared.kind.Kind.{Kind}
use Rattle.vx_pic.specs.Readings.{Picture}
use Rattle.vx_pic.specs.Rules.{Readers}
use Rattle.vx_pic.specs.Bytes.{Ending, AreSeenPictures}
use Rattle.vx_pic.specs.Parts.{parts_of}
use Rattle.vx_pic.specs.Sublayers.{at_most}
use Rattle.vx_pic.specs.Written.{Plan, units_of}
use Rattle.vx_run.specs.declared.stop.Place.{Place}
use Rattle.vx_run.specs.declared.stop.Place.TheVariants as places
use Rattle.vx_assemble.specs.Feed.{seen_of}
use Rattle.vx_extract.specs.Extracting.{Extracting, Stands}
use Rattle.vx_extract.specs.Written.{AreExtracted}
use Rattle.vx_run.specs.declared.extract.Task.{Task}
use Rattle.vx_run.specs.declared.stop.Stop.TheVariants.{Refused, NoMemory}
use Rattle.vx_run.specs.Extract.{BreakNoRule, BreaksBehind, BeginsWithPictures, IsExtractable}
use Rattle.vx_push.specs.declared.cutter.Cut.{Cut}
use Rattle.vx_push.specs.declared.cutter.Cut.TheVariants.{Picture as ToPicture, Waits as ToWait, Ended as ToEnd, Stopped as ToStop}
use Rattle.vx_push.specs.Comes.{Intaking, Handed, OfEachStream, ComesNext}

-- A cutter: its intake and its extractor; how many pictures it passed; the bytes and the kind of the last one that it wrote, until they
-- are taken; and how it ended.
pub record Cutting : Type 0 where
  pub intake : Intaking
  pub extractor : Extracting
  pub pictures : ℕ
  pub cut : List ℕ
  pub held : Option Kind
  pub end : Option Cut

-- ---- how an extraction ends

-- What is refused of pictures with this ending, after the first of them, and at which place: their ending; a picture that breaks a rule;
-- or that there is none.
pub data IsRefusedCut (t : Task) (qs : List Picture) (ending : Option Ending) (ps : List Picture) (r : Refusal) (place : Place) : Type 0 where
  by_ending_told : (n : ℕ) → qs ≡ ps → ending ≡ Some (record { units = n; refusal = r }) → place ≡ places.Unit 0 n → IsRefusedCut t qs ending ps r place
  by_picture : BreaksBehind t qs ps r → place ≡ places.Picture (length ps) → IsRefusedCut t qs ending ps r place
  without : qs ≡ [] → ps ≡ [] → ending ≡ None → r ≡ Extract NO_PICTURE → place ≡ places.Picture 0 → IsRefusedCut t qs ending ps r place

-- The cutter's end is the end of the extraction after these pictures, for each stream that begins so; or it had no memory.
abbrev pub HasEndedBy : Readers → Task → Handed → List Picture → Cut → Type 0
HasEndedBy R t h ps ToEnd = OfEachStream R h (λ qs ending. (qs ≡ ps) × IsExtractable t qs ending)
HasEndedBy R t h ps (ToStop (Refused r place)) = OfEachStream R h (λ qs ending. IsRefusedCut t qs ending ps r place)
HasEndedBy R t h ps (ToStop NoMemory) = OfEachStream R h (λ qs ending. BeginsWithPictures qs ps)
HasEndedBy R t h ps _ = ⊥

-- ---- the relation

-- It holds what is written of this picture.
pub record HoldsPicture (c : Cutting) (p : Plan) : Type 0 where
  pub bytes : c.cut ≡ written (units_of p)
  pub kind : c.held ≡ Some p.kind

-- This was pushed, and its intake advanced past these pictures, which were passed. None of them breaks a rule, and the kept ones are
-- written so. It holds the latest of these, or that was taken.
pub record HasCut (R : Readers) (t : Task) (c : Cutting) (h : Handed) (ps : List Picture) (done : List Plan) : Type 0 where
  pub target : c.extractor.target ≡ t.target
  pub level : c.extractor.level ≡ t.level
  pub tid : c.extractor.tid ≡ t.tid
  pub come : ComesNext R c.intake h ps c.intake.state
  pub count : c.pictures ≡ length ps
  pub rules : BreakNoRule t ps
  pub plans : AreExtracted t.target t.level (map parts_of (at_most t.tid ps)) done
  pub stands : c.end ≡ None → Stands c.extractor done
  pub holds : (kind : Kind) → c.held ≡ Some kind → (p : Plan) × (before : List Plan) × (done ≡ p ∷ before) × HoldsPicture c p
  pub ended : (end : Cut) → c.end ≡ Some end → HasEndedBy R t h ps end

-- ---- what is returned

-- The stream isn't known further: these pictures are complete in what was pushed, however it goes on; and its end wasn't declared.
pub record IsAwaited (R : Readers) (h : Handed) (ps : List Picture) : Type 0 where
  pub seen : AreSeenPictures R (seen_of h.bytes) ps
  pub open_ : h.all ≡ false

-- What `next` returns after these pictures: one more is written and held, perhaps after others that are left out; the stream is awaited;
-- or the extraction has ended.
abbrev pub Answers : Readers → Task → Cutting → Handed → List Picture → List Plan → Cut → Type 0
Answers R t c h ps done ToPicture = (later : List Picture) × (p : Plan) × HasCut R t c h (later ++ ps) (p ∷ done) × HoldsPicture c p
Answers R t c h ps done ToWait = (later : List Picture) × HasCut R t c h (later ++ ps) done × IsAwaited R h (later ++ ps)
Answers R t c h ps done end = (later : List Picture) × HasCut R t c h (later ++ ps) done × HasEndedBy R t h (later ++ ps) end × (c.end ≡ Some end)
