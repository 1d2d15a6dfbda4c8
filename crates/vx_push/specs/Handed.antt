-- What was pushed to an intake, and the streams that it may be the beginning of. Our own.
use Rattle.std.specs.Prelude.{◌≡◌, ℕ, Bool, true, false, List, [], ◌∷◌, ◌++◌, Option}
use Rattle.vx_pic.specs.Readings.{Picture}
use Rattle.vx_pic.specs.Rules.{Readers}
use Rattle.vx_pic.specs.Bytes.{Ending, AreSourcePictures}

-- Bytes that were pushed, and whether they are all there are.
pub record Handed : Type 0 where
  pub bytes : List ℕ
  pub all : Bool

-- Nothing was pushed yet.
abbrev pub nothing : Handed
nothing = record { bytes = []; all = false }

-- More bytes were; or there are no more.
abbrev pub with_more : Handed → List ℕ → Handed
with_more h piece = record { bytes = h.bytes ++ piece; all = h.all }

abbrev pub with_end : Handed → Handed
with_end h = record { bytes = h.bytes; all = true }

-- A stream that begins with what was pushed, and is exactly that if there are no more bytes.
pub record IsOpenedBy (h : Handed) (b : List ℕ) : Type 0 where
  pub rest : List ℕ
  pub front : b ≡ h.bytes ++ rest
  pub whole : h.all ≡ true → rest ≡ []

-- This holds of the pictures and of the ending of each such stream.
abbrev pub OfEachStream : Readers → Handed → (List Picture → Option Ending → Type 0) → Type 0
OfEachStream R h P =
    (b : List ℕ) (qs : List Picture) (ending : Option Ending) → IsOpenedBy h b → AreSourcePictures R b qs ending → P qs ending

-- The zeros that end a unit (B.2.1).
abbrev pub zeros : List ℕ
zeros = 0 ∷ 0 ∷ 0 ∷ []
