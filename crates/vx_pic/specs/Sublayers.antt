-- The pictures of the sublayers up to a TemporalId (H.266 C.6). Lists of pictures have the latest first. Extraction of sublayers
-- relies on it.
use Rattle.std.specs.Prelude.{◌≡◌, ℕ, nat_le, false, List, filter}
use Rattle.std.specs.List.{AllByRecursion}
use Rattle.vx_pic.specs.Units.{is_irap_or_gdr}
use Rattle.vx_pic.specs.Readings.{Picture}
use Rattle.vx_pic.specs.Rules.{Readers}
use Rattle.vx_pic.specs.Finished.{AreFinished}

-- Those that are kept (C.6).
abbrev pub at_most : ℕ → List Picture → List Picture
at_most tid ps = filter (λ p. nat_le p.kind.temporal_id tid) ps

-- No IRAP or GDR picture is left out (our own).
abbrev pub KeepsStarts : ℕ → List Picture → Type 0
KeepsStarts tid ps = AllByRecursion (λ p. nat_le p.kind.temporal_id tid ≡ false → is_irap_or_gdr p.kind.nal_type ≡ false) ps

-- Then those that are kept follow one another as pictures of a stream do. They have the same kinds, so that a sequence ended and a
-- coded layer video sequence starts where one did, with the same counts (8.3.1), and one SPS in such a sequence.
abbrev pub KeptAreFinished : Type 0
KeptAreFinished = (R : Readers) (tid : ℕ) (ps : List Picture) → AreFinished R ps → KeepsStarts tid ps → AreFinished R (at_most tid ps)

-- TemporalId is at most 6, so all pictures are kept up to there.
abbrev pub AllAreKept : Type 0
AllAreKept = (R : Readers) (ps : List Picture) → AreFinished R ps → KeepsStarts 6 ps × (at_most 6 ps ≡ ps)
