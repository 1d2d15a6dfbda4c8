-- What is read of generated streams. Our own.
use Rattle.std.specs.Prelude.{◌≡◌, ℕ, ◌*◌, ◌<◌, ◌≤◌, map, None}
use Rattle.vx_pic.specs.Bytes.{AreSourcePictures}
use Rattle.vx_pic.specs.H266.{AreOfH266}
use Rattle.vx_pic.specs.Parts.{parts_of}
use Rattle.vx_pic.specs.Resident.{planned_of}
use Rattle.vx_pic.specs.Rules.{Readers}
use Rattle.vx_gen.specs.Pictures.{plans}
use Rattle.vx_gen.specs.Shown.{shown}
use Rattle.vx_gen.specs.Streams.{stream}

-- Readers of H.266 read of a generated stream exactly its planned pictures, and it ends well.
abbrev pub GeneratedAreRead : Type 0
GeneratedAreRead = (R : Readers) (seed pictures k : ℕ) → AreOfH266 R → k < 16 → 1 ≤ pictures → pictures ≤ 1000
    → AreSourcePictures R (stream seed pictures k) (planned_of (plans seed (5 * (k * pictures)) k pictures)) None

-- These are seen so, wherever the draws begin.
abbrev pub PlannedAreShown : Type 0
PlannedAreShown = (seed n k pictures : ℕ) → map parts_of (planned_of (plans seed n k pictures)) ≡ shown seed n k pictures
