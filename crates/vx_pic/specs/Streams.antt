-- The pictures of a list of units, and its ending. Our own. The pictures of bytes rely on it.
use Rattle.std.specs.Prelude.{ℕ, cond, List, [], ◌∷◌, Option, Some, None, Result, Ok, Err}
use Rattle.std.specs.Option.{option_or}
use Rattle.vx_bits.specs.declared.refusal.Refusal.{Refusal}
use Rattle.vx_bits.specs.declared.rules.TheConstants.{SLICE_MISSING}
use Rattle.vx_pic.specs.Readings.{Reading, Picture, current, is_open, pictures}
use Rattle.vx_pic.specs.Rules.{Readers, structure, reads}

-- What units are read as up to the first that is refused: the readings, the latest first, and its refusal.
pub record StreamReading : Type 0 where
  pub before : List Reading
  pub refusal : Option Refusal

-- Units that were read as these, and no refusal.
abbrev pub all_read : List Reading → StreamReading
all_read before = record { before = before; refusal = None }

abbrev pub stopped : List Reading → Refusal → StreamReading
stopped before r = record { before = before; refusal = Some r }

-- A unit after these, and what follows if it is read.
abbrev pub one_more : Result Reading Refusal → List Reading → (List Reading → StreamReading) → StreamReading
one_more (Ok r) before rest = rest (r ∷ before)
one_more (Err r) before rest = stopped before r

-- Units one after another, each after those before it.
abbrev pub read_on : Readers → List Reading → List (List ℕ) → StreamReading
read_on R before [] = all_read before
read_on R before (u ∷ units) = one_more (reads R before u) before (λ after. read_on R after units)

-- What follows if none is refused.
abbrev pub unless_refused : Option Refusal → List Reading → (List Reading → StreamReading) → StreamReading
unless_refused None before rest = rest before
unless_refused (Some r) before rest = stopped before r

-- The pictures of a list of units, the latest first.
abbrev pub pictures_of : Readers → List (List ℕ) → List Picture
pictures_of R units = pictures (read_on R [] units).before

-- A picture lacks a slice at the end of the units.
abbrev pub lacks_slice : List Reading → Option Refusal
lacks_slice before = cond (is_open (current before)) (Some (structure SLICE_MISSING)) None

-- How units end that are all there are: at the first that is refused, or there.
abbrev pub ending_of : StreamReading → Option Refusal
ending_of o = option_or o.refusal (lacks_slice o.before)
