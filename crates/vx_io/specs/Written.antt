-- What a sink gained if a piece was not wholly written. Our own. Contracts of all writers rely on it.
use Rattle.std.specs.Prelude.{ℕ, ◌<◌, List, Option, length}
use Rattle.std.specs.Io.{StartsWith}
use Rattle.std.specs.Io.KnownBytes.{Appends}

-- Known bytes grow by a proper prefix of the piece, which may be empty.
pub record AppendsFront (old new : Option (List ℕ)) (piece : List ℕ) : Type 0 where
  pub front : List ℕ
  pub of_piece : StartsWith piece front
  pub short : length front < length piece
  pub gained : Appends old new front
