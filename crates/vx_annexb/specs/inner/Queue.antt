-- A queue of bytes, and what a read of a source adds to it.
use Rattle.std.specs.Prelude.{◌≡◌, ℕ, List, ◌++◌, Option, length, take}
use Rattle.std.specs.Io.KnownBytes.{Consumes, IsAtEnd}

-- The bytes held, and the number of further bytes for which there is room.
pub record Queue : Type 0 where
  pub items : List ℕ
  pub room : ℕ

-- A read of a source with these bytes left, before and after it, returned `count` bytes, and the first of them up to the limit
-- were appended to these items.
pub record Receives (limit count : ℕ) (items items' : List ℕ) (left left' : Option (List ℕ)) : Type 0 where
  pub piece : List ℕ
  pub consumed : Consumes left left' piece
  pub came : length piece ≡ count
  pub put : items' ≡ items ++ take limit piece
  pub end : count ≡ 0 → IsAtEnd left'
