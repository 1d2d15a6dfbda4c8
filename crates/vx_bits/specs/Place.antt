-- A place in bits: the number of bits in all, and the bits that are left. Our own. Contracts of `BitReader` rely on it.
use Rattle.std.specs.Prelude.{◌≡◌, ℕ, ◌-◌, Bool, List, ◌++◌, length}

-- Bits that are read in order: their number in all, and those left.
pub record Place : Type 0 where
  pub total : ℕ
  pub left : List Bool

-- The number of bits taken.
abbrev pub taken : Place → ℕ
taken p = p.total - length p.left

-- The code comes at the first place, and the second place is right after it.
pub record Takes (code : List Bool) (old new : Place) : Type 0 where
  pub left : old.left ≡ code ++ new.left
  pub total : new.total ≡ old.total
