-- The index of an error of `tile_bounds`. Our own. The contract of `tile_bounds` relies on it.
use Rattle.std.specs.Prelude.{ℕ}
use Rattle.vx_layout.specs.declared.bounds.TileError.{TileError}
use Rattle.vx_layout.specs.declared.bounds.TileError.TheVariants.{Memory, Overflow}

-- P holds of the index of an overflow.
abbrev pub IfOverflow : TileError → (ℕ → Type 0) → Type 0
IfOverflow Memory P = Unit {0}
IfOverflow (Overflow i) P = P i
