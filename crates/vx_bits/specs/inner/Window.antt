-- A window of bits over bytes: the bits that are still to come.
use Rattle.std.specs.Prelude.{ℕ, ◌*◌, ◌^◌, ◌<◌, ◌≤◌, Bool, List, ◌++◌, length, drop}
use Rattle.vx_bits.specs.declared.window.Window.{Window}
use Rattle.vx_bits.specs.Codes.{fixed, bits_of}

-- The bits of the window, and those of the bytes after it.
abbrev pub bits_ahead : List ℕ → Window → List Bool
bits_ahead bytes window = fixed window.held window.word ++ bits_of (drop window.next bytes)

-- The window holds bits of bytes that have been passed.
pub record IsWindow (bytes : List ℕ) (window : Window) : Type 0 where
  pub few : window.held < 64
  pub range : window.word < 2 ^ window.held
  pub passed : window.held ≤ 8 * window.next
  pub within : window.next ≤ length bytes
