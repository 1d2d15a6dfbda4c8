-- The message that bytes begin with.
use Rattle.std.specs.Prelude.{◌≡◌, ℕ, List, ◌++◌}
use Rattle.vx_sei.specs.declared.message.Message.{Message}
use Rattle.vx_sei.specs.Sei.{sei_message}

-- These bytes begin with some message.
abbrev pub BeginsWithMessage : List ℕ → Type 0
BeginsWithMessage bytes = (message : Message) × ((rest : List ℕ) × (bytes ≡ sei_message message ++ rest))
