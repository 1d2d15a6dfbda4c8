-- What a call did to sources and sinks, as its caller sees it. Our own. All promises of `run` are stated with it.
use Rattle.std.specs.Prelude.{◌≡◌, ℕ, List, ◌⊎◌, Option, option_and_then, slice_get}
use Rattle.std.specs.Option.{option_map_or}
use Rattle.std.specs.Io.KnownBytes.{Appends, Consumes}
use Rattle.vx_io.specs.Faults.{Rose}
use Rattle.vx_io.specs.Written.{AppendsFront}

-- A source or a sink before and after a call, with its known bytes (those left in a source, those taken by a sink) and its count of
-- faults.
pub record Change (A : Type 0) : Type 0 where
  pub bytes : A → Option (List ℕ)
  pub faults : A → ℕ
  pub old : A
  pub new : A

abbrev pub change : {A : Type 0} → (A → Option (List ℕ)) → (A → ℕ) → A → A → Change A
change bytes faults old new = record { bytes = bytes; faults = faults; old = old; new = new }

-- The sources of a list before and after a call.
pub record Sources (A : Type 0) : Type 0 where
  pub bytes : A → Option (List ℕ)
  pub faults : A → ℕ
  pub old : List A
  pub new : List A

abbrev pub sources_change : {A : Type 0} → (A → Option (List ℕ)) → (A → ℕ) → List A → List A → Sources A
sources_change bytes faults old new = record { bytes = bytes; faults = faults; old = old; new = new }

-- Source k of them, if there is one.
abbrev pub source_at : {A : Type 0} → Sources A → ℕ → Change (Option A)
source_at s k = change (option_and_then s.bytes) (λ x. option_map_or s.faults x 0) (slice_get s.old k) (slice_get s.new k)

-- Nothing was done to any of them.
abbrev pub AreUntouched : {A : Type 0} → Sources A → Type 0
AreUntouched s = s.new ≡ s.old

-- Nothing was done to it.
abbrev pub IsUntouched : {A : Type 0} → Change A → Type 0
IsUntouched c = c.new ≡ c.old

-- No read or write of it failed.
abbrev pub HasNoFault : {A : Type 0} → Change A → Type 0
HasNoFault c = c.faults c.new ≡ c.faults c.old

-- A read or a write of it failed.
abbrev pub HasFault : {A : Type 0} → Change A → Type 0
HasFault c = Rose (c.faults c.old) (c.faults c.new)

-- A source gave some bytes, in order from its next one.
abbrev pub GivesFront : {A : Type 0} → Change A → Type 0
GivesFront c = (given : List ℕ) × Consumes (c.bytes c.old) (c.bytes c.new) given

-- A sink gained these bytes, and no write failed.
pub record Gains {A : Type 0} (c : Change A) (bytes : List ℕ) : Type 0 where
  pub kept : HasNoFault c
  pub gained : Appends (c.bytes c.old) (c.bytes c.new) bytes

-- A write failed, and the sink gained a prefix of these bytes.
pub record GainsFront {A : Type 0} (c : Change A) (bytes : List ℕ) : Type 0 where
  pub failed : HasFault c
  pub gained : AppendsFront (c.bytes c.old) (c.bytes c.new) bytes

-- A line was written, or a prefix of it if a write failed.
abbrev pub Tells : {A : Type 0} → Change A → List ℕ → Type 0
Tells c line = Gains c line ⊎ GainsFront c line
