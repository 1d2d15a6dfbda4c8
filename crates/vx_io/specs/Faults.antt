-- Counts of faults: how a read or a write changes the count of its source or sink. Our own. The contracts of all
-- sources and sinks rely on it.
use Rattle.std.specs.Prelude.{◌≡◌, ℕ, ◌+◌, ◌-◌, ◌^◌, ◌<◌, ◌⊎◌, min, MatchResult, Result}

-- The last value of a count.
abbrev pub last_count : ℕ
last_count = 2 ^ 64 - 1

-- The count rose, or it was at its last value and stays there.
abbrev pub Rose : ℕ → ℕ → Type 0
Rose old new = (old < new) ⊎ ((old ≡ last_count) × (new ≡ last_count))

-- An `Ok` leaves the count unchanged, and after an `Err` it has risen.
abbrev pub CountsFault : {A E : Type 0} → ℕ → ℕ → Result A E → Type 0
CountsFault old new r = MatchResult r (λ _. new ≡ old) (λ _. Rose old new)

-- One more, up to the last value.
abbrev pub count_after : ℕ → ℕ
count_after n = min (n + 1) last_count

-- An `Ok` leaves the count unchanged, and an `Err` adds one to it.
abbrev pub CountsOne : {A E : Type 0} → ℕ → ℕ → Result A E → Type 0
CountsOne old new r = MatchResult r (λ _. new ≡ old) (λ _. new ≡ count_after old)
