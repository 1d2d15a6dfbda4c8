-- The bytes and the fault count of one source in a list of sources. Our own. Contracts of `read_at` and of all that
-- read lists of sources rely on it.
use Rattle.std.specs.Prelude.{ℕ, List, Option, slice_get, option_and_then}
use Rattle.std.specs.Option.{option_map_or}

-- The bytes that the source at k has left, if contracts know them; `None` if the list has no place k.
abbrev pub bytes_at : {S : Type 0} → (S → Option (List ℕ)) → List S → ℕ → Option (List ℕ)
bytes_at bytes_left sources k = option_and_then bytes_left (slice_get sources k)

-- The fault count of the source at k; 0 if the list has no place k.
abbrev pub faults_at : {S : Type 0} → (S → ℕ) → List S → ℕ → ℕ
faults_at read_faults sources k = option_map_or read_faults (slice_get sources k) 0
