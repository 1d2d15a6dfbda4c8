-- Which sources have ended, by their index. Our own. The contract of `lengths` relies on it.
use Rattle.std.specs.Prelude.{◌≡◌, ℕ, ◌<◌, true, false, Bool, List, length}
use Rattle.std.specs.List.{slice_index_or}
use Rattle.vx_fit.specs.Lowest.{IsLowest}
use Rattle.vx_merge.specs.declared.ended.Lengths.{Lengths}
use Rattle.vx_merge.specs.declared.ended.Lengths.TheVariants.{AllGo, AllEnded, Differ}

-- Source k has ended, or goes on.
abbrev pub IsMarkedEnded : List Bool → ℕ → Type 0
IsMarkedEnded ended k = slice_index_or ended k false ≡ true

abbrev pub IsMarkedGoing : List Bool → ℕ → Type 0
IsMarkedGoing ended k = slice_index_or ended k true ≡ false

-- None has ended; all have; or some go on, and this is the lowest that has ended.
abbrev pub IsLengths : List Bool → Lengths → Type 0
IsLengths ended AllGo = (k : ℕ) → k < length ended → IsMarkedGoing ended k
IsLengths ended AllEnded = (k : ℕ) → k < length ended → IsMarkedEnded ended k
IsLengths ended (Differ k) = IsLowest (length ended) (IsMarkedEnded ended) k × ((j : ℕ) × (j < length ended) × IsMarkedGoing ended j)
