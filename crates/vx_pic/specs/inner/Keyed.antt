-- Sets that are identified by the RBSPs from which they were read.
use Rattle.std.specs.Prelude.{◌≡◌, ℕ, List, Option, Some}

-- Both are known, and the same.
abbrev pub AreSameRbsp : Option (List ℕ) → Option (List ℕ) → Type 0
AreSameRbsp known other = (rbsp : List ℕ) × (known ≡ Some rbsp) × (other ≡ Some rbsp)
