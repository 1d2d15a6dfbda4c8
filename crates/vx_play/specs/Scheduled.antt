-- Which file of each region is read, if the files of a region are read one after another. Our own.
use Rattle.std.specs.Prelude.{◌≡◌, ◌≢◌, ℕ, ◌+◌, ◌==◌, max, List, [], ◌∷◌, length, filter, slice_get, slice_index, Option, Some}
use Rattle.std.specs.List.{range_with_len}

-- A schedule: of each file its region; of each region how many of its files have ended; and how many had when it was asked last whether
-- regions are joined.
pub record Scheduled : Type 0 where
  pub regions : List ℕ
  pub gone : List ℕ
  pub last : Option (List ℕ)

-- How many regions files have: one more than the highest.
abbrev pub regions_counted : List ℕ → ℕ
regions_counted [] = 0
regions_counted (region ∷ regions) = max (region + 1) (regions_counted regions)

-- The files of a region, in order.
abbrev pub files_of_region : List ℕ → ℕ → List ℕ
files_of_region regions region = filter (λ file. slice_index regions file == region) (range_with_len 0 (length regions))

-- The one that is read: the first that hasn't ended.
abbrev pub file_being_read : Scheduled → ℕ → Option ℕ
file_being_read s region = slice_get (files_of_region s.regions region) (slice_index s.gone region)

-- Since it was asked last another file of some region is read, or of none.
abbrev pub HasMoved : Scheduled → Type 0
HasMoved s = (last : List ℕ) × (s.last ≡ Some last) × (last ≢ s.gone)

abbrev pub HasStayed : Scheduled → Type 0
HasStayed s = (last : List ℕ) → s.last ≡ Some last → last ≡ s.gone
