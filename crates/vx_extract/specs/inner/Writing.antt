-- Units that are written one after another. Our own.
use Rattle.std.specs.Prelude.{ℕ, ◌==◌, List, ◌++◌, map, filter, slice_get, Option, option_to_list}
use Rattle.vx_pic.specs.Parts.{Parts, SlicePart}
use Rattle.vx_pic.specs.Written.{eos_units}
use Rattle.vx_extract.specs.Written.{extracted_slices}

-- The units of a picture's slices of the subpicture.
abbrev pub slice_units : Parts → ℕ → List (List ℕ)
slice_units q target = map (λ s. s.unit) (extracted_slices q target)

-- All units of a picture, if these are those of its sets and messages.
abbrev pub units_with : Parts → ℕ → List (List ℕ) → Option (List ℕ) → List (List ℕ)
units_with q target sets sei =
    eos_units q.kind.after_eos ++ (sets ++ (option_to_list sei ++ (option_to_list q.unit ++ slice_units q target)))

-- The unit of one of its slices, if that belongs to the subpicture.
abbrev pub slice_units_at : List SlicePart → ℕ → ℕ → List (List ℕ)
slice_units_at slices target i = map (λ s. s.unit) (filter (λ s. s.header.subpic == target) (option_to_list (slice_get slices i)))
