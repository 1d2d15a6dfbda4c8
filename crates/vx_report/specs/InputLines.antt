-- The lines of the slices of a picture, with their decoding inputs. Our own.
use Rattle.std.specs.Prelude.{ℕ, List, [], length, slice_get, option_map, unwrap_or}
use Rattle.std.specs.List.{flat_map, range_with_len}
use Rattle.vx_pic.specs.Parts.{Parts, SlicePart}
use Rattle.vx_pic.specs.Inputs.{input_in}
use Rattle.vx_report.specs.SliceLine.{slice_numbers, slice_text}

-- the line of slice i of a picture before which so many were done
abbrev pub input_text : ℕ → Parts → ℕ → SlicePart → List ℕ
input_text before p i s = slice_text (slice_numbers before p i s) (input_in p s)

-- that of the slice at a place
unfoldable pub input_text_at : ℕ → Parts → ℕ → List ℕ
input_text_at before p i = unwrap_or (option_map (input_text before p i) (slice_get p.slices i)) []

-- those of all its slices, in order
abbrev pub inputs_text : ℕ → Parts → List ℕ
inputs_text before p = flat_map (input_text_at before p) (range_with_len 0 (length p.slices))
