-- The line of a mismatch, with its line feed. Our own.
use Rattle.std.specs.Prelude.{ℕ, List, [], ◌∷◌, codes, decimal}
use Rattle.std.specs.List.{concat}
use Rattle.vx_pic.specs.declared.compare.Difference.{Difference}
use Rattle.vx_verify.specs.declared.mismatch.Mismatch.{Mismatch}
use Rattle.vx_verify.specs.declared.mismatch.Mismatch.TheVariants.{Count, Rect, Slices, Input, Length}

-- `C2 picture 5 source 1`
abbrev pub file_text : ℕ → ℕ → ℕ → List ℕ
file_text code picture file = concat
    (codes "C" ∷ decimal code
    ∷ codes " picture " ∷ decimal picture
    ∷ codes " source " ∷ decimal file ∷ codes "\n" ∷ [])

-- `C4 picture 5 source 1 slice 0 part 10 field 0`
abbrev pub input_text : ℕ → ℕ → ℕ → Difference → List ℕ
input_text picture file slice d = concat
    (codes "C4 picture " ∷ decimal picture
    ∷ codes " source " ∷ decimal file
    ∷ codes " slice " ∷ decimal slice
    ∷ codes " part " ∷ decimal d.part
    ∷ codes " field " ∷ decimal d.field ∷ codes "\n" ∷ [])

-- The line, by the codes C1 to C5.
abbrev pub mismatch_text : Mismatch → ℕ → List ℕ
mismatch_text (Count file) picture = file_text 1 picture file
mismatch_text (Rect file) picture = file_text 2 picture file
mismatch_text (Slices file) picture = file_text 3 picture file
mismatch_text (Input file slice d) picture = input_text picture file slice d
mismatch_text (Length file) picture = file_text 5 picture file
