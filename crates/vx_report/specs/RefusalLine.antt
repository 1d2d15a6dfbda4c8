-- The lines of refusals: one definition for each kind of line, by the letter of its rules. Our own.
use Rattle.std.specs.Prelude.{ℕ, ◌==◌, ◌||◌, Bool, cond, List, [], ◌∷◌, codes, decimal}
use Rattle.std.specs.List.{concat}
use Rattle.vx_bits.specs.declared.refusal.BitCause.{BitCause}
use Rattle.vx_bits.specs.declared.refusal.BitCause.TheVariants.{Short, LongCode, BadTrailing, BadAlignment, OutOfRange}
use Rattle.vx_bits.specs.declared.refusal.Refusal.{Refusal}
use Rattle.vx_bits.specs.declared.refusal.Refusal.TheVariants.{Framing, Syntax, Profile, Limit, Structure, Extract, Merge}
use Rattle.vx_bits.specs.declared.rules.TheConstants.{LONG_SOURCE, TOO_MANY_FILES, TOO_MANY_SOURCES, SET_MISSING, LAYOUT, SPS_TOOLS, PPS_TOOLS, PICTURE_HEADER}
use Rattle.vx_aps.specs.declared.aps.TheConstants as aps
use Rattle.vx_pic.specs.declared.sets.TheConstants as sets
use Rattle.vx_report.specs.declared.refusal.Where.{Where}

-- ---- names

-- A cause, by its name.
abbrev pub cause_word : BitCause → List ℕ
cause_word Short = codes "Short"
cause_word LongCode = codes "LongCode"
cause_word BadTrailing = codes "BadTrailing"
cause_word BadAlignment = codes "BadAlignment"
cause_word OutOfRange = codes "OutOfRange"

-- A kind of sets.
abbrev pub set_word : ℕ → List ℕ
set_word kind =
    cond (kind == aps.ALF) (codes "ALF")
    (cond (kind == aps.LMCS) (codes "LMCS")
    (cond (kind == aps.SCALING) (codes "SCALING")
    (cond (kind == sets.SPS) (codes "SPS") (codes "PPS"))))

-- ---- lines, each with its line feed

-- `F3 source 0 byte 5`
abbrev pub framing_text : ℕ → ℕ → Where → List ℕ
framing_text code byte place = concat
    (codes "F" ∷ decimal code
    ∷ codes " source " ∷ decimal place.source
    ∷ codes " byte " ∷ decimal byte ∷ codes "\n" ∷ [])

-- `Y source 0 unit 0 field 22 bit 40 Short`
abbrev pub syntax_text : ℕ → ℕ → BitCause → Where → List ℕ
syntax_text of bit cause place = concat
    (codes "Y source " ∷ decimal place.source
    ∷ codes " unit " ∷ decimal place.unit
    ∷ codes " field " ∷ decimal of
    ∷ codes " bit " ∷ decimal bit
    ∷ codes " " ∷ cause_word cause ∷ codes "\n" ∷ [])

-- `L3 source 0`
abbrev pub source_limit_text : ℕ → Where → List ℕ
source_limit_text code place = concat
    (codes "L" ∷ decimal code ∷ codes " source " ∷ decimal place.source ∷ codes "\n" ∷ [])

-- `L4` and `L11`, for what the arguments name.
abbrev pub words_limit_text : ℕ → List ℕ
words_limit_text code = concat (codes "L" ∷ decimal code ∷ codes "\n" ∷ [])

-- `L6 picture 5`, for what is to be written.
abbrev pub written_limit_text : ℕ → Where → List ℕ
written_limit_text code place = concat (codes "L" ∷ decimal code ∷ codes " picture " ∷ decimal place.picture ∷ codes "\n" ∷ [])

-- `P4 source 0 unit 3`, and with other letters `L1 source 0 unit 3`, `S4 source 0 unit 3`
abbrev pub refused_unit_text : List ℕ → ℕ → Where → List ℕ
refused_unit_text letter code place = concat
    (letter ∷ decimal code
    ∷ codes " source " ∷ decimal place.source
    ∷ codes " unit " ∷ decimal place.unit ∷ codes "\n" ∷ [])

-- `S1 source 0 unit 1 PPS 3`
abbrev pub missing_text : ℕ → ℕ → Where → List ℕ
missing_text kind id place = concat
    (codes "S" ∷ decimal SET_MISSING
    ∷ codes " source " ∷ decimal place.source
    ∷ codes " unit " ∷ decimal place.unit
    ∷ codes " " ∷ set_word kind
    ∷ codes " " ∷ decimal id ∷ codes "\n" ∷ [])

-- `S12 source 0 unit 2 layout 3`
abbrev pub layout_text : ℕ → Where → List ℕ
layout_text fault place = concat
    (codes "S" ∷ decimal LAYOUT
    ∷ codes " source " ∷ decimal place.source
    ∷ codes " unit " ∷ decimal place.unit
    ∷ codes " layout " ∷ decimal fault ∷ codes "\n" ∷ [])

-- `E2 picture 5`
abbrev pub extract_text : ℕ → Where → List ℕ
extract_text code place = concat (codes "E" ∷ decimal code ∷ codes " picture " ∷ decimal place.picture ∷ codes "\n" ∷ [])

-- `M3 picture 5 source 1`
abbrev pub round_text : ℕ → ℕ → Where → List ℕ
round_text code source place = concat
    (codes "M" ∷ decimal code
    ∷ codes " picture " ∷ decimal place.picture
    ∷ codes " source " ∷ decimal source ∷ codes "\n" ∷ [])

-- `M7 picture 5 source 1 field 439`
abbrev pub round_field_text : ℕ → ℕ → ℕ → Where → List ℕ
round_field_text code source of place = concat
    (codes "M" ∷ decimal code
    ∷ codes " picture " ∷ decimal place.picture
    ∷ codes " source " ∷ decimal source
    ∷ codes " field " ∷ decimal of ∷ codes "\n" ∷ [])

-- ---- the line of a refusal

abbrev pub source_or_unit_text : ℕ → Where → List ℕ
source_or_unit_text code place = cond (code == LONG_SOURCE) (source_limit_text code place) (refused_unit_text (codes "L") code place)

-- The limits on what the arguments name.
abbrev pub is_of_words : ℕ → Bool
is_of_words code = (code == TOO_MANY_SOURCES) || (code == TOO_MANY_FILES)

-- A limit on these, on what is to be written, or on what is read.
abbrev pub limit_text : ℕ → Where → List ℕ
limit_text code place =
    cond (is_of_words code) (words_limit_text code)
    (cond place.written (written_limit_text code place) (source_or_unit_text code place))

abbrev pub structure_text : ℕ → ℕ → ℕ → Where → List ℕ
structure_text code kind id place =
    cond (code == SET_MISSING) (missing_text kind id place)
    (cond (code == LAYOUT) (layout_text id place) (refused_unit_text (codes "S") code place))

-- The rules of a merge that compare fields.
abbrev pub names_field : ℕ → Bool
names_field code = (code == SPS_TOOLS) || ((code == PPS_TOOLS) || (code == PICTURE_HEADER))

abbrev pub merge_text : ℕ → ℕ → ℕ → Where → List ℕ
merge_text code source of place = cond (names_field code) (round_field_text code source of place) (round_text code source place)

abbrev pub refusal_text : Refusal → Where → List ℕ
refusal_text (Framing code byte) place = framing_text code byte place
refusal_text (Syntax field bit cause) place = syntax_text field bit cause place
refusal_text (Profile code) place = refused_unit_text (codes "P") code place
refusal_text (Limit code) place = limit_text code place
refusal_text (Structure code kind id) place = structure_text code kind id place
refusal_text (Extract code) place = extract_text code place
refusal_text (Merge code source field) place = merge_text code source field place
