-- Arguments, read from the first on. Our own.
use Rattle.std.specs.Prelude.{◌≡◌, ℕ, ◌≤◌, List, [], ◌∷◌, decimal, Bool, true, false, Option, Some, None}
use Rattle.vx_run.specs.Grammar.{Command, show, extract, check_extract, merge, play, check_merge, verify, trial, help, version, explain}

-- Another argument comes first, or none.
abbrev pub BeginsNot : List ℕ → List (List ℕ) → Type 0
BeginsNot name words = (rest : List (List ℕ)) → words ≡ name ∷ rest → ⊥

-- A number of at most `most` comes first, and then these arguments.
pub record IsNumberFirst (most : ℕ) (words : List (List ℕ)) (n : ℕ) (rest : List (List ℕ)) : Type 0 where
  pub spelled : words ≡ decimal n ∷ rest
  pub within : n ≤ most

-- An option of this name with such a number, or another argument; and then these arguments.
abbrev pub IsOptionFirst : List ℕ → ℕ → List (List ℕ) → Option ℕ → List (List ℕ) → Type 0
IsOptionFirst name most words None rest = (rest ≡ words) × BeginsNot name words
IsOptionFirst name most words (Some n) rest = (after : List (List ℕ)) × (words ≡ name ∷ after) × IsNumberFirst most after n rest

-- An option of this name comes first and further arguments after it, which are `rest`; or it doesn't.
abbrev pub IsFlagFirst : List ℕ → List (List ℕ) → Bool → List (List ℕ) → Type 0
IsFlagFirst name words true rest = (words ≡ name ∷ rest) × (rest ≡ [] → ⊥)
IsFlagFirst name words false rest = (rest ≡ words) × ((after : List (List ℕ)) → words ≡ name ∷ after → after ≡ [])

-- The command is a single argument.
abbrev pub is_plain : Command → Bool
is_plain (show fields inputs file) = false
is_plain (extract tid level index file) = false
is_plain (check_extract tid index file) = false
is_plain (merge level placings) = false
is_plain (play level placings) = false
is_plain (check_merge placings) = false
is_plain (verify finished placings) = false
is_plain (trial seed sources pictures) = false
is_plain help = true
is_plain version = true
is_plain (explain word) = false
