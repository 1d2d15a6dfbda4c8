-- Arguments `X,Y=FILE`, and their parts. Our own.
use Rattle.std.specs.Prelude.{◌≡◌, ◌≢◌, ℕ, ◌<◌, ◌==◌, List, [], ◌++◌, length, map, Bool, Option, String}
use Rattle.std.specs.List.{AllByRecursion, before_first, after_first}
use Rattle.std.specs.Str.Parse.{digits_value}
use Rattle.vx_run.specs.declared.placings.Placing.{Placing as Placed}
use Rattle.vx_run.specs.Grammar.{Placing, placing_word, IsPlacing, IsLevel, level_words, texts}

abbrev pub is_comma : ℕ → Bool
is_comma b = b == 44

abbrev pub is_equals : ℕ → Bool
is_equals b = b == 61

-- The parts before and after the first comma of what precedes the first `=`, and what follows that.
abbrev pub placing_in : List ℕ → Placing
placing_in word = record {
  x = digits_value 10 (before_first is_comma (before_first is_equals word));
  y = digits_value 10 (after_first is_comma (before_first is_equals word));
  file = after_first is_equals word;
}

abbrev pub placed : Placed → Placing
placed p = record { x = p.x; y = p.y; file = p.file.now }

-- The argument spells this placing.
pub record Spells (word : List ℕ) (p : Placing) : Type 0 where
  pub spelled : word ≡ placing_word p
  pub named : IsPlacing p

-- It spells one.
abbrev pub IsPlacingWord : List ℕ → Type 0
IsPlacingWord word = (p : Placing) × Spells word p

-- The argument spells what its parts are.
abbrev pub SpellsItsParts : List ℕ → Type 0
SpellsItsParts word = (word ≡ placing_word (placing_in word)) × IsPlacing (placing_in word)

-- There are arguments, and each does.
abbrev pub PlaceFiles : List (List ℕ) → Type 0
PlaceFiles words = (0 < length words) × AllByRecursion IsPlacingWord words

-- A level, if there is one, and such arguments.
pub record NameLevelAndFiles (words : List (List ℕ)) (level : Option ℕ) (placings : List Placing) : Type 0 where
  pub spelled : words ≡ level_words level ++ map placing_word placings
  pub named : IsLevel level × (placings ≢ []) × AllByRecursion IsPlacing placings

-- The placings of such arguments.
abbrev pub spelled : {A : Type 0} → List (String A) → List Placing
spelled words = map placing_in (texts words)
