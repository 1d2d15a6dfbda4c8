-- The grammar of the program's arguments. An argument is the list of its bytes. Our own. Every promise of `run` relies on it.
use Rattle.std.specs.Prelude.{◌≡◌, ◌≢◌, ℕ, ◌<◌, ◌≤◌, ◌^◌, Bool, true, false, List, [], ◌∷◌, ◌++◌, map, length, Contains, codes, decimal, Option, Some, None, IfSome, String, string_bytes}
use Rattle.std.specs.List.{AllByRecursion}
use Rattle.vx_explain.specs.Explained.{rules, fields}

-- The bytes of each argument.
abbrev pub texts : {A : Type 0} → List (String A) → List (List ℕ)
texts words = map string_bytes words

-- A file, and the upper left corner of its region in a frame, in luma samples.
pub record Placing : Type 0 where
  pub x : ℕ
  pub y : ℕ
  pub file : List ℕ

-- What the arguments ask for.
pub data Command : Type 0 where
  show : (with_fields with_inputs : Bool) → List ℕ → Command
  extract : (tid level : Option ℕ) (index : ℕ) → List ℕ → Command
  check_extract : (tid : Option ℕ) (index : ℕ) → List ℕ → Command
  merge : (level : Option ℕ) → List Placing → Command
  play : (level : Option ℕ) → List Placing → Command
  check_merge : List Placing → Command
  verify : List ℕ → List Placing → Command
  trial : (seed sources pictures : ℕ) → Command
  help : Command
  version : Command
  explain : List ℕ → Command

-- An option with its number, if there is one: `--tid T`.
abbrev pub option_words : List ℕ → Option ℕ → List (List ℕ)
option_words name None = []
option_words name (Some n) = name ∷ decimal n ∷ []

abbrev pub tid_words : Option ℕ → List (List ℕ)
tid_words tid = option_words (codes "--tid") tid

abbrev pub level_words : Option ℕ → List (List ℕ)
level_words level = option_words (codes "--level") level

-- `--fields`, if the fields of sets and headers are asked for.
abbrev pub fields_words : Bool → List (List ℕ)
fields_words true = codes "--fields" ∷ []
fields_words false = []

-- `--inputs`, if the decoding inputs of slices are asked for.
abbrev pub inputs_words : Bool → List (List ℕ)
inputs_words true = codes "--inputs" ∷ []
inputs_words false = []

-- `X,Y=FILE`: the file's name begins after the first `=`.
abbrev pub placing_word : Placing → List ℕ
placing_word p = decimal p.x ++ (codes "," ++ (decimal p.y ++ (codes "=" ++ p.file)))

-- `show [--fields] [--inputs] FILE`, `extract [--tid T] [--level N] INDEX FILE`, `check extract [--tid T] INDEX FILE`, `merge [--level N] X,Y=FILE ..`,
-- `play [--level N] X,Y=FILE ..`, `check merge X,Y=FILE ..`, `verify merge OUT X,Y=FILE ..`, `trial SEED SOURCES PICTURES`,
-- `--help`, `--version`, `--explain WORD`
abbrev pub spelling : Command → List (List ℕ)
spelling (show with_fields with_inputs file) = codes "show" ∷ (fields_words with_fields ++ (inputs_words with_inputs ++ file ∷ []))
spelling (extract tid level index file) = codes "extract" ∷ (tid_words tid ++ (level_words level ++ (decimal index ∷ file ∷ [])))
spelling (check_extract tid index file) = codes "check" ∷ codes "extract" ∷ (tid_words tid ++ (decimal index ∷ file ∷ []))
spelling (merge level placings) = codes "merge" ∷ (level_words level ++ map placing_word placings)
spelling (play level placings) = codes "play" ∷ (level_words level ++ map placing_word placings)
spelling (check_merge placings) = codes "check" ∷ codes "merge" ∷ map placing_word placings
spelling (verify finished placings) = codes "verify" ∷ codes "merge" ∷ finished ∷ map placing_word placings
spelling (trial seed sources pictures) = codes "trial" ∷ decimal seed ∷ decimal sources ∷ decimal pictures ∷ []
spelling help = codes "--help" ∷ []
spelling version = codes "--version" ∷ []
spelling (explain word) = codes "--explain" ∷ word ∷ []

-- A TemporalId (7.4.2.2), a level (general_level_idc, 7.4.4.1), and the index of a subpicture (sps_num_subpics_minus1, 7.4.3.4).
abbrev pub IsTid : Option ℕ → Type 0
IsTid tid = IfSome tid (λ t. t ≤ 6)

abbrev pub IsLevel : Option ℕ → Type 0
IsLevel level = IfSome level (λ n. n ≤ 255)

abbrev pub IsIndex : ℕ → Type 0
IsIndex index = index ≤ 999

-- A corner within the greatest frame.
abbrev pub IsPlacing : Placing → Type 0
IsPlacing p = (p.x ≤ 16383) × (p.y ≤ 16383) × (p.file ≢ [])

-- A number that streams are made from, how many there are of them, and of pictures in each.
abbrev pub IsTrialInRange : (seed sources pictures : ℕ) → Type 0
IsTrialInRange seed sources pictures = (seed < 2 ^ 32) × ((1 ≤ sources) × (sources ≤ 16)) × ((1 ≤ pictures) × (pictures ≤ 1000))

-- A rule, as `M8`, or the number of a field, as `606`.
unfoldable pub IsRuleOrField : List ℕ → Type 0
IsRuleOrField word = Contains (rules ++ map decimal fields) word

-- A file's name has a byte, numbers are in their ranges, a merge has a source, and `--explain` has a rule or a field.
abbrev pub IsWellNamed : Command → Type 0
IsWellNamed (show with_fields with_inputs file) = file ≢ []
IsWellNamed (extract tid level index file) = IsTid tid × IsLevel level × IsIndex index × (file ≢ [])
IsWellNamed (check_extract tid index file) = IsTid tid × IsIndex index × (file ≢ [])
IsWellNamed (merge level placings) = IsLevel level × (placings ≢ []) × AllByRecursion IsPlacing placings
IsWellNamed (play level placings) = IsLevel level × (placings ≢ []) × AllByRecursion IsPlacing placings
IsWellNamed (check_merge placings) = (placings ≢ []) × AllByRecursion IsPlacing placings
IsWellNamed (verify finished placings) = (finished ≢ []) × (placings ≢ []) × AllByRecursion IsPlacing placings
IsWellNamed (trial seed sources pictures) = IsTrialInRange seed sources pictures
IsWellNamed help = Unit {0}
IsWellNamed version = Unit {0}
IsWellNamed (explain word) = IsRuleOrField word

-- The arguments ask for this command.
pub record AskFor (words : List (List ℕ)) (command : Command) : Type 0 where
  pub spelled : words ≡ spelling command
  pub named : IsWellNamed command

-- The arguments ask for a command.
abbrev pub IsUnderstood : List (List ℕ) → Type 0
IsUnderstood words = (command : Command) × AskFor words command

-- The files that a command names, in order.
abbrev pub files_of : Command → List (List ℕ)
files_of (show with_fields with_inputs file) = file ∷ []
files_of (extract tid level index file) = file ∷ []
files_of (check_extract tid index file) = file ∷ []
files_of (merge level placings) = map (λ p. p.file) placings
files_of (play level placings) = map (λ p. p.file) placings
files_of (check_merge placings) = map (λ p. p.file) placings
files_of (verify finished placings) = finished ∷ map (λ p. p.file) placings
files_of (trial seed sources pictures) = []
files_of help = []
files_of version = []
files_of (explain word) = []

-- The arguments name n files, and none if they ask for no command.
pub record NamesFiles (words : List (List ℕ)) (n : ℕ) : Type 0 where
  pub command : (command : Command) → AskFor words command → n ≡ length (files_of command)
  pub other : ¬ IsUnderstood words → n ≡ 0
