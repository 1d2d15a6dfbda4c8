-- The pictures of several streams, one stream after another, joined after ends of sequence. Lists of pictures have the latest
-- first. Our own. The promises on joined files rely on it.
use Rattle.std.specs.Prelude.{◌≡◌, ℕ, ◌+◌, ◌<◌, ◌==◌, ◌&&◌, ◌||◌, not, Bool, true, false, cond, List, [], ◌∷◌, ◌++◌, length}
use Rattle.std.specs.List.{AllByRecursion}
use Rattle.vx_pic.specs.Sets.{is_non_ref}
use Rattle.vx_pic.specs.Readings.{Picture}
use Rattle.vx_pic.specs.Counts.{is_empty}
use Rattle.vx_pic.specs.Rules.{Readers}
use Rattle.vx_pic.specs.Finished.{AreFinished}

-- ---- a join

-- The same picture after an end of sequence.
abbrev pub after_end : Picture → Picture
after_end p = record p { kind = record p.kind { after_eos = true } }

-- A picture that may come first after a join: it starts a coded layer video sequence, and the counts of later pictures go back
-- to it at most, since it can be prevTid0Pic (8.3.1).
pub record Starts (p : Picture) : Type 0 where
  pub clvss : p.kind.clvss ≡ true
  pub tid : p.kind.temporal_id ≡ 0
  pub ref : is_non_ref p.begun.header ≡ false

-- Pictures from such a one on can follow other pictures as well as their own, if an end of sequence comes before it.
abbrev pub JoinedAreFinished : Type 0
JoinedAreFinished = (R : Readers) (later earlier others : List Picture) (p : Picture) → Starts p → is_empty others ≡ false
    → AreFinished R (later ++ p ∷ earlier) → AreFinished R others → AreFinished R (later ++ after_end p ∷ others)

-- ---- the pictures of files

-- Those of one file after another, after these pictures.
abbrev pub one_behind_another : List Picture → List (List Picture) → List Picture
one_behind_another before [] = before
one_behind_another before (f ∷ files) = one_behind_another (f ++ before) files

-- A file begins with picture n, if `before` pictures come before these files.
abbrev pub begins_file : ℕ → List (List Picture) → ℕ → Bool
begins_file before [] n = false
begins_file before (f ∷ files) n = (not (is_empty f) && before == n) || begins_file (before + length f) files n

-- So a picture is the first of its file exactly if none of this file comes before it.
abbrev pub BeginsWhereFirst : Type 0
BeginsWhereFirst = (more : List (List Picture)) (others : List Picture) (p : Picture) (later : List Picture) (rest : List (List Picture))
    → begins_file 0 (more ++ (later ++ p ∷ others) ∷ rest) (length (one_behind_another [] (more ++ others ∷ []))) ≡ is_empty others

-- The pictures as they are played: after an end of sequence if they are joined.
abbrev pub played : (ℕ → Bool) → List Picture → List Picture
played joins [] = []
played joins (p ∷ earlier) = cond (joins (length earlier)) (after_end p) p ∷ played joins earlier

-- Each picture that is joined may come first after a join.
abbrev pub StartWhere : (ℕ → Bool) → List Picture → Type 0
StartWhere joins [] = Unit {0}
StartWhere joins (p ∷ earlier) = (joins (length earlier) ≡ true → Starts p) × StartWhere joins earlier

-- Pictures are joined at least where a file begins after others, and not at their first.
pub record AreJoined (joins : ℕ → Bool) (files : List (List Picture)) : Type 0 where
  pub first : joins 0 ≡ false
  pub begun : (n : ℕ) → 0 < n → begins_file 0 files n ≡ true → joins n ≡ true

-- Then they come after one another as pictures of a stream do, with the counts that they have in their files.
abbrev pub PlayedAreFinished : Type 0
PlayedAreFinished = (R : Readers) (joins : ℕ → Bool) (files : List (List Picture)) → AreJoined joins files
    → AllByRecursion (AreFinished R) files → StartWhere joins (one_behind_another [] files)
    → AreFinished R (played joins (one_behind_another [] files))
