-- What `play` finds in the rounds of regions, and what it writes. The pictures of a region are those of its files, one after another.
-- Our own.
use Rattle.std.specs.Prelude.{◌≡◌, ◌⊎◌, ℕ, ◌+◌, ◌<◌, ◌≤◌, ◌==◌, ◌&&◌, nat_lt, Bool, cond, List, [], ◌∷◌, ◌++◌, length, map}
use Rattle.std.specs.Prelude.{get_or, Option, None, is_none, option_map, unwrap_or, Ok, Err, IfErr}
use Rattle.std.specs.Option.{option_or}
use Rattle.std.specs.List.{AllByRecursion, list_any, position_or_len, range_with_len}
use Rattle.vx_bits.specs.declared.refusal.Refusal.{Refusal}
use Rattle.vx_bits.specs.declared.refusal.Refusal.TheVariants.{Limit}
use Rattle.vx_bits.specs.declared.rules.TheConstants.{TOO_MANY_FILES}
use Rattle.vx_annexb.specs.Laws.{written}
use Rattle.vx_pic.specs.Readings.{Picture}
use Rattle.vx_pic.specs.Rules.{Readers}
use Rattle.vx_pic.specs.Bytes.{Ending}
use Rattle.vx_pic.specs.H266.{AreOfH266}
use Rattle.vx_pic.specs.Joined.{begins_file, one_behind_another, played}
use Rattle.vx_pic.specs.Parts.{Parts}
use Rattle.vx_pic.specs.Written.{Plan, units_of}
use Rattle.vx_run.specs.declared.stop.Place.{Place}
use Rattle.vx_run.specs.declared.stop.Place.TheVariants as places
use Rattle.vx_frame.specs.declared.corner.Corner.{Corner}
use Rattle.vx_frame.specs.Corners.{AreCorners}
use Rattle.vx_merge.specs.Joins.{after_end_of_sequence, JudgesJoin, IsBarredWhere}
use Rattle.vx_merge.specs.Merging.{Passes}
use Rattle.vx_play.specs.Scheduled.{files_of_region}
use Rattle.vx_run.specs.declared.stop.Stop.TheVariants.{Refused, ReadFault, WriteFault, NoMemory}
use Rattle.vx_run.specs.Change.{Change, Sources, source_at, IsUntouched, AreUntouched, HasNoFault, HasFault}
use Rattle.vx_run.specs.Conclusion.{Outcome, IsOfCommand}
use Rattle.vx_run.specs.Extract.{WhereTold}
use Rattle.vx_run.specs.Grammar.{Placing}
use Rattle.vx_run.specs.Merge.{bytes_of, corners_of, length_refused, GainsInto, GainsMerge}
use Rattle.vx_run.specs.MergeAgain.{IsMergedAgain, IsToldBy, first_pictures}
use Rattle.vx_run.specs.Rounds.{Stream, IsRound, NoneRefused, Telling, EndsIn, WhereAllTold, OfEachSource}
use Rattle.vx_run.specs.Rounds.{IsRead, IsReadOut, IsReadFor, Sees, most_sources, too_many}

-- ---- regions

abbrev pub is_corner : Corner → Corner → Bool
is_corner c d = (c.x == d.x) && (c.y == d.y)

-- The place of a corner among others, or how many there are.
abbrev pub region_at_corner : List Corner → Corner → ℕ
region_at_corner corners c = position_or_len (is_corner c) corners

-- Each corner once, in the order in which they come first.
abbrev pub with_corner : List Corner → Corner → List Corner
with_corner corners c = cond (region_at_corner corners c == length corners) (corners ++ c ∷ []) corners

abbrev pub with_corners : List Corner → List Corner → List Corner
with_corners corners [] = corners
with_corners corners (c ∷ more) = with_corners (with_corner corners c) more

-- Files with the same corner are one region's, and regions are numbered as they come first: their corners, and the region of each file.
abbrev pub region_corners : List Placing → List Corner
region_corners placings = with_corners [] (corners_of placings)

abbrev pub file_regions : List Placing → List ℕ
file_regions placings = map (region_at_corner (region_corners placings)) (corners_of placings)

-- ---- the pictures of a region

-- The stream of file j.
abbrev pub no_stream : Stream
no_stream = record { pictures = []; ending = None }

abbrev pub file_in : List Stream → ℕ → Stream
file_in files j = get_or files j no_stream

-- The pictures of each of a region's files, up to the first file that is refused; and that file, with its ending.
abbrev pub pictures_in : List Stream → List ℕ → List (List Picture)
pictures_in files [] = []
pictures_in files (j ∷ js) = (file_in files j).pictures ∷ cond (is_none (file_in files j).ending) (pictures_in files js) []

abbrev pub refused_in : List Stream → List ℕ → Option (ℕ × Ending)
refused_in files [] = None
refused_in files (j ∷ js) = option_or (option_map (λ e. (j, e)) (file_in files j).ending) (refused_in files js)

-- A region's pictures are those of its files, one file after another.
abbrev pub region_stream : List Stream → List ℕ → Stream
region_stream files js = record { pictures = one_behind_another [] (pictures_in files js); ending = option_map (λ x. x.1) (refused_in files js) }

abbrev pub refused_file : List Stream → List ℕ → ℕ
refused_file files js = unwrap_or (option_map (λ x. x.0) (refused_in files js)) 0

-- The streams of `count` regions.
abbrev pub region_streams : ℕ → List ℕ → List Stream → List Stream
region_streams count regions files = map (λ k. region_stream files (files_of_region regions k)) (range_with_len 0 count)

-- ---- rounds that are played

-- Round n is joined to those before: it isn't the first one, and some region's picture is the first of its file.
abbrev pub begins_in : List ℕ → List Stream → ℕ → ℕ → Bool
begins_in regions files n k = begins_file 0 (pictures_in files (files_of_region regions k)) n

abbrev pub is_join : ℕ → List ℕ → List Stream → ℕ → Bool
is_join count regions files n = nat_lt 0 n && list_any (begins_in regions files n) (range_with_len 0 count)

-- The pictures of a joined round come after an end of sequence.
abbrev pub marked : Bool → List Parts → List Parts
marked joins round = cond joins (map after_end_of_sequence round) round

-- Its pictures may begin there if it is joined, it breaks no rule, and it is written so after others, within the limits.
pub record PassesWhere (joins : Bool) (corners : List Corner) (level : Option ℕ) (round : List Parts) (done : List Plan) (p : Plan) : Type 0 where
  pub starts : JudgesJoin joins corners round None
  pub passes : Passes corners level round done p

-- The first rounds, as many as plans, are there, pass, and are written so; the latest plan comes first.
abbrev pub ArePlayed : List Corner → Option ℕ → (ℕ → Bool) → List Stream → List Plan → Type 0
ArePlayed corners level joins ss [] = Unit {0}
ArePlayed corners level joins ss (p ∷ done) =
    ((round : List Parts) × IsRound ss (length done) round
    × PassesWhere (joins (length done)) corners level (marked (joins (length done)) round) done p)
    × ArePlayed corners level joins ss done

-- What is reported after them: what ends a file; that a region has ended; and what bars a round.
abbrev pub play_telling : List Corner → Option ℕ → (ℕ → Bool) → (ℕ → ℕ) → List Plan → Telling
play_telling corners level joins refused done = record {
  of_stream = λ k e. Refused e.refusal (places.Unit (refused k) e.units);
  of_length = length_refused;
  of_round = λ n round stop. (r : Refusal) × IsBarredWhere (joins n) corners level (marked (joins n) round) done r × (stop ≡ Refused r (places.Picture n));
}

-- The rounds of the regions of these files are played so.
abbrev pub ArePlayedOf : List Corner → Option ℕ → List ℕ → List Stream → List Plan → Type 0
ArePlayedOf corners level regions files done =
    ArePlayed corners level (is_join (length corners) regions files) (region_streams (length corners) regions files) done

-- Playing ends so after them.
abbrev pub EndsPlayed : List Corner → Option ℕ → List ℕ → List Stream → List Plan → Outcome → Type 0
EndsPlayed corners level regions files done end =
    ArePlayedOf corners level regions files done
    × EndsIn (play_telling corners level (is_join (length corners) regions files) (λ k. refused_file files (files_of_region regions k)) done)
    (region_streams (length corners) regions files) (length done) end

-- Playing ends once: after the same rounds, which are written in one way.
abbrev pub PlayEndsOnce : Type 0
PlayEndsOnce = (corners : List Corner) (level : Option ℕ) (regions : List ℕ) (files : List Stream) (done other : List Plan) (a b : Outcome)
    → 0 < length corners → EndsPlayed corners level regions files done a → EndsPlayed corners level regions files other b → (done ≡ other) × (a ≡ b)

-- ---- rounds that are read again

-- The first n pictures of each region as they are played, the latest first: after an end of sequence if their round is joined; and all.
abbrev pub played_first : ℕ → List ℕ → List Stream → ℕ → List (List Picture)
played_first count regions files n = map (played (is_join count regions files)) (map (first_pictures n) (region_streams count regions files))

abbrev pub played_whole : ℕ → List ℕ → List Stream → List (List Picture)
played_whole count regions files = map (played (is_join count regions files)) (map (λ s. s.pictures) (region_streams count regions files))

-- The rounds that are written are read again as the merge of the pictures that they were made of.
abbrev pub PlayedIsReadAgain : Type 0
PlayedIsReadAgain =
    (R : Readers) (corners : List Corner) (level : Option ℕ) (regions : List ℕ) (files : List Stream) (done : List Plan) → AreOfH266 R
    → AreCorners corners → AllByRecursion (IsToldBy R) files → ArePlayedOf corners level regions files done
    → IsMergedAgain R corners (played_first (length corners) regions files (length done)) (bytes_of done)

-- ---- what was read of files

-- Nothing was done to any of these files.
abbrev pub AreUnread : {A : Type 0} → Sources A → List ℕ → Type 0
AreUnread sources [] = Unit {0}
AreUnread sources (j ∷ js) = IsUntouched (source_at sources j) × AreUnread sources js

-- It was read to its end, and has these pictures.
abbrev pub IsOut : {A : Type 0} → Readers → Change A → List Picture → Type 0
IsOut R c ps = IsReadOut c × WhereTold R c (λ qs ending. (qs ≡ ps) × (ending ≡ None))

-- All of these files were read to their ends, and have these pictures.
abbrev pub AreOut : {A : Type 0} → Readers → Sources A → List ℕ → List (List Picture) → Type 0
AreOut R sources [] passed = passed ≡ []
AreOut R sources (j ∷ js) [] = ⊥
AreOut R sources (j ∷ js) (ps ∷ passed) = IsOut R (source_at sources j) ps × AreOut R sources js passed

-- File j comes after files that were, and nothing was done to those after it.
abbrev pub IsBehind : {A : Type 0} → Readers → Sources A → ℕ → List ℕ → List (List Picture) → Type 0
IsBehind R sources j [] passed = ⊥
IsBehind R sources j (i ∷ js) [] = (i ≡ j) × AreUnread sources js
IsBehind R sources j (i ∷ js) (ps ∷ passed) = IsOut R (source_at sources i) ps × IsBehind R sources j js passed

-- How many pictures these are.
abbrev pub count_of : List (List Picture) → ℕ
count_of passed = length (one_behind_another [] passed)

-- Picture n of a region is the last that was taken of file j, after files that were read to their ends; and no more was read than for it.
pub record EndsInFile {A : Type 0} (R : Readers) (sources : Sources A) (n : ℕ) (js : List ℕ) : Type 0 where
  pub j : ℕ
  pub m : ℕ
  pub passed : List (List Picture)
  pub behind : IsBehind R sources j js passed
  pub read : IsReadFor R (m + 1) (source_at sources j)
  pub count : n ≡ count_of passed + (m + 1)

-- The files of a region were read for its first n pictures, and no further.
abbrev pub ArePlayedFor : {A : Type 0} → Readers → Sources A → ℕ → List ℕ → Type 0
ArePlayedFor R sources n js = ((n ≡ 0) × AreUnread sources js) ⊎ EndsInFile R sources n js

-- They were read for round n: for n + 1 pictures; or to their ends, if they have n.
abbrev pub ArePlayedInRound : {A : Type 0} → Readers → Sources A → ℕ → List ℕ → Type 0
ArePlayedInRound R sources n js =
    ArePlayedFor R sources (n + 1) js ⊎ ((passed : List (List Picture)) × AreOut R sources js passed × (n ≡ count_of passed))

-- If a file of region k ends the command in round n, then the files of the regions before it were read for that round, and those of later
-- regions for the rounds before it.
abbrev pub OthersArePlayed : {A : Type 0} → Readers → Sources A → ℕ → List ℕ → ℕ → ℕ → Type 0
OthersArePlayed R sources count regions n k =
    (i : ℕ) → i < count
    → (i < k → ArePlayedInRound R sources n (files_of_region regions i)) × (k < i → ArePlayedFor R sources n (files_of_region regions i))

-- File j of region k ends the command: it comes after others, and m pictures of it come before round n.
pub record ComesAt {A : Type 0} (R : Readers) (sources : Sources A) (count : ℕ) (regions : List ℕ) (n k j m : ℕ) : Type 0 where
  pub within : k < count
  pub passed : List (List Picture)
  pub behind : IsBehind R sources j (files_of_region regions k) passed
  pub so_far : n ≡ count_of passed + m
  pub others : OthersArePlayed R sources count regions n k

-- How far files were read if this place is refused in round n: the place is one of a file; or it is the round, and all were read for
-- that.
pub data ArePlayedTo {A : Type 0} (R : Readers) (sources : Sources A) (count : ℕ) (regions : List ℕ) (n : ℕ) (place : Place) : Type 0 where
  at_file : (k j m units : ℕ) → ComesAt R sources count regions n k j m → IsRead (source_at sources j) → place ≡ places.Unit j units
      → ArePlayedTo R sources count regions n place
  at_played_round : place ≡ places.Picture n → ((k : ℕ) → k < count → ArePlayedInRound R sources n (files_of_region regions k)) → ArePlayedTo R sources count regions n place

-- ---- what it did

-- What `play` did to its files and to `out`, by its outcome. It writes all rounds before it ends, and they are read again: with status 0
-- as the merge of all pictures of the regions as they are played, and otherwise of their first ones. After a failed read of file j of
-- region k it has written the rounds before round n, and n pictures of that region are seen. After a failed write it has written those
-- before a round, and a prefix of that round. After lack of memory it has written the first ones.
abbrev pub PlaysBy : {A K : Type 0} → Readers → List Corner → Option ℕ → List ℕ → Sources A → Change K → Outcome → Type 0
PlaysBy R corners level regions sources out (Ok _) =
    OfEachSource sources IsReadOut × HasNoFault out
    × WhereAllTold R sources (λ files. (done : List Plan) × EndsPlayed corners level regions files done (Ok tt)
    × GainsMerge R corners (played_whole (length corners) regions files) done out)
PlaysBy R corners level regions sources out (Err (Refused r place)) =
    (n : ℕ) × ArePlayedTo R sources (length corners) regions n place × HasNoFault out
    × WhereAllTold R sources (λ files. (done : List Plan) × (length done ≡ n) × EndsPlayed corners level regions files done (Err (Refused r place))
    × GainsMerge R corners (played_first (length corners) regions files (length done)) done out)
PlaysBy R corners level regions sources out (Err (ReadFault j)) =
    (j < length sources.old) × HasFault (source_at sources j) × HasNoFault out
    × ((n k m : ℕ) × ComesAt R sources (length corners) regions n k j m × Sees R (source_at sources j) m
    × WhereAllTold R sources (λ files. (done : List Plan) × (length done ≡ n) × ArePlayedOf corners level regions files done
    × NoneRefused k (region_streams (length corners) regions files) n
    × GainsMerge R corners (played_first (length corners) regions files (length done)) done out))
PlaysBy R corners level regions sources out (Err WriteFault) =
    (n : ℕ) × ((k : ℕ) → k < length corners → ArePlayedFor R sources (n + 1) (files_of_region regions k)) × HasFault out
    × WhereAllTold R sources (λ files. (done : List Plan) × (p : Plan) × (length done ≡ n) × ArePlayedOf corners level regions files (p ∷ done)
    × GainsInto out (bytes_of done) (written (units_of p))
    × IsMergedAgain R corners (played_first (length corners) regions files (length done)) (bytes_of done))
PlaysBy R corners level regions sources out (Err NoMemory) =
    OfEachSource sources IsRead × HasNoFault out
    × WhereAllTold R sources (λ files. (done : List Plan) × ArePlayedOf corners level regions files done
    × GainsMerge R corners (played_first (length corners) regions files (length done)) done out)
PlaysBy R corners level regions sources out (Err _) = ⊥

-- ---- how many

-- How many files there may be.
abbrev pub most_files : ℕ
most_files = 256

abbrev pub too_many_files : Outcome
too_many_files = Err (Refused (Limit TOO_MANY_FILES) places.Words)

-- It isn't done, for this reason or for lack of memory, and nothing is read or written.
abbrev pub IsLeft : {A K : Type 0} → Sources A → Change K → Outcome → Outcome → Type 0
IsLeft sources out outcome limit = ((outcome ≡ limit) ⊎ (outcome ≡ Err NoMemory)) × AreUntouched sources × IsUntouched out

-- If there are more regions than there may be sources, or more files than there may be, the command is left undone. Otherwise it is so by
-- the readers of H.266.
pub record Plays {A K : Type 0} (corners : List Corner) (level : Option ℕ) (regions : List ℕ) (sources : Sources A) (out : Change K)
    (outcome : Outcome) : Type 0 where
  pub stop : IfErr outcome IsOfCommand
  pub many : most_sources < length corners → IsLeft sources out outcome too_many
  pub files : length corners ≤ most_sources → most_files < length regions → IsLeft sources out outcome too_many_files
  pub few : length corners ≤ most_sources → length regions ≤ most_files → (R : Readers) → AreOfH266 R
      → PlaysBy R corners level regions sources out outcome
