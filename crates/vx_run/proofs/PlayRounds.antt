-- The steps of rounds that are played, as the functions of `play` answer them.
use Rattle.std.proofs.Common.{◌≡◌, ◌≢◌, ℕ, ◌+◌, ◌<◌, ◌⊎◌, List, [], ◌∙◌, Option, Some, None, Result, Ok, Err, Bool, true, false, length, map, slice_get, slice_set, inl, inr, sym, ap, refl, subst, arith}
use Rattle.std.specs.Prelude.{replicate, slice_index}
use Rattle.std.specs.Bool.{OnTrue, OnFalse}
use Rattle.std.proofs.lemmas.Bool.{OnTrue_at, OnFalse_at}
use Rattle.std.proofs.lemmas.List.{get_or-replicate, get_or-set_same, length-set}
use Rattle.std.proofs.lemmas.Option.{same_Some, slice_get_read, slice_get_within}
use Rattle.vx_pic.specs.Parts.{Parts}
use Rattle.vx_pic.specs.Readings.{Picture}
use Rattle.vx_pic.specs.Rules.{Readers}
use Rattle.vx_pic.specs.Written.{Plan}
use Rattle.vx_assemble.specs.Feed.{Feeding}
use Rattle.vx_assemble.specs.Held.{lent_by}
use Rattle.vx_write.specs.declared.fault.WriteError.{WriteError}
use Rattle.vx_write.specs.declared.fault.WriteError.TheVariants as errors
use Rattle.vx_write.specs.declared.fault.WriteFirst.{WriteFirst}
use Rattle.vx_frame.specs.declared.corner.Corner.{Corner}
use Rattle.vx_merge.specs.Merging.{Merging, Stands}
use Rattle.vx_play.specs.Scheduled.{Scheduled, HasMoved, HasStayed, files_of_region, regions_counted}
use Rattle.vx_run.specs.declared.stop.Stop.{Stop}
use Rattle.vx_run.specs.Change.{Change, Sources, change, sources_change}
use Rattle.vx_run.specs.declared.stop.Stop.TheVariants.{NotUnderstood, Mismatched, Refused, ReadFault, WriteFault, NoMemory}
use Rattle.vx_run.specs.Conclusion.{Outcome, IsOfCommand}
use Rattle.vx_run.specs.Merge.{length_refused}
use Rattle.vx_run.specs.Play.{too_many_files}
use Rattle.vx_run.specs.inner.Advancing.{GoesBy, IsUnfed, OfAll}
use Rattle.vx_run.specs.inner.Stopping.{stop_of_write}
use Rattle.vx_run.proofs.Corners.{comes_of}
use Rattle.vx_run.specs.inner.Playing.{AdvancesRegions, AreFew, GoesOn, HasAsked, HasPlayed, IsAt, IsPlaced, PlaysRound, PlaysRounds, SameBut, SameFiles, WentOn, WritesRound}
use Rattle.vx_run.proofs.Playing.{played_none}
use Rattle.vx_run.proofs.RegionFiles.{at_first}

-- ---- what a schedule keeps

pub same_files : (s s' s'' : Scheduled) (k : ℕ) → SameFiles s s' → SameBut k s' s'' → SameFiles s s''
same_files s s' s'' k same but = record { regions = but.regions ∙ same.regions; last = but.last ∙ same.last; count = but.count ∙ same.count }

pub still_files : (s : Scheduled) → SameFiles s s
still_files s = record { regions = refl; last = refl; count = refl }

-- another file was begun of a region that was asked about,
pub moved_since : (n : ℕ) (s s' : Scheduled) → HasAsked n s → s'.last ≡ s.last → (b : Bool) → OnTrue b (HasMoved s') → b ≡ true → (0 < n) × (s.gone ≢ s'.gone)
moved_since n s s' (inl none) still b join is =
    let moved = OnTrue_at is join in
    let no = sym (sym moved.1 ∙ still ∙ none.1) in
    absurd (cc)
moved_since n s s' (inr asked) still b join is =
    let moved = OnTrue_at is join in
    let last : moved.0 ≡ s.gone = same_Some moved.0 s.gone (sym moved.1 ∙ still ∙ asked.1) in
    (asked.0, λ same. moved.2 (last ∙ same))

-- or of none
pub stayed_since : (n : ℕ) (s s' : Scheduled) → HasAsked n s → s'.last ≡ s.last → (b : Bool) → OnFalse b (HasStayed s') → b ≡ false → (n ≡ 0) ⊎ (s.gone ≡ s'.gone)
stayed_since n s s' (inl none) still b same is = inl none.0
stayed_since n s s' (inr asked) still b same is = inr (OnFalse_at is same s.gone (still ∙ asked.1))

-- it was asked in one more round
pub has_asked : (n : ℕ) (s' s'' : Scheduled) → s'' ≡ record s' { last = Some s'.gone } → HasAsked (n + 1) s''
has_asked n s' s'' is = inr (omega arith, ap (λ (x : Scheduled). x.last) is ∙ ap (λ (x : Scheduled). Some x.gone) (sym is))

-- ---- one region

-- the last region that was gone on with is the one that this feed is of
pub set_at : {A : Type 0} (xs : List A) (k : ℕ) (x : A) → k < length xs → slice_get (slice_set xs k x) k ≡ Some x
set_at xs k x within =
    let fits : k < length (slice_set xs k x) = omega (arith, within, length-set xs k x) in
    slice_get_read (slice_set xs k x) (length (slice_set xs k x)) k x refl fits (sym (get_or-set_same xs k x x within))

module _ {A : Type 0} (bytes : A → Option (List ℕ)) (faults : A → ℕ) (R : Readers) (first : List A) where
  abbrev Src : List A → Sources A
  Src l = sources_change bytes faults first l

  -- a region that was at its place goes on from there
  pub goes_from : (l l' : List A) (s s' : Scheduled) (k at : ℕ) (f f' : Feeding) (passed : List (List Picture)) (own : List Picture) (result : Result Bool Stop) → s'.regions ≡ s.regions → slice_index s'.gone k ≡ slice_index s.gone k
      → IsPlaced R (Src l) s k f passed own
      → (IsAt R (Src l) (files_of_region s'.regions k) f passed own → AreFew passed own → length passed ≡ slice_index s'.gone k → GoesOn R (Src l') (files_of_region s'.regions k) (slice_index s'.gone k) at f' passed own result)
      → GoesOn R (Src l') (files_of_region s.regions k) (slice_index s.gone k) at f' passed own result
  goes_from l l' s s' k at f f' passed own result regions gone placed goes =
      subst (λ (n : ℕ). GoesOn R (Src l') (files_of_region s.regions k) n at f' passed own result) gone
      (subst (λ (r : List ℕ). GoesOn R (Src l') (files_of_region r k) (slice_index s'.gone k) at f' passed own result) regions
      (goes (subst (λ (r : List ℕ). IsAt R (Src l) (files_of_region r k) f passed own) (sym regions) placed.0) placed.1 (placed.2 ∙ sym gone)))

-- ---- all regions

-- they are gone on with, and then it is by their lengths
pub goes_by_lengths : {A : Type 0} (R : Readers) (sources : Sources A) (s s' : Scheduled) (feeds : List Feeding) (ended : List Bool) (passed : ℕ → List (List Picture)) (own : ℕ → List Picture) (n : ℕ) (result : Result Bool Stop)
    → WentOn R sources s s' feeds ended passed own (length feeds) (length feeds) → GoesBy length_refused ended n result → AdvancesRegions R sources s s' feeds ended passed own n result
goes_by_lengths R sources s s' feeds ended passed own n (Ok true) on by = (on, by)
goes_by_lengths R sources s s' feeds ended passed own n (Ok false) on by = (on, by)
goes_by_lengths R sources s s' feeds ended passed own n (Err stop) on by = inr (on, by)

-- ---- round by round

-- where a round isn't written
not_stopped : (joins : Bool) (round : List Parts) (done : List Plan) (m : Merging) (l l' : Option (List ℕ)) (k k' : ℕ) (f : WriteFirst) → WritesRound joins round done m l l' k k' (Err (errors.Stopped f)) → ⊥
not_stopped true round done m l l' k k' f by = by
not_stopped false round done m l l' k k' f by = by

pub plays_in : {K : Type 0} (joins : Bool) (round : List Parts) (done : List Plan) (m : Merging) (out : Change K) (n : ℕ) (error : WriteError) → WritesRound joins round done m (out.bytes out.old) (out.bytes out.new) (out.faults out.old) (out.faults out.new) (Err error)
    → PlaysRound joins round done m out n (Err (stop_of_write error n))
plays_in joins round done m out n error by =
    comes_of (WritesRound joins round done m (out.bytes out.old) (out.bytes out.new) (out.faults out.old) (out.faults out.new))
    (not_stopped joins round done m (out.bytes out.old) (out.bytes out.new) (out.faults out.old) (out.faults out.new)) n error by

-- a round is that of the feeds that lend it
pub played_same : {K : Type 0} (taken_ : K → Option (List ℕ)) (writes : K → ℕ) (o o' : K) (b : Bool) (m m' : Merging) (n : ℕ) (outcome : Outcome) (fs gs : List Feeding) → fs ≡ gs
    → ((done : List Plan) → Stands m done → PlaysRound b (map (λ (f : Feeding). lent_by f.assembler) fs) done m' (change taken_ writes o o') n outcome)
    → (done : List Plan) → Stands m done → PlaysRound b (map (λ (f : Feeding). lent_by f.assembler) gs) done m' (change taken_ writes o o') n outcome
played_same taken_ writes o o' b m m' n outcome fs gs same plays =
    subst (λ (l : List Feeding). (done : List Plan) → Stands m done → PlaysRound b (map (λ (f : Feeding). lent_by f.assembler) l) done m' (change taken_ writes o o') n outcome) same plays

module _ {A K : Type 0} (bytes : A → Option (List ℕ)) (faults : A → ℕ) (taken_ : K → Option (List ℕ)) (writes : K → ℕ) (R : Readers) (first : List A) (o : K) (corners : List Corner) (level : Option ℕ) where
  -- the regions are those of these files
  pub plays_so : (regions files : List ℕ) (l : List A) (o' : K) (outcome : Outcome) → regions ≡ files → PlaysRounds R corners level regions (sources_change bytes faults first l) (change taken_ writes o o') outcome
      → PlaysRounds R corners level files (sources_change bytes faults first l) (change taken_ writes o o') outcome
  plays_so regions files l o' outcome same plays = subst (λ (r : List ℕ). PlaysRounds R corners level r (sources_change bytes faults first l) (change taken_ writes o o') outcome) same plays

  -- a schedule before the first round
  pub play_begins : (files : List ℕ) (s : Scheduled) → s ≡ record { regions = files; gone = replicate (regions_counted files) 0; last = None } → length files ≡ length first → regions_counted files ≡ length corners
      → (feeds : List Feeding) (m : Merging) → length feeds ≡ length corners → OfAll (λ k f. IsUnfed f) feeds → Stands m [] → HasPlayed R corners level (sources_change bytes faults first first) (change taken_ writes o o) s feeds m 0
  play_begins files s is many enough feeds m count unfed stands =
      subst (λ (x : Scheduled). HasPlayed R corners level (sources_change bytes faults first first) (change taken_ writes o o) x feeds m 0) (sym is)
      (played_none bytes faults taken_ writes R first o corners level begun many enough feeds m count (λ k f there. (
        at_first bytes faults R first (files_of_region files k) f (unfed k f there),
        record { own_few = omega arith; passed_few = omega arith },
        sym (get_or-replicate (regions_counted files) k 0 0 (omega (arith, slice_get_within feeds k f there, count, enough))),
      )) stands)
    where
      begun : Scheduled
      begun = record { regions = files; gone = replicate (regions_counted files) 0; last = None }

-- and their corners are these
pub plays_of : {A K : Type 0} (R : Readers) (sources : Sources A) (out : Change K) (corners own : List Corner) (level : Option ℕ) (regions files : List ℕ) (outcome : Outcome) → corners ≡ own → regions ≡ files → PlaysRounds R corners level regions sources out outcome
    → PlaysRounds R own level files sources out outcome
plays_of R sources out corners own level regions files outcome same alike plays =
    subst (λ (c : List Corner). PlaysRounds R c level files sources out outcome) same (subst (λ (r : List ℕ). PlaysRounds R corners level r sources out outcome) alike plays)

-- ---- how many files there may be

pub too_many_files_stop : (stop : Stop) → (let o : Outcome = Err stop in o) ≡ too_many_files → IsOfCommand stop
too_many_files_stop NotUnderstood is = absurd (cc)
too_many_files_stop (Mismatched x y) is = tt
too_many_files_stop (Refused r place) is = tt
too_many_files_stop (ReadFault k) is = tt
too_many_files_stop WriteFault is = tt
too_many_files_stop NoMemory is = tt
