-- The steps of `play`: the file that each region is at, and the rounds that were written. Lists of pictures have the latest first.
-- Our own.
use Rattle.std.specs.Prelude.{◌≡◌, ◌≢◌, ◌⊎◌, ℕ, ◌+◌, ◌*◌, ◌^◌, ◌<◌, ◌≤◌, not, Bool, true, false, List, [], ◌∷◌, ◌++◌, length, map, get_or, slice_get, slice_index}
use Rattle.std.specs.Prelude.{Option, Some, None, Result, Ok, Err}
use Rattle.std.specs.List.{AllByRecursion}
use Rattle.vx_bits.specs.declared.refusal.Refusal.{Refusal}
use Rattle.vx_annexb.specs.Laws.{written}
use Rattle.vx_pic.specs.Joined.{one_behind_another}
use Rattle.vx_pic.specs.Parts.{Parts}
use Rattle.vx_pic.specs.Readings.{Picture}
use Rattle.vx_pic.specs.Rules.{Readers}
use Rattle.vx_pic.specs.Written.{Plan, units_of}
use Rattle.vx_run.specs.declared.stop.Place.{Place}
use Rattle.vx_run.specs.declared.stop.Place.TheVariants as places
use Rattle.vx_assemble.specs.Feed.{Feeding}
use Rattle.vx_write.specs.declared.fault.WriteError.{WriteError}
use Rattle.vx_frame.specs.declared.corner.Corner.{Corner}
use Rattle.vx_merge.specs.Joins.{WritesJoined, after_end_of_sequence}
use Rattle.vx_merge.specs.Merging.{Merging, Stands, WritesOneRound}
use Rattle.vx_play.specs.Scheduled.{Scheduled, files_of_region, regions_counted}
use Rattle.vx_run.specs.declared.stop.Stop.{Stop}
use Rattle.vx_run.specs.declared.stop.Stop.TheVariants.{Refused, ReadFault, WriteFault, NoMemory}
use Rattle.vx_run.specs.Change.{Change, Sources, source_at, HasNoFault, HasFault, Gains}
use Rattle.vx_run.specs.Conclusion.{Outcome}
use Rattle.vx_run.specs.Extract.{WhereTold}
use Rattle.vx_run.specs.Merge.{bytes_of, length_refused, GainsInto}
use Rattle.vx_run.specs.Rounds.{IsRead, IsReadOut, NoneRefused, OfEachSource, Sees, WhereAllTold}
use Rattle.vx_run.specs.Play.{AreOut, IsBehind, ArePlayedFor, ArePlayedOf, ArePlayedTo, ComesAt, EndsPlayed, count_of, region_at_corner, region_streams, with_corners}
use Rattle.vx_run.specs.inner.Advancing.{TakesOne, Waits, GoesBy}
use Rattle.vx_run.specs.inner.Stopping.{ComesOf}

-- ---- regions

-- These are the corners of regions, each once, and these the regions of files with those corners; the last region has a file.
pub record HasFound (all corners : List Corner) (regions : List ℕ) : Type 0 where
  pub once : corners ≡ with_corners [] all
  pub each : regions ≡ map (region_at_corner corners) all
  pub known : AllByRecursion (λ c. region_at_corner corners c < length corners) all
  pub count : regions_counted regions ≡ length corners

-- ---- one region

-- The region is at file j, of which these pictures were taken, after files that were read to their ends; or it is past all of its files.
abbrev pub IsAt : {A : Type 0} → Readers → Sources A → List ℕ → Feeding → List (List Picture) → List Picture → Type 0
IsAt R sources js f passed own =
    ((j : ℕ) × IsBehind R sources j js passed × Waits R (source_at sources j) f own) ⊎ (AreOut R sources js passed × (own ≡ []))

-- No more pictures than its files can have.
pub record AreFew (passed : List (List Picture)) (own : List Picture) : Type 0 where
  pub own_few : length own ≤ 2 ^ 40
  pub passed_few : count_of passed ≤ length passed * 2 ^ 40

-- The same pictures in all.
abbrev pub SameIn : List (List Picture) → List Picture → List (List Picture) → List Picture → Type 0
SameIn passed own more others = others ++ one_behind_another [] more ≡ own ++ one_behind_another [] passed

-- It stays at its file, or begins another one.
abbrev pub StaysOrBegins : (was at : ℕ) (own others : List Picture) → Type 0
StaysOrBegins was at own others = ((at ≡ was) × (others ≡ own)) ⊎ ((was < at) × (others ≡ []))

-- It went on from there, so far.
pub record IsOn {A : Type 0} (R : Readers) (sources : Sources A) (js : List ℕ) (was at : ℕ) (f : Feeding) (passed : List (List Picture))
    (own : List Picture) : Type 0 where
  pub more : List (List Picture)
  pub others : List Picture
  pub is : IsAt R sources js f more others
  pub few : AreFew more others
  pub place : length more ≡ at
  pub same : SameIn passed own more others
  pub stays : StaysOrBegins was at own others

-- It advanced to one more picture, of file j.
pub record Takes {A : Type 0} (R : Readers) (sources : Sources A) (js : List ℕ) (was at : ℕ) (f : Feeding) (passed : List (List Picture))
    (own : List Picture) : Type 0 where
  pub more : List (List Picture)
  pub others : List Picture
  pub j : ℕ
  pub behind : IsBehind R sources j js more
  pub takes : TakesOne R (source_at sources j) f others
  pub few : AreFew more others
  pub below : length others < 2 ^ 40
  pub place : length more ≡ at
  pub same : SameIn passed own more others
  pub stays : StaysOrBegins was at own others

-- It is past all of its files.
pub record Ends {A : Type 0} (R : Readers) (sources : Sources A) (js : List ℕ) (passed : List (List Picture)) (own : List Picture) : Type 0 where
  pub more : List (List Picture)
  pub out : AreOut R sources js more
  pub same : one_behind_another [] more ≡ own ++ one_behind_another [] passed

-- File j is refused, after these of its pictures.
pub record IsCut {A : Type 0} (R : Readers) (sources : Sources A) (js : List ℕ) (passed : List (List Picture)) (own : List Picture) (r : Refusal)
    (place : Place) : Type 0 where
  pub more : List (List Picture)
  pub others : List Picture
  pub j : ℕ
  pub units : ℕ
  pub behind : IsBehind R sources j js more
  pub same : SameIn passed own more others
  pub read : IsRead (source_at sources j)
  pub told : WhereTold R (source_at sources j) (λ qs e. (qs ≡ others) × (e ≡ Some (record { units = units; refusal = r })))
  pub is : place ≡ places.Unit j units

-- A read of file j failed.
pub record IsLost {A : Type 0} (R : Readers) (sources : Sources A) (js : List ℕ) (passed : List (List Picture)) (own : List Picture) (j : ℕ)
    : Type 0 where
  pub more : List (List Picture)
  pub others : List Picture
  pub behind : IsBehind R sources j js more
  pub same : SameIn passed own more others
  pub failed : HasFault (source_at sources j)
  pub sees : Sees R (source_at sources j) (length others)

abbrev pub AllRead : {A : Type 0} → Sources A → List ℕ → Type 0
AllRead sources js = AllByRecursion (λ j. IsRead (source_at sources j)) js

abbrev pub GoesOn : {A : Type 0} → Readers → Sources A → List ℕ → (was at : ℕ) → Feeding → List (List Picture) → List Picture
    → Result Bool Stop → Type 0
GoesOn R sources js was at f passed own (Ok true) = Takes R sources js was at f passed own
GoesOn R sources js was at f passed own (Ok false) = Ends R sources js passed own
GoesOn R sources js was at f passed own (Err (Refused r place)) = IsCut R sources js passed own r place
GoesOn R sources js was at f passed own (Err (ReadFault j)) = IsLost R sources js passed own j
GoesOn R sources js was at f passed own (Err NoMemory) = AllRead sources js
GoesOn R sources js was at f passed own (Err _) = ⊥

-- In a schedule, each other region is where it was.
pub record SameBut (k : ℕ) (s s' : Scheduled) : Type 0 where
  pub regions : s'.regions ≡ s.regions
  pub last : s'.last ≡ s.last
  pub count : length s'.gone ≡ length s.gone
  pub others : (i : ℕ) → i ≢ k → slice_index s'.gone i ≡ slice_index s.gone i

-- ---- all regions

abbrev pub IsPlaced : {A : Type 0} → Readers → Sources A → Scheduled → ℕ → Feeding → List (List Picture) → List Picture → Type 0
IsPlaced R sources s k f passed own =
    IsAt R sources (files_of_region s.regions k) f passed own × AreFew passed own × (length passed ≡ slice_index s.gone k)

-- Each region is at some place.
abbrev pub ArePlaced : {A : Type 0} → Readers → Sources A → Scheduled → List Feeding → (ℕ → List (List Picture)) → (ℕ → List Picture) → Type 0
ArePlaced R sources s feeds passed own = (k : ℕ) (f : Feeding) → slice_get feeds k ≡ Some f → IsPlaced R sources s k f (passed k) (own k)

abbrev pub Went : {A : Type 0} → Readers → Sources A → (s s' : Scheduled) → ℕ → Feeding → (ℕ → List (List Picture)) → (ℕ → List Picture)
    → Result Bool Stop → Type 0
Went R sources s s' k f passed own result =
    GoesOn R sources (files_of_region s.regions k) (slice_index s.gone k) (slice_index s'.gone k) f (passed k) (own k) result

-- The first m regions were advanced, and these have ended; the others are where they were.
pub record WentOn {A : Type 0} (R : Readers) (sources : Sources A) (s s' : Scheduled) (feeds : List Feeding) (ended : List Bool)
    (passed : ℕ → List (List Picture)) (own : ℕ → List Picture) (m n : ℕ) : Type 0 where
  pub went : (k : ℕ) (f : Feeding) → k < m → slice_get feeds k ≡ Some f → Went R sources s s' k f passed own (Ok (not (get_or ended k false)))
  pub stays : (k : ℕ) (f : Feeding) → n ≤ k → slice_get feeds k ≡ Some f → IsPlaced R sources s k f (passed k) (own k)

-- Region k stopped the command.
pub record StopsAt {A : Type 0} (R : Readers) (sources : Sources A) (s s' : Scheduled) (feeds : List Feeding) (ended : List Bool)
    (passed : ℕ → List (List Picture)) (own : ℕ → List Picture) (stop : Stop) : Type 0 where
  pub k : ℕ
  pub f : Feeding
  pub there : slice_get feeds k ≡ Some f
  pub went : Went R sources s s' k f passed own (Err stop)
  pub others : WentOn R sources s s' feeds ended passed own k (k + 1)

abbrev pub AdvancesEach : {A : Type 0} → Readers → Sources A → (s s' : Scheduled) → List Feeding → List Bool → (ℕ → List (List Picture))
    → (ℕ → List Picture) → Outcome → Type 0
AdvancesEach R sources s s' feeds ended passed own (Ok _) = WentOn R sources s s' feeds ended passed own (length feeds) (length feeds)
AdvancesEach R sources s s' feeds ended passed own (Err stop) = StopsAt R sources s s' feeds ended passed own stop

-- After n rounds: by their lengths, if each was advanced.
abbrev pub AdvancesRegions : {A : Type 0} → Readers → Sources A → (s s' : Scheduled) → List Feeding → List Bool → (ℕ → List (List Picture))
    → (ℕ → List Picture) → ℕ → Result Bool Stop → Type 0
AdvancesRegions R sources s s' feeds ended passed own n (Ok go) =
    WentOn R sources s s' feeds ended passed own (length feeds) (length feeds) × GoesBy length_refused ended n (Ok go)
AdvancesRegions R sources s s' feeds ended passed own n (Err stop) =
    StopsAt R sources s s' feeds ended passed own stop
    ⊎ (WentOn R sources s s' feeds ended passed own (length feeds) (length feeds) × GoesBy length_refused ended n (Err stop))

-- A schedule keeps its files, and the number of regions.
pub record SameFiles (s s' : Scheduled) : Type 0 where
  pub regions : s'.regions ≡ s.regions
  pub last : s'.last ≡ s.last
  pub count : length s'.gone ≡ length s.gone

-- ---- rounds

-- The result of a round that may be joined.
abbrev pub WritesRound : Bool → List Parts → List Plan → Merging → Option (List ℕ) → Option (List ℕ) → ℕ → ℕ
    → Result (Unit {0}) WriteError → Type 0
WritesRound true round done m bytes bytes' faults faults' answer = WritesJoined (map after_end_of_sequence round) done m bytes bytes' faults faults' answer
WritesRound false round done m bytes bytes' faults faults' answer = WritesOneRound round done m bytes bytes' faults faults' answer

-- The outcome of round n.
abbrev pub PlaysRound : {K : Type 0} → Bool → List Parts → List Plan → Merging → Change K → ℕ → Outcome → Type 0
PlaysRound joins round done m out n outcome =
    ComesOf (WritesRound joins round done m (out.bytes out.old) (out.bytes out.new) (out.faults out.old) (out.faults out.new)) n outcome

-- Region k has n pictures, and none if it is at its first file and took none.
abbrev pub HasTakenSo : ℕ → List (List Picture) → List Picture → Type 0
HasTakenSo n passed own = (length own + count_of passed ≡ n) × (own ≡ [] → passed ≡ [])

-- A schedule was asked whether regions are joined in each of n rounds, the last time of these files.
abbrev pub HasAsked : ℕ → Scheduled → Type 0
HasAsked n s = ((n ≡ 0) × (s.last ≡ None)) ⊎ ((0 < n) × (s.last ≡ Some s.gone))

-- n rounds were written.
pub record HasPlayed {A K : Type 0} (R : Readers) (corners : List Corner) (level : Option ℕ) (sources : Sources A) (out : Change K) (s : Scheduled)
    (feeds : List Feeding) (m : Merging) (n : ℕ) : Type 0 where
  pub passed : ℕ → List (List Picture)
  pub own : ℕ → List Picture
  pub placed : ArePlaced R sources s feeds passed own
  pub taken : (k : ℕ) → k < length feeds → HasTakenSo n (passed k) (own k)
  pub done : List Plan
  pub count : length done ≡ n
  pub stands : Stands m done
  pub plans : WhereAllTold R sources (λ files. ArePlayedOf corners level s.regions files done)
  pub gained : Gains out (bytes_of done)

-- What all rounds did to the files and to `out`, by their outcome.
abbrev pub PlaysRounds : {A K : Type 0} → Readers → List Corner → Option ℕ → List ℕ → Sources A → Change K → Outcome → Type 0
PlaysRounds R corners level regions sources out (Ok _) =
    OfEachSource sources IsReadOut × HasNoFault out
    × WhereAllTold R sources (λ files. (done : List Plan) × EndsPlayed corners level regions files done (Ok tt) × Gains out (bytes_of done))
PlaysRounds R corners level regions sources out (Err (Refused r place)) =
    (n : ℕ) × ArePlayedTo R sources (length corners) regions n place × HasNoFault out
    × WhereAllTold R sources (λ files. (done : List Plan) × (length done ≡ n) × EndsPlayed corners level regions files done (Err (Refused r place))
    × Gains out (bytes_of done))
PlaysRounds R corners level regions sources out (Err (ReadFault j)) =
    (j < length sources.old) × HasFault (source_at sources j) × HasNoFault out
    × ((n k m : ℕ) × ComesAt R sources (length corners) regions n k j m × Sees R (source_at sources j) m
    × WhereAllTold R sources (λ files. (done : List Plan) × (length done ≡ n) × ArePlayedOf corners level regions files done
    × NoneRefused k (region_streams (length corners) regions files) n × Gains out (bytes_of done)))
PlaysRounds R corners level regions sources out (Err WriteFault) =
    (n : ℕ) × ((k : ℕ) → k < length corners → ArePlayedFor R sources (n + 1) (files_of_region regions k)) × HasFault out
    × WhereAllTold R sources (λ files. (done : List Plan) × (p : Plan) × (length done ≡ n) × ArePlayedOf corners level regions files (p ∷ done)
    × GainsInto out (bytes_of done) (written (units_of p)))
PlaysRounds R corners level regions sources out (Err NoMemory) =
    OfEachSource sources IsRead × HasNoFault out
    × WhereAllTold R sources (λ files. (done : List Plan) × ArePlayedOf corners level regions files done × Gains out (bytes_of done))
PlaysRounds R corners level regions sources out (Err _) = ⊥
