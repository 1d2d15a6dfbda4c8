-- What came of a region at one of its files, as the functions of `play` answer it.
use Rattle.std.proofs.Common.{◌≡◌, ◌≢◌, ℕ, ◌+◌, ◌^◌, ◌<◌, ◌≤◌, List, ◌∙◌, Option, Some, Result, Ok, Err, Bool, true, false, length, get_or, slice_get, slice_set, sym, ap, subst, arith}
use Rattle.std.specs.Prelude.{slice_index}
use Rattle.std.proofs.lemmas.List.{get_or-set_same, get_or-set_other, length-set}
use Rattle.vx_annexb.specs.ByteStream.{UnitPlace}
use Rattle.vx_annexb.specs.Reading.{LastWasNeeded}
use Rattle.vx_io.specs.Listed.{bytes_at}
use Rattle.vx_pic.specs.Readings.{Picture, Reading}
use Rattle.vx_pic.specs.Rules.{Readers}
use Rattle.vx_assemble.specs.Feed.{Feeding, EndsAtEnd, HasFed}
use Rattle.vx_play.specs.Scheduled.{Scheduled, files_of_region}
use Rattle.vx_run.specs.declared.stop.Stop.{Stop}
use Rattle.vx_run.specs.declared.stop.Stop.TheVariants.{NoMemory}
use Rattle.vx_run.specs.Change.{source_at, sources_change}
use Rattle.vx_run.specs.inner.Advancing.{AdvancesOf, IsUnfed, LendsLatest, Waits}
use Rattle.vx_run.specs.inner.Playing.{GoesOn, IsOn, SameBut}
use Rattle.vx_run.proofs.Advancing.{advanced_at, end_after, taken_ended}
use Rattle.vx_run.proofs.Indexed.{set_other}
use Rattle.vx_run.proofs.RegionFiles.{current_file, files_are}
use Rattle.vx_run.proofs.RegionSteps.{on_next, on_read, on_stops, on_takes, waits_there}
use Rattle.vx_run.proofs.Sources.{Advanced}

-- ---- one more file has ended

module _ (s s' s'' : Scheduled) (k : ℕ) (but : SameBut k s s') (is : s'' ≡ record s' { gone = slice_set s'.gone k (slice_index s'.gone k + 1) }) where
  pub one_gone : SameBut k s s''
  one_gone = record {
    regions = ap (λ (x : Scheduled). x.regions) is ∙ but.regions;
    last = ap (λ (x : Scheduled). x.last) is ∙ but.last;
    count = ap (λ (x : Scheduled). length x.gone) is ∙ length-set s'.gone k (slice_index s'.gone k + 1) ∙ but.count;
    others = λ i other. ap (λ (x : Scheduled). slice_index x.gone i) is ∙ get_or-set_other s'.gone k i (slice_index s'.gone k + 1) 0 other ∙ but.others i other;
  }

  pub gone_more : k < length s.gone → slice_index s''.gone k ≡ slice_index s'.gone k + 1
  gone_more within = ap (λ (x : Scheduled). slice_index x.gone k) is ∙ get_or-set_same s'.gone k (slice_index s'.gone k + 1) 0 (omega (arith, within, but.count))

-- ---- the file that it is at

module _ (s s' : Scheduled) (k file : ℕ) (but : SameBut k s s') (is : slice_get (files_of_region s'.regions k) (slice_index s'.gone k) ≡ Some file) where
  pub current_here : slice_get (files_of_region s.regions k) (slice_index s'.gone k) ≡ Some file
  current_here = subst (λ (r : List ℕ). slice_get (files_of_region r k) (slice_index s'.gone k) ≡ Some file) but.regions is

  pub current_within : file < length s.regions
  current_within = (current_file s.regions k (slice_index s'.gone k) file current_here).0

  -- files of other regions stay
  pub rest_stays : {A : Type 0} (l : List A) (x : A) (j : ℕ) → slice_index s.regions j ≢ k → slice_get (slice_set l file x) j ≡ slice_get l j
  rest_stays l x j other = set_other l j file x (λ same. other (ap (slice_index s.regions) same ∙ (current_file s.regions k (slice_index s'.gone k) file current_here).1))

  module _ {A : Type 0} (bytes : A → Option (List ℕ)) (faults : A → ℕ) (R : Readers) (first l : List A) (src src' : A) (within : file < length l) (at : src ≡ get_or l file src) (f f' : Feeding)
      (ends : EndsAtEnd f (bytes src) → EndsAtEnd f' (bytes src')) (passed : List (List Picture)) (own : List Picture)
      (on : IsOn R (sources_change bytes faults first l) (files_of_region s.regions k) (slice_index s.gone k) (slice_index s'.gone k) f passed own) where
    abbrev After : List A
    After = slice_set l file src'

    abbrev Js : List ℕ
    Js = files_of_region s.regions k

    abbrev Goes : Result Bool Stop → Type 0
    Goes result = GoesOn R (sources_change bytes faults first After) Js (slice_index s.gone k) (slice_index s'.gone k) f' passed own result

    -- what was answered of the file
    abbrev Answered : Result Bool Stop → Type 0
    Answered result = (g : List ℕ) (units : List UnitPlace) (readings : List Reading) → HasFed R f g units readings → LastWasNeeded g units
        → AdvancesOf file R g units readings f' (bytes src) (bytes src') (faults src) (faults src') result

    others_stay : (i : ℕ) → i ≢ file → slice_get After i ≡ slice_get l i
    others_stay i other = set_other l i file src' other

    waits : Waits R (source_at (sources_change bytes faults first l) file) f on.others
    waits = waits_there bytes faults R first l After s.regions k (length s.regions) 0 Js (files_are s.regions k) (slice_index s.gone k) (slice_index s'.gone k) f f' passed own on file current_here others_stay

    file_end : EndsAtEnd f' (bytes_at bytes After file)
    file_end = end_after bytes l file src src' within at f f' ends (taken_ended bytes faults R first l file f on.others waits)

    advanced : (result : Result Bool Stop) → Answered result → Advanced bytes faults R first l After file f f' on.others waits result
    advanced result answer = advanced_at bytes faults R first l file src src' within at f f' on.others waits result answer

    pub region_stops : (stop : Stop) → Answered (Err stop) → Goes (Err stop)
    region_stops stop answer = on_stops bytes faults R first l After s.regions k (length s.regions) 0 Js (files_are s.regions k) (slice_index s.gone k) (slice_index s'.gone k) f f' passed own on file current_here others_stay file_end stop (advanced (Err stop) answer)

    pub region_takes : LendsLatest f' → f'.units ≤ 2 ^ 40 → Answered (Ok true) → Goes (Ok true)
    region_takes lends few answer = on_takes bytes faults R first l After s.regions k (length s.regions) 0 Js (files_are s.regions k) (slice_index s.gone k) (slice_index s'.gone k) f f' passed own on file current_here others_stay file_end lends few (advanced (Ok true) answer)

    -- there was no memory for its next file
    pub region_read : Answered (Ok false) → Goes (Err NoMemory)
    region_read answer = on_read bytes faults R first l After s.regions k (length s.regions) 0 Js (files_are s.regions k) (slice_index s.gone k) (slice_index s'.gone k) f f' passed own on file current_here others_stay file_end (advanced (Ok false) answer)

    pub region_next : (new : Feeding) → IsUnfed new → (now : ℕ) → now ≡ slice_index s'.gone k + 1 → Answered (Ok false) → IsOn R (sources_change bytes faults first After) Js (slice_index s.gone k) now new passed own
    region_next new unfed now more answer =
        subst (λ (n : ℕ). IsOn R (sources_change bytes faults first After) Js (slice_index s.gone k) n new passed own) (sym more)
        (on_next bytes faults R first l After s.regions k (length s.regions) 0 Js (files_are s.regions k) (slice_index s.gone k) (slice_index s'.gone k) f f' passed own on file current_here others_stay file_end new unfed (advanced (Ok false) answer))
