-- What is done to a source of a list is what is done to the source alone.
use Rattle.std.proofs.Common.{◌≡◌, ℕ, Bool, ◌<◌, List, Option, Some, Ok, Err, sym, refl, length, get_or, slice_get, slice_set}
use Rattle.std.proofs.Math.ListN.{length-set}
use Rattle.std.proofs.lemmas.List.{get_or-set_same}
use Rattle.std.proofs.lemmas.Option.{slice_get_read}
use Rattle.vx_run.specs.declared.stop.Stop.TheVariants.{NotUnderstood, Mismatched, Refused, ReadFault, WriteFault, NoMemory}
use Rattle.vx_run.specs.Change.{Change, change, sources_change, source_at}
use Rattle.vx_run.specs.Conclusion.{Outcome}
use Rattle.vx_pic.specs.Rules.{Readers}
use Rattle.vx_run.specs.Show.{Teller, teller, Shows, ShowsBy}
use Rattle.vx_run.specs.declared.extract.Task.{Task}
use Rattle.vx_run.specs.Extract.{StopsBehind, RefusesExtraction, by_ending, by_picture, without, Extracts, ExtractsBy, Checks, ChecksBy}
use Rattle.vx_bits.specs.declared.refusal.Refusal.{Refusal}
use Rattle.vx_pic.specs.Readings.{Picture}
use Rattle.vx_pic.specs.Bytes.{Ending}
use Rattle.vx_run.specs.declared.stop.Place.{Place}

-- the source at k of a list was shown
shows-moved : {S K : Type 0} (R : Readers) (T : Teller) (bytes : S → Option (List ℕ)) (faults : S → ℕ) (k : ℕ) (s s' : S) (l l' : List S) (out : Change K) (outcome : Outcome) → slice_get l k ≡ Some s → slice_get l' k ≡ Some s'
    → ShowsBy R T (change bytes faults s s') out outcome → ShowsBy R T (source_at (sources_change bytes faults l l') k) out outcome
shows-moved R T bytes faults k s s' l l' out (Ok _) old new shows = rw (old, new) shows
shows-moved R T bytes faults k s s' l l' out (Err (Refused refusal place)) old new shows = rw (old, new) shows
shows-moved R T bytes faults k s s' l l' out (Err (ReadFault j)) old new shows =
    let seen = shows.2 in
    (rw (old, new) shows.0, shows.1, record { given = seen.given; units = seen.units; before = seen.before; gave = rw (old, new) seen.gave; seen = seen.seen; read = seen.read; lines = seen.lines })
shows-moved R T bytes faults k s s' l l' out (Err WriteFault) old new shows =
    let front = shows.2 in (
      rw (old, new) shows.0,
      shows.1,
      record {
        given = front.given;
        before = front.before;
        last = front.last;
        ended = front.ended;
        gave = rw (old, new) front.gave;
        follow = front.follow;
        lines = front.lines;
        whole = λ all. rw new (front.whole all);
        near = front.near;
      },
      λ b units ending told is. shows.3 b units ending (rw old at told) is,
    )
shows-moved R T bytes faults k s s' l l' out (Err NoMemory) old new shows = rw (old, new) shows
shows-moved R T bytes faults k s s' l l' out (Err NotUnderstood) old new shows = shows
shows-moved R T bytes faults k s s' l l' out (Err (Mismatched x y)) old new shows = shows

pub Shows-at : {S K : Type 0} (fields inputs : Bool) (bytes : S → Option (List ℕ)) (faults : S → ℕ) (k : ℕ) (s s' : S) (l : List S) (out : Change K) (outcome : Outcome) → k < length l → s ≡ get_or l k s
    → Shows fields inputs (change bytes faults s s') out outcome → Shows fields inputs (source_at (sources_change bytes faults l (slice_set l k s')) k) out outcome
Shows-at fields inputs bytes faults k s s' l out outcome within is shows =
    let there : k < length (slice_set l k s') = rw (length-set l k s') within in
    (shows.0, λ R of. shows-moved R (teller fields inputs R of) bytes faults k s s' l (slice_set l k s') out outcome (slice_get_read l (length l) k s refl within is) (slice_get_read (slice_set l k s') (length (slice_set l k s')) k s' refl there (sym (get_or-set_same l k s' s' within))) (shows.1 R of))

-- reading of the source at k of a list stopped behind a picture, and what follows is refused
stops-moved : {S : Type 0} (R : Readers) (bytes : S → Option (List ℕ)) (faults : S → ℕ) (k : ℕ) (s s' : S) (l l' : List S) (p : Picture) (before : List Picture) → slice_get l k ≡ Some s → slice_get l' k ≡ Some s'
    → StopsBehind R (change bytes faults s s') p before → StopsBehind R (source_at (sources_change bytes faults l l') k) p before
stops-moved R bytes faults k s s' l l' p before old new stops = record {
  given = stops.given;
  units = stops.units;
  last = stops.last;
  earlier = stops.earlier;
  ended = stops.ended;
  gave = rw (old, new) stops.gave;
  follow = stops.follow;
  read = stops.read;
  done = stops.done;
  others = stops.others;
  whole = λ all. rw new (stops.whole all);
  near = stops.near;
}

refuses-moved : {S : Type 0} (R : Readers) (bytes : S → Option (List ℕ)) (faults : S → ℕ) (k : ℕ) (t : Task) (s s' : S) (l l' : List S) (ps : List Picture) (ending : Option Ending) (before : List Picture) (r : Refusal) (place : Place)
    → slice_get l k ≡ Some s → slice_get l' k ≡ Some s' → RefusesExtraction R t (change bytes faults s s') ps ending before r place → RefusesExtraction R t (source_at (sources_change bytes faults l l') k) ps ending before r place
refuses-moved R bytes faults k t s s' l l' ps ending before r place old new (by_ending all rules told) = by_ending all rules told
refuses-moved R bytes faults k t s s' l l' ps ending before r place old new (by_picture b stops at) = by_picture b (stops-moved R bytes faults k s s' l l' b.picture before old new stops) at
refuses-moved R bytes faults k t s s' l l' ps ending before r place old new (without all empty whole end is at) = without all empty whole (rw new end) is at

-- a subpicture of the source at k of a list was extracted
extracts-moved : {S K : Type 0} (R : Readers) (bytes : S → Option (List ℕ)) (faults : S → ℕ) (k : ℕ) (t : Task) (s s' : S) (l l' : List S) (out : Change K) (outcome : Outcome) → slice_get l k ≡ Some s → slice_get l' k ≡ Some s'
    → ExtractsBy R t (change bytes faults s s') out outcome → ExtractsBy R t (source_at (sources_change bytes faults l l') k) out outcome
extracts-moved R bytes faults k t s s' l l' out (Ok _) old new does = rw (old, new) does
extracts-moved R bytes faults k t s s' l l' out (Err (Refused refusal place)) old new does = (
  rw (old, new) does.0,
  does.1,
  rw (old, new) does.2,
  λ b ps ending told are.
      let is = does.3 b ps ending (rw old at told) are in
      (is.0, refuses-moved R bytes faults k t s s' l l' ps ending is.0 refusal place old new is.1, is.2),
)
extracts-moved R bytes faults k t s s' l l' out (Err (ReadFault j)) old new does =
    let seen = does.2.1 in
    (rw (old, new) does.0, does.1, (does.2.0, record { given = seen.given; gave = rw (old, new) seen.gave; seen = seen.seen; rules = seen.rules }, does.2.2))
extracts-moved R bytes faults k t s s' l l' out (Err WriteFault) old new does =
    let front = does.2 in (
      rw (old, new) does.0,
      does.1,
      record {
        picture = front.picture;
        before = front.before;
        stops = stops-moved R bytes faults k s s' l l' front.picture front.before old new front.stops;
        rules = front.rules;
        first = λ b ps ending told are. front.first b ps ending (rw old at told) are;
        breaks = front.breaks;
      },
    )
extracts-moved R bytes faults k t s s' l l' out (Err NoMemory) old new does = rw (old, new) does
extracts-moved R bytes faults k t s s' l l' out (Err NotUnderstood) old new does = does
extracts-moved R bytes faults k t s s' l l' out (Err (Mismatched x y)) old new does = does

-- or was found to be there
checks-moved : {S K : Type 0} (R : Readers) (bytes : S → Option (List ℕ)) (faults : S → ℕ) (k : ℕ) (t : Task) (s s' : S) (l l' : List S) (out : Change K) (outcome : Outcome) → slice_get l k ≡ Some s → slice_get l' k ≡ Some s'
    → ChecksBy R t (change bytes faults s s') out outcome → ChecksBy R t (source_at (sources_change bytes faults l l') k) out outcome
checks-moved R bytes faults k t s s' l l' out (Ok _) old new does = rw (old, new) does
checks-moved R bytes faults k t s s' l l' out (Err (Refused refusal place)) old new does = (
  rw (old, new) does.0,
  does.1,
  rw (old, new) does.2,
  λ b ps ending told are.
      let is = does.3 b ps ending (rw old at told) are in
      (is.0, refuses-moved R bytes faults k t s s' l l' ps ending is.0 refusal place old new is.1),
)
checks-moved R bytes faults k t s s' l l' out (Err (ReadFault j)) old new does =
    let seen = does.3.1 in
    (rw (old, new) does.0, does.1, does.2, (does.3.0, record { given = seen.given; gave = rw (old, new) seen.gave; seen = seen.seen; rules = seen.rules }))
checks-moved R bytes faults k t s s' l l' out (Err WriteFault) old new does = rw (old, new) does
checks-moved R bytes faults k t s s' l l' out (Err NoMemory) old new does = rw (old, new) does
checks-moved R bytes faults k t s s' l l' out (Err NotUnderstood) old new does = does
checks-moved R bytes faults k t s s' l l' out (Err (Mismatched x y)) old new does = does

module _ {S K : Type 0} (bytes : S → Option (List ℕ)) (faults : S → ℕ) (k : ℕ) (t : Task) (s s' : S) (l : List S) (out : Change K) (outcome : Outcome) (within : k < length l) (is : s ≡ get_or l k s) where
  there : slice_get (slice_set l k s') k ≡ Some s'
  there =
      let fits : k < length (slice_set l k s') = rw (length-set l k s') within in
      slice_get_read (slice_set l k s') (length (slice_set l k s')) k s' refl fits (sym (get_or-set_same l k s' s' within))

  pub Extracts-at : Extracts t (change bytes faults s s') out outcome → Extracts t (source_at (sources_change bytes faults l (slice_set l k s')) k) out outcome
  Extracts-at does = (does.0, λ R of. extracts-moved R bytes faults k t s s' l (slice_set l k s') out outcome (slice_get_read l (length l) k s refl within is) there (does.1 R of))

  pub Checks-at : Checks t (change bytes faults s s') out outcome → Checks t (source_at (sources_change bytes faults l (slice_set l k s')) k) out outcome
  Checks-at does = (does.0, λ R of. checks-moved R bytes faults k t s s' l (slice_set l k s') out outcome (slice_get_read l (length l) k s refl within is) there (does.1 R of))
