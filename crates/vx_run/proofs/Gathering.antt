-- The lines of the units that are seen, gathered one after the other.
use Rattle.std.proofs.Common.{◌≡◌, ℕ, List, [], ◌∷◌, ◌++◌, ◌∙◌, Some, None, Result, Ok, Err, Bool, length, inl, inr, refl, sym, ap, subst, append-nil, append_assoc}
use Rattle.vx_annexb.specs.ByteStream.{UnitPlace, unit_bytes, FollowsFrom}
use Rattle.vx_annexb.specs.Held.{is_all}
use Rattle.vx_annexb.specs.Reading.{Reading as ReaderState}
use Rattle.vx_bits.specs.declared.refusal.Refusal.{Refusal}
use Rattle.vx_pic.specs.Readings.{Reading, pictures}
use Rattle.vx_pic.specs.Rules.{Readers, reads}
use Rattle.vx_pic.specs.Streams.{read_on, all_read}
use Rattle.vx_pic.specs.Bytes.{units_at}
use Rattle.vx_assemble.specs.Feed.{Feeding, HasFed, IsRefusedFor, by_bytes, by_unit, at_end}
use Rattle.vx_run.specs.declared.stop.Stop.{Stop}
use Rattle.vx_run.specs.declared.stop.Stop.TheVariants.{NotUnderstood, Mismatched, Refused, ReadFault, WriteFault, NoMemory}
use Rattle.vx_run.specs.Change.{Change, Gains, GainsFront}
use Rattle.vx_run.specs.Show.{Teller, lines_behind, told_lines}
use Rattle.vx_assemble.specs.Feed.{seen_of}
use Rattle.vx_run.specs.inner.Showing.{told_refused, EndsGathering, GathersNext, Gathers, HasGathered, TellsLast, WritesLines, ShowsLater}
use Rattle.vx_run.proofs.Lined.{read_behind, read_one, units_more, lines_more, lines_one}

-- units behind those before them are read so
pub later_read : (R : Readers) (b : List ℕ) (us vs : List UnitPlace) (before after : List Reading) → read_on R [] (units_at b us) ≡ all_read before
    → read_on R [] (units_at b (us ++ vs)) ≡ all_read after → read_on R before (units_at b vs) ≡ all_read after
later_read R b us vs before after front whole =
    sym (read_behind R (units_at b us) (units_at b vs) before front) ∙ ap (λ l. read_on R [] l) (sym (units_more b us vs)) ∙ whole

module _ (R : Readers) (T : Teller) (g : List ℕ) (units : List UnitPlace) (before : List Reading) where
  -- none yet
  pub HasGathered-none : (f : Feeding) (lines : List ℕ) (n : ℕ) → n ≡ length (pictures before) → HasFed R f g units before → HasGathered R T g units before f lines lines n
  HasGathered-none f lines n count fed = record {
    later = [];
    after = before;
    fed = subst (λ (us : List UnitPlace). HasFed R f g us before) (sym (append-nil units)) fed;
    lines = sym (append-nil lines);
    count = count;
  }

  -- one more
  pub HasGathered-more : (f0 f f' : Feeding) (old mid new : List ℕ) (n m : ℕ) → HasFed R f0 g units before → HasGathered R T g units before f old mid n
      → ((us : List UnitPlace) (b : List Reading) → HasFed R f g us b → n ≡ length (pictures b) → GathersNext R T g us b f' mid new (Ok (Some m))) → HasGathered R T g units before f' old new m
  HasGathered-more f0 f f' old mid new n m fed gathered step =
      let later = gathered.later in
      let after = gathered.after in
      let next = step (units ++ later) after gathered.fed gathered.count in
      let u = next.place in
      let b = seen_of g in
      let line = told_lines T b u next.reading after in
      let read : reads R after (unit_bytes b u) ≡ Ok next.reading = read_one R after next.reading (unit_bytes b u) (later_read R b (units ++ later) (u ∷ []) after (next.reading ∷ after) gathered.fed.readings next.fed.readings) in
      let behind : read_on R before (units_at b later) ≡ all_read after = later_read R b units later before after fed.readings gathered.fed.readings in
      let both : lines_behind R T b before (later ++ u ∷ []) ≡ lines_behind R T b before later ++ line = lines_more R T b before after later (u ∷ []) behind ∙ ap (λ l. lines_behind R T b before later ++ l) (lines_one R T b after u next.reading read) in
      record {
        later = later ++ u ∷ [];
        after = next.reading ∷ after;
        fed = subst (λ (us : List UnitPlace). HasFed R f' g us (next.reading ∷ after)) (append_assoc units later (u ∷ [])) next.fed;
        lines = next.lines ∙ ap (λ l. l ++ line) gathered.lines ∙ append_assoc old (lines_behind R T b before later) line ∙ ap (λ l. old ++ l) (sym both);
        count = next.count;
      }

  -- all that are seen
  pub Gathers-all : (f f' : Feeding) (old mid new : List ℕ) (n : ℕ) → HasGathered R T g units before f old mid n
      → ((us : List UnitPlace) (b : List Reading) → HasFed R f g us b → n ≡ length (pictures b) → GathersNext R T g us b f' mid new (Ok None)) → Gathers R T g units before f' old new (Ok n)
  Gathers-all f f' old mid new n gathered step =
      let next = step (units ++ gathered.later) gathered.after gathered.fed gathered.count in
      record {
        later = gathered.later;
        after = gathered.after;
        told = [];
        follow = next.0.stream.follow;
        readings = gathered.fed.readings;
        lines = next.1 ∙ gathered.lines ∙ ap (λ l. old ++ l) (sym (append-nil (lines_behind R T (seen_of g) before gathered.later)));
        ends = (next.0, gathered.count, refl);
      }

  -- up to a stop
  pub Gathers-stopped : (f f' : Feeding) (old mid new : List ℕ) (n : ℕ) (stop : Stop) → is_all f'.reader.splitter ≡ is_all f.reader.splitter → HasGathered R T g units before f old mid n
      → ((us : List UnitPlace) (b : List Reading) → HasFed R f g us b → n ≡ length (pictures b) → GathersNext R T g us b f' mid new (Err stop)) → Gathers R T g units before f' old new (Err stop)
  Gathers-stopped f f' old mid new n stop same gathered step =
      let next = step (units ++ gathered.later) gathered.after gathered.fed gathered.count in
      record {
        later = gathered.later;
        after = gathered.after;
        told = next.0;
        follow = subst (λ (a : Bool). FollowsFrom (seen_of g) a 0 (units ++ gathered.later)) (sym same) gathered.fed.read.stands.given;
        readings = gathered.fed.readings;
        lines = next.2 ∙ ap (λ l. l ++ next.0) gathered.lines ∙ append_assoc old (lines_behind R T (seen_of g) before gathered.later) next.0;
        ends = next.1;
      }

-- what is told behind the lines, by what the feed is refused for
last_refused : (R : Readers) (T : Teller) (f : ReaderState) (g : List ℕ) (units : List UnitPlace) (before : List Reading) (r : Refusal) (why : IsRefusedFor R f g units before r) (told : List ℕ) → told ≡ told_refused T why → TellsLast R T f g units before told
last_refused R T f g units before r (by_bytes stream) told is = inl is
last_refused R T f g units before r (by_unit u) told is = inr (r, u, is)
last_refused R T f g units before r (at_end e) told is = inl is

-- no memory was found
pub GathersNext-no_memory : (R : Readers) (T : Teller) (g : List ℕ) (units : List UnitPlace) (before : List Reading) (f : Feeding) (lines : List ℕ) → GathersNext R T g units before f lines lines (Err NoMemory)
GathersNext-no_memory R T g units before f lines = ([], refl, sym (append-nil lines))

-- by what ended the gathering
module _ (R : Readers) (T : Teller) (f : Feeding) (g : List ℕ) (units : List UnitPlace) (before : List Reading) (told : List ℕ) where
  last : (result : Result ℕ Stop) → EndsGathering R T f g units before told result → TellsLast R T f.reader g units before told
  last (Ok n) ends = inl ends.2
  last (Err NotUnderstood) ends = absurd ends
  last (Err (Mismatched x y)) ends = absurd ends
  last (Err (Refused refusal place)) ends = last_refused R T f.reader g units before refusal ends.0 told ends.2
  last (Err (ReadFault k)) ends = absurd ends
  last (Err WriteFault) ends = absurd ends
  last (Err NoMemory) ends = inl ends

  wrote : {K : Type 0} (lines : List ℕ) (out : Change K) (result : Result ℕ Stop) → EndsGathering R T f g units before told result → Gains out (lines ++ told) → WritesLines R T f g units before lines told out result
  wrote lines out (Ok n) ends gained = (gained, ends)
  wrote lines out (Err NotUnderstood) ends gained = (gained, ends)
  wrote lines out (Err (Mismatched x y)) ends gained = (gained, ends)
  wrote lines out (Err (Refused refusal place)) ends gained = (gained, ends)
  wrote lines out (Err (ReadFault k)) ends gained = (gained, ends)
  wrote lines out (Err WriteFault) ends gained = absurd ends
  wrote lines out (Err NoMemory) ends gained = (gained, ends)

module _ {K : Type 0} (R : Readers) (T : Teller) (g : List ℕ) (units : List UnitPlace) (before : List Reading) (f : Feeding) (lines : List ℕ) (out : Change K) (result : Result ℕ Stop) where
  -- the lines were written
  pub ShowsLater-written : Gathers R T g units before f [] lines result → Gains out lines → ShowsLater R T g units before f out result
  ShowsLater-written gathered gained = record {
    later = gathered.later;
    after = gathered.after;
    told = gathered.told;
    follow = gathered.follow;
    readings = gathered.readings;
    writes = wrote R T f g (units ++ gathered.later) gathered.after gathered.told (lines_behind R T (seen_of g) before gathered.later) out result gathered.ends (subst (λ (l : List ℕ). Gains out l) gathered.lines gained);
  }

  -- a write failed
  pub ShowsLater-cut : Gathers R T g units before f [] lines result → GainsFront out lines → ShowsLater R T g units before f out (Err WriteFault)
  ShowsLater-cut gathered front = record {
    later = gathered.later;
    after = gathered.after;
    told = gathered.told;
    follow = gathered.follow;
    readings = gathered.readings;
    writes = (subst (λ (l : List ℕ). GainsFront out l) gathered.lines front, last R T f g (units ++ gathered.later) gathered.after gathered.told result gathered.ends);
  }
