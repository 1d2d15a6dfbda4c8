-- Pictures of a source that are taken one by one, and all the pictures of the bytes that it tells.
use Rattle.std.proofs.Common.{◌≡◌, ℕ, ◌+◌, ◌<◌, List, [], ◌∷◌, ◌++◌, ◌∙◌, nat_le, Option, Some, None, Result, Ok, Err, Bool, true, false, length, drop, inl, inr, sym, ap, refl, subst, arith, length-append}
use Rattle.std.specs.Io.KnownBytes.{Consumes, IsAtEnd}
use Rattle.std.proofs.KnownBytes.{Consumes-nil, Consumes-trans}
use Rattle.vx_bits.specs.declared.refusal.Refusal.{Refusal}
use Rattle.vx_io.specs.Faults.{Rose}
use Rattle.vx_annexb.specs.ByteStream.{source_limit, UnitPlace, IsStream, FollowsFrom}
use Rattle.vx_annexb.specs.Held.{is_all}
use Rattle.vx_annexb.specs.Reading.{Reading as ReaderState, LastWasNeeded}
use Rattle.vx_annexb.specs.declared.unit_reader.Closed.TheVariants.{End, TooLong}
use Rattle.vx_annexb.specs.declared.unit_reader.ReadFault.{ReadFault}
use Rattle.vx_pic.specs.declared.accepted.Accepted.TheVariants as accepted
use Rattle.vx_pic.specs.Readings.{Begun, Slice, Reading, Picture, pictures}
use Rattle.vx_pic.specs.Rules.{Readers}
use Rattle.vx_pic.specs.Streams.{StreamReading, read_on, all_read, pictures_of}
use Rattle.vx_pic.specs.Bytes.{Ending, units_at, ArePictures, AreSourcePictures, AreSeenPictures}
use Rattle.vx_pic.specs.H266.{AreOfH266}
use Rattle.vx_pic.specs.Finished.{IsSoundPicture, AreFinished}
use Rattle.vx_pic.specs.Written.{HeadReads}
use Rattle.vx_pic.specs.Whole.{HasEach, subpic_slices, SubpicturesHaveSlices, SlicesAreShown}
use Rattle.vx_pic.specs.PictureLayout.{IsLayoutAnswer}
use Rattle.vx_pic.specs.Parts.{SlicePart, slice_part, parts_of}
use Rattle.vx_pic.proofs.Finishing.{pictures_finished}
use Rattle.vx_layout.specs.declared.numbers.Numbers.{Numbers}
use Rattle.std.proofs.lemmas.List.{length-map}
use Rattle.std.proofs.lemmas.List.FromFn.{length-map-range_with_len}
use Rattle.vx_extract.specs.Written.{slice_alone, parts_in}
use Rattle.vx_sps.specs.Subpictures.{rect_of, subpics_of}
use Rattle.std.specs.List.{AllByRecursion}
use Rattle.vx_extract.specs.Extracting.{HasSlice}
use Rattle.vx_pic.proofs.Going.{pictures_stay}
use Rattle.vx_pic.proofs.Stream.{pictures_unique}
use Rattle.vx_assemble.specs.declared.feed.FeedFault.{FeedFault}
use Rattle.vx_assemble.specs.declared.feed.FeedFault.TheVariants as faults
use Rattle.vx_assemble.specs.declared.feed.Step.{Step}
use Rattle.vx_assemble.specs.declared.feed.Step.TheVariants as steps
use Rattle.vx_assemble.specs.Feed.{Feeding, EndsAtEnd, HasFed, IsRefusedFor, by_bytes, by_unit, at_end, Advances, ReadsOn}
use Rattle.vx_assemble.specs.Held.{HasPicture, last_told}
use Rattle.vx_assemble.proofs.Advancing.{unit_done}
use Rattle.vx_run.specs.Change.{Change, change, HasNoFault, HasFault, GivesFront}
use Rattle.vx_run.specs.Show.{IsShown}
use Rattle.vx_assemble.specs.Feed.{seen_of}
use Rattle.vx_run.specs.Extract.{StopsBehind, WhereTold, BeginsWithPictures}
use Rattle.vx_run.specs.inner.Extracting.{HaveSlices, HasTaken, HasTakenOne}
use Rattle.vx_run.proofs.Lined.{all_length, few_pictures, units_more}
use Rattle.vx_run.proofs.Told.{IsGiven, all_given, first_of_given, units_of_given, refused_at, ends_by_framing, ends_by_length, ends_lacking, ends_by_unit}
use Rattle.vx_run.proofs.Showing.{is_end, has_ended, is_long, is_given}

-- the first of units that follow one another do
pub follows_front : (b : List ℕ) (all : Bool) (p : ℕ) (us vs : List UnitPlace) → FollowsFrom b all p (us ++ vs) → FollowsFrom b all p us
follows_front b all p [] vs f = tt
follows_front b all p (u ∷ us) vs f = (f.0, f.1, follows_front b all u.end us vs f.2)

-- ---- all pictures of the bytes that a source tells, by what was given of them

module _ (R : Readers) (b given : List ℕ) (us : List UnitPlace) (readings : List Reading) (qs : List Picture) (ending : Option Ending) (are : AreSourcePictures R b qs ending) where
  -- those of the units that are seen in it are the first
  pub begins_with : (all : Bool) → IsGiven b given all → FollowsFrom (seen_of given) all 0 us → read_on R [] (units_at (seen_of given) us) ≡ all_read readings → BeginsWithPictures qs (pictures readings)
  begins_with all is follow read =
      let first = first_of_given b given all us are.places are.framing is follow are.stream in
      let here : pictures_of R (units_at (seen_of b) us) ≡ pictures readings = ap (pictures_of R) (units_of_given b given all us is follow) ∙ ap (λ (o : StreamReading). pictures o.before) read in
      let stay = pictures_stay R (units_at (seen_of b) us) (units_at (seen_of b) first.0) in
      (stay.0, are.done ∙ ap (λ vs. pictures_of R (units_at (seen_of b) vs)) first.1 ∙ ap (pictures_of R) (units_more (seen_of b) us first.0) ∙ stay.1 ∙ ap (λ ps. stay.0 ++ ps) here)

  -- where all was given, all of them
  pub all_of_given : (ps : List Picture) (e : Option Ending) → IsGiven b given true → ArePictures R (seen_of given) true ps e → (qs ≡ ps) × (ending ≡ e)
  all_of_given ps e is whole =
      let same = all_given b given is in
      let here = subst (λ (w : Bool). ArePictures R (seen_of given) w qs ending) same.1 (subst (λ (l : List ℕ). ArePictures R (seen_of l) (nat_le (length b) source_limit) qs ending) same.0 are) in
      pictures_unique R (seen_of given) true qs ps ending e here whole

  shown : IsShown R b are.places ending
  shown = record { framing = are.framing; stream = are.stream; ends = are.ends }

  -- where there are no further units
  same_units : (all : Bool) → IsGiven b given all → FollowsFrom (seen_of given) all 0 us → read_on R [] (units_at (seen_of given) us) ≡ all_read readings → are.places ≡ us → qs ≡ pictures readings
  same_units all is follow read same =
      are.done ∙ ap (λ vs. pictures_of R (units_at (seen_of b) vs)) same ∙ ap (pictures_of R) (units_of_given b given all us is follow) ∙ ap (λ (o : StreamReading). pictures o.before) read

  -- up to a refusal
  pub refused_behind : (f : ReaderState) (r : Refusal) (all : Bool) → is_all f.splitter ≡ all → (f.closed ≡ Some End → all ≡ true) → (f.closed ≡ Some TooLong → (all ≡ false) × (length given ≡ source_limit + 1))
      → IsGiven b given all → FollowsFrom (seen_of given) all 0 us → read_on R [] (units_at (seen_of given) us) ≡ all_read readings
      → IsRefusedFor R f given us readings r → (qs ≡ pictures readings) × (ending ≡ refused_at (length us) r)
  refused_behind f r all same end long is follow read (by_bytes (inl stream)) =
      let one = ends_by_framing R b given us are.places readings ending shown all r is read (subst (λ (a : Bool). IsStream (seen_of given) a us (Some r)) same stream) in
      (same_units all is follow read one.0, one.1)
  refused_behind f r all same end long is follow read (by_bytes (inr too)) =
      let at = long too.1 in
      let one = ends_by_length R b given us are.places readings ending shown r too.2 (subst (λ (a : Bool). IsGiven b given a) at.0 is) at.1 read too.0 in
      (same_units all is follow read one.0, one.1)
  refused_behind f r all same end long is follow read (by_unit u) =
      let one = ends_by_unit R b given us are.places readings ending shown all u.unit r is (subst (λ (a : Bool). FollowsFrom (seen_of given) a 0 (us ++ u.unit ∷ [])) same u.follows) follow read u.refused in
      (are.done ∙ ap (λ (o : StreamReading). pictures o.before) one.2, one.0)
  refused_behind f r all same end long is follow read (at_end e) =
      let one = ends_lacking R b given us are.places readings ending shown r e.lacks (subst (λ (a : Bool). IsGiven b given a) (end e.ended) is) read e.stream in
      (same_units all is follow read one.0, one.1)

-- ---- slices

head_layout : (R : Readers) (unit : Option (List ℕ)) (b : Begun) (first : Slice) → HeadReads R unit b first → R.layout b.sps b.pps ≡ Ok b.layout
head_layout R (Some u) b first head = head.1.layout
head_layout R None b first head = head.0.layout

-- as many subpictures as the SPS says
as_many : (R : Readers) → AreOfH266 R → (earlier : List Picture) (p : Picture) → IsSoundPicture R earlier p → length p.begun.layout.subpics ≡ subpics_of p.begun.sps
as_many R of earlier p sound =
    let s = p.begun.sps in
    let answer = subst (λ (x : Result Numbers Refusal). IsLayoutAnswer s p.begun.pps x) (head_layout R p.begun.unit p.begun sound.first sound.head) (of.layout s p.begun.pps) in
    ap (λ (n : Numbers). length n.subpics) answer.1 ∙ length-map-range_with_len (rect_of s) 0 (subpics_of s)

module _ (law : SubpicturesHaveSlices) (shown : SlicesAreShown) (R : Readers) (of : AreOfH266 R) where
  has_slice : (earlier : List Picture) (p : Picture) → IsSoundPicture R earlier p → HasEach p → (k : ℕ) → k < subpics_of p.begun.sps → HasSlice k (parts_of p)
  has_slice earlier p sound each k within =
      let some = each k (omega (arith, within, as_many R of earlier p sound)) in
      let here = ap (λ (l : List SlicePart). length l) (shown (parts_of p) p k refl) in
      omega (arith, some, here, length-map (subpic_slices p k) (slice_part p.begun), length-map (parts_in (parts_of p) k) slice_alone)

  each_slice : (ps : List Picture) → AllByRecursion HasEach ps → AreFinished R ps → AllByRecursion (λ p. (k : ℕ) → k < subpics_of p.begun.sps → HasSlice k (parts_of p)) ps
  each_slice [] each done = tt
  each_slice (p ∷ ps) each done = (has_slice ps p done.0 each.0, each_slice ps each.1 done.2)

  -- those that were read have them
  pub have_slices : HaveSlices R
  have_slices units = each_slice (pictures_of R units) (law R units of) (pictures_finished R units)

-- ---- what an answer comes to

-- of a source that had the same bytes and the same count
pub advances_at : (R : Readers) (g : List ℕ) (units : List UnitPlace) (readings : List Reading) (f : Feeding) {l m l' : Option (List ℕ)} {n k n' : ℕ} {result : Result Step FeedFault}
    → Advances R g units readings f l l' n n' result → l ≡ m → n ≡ k → Advances R g units readings f m l' k n' result
advances_at R g units readings f {l = l} {l' = l'} {k = k} {n' = n'} {result = result} h p q =
    subst (λ (x : Option (List ℕ)). Advances R g units readings f x l' k n' result) p (subst (λ (y : ℕ). Advances R g units readings f l l' y n' result) q h)

pub reads_at : (R : Readers) (g : List ℕ) (units : List UnitPlace) (readings : List Reading) (f : Feeding) (l' : Option (List ℕ)) (n' : ℕ) (result : Result (Unit {0}) ReadFault) {l m : Option (List ℕ)} {n k : ℕ}
    → ReadsOn R g units readings f l l' n n' result → l ≡ m → n ≡ k → ReadsOn R g units readings f m l' k n' result
reads_at R g units readings f l' n' result {l = l} {k = k} h p q =
    subst (λ (x : Option (List ℕ)). ReadsOn R g units readings f x l' k n' result) p (subst (λ (y : ℕ). ReadsOn R g units readings f l l' y n' result) q h)

-- ---- from picture to picture

-- what completes a picture is read of units
some_readings : (later before : List Reading) (p : Picture) → pictures (later ++ before) ≡ p ∷ pictures before → 0 < length later
some_readings [] before p is = absurd (omega (arith, ap (λ (l : List Picture). length l) is))
some_readings (r ∷ later) before p is = omega arith

-- where a unit was told to complete a picture, it was the last one that completed the latest
completed_last : (readings : List Reading) (p : Picture) (ps : List Picture) → last_told readings ≡ accepted.PictureDone → pictures readings ≡ p ∷ ps
    → (last : Reading) × (earlier : List Reading) × (readings ≡ last ∷ earlier) × (pictures earlier ≡ ps)
completed_last [] p ps done are = absurd (let e : accepted.Nothing ≡ accepted.PictureDone = done in cc)
completed_last (r ∷ earlier) p ps done are = (r, earlier, refl, ap (λ (l : List Picture). drop 1 l) (sym (unit_done r earlier done).1 ∙ are))

module _ {A : Type 0} (left : A → Option (List ℕ)) (reads : A → ℕ) (R : Readers) where
  abbrev Source : A → A → Change A
  Source = change left reads

  -- none was taken
  pub taken_none : (s : A) (f : Feeding) → f.reader.closed ≡ None → HasFed R f [] [] [] → LastWasNeeded [] [] → HasTaken R (Source s s) f []
  taken_none s f going fed needed = record {
    given = [];
    units = [];
    readings = [];
    kept = refl;
    gave = Consumes-nil (left s);
    fed = fed;
    needed = needed;
    done = refl;
    ended = λ end. let no = sym going ∙ end in absurd (cc);
  }

  -- those that were taken are the first ones
  pub taken_first : (s s' : A) (f : Feeding) (ps : List Picture) → HasTaken R (Source s s') f ps → WhereTold R (Source s s') (λ qs e. BeginsWithPictures qs ps)
  taken_first s s' f ps t b qs e told are =
      let given = is_given b t.given t.units f.reader (left s) (left s') told t.gave t.fed.read t.ended in
      subst (λ (l : List Picture). BeginsWithPictures qs l) t.done (begins_with R b t.given t.units t.readings qs e are (is_all f.reader.splitter) given t.fed.read.stands.given t.fed.readings)

  -- the last unit completed the last one
  pub taken_stops : (s s' : A) (f : Feeding) (ps : List Picture) (one : HasTakenOne R (Source s s') f ps) → StopsBehind R (Source s s') one.picture ps
  taken_stops s s' f ps one =
      let t = one.taken in
      record {
        given = t.given;
        units = t.units;
        last = one.last;
        earlier = one.earlier;
        ended = is_all f.reader.splitter;
        gave = t.gave;
        follow = t.fed.read.stands.given;
        read = t.fed.readings ∙ ap (λ (l : List Reading). all_read l) one.latest;
        done = ap (λ (l : List Reading). pictures l) (sym one.latest) ∙ t.done;
        others = one.others;
        whole = λ all. t.ended (is_end f.reader.closed f.reader t.fed.read.closes all).0;
        near = one.near;
      }

  -- no more were than units
  pub taken_below : (s s' : A) (f : Feeding) (ps : List Picture) → HasTakenOne R (Source s s') f ps → length ps < f.units
  taken_below s s' f ps one =
      let t = one.taken in
      let counted = all_length R (seen_of t.given) t.units t.readings t.fed.readings in
      omega (arith, few_pictures t.readings, ap (λ (l : List Picture). length l) t.done, counted, t.fed.count)

  -- the last one has a slice of each of its subpictures
  pub taken_slice : (s s' : A) (f : Feeding) (ps : List Picture) (one : HasTakenOne R (Source s s') f ps) → HaveSlices R → (k : ℕ) → k < subpics_of one.picture.begun.sps → HasSlice k (parts_of one.picture)
  taken_slice s s' f ps one have k within =
      let t = one.taken in
      let units = units_at (seen_of t.given) t.units in
      let are : pictures_of R units ≡ one.picture ∷ ps = ap (λ (o : StreamReading). pictures o.before) t.fed.readings ∙ t.done in
      (subst (λ (l : List Picture). AllByRecursion (λ p. (j : ℕ) → j < subpics_of p.begun.sps → HasSlice j (parts_of p)) l) are (have units)).0 k within

  module _ (s s' s'' : A) (f f' : Feeding) (ps : List Picture) (t : HasTaken R (Source s s') f ps) where
    -- one more was
    pub takes_one : EndsAtEnd f' (left s'') → HasPicture f'.assembler → Advances R t.given t.units t.readings f' (left s') (left s'') (reads s') (reads s'') (Ok steps.Picture) → HasTakenOne R (Source s s'') f' ps
    takes_one ended has step =
        let at = step.behind in
        let new = at.1 in
        let last = completed_last (new.0 ++ t.readings) new.2.0 (pictures t.readings) (sym new.1.fed.stands.told ∙ has) new.2.1 in
        record {
          picture = new.2.0;
          taken = record {
            given = t.given ++ step.piece;
            units = t.units ++ new.1.later;
            readings = new.0 ++ t.readings;
            kept = at.0 ∙ t.kept;
            gave = Consumes-trans (left s) (left s') (left s'') t.given step.piece t.gave step.consumed;
            fed = new.1.fed;
            needed = new.1.needed;
            done = new.2.1 ∙ ap (λ l. new.2.0 ∷ l) t.done;
            ended = ended;
          };
          last = last.0;
          earlier = last.1;
          latest = last.2;
          others = last.3 ∙ t.done;
          near = new.3;
        }

    -- all were
    pub takes_end : EndsAtEnd f' (left s'') → Advances R t.given t.units t.readings f' (left s') (left s'') (reads s') (reads s'') (Ok steps.End)
        → HasNoFault (Source s s'') × GivesFront (Source s s'') × IsAtEnd (left s'') × WhereTold R (Source s s'') (λ qs e. (qs ≡ ps) × (e ≡ None))
    takes_end ended step =
        let at = step.behind in
        let g = t.given ++ step.piece in
        let gone = at.1.1 in
        let gave = Consumes-trans (left s) (left s') (left s'') t.given step.piece t.gave step.consumed in
        let all = has_ended f'.reader g (t.units ++ gone.later) gone.fed.read at.3 in (
          at.0 ∙ t.kept,
          (g, gave),
          ended at.3,
          λ b qs e told are.
              let given = is_given b g (t.units ++ gone.later) f'.reader (left s) (left s'') told gave gone.fed.read ended in
              let one = all_of_given R b g (t.units ++ gone.later) (at.1.0 ++ t.readings) qs e are (pictures t.readings) None (subst (λ (a : Bool). IsGiven b g a) all given) at.2 in
              (one.0 ∙ t.done, one.1),
        )

    -- what follows is refused
    pub takes_refused : EndsAtEnd f' (left s'') → (r : Refusal) → Advances R t.given t.units t.readings f' (left s') (left s'') (reads s') (reads s'') (Err (faults.Refused r))
        → HasNoFault (Source s s'') × GivesFront (Source s s'') × WhereTold R (Source s s'') (λ qs e. (qs ≡ ps) × (e ≡ refused_at f'.units r))
    takes_refused ended r step =
        let at = step.behind in
        let g = t.given ++ step.piece in
        let stop = at.2 in
        let us = t.units ++ stop.later in
        let gave = Consumes-trans (left s) (left s') (left s'') t.given step.piece t.gave step.consumed in (
          at.0 ∙ t.kept,
          (g, gave),
          λ b qs e told are.
              let given = is_given b g (us ++ stop.more) f'.reader (left s) (left s'') told gave stop.read ended in
              let one = refused_behind R b g us (stop.readings ++ t.readings) qs e are f'.reader r (is_all f'.reader.splitter) refl
              (has_ended f'.reader g (us ++ stop.more) stop.read) (is_long f'.reader g (us ++ stop.more) stop.read)
              given (follows_front (seen_of g) (is_all f'.reader.splitter) 0 us stop.more stop.read.stands.given) stop.were stop.refused in
              (one.0 ∙ stop.same ∙ t.done, one.1 ∙ ap (λ n. refused_at n r) (sym stop.count)),
        )

    -- a read failed
    pub takes_unread : Advances R t.given t.units t.readings f' (left s') (left s'') (reads s') (reads s'') (Err faults.SourceFailed)
        → HasFault (Source s s'') × ((given : List ℕ) × Consumes (left s) (left s'') given × AreSeenPictures R (seen_of given) ps)
    takes_unread step =
        let at = step.behind in (
          subst (λ (k : ℕ). Rose k (reads s'')) t.kept at.0,
          (
            t.given ++ step.piece,
            Consumes-trans (left s) (left s') (left s'') t.given step.piece t.gave step.consumed,
            subst (λ (l : List Picture). AreSeenPictures R (seen_of (t.given ++ step.piece)) l) t.done at.1,
          ),
        )

    -- there was no memory
    pub takes_none : Advances R t.given t.units t.readings f' (left s') (left s'') (reads s') (reads s'') (Err faults.Memory)
        → HasNoFault (Source s s'') × GivesFront (Source s s'') × WhereTold R (Source s s'') (λ qs e. BeginsWithPictures qs ps)
    takes_none step = (
      step.behind ∙ t.kept,
      (t.given ++ step.piece, Consumes-trans (left s) (left s') (left s'') t.given step.piece t.gave step.consumed),
      taken_first s s' f ps t,
    )

    -- units were
    pub takes_units : Advances R t.given t.units t.readings f' (left s') (left s'') (reads s') (reads s'') (Ok steps.Picture) → f.units < f'.units
    takes_units step =
        let new = step.behind.1 in
        let before = all_length R (seen_of t.given) t.units t.readings t.fed.readings in
        let after = all_length R (seen_of (t.given ++ step.piece)) (t.units ++ new.1.later) (new.0 ++ t.readings) new.1.fed.readings in
        let some = some_readings new.0 t.readings new.2.0 new.2.1 in
        omega (arith, before, after, some, t.fed.count, new.1.fed.count, length-append new.0 t.readings)
