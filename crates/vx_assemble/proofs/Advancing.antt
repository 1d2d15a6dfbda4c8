-- A feed that advances to a picture: what it answers, by the units that it takes.
use Rattle.std.proofs.Common.{◌≡◌, ℕ, ◌+◌, ◌<◌, ◌≤◌, cond, List, [], ◌∷◌, ◌++◌, ◌∙◌, Option, Some, None, Ok, Err, Bool, true, false, length, sym, ap, refl, subst, arith, append_assoc}
use Rattle.std.proofs.lemmas.List.{append-nil}
use Rattle.std.proofs.KnownBytes.{Consumes-nil, Consumes-trans}
use Rattle.vx_io.specs.Faults.{Rose}
use Rattle.vx_annexb.specs.ByteStream.{UnitPlace, end_of}
use Rattle.vx_annexb.specs.Held.{is_all}
use Rattle.vx_annexb.specs.Reading as reader
use Rattle.vx_annexb.proofs.Needed.{needed_near, needed_unit}
use Rattle.vx_annexb.proofs.Places.{end_of_more}
use Rattle.vx_pic.specs.declared.accepted.Accepted.{Accepted}
use Rattle.vx_pic.specs.declared.accepted.Accepted.TheVariants as accepted
use Rattle.vx_pic.specs.Readings.{Reading, dropped, vps_read, sps_read, pps_read, aps_read, messages_read, header_read, first_slice, next_slice, sequence_ended, Current, nothing, headed, going, current, Picture, is_whole, picture_if_whole, pictures}
use Rattle.vx_pic.specs.Rules.{Readers}
use Rattle.vx_pic.specs.H266.{AreOfH266}
use Rattle.vx_pic.specs.Bytes.{ArePictures, AreSeenPictures}
use Rattle.vx_pic.specs.Told.{done_or_not, told_of}
use Rattle.vx_assemble.specs.Held.{Held, HasPicture}
use Rattle.vx_assemble.specs.Feed.{Feeding, EndsAtEnd, seen_of, HasFed, Takes, TakesBehind, AdvancesBehind, Advances, CompletesNone, Counts, IsToldBy}
use Rattle.vx_assemble.specs.inner.Feed.{Passes, step_by}
use Rattle.vx_assemble.specs.declared.fault.First.{First}
use Rattle.vx_assemble.specs.declared.feed.FeedFault.{FeedFault}
use Rattle.vx_assemble.specs.declared.feed.FeedFault.TheVariants as faults
use Rattle.vx_assemble.specs.declared.feed.Step.TheVariants as steps
use Rattle.vx_assemble.specs.declared.feed.Step.{Step}
use Rattle.vx_assemble.specs.declared.feed.Taken.{Taken}
use Rattle.vx_assemble.specs.declared.feed.Taken.TheVariants.{Nal, End}
use Rattle.vx_annexb.specs.declared.header.NalHeader.{NalHeader}

-- ---- the picture that a unit completes

-- by what is told of a slice
whole_if : (b : Bool) (p : Picture) (earlier : List Picture) → cond b accepted.PictureDone accepted.Nothing ≡ accepted.PictureDone → (q : Picture) × (cond b (p ∷ []) [] ++ earlier ≡ q ∷ earlier)
whole_if true p earlier is = (p, refl)
whole_if false p earlier is = absurd (cc)

none_if : (b : Bool) (p : Picture) (earlier : List Picture) → (cond b accepted.PictureDone accepted.Nothing ≡ accepted.PictureDone → ⊥) → cond b (p ∷ []) [] ++ earlier ≡ earlier
none_if true p earlier not_ = absurd (not_ refl)
none_if false p earlier not_ = refl

slice_done : (c : Current) (earlier : List Picture) → done_or_not c ≡ accepted.PictureDone → (q : Picture) × (picture_if_whole c ++ earlier ≡ q ∷ earlier)
slice_done nothing earlier is = absurd (cc)
slice_done (headed b) earlier is = absurd (cc)
slice_done (going p) earlier is = whole_if (is_whole p) p earlier is

slice_not : (c : Current) (earlier : List Picture) → (done_or_not c ≡ accepted.PictureDone → ⊥) → picture_if_whole c ++ earlier ≡ earlier
slice_not nothing earlier not_ = refl
slice_not (headed b) earlier not_ = refl
slice_not (going p) earlier not_ = none_if (is_whole p) p earlier not_

pub unit_done : (r : Reading) (before : List Reading) → told_of r before ≡ accepted.PictureDone → (q : Picture) × (pictures (r ∷ before) ≡ q ∷ pictures before)
unit_done dropped before is = absurd (cc)
unit_done (vps_read v) before is = absurd (cc)
unit_done (sps_read s) before is = absurd (cc)
unit_done (pps_read p) before is = absurd (cc)
unit_done (aps_read a) before is = absurd (cc)
unit_done (messages_read m) before is = absurd (cc)
unit_done (header_read b) before is = absurd (cc)
unit_done (first_slice b k s) before is = slice_done (current (first_slice b k s ∷ before)) (pictures before) is
unit_done (next_slice s) before is = slice_done (current (next_slice s ∷ before)) (pictures before) is
unit_done sequence_ended before is = absurd (cc)

pub unit_not_done : (r : Reading) (before : List Reading) → (told_of r before ≡ accepted.PictureDone → ⊥) → pictures (r ∷ before) ≡ pictures before
unit_not_done dropped before not_ = refl
unit_not_done (vps_read v) before not_ = refl
unit_not_done (sps_read s) before not_ = refl
unit_not_done (pps_read p) before not_ = refl
unit_not_done (aps_read a) before not_ = refl
unit_not_done (messages_read m) before not_ = refl
unit_not_done (header_read b) before not_ = refl
unit_not_done (first_slice b k s) before not_ = slice_not (current (first_slice b k s ∷ before)) (pictures before) not_
unit_not_done (next_slice s) before not_ = slice_not (current (next_slice s ∷ before)) (pictures before) not_
unit_not_done sequence_ended before not_ = refl

-- ---- a call that advances

-- it begins
pub passes_first : (f : Feeding) (left : Option (List ℕ)) (faults : ℕ) → Passes f f left left faults faults
passes_first f left faults = record {
  passes = λ R of g places before fed needed.
      let P : List UnitPlace → Type 0 = λ us. HasFed R f g us before × reader.LastWasNeeded g us in
      let Q : List ℕ → Type 0 = λ xs. HasFed R f xs (places ++ []) before × reader.LastWasNeeded xs (places ++ []) in
      let both = subst Q (sym (append-nil g)) (subst P (sym (append-nil places)) (fed, needed)) in
      (refl, record { piece = []; consumed = Consumes-nil left; readings = []; gone = record { later = []; fed = both.0; needed = both.1 }; same = refl });
  end = λ ends. ends;
  stopped = λ first is. (refl, refl, refl);
  units = omega arith;
}

module _ (old f f1 : Feeding) (left0 left left1 : Option (List ℕ)) (f0 n n1 : ℕ) (t : Passes old f left0 left f0 n) where
  -- a unit that completes no picture was taken
  pub passes_more : (header : NalHeader) (place bytes : ℕ) (what : Accepted) → (what ≡ accepted.PictureDone → ⊥)
      → ((R : Readers) → AreOfH266 R → (g : List ℕ) (places : List UnitPlace) (before : List Reading) → HasFed R f g places before → reader.LastWasNeeded g places → Takes R g places before f1 left left1 n n1 (Ok (Nal header place bytes what)))
      → (EndsAtEnd f left → EndsAtEnd f1 left1)
      → ((first : First) → f.first ≡ Some first → ⊥)
      → f.units ≤ f1.units
      → Passes old f1 left0 left1 f0 n1
  passes_more header place bytes what other takes end fine grows = record {
    passes = λ R of g places before fed needed.
        let to = t.passes R of g places before fed needed in
        let h = to.1 in
        let took = takes R of (g ++ h.piece) (places ++ h.gone.later) (h.readings ++ before) h.gone.fed h.gone.needed in
        let gives = took.behind.3 in
        let u = gives.0 in
        let r = gives.1 in
        let needed' = needed_unit ((g ++ h.piece) ++ took.piece) (places ++ h.gone.later) u took.behind.1 in
        let not_ : told_of r (h.readings ++ before) ≡ accepted.PictureDone → ⊥ = λ e. other (gives.3.what ∙ e) in
        let P : List ℕ → Type 0 = λ xs. HasFed R f1 xs ((places ++ h.gone.later) ++ u ∷ []) (r ∷ (h.readings ++ before)) × reader.LastWasNeeded xs ((places ++ h.gone.later) ++ u ∷ []) in
        let here = subst P (append_assoc g h.piece took.piece) (gives.2, needed') in
        let Q : List UnitPlace → Type 0 = λ us. HasFed R f1 (g ++ (h.piece ++ took.piece)) us (r ∷ (h.readings ++ before)) × reader.LastWasNeeded (g ++ (h.piece ++ took.piece)) us in
        let both = subst Q (append_assoc places h.gone.later (u ∷ [])) here in (
          took.behind.0 ∙ to.0,
          record {
            piece = h.piece ++ took.piece;
            consumed = Consumes-trans left0 left left1 h.piece took.piece h.consumed took.consumed;
            readings = r ∷ h.readings;
            gone = record { later = h.gone.later ++ u ∷ []; fed = both.0; needed = both.1 };
            same = unit_not_done r (h.readings ++ before) not_ ∙ h.same;
          },
        );
    end = λ ends. end (t.end ends);
    stopped = λ first is. let was = t.stopped first is in absurd (fine first (ap (λ (x : Feeding). x.first) was.0 ∙ is));
    units = omega (arith, t.units, grows);
  }

  -- a unit that completes one
  pub advances_to : (header : NalHeader) (place bytes : ℕ) (what : Accepted) → what ≡ accepted.PictureDone
      → ((R : Readers) → AreOfH266 R → (g : List ℕ) (places : List UnitPlace) (before : List Reading) → HasFed R f g places before → reader.LastWasNeeded g places → Takes R g places before f1 left left1 n n1 (Ok (Nal header place bytes what)))
      → (R : Readers) → AreOfH266 R → (g : List ℕ) (places : List UnitPlace) (before : List Reading) → HasFed R old g places before → reader.LastWasNeeded g places → Advances R g places before f1 left0 left1 f0 n1 (Ok steps.Picture)
  advances_to header place bytes what done takes R of g places before fed needed =
      let to = t.passes R of g places before fed needed in
      let h = to.1 in
      let took = takes R of (g ++ h.piece) (places ++ h.gone.later) (h.readings ++ before) h.gone.fed h.gone.needed in
      let gives = took.behind.3 in
      let u = gives.0 in
      let r = gives.1 in
      let near = needed_near ((g ++ h.piece) ++ took.piece) (places ++ h.gone.later) u (is_all f1.reader.splitter) took.behind.1 gives.2.read.stands.given in
      let needed' = needed_unit ((g ++ h.piece) ++ took.piece) (places ++ h.gone.later) u took.behind.1 in
      let P : List ℕ → Type 0 = λ xs. HasFed R f1 xs ((places ++ h.gone.later) ++ u ∷ []) (r ∷ (h.readings ++ before)) × reader.LastWasNeeded xs ((places ++ h.gone.later) ++ u ∷ []) × (length xs < u.end + 3 + 65536) in
      let here = subst P (append_assoc g h.piece took.piece) (gives.2, needed', near) in
      let Q : List UnitPlace → Type 0 = λ us. HasFed R f1 (g ++ (h.piece ++ took.piece)) us (r ∷ (h.readings ++ before)) × reader.LastWasNeeded (g ++ (h.piece ++ took.piece)) us × (end_of 0 us ≡ u.end) in
      let both = subst Q (append_assoc places h.gone.later (u ∷ [])) (here.0, here.1, end_of_more 0 (places ++ h.gone.later) u) in
      let whole = unit_done r (h.readings ++ before) (sym gives.3.what ∙ done) in
      record {
        piece = h.piece ++ took.piece;
        consumed = Consumes-trans left0 left left1 h.piece took.piece h.consumed took.consumed;
        behind = (
          took.behind.0 ∙ to.0,
          (
            r ∷ h.readings,
            record { later = h.gone.later ++ u ∷ []; fed = both.0; needed = both.1 },
            (whole.0, whole.1 ∙ ap (λ ps. whole.0 ∷ ps) h.same),
            omega (arith, here.2, both.2),
          ),
        );
      }

  -- the end
  pub advances_end : ((R : Readers) → AreOfH266 R → (g : List ℕ) (places : List UnitPlace) (before : List Reading) → HasFed R f g places before → reader.LastWasNeeded g places → Takes R g places before f1 left left1 n n1 (Ok End))
      → (R : Readers) → AreOfH266 R → (g : List ℕ) (places : List UnitPlace) (before : List Reading) → HasFed R old g places before → reader.LastWasNeeded g places → Advances R g places before f1 left0 left1 f0 n1 (Ok steps.End)
  advances_end takes R of g places before fed needed =
      let to = t.passes R of g places before fed needed in
      let h = to.1 in
      let took = takes R of (g ++ h.piece) (places ++ h.gone.later) (h.readings ++ before) h.gone.fed h.gone.needed in
      let gives = took.behind.3 in
      let P : List ℕ → Type 0 = λ xs. HasFed R f1 xs (places ++ h.gone.later) (h.readings ++ before) × reader.LastWasNeeded xs (places ++ h.gone.later) × ArePictures R (seen_of xs) true (pictures before) None in
      let here = subst P (append_assoc g h.piece took.piece) (gives.0, took.behind.1, subst (λ (ps : List Picture). ArePictures R (seen_of ((g ++ h.piece) ++ took.piece)) true ps None) h.same gives.2) in
      record {
        piece = h.piece ++ took.piece;
        consumed = Consumes-trans left0 left left1 h.piece took.piece h.consumed took.consumed;
        behind = (took.behind.0 ∙ to.0, (h.readings, record { later = h.gone.later; fed = here.0; needed = here.1 }, h.same), here.2, gives.3);
      }

  -- what stops it
  stops_behind : (fault : FeedFault) (R : Readers) (g' : List ℕ) (places later : List UnitPlace) (before readings : List Reading) → pictures (readings ++ before) ≡ pictures before → f1.units ≡ length (places ++ later) → n ≡ f0
      → TakesBehind R g' (places ++ later) (readings ++ before) f1 n n1 (Err fault) → AdvancesBehind R g' places before f1 f0 n1 (Err fault)
  stops_behind faults.Memory R g' places later before readings same units kept took = took.0 ∙ kept
  stops_behind faults.SourceFailed R g' places later before readings same units kept took =
      let rose : Rose f0 n1 = rw kept at took.0 in
      (rose, subst (λ (ps : List Picture). AreSeenPictures R (seen_of g') ps) same took.2)
  stops_behind (faults.Refused r) R g' places later before readings same units kept took = (
    took.0 ∙ kept,
    subst (λ (k : ℕ). ArePictures R (seen_of g') (is_all f1.reader.splitter) (pictures before) (Some (record { units = k; refusal = r }))) (sym units)
        (subst (λ (ps : List Picture). ArePictures R (seen_of g') (is_all f1.reader.splitter) ps (Some (record { units = length (places ++ later); refusal = r }))) same took.1.1),
    record { later = later; readings = readings; same = same; were = took.1.3; count = units; refused = took.1.0; more = took.1.2.0; read = took.1.2.1 },
  )
  stops_behind (faults.Stopped first) R g' places later before readings same units kept took = absurd took.1

  pub advances_stopped : (fault : FeedFault)
      → ((R : Readers) → AreOfH266 R → (g : List ℕ) (places : List UnitPlace) (before : List Reading) → HasFed R f g places before → reader.LastWasNeeded g places → Takes R g places before f1 left left1 n n1 (Err fault))
      → f1.units ≡ f.units
      → (R : Readers) → AreOfH266 R → (g : List ℕ) (places : List UnitPlace) (before : List Reading) → HasFed R old g places before → reader.LastWasNeeded g places → Advances R g places before f1 left0 left1 f0 n1 (Err fault)
  advances_stopped fault takes same R of g places before fed needed =
      let to = t.passes R of g places before fed needed in
      let h = to.1 in
      let took = takes R of (g ++ h.piece) (places ++ h.gone.later) (h.readings ++ before) h.gone.fed h.gone.needed in
      let stop = stops_behind fault R ((g ++ h.piece) ++ took.piece) places h.gone.later before h.readings h.same (same ∙ h.gone.fed.count) to.0 took.behind in
      record {
        piece = h.piece ++ took.piece;
        consumed = Consumes-trans left0 left left1 h.piece took.piece h.consumed took.consumed;
        behind = subst (λ (xs : List ℕ). AdvancesBehind R xs places before f1 f0 n1 (Err fault)) (append_assoc g h.piece took.piece) stop;
      }

  -- the units that were taken by then
  pub completes_none : (fault : FeedFault)
      → ((R : Readers) → AreOfH266 R → (g : List ℕ) (places : List UnitPlace) (before : List Reading) → HasFed R f g places before → reader.LastWasNeeded g places → Takes R g places before f1 left left1 n n1 (Err fault))
      → f1.units ≡ f.units
      → (R : Readers) → AreOfH266 R → (g : List ℕ) (places : List UnitPlace) (before : List Reading) → HasFed R old g places before → reader.LastWasNeeded g places → CompletesNone R g places before f1 left0 left1
  completes_none fault takes kept R of g places before fed needed =
      let h = (t.passes R of g places before fed needed).1 in
      let took = takes R of (g ++ h.piece) (places ++ h.gone.later) (h.readings ++ before) h.gone.fed h.gone.needed in
      record {
        piece = h.piece;
        behind = took.piece;
        consumed = Consumes-trans left0 left left1 h.piece took.piece h.consumed took.consumed;
        later = h.gone.later;
        readings = h.readings;
        same = h.same;
        were = h.gone.fed.readings;
        count = kept ∙ h.gone.fed.count;
      }

  -- by what was taken
  pub advances_by : (taken : Taken) (step : Step) → step_by taken ≡ Some step
      → ((R : Readers) → AreOfH266 R → (g : List ℕ) (places : List UnitPlace) (before : List Reading) → HasFed R f g places before → reader.LastWasNeeded g places → Takes R g places before f1 left left1 n n1 (Ok taken))
      → (R : Readers) → AreOfH266 R → (g : List ℕ) (places : List UnitPlace) (before : List Reading) → HasFed R old g places before → reader.LastWasNeeded g places → Advances R g places before f1 left0 left1 f0 n1 (Ok step)
  advances_by End steps.End is takes = advances_end takes
  advances_by End steps.Picture is takes = absurd (cc)
  advances_by (Nal header place bytes accepted.PictureDone) steps.Picture is takes = advances_to header place bytes accepted.PictureDone refl takes
  advances_by (Nal header place bytes accepted.PictureDone) steps.End is takes = absurd (cc)
  advances_by (Nal header place bytes accepted.Nothing) step is takes = absurd (cc)
  advances_by (Nal header place bytes accepted.Vps) step is takes = absurd (cc)
  advances_by (Nal header place bytes (accepted.Sps id)) step is takes = absurd (cc)
  advances_by (Nal header place bytes (accepted.Pps id)) step is takes = absurd (cc)
  advances_by (Nal header place bytes (accepted.Aps kind id)) step is takes = absurd (cc)

  pub passes_by : (taken : Taken) → step_by taken ≡ None
      → ((R : Readers) → AreOfH266 R → (g : List ℕ) (places : List UnitPlace) (before : List Reading) → HasFed R f g places before → reader.LastWasNeeded g places → Takes R g places before f1 left left1 n n1 (Ok taken))
      → (EndsAtEnd f left → EndsAtEnd f1 left1) → ((first : First) → f.first ≡ Some first → ⊥) → f.units ≤ f1.units → Passes old f1 left0 left1 f0 n1
  passes_by End is takes end fine grows = absurd (cc)
  passes_by (Nal header place bytes accepted.PictureDone) is takes end fine grows = absurd (cc)
  passes_by (Nal header place bytes accepted.Nothing) is takes end fine grows = passes_more header place bytes accepted.Nothing (λ e. absurd (cc)) takes end fine grows
  passes_by (Nal header place bytes accepted.Vps) is takes end fine grows = passes_more header place bytes accepted.Vps (λ e. absurd (cc)) takes end fine grows
  passes_by (Nal header place bytes (accepted.Sps id)) is takes end fine grows = passes_more header place bytes (accepted.Sps id) (λ e. absurd (cc)) takes end fine grows
  passes_by (Nal header place bytes (accepted.Pps id)) is takes end fine grows = passes_more header place bytes (accepted.Pps id) (λ e. absurd (cc)) takes end fine grows
  passes_by (Nal header place bytes (accepted.Aps kind id)) is takes end fine grows = passes_more header place bytes (accepted.Aps kind id) (λ e. absurd (cc)) takes end fine grows

-- each unit that completes no picture is one more
pub one_more_taken : (taken : Taken) (old new : ℕ) → step_by taken ≡ None → Counts taken old new → new ≡ old + 1
one_more_taken End old new is counts = absurd (cc)
one_more_taken (Nal header place bytes what) old new is counts = counts

-- a unit that completes a picture was told so
pub has_picture : (taken : Taken) (h : Held) → step_by taken ≡ Some steps.Picture → IsToldBy h (Some taken) → HasPicture h
has_picture End h is told = absurd (cc)
has_picture (Nal header place bytes accepted.PictureDone) h is told = told
has_picture (Nal header place bytes accepted.Nothing) h is told = absurd (cc)
has_picture (Nal header place bytes accepted.Vps) h is told = absurd (cc)
has_picture (Nal header place bytes (accepted.Sps id)) h is told = absurd (cc)
has_picture (Nal header place bytes (accepted.Pps id)) h is told = absurd (cc)
has_picture (Nal header place bytes (accepted.Aps kind id)) h is told = absurd (cc)
