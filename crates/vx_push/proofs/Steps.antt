-- A feed in the bytes that it was given: what it comes to, by the units that it takes.
use Rattle.std.proofs.Common.{◌≡◌, ℕ, ◌<◌, ◌≤◌, List, [], ◌∷◌, ◌++◌, ◌∙◌, Some, None, Ok, Err, true, refl, ap, sym, subst, arith}
use Rattle.vx_annexb.specs.declared.header.NalHeader.{NalHeader}
use Rattle.vx_pic.specs.declared.accepted.Accepted.{Accepted}
use Rattle.vx_pic.specs.declared.accepted.Accepted.TheVariants as accepted
use Rattle.vx_annexb.specs.ByteStream.{UnitPlace}
use Rattle.vx_pic.specs.Readings.{Reading, Picture, pictures}
use Rattle.vx_pic.specs.Rules.{Readers}
use Rattle.vx_pic.specs.H266.{AreOfH266}
use Rattle.vx_pic.specs.Told.{told_of}
use Rattle.vx_pic.specs.Bytes.{ArePictures, AreSeenPictures}
use Rattle.vx_assemble.specs.Held.{ShowsLatest, lent_by}
use Rattle.vx_assemble.specs.Feed.{Feeding, HasFed, Gives, Counts, seen_of}
use Rattle.vx_assemble.specs.declared.feed.Taken.{Taken}
use Rattle.vx_assemble.specs.declared.feed.Taken.TheVariants.{Nal, End}
use Rattle.vx_assemble.specs.declared.feed.FeedFault.{FeedFault}
use Rattle.vx_assemble.specs.declared.feed.FeedFault.TheVariants as faults
use Rattle.vx_assemble.proofs.Advancing.{unit_done, unit_not_done}
use Rattle.vx_push.specs.declared.intake.State.TheVariants as states
use Rattle.vx_push.specs.inner.Comes.{HasTaken, StepsTo, StillSeeks, state_by, stopped_by}

-- ---- one step

module _ (R : Readers) (g : List ℕ) (ps : List Picture) (old new : Feeding) (t : HasTaken R old g ps) where
  -- no further unit is seen
  pub sees_none : Gives R g t.places t.before new (Ok None) → StepsTo R g ps new (Some states.Waits)
  sees_none gives = (
    record { places = t.places; before = t.before; fed = gives.0; done = t.done },
    subst (λ (l : List Picture). AreSeenPictures R (seen_of g) l) t.done gives.2,
  )

  -- a unit was taken that completes no picture
  takes_unit : (header : NalHeader) (place bytes : ℕ) (what : Accepted) → (what ≡ accepted.PictureDone → ⊥)
      → Gives R g t.places t.before new (Ok (Some (Nal header place bytes what))) → HasTaken R new g ps
  takes_unit header place bytes what other gives =
      let not_ : told_of gives.1 t.before ≡ accepted.PictureDone → ⊥ = λ e. other (gives.3.what ∙ e) in
      record {
        places = t.places ++ gives.0 ∷ [];
        before = gives.1 ∷ t.before;
        fed = gives.2;
        done = unit_not_done gives.1 t.before not_ ∙ t.done;
      }

  -- or that completes one; or the end
  pub takes : (taken : Taken) → Gives R g t.places t.before new (Ok (Some taken))
      → (state_by taken ≡ Some states.Picture → (places : List UnitPlace) (before : List Reading) → HasFed R new g places before → ShowsLatest (lent_by new.assembler) (pictures before))
      → StepsTo R g ps new (state_by taken)
  takes End gives lends = (
    record { places = t.places; before = t.before; fed = gives.0; done = t.done },
    subst (λ (l : List Picture). ArePictures R (seen_of g) true l None) t.done gives.2,
    gives.3,
  )
  takes (Nal header place bytes accepted.PictureDone) gives lends =
      let whole = unit_done gives.1 t.before (sym gives.3.what) in
      let is : pictures (gives.1 ∷ t.before) ≡ whole.0 ∷ ps = whole.1 ∙ ap (λ l. whole.0 ∷ l) t.done in (
        whole.0,
        record { places = t.places ++ gives.0 ∷ []; before = gives.1 ∷ t.before; fed = gives.2; done = is },
        subst (λ (l : List Picture). ShowsLatest (lent_by new.assembler) l) is (lends refl (t.places ++ gives.0 ∷ []) (gives.1 ∷ t.before) gives.2),
      )
  takes (Nal header place bytes accepted.Nothing) gives lends = takes_unit header place bytes accepted.Nothing (λ e. absurd (cc)) gives
  takes (Nal header place bytes accepted.Vps) gives lends = takes_unit header place bytes accepted.Vps (λ e. absurd (cc)) gives
  takes (Nal header place bytes (accepted.Sps id)) gives lends = takes_unit header place bytes (accepted.Sps id) (λ e. absurd (cc)) gives
  takes (Nal header place bytes (accepted.Pps id)) gives lends = takes_unit header place bytes (accepted.Pps id) (λ e. absurd (cc)) gives
  takes (Nal header place bytes (accepted.Aps kind id)) gives lends = takes_unit header place bytes (accepted.Aps kind id) (λ e. absurd (cc)) gives

  -- or why it took none
  pub stops : (fault : FeedFault) → new.units ≡ old.units → Gives R g t.places t.before new (Err fault) → StepsTo R g ps new (Some (stopped_by fault new.units))
  stops faults.Memory kept gives = tt
  stops faults.SourceFailed kept gives = absurd gives
  stops (faults.Stopped first) kept gives = absurd gives
  stops (faults.Refused r) kept gives = record {
    places = t.places;
    before = t.before;
    done = t.done;
    were = gives.3;
    count = kept ∙ t.fed.count;
    refused = gives.0;
    more = gives.2.0;
    read = gives.2.1;
  }

-- what completes a picture is a unit
pub completes_more : (taken : Taken) (n m : ℕ) → state_by taken ≡ Some states.Picture → Counts taken n m → n < m
completes_more End n m is counts = absurd (cc)
completes_more (Nal header place bytes what) n m is counts = omega (arith, counts)

-- ---- step by step

pub seeks_first : (f : Feeding) → StillSeeks f f
seeks_first f = record { seeks = λ R of g ps taken. taken; closed = refl; units = omega arith }

pub seeks_more : (old f f1 : Feeding) → StillSeeks old f
    → ((R : Readers) → AreOfH266 R → (g : List ℕ) (ps : List Picture) → HasTaken R f g ps → HasTaken R f1 g ps)
    → f1.reader.closed ≡ f.reader.closed → f.units ≤ f1.units → StillSeeks old f1
seeks_more old f f1 s next same grows = record {
  seeks = λ R of g ps taken. next R of g ps (s.seeks R of g ps taken);
  closed = same ∙ s.closed;
  units = omega (arith, s.units, grows);
}
