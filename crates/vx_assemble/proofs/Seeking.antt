-- A feed that takes a unit: what it answers, by what it found in what was read and by its reads.
use Rattle.std.proofs.Common.{◌≡◌, ℕ, ◌+◌, ◌≤◌, List, [], ◌∷◌, ◌++◌, ◌∙◌, Option, Some, None, Ok, Err, Bool, length, ap, refl, subst, arith, append_assoc, ⊎_elim}
use Rattle.std.proofs.lemmas.List.{append-nil}
use Rattle.std.specs.Prelude.{slice_range}
use Rattle.std.proofs.KnownBytes.{Consumes-nil, Consumes-trans, Consumes-kept}
use Rattle.vx_io.specs.Faults.{Rose}
use Rattle.vx_annexb.specs.ByteStream.{UnitPlace, IsUnit, FollowsFrom, end_of}
use Rattle.vx_annexb.specs.Held.{is_all}
use Rattle.vx_annexb.specs.Reading as reader
use Rattle.vx_annexb.specs.declared.unit_reader.ReadFault.{ReadFault}
use Rattle.vx_annexb.specs.declared.unit_reader.ReadFault.TheVariants.{Memory, SourceFailed}
use Rattle.vx_annexb.proofs.Needed.{needed_near, needed_piece}
use Rattle.vx_annexb.proofs.Places.{length-slice}
use Rattle.vx_pic.specs.Readings.{Reading}
use Rattle.vx_pic.specs.Rules.{Readers}
use Rattle.vx_pic.specs.H266.{AreOfH266}
use Rattle.vx_assemble.specs.Feed.{Feeding, EndsAtEnd, seen_of, HasFed, Gives, ReadsOn, IsNear, Takes}
use Rattle.vx_assemble.specs.inner.Feed.{Seeks, read_fault}
use Rattle.vx_assemble.specs.declared.fault.First.{First}
use Rattle.vx_assemble.specs.declared.feed.FeedFault.{FeedFault}
use Rattle.vx_assemble.specs.declared.feed.FeedFault.TheVariants as faults
use Rattle.vx_assemble.specs.declared.feed.Taken.{Taken}
use Rattle.vx_assemble.specs.declared.feed.Taken.TheVariants.{Nal, End}

-- ---- how near the last unit is

last_is : (b : List ℕ) (all : Bool) (p : ℕ) (us : List UnitPlace) (u : UnitPlace) → FollowsFrom b all p (us ++ u ∷ []) → IsUnit b all (end_of p us) u
last_is b all p [] u f = f.0
last_is b all p (v ∷ us) u f = last_is b all v.end us u f.2

-- a unit ends in the bytes, behind as many bytes as it has
ends_behind : (b : List ℕ) (all : Bool) (p : ℕ) (u : UnitPlace) → IsUnit b all p u → u.end ≡ u.start + length (slice_range b u.start u.end)
ends_behind b all p u is =
    let within : u.end ≤ length b = ⊎_elim (λ m. omega (arith, m.within)) (λ z. z.1.order) is.ends.here in
    let order : u.start ≤ u.end = is.ends.order in
    omega (arith, length-slice b u.start u.end order within)

is_near : (R : Readers) (g : List ℕ) (places : List UnitPlace) (before : List Reading) (f : Feeding) (taken : Taken) → reader.LastWasNeeded g places → Gives R g places before f (Ok (Some taken)) → IsNear g taken
is_near R g places before f End needed gives = tt
is_near R g places before f (Nal header place bytes what) needed gives =
    let u = gives.0 in
    let all = is_all f.reader.splitter in
    let follow = gives.2.read.stands.given in
    let near = needed_near g places u all needed follow in
    let behind = ends_behind (seen_of g) all (end_of 0 places) u (last_is (seen_of g) all 0 places u follow) in
    omega (arith, near, behind, gives.3.offset, gives.3.bytes)

-- ---- a call that takes a unit

-- it begins
pub seeks_first : (f : Feeding) (left : Option (List ℕ)) (faults : ℕ) → Seeks f f left left faults faults
seeks_first f left faults = record {
  seeks = λ R of g places before fed needed. (refl, record { piece = []; consumed = Consumes-nil left; fed = rw append-nil fed; needed = rw append-nil needed });
  end = λ ends. ends;
  stopped = λ first is. (refl, refl, refl);
  units = refl;
}

module _ (old f f1 : Feeding) (left0 left : Option (List ℕ)) (f0 n : ℕ) (t : Seeks old f left0 left f0 n) where
  -- a unit, or the end, is found in what was read
  pub takes_given : (taken : Taken) → ((R : Readers) → AreOfH266 R → (g : List ℕ) (places : List UnitPlace) (before : List Reading) → HasFed R f g places before → Gives R g places before f1 (Ok (Some taken)))
      → (R : Readers) → AreOfH266 R → (g : List ℕ) (places : List UnitPlace) (before : List Reading) → HasFed R old g places before → reader.LastWasNeeded g places → Takes R g places before f1 left0 left f0 n (Ok taken)
  takes_given taken next R of g places before fed needed =
      let to = t.seeks R of g places before fed needed in
      let gives = next R of (g ++ to.1.piece) places before to.1.fed in
      record {
        piece = to.1.piece;
        consumed = to.1.consumed;
        behind = (to.0, to.1.needed, is_near R (g ++ to.1.piece) places before f1 taken to.1.needed gives, gives);
      }

  -- or why there is none
  pub takes_stopped : (fault : FeedFault) → ((R : Readers) → AreOfH266 R → (g : List ℕ) (places : List UnitPlace) (before : List Reading) → HasFed R f g places before → Gives R g places before f1 (Err fault))
      → (R : Readers) → AreOfH266 R → (g : List ℕ) (places : List UnitPlace) (before : List Reading) → HasFed R old g places before → reader.LastWasNeeded g places → Takes R g places before f1 left0 left f0 n (Err fault)
  takes_stopped faults.Memory next R of g places before fed needed =
      let to = t.seeks R of g places before fed needed in
      record { piece = to.1.piece; consumed = to.1.consumed; behind = (to.0, tt) }
  takes_stopped faults.SourceFailed next R of g places before fed needed =
      let to = t.seeks R of g places before fed needed in
      absurd (next R of (g ++ to.1.piece) places before to.1.fed)
  takes_stopped (faults.Refused r) next R of g places before fed needed =
      let to = t.seeks R of g places before fed needed in
      record { piece = to.1.piece; consumed = to.1.consumed; behind = (to.0, next R of (g ++ to.1.piece) places before to.1.fed) }
  takes_stopped (faults.Stopped first) next R of g places before fed needed =
      let to = t.seeks R of g places before fed needed in
      absurd (next R of (g ++ to.1.piece) places before to.1.fed)

  module _ (next : (R : Readers) → AreOfH266 R → (g : List ℕ) (places : List UnitPlace) (before : List Reading) → HasFed R f g places before → Gives R g places before f1 (Ok None)) where
    -- nothing is found, and a read failed, or found no memory
    pub takes_fault : (f2 : Feeding) (left2 : Option (List ℕ)) (n2 : ℕ) (fault : ReadFault)
        → ((R : Readers) (g : List ℕ) (places : List UnitPlace) (before : List Reading) → HasFed R f1 g places before → ReadsOn R g places before f2 left left2 n n2 (Err fault))
        → (R : Readers) → AreOfH266 R → (g : List ℕ) (places : List UnitPlace) (before : List Reading) → HasFed R old g places before → reader.LastWasNeeded g places → Takes R g places before f2 left0 left2 f0 n2 (Err (read_fault fault))
    takes_fault f2 left2 n2 Memory reads R of g places before fed needed =
        let to = t.seeks R of g places before fed needed in
        let found = next R of (g ++ to.1.piece) places before to.1.fed in
        let was = reads R (g ++ to.1.piece) places before found.0 in
        record { piece = to.1.piece; consumed = rw was.0 to.1.consumed; behind = (was.1 ∙ to.0, tt) }
    takes_fault f2 left2 n2 SourceFailed reads R of g places before fed needed =
        let to = t.seeks R of g places before fed needed in
        let found = next R of (g ++ to.1.piece) places before to.1.fed in
        let was = reads R (g ++ to.1.piece) places before found.0 in
        let rose : Rose f0 n2 = rw to.0 at was.1 in
        record { piece = to.1.piece; consumed = Consumes-kept left0 left left2 to.1.piece to.1.consumed was.0; behind = (rose, found.1, found.2) }

    -- and more was read
    pub seeks_more : reader.IsOpen f1.reader → (f2 : Feeding) (left2 : Option (List ℕ)) (n2 : ℕ)
        → ((R : Readers) (g : List ℕ) (places : List UnitPlace) (before : List Reading) → HasFed R f1 g places before → ReadsOn R g places before f2 left left2 n n2 (Ok tt))
        → EndsAtEnd f2 left2 → ((first : First) → f.first ≡ Some first → ⊥) → f1.units ≡ f.units → f2.units ≡ f1.units
        → Seeks old f2 left0 left2 f0 n2
    seeks_more open_ f2 left2 n2 reads end going same same2 = record {
      seeks = λ R of g places before fed needed.
          let to = t.seeks R of g places before fed needed in
          let h = g ++ to.1.piece in
          let found = next R of (g ++ to.1.piece) places before to.1.fed in
          let was = reads R (g ++ to.1.piece) places before found.0 in
          let at = subst (λ closed. reader.ClosesAt closed f1.reader.splitter f1.reader.taken) open_ found.0.read.closes in
          let few : length (g ++ to.1.piece) ≤ 1099511627776 = omega (arith, found.0.read.taken, at.1) in
          let join : (g ++ to.1.piece) ++ was.0 ≡ g ++ (to.1.piece ++ was.0) = append_assoc g to.1.piece was.0 in
          let P : List ℕ → Type 0 = λ xs. HasFed R f2 xs places before × reader.LastWasNeeded xs places in
          let both = subst P join (was.4, needed_piece (g ++ to.1.piece) was.0 places was.2 few found.1) in
          (was.3 ∙ to.0, record { piece = to.1.piece ++ was.0; consumed = Consumes-trans left0 left left2 to.1.piece was.0 to.1.consumed was.1; fed = both.0; needed = both.1 });
      end = λ ends. end;
      stopped = λ first is. let was = t.stopped first is in absurd (going first (ap (λ (x : Feeding). x.first) was.0 ∙ is));
      units = same2 ∙ same ∙ t.units;
    }
