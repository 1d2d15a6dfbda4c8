-- How far a reader of units reads ahead, and that it refuses the same again.
use Rattle.std.proofs.Common.{◌≡◌, ℕ, ◌+◌, ◌-◌, ◌<◌, ◌≤◌, inl, inr, Bool, true, false, List, [], ◌∷◌, ◌++◌, Option, Some, None, Result, Ok, Err, length, take, sym, ap, subst, ◌∙◌, arith, length-append, refl, append_assoc, IsSome}
use Rattle.std.proofs.Math.Seq.{take_all}
use Rattle.std.proofs.lemmas.List.{append-nil}
use Rattle.std.specs.Io.KnownBytes.{IsAtEnd}
use Rattle.std.proofs.KnownBytes.{Consumes-nil, Consumes-trans, Consumes-kept}
use Rattle.vx_bits.specs.declared.refusal.Refusal.{Refusal}
use Rattle.vx_annexb.specs.declared.span.Span.{Span}
use Rattle.vx_annexb.specs.declared.unit_reader.Closed.{Closed}
use Rattle.vx_annexb.specs.declared.unit_reader.Closed.TheVariants.{End, TooLong, Failed}
use Rattle.vx_annexb.specs.ByteStream.{source_limit, UnitPlace, IsUnit, FollowsFrom, end_of, IsStream}
use Rattle.vx_annexb.specs.Held.{place_of}
use Rattle.vx_annexb.specs.declared.unit_reader.ReadFault.{ReadFault}
use Rattle.vx_annexb.specs.declared.unit_reader.ReadFault.TheVariants.{Memory, SourceFailed}
use Rattle.vx_annexb.specs.declared.unit_reader.TakeFault.TheVariants.{Refused}
use Rattle.vx_annexb.specs.Reading.{Reading, IsOpen, ClosesAt, HasRead, IsRefusedBy, Finds, Reads, LastWasNeeded, Takes}
use Rattle.vx_annexb.specs.inner.Reading.{Taking, fault_of, reads_left}
use Rattle.vx_io.specs.Faults.{Rose}
use Rattle.vx_annexb.proofs.Places.{end_of_more}
use Rattle.vx_annexb.proofs.Stray.{end_after}
use Rattle.vx_annexb.proofs.Taking.{source_limit-is, seen_front, long_goes_on}
use Rattle.vx_annexb.proofs.Unique.{follow_front, stream_unique}
use Rattle.vx_annexb.proofs.Unseen.{later_unseen}

-- nothing was read
pub needed_first : LastWasNeeded [] []
needed_first = record {
  before = [];
  piece = [];
  given = [];
  later = [];
  bytes = refl;
  few = omega arith;
  within = omega arith;
  split = refl;
  seen = rw (take_all {A = ℕ} source_limit [] (omega arith)) (record { follow = tt; behind = inl (record { order = omega arith; within = omega arith; each = λ k le lt. absurd (omega arith) }) });
}

-- one more unit was given
pub needed_unit : (g : List ℕ) (units : List UnitPlace) (u : UnitPlace) → LastWasNeeded g units → LastWasNeeded g (units ++ u ∷ [])
needed_unit g units u n = record {
  before = n.before;
  piece = n.piece;
  given = n.given;
  later = n.later ++ u ∷ [];
  bytes = n.bytes;
  few = n.few;
  within = n.within;
  split = ap (λ xs. xs ++ u ∷ []) n.split ∙ append_assoc n.given n.later (u ∷ []);
  seen = n.seen;
}

-- a piece was read where no further unit was seen
pub needed_piece : (g piece : List ℕ) (units : List UnitPlace) → length piece ≤ 65536 → length g ≤ 1099511627776 → IsStream (take source_limit g) false units None → LastWasNeeded (g ++ piece) units
needed_piece g piece units few within seen =
    record { before = g; piece = piece; given = units; later = []; bytes = refl; few = few; within = within; split = sym (append-nil units); seen = seen }

follows_behind : (b : List ℕ) (all : Bool) (p : ℕ) (us vs : List UnitPlace) → FollowsFrom b all p (us ++ vs) → FollowsFrom b all (end_of p us) vs
follows_behind b all p [] vs f = f
follows_behind b all p (u ∷ us) vs f = follows_behind b all u.end us vs f.2

-- the first of units ends no later than the last
first_before : (b : List ℕ) (all : Bool) (p : ℕ) (us : List UnitPlace) (u : UnitPlace) → FollowsFrom b all p (us ++ u ∷ []) → (w : UnitPlace) × IsUnit b all p w × (w.end ≤ u.end)
first_before b all p [] u f = (u, f.0, omega arith)
first_before b all p (v ∷ vs) u f = (v, f.0, omega (arith, end_after b all v.end (vs ++ u ∷ []) f.2, end_of_more v.end vs u))

-- a unit that is given is seen in the last piece
pub needed_near : (g : List ℕ) (units : List UnitPlace) (u : UnitPlace) (all : Bool) → LastWasNeeded g units → FollowsFrom (take source_limit g) all 0 (units ++ u ∷ []) → length g < u.end + 3 + 65536
needed_near g units u all n f =
    let short : length n.before ≤ source_limit = rw source_limit-is n.within in
    let more : List ℕ = take (source_limit - length n.before) n.piece in
    let whole = take_all source_limit n.before short in
    let cut : take source_limit g ≡ n.before ++ more = ap (take source_limit) n.bytes ∙ sym (seen_front source_limit n.before n.piece short) in
    let units_are : units ++ u ∷ [] ≡ n.given ++ (n.later ++ u ∷ []) = ap (λ xs. xs ++ u ∷ []) n.split ∙ append_assoc n.given n.later (u ∷ []) in
    let P : List ℕ → Type 0 = λ xs. FollowsFrom xs all 0 (units ++ u ∷ []) in
    let Q : List UnitPlace → Type 0 = λ us. FollowsFrom (n.before ++ more) all 0 us in
    let first = first_before (n.before ++ more) all (end_of 0 n.given) n.later u (follows_behind (n.before ++ more) all 0 n.given (n.later ++ u ∷ []) (subst Q units_are (subst P cut f))) in
    let near = later_unseen n.before more all (end_of 0 n.given) first.0 (rw whole at n.seen.behind) first.1 in
    omega (arith, near, first.2, ap length n.bytes, length-append n.before n.piece, n.few)

-- one unit more than all isn't given
no_more : (b : List ℕ) (all : Bool) (units : List UnitPlace) (u : UnitPlace) (ending : Option Refusal) → IsStream b all units ending → FollowsFrom b all 0 (units ++ u ∷ []) → ⊥
no_more b all units u ending s f =
    let front = follow_front b all 0 (units ++ u ∷ []) units ending f s.follow s.behind in
    omega (arith, ap length front.1, length-append (units ++ u ∷ []) front.0, length-append units (u ∷ []))

-- what was refused is refused for the same again
module _ (old new : Reading) (g : List ℕ) (units : List UnitPlace) (x : Refusal) (same : new.splitter.all ≡ old.splitter.all) (closed : new.closed ≡ old.closed) (read : HasRead old g units) where
  b : List ℕ
  b = take source_limit g

  going : old.closed ≡ Some TooLong → new.splitter.all ≡ false
  going long = same ∙ long_goes_on old.closed old.splitter old.taken long read.closes

  pub refused_again : (result : Result (Option Span) Refusal) → IsRefusedBy g units old x → Finds g units new result → result ≡ Err x
  refused_again (Ok (Some span)) (inl r) found =
      absurd (no_more (take source_limit g) old.splitter.all units (place_of span) (Some x) r (rw same at found.0.stands.given))
  refused_again (Ok (Some span)) (inr r) found =
      absurd (no_more (take source_limit g) false units (place_of span) None r.0 (rw (going r.1) at found.0.stands.given))
  refused_again (Ok None) (inl r) found = let e = (stream_unique (take source_limit g) old.splitter.all units units (Some x) None r (rw same at found.1)).1 in cc
  refused_again (Ok None) (inr r) found = absurd (found.2 (closed ∙ r.1))
  refused_again (Err y) (inl r) (read', inl s) = let e = (stream_unique (take source_limit g) old.splitter.all units units (Some x) (Some y) r (rw same at s)).1 in cc
  refused_again (Err y) (inl r) (read', inr s) =
      let long : old.closed ≡ Some TooLong = sym closed ∙ s.1 in
      let all : old.splitter.all ≡ false = sym same ∙ going long in
      let e = (stream_unique (take source_limit g) false units units (Some x) None (rw all at r) s.0).1 in cc
  refused_again (Err y) (inr r) (read', inl s) =
      let e = (stream_unique (take source_limit g) false units units None (Some y) r.0 (rw (going r.1) at s)).1 in cc
  refused_again (Err y) (inr r) (read', inr s) = let a = r.2 in let c = s.2 in cc

-- a reader begins to seek a unit
pub taking_first : (r : Reading) (left : Option (List ℕ)) (faults : ℕ) → (r.closed ≡ Some Failed → ⊥) → Taking r r left left faults faults
taking_first r left faults unfailed = record {
  taking = λ g units read needed. (refl, record { piece = []; consumed = Consumes-nil left; read = rw append-nil read; needed = rw append-nil needed });
  end = λ open_ end. cc;
  again = λ g units x read refused. (read, refused);
  still = λ g units x read refused. (refl, refl);
  unfailed = unfailed;
}

-- a reader that reads no more, though no read failed and its source has no more bytes than the limit, has come to the end
at_end : (closed : Option Closed) (r : Reading) (n : ℕ) → closed ≡ r.closed → IsSome closed → (closed ≡ Some Failed → ⊥) → (closed ≡ Some TooLong → ⊥) → ClosesAt closed r.splitter n → (r.splitter.all ≡ true) × (r.closed ≡ Some End)
at_end None r n is some unfailed short c = cc
at_end (Some End) r n is some unfailed short c = (c.0, sym is)
at_end (Some TooLong) r n is some unfailed short c = absurd (short refl)
at_end (Some Failed) r n is some unfailed short c = absurd (unfailed refl)

-- one that may read on
open_goes : (closed : Option Closed) (r : Reading) (n : ℕ) → closed ≡ None → ClosesAt closed r.splitter n → (r.splitter.all ≡ false) × (n ≤ 1099511627776)
open_goes None r n is c = (c.0, c.1)
open_goes (Some x) r n is c = cc

-- what a call finds that takes a unit, by what the reader finds in what it has read
module _ (old r r1 : Reading) (left0 left : Option (List ℕ)) (f0 f : ℕ) (t : Taking old r left0 left f0 f) where
  pub takes_refusal : (x : Refusal) → ((g : List ℕ) (units : List UnitPlace) → HasRead r g units → Finds g units r1 (Err x))
      → (g : List ℕ) (units : List UnitPlace) → HasRead old g units → LastWasNeeded g units → Takes g units r1 left0 left f0 f (Err (Refused x))
  takes_refusal x finds g units read needed =
      let to = t.taking g units read needed in
      let found = finds (g ++ to.1.piece) units to.1.read in
      (to.0, (record { piece = to.1.piece; consumed = to.1.consumed; read = found.0; needed = to.1.needed }, found.1))

  pub takes_unit : (span : Span) → ((g : List ℕ) (units : List UnitPlace) → HasRead r g units → Finds g units r1 (Ok (Some span)))
      → (g : List ℕ) (units : List UnitPlace) → HasRead old g units → LastWasNeeded g units → Takes g units r1 left0 left f0 f (Ok (Some span))
  takes_unit span finds g units read needed =
      let to = t.taking g units read needed in
      let found = finds (g ++ to.1.piece) units to.1.read in
      let near = needed_near (g ++ to.1.piece) units (place_of span) r1.splitter.all to.1.needed found.0.stands.given in
      (to.0, (record { piece = to.1.piece; consumed = to.1.consumed; read = found.0; needed = needed_unit (g ++ to.1.piece) units (place_of span) to.1.needed }, found.1, near))

  module _ (finds : (g : List ℕ) (units : List UnitPlace) → HasRead r g units → Finds g units r1 (Ok None)) where
    pub takes_end : IsSome r1.closed → (r1.closed ≡ Some Failed → ⊥)
        → (g : List ℕ) (units : List UnitPlace) → HasRead old g units → LastWasNeeded g units → Takes g units r1 left0 left f0 f (Ok None)
    takes_end some unfailed g units read needed =
        let to = t.taking g units read needed in
        let found = finds (g ++ to.1.piece) units to.1.read in
        let end = at_end r1.closed r1 r1.taken refl some unfailed found.2 found.0.closes in
        (to.0, (record { piece = to.1.piece; consumed = to.1.consumed; read = found.0; needed = to.1.needed }, rw end.0 at found.1, end.1))

    pub takes_fault : IsOpen r1 → (r2 : Reading) (left2 : Option (List ℕ)) (f2 : ℕ) (fault : ReadFault) → ((g : List ℕ) (units : List UnitPlace) → HasRead r1 g units → Reads g units r2 left left2 f f2 (Err fault))
        → (g : List ℕ) (units : List UnitPlace) → HasRead old g units → LastWasNeeded g units → Takes g units r2 left0 left2 f0 f2 (Err (fault_of fault))
    takes_fault open_ r2 left2 f2 Memory reads g units read needed =
        let to = t.taking g units read needed in
        let found = finds (g ++ to.1.piece) units to.1.read in
        let was = reads (g ++ to.1.piece) units found.0 in
        (was.1 ∙ to.0, record { piece = to.1.piece; consumed = rw was.0 to.1.consumed; read = was.2; needed = to.1.needed })
    takes_fault open_ r2 left2 f2 SourceFailed reads g units read needed =
        let to = t.taking g units read needed in
        let found = finds (g ++ to.1.piece) units to.1.read in
        let was = reads (g ++ to.1.piece) units found.0 in
        let going = open_goes r1.closed r1 r1.taken open_ found.0.closes in
        let rose : Rose f0 f2 = rw to.0 at was.1 in
        (rose, (record { piece = to.1.piece; consumed = Consumes-kept left0 left left2 to.1.piece to.1.consumed was.0; read = was.2; needed = to.1.needed }, rw going.0 at found.1, was.3))

    pub taking_more : IsOpen r1 → (r2 : Reading) (left2 : Option (List ℕ)) (f2 : ℕ) → ((g : List ℕ) (units : List UnitPlace) → HasRead r1 g units → Reads g units r2 left left2 f f2 (Ok tt))
        → (r2.closed ≡ Some End → IsAtEnd left2) → (r2.closed ≡ Some Failed → ⊥) → ((g : List ℕ) (units : List UnitPlace) (x : Refusal) → HasRead r g units → IsRefusedBy g units r x → ⊥)
        → Taking old r2 left0 left2 f0 f2
    taking_more open_ r2 left2 f2 reads end unfailed fine = record {
      taking = λ g units read needed.
          let to = t.taking g units read needed in
          let h = g ++ to.1.piece in
          let found = finds (g ++ to.1.piece) units to.1.read in
          let was = reads (g ++ to.1.piece) units found.0 in
          let going = open_goes r1.closed r1 r1.taken open_ found.0.closes in
          let join : (g ++ to.1.piece) ++ was.0 ≡ g ++ (to.1.piece ++ was.0) = append_assoc g to.1.piece was.0 in
          let few : length (g ++ to.1.piece) ≤ 1099511627776 = omega (arith, found.0.taken, going.1) in
          let P : List ℕ → Type 0 = λ xs. HasRead r2 xs units × LastWasNeeded xs units in
          let both = subst P join (was.4, needed_piece (g ++ to.1.piece) was.0 units was.2 few (rw going.0 at found.1)) in
          (was.3 ∙ to.0, record { piece = to.1.piece ++ was.0; consumed = Consumes-trans left0 left left2 to.1.piece was.0 to.1.consumed was.1; read = both.0; needed = both.1 });
      end = λ open_ is. end is;
      again = λ g units x read refused. let both = t.again g units x read refused in absurd (fine g units x both.0 both.1);
      still = λ g units x read refused. let both = t.again g units x read refused in absurd (fine g units x both.0 both.1);
      unfailed = unfailed;
    }

-- each read takes a byte of those that a source may have, or is the last one
pub fewer_reads : (taken taken' : ℕ) (closed closed' : Option Closed) → closed ≡ None → taken ≤ 1099511627776 → (closed' ≡ None → taken < taken') → reads_left taken' closed' < reads_left taken closed
fewer_reads taken taken' (Some x) closed' is within grows = cc
fewer_reads taken taken' None None is within grows = let more = grows refl in omega arith
fewer_reads taken taken' None (Some x) is within grows = omega arith
