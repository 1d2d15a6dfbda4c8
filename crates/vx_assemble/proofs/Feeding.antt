-- A feed: what it answers, by what its reader and its assembler answered.
use Rattle.std.proofs.Common.{◌≡◌, ℕ, ◌+◌, List, [], ◌∷◌, ◌++◌, ◌∙◌, Option, Some, None, Result, Ok, Err, Bool, true, false, length, inl, inr, sym, ap, refl, subst, arith, length-append, append_assoc, option_map, IsSome}
use Rattle.std.specs.Prelude.{slice_range, take, ◌-◌, ◌≤◌}
use Rattle.std.proofs.Math.Seq.{take_all}
use Rattle.std.proofs.lemmas.List.{map-append, length-map, append-nil}
use Rattle.vx_bits.specs.declared.refusal.Refusal.{Refusal}
use Rattle.vx_bits.specs.declared.refusal.Refusal.TheVariants.{Limit}
use Rattle.vx_bits.specs.declared.rules.TheConstants.{LONG_SOURCE}
use Rattle.vx_annexb.specs.declared.span.Span.{Span}
use Rattle.vx_annexb.specs.declared.unit_reader.Closed.{Closed}
use Rattle.vx_annexb.specs.declared.unit_reader.Closed.TheVariants.{TooLong, Failed}
use Rattle.vx_annexb.specs.declared.unit_reader.Closed.TheVariants as closes
use Rattle.vx_annexb.specs.ByteStream.{source_limit, UnitPlace, unit_bytes, IsStream, FollowsFrom}
use Rattle.vx_annexb.specs.Held.{is_all, held, lent, place_of}
use Rattle.vx_annexb.specs.Reading as reader
use Rattle.vx_annexb.specs.declared.unit_reader.ReadFault.{ReadFault}
use Rattle.vx_annexb.specs.declared.unit_reader.ReadFault.TheVariants.{Memory, SourceFailed}
use Rattle.vx_annexb.proofs.Exists.{stream_exists}
use Rattle.vx_annexb.proofs.Taking.{source_limit-is, seen_front}
use Rattle.vx_annexb.proofs.Unseen.{seen_stays}
use Rattle.vx_annexb.proofs.Unique.{follow_front}
use Rattle.vx_pic.specs.Readings.{Reading, pictures}
use Rattle.vx_pic.specs.Rules.{Readers, reads}
use Rattle.vx_pic.specs.Streams.{StreamReading, read_on, all_read, stopped, one_more, unless_refused}
use Rattle.vx_pic.specs.Bytes.{units_at, ending_by, ArePictures}
use Rattle.vx_pic.proofs.Going.{goes_on}
use Rattle.vx_annexb.specs.declared.header.NalHeader.{NalHeader}
use Rattle.vx_pic.specs.declared.accepted.Accepted.{Accepted}
use Rattle.vx_assemble.specs.Held.{Held, Stands, Ends, IsBounded}
use Rattle.vx_assemble.specs.declared.fault.AssembleFault.{AssembleFault}
use Rattle.vx_assemble.specs.declared.fault.AssembleFault.TheVariants as assembler
use Rattle.vx_assemble.specs.declared.fault.First.{First}
use Rattle.vx_assemble.specs.declared.feed.FeedFault.{FeedFault}
use Rattle.vx_assemble.specs.Feed.{Feeding, seen_of, HasFed, UnitIsRefused, IsRefusedFor, by_bytes, by_unit, at_end, EndsThere, IsTold, Gives, SeesRefused, at_bytes, at_unit, sees_at_end, GivesSeen, ReadsOn, most_held}
use Rattle.vx_assemble.specs.inner.Feed.{Accepts, fault_of, feeding}
use Rattle.vx_assemble.specs.declared.feed.FeedFault.TheVariants as faults
use Rattle.vx_assemble.specs.declared.feed.Taken.{Taken}
use Rattle.vx_assemble.specs.declared.feed.Taken.TheVariants.{Nal, End}

-- ---- readings

-- one unit behind those that were read
one_more_read : (R : Readers) (before : List Reading) (units more : List (List ℕ)) (unit : List ℕ) (y : Result Reading Refusal) → read_on R [] units ≡ all_read before → reads R before unit ≡ y
    → read_on R [] (units ++ unit ∷ more) ≡ one_more y before (λ after. read_on R after more)
one_more_read R before units more unit y readings answer =
    goes_on R [] units (unit ∷ more)
    ∙ ap (λ (o : StreamReading). unless_refused o.refusal o.before (λ after. read_on R after (unit ∷ more))) readings
    ∙ ap (λ z. one_more z before (λ after. read_on R after more)) answer

-- the bytes of one more unit
units_at_more : (b : List ℕ) (places more : List UnitPlace) (u : UnitPlace) → units_at b (places ++ u ∷ more) ≡ units_at b places ++ unit_bytes b u ∷ units_at b more
units_at_more b places more u = map-append (unit_bytes b) places (u ∷ more)

-- ---- a unit

-- it was taken, and this is told of it
record HasTaken (R : Readers) (g : List ℕ) (places : List UnitPlace) (before : List Reading) (new : Feeding) (u : UnitPlace) (unit : List ℕ) (h : NalHeader) (place n : ℕ) (a : Accepted) : Type 0 where
  reading : Reading
  fed : HasFed R new g (places ++ u ∷ []) (reading ∷ before)
  told : IsTold g u reading before h place n a
  same : unit_bytes (seen_of g) u ≡ unit

has_taken : (R : Readers) (g : List ℕ) (places : List UnitPlace) (before : List Reading) (old new : Feeding) (span : Span) (unit : List ℕ) (header : NalHeader) (place bytes : ℕ) (what : Accepted)
    → HasFed R old g places before → reader.Finds g places new.reader (Ok (Some span)) → unit ≡ slice_range (lent new.reader.splitter) span.start span.end
    → Accepts R before new.assembler unit span.offset (Ok (Nal header place bytes what))
    → new.units ≡ old.units + 1 → new.first ≡ None → HasTaken R g places before new (place_of span) unit header place bytes what
has_taken R g places before old new span unit header place bytes what fed finds lends accepts units first =
    let u = place_of span in
    let b = seen_of g in
    let took = accepts.0 in
    let same = finds.1 ∙ sym lends in
    let here : reads R before (unit_bytes b u) ≡ Ok took.reading = ap (reads R before) same ∙ took.reads in
    record {
      reading = took.reading;
      fed = record {
        read = finds.0;
        readings = ap (read_on R []) (units_at_more b places [] u) ∙ one_more_read R before (units_at b places) [] (unit_bytes b u) (Ok took.reading) fed.readings here;
        stands = took.stands;
        count = units ∙ ap (λ n. n + 1) fed.count ∙ sym (length-append places (u ∷ []));
        going = first;
      };
      told = record {
        header = rw same accepts.1;
        offset = accepts.2;
        bytes = rw same accepts.3;
        what = took.told;
      };
      same = same;
    }

pub gives_unit : (R : Readers) (g : List ℕ) (places : List UnitPlace) (before : List Reading) (old new : Feeding) (span : Span) (unit : List ℕ) (taken : Taken)
    → HasFed R old g places before → reader.Finds g places new.reader (Ok (Some span)) → unit ≡ slice_range (lent new.reader.splitter) span.start span.end
    → Accepts R before new.assembler unit span.offset (Ok taken)
    → new.units ≡ old.units + 1 → new.first ≡ None → Gives R g places before new (Ok (Some taken))
gives_unit R g places before old new span unit End fed finds lends accepts units first = absurd accepts
gives_unit R g places before old new span unit (Nal header place bytes what) fed finds lends accepts units first =
    let t = has_taken R g places before old new span unit header place bytes what fed finds lends accepts units first in
    (place_of span, t.reading, t.fed, t.told)

-- it was seen before
pub sees_unit : {V : Type 0} (sees : List Reading → List ℕ → V) (nothing : V) (R : Readers) (g : List ℕ) (places : List UnitPlace) (before : List Reading) (old new : Feeding) (span : Span)
    (unit : List ℕ) (taken : Taken) (seen : V)
    → HasFed R old g places before → reader.Finds g places new.reader (Ok (Some span)) → unit ≡ slice_range (lent new.reader.splitter) span.start span.end
    → Accepts R before new.assembler unit span.offset (Ok taken)
    → new.units ≡ old.units + 1 → new.first ≡ None → seen ≡ sees before unit → GivesSeen sees nothing R g places before new (Ok (Some taken)) seen
sees_unit sees nothing R g places before old new span unit End seen fed finds lends accepts units first is = absurd accepts
sees_unit sees nothing R g places before old new span unit (Nal header place bytes what) seen fed finds lends accepts units first is =
    let t = has_taken R g places before old new span unit header place bytes what fed finds lends accepts units first in
    (place_of span, t.reading, t.fed, t.told, is ∙ ap (sees before) (sym t.same))

-- it is refused: what is seen has no other pictures, and ends there
ends_at_unit : (R : Readers) (f : reader.Reading) (g : List ℕ) (places : List UnitPlace) (before : List Reading) (r : Refusal) → read_on R [] (units_at (seen_of g) places) ≡ all_read before → length before ≡ length places
    → UnitIsRefused R f g places before r → EndsThere R f g places before r
ends_at_unit R f g places before r readings count refused =
    let b = seen_of g in
    let all = is_all f.splitter in
    let u = refused.unit in
    let s = stream_exists b all in
    let front = follow_front b all 0 (places ++ u ∷ []) s.0 s.1 refused.follows s.2.follow s.2.behind in
    let split : s.0 ≡ places ++ u ∷ front.0 = front.1 ∙ append_assoc places (u ∷ []) front.0 in
    let read : read_on R [] (units_at b s.0) ≡ stopped before r =
    ap (λ places. read_on R [] (units_at b places)) split
    ∙ ap (read_on R []) (units_at_more b places front.0 u)
    ∙ one_more_read R before (units_at b places) (units_at b front.0) (unit_bytes b u) (Err r) readings refused.refused in
    record {
      places = s.0;
      framing = s.1;
      stream = s.2;
      done = ap (λ (o : StreamReading). pictures o.before) (sym read);
      ends = ap (λ n. Some (record { units = n; refusal = r })) (sym count) ∙ ap (ending_by all s.1) (sym read);
    }

-- ---- how many units were read

counted_more : (R : Readers) (b before : List Reading) (us : List (List ℕ)) (y : Result Reading Refusal)
    → ((r : Reading) → read_on R (r ∷ b) us ≡ all_read before → length before ≡ length (r ∷ b) + length us)
    → one_more y b (λ after. read_on R after us) ≡ all_read before → length before ≡ length b + (length us + 1)
counted_more R b before us (Ok r) rest e = omega (arith, rest r e)
counted_more R b before us (Err r) rest e = let no = ap (λ (o : StreamReading). o.refusal) e in absurd (cc)

counted : (R : Readers) (b before : List Reading) (units : List (List ℕ)) → read_on R b units ≡ all_read before → length before ≡ length b + length units
counted R b before [] e = let same = ap (λ (o : StreamReading). length o.before) e in omega (arith, same)
counted R b before (u ∷ us) e = let more = counted_more R b before us (reads R b u) (λ r. counted R (r ∷ b) before us) e in omega (arith, more)

pub read_all : (R : Readers) (b : List ℕ) (places : List UnitPlace) (before : List Reading) → read_on R [] (units_at b places) ≡ all_read before → length before ≡ length places
read_all R b places before e = let n = counted R [] before (units_at b places) e in omega (arith, n, length-map places (unit_bytes b))

-- ---- endings

-- what is seen ends there by what stands behind the units
ends_behind : (R : Readers) (b : List ℕ) (all : Bool) (places : List UnitPlace) (before : List Reading) (framing : Option Refusal) (r : Refusal) → read_on R [] (units_at b places) ≡ all_read before
    → IsStream b all places framing → ending_by all framing (all_read before) ≡ Some (record { units = length before; refusal = r })
    → ArePictures R b all (pictures before) (Some (record { units = length places; refusal = r }))
ends_behind R b all places before framing r readings stream ends = record {
  places = places;
  framing = framing;
  stream = stream;
  done = ap (λ (o : StreamReading). pictures o.before) (sym readings);
  ends = ap (λ n. Some (record { units = n; refusal = r })) (sym (read_all R b places before readings)) ∙ sym ends ∙ ap (ending_by all framing) (sym readings);
}

-- by the bytes
pub refused_by_bytes : (R : Readers) (g : List ℕ) (places : List UnitPlace) (before : List Reading) (old new : Feeding) (r : Refusal) → HasFed R old g places before
    → reader.Finds g places new.reader (Err r) → Gives R g places before new (Err (faults.Refused r))
refused_by_bytes R g places before old new r fed (read, inl stream) =
    (by_bytes (inl stream), ends_behind R (seen_of g) (is_all new.reader.splitter) places before (Some r) r fed.readings stream refl, ([], rw append-nil read), fed.readings)
refused_by_bytes R g places before old new r fed (read, inr (stream, long, is)) =
    let going : is_all new.reader.splitter ≡ false = (subst (λ closed. reader.ClosesAt closed new.reader.splitter new.reader.taken) long read.closes).0 in
    let ends = ends_behind R (seen_of g) false places before None (Limit LONG_SOURCE) fed.readings stream refl in (
      by_bytes (inr (stream, long, is)),
      rw (going, is) ends,
      ([], rw append-nil read),
      fed.readings,
    )

-- by a unit
pub refused_by_unit : (R : Readers) (g : List ℕ) (places : List UnitPlace) (before : List Reading) (old new : Feeding) (span : Span) (unit : List ℕ) (fault : FeedFault)
    → HasFed R old g places before → reader.Finds g places new.reader (Ok (Some span)) → unit ≡ slice_range (lent new.reader.splitter) span.start span.end
    → Accepts R before new.assembler unit span.offset (Err fault)
    → Gives R g places before new (Err fault)
refused_by_unit R g places before old new span unit faults.Memory fed finds lends accepts = tt
refused_by_unit R g places before old new span unit faults.SourceFailed fed finds lends accepts = absurd accepts
refused_by_unit R g places before old new span unit (faults.Stopped f) fed finds lends accepts = absurd accepts
refused_by_unit R g places before old new span unit (faults.Refused r) fed finds lends accepts =
    let refused : UnitIsRefused R new.reader g places before r = record {
      unit = place_of span;
      follows = finds.0.stands.given;
      refused = ap (reads R before) (finds.1 ∙ sym lends) ∙ accepts;
    } in
    (by_unit refused, ends_at_unit R new.reader g places before r fed.readings (read_all R (seen_of g) places before fed.readings) refused, (place_of span ∷ [], finds.0), fed.readings)

pub sees_refused : {V : Type 0} (sees : List Reading → List ℕ → V) (nothing : V) (R : Readers) (g : List ℕ) (places : List UnitPlace) (before : List Reading) (new : Feeding) (span : Span)
    (unit : List ℕ) (fault : FeedFault) (seen : V)
    → reader.Finds g places new.reader (Ok (Some span)) → unit ≡ slice_range (lent new.reader.splitter) span.start span.end
    → Accepts R before new.assembler unit span.offset (Err fault) → seen ≡ sees before unit
    → GivesSeen sees nothing R g places before new (Err fault) seen
sees_refused sees nothing R g places before new span unit faults.Memory seen finds lends accepts is = tt
sees_refused sees nothing R g places before new span unit faults.SourceFailed seen finds lends accepts is = tt
sees_refused sees nothing R g places before new span unit (faults.Stopped f) seen finds lends accepts is = tt
sees_refused sees nothing R g places before new span unit (faults.Refused r) seen finds lends accepts is =
    let same = finds.1 ∙ sym lends in
    at_unit (record { unit = place_of span; follows = finds.0.stands.given; refused = ap (reads R before) same ∙ accepts }) (is ∙ ap (sees before) (sym same))

-- nothing was seen
pub sees_no_bytes : {V : Type 0} (sees : List Reading → List ℕ → V) (nothing : V) (R : Readers) (g : List ℕ) (places : List UnitPlace) (before : List Reading) (new : Feeding) (r : Refusal) (seen : V)
    → reader.Finds g places new.reader (Err r) → seen ≡ nothing → GivesSeen sees nothing R g places before new (Err (faults.Refused r)) seen
sees_no_bytes sees nothing R g places before new r seen finds is = at_bytes finds.1 is

-- of a feed that goes on
pub still_gives : (R : Readers) (g : List ℕ) (places : List UnitPlace) (before : List Reading) (r : reader.Reading) (a : Held) (n : ℕ) (f : Option First) (given : Option Taken) → f ≡ None → Gives R g places before (feeding r a n) (Ok given)
    → Gives R g places before (record { reader = r; assembler = a; units = n; first = f }) (Ok given)
still_gives R g places before r a n f given none gives =
    subst (λ (x : Option First). Gives R g places before (record { reader = r; assembler = a; units = n; first = x }) (Ok given)) (sym none) gives

-- a feed that stops for it is refused for the same
pub still_refused : (R : Readers) (g : List ℕ) (places : List UnitPlace) (before : List Reading) (f f' : Feeding) (fault : FeedFault) → f'.reader ≡ f.reader → Gives R g places before f (Err fault) → Gives R g places before f' (Err fault)
still_refused R g places before f f' faults.Memory same gives = tt
still_refused R g places before f f' faults.SourceFailed same gives = absurd gives
still_refused R g places before f f' (faults.Stopped first) same gives = absurd gives
still_refused R g places before f f' (faults.Refused r) same gives = subst (λ a. IsRefusedFor R a g places before r × EndsThere R a g places before r × ((later : List UnitPlace) × reader.HasRead a g (places ++ later)) × (read_on R [] (units_at (seen_of g) places) ≡ all_read before)) (sym same) gives

-- ---- no further unit

-- none is seen
pub gives_none : (R : Readers) (g : List ℕ) (places : List UnitPlace) (before : List Reading) (old new : Feeding) → HasFed R old g places before
    → reader.Finds g places new.reader (Ok None) → new.assembler ≡ old.assembler → new.units ≡ old.units → new.first ≡ None → new.reader.closed ≡ None
    → Gives R g places before new (Ok None)
gives_none R g places before old new fed finds same units first open_ =
    let going : is_all new.reader.splitter ≡ false = (subst (λ closed. reader.ClosesAt closed new.reader.splitter new.reader.taken) open_ finds.0.closes).0 in
    let stream : IsStream (seen_of g) false places None = subst (λ (a : Bool). IsStream (seen_of g) a places None) going finds.1 in (
      record { read = finds.0; readings = fed.readings; stands = rw same fed.stands; count = units ∙ fed.count; going = first },
      stream,
      (
        ending_by false None (read_on R [] (units_at (seen_of g) places)),
        record { places = places; framing = None; stream = stream; done = ap (λ (o : StreamReading). pictures o.before) (sym fed.readings); ends = refl },
      ),
    )

by_closed : (closed : Option Closed) → IsSome closed → (closed ≡ Some TooLong → ⊥) → (closed ≡ Some Failed → ⊥) → closed ≡ Some closes.End
by_closed None some short going = absurd (cc)
by_closed (Some closes.End) some short going = refl
by_closed (Some TooLong) some short going = absurd (short refl)
by_closed (Some Failed) some short going = absurd (going refl)

-- all bytes came, and no further unit is in them
at_the_end : (g : List ℕ) (places : List UnitPlace) (new : reader.Reading) → reader.Finds g places new (Ok None) → IsSome new.closed → (new.closed ≡ Some Failed → ⊥)
    → (is_all new.splitter ≡ true) × IsStream (seen_of g) true places None
at_the_end g places new finds some going =
    let end = by_closed new.closed some finds.2 going in
    let all : is_all new.splitter ≡ true = (subst (λ closed. reader.ClosesAt closed new.splitter new.taken) end finds.0.closes).0 in
    (all, subst (λ (a : Bool). IsStream (seen_of g) a places None) all finds.1)

-- the end
pub gives_end : (R : Readers) (g : List ℕ) (places : List UnitPlace) (before : List Reading) (old new : Feeding) → HasFed R old g places before
    → reader.Finds g places new.reader (Ok None) → IsSome new.reader.closed → (new.reader.closed ≡ Some Failed → ⊥)
    → Ends before (Ok tt) → Stands new.assembler before → new.units ≡ old.units → new.first ≡ None → Gives R g places before new (Ok (Some End))
gives_end R g places before old new fed finds some failed ends stands units first =
    let end = at_the_end g places new.reader finds some failed in (
      record { read = finds.0; readings = fed.readings; stands = stands; count = units ∙ fed.count; going = first },
      end.1,
      record {
        places = places;
        framing = None;
        stream = end.1;
        done = ap (λ (o : StreamReading). pictures o.before) (sym fed.readings);
        ends = ap (option_map (λ r. record { units = length before; refusal = r })) (sym ends) ∙ ap (ending_by true None) (sym fed.readings);
      },
      by_closed new.reader.closed some finds.2 failed,
      ends,
    )

-- a picture lacks a slice there
pub refused_at_end : (R : Readers) (g : List ℕ) (places : List UnitPlace) (before : List Reading) (old new : Feeding) (fault : AssembleFault) → HasFed R old g places before
    → reader.Finds g places new.reader (Ok None) → IsSome new.reader.closed → (new.reader.closed ≡ Some Failed → ⊥)
    → Ends before (Err fault) → Gives R g places before new (Err (fault_of fault))
refused_at_end R g places before old new assembler.Memory fed finds some failed ends = absurd ends
refused_at_end R g places before old new (assembler.Stopped f) fed finds some failed ends = absurd ends
refused_at_end R g places before old new (assembler.Refused r) fed finds some failed ends =
    let end = at_the_end g places new.reader finds some failed in (
      at_end (record { ended = by_closed new.reader.closed some finds.2 failed; stream = end.1; lacks = ends }),
      rw end.0 (ends_behind R (seen_of g) true places before None r fed.readings end.1 (ap (option_map (λ r. record { units = length before; refusal = r })) ends)),
      ([], rw append-nil finds.0),
      fed.readings,
    )

pub sees_end : {V : Type 0} (sees : List Reading → List ℕ → V) (nothing : V) (R : Readers) (g : List ℕ) (places : List UnitPlace) (before : List Reading) (new : Feeding) (fault : AssembleFault) (seen : V)
    → reader.Finds g places new.reader (Ok None) → IsSome new.reader.closed → (new.reader.closed ≡ Some Failed → ⊥)
    → Ends before (Err fault) → seen ≡ nothing → GivesSeen sees nothing R g places before new (Err (fault_of fault)) seen
sees_end sees nothing R g places before new assembler.Memory seen finds some failed ends is = absurd ends
sees_end sees nothing R g places before new (assembler.Stopped f) seen finds some failed ends is = absurd ends
sees_end sees nothing R g places before new (assembler.Refused r) seen finds some failed ends is =
    let end = at_the_end g places new.reader finds some failed in
    sees_at_end (record { ended = by_closed new.reader.closed some finds.2 failed; stream = end.1; lacks = ends }) is

-- of a feed that goes on, and of one that stops for it
pub still_seen : {V : Type 0} (sees : List Reading → List ℕ → V) (nothing : V) (R : Readers) (g : List ℕ) (places : List UnitPlace) (before : List Reading) (r : reader.Reading) (a : Held) (n : ℕ)
    (f : Option First) (given : Option Taken) (seen : V) → f ≡ None → GivesSeen sees nothing R g places before (feeding r a n) (Ok given) seen
    → GivesSeen sees nothing R g places before (record { reader = r; assembler = a; units = n; first = f }) (Ok given) seen
still_seen sees nothing R g places before r a n f given seen none gives =
    subst (λ (x : Option First). GivesSeen sees nothing R g places before (record { reader = r; assembler = a; units = n; first = x }) (Ok given) seen) (sym none) gives

pub still_seen_refused : {V : Type 0} (sees : List Reading → List ℕ → V) (nothing : V) (R : Readers) (g : List ℕ) (places : List UnitPlace) (before : List Reading) (f f' : Feeding) (fault : FeedFault) (seen : V)
    → f'.reader ≡ f.reader → GivesSeen sees nothing R g places before f (Err fault) seen → GivesSeen sees nothing R g places before f' (Err fault) seen
still_seen_refused sees nothing R g places before f f' faults.Memory seen same gives = tt
still_seen_refused sees nothing R g places before f f' faults.SourceFailed seen same gives = tt
still_seen_refused sees nothing R g places before f f' (faults.Stopped first) seen same gives = tt
still_seen_refused sees nothing R g places before f f' (faults.Refused r) seen same gives = subst (λ a. SeesRefused sees nothing R a g places before r seen) (sym same) gives

-- ---- one read

-- what was read of the units stays
pub feeds_more : (R : Readers) (g piece : List ℕ) (places : List UnitPlace) (before : List Reading) (old new : Feeding) → HasFed R old g places before → reader.IsOpen old.reader → reader.HasRead new.reader (g ++ piece) places
    → new.assembler ≡ old.assembler → new.units ≡ old.units → new.first ≡ None → HasFed R new (g ++ piece) places before
feeds_more R g piece places before old new fed open_ read same units first =
    let going = subst (λ closed. reader.ClosesAt closed old.reader.splitter old.reader.taken) open_ fed.read.closes in
    let short : length g ≤ source_limit = rw source_limit-is (omega (arith, fed.read.taken, going.1)) in
    let more : List ℕ = take (source_limit - length g) piece in
    let seen : seen_of (g ++ piece) ≡ seen_of g ++ more = sym (seen_front source_limit g piece short) ∙ ap (λ l. l ++ more) (sym (take_all source_limit g short)) in
    let follow : FollowsFrom (seen_of g) false 0 places = subst (λ (a : Bool). FollowsFrom (seen_of g) a 0 places) going.0 fed.read.stands.given in
    let stay : units_at (seen_of g ++ more) places ≡ units_at (seen_of g) places = (seen_stays (seen_of g) more false 0 places follow).1 in
    record {
      read = read;
      readings = ap (λ b. read_on R [] (units_at b places)) seen ∙ ap (read_on R []) stay ∙ fed.readings;
      stands = rw same fed.stands;
      count = units ∙ fed.count;
      going = first;
    }

pub reads_more : (R : Readers) (g : List ℕ) (places : List UnitPlace) (before : List Reading) (old new : Feeding) (left left' : Option (List ℕ)) (faults faults' : ℕ) → HasFed R old g places before
    → reader.IsOpen old.reader → ((units : List UnitPlace) → reader.HasRead old.reader g units → reader.Reads g units new.reader left left' faults faults' (Ok tt)) → new.assembler ≡ old.assembler → new.units ≡ old.units → new.first ≡ None
    → ReadsOn R g places before new left left' faults faults' (Ok tt)
reads_more R g places before old new left left' faults faults' fed open_ read same units first =
    let r = read places fed.read in
    (r.0, r.1, r.2, r.3, feeds_more R g r.0 places before old new fed open_ r.4 same units first, r.5)

-- for want of memory, or for a fault, nothing came
pub reads_none : (R : Readers) (g : List ℕ) (places : List UnitPlace) (before : List Reading) (old new : Feeding) (left left' : Option (List ℕ)) (faults faults' : ℕ) (fault : ReadFault) → HasFed R old g places before
    → ((units : List UnitPlace) → reader.HasRead old.reader g units → reader.Reads g units new.reader left left' faults faults' (Err fault))
    → ReadsOn R g places before new left left' faults faults' (Err fault)
reads_none R g places before old new left left' faults faults' Memory fed read = let r = read places fed.read in (r.0, r.1)
reads_none R g places before old new left left' faults faults' SourceFailed fed read = let r = read places fed.read in (r.0, r.1)

-- ---- nothing was read

pub feeds_first : (R : Readers) (f : Feeding) → reader.HasRead f.reader [] [] → Stands f.assembler [] → f.units ≡ 0 → f.first ≡ None → HasFed R f [] [] []
feeds_first R f read stands units first = record { read = read; readings = refl; stands = stands; count = units; going = first }

-- ---- a read that failed, or found no memory, isn't the end
pub unended : (old new : reader.Reading) (fault : ReadFault) → reader.IsOpen old → (fault ≡ Memory → new ≡ old) → (fault ≡ SourceFailed → new.closed ≡ Some Failed) → new.closed ≡ Some closes.End → ⊥
unended old new Memory open_ memory failed end = let same = ap (λ (x : reader.Reading). x.closed) (memory refl) in absurd (cc)
unended old new SourceFailed open_ memory failed end = let is = failed refl in absurd (cc)

-- ---- what it holds

pub few_bytes : (r : reader.Reading) (h : Held) → reader.HoldsFew r → IsBounded h → held r.splitter + length h.state.picture.bytes ≤ most_held
few_bytes r h few bounded = omega (arith, few, bounded.bytes)
