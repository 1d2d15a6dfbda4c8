-- A feed of bytes in memory: what it answers, by what its splitter and its assembler answered.
use Rattle.std.proofs.Common.{◌≡◌, ℕ, ◌+◌, ◌<◌, ◌≤◌, nat_le, cond, List, [], ◌∷◌, ◌++◌, ◌∙◌, Option, Some, None, Ok, Err, Bool, true, false, length, take, drop, sym, ap, refl, subst, arith}
use Rattle.std.proofs.lemmas.Bool.{le-leb, lt-leb}
use Rattle.std.proofs.lemmas.List.{length-take, take_min, take-append-le, take-append-drop, length-take-le, map-append}
use Rattle.std.proofs.Math.Nat.{min_comm}
use Rattle.std.specs.Prelude.{Result, OnSome, slice_range, min}
use Rattle.vx_annexb.specs.NalUnit.{header_of}
use Rattle.vx_annexb.specs.declared.span.Span.{Span}
use Rattle.vx_annexb.specs.declared.unit_reader.Closed.{Closed}
use Rattle.vx_annexb.specs.declared.unit_reader.Closed.TheVariants as closes
use Rattle.vx_annexb.specs.ByteStream.{source_limit, UnitPlace, unit_bytes, FollowsFrom}
use Rattle.vx_annexb.specs.Held.{Held as Splitting, Stands as Splits, is_all, lent}
use Rattle.vx_annexb.specs.Reading as reader
use Rattle.vx_annexb.proofs.Taking.{source_limit-is}
use Rattle.vx_annexb.proofs.Unique.{follow_front}
use Rattle.vx_pic.specs.declared.accepted.Accepted.{Accepted}
use Rattle.vx_pic.specs.declared.accepted.Accepted.TheVariants as accepted
use Rattle.vx_pic.specs.Readings.{Reading, Picture, pictures}
use Rattle.vx_pic.specs.Rules.{Readers, reads}
use Rattle.vx_pic.specs.Streams.{StreamReading, pictures_of}
use Rattle.vx_pic.specs.H266.{AreOfH266}
use Rattle.vx_pic.specs.Bytes.{Ending, units_at, ArePictures, AreSourcePictures}
use Rattle.vx_pic.specs.Told.{told_of}
use Rattle.vx_pic.proofs.Going.{pictures_stay}
use Rattle.vx_pic.proofs.Stream.{pictures_unique}
use Rattle.vx_assemble.specs.declared.fault.AssembleFault.{AssembleFault}
use Rattle.vx_assemble.specs.declared.fault.AssembleFault.TheVariants as faults
use Rattle.vx_assemble.specs.declared.fault.First.{First}
use Rattle.vx_assemble.specs.declared.feed.Step.{Step}
use Rattle.vx_assemble.specs.declared.feed.Step.TheVariants as steps
use Rattle.vx_assemble.specs.declared.feed.Taken.TheVariants.{Nal}
use Rattle.vx_assemble.specs.Held.{Held, Stands, Takes, ShowsLatest, lent_by}
use Rattle.vx_assemble.specs.Feed.{Feeding, seen_of, HasFed}
use Rattle.vx_assemble.specs.Memory.{closed_at, given, HasSeen, Sees}
use Rattle.vx_assemble.specs.inner.Feed.{Accepts, fault_of, feeding}
use Rattle.vx_assemble.specs.inner.Memory.{IsGiven, GivesUnit, step_at, SeesOn, PassesOn}
use Rattle.vx_assemble.proofs.Advancing.{unit_done, unit_not_done}
use Rattle.vx_assemble.proofs.Feeding.{gives_unit, refused_by_unit}

-- ---- the bytes

-- what may be looked at
pub seen_by_count : (bytes : List ℕ) → take (min (length bytes) 1099511627776) bytes ≡ seen_of bytes
seen_by_count bytes = rw (← source_limit-is) (ap (λ n. take n bytes) (min_comm (length bytes) source_limit) ∙ take_min source_limit bytes)

pub few_seen : (bytes : List ℕ) → length (seen_of bytes) ≤ 1099511627776
few_seen bytes = let is : length (take source_limit bytes) ≡ min source_limit (length bytes) = length-take source_limit bytes in omega (arith, is, source_limit-is)

-- why no more is read
closed_end : (n : ℕ) → n ≤ 1099511627776 → closed_at n ≡ closes.End
closed_end n few = ap (λ b. cond b closes.End closes.TooLong) (le-leb n 1099511627776 few)

pub is_long : (n : ℕ) → 1099511627776 < n → Some (closed_at n) ≡ Some closes.TooLong
is_long n many = ap (λ b. Some (cond b closes.End closes.TooLong)) (lt-leb n 1099511627776 many)

pub isnt_long : (n : ℕ) → n ≤ 1099511627776 → Some (closed_at n) ≡ Some closes.TooLong → ⊥
isnt_long n few long = let end = closed_end n few in absurd (cc)

pub isnt_failed : (n : ℕ) → n ≤ 1099511627776 → Some (closed_at n) ≡ Some closes.Failed → ⊥
isnt_failed n few failed = let end = closed_end n few in absurd (cc)

-- there are no more bytes
pub given_all : (bytes : List ℕ) (h : Splitting) → length bytes ≤ 1099511627776 → Splits h (seen_of bytes) [] → is_all h ≡ true → IsGiven bytes h (length bytes)
given_all bytes h few stands all =
    let within : length bytes ≤ source_limit = rw source_limit-is few in
    let end : Some (closed_at (length bytes)) ≡ Some closes.End = ap (λ (c : Closed). Some c) (closed_end (length bytes) few) in
    record {
      front = bytes;
      read = record { taken = refl; closes = subst (λ c. reader.ClosesAt c h (length bytes)) (sym end) (all, few); stands = stands };
      seen = refl;
      all = all ∙ sym (le-leb (length bytes) source_limit within);
    }

-- or there are more
module _ (limit : ℕ) (bytes : List ℕ) (long : limit < length bytes) where
  front_long : length (take (limit + 1) bytes) ≡ limit + 1
  front_long = length-take-le (limit + 1) bytes (omega (arith, long))

  front_seen : take limit (take (limit + 1) bytes) ≡ take limit bytes
  front_seen =
      sym (take-append-le limit (take (limit + 1) bytes) (drop (limit + 1) bytes) (omega (arith, front_long))) ∙ ap (take limit) (take-append-drop (limit + 1) bytes)

pub given_long : (bytes : List ℕ) (h : Splitting) → 1099511627776 < length bytes → Splits h (seen_of bytes) [] → is_all h ≡ false → IsGiven bytes h 1099511627777
given_long bytes h many stands all =
    let long : source_limit < length bytes = rw source_limit-is many in
    let front = take (source_limit + 1) bytes in
    let seen = front_seen source_limit bytes long in
    record {
      front = front;
      read = record {
        taken = front_long source_limit bytes long ∙ ap (λ n. n + 1) source_limit-is;
        closes = (all, refl);
        stands = subst (λ l. Splits h l []) (sym seen) stands;
      };
      seen = seen;
      all = all ∙ sym (lt-leb (length bytes) source_limit long);
    }

-- no picture was come to yet
pub seen_none : (R : Readers) (bytes : List ℕ) (h : Splitting) (n : ℕ) (a : Held) → IsGiven bytes h n → Stands a []
    → HasSeen R (record { reader = given h n; assembler = a; units = 0; first = None }) bytes []
seen_none R bytes h n a is stands = record {
  front = is.front;
  places = [];
  before = [];
  fed = record { read = is.read; readings = refl; stands = stands; count = refl; going = refl };
  seen = is.seen;
  all = is.all;
  done = refl;
}

-- ---- a unit

-- it was taken
pub takes_unit : (R : Readers) (g : List ℕ) (places : List UnitPlace) (before : List Reading) (old new : Feeding) (span : Span) (unit : List ℕ) (what : Accepted)
    → HasFed R old g places before → reader.Finds g places new.reader (Ok (Some span)) → unit ≡ slice_range (lent new.reader.splitter) span.start span.end
    → Takes (reads R before unit) before new.assembler (Ok what) → new.units ≡ old.units + 1 → new.first ≡ None → GivesUnit R g places before new (Ok (Some what))
takes_unit R g places before old new span unit what fed finds lends takes units first = (
  header_of unit,
  span.offset,
  length unit,
  gives_unit R g places before old new span unit (Nal (header_of unit) span.offset (length unit) what) fed finds lends (takes, refl, refl, refl) units first,
)

-- or refused
pub accepts_none : (R : Readers) (before : List Reading) (new : Held) (unit : List ℕ) (place : ℕ) (fault : AssembleFault) → Takes (reads R before unit) before new (Err fault)
    → Accepts R before new unit place (Err (fault_of fault))
accepts_none R before new unit place faults.Memory takes = tt
accepts_none R before new unit place (faults.Refused r) takes = takes
accepts_none R before new unit place (faults.Stopped f) takes = absurd takes

pub refuses_unit : (R : Readers) (g : List ℕ) (places : List UnitPlace) (before : List Reading) (old new : Feeding) (span : Span) (unit : List ℕ) (fault : AssembleFault)
    → HasFed R old g places before → reader.Finds g places new.reader (Ok (Some span)) → unit ≡ slice_range (lent new.reader.splitter) span.start span.end
    → Takes (reads R before unit) before new.assembler (Err fault) → GivesUnit R g places before new (Err fault)
refuses_unit R g places before old new span unit fault fed finds lends takes =
    refused_by_unit R g places before old new span unit (fault_of fault) fed finds lends (accepts_none R before new.assembler unit span.offset fault takes)

-- ---- the pictures of the bytes

module _ (R : Readers) (bytes : List ℕ) (qs : List Picture) (ending : Option Ending) (are : AreSourcePictures R bytes qs ending) where
  -- those that were come to are the first ones
  begin : (f : Feeding) (ps : List Picture) → HasSeen R f bytes ps → (later : List Picture) × (qs ≡ later ++ ps)
  begin f ps h =
      let b = seen_of bytes in
      let all = nat_le (length bytes) source_limit in
      let follow = subst (λ (l : List ℕ). FollowsFrom l all 0 h.places) h.seen (subst (λ (a : Bool). FollowsFrom (seen_of h.front) a 0 h.places) h.all h.fed.read.stands.given) in
      let front = follow_front b all 0 h.places are.places are.framing follow are.stream.follow are.stream.behind in
      let stay = pictures_stay R (units_at b h.places) (units_at b front.0) in
      let here : pictures_of R (units_at b h.places) ≡ ps =
      ap (λ l. pictures_of R (units_at l h.places)) (sym h.seen) ∙ ap (λ (o : StreamReading). pictures o.before) h.fed.readings ∙ h.done in (
        stay.0,
        are.done
            ∙ ap (λ us. pictures_of R (units_at b us)) front.1
            ∙ ap (pictures_of R) (map-append (unit_bytes b) h.places front.0)
            ∙ stay.1
            ∙ ap (λ l. stay.0 ++ l) here,
      )

  module _ (f new : Feeding) (ps : List Picture) (h : HasSeen R f bytes ps) (all : is_all new.reader.splitter ≡ is_all f.reader.splitter) where
    -- one more unit was taken
    more : (u : UnitPlace) (r : Reading) → HasFed R new h.front (h.places ++ u ∷ []) (r ∷ h.before) → (l : List Picture) → pictures (r ∷ h.before) ≡ l → HasSeen R new bytes l
    more u r fed l is = record {
      front = h.front;
      places = h.places ++ u ∷ [];
      before = r ∷ h.before;
      fed = fed;
      seen = h.seen;
      all = all ∙ h.all;
      done = is;
    }

    -- that completes no picture
    passes : (what : Accepted) → (what ≡ accepted.PictureDone → ⊥) → GivesUnit R h.front h.places h.before new (Ok (Some what)) → HasSeen R new bytes ps
    passes what other gives =
        let unit = gives.3 in
        let not_ : told_of unit.1 h.before ≡ accepted.PictureDone → ⊥ = λ e. other (unit.3.what ∙ e) in
        more unit.0 unit.1 unit.2 ps (unit_not_done unit.1 h.before not_ ∙ h.done)

    -- that completes one
    comes : GivesUnit R h.front h.places h.before new (Ok (Some accepted.PictureDone))
        → ((before : List Reading) → Stands new.assembler before → ShowsLatest (lent_by new.assembler) (pictures before)) → Sees R bytes qs ending ps new (Ok steps.Picture)
    comes gives lends =
        let unit = gives.3 in
        let whole = unit_done unit.1 h.before (sym unit.3.what) in
        let is : pictures (unit.1 ∷ h.before) ≡ whole.0 ∷ ps = whole.1 ∙ ap (λ l. whole.0 ∷ l) h.done in
        let seen = more unit.0 unit.1 unit.2 (whole.0 ∷ ps) is in
        (whole.0, seen, begin new (whole.0 ∷ ps) seen, subst (λ (l : List Picture). ShowsLatest (lent_by new.assembler) l) is (lends (unit.1 ∷ h.before) unit.2.stands))

    -- what is known of what was given is known of the bytes
    of_bytes : (e : Option Ending) → ArePictures R (seen_of h.front) (is_all new.reader.splitter) (pictures h.before) e → (qs ≡ ps) × (ending ≡ e)
    of_bytes e there =
        let whole = nat_le (length bytes) source_limit in
        let at = subst (λ (l : List ℕ). ArePictures R l (is_all new.reader.splitter) (pictures h.before) e) h.seen there in
        let here = subst (λ (l : List Picture). ArePictures R (seen_of bytes) whole l e) h.done (subst (λ (a : Bool). ArePictures R (seen_of bytes) a (pictures h.before) e) (all ∙ h.all) at) in
        pictures_unique R (seen_of bytes) whole qs ps ending e are here

    -- the end
    ends : GivesUnit R h.front h.places h.before new (Ok None) → Sees R bytes qs ending ps new (Ok steps.End)
    ends gives =
        let closed = subst (λ (c : Option Closed). reader.ClosesAt c new.reader.splitter new.reader.taken) gives.3 gives.0.read.closes in
        let same = of_bytes None (subst (λ (a : Bool). ArePictures R (seen_of h.front) a (pictures h.before) None) (sym closed.0) gives.2) in (
          record { front = h.front; places = h.places; before = h.before; fed = gives.0; seen = h.seen; all = all ∙ h.all; done = h.done },
          same.0,
          same.1,
        )

    -- why there is none
    pub sees_stop : (last : Feeding) (fault : AssembleFault) → last.units ≡ f.units → GivesUnit R h.front h.places h.before new (Err fault) → Sees R bytes qs ending ps last (Err fault)
    sees_stop last faults.Memory kept gives = tt
    sees_stop last (faults.Stopped first) kept gives = absurd gives
    sees_stop last (faults.Refused r) kept gives =
        let one = of_bytes (Some (record { units = length h.places; refusal = r })) gives.1 in
        (one.0, one.1 ∙ ap (λ n. Some (record { units = n; refusal = r })) (sym (kept ∙ h.fed.count)))

    -- where that comes to
    sees_by : (what : Option Accepted) → GivesUnit R h.front h.places h.before new (Ok what)
        → (what ≡ Some accepted.PictureDone → (before : List Reading) → Stands new.assembler before → ShowsLatest (lent_by new.assembler) (pictures before))
        → SeesOn R bytes qs ending ps new (Ok (step_at what))
    sees_by None gives lends = ends gives
    sees_by (Some accepted.PictureDone) gives lends = comes gives (lends refl)
    sees_by (Some accepted.Nothing) gives lends = passes accepted.Nothing (λ e. absurd (cc)) gives
    sees_by (Some accepted.Vps) gives lends = passes accepted.Vps (λ e. absurd (cc)) gives
    sees_by (Some (accepted.Sps id)) gives lends = passes (accepted.Sps id) (λ e. absurd (cc)) gives
    sees_by (Some (accepted.Pps id)) gives lends = passes (accepted.Pps id) (λ e. absurd (cc)) gives
    sees_by (Some (accepted.Aps kind id)) gives lends = passes (accepted.Aps kind id) (λ e. absurd (cc)) gives

  -- of a feed that goes on
  pub sees_step : (f : Feeding) (ps : List Picture) (h : HasSeen R f bytes ps) (r : reader.Reading) (a : Held) (n : ℕ) (first : Option First) (what : Option Accepted) (step : Option Step)
      → first ≡ None → step ≡ step_at what → is_all r.splitter ≡ is_all f.reader.splitter → GivesUnit R h.front h.places h.before (feeding r a n) (Ok what)
      → (what ≡ Some accepted.PictureDone → (before : List Reading) → Stands a before → ShowsLatest (lent_by a) (pictures before))
      → SeesOn R bytes qs ending ps (record { reader = r; assembler = a; units = n; first = first }) (Ok step)
  sees_step f ps h r a n first what step none is all gives lends =
      let here = sees_by f (feeding r a n) ps h all what gives lends in
      let stepped = subst (λ (s : Option Step). SeesOn R bytes qs ending ps (feeding r a n) (Ok s)) (sym is) here in
      subst (λ (x : Option First). SeesOn R bytes qs ending ps (record { reader = r; assembler = a; units = n; first = x }) (Ok step)) (sym none) stepped

-- what it was, by where that comes to
pub picture_by : (what : Option Accepted) (step : Option Step) (r : Result (Option Step) AssembleFault) → step ≡ step_at what → r ≡ Ok step
    → r ≡ Ok (Some steps.Picture) → what ≡ Some accepted.PictureDone
picture_by None step r at_ is picture = absurd (cc)
picture_by (Some accepted.PictureDone) step r at_ is picture = refl
picture_by (Some accepted.Nothing) step r at_ is picture = absurd (cc)
picture_by (Some accepted.Vps) step r at_ is picture = absurd (cc)
picture_by (Some (accepted.Sps id)) step r at_ is picture = absurd (cc)
picture_by (Some (accepted.Pps id)) step r at_ is picture = absurd (cc)
picture_by (Some (accepted.Aps kind id)) step r at_ is picture = absurd (cc)

pub falls_by : {P : Type 0} (what : Option Accepted) (step : Option Step) (r : Result (Option Step) AssembleFault) → step ≡ step_at what → r ≡ Ok step
    → r ≡ Ok None → OnSome what P → P
falls_by None step r at_ is none falls = absurd (cc)
falls_by (Some what) step r at_ is none falls = falls

-- ---- a call that advances

-- it begins
pub seeks_first : (f : Feeding) → PassesOn f f
seeks_first f = record { passes = λ R of bytes ps qs ending seen are. seen; stopped = λ first is. refl }

-- a unit that completes no picture was taken
pub seeks_more : (old f f1 : Feeding) → PassesOn old f
    → ((R : Readers) → AreOfH266 R → (bytes : List ℕ) (ps qs : List Picture) (ending : Option Ending) → HasSeen R f bytes ps → AreSourcePictures R bytes qs ending → HasSeen R f1 bytes ps)
    → ((first : First) → f.first ≡ Some first → ⊥) → PassesOn old f1
seeks_more old f f1 t answer fine = record {
  passes = λ R of bytes ps qs ending seen are. answer R of bytes ps qs ending (t.passes R of bytes ps qs ending seen are) are;
  stopped = λ first is. absurd (fine first (ap (λ (x : Feeding). x.first) (t.stopped first is) ∙ is));
}
