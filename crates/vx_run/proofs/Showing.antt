-- What was shown of a source, from read to read, and what that comes to when `show` ends.
use Rattle.std.proofs.Common.{◌≡◌, ℕ, ◌+◌, ◌^◌, ◌<◌, ◌≤◌, List, [], ◌∷◌, ◌++◌, ◌∙◌, Option, Some, None, Ok, Err, Bool, true, false, length, take, inl, inr, sym, ap, refl, subst, arith, append_assoc, append-nil}
use Rattle.std.proofs.Math.Seq.{take_all, take-append_seam}
use Rattle.std.specs.Io.KnownBytes.{Consumes, IsAtEnd}
use Rattle.std.proofs.KnownBytes.{Consumes-nil, Consumes-trans, Consumes-kept}
use Rattle.vx_bits.specs.declared.refusal.Refusal.{Refusal}
use Rattle.vx_bits.specs.declared.refusal.Refusal.TheVariants.{Limit}
use Rattle.vx_annexb.specs.ByteStream.{source_limit, UnitPlace, unit_bytes, IsStream, FollowsFrom, end_of}
use Rattle.vx_annexb.specs.Held.{is_all, fed, IsSought}
use Rattle.vx_annexb.specs.Reading.{Reading as ReaderState, HasRead, ClosesAt}
use Rattle.vx_annexb.specs.declared.unit_reader.Closed.{Closed}
use Rattle.vx_annexb.specs.declared.unit_reader.Closed.TheVariants.{End, TooLong, Failed}
use Rattle.vx_annexb.specs.declared.unit_reader.ReadFault.TheVariants.{Memory, SourceFailed}
use Rattle.vx_io.specs.Faults.{Rose}
use Rattle.vx_pic.specs.Readings.{Reading, pictures}
use Rattle.vx_pic.specs.Rules.{Readers}
use Rattle.vx_pic.specs.Streams.{read_on, all_read, lacks_slice}
use Rattle.vx_pic.specs.Bytes.{Ending, units_at}
use Rattle.vx_assemble.specs.declared.feed.Taken.TheVariants.{End as Ended}
use Rattle.vx_assemble.specs.Feed.{Feeding, HasFed, IsOpen, Gives, UnitIsRefused, IsRefusedFor, by_bytes, by_unit, at_end, ReadsOn as Reads}
use Rattle.vx_run.specs.declared.stop.Place.TheVariants as places
use Rattle.vx_run.specs.declared.stop.Stop.{Stop}
use Rattle.vx_run.specs.declared.stop.Stop.TheVariants.{NotUnderstood, Mismatched, Refused, ReadFault, WriteFault, NoMemory}
use Rattle.vx_run.specs.Change.{Change, change, Gains, GainsFront}
use Rattle.vx_run.specs.Show.{Teller, shown_lines, lines_behind, read_len, IsShown, IsToldAt, ShowsFront, ShowsBy}
use Rattle.vx_assemble.specs.Feed.{seen_of}
use Rattle.vx_run.specs.inner.Showing.{EndsBy, SeesNone, ReadsOn, TellsLast, told_refused, WritesLines, ShowsLater, HasShown, HasReached, left_to_read}
use Rattle.vx_run.proofs.Gained.{Gains-nothing, Gains-then, GainsFront-then, GainsFront-append}
use Rattle.vx_run.proofs.Lined.{lines_more, lines_refused}
use Rattle.vx_run.proofs.Told.{IsGiven, IsOf, near, last_beyond, follows_behind, shown_lines_on, lines_of_given, units_of_given, first_of_given, refused_at, ends_by_framing, ends_by_length, ends_lacking, ends_whole, ends_by_unit}

-- ---- what a reader tells of its source

-- it holds all bytes exactly where the source has ended
pub is_end : (closed : Option Closed) (r : ReaderState) → ClosesAt closed r.splitter r.taken → is_all r.splitter ≡ true → (closed ≡ Some End) × (r.taken ≤ source_limit)
unfolding source_limit
is_end None r closes all = absurd (cc)
is_end (Some End) r closes all = (refl, closes.1)
is_end (Some TooLong) r closes all = absurd (cc)
is_end (Some Failed) r closes all = absurd (cc)

-- where the source has ended, it does
pub has_ended : (r : ReaderState) (g : List ℕ) (units : List UnitPlace) → HasRead r g units → r.closed ≡ Some End → is_all r.splitter ≡ true
has_ended r g units read end = (subst (λ closed. ClosesAt closed r.splitter r.taken) end read.closes).0

-- while it may read on, the source has given no more bytes than the limit, and not all of them
is_going : (r : ReaderState) (g : List ℕ) (units : List UnitPlace) → HasRead r g units → r.closed ≡ None → (is_all r.splitter ≡ false) × (length g ≤ source_limit)
unfolding source_limit
is_going r g units read going =
    let at = subst (λ closed. ClosesAt closed r.splitter r.taken) going read.closes in
    (at.0, subst (λ n. n ≤ source_limit) (sym read.taken) at.1)

-- a source that is too long has given one byte more than the limit
pub is_long : (r : ReaderState) (g : List ℕ) (units : List UnitPlace) → HasRead r g units → r.closed ≡ Some TooLong → (is_all r.splitter ≡ false) × (length g ≡ source_limit + 1)
unfolding source_limit
is_long r g units read long =
    let at = subst (λ closed. ClosesAt closed r.splitter r.taken) long read.closes in
    (at.0, read.taken ∙ at.1)

-- of a source that tells its bytes
pub is_given : (b given : List ℕ) (units : List UnitPlace) (r : ReaderState) (left left' : Option (List ℕ)) → left ≡ Some b → Consumes left left' given → HasRead r given units → (r.closed ≡ Some End → IsAtEnd left') → IsGiven b given (is_all r.splitter)
is_given b given units r None left' told gave read ended = absurd (cc)
is_given b given units r (Some b') None told gave read ended = absurd gave
is_given b given units r (Some b') (Some rest) told gave read ended = record {
  rest = rest;
  front = subst (λ (o : Option (List ℕ)). Consumes o (Some rest) given) told gave;
  whole = λ all. let at = is_end r.closed r read.closes all in (ended at.0, subst (λ n. n ≤ source_limit) (sym read.taken) at.1);
}

-- a feed that can't be read on, and isn't refused, has come to the end of its source
is_closed : (closed : Option Closed) (before : List Reading) → EndsBy closed before → (closed ≡ None → ⊥) → (closed ≡ Some End) × (lacks_slice before ≡ None)
is_closed None before ends closed = absurd (closed refl)
is_closed (Some End) before ends closed = (refl, ends)
is_closed (Some TooLong) before ends closed = absurd ends
is_closed (Some Failed) before ends closed = absurd ends

-- all was read, and all is well
pub sees_end : (R : Readers) (f : Feeding) (g : List ℕ) (units : List UnitPlace) (before : List Reading) → Gives R g units before f (Ok (Some Ended)) → SeesNone R f g units before
sees_end R f g units before gives = record {
  fed = gives.0;
  stream = subst (λ (a : Bool). IsStream (seen_of g) a units None) (sym (has_ended f.reader g units gives.0.read gives.3)) gives.1;
  ends = subst (λ (c : Option Closed). EndsBy c before) (sym gives.3) gives.4;
}

-- more may be read
pub sees_none : (R : Readers) (f : Feeding) (g : List ℕ) (units : List UnitPlace) (before : List Reading) → IsOpen f → Gives R g units before f (Ok None) → SeesNone R f g units before
sees_none R f g units before going gives = record {
  fed = gives.0;
  stream = subst (λ (a : Bool). IsStream (seen_of g) a units None) (sym (is_going f.reader g units gives.0.read going.reader).0) gives.1;
  ends = subst (λ (c : Option Closed). EndsBy c before) (sym going.reader) tt;
}

-- readers that refuse everything
no_readers : Readers
no_readers = record {
  vps = λ b. Err (Limit 0);
  sps = λ b. Err (Limit 0);
  pps = λ b. Err (Limit 0);
  aps = λ b. Err (Limit 0);
  sei = λ b. [];
  layout = λ s p. Err (Limit 0);
  referred_pps = λ inside b. Err (Limit 0);
  header = λ inside s p b. Err (Limit 0);
  slice = λ t b u. Err (Limit 0);
}

-- a feed that has read nothing has no byte to seek
pub new_sought : (f : Feeding) → ((R : Readers) → HasFed R f [] [] []) → IsSought f.reader.splitter
new_sought f read =
    let none : 0 ≡ fed f.reader.splitter = ap (λ (l : List ℕ). length l) (sym (take_all source_limit [] (omega arith))) ∙ (read no_readers).read.stands.taken in
    omega (arith, none)

-- a read leaves less to be read
pub reads_less : (closed closed' : Option Closed) (taken taken' : ℕ) → closed ≡ None → taken ≤ 2 ^ 40 → (closed' ≡ None → taken < taken') → left_to_read closed' taken' < left_to_read closed taken
reads_less (Some c) closed' taken taken' going within grows = absurd (cc)
reads_less None None taken taken' going within grows = omega (arith, grows refl, within)
reads_less None (Some c) taken taken' going within grows = omega (arith, within)

-- a refusal at its place
pub told_at : (ending : Option Ending) (n : ℕ) (refusal : Refusal) → ending ≡ refused_at n refusal → IsToldAt ending refusal (places.Unit 0 n)
told_at ending n refusal is = record { first = record { units = n; refusal = refusal }; is = is; refusal = refl; place = refl }

-- ---- the lines of the units of a source that tells its bytes
module _ {K : Type 0} (R : Readers) (T : Teller) (out : Change K) (b given : List ℕ) (us vs : List UnitPlace) (before : List Reading) where
  -- all of them
  gains_told : (all : Bool) → IsGiven b given all → FollowsFrom (seen_of given) all 0 us → vs ≡ us → Gains out (shown_lines R T given us) → Gains out (shown_lines R T b vs)
  gains_told all is follow same lines =
      subst (λ (l : List ℕ). Gains out l) (sym (ap (shown_lines R T b) same ∙ lines_of_given R T b given all us is follow)) lines

  -- those of the first
  gains_first : (t : Option Refusal) (all : Bool) → IsGiven b given all → FollowsFrom (seen_of given) all 0 us → IsOf b vs t → Gains out (shown_lines R T given us) → (n : ℕ) × Gains out (shown_lines R T b (take n vs))
  gains_first t all is follow whole lines =
      let first = first_of_given b given all us vs t is follow whole in
      let same : take (length us) vs ≡ us = ap (take (length us)) first.1 ∙ take-append_seam us first.0 in
      (length us, subst (λ (l : List ℕ). Gains out l) (sym (ap (shown_lines R T b) same ∙ lines_of_given R T b given all us is follow)) lines)

  -- with what is told of a unit that is refused behind them
  with_refused : (f : ReaderState) (ending : Option Ending) (r : Refusal) (u : UnitIsRefused R f given us before r) (told : List ℕ) → IsGiven b given (is_all f.splitter) → FollowsFrom (seen_of given) (is_all f.splitter) 0 us
      → read_on R [] (units_at (seen_of given) us) ≡ all_read before → IsShown R b vs ending → told ≡ T before (unit_bytes (seen_of given) u.unit)
      → (ending ≡ refused_at (length us) r) × (shown_lines R T given us ++ told ≡ shown_lines R T b vs)
  with_refused f ending r u told is follow read shown tells =
      let one = ends_by_unit R b given us vs before ending shown (is_all f.splitter) u.unit r is u.follows follow read u.refused in (
        one.0,
        ap (λ l. shown_lines R T given us ++ l) tells
            ∙ ap (λ l. l ++ T before (unit_bytes (seen_of given) u.unit)) (sym (lines_of_given R T b given (is_all f.splitter) us is follow))
            ∙ sym (one.1 T),
      )

  -- a front of them
  front_told : (f : ReaderState) (ending : Option Ending) (told : List ℕ) → IsGiven b given (is_all f.splitter) → FollowsFrom (seen_of given) (is_all f.splitter) 0 us → read_on R [] (units_at (seen_of given) us) ≡ all_read before
      → IsShown R b vs ending → TellsLast R T f given us before told → GainsFront out (shown_lines R T given us ++ told) → GainsFront out (shown_lines R T b vs)
  front_told f ending told is follow read shown (inl none) front =
      let first = first_of_given b given (is_all f.splitter) us vs shown.framing is follow shown.stream in
      let whole : shown_lines R T given us ++ told ≡ shown_lines R T b us = ap (λ l. shown_lines R T given us ++ l) none ∙ append-nil (shown_lines R T given us) ∙ sym (lines_of_given R T b given (is_all f.splitter) us is follow) in
      let here = subst (λ (l : List ℕ). GainsFront out l) whole front in
      let there : read_on R [] (units_at (seen_of b) us) ≡ all_read before = ap (λ l. read_on R [] l) (units_of_given b given (is_all f.splitter) us is follow) ∙ read in
      let later = lines_behind R T (seen_of b) before first.0 in
      subst (λ (l : List ℕ). GainsFront out l) (sym (ap (shown_lines R T b) first.1 ∙ lines_more R T (seen_of b) [] before us first.0 there)) (GainsFront-append out (shown_lines R T b us) later here)
  front_told f ending told is follow read shown (inr (r, u, tells)) front =
      subst (λ (l : List ℕ). GainsFront out l) (with_refused f ending r u told is follow read shown tells).1 front

  gains_alone : (told : List ℕ) → told ≡ [] → Gains out (shown_lines R T given us ++ told) → Gains out (shown_lines R T given us)
  gains_alone told none gained = subst (λ (l : List ℕ). Gains out l) (ap (λ l. shown_lines R T given us ++ l) none ∙ append-nil (shown_lines R T given us)) gained

  -- a refusal and the lines before it
  refused_told : (f : ReaderState) (refusal : Refusal) (ending : Option Ending) (all : Bool) (told : List ℕ) → is_all f.splitter ≡ all → (f.closed ≡ Some End → all ≡ true) → (f.closed ≡ Some TooLong → (all ≡ false) × (length given ≡ source_limit + 1))
      → IsGiven b given all → FollowsFrom (seen_of given) all 0 us → read_on R [] (units_at (seen_of given) us) ≡ all_read before → IsShown R b vs ending → Gains out (shown_lines R T given us ++ told)
      → (why : IsRefusedFor R f given us before refusal) → told ≡ told_refused T why → IsToldAt ending refusal (places.Unit 0 (length us)) × Gains out (shown_lines R T b vs)
  refused_told f refusal ending all told same end long is follow read shown gained (by_bytes (inl stream)) none =
      let one = ends_by_framing R b given us vs before ending shown all refusal is read (subst (λ (a : Bool). IsStream (seen_of given) a us (Some refusal)) same stream) in
      (told_at ending (length us) refusal one.1, gains_told all is follow one.0 (gains_alone told none gained))
  refused_told f refusal ending all told same end long is follow read shown gained (by_bytes (inr too)) none =
      let at = long too.1 in
      let one = ends_by_length R b given us vs before ending shown refusal too.2 (subst (λ (a : Bool). IsGiven b given a) at.0 is) at.1 read too.0 in
      (told_at ending (length us) refusal one.1, gains_told all is follow one.0 (gains_alone told none gained))
  refused_told f refusal ending all told same end long is follow read shown gained (by_unit u) tells =
      let one = with_refused f ending refusal u told (subst (λ (a : Bool). IsGiven b given a) (sym same) is) (subst (λ (a : Bool). FollowsFrom (seen_of given) a 0 us) (sym same) follow) read shown tells in
      (told_at ending (length us) refusal one.0, subst (λ (l : List ℕ). Gains out l) one.1 gained)
  refused_told f refusal ending all told same end long is follow read shown gained (at_end e) none =
      let one = ends_lacking R b given us vs before ending shown refusal e.lacks (subst (λ (a : Bool). IsGiven b given a) (end e.ended) is) read e.stream in
      (told_at ending (length us) refusal one.1, gains_told all is follow one.0 (gains_alone told none gained))

-- the first unit of some, and of one more
with_first : (P Q : List UnitPlace → Type 0) {C : Type 0} (us : List UnitPlace) (u : UnitPlace) → ((v : UnitPlace) (vs : List UnitPlace) → P (v ∷ vs) → Q (v ∷ vs) → C) → P (us ++ u ∷ []) → Q (us ++ u ∷ []) → C
with_first P Q [] u from p q = from u [] p q
with_first P Q (v ∷ vs) u from p q = from v (vs ++ u ∷ []) p q

-- a list that is not empty has a last entry
split_last : (u : UnitPlace) (us : List UnitPlace) → (before : List UnitPlace) × (last : UnitPlace) × (u ∷ us ≡ before ++ last ∷ [])
split_last u [] = ([], u, refl)
split_last u (v ∷ us) = let rest = split_last v us in (u ∷ rest.0, rest.1, ap (λ (l : List UnitPlace). u ∷ l) rest.2)

-- ---- a source and `out`, from read to read
module _ {A K : Type 0} (left : A → Option (List ℕ)) (reads : A → ℕ) (taken : K → Option (List ℕ)) (writes : K → ℕ) (R : Readers) (T : Teller) where
  abbrev pub Source : A → A → Change A
  Source = change left reads

  abbrev pub Out : K → K → Change K
  Out = change taken writes

  -- the lines of units, and those of later ones with what is told behind them
  both_told : (g : List ℕ) (us later : List UnitPlace) (before : List Reading) (told : List ℕ) → read_on R [] (units_at (seen_of g) us) ≡ all_read before
      → shown_lines R T g us ++ (lines_behind R T (seen_of g) before later ++ told) ≡ shown_lines R T g (us ++ later) ++ told
  both_told g us later before told read =
      sym (append_assoc (shown_lines R T g us) (lines_behind R T (seen_of g) before later) told) ∙ ap (λ l. l ++ told) (sym (lines_more R T (seen_of g) [] before us later read))

  -- nothing was read
  pub HasShown-none : (s : A) (o : K) (f : Feeding) → IsOpen f → HasFed R f [] [] [] → HasShown R T (Source s s) (Out o o) f 0
  HasShown-none s o f going fed = record {
    given = [];
    units = [];
    before = [];
    kept = refl;
    gave = Consumes-nil (left s);
    none = record { fed = fed; stream = subst (λ (l : List ℕ). IsStream l (is_all f.reader.splitter) [] None) (sym (take_all source_limit [] (omega arith))) (record { follow = tt; behind = inl (record { order = omega arith; within = omega arith; each = λ k le lt. absurd (omega arith) }) }); ends = subst (λ closed. EndsBy closed []) (sym going.reader) tt };
    lines = Gains-nothing taken writes o o refl;
    count = refl;
    ended = λ end. let no = sym going.reader ∙ end in absurd (cc);
  }

  -- more was read
  pub HasReached-read : (s s' s'' : A) (o o' : K) (f f' : Feeding) (n : ℕ) → HasShown R T (Source s s') (Out o o') f n → IsOpen f
      → ((g : List ℕ) (units : List UnitPlace) (before : List Reading) → HasFed R f g units before → Reads R g units before f' (left s') (left s'') (reads s') (reads s'') (Ok tt))
      → HasReached R T (Source s s'') (Out o o') f' n
  HasReached-read s s' s'' o o' f f' n shown going read =
      let g = shown.given in
      let units = shown.units in
      let step = read g units shown.before shown.none.fed in
      let piece = step.0 in
      let at = is_going f.reader g units shown.none.fed.read going.reader in
      record {
        given = g ++ piece;
        units = units;
        before = shown.before;
        kept = step.3 ∙ shown.kept;
        gave = Consumes-trans (left s) (left s') (left s'') g piece shown.gave step.1;
        fed = step.4;
        lines = subst (λ (l : List ℕ). Gains (Out o o') l) (sym (shown_lines_on R T g piece (is_all f.reader.splitter) units shown.none.stream.follow)) shown.lines;
        count = shown.count;
        ended = λ end. (step.5 end).1;
        near = λ u is. near g piece (end_of 0 units) u at.1 step.2 (subst (λ (all : Bool). IsStream (seen_of g) all units None) at.0 shown.none.stream).behind is;
      }

  -- the lines of all units that are seen, with what is told behind them
  gains_both : (s s' : A) (o o' o'' : K) (f : Feeding) (n : ℕ) (reached : HasReached R T (Source s s') (Out o o') f n) (later : List UnitPlace) (told : List ℕ) → Gains (Out o' o'') (lines_behind R T (seen_of reached.given) reached.before later ++ told)
      → Gains (Out o o'') (shown_lines R T reached.given (reached.units ++ later) ++ told)
  gains_both s s' o o' o'' f n reached later told gained =
      let g = reached.given in
      subst (λ (l : List ℕ). Gains (Out o o'') l) (both_told g reached.units later reached.before told reached.fed.readings)
      (Gains-then taken writes o o' o'' (shown_lines R T g reached.units) (lines_behind R T (seen_of g) reached.before later ++ told) reached.lines gained)

  -- the units that are seen in it were shown
  pub HasShown-later : (s s' : A) (o o' o'' : K) (f f' : Feeding) (n m : ℕ) → HasReached R T (Source s s') (Out o o') f n → f'.reader.closed ≡ f.reader.closed
      → ((g : List ℕ) (units : List UnitPlace) (before : List Reading) → HasFed R f g units before → n ≡ length (pictures before) → ShowsLater R T g units before f' (Out o' o'') (Ok m))
      → HasShown R T (Source s s') (Out o o'') f' m
  HasShown-later s s' o o' o'' f f' n m reached same later =
      let g = reached.given in
      let step = later g reached.units reached.before reached.fed reached.count in
      record {
        given = g;
        units = reached.units ++ step.later;
        before = step.after;
        kept = reached.kept;
        gave = reached.gave;
        none = step.writes.1.0;
        lines = subst (λ (l : List ℕ). Gains (Out o o'') l) (ap (λ l. shown_lines R T g (reached.units ++ step.later) ++ l) step.writes.1.2 ∙ append-nil (shown_lines R T g (reached.units ++ step.later)))
            (gains_both s s' o o' o'' f n reached step.later step.told step.writes.0);
        count = step.writes.1.1;
        ended = λ end. reached.ended (sym same ∙ end);
      }

  -- the source has ended
  pub Shows-done : (s s' : A) (o o' : K) (f : Feeding) (n : ℕ) → HasShown R T (Source s s') (Out o o') f n → (IsOpen f → ⊥) → ShowsBy R T (Source s s') (Out o o') (Ok tt)
  Shows-done s s' o o' f n shown closed =
      let g = shown.given in
      let end = is_closed f.reader.closed shown.before shown.none.ends (λ none. closed (record { reader = none; going = shown.none.fed.going })) in
      let all = has_ended f.reader g shown.units shown.none.fed.read end.0 in
      let stream = subst (λ (a : Bool). IsStream (seen_of g) a shown.units None) all shown.none.stream in (
        shown.kept,
        shown.lines.kept,
        (g, shown.gave),
        shown.ended end.0,
        λ b units ending told is.
            let given = is_given b g shown.units f.reader (left s) (left s') told shown.gave shown.none.fed.read shown.ended in
            let one = ends_whole R b g shown.units units shown.before ending is end.1 (subst (λ (a : Bool). IsGiven b g a) all given) shown.none.fed.readings stream in
            (one.1, gains_told R T (Out o o') b g shown.units units shown.before (is_all f.reader.splitter) given shown.none.stream.follow one.0 shown.lines),
      )

  -- a read failed
  pub Shows-unread : (s s' s'' : A) (o o' : K) (f f' : Feeding) (n : ℕ) → HasShown R T (Source s s') (Out o o') f n → IsOpen f
      → ((g : List ℕ) (units : List UnitPlace) (before : List Reading) → HasFed R f g units before → Reads R g units before f' (left s') (left s'') (reads s') (reads s'') (Err SourceFailed))
      → ShowsBy R T (Source s s'') (Out o o') (Err (ReadFault 0))
  Shows-unread s s' s'' o o' f f' n shown going read =
      let g = shown.given in
      let step = read g shown.units shown.before shown.none.fed in
      let at = is_going f.reader g shown.units shown.none.fed.read going.reader in
      let whole : seen_of g ≡ g = take_all source_limit g at.1 in (
        subst (λ (k : ℕ). Rose k (reads s'')) shown.kept step.1,
        refl,
        record {
          given = g;
          units = shown.units;
          before = shown.before;
          gave = Consumes-kept (left s) (left s') (left s'') g shown.gave step.0;
          seen = subst (λ (l : List ℕ). IsStream l false shown.units None) whole (subst (λ (a : Bool). IsStream (seen_of g) a shown.units None) at.0 shown.none.stream);
          read = subst (λ (l : List ℕ). read_on R [] (units_at l shown.units) ≡ all_read shown.before) whole shown.none.fed.readings;
          lines = subst (λ (l : List ℕ). Gains (Out o o') (lines_behind R T l [] shown.units)) whole shown.lines;
        },
      )

  -- there was no memory for a read
  pub Shows-no_room : (s s' s'' : A) (o o' : K) (f f' : Feeding) (n : ℕ) → HasShown R T (Source s s') (Out o o') f n
      → ((g : List ℕ) (units : List UnitPlace) (before : List Reading) → HasFed R f g units before → Reads R g units before f' (left s') (left s'') (reads s') (reads s'') (Err Memory))
      → ShowsBy R T (Source s s'') (Out o o') (Err NoMemory)
  Shows-no_room s s' s'' o o' f f' n shown read =
      let g = shown.given in
      let step = read g shown.units shown.before shown.none.fed in (
        step.1 ∙ shown.kept,
        shown.lines.kept,
        (g, rw step.0 shown.gave),
        λ b units ending told is.
            let given = is_given b g shown.units f.reader (left s) (left s') told shown.gave shown.none.fed.read shown.ended in
            gains_first R T (Out o o') b g shown.units units shown.before is.framing (is_all f.reader.splitter) given shown.none.stream.follow is.stream shown.lines,
      )

  -- a read was stopped
  pub Shows-read : (s s' s'' : A) (o o' : K) (f f' : Feeding) (n : ℕ) (stop : Stop) → HasShown R T (Source s s') (Out o o') f n → IsOpen f
      → ((g : List ℕ) (units : List UnitPlace) (before : List Reading) → HasFed R f g units before → ReadsOn R g units before f' (Source s' s'') (Err stop)) → ShowsBy R T (Source s s'') (Out o o') (Err stop)
  Shows-read s s' s'' o o' f f' n NotUnderstood shown going read = read shown.given shown.units shown.before shown.none.fed
  Shows-read s s' s'' o o' f f' n (Mismatched x y) shown going read = read shown.given shown.units shown.before shown.none.fed
  Shows-read s s' s'' o o' f f' n (Refused refusal place) shown going read = absurd (read shown.given shown.units shown.before shown.none.fed)
  Shows-read s s' s'' o o' f f' n (ReadFault k) shown going read =
      rw (read shown.given shown.units shown.before shown.none.fed).0 (Shows-unread s s' s'' o o' f f' n shown going (λ g units before is. (read g units before is).1))
  Shows-read s s' s'' o o' f f' n WriteFault shown going read = absurd (read shown.given shown.units shown.before shown.none.fed)
  Shows-read s s' s'' o o' f f' n NoMemory shown going read = Shows-no_room s s' s'' o o' f f' n shown read

  -- there was none for a feed
  pub Shows-no_reader : (s : A) (o : K) → ShowsBy R T (Source s s) (Out o o) (Err NoMemory)
  Shows-no_reader s o = (refl, refl, ([], Consumes-nil (left s)), λ b units ending told is. (0, Gains-nothing taken writes o o refl))

  -- a front of the lines of the units that are seen, and of one more
  front_of : (s s' : A) (o o' o'' : K) (f : Feeding) (n : ℕ) (reached : HasReached R T (Source s s') (Out o o') f n) (u : UnitPlace) (us : List UnitPlace) → FollowsFrom (seen_of reached.given) (is_all f.reader.splitter) 0 (reached.units ++ u ∷ us)
      → GainsFront (Out o o'') (shown_lines R T reached.given (reached.units ++ u ∷ us)) → ShowsFront R T (Source s s') (Out o o'')
  front_of s s' o o' o'' f n reached u us here front =
      let g = reached.given in
      let last = split_last u us in
      let whole : reached.units ++ u ∷ us ≡ (reached.units ++ last.0) ++ last.1 ∷ [] = ap (λ (l : List UnitPlace). reached.units ++ l) last.2 ∙ sym (append_assoc reached.units last.0 (last.1 ∷ [])) in
      record {
        given = g;
        before = reached.units ++ last.0;
        last = last.1;
        ended = is_all f.reader.splitter;
        gave = reached.gave;
        follow = subst (λ (l : List UnitPlace). FollowsFrom (seen_of g) (is_all f.reader.splitter) 0 l) whole here;
        lines = subst (λ (l : List UnitPlace). GainsFront (Out o o'') (shown_lines R T g l)) whole front;
        whole = λ ended. reached.ended (is_end f.reader.closed f.reader reached.fed.read.closes ended).0;
        near = λ going.
            let behind = follows_behind (seen_of g) false 0 reached.units (last.0 ++ last.1 ∷ []) (subst (λ (l : List UnitPlace). FollowsFrom (seen_of g) false 0 (reached.units ++ l)) last.2 (subst (λ (a : Bool). FollowsFrom (seen_of g) a 0 (reached.units ++ u ∷ us)) going here)) in
            last_beyond (seen_of g) false (end_of 0 reached.units) (length g) read_len last.0 last.1 behind reached.near;
      }

  -- the last of them is the last that was taken, or the one that is refused
  front_to : (s s' : A) (o o' o'' : K) (f f' : Feeding) (n : ℕ) (reached : HasReached R T (Source s s') (Out o o') f n) → is_all f'.reader.splitter ≡ is_all f.reader.splitter
      → (later : List UnitPlace) (after : List Reading) (told : List ℕ) → FollowsFrom (seen_of reached.given) (is_all f'.reader.splitter) 0 (reached.units ++ later) → read_on R [] (units_at (seen_of reached.given) (reached.units ++ later)) ≡ all_read after
      → TellsLast R T f'.reader reached.given (reached.units ++ later) after told → GainsFront (Out o' o'') (lines_behind R T (seen_of reached.given) reached.before later ++ told)
      → GainsFront (Out o o'') (shown_lines R T reached.given (reached.units ++ later) ++ told) → ShowsFront R T (Source s s') (Out o o'')
  front_to s s' o o' o'' f f' n reached all [] after told follow readings (inl none) wrote front =
      let nothing = subst (λ (l : List ℕ). GainsFront (Out o' o'') l) none wrote in
      absurd (omega (arith, nothing.gained.short))
  front_to s s' o o' o'' f f' n reached all (u ∷ us) after told follow readings (inl none) wrote front =
      let g = reached.given in
      let units = reached.units ++ u ∷ us in
      front_of s s' o o' o'' f n reached u us (subst (λ (a : Bool). FollowsFrom (seen_of g) a 0 units) all follow)
      (subst (λ (l : List ℕ). GainsFront (Out o o'') l) (ap (λ l. shown_lines R T g units ++ l) none ∙ append-nil (shown_lines R T g units)) front)
  front_to s s' o o' o'' f f' n reached all later after told follow readings (inr (r, refused, tells)) wrote front =
      let g = reached.given in
      let u = refused.unit in
      let same : (reached.units ++ later) ++ u ∷ [] ≡ reached.units ++ (later ++ u ∷ []) = append_assoc reached.units later (u ∷ []) in
      let lines : shown_lines R T g (reached.units ++ later) ++ told ≡ shown_lines R T g (reached.units ++ (later ++ u ∷ [])) =
      ap (λ l. shown_lines R T g (reached.units ++ later) ++ l) (tells ∙ sym (lines_refused R T (seen_of g) after u [] r refused.refused))
      ∙ sym (lines_more R T (seen_of g) [] after (reached.units ++ later) (u ∷ []) readings)
      ∙ ap (λ l. shown_lines R T g l) same in
      with_first (λ l. FollowsFrom (seen_of g) (is_all f.reader.splitter) 0 (reached.units ++ l)) (λ l. GainsFront (Out o o'') (shown_lines R T g (reached.units ++ l))) later u
      (λ v vs. front_of s s' o o' o'' f n reached v vs)
      (subst (λ (l : List UnitPlace). FollowsFrom (seen_of g) (is_all f.reader.splitter) 0 l) same (subst (λ (a : Bool). FollowsFrom (seen_of g) a 0 ((reached.units ++ later) ++ u ∷ [])) all refused.follows))
      (subst (λ (l : List ℕ). GainsFront (Out o o'') l) lines front)

  -- by what stopped it
  stopped_by : (s s' : A) (o o' o'' : K) (f f' : Feeding) (n : ℕ) (stop : Stop) (reached : HasReached R T (Source s s') (Out o o') f n) → f'.reader.closed ≡ f.reader.closed → is_all f'.reader.splitter ≡ is_all f.reader.splitter
      → (later : List UnitPlace) (after : List Reading) (told : List ℕ) → FollowsFrom (seen_of reached.given) (is_all f'.reader.splitter) 0 (reached.units ++ later) → read_on R [] (units_at (seen_of reached.given) (reached.units ++ later)) ≡ all_read after
      → WritesLines R T f' reached.given (reached.units ++ later) after (lines_behind R T (seen_of reached.given) reached.before later) told (Out o' o'') (Err stop)
      → ShowsBy R T (Source s s') (Out o o'') (Err stop)
  stopped_by s s' o o' o'' f f' n NotUnderstood reached same all later after told follow readings wrote = wrote.1
  stopped_by s s' o o' o'' f f' n (Mismatched x y) reached same all later after told follow readings wrote = wrote.1
  stopped_by s s' o o' o'' f f' n (Refused refusal place) reached same all later after told follow readings wrote =
      let g = reached.given in
      let us = reached.units ++ later in
      let here = subst (λ (a : Bool). FollowsFrom (seen_of g) a 0 us) all follow in
      let lines = gains_both s s' o o' o'' f n reached later told wrote.0 in (
        reached.kept,
        lines.kept,
        (g, reached.gave),
        λ b vs ending known is.
            let given = is_given b g reached.units f.reader (left s) (left s') known reached.gave reached.fed.read reached.ended in
            let one = refused_told R T (Out o o'') b g us vs after f'.reader refusal ending (is_all f.reader.splitter) told all
            (λ end. has_ended f.reader g reached.units reached.fed.read (sym same ∙ end))
            (λ long. is_long f.reader g reached.units reached.fed.read (sym same ∙ long))
            given here readings is lines wrote.1.0 wrote.1.2 in
            (subst (λ at. IsToldAt ending refusal at) (sym wrote.1.1) one.0, one.1),
      )
  stopped_by s s' o o' o'' f f' n (ReadFault k) reached same all later after told follow readings wrote = absurd wrote.1
  stopped_by s s' o o' o'' f f' n WriteFault reached same all later after told follow readings wrote =
      let g = reached.given in
      let front = subst (λ (l : List ℕ). GainsFront (Out o o'') l) (both_told g reached.units later reached.before told reached.fed.readings)
      (GainsFront-then taken writes o o' o'' (shown_lines R T g reached.units) (lines_behind R T (seen_of g) reached.before later ++ told) reached.lines wrote.0) in (
        reached.kept,
        front.failed,
        front_to s s' o o' o'' f f' n reached all later after told follow readings wrote.1 wrote.0 front,
        λ b vs ending known is.
            let given = is_given b g reached.units f.reader (left s) (left s') known reached.gave reached.fed.read reached.ended in
            front_told R T (Out o o'') b g (reached.units ++ later) vs after f'.reader ending told (subst (λ (a : Bool). IsGiven b g a) (sym all) given) follow readings is wrote.1 front,
      )
  stopped_by s s' o o' o'' f f' n NoMemory reached same all later after told follow readings wrote =
      let g = reached.given in
      let us = reached.units ++ later in
      let here = subst (λ (a : Bool). FollowsFrom (seen_of g) a 0 us) all follow in
      let lines = subst (λ (l : List ℕ). Gains (Out o o'') l) (ap (λ l. shown_lines R T g us ++ l) wrote.1 ∙ append-nil (shown_lines R T g us)) (gains_both s s' o o' o'' f n reached later told wrote.0) in (
        reached.kept,
        lines.kept,
        (g, reached.gave),
        λ b vs ending known is.
            let given = is_given b g reached.units f.reader (left s) (left s') known reached.gave reached.fed.read reached.ended in
            gains_first R T (Out o o'') b g us vs after is.framing (is_all f.reader.splitter) given here is.stream lines,
      )

  -- a stop in what was reached
  pub Shows-stopped : (s s' : A) (o o' o'' : K) (f f' : Feeding) (n : ℕ) (stop : Stop) → HasReached R T (Source s s') (Out o o') f n → f'.reader.closed ≡ f.reader.closed → is_all f'.reader.splitter ≡ is_all f.reader.splitter
      → ((g : List ℕ) (units : List UnitPlace) (before : List Reading) → HasFed R f g units before → n ≡ length (pictures before) → ShowsLater R T g units before f' (Out o' o'') (Err stop))
      → ShowsBy R T (Source s s') (Out o o'') (Err stop)
  Shows-stopped s s' o o' o'' f f' n stop reached same all later =
      let g = reached.given in
      let step = later g reached.units reached.before reached.fed reached.count in
      stopped_by s s' o o' o'' f f' n stop reached same all step.later step.after step.told step.follow step.readings step.writes
