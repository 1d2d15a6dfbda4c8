-- What the intakes of a mixer have come to, and what it answers by that.
use Rattle.std.proofs.Common.{◌≡◌, ◌≢◌, ◌⊎◌, ℕ, ◌+◌, ◌<◌, ◌≤◌, Bool, true, false, List, [], ◌∷◌, ◌++◌, ◌∙◌, Option, Some, None, Ok, Err, length, map, take, get_or, slice_get, slice_set, inl, inr, sym, ap, refl, subst, arith}
use Rattle.std.specs.Prelude.{reverse, option_map}
use Rattle.std.proofs.lemmas.List.{length-map, length-reverse, length-set}
use Rattle.std.proofs.lemmas.Option.{slice_get_within, same_Some}
use Rattle.vx_bits.specs.declared.refusal.Refusal.{Refusal}
use Rattle.vx_pic.specs.declared.kind.Kind.{Kind}
use Rattle.vx_pic.specs.Readings.{Picture as StreamPicture}
use Rattle.vx_pic.specs.Rules.{Readers}
use Rattle.vx_pic.specs.Bytes.{Ending, AreSourcePictures}
use Rattle.vx_pic.specs.H266.{AreOfH266}
use Rattle.vx_pic.specs.Parts.{Parts, parts_of}
use Rattle.vx_pic.specs.Written.{Plan}
use Rattle.vx_run.specs.declared.stop.Place.{Place}
use Rattle.vx_run.specs.declared.stop.Place.TheVariants as places
use Rattle.vx_assemble.specs.Held.{lent_by}
use Rattle.vx_frame.specs.declared.corner.Corner.{Corner}
use Rattle.vx_merge.specs.declared.ended.Lengths.TheVariants.{AllGo, AllEnded as AllEnd, Differ}
use Rattle.vx_merge.specs.Ends.{IsLengths}
use Rattle.vx_merge.specs.Merging.{Merging, Stands}
use Rattle.vx_run.specs.declared.stop.Stop.{Stop}
use Rattle.vx_run.specs.declared.stop.Stop.TheVariants.{NotUnderstood, Refused, Mismatched, ReadFault, WriteFault, NoMemory}
use Rattle.vx_run.specs.Conclusion.{Outcome}
use Rattle.vx_run.specs.Rounds.{Stream, picture_in, GoesOn, HasEnded, IsRound, NoneRefused, Telling, StopsIn, by_stream, by_length, by_round, AllEnded, stream_refused}
use Rattle.vx_run.specs.Merge.{AreRoundsWritten, EndsWritten, EndsOnce, length_refused, merge_telling}
use Rattle.vx_run.proofs.Indexed.{some_at, same_lists, mapped_at, any_default, set_there, set_other, get_set_there, get_set_other, earlier_stay, latest_at, where_is}
use Rattle.vx_push.specs.declared.intake.State.{State}
use Rattle.vx_push.specs.declared.intake.State.TheVariants.{Waits as AtWait, Picture as AtPicture, Ended as AtEnd, Refused as AtRefusal, NoMemory as AtNoMemory}
use Rattle.vx_push.specs.declared.mixer.Mixed.{Mixed}
use Rattle.vx_push.specs.declared.mixer.Mixed.TheVariants.{Picture as ToPicture, Waits as ToWait, Ended as ToEnd, Stopped as ToStop}
use Rattle.vx_push.specs.Comes.{Intaking, Handed, nothing, with_more, with_end, with_zeros, zeros, IsOpenedBy, ComesTo, HasCome, ComesNext}
use Rattle.vx_push.specs.Mixing.{Mixing, AreOpenedBy, AreMergedAsHanded, EndsMerged, HasComeBehind, HasEndedBy, HoldsRound, HasMixed, IsAwaited, Answers, HandsIn, outcome_of, MixedIsMerged}
use Rattle.vx_push.specs.inner.Mixing.{IsSo, mark_of, AreMarked, HaltsBy, EndsSo, AreSeen, Looks, round_of, MergesHanded, end_by, AreMore, AreNew, HasPassed, ArePassing, HavePassed}
use Rattle.vx_push.specs.inner.Comes.{IsMore}
use Rattle.vx_push.proofs.Handing.{none_is_more, opened_earlier, one_held, none_held, not_picture, waits_no_more_behind, takes_piece, takes_end, takes_zeros}

-- ---- one source

-- behind pictures that it came to, a stream goes on
longer : (later ps : List StreamPicture) (p : StreamPicture) → slice_get (reverse (later ++ p ∷ ps)) (length ps) ≡ Some p
longer later ps p =
    let within : length ps < length (p ∷ ps) = omega arith in
    earlier_stay later (p ∷ ps) (length ps) within ∙ latest_at p ps (length ps) refl

-- what it tells
so_at : (R : Readers) (i : Intaking) (h : Handed) (n : ℕ) (ps : List StreamPicture) → length ps ≡ n → (b : List ℕ) (s : Stream) → IsOpenedBy h b → AreSourcePictures R b s.pictures s.ending
    → (state : State) → i.state ≡ state → ComesNext R i h ps state → IsSo state i n s
so_at R i h n ps many b s opened are AtWait is next = tt
so_at R i h n ps many b s opened are AtPicture is (p, come) =
    let told = subst (λ (x : State). ComesTo R h (p ∷ ps) x) is come.told in
    let begins = told.0 b s.pictures s.ending opened are in (
      p,
      ap (λ (l : List StreamPicture). slice_get (reverse l) n) begins.1 ∙ subst (λ (m : ℕ). slice_get (reverse (begins.0 ++ p ∷ ps)) m ≡ Some p) many (longer begins.0 ps p),
      come.lends is,
    )
so_at R i h n ps many b s opened are AtEnd is come =
    let told = subst (λ (x : State). ComesTo R h ps x) is come.told in
    let all = told.0 b s.pictures s.ending opened are in
    (ap (λ (l : List StreamPicture). length l) all.0 ∙ many, all.1)
so_at R i h n ps many b s opened are (AtRefusal r units) is come =
    let told = subst (λ (x : State). ComesTo R h ps x) is come.told in
    let all = told b s.pictures s.ending opened are in
    (ap (λ (l : List StreamPicture). length l) all.0 ∙ many, all.1)
so_at R i h n ps many b s opened are AtNoMemory is come = tt

same_wait : {j k : ℕ} → (let a : Mixed = ToWait j in a) ≡ ToWait k → j ≡ k
same_wait is = cc

-- each holds a picture
pub ready_all : (intakes : List Intaking) (marks : List Bool) → AreSeen intakes marks → IsLengths marks AllGo → (k : ℕ) (i : Intaking) → slice_get intakes k ≡ Some i → i.state ≡ AtPicture
ready_all intakes marks seen go k i at =
    let within : k < length intakes = slice_get_within intakes k i at in
    let fits : k < length marks = omega (arith, within, seen.count) in
    seen.marked k i within at ∙ ap mark_of (any_default marks k false true fits ∙ go k fits)

-- ---- what the intakes of a mixer have come to, and what that tells of its streams

module _ (R : Readers) (intakes : List Intaking) (given : List Handed) (n : ℕ) (sources : length given ≡ length intakes)
    (come : (k : ℕ) (i : Intaking) (h : Handed) → slice_get intakes k ≡ Some i → slice_get given k ≡ Some h → HasComeBehind R i h n)
    (ss : List Stream) (opened : AreOpenedBy R given ss) where
  counted : length ss ≡ length intakes
  counted = opened.count ∙ sources

  so_of : (k : ℕ) (i : Intaking) (s : Stream) → slice_get intakes k ≡ Some i → slice_get ss k ≡ Some s → IsSo i.state i n s
  so_of k i s at there =
      let within : k < length given = omega (arith, slice_get_within intakes k i at, sources) in
      let h = some_at given k within in
      let b = opened.each k h.0 s h.1 there in
      let c = come k i h.0 at h.1 in
      so_at R i h.0 n c.pictures c.count b.0 s b.1 b.2 i.state refl c.come

  so_by : (k : ℕ) (i : Intaking) (s : Stream) (r : State) → slice_get intakes k ≡ Some i → slice_get ss k ≡ Some s → i.state ≡ r → IsSo r i n s
  so_by k i s r at there is = subst (λ (x : State). IsSo x i n s) is (so_of k i s at there)

  intake_of : (k : ℕ) (s : Stream) → slice_get ss k ≡ Some s → (i : Intaking) × (slice_get intakes k ≡ Some i)
  intake_of k s there = let within : k < length intakes = omega (arith, slice_get_within ss k s there, counted) in some_at intakes k within

  there_goes : (k : ℕ) (i : Intaking) (s : Stream) → slice_get intakes k ≡ Some i → slice_get ss k ≡ Some s → i.state ≡ AtPicture → GoesOn n s
  there_goes k i s at there is =
      let p = so_by k i s AtPicture at there is in
      omega (arith, slice_get_within (reverse s.pictures) n p.0 p.1, length-reverse s.pictures)

  there_keeps : (k : ℕ) (i : Intaking) (s : Stream) (mark : Bool) → slice_get intakes k ≡ Some i → slice_get ss k ≡ Some s → i.state ≡ mark_of mark → GoesOn n s ⊎ HasEnded n s
  there_keeps k i s true at there is = inr (so_by k i s AtEnd at there is)
  there_keeps k i s false at there is = inl (there_goes k i s at there is)

  -- ---- the first k of them, as they are marked

  module _ (marks : List Bool) (k : ℕ) (marked : AreMarked intakes marks k) where
    none_refused : NoneRefused k ss n
    none_refused j s before there = let i = intake_of j s there in there_keeps j i.0 s (get_or marks j false) i.1 there (marked j i.0 before i.1)

    mark_goes : (j : ℕ) (s : Stream) → j < k → slice_get ss j ≡ Some s → get_or marks j false ≡ false → GoesOn n s
    mark_goes j s before there is = let i = intake_of j s there in there_goes j i.0 s i.1 there (marked j i.0 before i.1 ∙ ap mark_of is)

    mark_ends : (j : ℕ) (s : Stream) → j < k → slice_get ss j ≡ Some s → get_or marks j false ≡ true → HasEnded n s
    mark_ends j s before there is = let i = intake_of j s there in so_by j i.0 s AtEnd i.1 there (marked j i.0 before i.1 ∙ ap mark_of is)

  -- ---- the first that keeps a round from being merged

  -- it is refused
  pub halts_refused : (t : Telling) → ((j : ℕ) (e : Ending) → t.of_stream j e ≡ stream_refused j e) → (k : ℕ) (i : Intaking) → slice_get intakes k ≡ Some i → (r : Refusal) (units : ℕ) → i.state ≡ AtRefusal r units
      → NoneRefused k ss n → StopsIn t ss n (Refused r (places.Unit k units))
  halts_refused t of k i at r units is none =
      let within : k < length ss = omega (arith, slice_get_within intakes k i at, counted) in
      let s = some_at ss k within in
      let e : Ending = record { units = units; refusal = r } in
      by_stream k e (s.0, s.1, so_by k i s.0 (AtRefusal r units) at s.1 is) none (sym (of k e))

  -- ---- all, as they are marked

  module _ (marks : List Bool) (seen : AreSeen intakes marks) where
    all_none : NoneRefused (length ss) ss n
    all_none j s before there = none_refused marks (length intakes) seen.marked j s (omega (arith, before, counted)) there

    all_ended : IsLengths marks AllEnd → AllEnded ss n
    all_ended ends j s before there =
        mark_ends marks (length intakes) seen.marked j s (omega (arith, before, counted)) there (ends j (omega (arith, before, counted, seen.count)))

    goes_at : (j : ℕ) (s : Stream) → j < length intakes → slice_get ss j ≡ Some s → get_or marks j true ≡ false → GoesOn n s
    goes_at j s within there is =
        mark_goes marks (length intakes) seen.marked j s within there (any_default marks j false true (omega (arith, within, seen.count)) ∙ is)

    mark_cases : (b : Bool) → (b ≡ true) ⊎ (b ≡ false)
    mark_cases true = inl refl
    mark_cases false = inr refl

    by_lengths : (t : Telling) (k : ℕ) → IsLengths marks (Differ k) → (stop : Stop) → stop ≡ t.of_length n k → StopsIn t ss n stop
    by_lengths t k differ stop is =
        let low = differ.0 in
        let fits : k < length ss = omega (arith, low.in_range, seen.count, counted) in
        let s = some_at ss k fits in
        let other = differ.1.0 in
        let within : other < length ss = omega (arith, differ.1.1, seen.count, counted) in
        let u = some_at ss other within in
        by_length k all_none
        (record {
          in_range = fits;
          breaks = (s.0, s.1, mark_ends marks (length intakes) seen.marked k s.0 (omega (arith, fits, counted)) s.1 low.breaks);
          lower = λ j before of. elim (mark_cases (get_or marks j false)) [
            | inl end ↦ low.lower j before end
            | inr go ↦
                let goes = mark_goes marks (length intakes) seen.marked j of.0 (omega (arith, before, fits, counted)) of.1 go in
                omega (arith, goes, of.2.0)
          ];
        })
        (other, (u.0, u.1, goes_at other u.0 (omega (arith, within, counted)) u.1 differ.1.2))
        is

    -- each holds a picture: these are the round
    pub is_round : IsLengths marks AllGo → IsRound ss n (round_of intakes)
    is_round go =
        let part : Stream → Option Parts = λ s. option_map parts_of (picture_in n s) in
        let whole : Parts → Option Parts = λ q. Some q in
        let lent : Intaking → Parts = λ i. lent_by i.feed.assembler in
        same_lists (map part ss) (map whole (map lent intakes)) (omega (arith, counted, length-map ss part, length-map intakes lent, length-map (map lent intakes) whole))
        (λ k x y at there.
        let s = mapped_at part ss k x at in
        let q = mapped_at whole (map lent intakes) k y there in
        let i = mapped_at lent intakes k q.0 q.1 in
        let so = so_by k i.0 s.0 AtPicture i.1 s.1 (ready_all intakes marks seen go k i.0 i.1) in
        sym s.2 ∙ ap (option_map parts_of) so.1 ∙ ap whole (sym so.2 ∙ i.2) ∙ q.2)

-- ---- what was handed in before

-- what the streams can be behind that they could be before
opened_before : (R : Readers) (given more : List Handed) → AreMore given more → (ss : List Stream) → AreOpenedBy R more ss → AreOpenedBy R given ss
opened_before R given more grown ss opened = record {
  count = opened.count ∙ grown.count;
  each = λ k h s at here.
      let x = grown.each k h at in
      let b = opened.each k x.0 s x.1 here in
      (b.0, opened_earlier h x.0 x.2 b.0 b.1, b.2);
}

-- A merger of the same task, and more that was handed in.
record Follows (m later : Merging) (given more : List Handed) : Type 0 where
  grown : AreMore given more
  corners : later.corners ≡ m.corners
  level : later.level ≡ m.level

module _ (R : Readers) (m later : Merging) (given more : List Handed) (f : Follows m later given more) (done : List Plan) where
  merged_follows : AreMergedAsHanded R m given done → AreMergedAsHanded R later more done
  merged_follows merged ss opened =
      subst (λ (l : Option ℕ). AreRoundsWritten later.corners l ss done) (sym f.level) (subst (λ (c : List Corner). AreRoundsWritten c m.level ss done) (sym f.corners) (merged ss (opened_before R given more f.grown ss opened)))

  ends_follows : (end : Outcome) → EndsMerged R m given done end → EndsMerged R later more done end
  ends_follows end ends ss opened =
      subst (λ (l : Option ℕ). EndsWritten later.corners l ss done end) (sym f.level) (subst (λ (c : List Corner). EndsWritten c m.level ss done end) (sym f.corners) (ends ss (opened_before R given more f.grown ss opened)))

  ended_follows : (end : Mixed) → HasEndedBy R m given done end → HasEndedBy R later more done end
  ended_follows ToEnd ends = ends_follows (Ok tt) ends
  ended_follows (ToStop (Refused r place)) ends = ends_follows (Err (Refused r place)) ends
  ended_follows (ToStop NoMemory) ends = merged_follows ends
  ended_follows (ToStop NotUnderstood) ends = absurd ends
  ended_follows (ToStop (ReadFault k)) ends = absurd ends
  ended_follows (ToStop (Mismatched x y)) ends = absurd ends
  ended_follows (ToStop WriteFault) ends = absurd ends
  ended_follows ToPicture ends = absurd ends
  ended_follows (ToWait k) ends = absurd ends

-- nothing more
no_more : (given : List Handed) → AreMore given given
no_more given = record { count = refl; each = λ k h at. (h, at, none_is_more h) }

-- so the rounds that were merged still are
pub mixed_grown : (R : Readers) (m : Mixing) (later : List Intaking) (given more : List Handed) (done : List Plan) → HasMixed R m given done → AreMore given more → length later ≡ length m.intakes
    → ((k : ℕ) (i : Intaking) (h : Handed) → slice_get later k ≡ Some i → slice_get more k ≡ Some h → HasComeBehind R i h m.rounds)
    → HasMixed R (record m { intakes = later }) more done
mixed_grown R m later given more done h grown count come =
    let f : Follows m.merger m.merger given more = record { grown = grown; corners = refl; level = refl } in
    record {
      sources = grown.count ∙ h.sources ∙ sym count;
      rounds = h.rounds;
      merged = merged_follows R m.merger m.merger given more f done h.merged;
      stands = h.stands;
      come = come;
      holds = λ kind is. let x = h.holds kind is in (x.0, x.1, x.2, record { bytes = x.3.bytes; kind = x.3.kind });
      ended = λ end is. ended_follows R m.merger m.merger given more f done end (h.ended end is);
    }

-- it is taken
pub mixed_taken : (R : Readers) (m : Mixing) (bytes : List ℕ) (given : List Handed) (done : List Plan) → HasMixed R m given done → HasMixed R (record m { held = None; merged = bytes }) given done
mixed_taken R m bytes given done h = record {
  sources = h.sources;
  rounds = h.rounds;
  merged = h.merged;
  stands = h.stands;
  come = h.come;
  holds = λ kind is. absurd (cc);
  ended = h.ended;
}

-- ---- what is answered

-- where it has come to an end it keeps that
mixed_ended : (R : Readers) (m : Mixing) (given : List Handed) (done : List Plan) → HasMixed R m given done → (end : Mixed) → HasEndedBy R m.merger given done end → HasMixed R (record m { end = Some end }) given done
mixed_ended R m given done h end by = record {
  sources = h.sources;
  rounds = h.rounds;
  merged = h.merged;
  stands = λ none. absurd (cc);
  come = h.come;
  holds = λ kind is. let x = h.holds kind is in (x.0, x.1, x.2, record { bytes = x.3.bytes; kind = x.3.kind });
  ended = λ other is. subst (λ (e : Mixed). HasEndedBy R m.merger given done e) (same_Some end other is) by;
}

module _ (R : Readers) (m : Mixing) (given : List Handed) (done : List Plan) (h : HasMixed R m given done) where
  abbrev Telling_ : Telling
  Telling_ = merge_telling m.merger.corners m.merger.level done

  behind : (stop : Stop) → ((ss : List Stream) → AreOpenedBy R given ss → StopsIn Telling_ ss m.rounds stop) → EndsMerged R m.merger given done (Err stop)
  behind stop stops ss can = (h.merged ss can, subst (λ (n : ℕ). StopsIn Telling_ ss n stop) (sym h.rounds) (stops ss can))

  -- a source keeps it from going on
  halted : (k : ℕ) (i : Intaking) → slice_get m.intakes k ≡ Some i → (marks : List Bool) → AreMarked m.intakes marks k → (r : Refusal) (units : ℕ) → i.state ≡ AtRefusal r units → HasEndedBy R m.merger given done (ToStop (Refused r (places.Unit k units)))
  halted k i at marks before r units is =
      behind (Refused r (places.Unit k units)) (λ ss can.
      halts_refused R m.intakes given m.rounds h.sources h.come ss can Telling_ (λ j e. refl) k i at r units is
      (none_refused R m.intakes given m.rounds h.sources h.come ss can marks k before))

  -- all have ended, or some
  ended_so : (marks : List Bool) → AreSeen m.intakes marks → (answer : Mixed) → EndsSo marks m.rounds answer → HasEndedBy R m.merger given done answer
  ended_so marks seen ToEnd ends = λ ss can.
      (h.merged ss can, subst (λ (n : ℕ). AllEnded ss n) (sym h.rounds) (all_ended R m.intakes given m.rounds h.sources h.come ss can marks seen ends))
  ended_so marks seen (ToStop stop) ends = ended_by stop ends
    where
      ended_by : (stop : Stop) → EndsSo marks m.rounds (ToStop stop) → HasEndedBy R m.merger given done (ToStop stop)
      ended_by stop ends =
          subst (λ (s : Stop). HasEndedBy R m.merger given done (ToStop s)) (sym ends.2)
          (behind (length_refused m.rounds ends.0) (λ ss can. by_lengths R m.intakes given m.rounds h.sources h.come ss can marks seen Telling_ ends.0 ends.1 (length_refused m.rounds ends.0) refl))
  ended_so marks seen ToPicture ends = absurd ends
  ended_so marks seen (ToWait k) ends = absurd ends

  -- where it has ended, it says so
  answers_end : (answer : Mixed) → HasEndedBy R m.merger given done answer → Answers R (record m { end = Some answer }) given done answer
  answers_end ToEnd ends = (mixed_ended R m given done h ToEnd ends, ends, refl)
  answers_end (ToStop stop) ends = (mixed_ended R m given done h (ToStop stop) ends, ends, refl)
  answers_end ToPicture ends = absurd ends
  answers_end (ToWait k) ends = absurd ends

  -- it halts there, or ends, as it was seen,
  pub answers_seen : (answer : Mixed) → Looks m.intakes m.rounds (Err answer) → ((k : ℕ) → answer ≡ ToWait k → ⊥) → Answers R (record m { end = Some answer }) given done answer
  answers_seen answer (inr x) waits = answers_end answer (ended_so x.0 x.1 answer x.2)
  answers_seen answer (inl x) waits = halted_by x.intake.state refl
    where
      told : (r : State) → x.intake.state ≡ r → HaltsBy r x.k answer
      told r is = subst (λ (s : State). HaltsBy s x.k answer) is x.halts

      halted_by : (r : State) → x.intake.state ≡ r → Answers R (record m { end = Some answer }) given done answer
      halted_by AtWait is = absurd (waits x.k (told AtWait is))
      halted_by (AtRefusal r units) is =
          answers_end answer (subst (λ (a : Mixed). HasEndedBy R m.merger given done a) (sym (told (AtRefusal r units) is)) (halted x.k x.intake x.at x.marks x.before r units is))
      halted_by AtNoMemory is = answers_end answer (subst (λ (a : Mixed). HasEndedBy R m.merger given done a) (sym (told AtNoMemory is)) h.merged)
      halted_by AtPicture is = absurd (told AtPicture is)
      halted_by AtEnd is = absurd (told AtEnd is)

  -- or waits
  pub answers_wait : (k : ℕ) → Looks m.intakes m.rounds (Err (ToWait k)) → Answers R m given done (ToWait k)
  answers_wait k (inr x) = absurd x.2
  answers_wait k (inl x) = waits_by x.intake.state refl
    where
      told : (r : State) → x.intake.state ≡ r → HaltsBy r x.k (ToWait k)
      told r is = subst (λ (s : State). HaltsBy s x.k (ToWait k)) is x.halts

      waits_by : (r : State) → x.intake.state ≡ r → Answers R m given done (ToWait k)
      waits_by AtWait is =
          let same : x.k ≡ k = sym (same_wait (told AtWait is)) in
          let within : x.k < length given = omega (arith, slice_get_within m.intakes x.k x.intake x.at, h.sources) in
          let g = some_at given x.k within in
          let c = h.come x.k x.intake g.0 x.at g.1 in
          let come = none_held R x.intake g.0 c.pictures (not_picture x.intake.state is) c.come in
          let comes : ComesTo R g.0 c.pictures AtWait = subst (λ (s : State). ComesTo R g.0 c.pictures s) is come.told in (
            h,
            subst (λ (i : ℕ). IsAwaited R given (length done) i) same
                (record { handed = g.0; at = g.1; pictures = c.pictures; seen = comes.1; count = c.count ∙ sym h.rounds; open_ = comes.2 }),
            λ ss can.
                subst (λ (i : ℕ). NoneRefused i ss (length done)) same
                (subst (λ (n : ℕ). NoneRefused x.k ss n) (sym h.rounds) (none_refused R m.intakes given m.rounds h.sources h.come ss can x.marks x.k x.before)),
          )
      waits_by (AtRefusal r units) is = absurd (let no : ToWait k ≡ ToStop (Refused r (places.Unit x.k units)) = told (AtRefusal r units) is in cc)
      waits_by AtNoMemory is = absurd (let no : ToWait k ≡ ToStop NoMemory = told AtNoMemory is in cc)
      waits_by AtPicture is = absurd (told AtPicture is)
      waits_by AtEnd is = absurd (told AtEnd is)

  -- as it was seen
  pub answers_looked : m.end ≡ None → (answer : Mixed) → Looks m.intakes m.rounds (Err answer) → Answers R (record m { end = end_by answer }) given done answer
  answers_looked none ToEnd looks = answers_seen ToEnd looks (λ k is. absurd (cc))
  answers_looked none (ToStop stop) looks = answers_seen (ToStop stop) looks (λ k is. absurd (cc))
  answers_looked none (ToWait k) looks =
      let a = answers_wait k looks in (
        record {
          sources = h.sources;
          rounds = h.rounds;
          merged = h.merged;
          stands = λ same. h.stands none;
          come = h.come;
          holds = λ kind is. let x = h.holds kind is in (x.0, x.1, x.2, record { bytes = x.3.bytes; kind = x.3.kind });
          ended = λ end is. absurd (cc);
        },
        a.1,
        a.2,
      )
  answers_looked none ToPicture (inr x) = absurd x.2
  answers_looked none ToPicture (inl x) = absurd (halts_picture x.intake.state x.k x.halts)
    where
      halts_picture : (s : State) (k : ℕ) → HaltsBy s k ToPicture → ⊥
      halts_picture AtWait k is = let no : ToPicture ≡ ToWait k = is in cc
      halts_picture (AtRefusal r units) k is = let no : ToPicture ≡ ToStop (Refused r (places.Unit k units)) = is in cc
      halts_picture AtNoMemory k is = let no : ToPicture ≡ ToStop NoMemory = is in cc
      halts_picture AtPicture k is = is
      halts_picture AtEnd k is = is

  -- ---- a round

  module _ (later : Mixing) (marks : List Bool) (seen : AreSeen m.intakes marks) (go : IsLengths marks AllGo) (corners : later.merger.corners ≡ m.merger.corners) (level : later.merger.level ≡ m.merger.level) where
    f : Follows m.merger later.merger given given
    f = record { grown = no_more given; corners = corners; level = level }

    round_here : (ss : List Stream) → AreOpenedBy R given ss → IsRound ss (length done) (round_of m.intakes)
    round_here ss can = subst (λ (n : ℕ). IsRound ss n (round_of m.intakes)) (sym h.rounds) (is_round R m.intakes given m.rounds h.sources h.come ss can marks seen go)

    merged_here : AreMergedAsHanded R later.merger given done
    merged_here = merged_follows R m.merger later.merger given given f done h.merged

    -- it is barred, or there was no memory
    barred : (s : Stop) → MergesHanded (round_of m.intakes) done later.merger later.merged m.rounds (Err s) → HasEndedBy R later.merger given done (ToStop s)
    barred (Refused r place) by = λ ss can. (
      merged_here ss can,
      by_round (round_of m.intakes) (round_here ss can) (r, by.0, ap (λ (w : Place). Refused r w) (by.1 ∙ ap places.Picture (sym h.rounds))),
    )
    barred NoMemory by = merged_here
    barred NotUnderstood by = absurd by
    barred (ReadFault k) by = absurd by
    barred (Mismatched x y) by = absurd by
    barred WriteFault by = absurd by

    pub answers_barred : later.intakes ≡ m.intakes → later.rounds ≡ m.rounds → later.held ≡ None → (stop : Stop) → later.end ≡ Some (ToStop stop) → MergesHanded (round_of m.intakes) done later.merger later.merged m.rounds (Err stop) → Answers R later given done (ToStop stop)
    answers_barred same rounds held stop end by = (
      record {
        sources = h.sources ∙ ap (λ (l : List Intaking). length l) (sym same);
        rounds = h.rounds ∙ sym rounds;
        merged = merged_here;
        stands = λ none. let no = sym end ∙ none in absurd (cc);
        come = λ k i g at there. subst (λ (n : ℕ). HasComeBehind R i g n) (sym rounds) (h.come k i g (subst (λ (l : List Intaking). slice_get l k ≡ Some i) same at) there);
        holds = λ kind is. let no = sym held ∙ is in absurd (cc);
        ended = λ other is. subst (λ (e : Mixed). HasEndedBy R later.merger given done e) (same_Some (ToStop stop) other (sym end ∙ is)) (barred stop by);
      },
      barred stop by,
      end,
    )

    -- or it is merged
    pub answers_merged : AreOfH266 R → HavePassed m.intakes later.intakes → later.rounds ≡ m.rounds + 1 → (kind : Kind) → later.held ≡ Some kind → later.end ≡ None → MergesHanded (round_of m.intakes) done later.merger later.merged m.rounds (Ok kind) → Answers R later given done ToPicture
    answers_merged of passed rounds kind held end by = (
      p,
      record {
        sources = h.sources ∙ sym passed.count;
        rounds = omega (arith, rounds, h.rounds);
        merged = λ ss can. ((round_of m.intakes, round_here ss can, by.1), merged_here ss can);
        stands = λ none. by.3;
        come = come_later;
        holds = λ other is. (p, done, refl, holds);
        ended = λ other is. let no = sym end ∙ is in absurd (cc);
      },
      holds,
    )
      where
        p : Plan
        p = by.0

        holds : HoldsRound later p
        holds = record { bytes = by.2; kind = held ∙ ap (λ (k : Kind). let o : Option Kind = Some k in o) by.4 }

        come_later : (k : ℕ) (j : Intaking) (g : Handed) → slice_get later.intakes k ≡ Some j → slice_get given k ≡ Some g → HasComeBehind R j g later.rounds
        come_later k j g at there =
            let within : k < length m.intakes = omega (arith, slice_get_within later.intakes k j at, passed.count) in
            let i = some_at m.intakes k within in
            let x = passed.each k i.0 i.1 (ready_all m.intakes marks seen go k i.0 i.1) in
            let same : x.0 ≡ j = same_Some x.0 j (sym x.1 ∙ at) in
            subst (λ (n : ℕ). HasComeBehind R j g n) (sym rounds) (subst (λ (y : Intaking). HasComeBehind R y g (m.rounds + 1)) same (x.2 R of g m.rounds (h.come k i.0 g i.1 there)))

-- ---- what an intake comes to

-- behind the picture that it held
pub passed_behind : (R : Readers) (i later : Intaking) (h : Handed) (n : ℕ) → i.state ≡ AtPicture → ((ps : List StreamPicture) → HasCome R i h ps → ComesNext R later h ps later.state) → HasComeBehind R i h n → HasComeBehind R later h (n + 1)
passed_behind R i later h n is next c =
    let one = one_held R i h c.pictures is c.come in
    record { pictures = one.0 ∷ c.pictures; come = next (one.0 ∷ c.pictures) one.1; count = omega (arith, c.count) }

-- ---- one of several is given more

-- more of one
more_of : (given : List Handed) (k : ℕ) (h more : Handed) → slice_get given k ≡ Some h → IsMore h more → AreMore given (slice_set given k more)
more_of given k h more at is = record {
  count = length-set given k more;
  each = λ j g there. elim (where_is j k) [
    | inl before ↦ other j g there (λ same. omega (arith, same, before))
    | inr (inl same) ↦
        let here : slice_get given k ≡ Some g = subst (λ (i : ℕ). slice_get given i ≡ Some g) same there in
        let fits : k < length (slice_set given k more) = omega (arith, slice_get_within given k h at, length-set given k more) in
        let now = some_at (slice_set given k more) k fits in
        let it : now.0 ≡ more = sym (set_there given k more now.0 now.1) in
        (more, subst (λ (i : ℕ). slice_get (slice_set given k more) i ≡ Some more) (sym same) (subst (λ (x : Handed). slice_get (slice_set given k more) k ≡ Some x) it now.1), subst (λ (x : Handed). IsMore x more) (same_Some h g (sym at ∙ here)) is)
    | inr (inr behind) ↦ other j g there (λ same. omega (arith, same, behind))
  ];
}
  where
    other : (j : ℕ) (g : Handed) → slice_get given j ≡ Some g → j ≢ k → (later : Handed) × (slice_get (slice_set given k more) j ≡ Some later) × IsMore g later
    other j g there different = (g, set_other given j k more different ∙ there, none_is_more g)

-- so the rounds that were merged still are
pub mixed_more : (R : Readers) (m : Mixing) (given : List Handed) (done : List Plan) → HasMixed R m given done → (k : ℕ) (i later : Intaking) (h more : Handed) → slice_get m.intakes k ≡ Some i → slice_get given k ≡ Some h → IsMore h more
    → HasComeBehind R later more m.rounds → HasMixed R (record m { intakes = slice_set m.intakes k later }) (slice_set given k more) done
mixed_more R m given done h k i later g more at there is come =
    mixed_grown R m (slice_set m.intakes k later) given (slice_set given k more) done h (more_of given k g more there is) (length-set m.intakes k later)
    (λ j x y got was. elim (where_is j k) [
      | inl before ↦ other j x y got was (λ same. omega (arith, same, before))
      | inr (inl same) ↦
          let got_ : slice_get (slice_set m.intakes k later) k ≡ Some x = subst (λ (n : ℕ). slice_get (slice_set m.intakes k later) n ≡ Some x) same got in
          let was_ : slice_get (slice_set given k more) k ≡ Some y = subst (λ (n : ℕ). slice_get (slice_set given k more) n ≡ Some y) same was in
          subst (λ (z : Intaking). HasComeBehind R z y m.rounds) (set_there m.intakes k later x got_) (subst (λ (z : Handed). HasComeBehind R later z m.rounds) (set_there given k more y was_) come)
      | inr (inr behind) ↦ other j x y got was (λ same. omega (arith, same, behind))
    ])
  where
    other : (j : ℕ) (x : Intaking) (y : Handed) → slice_get (slice_set m.intakes k later) j ≡ Some x → slice_get (slice_set given k more) j ≡ Some y → j ≢ k → HasComeBehind R x y m.rounds
    other j x y got was different = h.come j x y (sym (set_other m.intakes j k later different) ∙ got) (sym (set_other given j k more different) ∙ was)

-- ---- none was handed in

new_given : (corners : List Corner) (k : ℕ) (h : Handed) → slice_get (map (λ (c : Corner). nothing) corners) k ≡ Some h → h ≡ nothing
new_given corners k h at = sym (mapped_at (λ (c : Corner). nothing) corners k h at).2

pub new_mixed : (R : Readers) (m : Mixing) (corners : List Corner) → length m.intakes ≡ length corners → AreNew m.intakes → m.rounds ≡ 0 → m.held ≡ None → m.end ≡ None → Stands m.merger [] → HasMixed R m (map (λ (c : Corner). nothing) corners) []
new_mixed R m corners count new rounds held end stands = record {
  sources = length-map corners (λ (c : Corner). nothing) ∙ sym count;
  rounds = sym rounds;
  merged = λ ss opened. tt;
  stands = λ none. stands;
  come = λ k i h at there.
      let x = new k i at in
      subst (λ (g : Handed). HasComeBehind R i g m.rounds) (sym (new_given corners k h there))
      (record { pictures = []; come = subst (λ (s : State). ComesNext R i nothing [] s) (sym x.0) (x.1 R); count = sym rounds });
  holds = λ kind is. let no = sym held ∙ is in absurd (cc);
  ended = λ other is. let no = sym end ∙ is in absurd (cc);
}

-- ---- more is handed in of one source

-- what it is given, and what its intake makes of it
hands_in : (old : Mixing) (k : ℕ) (i later : Intaking) (more : Intaking → Handed → Handed) → slice_get old.intakes k ≡ Some i
    → ((R : Readers) → AreOfH266 R → (h : Handed) (ps : List StreamPicture) → ComesNext R i h ps i.state → IsMore h (more i h) × ComesNext R later (more i h) ps later.state)
    → HandsIn old (record old { intakes = slice_set old.intakes k later }) k more
hands_in old k i later more at takes = record {
  intake = i;
  at = at;
  later = later;
  only = refl;
  mixed = λ R of given done h mixed there.
      let c = mixed.come k i h at there in
      let x = takes R of h c.pictures c.come in
      mixed_more R old given done mixed k i later h (more i h) at there x.0 (record { pictures = c.pictures; come = x.1; count = c.count });
}

module _ (old : Mixing) (k : ℕ) (i later : Intaking) (at : slice_get old.intakes k ≡ Some i) (kept : (i.state ≡ AtWait → ⊥) → (i.state ≡ AtPicture → ⊥) → later ≡ i) where
  abbrev Hands : (Intaking → Handed → Handed) → Type 0
  Hands more = HandsIn old (record old { intakes = slice_set old.intakes k later }) k more

  -- the end
  pub end_hands : (i.state ≡ AtWait → (R : Readers) → AreOfH266 R → (h : Handed) (ps : List StreamPicture) → HasCome R i h ps → ComesNext R later (with_end h) ps later.state)
      → (i.state ≡ AtPicture → (R : Readers) (h : Handed) (ps : List StreamPicture) → HasCome R i h ps → HasCome R later (with_end h) ps)
      → (i.state ≡ AtPicture → later ≡ record i { ended = true }) → Hands (λ j h. with_end h)
  end_hands comes behind holding =
      hands_in old k i later (λ j h. with_end h) at (λ R of h ps c. takes_end R i later h ps c (λ waits. comes waits R of h) (λ holds. behind holds R h) holding kept)

  -- zeros
  pub flush_hands : (i.state ≡ AtWait → (R : Readers) → AreOfH266 R → (h : Handed) (ps : List StreamPicture) → HasCome R i h ps → ComesNext R later (with_more h zeros) ps later.state)
      → (i.state ≡ AtPicture → i.ended ≡ false → i.flushed ≡ false → (R : Readers) (h : Handed) (ps : List StreamPicture) → HasCome R i h ps → HasCome R later (with_more h zeros) ps)
      → (i.state ≡ AtPicture → later ≡ record i { flushed = later.flushed }) → (i.flushed ≡ true → later ≡ i) → (i.ended ≡ true → later ≡ i) → Hands with_zeros
  flush_hands comes behind holding once ended =
      hands_in old k i later with_zeros at (λ R of h ps c. takes_zeros R i later h ps c (λ waits. comes waits R of h) (λ holds open_ none. behind holds open_ none R h) holding once ended kept)

-- bytes
pub push_hands : (old : Mixing) (k : ℕ) (i later : Intaking) → slice_get old.intakes k ≡ Some i → (piece : List ℕ) (n : ℕ)
    → (i.state ≡ AtWait → (R : Readers) → AreOfH266 R → (h : Handed) (ps : List StreamPicture) → HasCome R i h ps → ComesNext R later (with_more h (take n piece)) ps later.state)
    → ((i.state ≡ AtWait → ⊥) → (n ≡ 0) × (later ≡ i)) → HandsIn old (record old { intakes = slice_set old.intakes k later }) k (λ j h. with_more h (take n piece))
push_hands old k i later at piece n comes kept =
    hands_in old k i later (λ j h. with_more h (take n piece)) at (λ R of h ps c. takes_piece R i later h ps c piece n (λ waits. comes waits R of h) kept)

-- and none behind the end
pub mixed_waits_no_more : (R : Readers) (m : Mixing) (given : List Handed) (done : List Plan) (k : ℕ) (i : Intaking) (h : Handed) → HasMixed R m given done → slice_get m.intakes k ≡ Some i → slice_get given k ≡ Some h → h.all ≡ true
    → i.state ≡ AtWait → ⊥
mixed_waits_no_more R m given done k i h mixed at there all = let c = mixed.come k i h at there in waits_no_more_behind R i h c.pictures c.come all

-- ---- one source after another

-- one more is marked
pub marked_more : (intakes : List Intaking) (marks : List Bool) (k : ℕ) (i : Intaking) (flag : Bool) → AreMarked intakes marks k → slice_get intakes k ≡ Some i → i.state ≡ mark_of flag → k < length marks → AreMarked intakes (slice_set marks k flag) (k + 1)
marked_more intakes marks k i flag marked at is within j x before there = elim (where_is j k) [
  | inl earlier ↦ marked j x earlier there ∙ ap mark_of (sym (get_set_other marks j k flag false (λ same. omega (arith, same, earlier))))
  | inr (inl same) ↦
      let here : slice_get intakes k ≡ Some x = subst (λ (n : ℕ). slice_get intakes n ≡ Some x) same there in
      let mark : get_or (slice_set marks k flag) j false ≡ flag = ap (λ (n : ℕ). get_or (slice_set marks k flag) n false) same ∙ get_set_there marks k flag false within in
      ap (λ (y : Intaking). y.state) (sym (same_Some i x (sym at ∙ here))) ∙ is ∙ ap mark_of (sym mark)
  | inr (inr later) ↦ absurd (omega (arith, later, before))
]

-- none was passed yet
pub passing_none : (intakes : List Intaking) → ArePassing intakes intakes 0
passing_none intakes = record { count = refl; passed = λ j i before. absurd (omega (arith, before)); same = λ j behind. refl }

-- one more was
pub passing_more : (intakes later : List Intaking) (k : ℕ) (i j : Intaking) → ArePassing intakes later k → slice_get later k ≡ Some i → (i.state ≡ AtPicture → HasPassed i j) → ArePassing intakes (slice_set later k j) (k + 1)
passing_more intakes later k i j are at passed = record {
  count = length-set later k j ∙ are.count;
  passed = λ n x before there holds. elim (where_is n k) [
    | inl earlier ↦
        let y = are.passed n x earlier there holds in
        (y.0, set_other later n k j (λ same. omega (arith, same, earlier)) ∙ y.1, y.2)
    | inr (inl same) ↦
        let here : slice_get intakes k ≡ Some x = subst (λ (m : ℕ). slice_get intakes m ≡ Some x) same there in
        let it : i ≡ x = same_Some i x (sym at ∙ are.same k (omega arith) ∙ here) in
        let fits : k < length (slice_set later k j) = omega (arith, slice_get_within later k i at, length-set later k j) in
        let now = some_at (slice_set later k j) k fits in
        let new : slice_get (slice_set later k j) k ≡ Some j = subst (λ (y : Intaking). slice_get (slice_set later k j) k ≡ Some y) (sym (set_there later k j now.0 now.1)) now.1 in
        (j, subst (λ (m : ℕ). slice_get (slice_set later k j) m ≡ Some j) (sym same) new, subst (λ (y : Intaking). HasPassed y j) it (passed (subst (λ (y : Intaking). y.state ≡ AtPicture) (sym it) holds)))
    | inr (inr behind) ↦ absurd (omega (arith, behind, before))
  ];
  same = λ n behind. set_other later n k j (λ same. omega (arith, same, behind)) ∙ are.same n (omega (arith, behind));
}

-- all were
pub passing_all : (intakes later : List Intaking) (k : ℕ) → ArePassing intakes later k → length later ≤ k → HavePassed intakes later
passing_all intakes later k are all = record {
  count = are.count;
  each = λ j i at holds. are.passed j i (omega (arith, slice_get_within intakes j i at, are.count, all)) at holds;
}

-- ---- the law

-- what a mixer came to is how the merge ends
ends_of : (R : Readers) (m : Merging) (given : List Handed) (done : List Plan) (end : Mixed) (mine : Outcome) → HasEndedBy R m given done end → outcome_of end ≡ Some mine → EndsMerged R m given done mine
ends_of R m given done ToEnd mine by is = subst (λ (o : Outcome). EndsMerged R m given done o) (same_Some (Ok tt) mine is) by
ends_of R m given done (ToStop (Refused r place)) mine by is = subst (λ (o : Outcome). EndsMerged R m given done o) (same_Some (Err (Refused r place)) mine is) by
ends_of R m given done (ToStop NoMemory) mine by is = absurd (cc)
ends_of R m given done (ToStop NotUnderstood) mine by is = absurd (cc)
ends_of R m given done (ToStop (ReadFault k)) mine by is = absurd (cc)
ends_of R m given done (ToStop (Mismatched x y)) mine by is = absurd (cc)
ends_of R m given done (ToStop WriteFault) mine by is = absurd (cc)
ends_of R m given done ToPicture mine by is = absurd (cc)
ends_of R m given done (ToWait k) mine by is = absurd (cc)

pub mixed_merged : EndsOnce → MixedIsMerged
mixed_merged once R m given done end mine h at is ss other outcome some opened there =
    let here = ends_of R m.merger given done end mine (h.ended end at) is ss opened in
    once m.merger.corners m.merger.level ss other done outcome mine some there here
