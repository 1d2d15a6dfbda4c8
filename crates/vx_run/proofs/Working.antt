-- What rounds that are checked or written come to.
use Rattle.std.proofs.Common.{◌≡◌, ℕ, ◌+◌, List, [], ◌∷◌, ◌∙◌, Option, None, Result, Ok, Err, ◌⊎◌, length, map, inl, inr, sym, ap, refl, subst, arith}
use Rattle.std.specs.Io.KnownBytes.{Appends}
use Rattle.std.proofs.KnownBytes.{Appends-trans}
use Rattle.vx_io.specs.Faults.{Rose}
use Rattle.vx_io.specs.Written.{AppendsFront}
use Rattle.vx_bits.specs.declared.refusal.Refusal.{Refusal}
use Rattle.vx_annexb.specs.Laws.{written}
use Rattle.vx_pic.specs.Readings.{Picture}
use Rattle.vx_pic.specs.Rules.{Readers}
use Rattle.vx_pic.specs.Parts.{Parts}
use Rattle.vx_pic.specs.Written.{Plan, units_of}
use Rattle.vx_run.specs.declared.stop.Place.{Place}
use Rattle.vx_assemble.specs.Held.{lent_by}
use Rattle.vx_assemble.specs.Feed.{Feeding}
use Rattle.vx_write.specs.declared.fault.WriteError.{WriteError}
use Rattle.vx_write.specs.declared.fault.WriteError.TheVariants as errors
use Rattle.vx_write.specs.declared.fault.WriteFirst.{WriteFirst}
use Rattle.vx_frame.specs.declared.corner.Corner.{Corner}
use Rattle.vx_merge.specs.Merging.{Merging, SameTask, Stands, Passes, IsBarred}
use Rattle.vx_run.specs.declared.merge.Work.{Work}
use Rattle.vx_run.specs.declared.merge.Work.TheVariants.{Check, Write}
use Rattle.vx_run.specs.declared.stop.Stop.{Stop}
use Rattle.vx_run.specs.declared.stop.Stop.TheVariants.{NotUnderstood, Mismatched, Refused, ReadFault, WriteFault, NoMemory}
use Rattle.vx_run.specs.Change.{Change, Sources, change, sources_change, Gains, GainsFront}
use Rattle.vx_run.specs.Conclusion.{Outcome}
use Rattle.vx_run.specs.Extract.{ok_text}
use Rattle.vx_run.specs.Rounds.{Stream, AllEnded, StopsIn, by_round, AreTold, OfEachSource, IsReadInRound, at_source, at_round}
use Rattle.vx_run.specs.Merge.{AreRoundsWritten, bytes_of, length_refused, merge_telling, EndsWritten, GainsInto, ChecksMergeBy}
use Rattle.vx_run.specs.inner.Advancing.{OfAll, Begin, AreWaiting, AllTake, AllEnd, so_far, EndsFirst, HaltsAtSource, HaltsByLength}
use Rattle.vx_run.specs.inner.Stopping.{stop_of_write}
use Rattle.vx_run.proofs.Corners.{comes_of}
use Rattle.vx_run.specs.inner.Merging.{Leaves, Keeps, TakesRounds, DoesRound, TakesRound, HasWritten, HasDone}
use Rattle.vx_run.proofs.Extracting.{written_more}
use Rattle.vx_run.proofs.Gained.{Gains-nothing, Gains-then}
use Rattle.vx_run.proofs.Merging.{more_written, written_told}
use Rattle.vx_run.proofs.Sources.{HasRound, has_round}
use Rattle.vx_run.proofs.Advancing.{begin_told, all_out, end_begin, all_ended, take_begin, take_read, take_for, round_told, unread, first_stops, length_stops}

-- ---- bytes that are gained

module _ {K : Type 0} (taken : K → Option (List ℕ)) (writes : K → ℕ) (o o' o'' : K) (xs ys : List ℕ) (gained : Gains (change taken writes o o') xs) where
  gains_still : taken o'' ≡ taken o' → writes o'' ≡ writes o' → Gains (change taken writes o o'') xs
  gains_still bytes faults = record { kept = faults ∙ gained.kept; gained = subst (λ (b : Option (List ℕ)). Appends (taken o) b xs) (sym bytes) gained.gained }

  gains_into : Rose (writes o') (writes o'') → AppendsFront (taken o') (taken o'') ys → GainsInto (change taken writes o o'') xs ys
  gains_into rose front = record {
    failed = subst (λ (n : ℕ). Rose n (writes o'')) gained.kept rose;
    front = front.front;
    of_next = front.of_piece;
    short = front.short;
    gained = Appends-trans (taken o) (taken o') (taken o'') xs front.front gained.gained front.gained;
  }

-- nothing was written where rounds are checked, and no write failed else
keeps : {K : Type 0} (work : Work) (out : Change K) (done : List Plan) → Leaves work out done → Keeps work out
keeps Check out done leaves = leaves
keeps Write out done leaves = leaves.kept

-- ---- what a merger says of its regions

module _ (m : Merging) (corners : List Corner) (level : Option ℕ) (same : m.corners ≡ corners) (alike : m.level ≡ level) (round : List Parts) (done : List Plan) where
  passes_so : (p : Plan) → Passes m.corners m.level round done p → Passes corners level round done p
  passes_so p passes = subst (λ (l : List Corner). Passes l level round done p) same (subst (λ (n : Option ℕ). Passes m.corners n round done p) alike passes)

  barred_so : (r : Refusal) → IsBarred m.corners m.level round done r → IsBarred corners level round done r
  barred_so r barred = subst (λ (l : List Corner). IsBarred l level round done r) same (subst (λ (n : Option ℕ). IsBarred m.corners n round done r) alike barred)

-- where a round isn't checked or written
not_stopped : {K : Type 0} (work : Work) (round : List Parts) (done : List Plan) (m : Merging) (out : Change K) (f : WriteFirst) → DoesRound work round done m out (Err (errors.Stopped f)) → ⊥
not_stopped Check round done m out f by = by.1
not_stopped Write round done m out f by = by

pub did_in : {K : Type 0} (work : Work) (round : List Parts) (done : List Plan) (m : Merging) (out : Change K) (n : ℕ) (error : WriteError) → DoesRound work round done m out (Err error)
    → TakesRound work round done m out n (Err (stop_of_write error n))
did_in work round done m out n error by = comes_of (DoesRound work round done m out) (not_stopped work round done m out) n error by

-- what is told behind rounds that are as many as plans
told_behind : (corners : List Corner) (level : Option ℕ) (ss : List Stream) (done : List Plan) (n : ℕ) (stop : Stop) → length done ≡ n → AreRoundsWritten corners level ss done → StopsIn (merge_telling corners level done) ss n stop → EndsWritten corners level ss done (Err stop)
told_behind corners level ss done n stop same plans stops = (plans, subst (λ (k : ℕ). StopsIn (merge_telling corners level done) ss k stop) (sym same) stops)

-- ---- one round

-- what is answered of it
pub record Turns {K : Type 0} (taken : K → Option (List ℕ)) (writes : K → ℕ) (n : ℕ) (o o' : K) (m m' : Merging) (work : Work) (outcome : Outcome) (round : List Parts) : Type 0 where
  pub takes : (done : List Plan) → Stands m done → TakesRound work round done m' (change taken writes o o') n outcome
  pub task : SameTask m m'

pub turns_same : {K : Type 0} (taken : K → Option (List ℕ)) (writes : K → ℕ) (n : ℕ) (o o' : K) (m m' : Merging) (work : Work) (outcome : Outcome) (feeds fs : List Feeding) → feeds ≡ fs
    → Turns taken writes n o o' m m' work outcome (map (λ (f : Feeding). lent_by f.assembler) feeds) → Turns taken writes n o o' m m' work outcome (map (λ (f : Feeding). lent_by f.assembler) fs)
turns_same taken writes n o o' m m' work outcome feeds fs same turns = subst (λ (l : List Feeding). Turns taken writes n o o' m m' work outcome (map (λ (f : Feeding). lent_by f.assembler) l)) same turns

-- what `out` gained with it
module _ {K : Type 0} (taken : K → Option (List ℕ)) (writes : K → ℕ) (o o' o'' : K) (m : Merging) (round : List Parts) (done : List Plan) where
  abbrev Did : Work → Result (Unit {0}) WriteError → Type 0
  Did work answer = DoesRound work round done m (change taken writes o' o'') answer

  abbrev Left : Work → K → List Plan → Type 0
  Left work x plans = Leaves work (change taken writes o x) plans

  pub did_one : (work : Work) → Left work o' done → Did work (Ok tt) → (p : Plan) × Passes m.corners m.level round done p × Stands m (p ∷ done) × Left work o'' (p ∷ done)
  did_one Check left did = (did.1.0, did.1.1, did.1.2, did.0 ∙ left)
  did_one Write left did =
      let p = did.1.0 in (
        p,
        did.1.1,
        did.1.3,
        subst (λ (x : List ℕ). Gains (change taken writes o o'') x) (sym (written_more p done)) (Gains-then taken writes o o' o'' (bytes_of done) (written (units_of p)) left (record { kept = did.0; gained = did.1.2 })),
      )

  did_refuse : (work : Work) (r : Refusal) → Left work o' done → Did work (Err (errors.Refused r)) → Left work o'' done × IsBarred m.corners m.level round done r
  did_refuse Check r left did = (did.0 ∙ left, did.1)
  did_refuse Write r left did = (gains_still taken writes o o' o'' (bytes_of done) [] left did.0 did.1, did.2)

  pub did_nothing : (work : Work) → Left work o' done → Did work (Err errors.Memory) → Left work o'' done
  did_nothing Check left did = did.0 ∙ left
  did_nothing Write left did = gains_still taken writes o o' o'' (bytes_of done) [] left did.0 did.1

  pub did_front : (work : Work) → Left work o' done → Did work (Err errors.SinkFailed) → (work ≡ Write) × ((p : Plan) × Passes m.corners m.level round done p × GainsInto (change taken writes o o'') (bytes_of done) (written (units_of p)))
  did_front Check left did = absurd did.1
  did_front Write left did = (refl, (did.1.0, did.1.1, gains_into taken writes o o' o'' (bytes_of done) (written (units_of did.1.0)) left did.0 did.1.2))

-- ---- round by round

module _ {A K : Type 0} (bytes : A → Option (List ℕ)) (faults : A → ℕ) (taken_ : K → Option (List ℕ)) (writes : K → ℕ) (R : Readers) (first : List A) (o : K) (corners : List Corner) (level : Option ℕ) where
  abbrev Src : List A → Sources A
  Src l = sources_change bytes faults first l

  abbrev Out : K → Change K
  Out o' = change taken_ writes o o'

  abbrev Comes : Work → List A → K → Result ℕ Stop → Type 0
  Comes work l o' result = TakesRounds R work corners level (Src l) (Out o') result

  -- ---- none yet

  nothing : (work : Work) → Leaves work (Out o) []
  nothing Check = refl
  nothing Write = Gains-nothing taken_ writes o o refl

  -- there was no memory to begin
  pub work_unmade : (work : Work) → Comes work first o (Err NoMemory)
  work_unmade work = (unread bytes faults R first, keeps work (Out o) [] (nothing work), λ ss are. ([], tt, nothing work))

  pub work_none : (work : Work) (feeds : List Feeding) (m : Merging) (taken : List (List Picture)) → AreWaiting R (Src first) feeds taken 0 → Stands m [] → HasDone R work corners level (Src first) (Out o) feeds m 0
  work_none work feeds m taken waiting stands = record { taken = taken; waiting = waiting; done = record { done = []; count = refl; stands = stands; plans = tt; leaves = nothing work } }

  -- ---- n rounds of these pictures were checked or written

  module _ (l : List A) (taken : List (List Picture)) (n : ℕ) (count : length taken ≡ length first) (rounds : OfAll (λ k ps. length ps ≡ n) taken) (o' : K) (m : Merging) (work : Work)
      (w : HasWritten work corners level (Out o') m taken n) where
    plans_told : (ss : List Stream) → AreTold R (Src l) ss → Begin ss taken → AreRoundsWritten corners level ss w.done
    plans_told = written_told bytes faults R first corners level l taken n count rounds w.done w.count w.plans

    kept : Keeps work (Out o')
    kept = keeps work (Out o') w.done w.leaves

    -- and it stopped at a source,
    halted : (stop : Stop) → HaltsAtSource R (Src l) taken n stop → Comes work l o' (Err stop)
    halted (Refused r place) halts = (
      n,
      at_source halts.0,
      kept,
      λ ss are.
          let h = halts.1 ss are in
          (w.done, w.count, told_behind corners level ss w.done n (Refused r place) w.count (plans_told ss are h.0) (first_stops (merge_telling corners level w.done) (λ k e. refl) ss n (Refused r place) h.1), w.leaves),
    )
    halted (ReadFault k) halts = (
      halts.0,
      halts.1,
      kept,
      (n, halts.2, halts.3, λ ss are. let h = halts.4 ss are in (w.done, w.count, plans_told ss are h.0, h.1, w.leaves)),
    )
    halted NoMemory halts = (halts.0, kept, λ ss are. (w.done, plans_told ss are (halts.1 ss are), w.leaves))
    halted NotUnderstood halts = absurd halts
    halted (Mismatched x y) halts = absurd halts
    halted WriteFault halts = absurd halts

    -- or for their lengths
    uneven : (k : ℕ) → OfEachSource (Src l) (IsReadInRound R n) → ((ss : List Stream) → AreTold R (Src l) ss → Begin ss taken × EndsFirst ss n k) → Comes work l o' (Err (length_refused n k))
    uneven k read told = (
      n,
      at_round refl read,
      kept,
      λ ss are.
          let h = told ss are in
          (w.done, w.count, told_behind corners level ss w.done n (length_refused n k) w.count (plans_told ss are h.0) (length_stops (merge_telling corners level w.done) ss n k (length_refused n k) refl h.1), w.leaves),
    )

    pub work_halted : (stop : Stop) → HaltsAtSource R (Src l) taken n stop ⊎ HaltsByLength length_refused R (Src l) taken n stop → Comes work l o' (Err stop)
    work_halted stop (inl halts) = halted stop halts
    work_halted stop (inr halts) = subst (λ (s : Stop). Comes work l o' (Err s)) (sym halts.is) (uneven halts.k halts.read halts.told)

    -- all have ended
    pub work_done : AllEnd R (Src l) taken n → Comes work l o' (Ok n)
    work_done all = (
      all_out bytes faults R first l taken n all,
      kept,
      λ ss are. (
        w.done,
        w.count,
        (
          plans_told ss are (end_begin bytes faults R first l taken n all ss are),
          subst (λ (k : ℕ). AllEnded ss k) (sym w.count) (all_ended bytes faults R first l taken n all ss are),
        ),
        w.leaves,
      ),
    )

  -- ---- one more round of pictures was taken

  module _ (l : List A) (feeds : List Feeding) (taken : List (List Picture)) (n : ℕ) (all : AllTake R (Src l) feeds taken n) (o' o'' : K) (m m' : Merging)
      (corners_same : m.corners ≡ corners) (level_same : m.level ≡ level) (work : Work) (w : HasWritten work corners level (Out o') m taken n) where
    abbrev round : List Parts
    round = map (λ (f : Feeding). lent_by f.assembler) feeds

    abbrev Turned : Outcome → Type 0
    Turned outcome = Turns taken_ writes n o' o'' m m' work outcome round

    has : HasRound bytes faults R first l feeds taken n
    has = has_round bytes faults R first l feeds taken n all

    told : (ss : List Stream) → AreTold R (Src l) ss → AreRoundsWritten corners level ss w.done
    told ss are = plans_told l taken n all.taken_count all.rounds o' m work w ss are (take_begin bytes faults R first l feeds taken n all ss are)

    own_passes : SameTask m m' → (p : Plan) → Passes m'.corners m'.level round w.done p → Passes corners level round w.done p
    own_passes task = passes_so m' corners level (task.corners ∙ corners_same) (task.level ∙ level_same) round w.done

    more_plans : (p : Plan) → Passes corners level round w.done p → AreRoundsWritten corners level (so_far has.next) (p ∷ w.done)
    more_plans p = more_written bytes faults R first l feeds taken n all corners level has w.done p w.count w.plans

    told_more : (p : Plan) → Passes corners level round w.done p → (ss : List Stream) → AreTold R (Src l) ss → AreRoundsWritten corners level ss (p ∷ w.done)
    told_more p passes ss are =
        written_told bytes faults R first corners level l has.next (n + 1) has.waiting.taken_count has.waiting.rounds (p ∷ w.done) (omega (arith, w.count)) (more_plans p passes) ss are
        (begin_told bytes faults R first l has.next has.ahead ss are)

    -- it stopped there
    pub work_stopped : (stop : Stop) → Turned (Err stop) → Comes work l o'' (Err stop)
    work_stopped (Refused r place) turns =
        let takes = turns.takes w.done w.stands in
        let did = did_refuse taken_ writes o o' o'' m' round w.done work r w.leaves takes.0 in
        let barred = barred_so m' corners level (turns.task.corners ∙ corners_same) (turns.task.level ∙ level_same) round w.done r did.1 in (
          n,
          at_round takes.1 (λ k within. inl (take_for bytes faults R first l feeds taken n all k within)),
          keeps work (Out o'') w.done did.0,
          λ ss are.
              let stops = by_round round (round_told bytes faults R first l feeds taken n all has ss are) (r, barred, ap (λ (p : Place). Refused r p) takes.1) in
              (w.done, w.count, told_behind corners level ss w.done n (Refused r place) w.count (told ss are) stops, did.0),
        )
    work_stopped WriteFault turns =
        let did = did_front taken_ writes o o' o'' m' round w.done work w.leaves (turns.takes w.done w.stands) in
        let p = did.1.0 in (
          did.0,
          (
            n,
            take_for bytes faults R first l feeds taken n all,
            did.1.2.failed,
            λ ss are. (w.done, p, w.count, told_more p (own_passes turns.task p did.1.1) ss are, did.1.2),
          ),
        )
    work_stopped NoMemory turns =
        let left = did_nothing taken_ writes o o' o'' m' round w.done work w.leaves (turns.takes w.done w.stands) in
        (take_read bytes faults R first l feeds taken n all, keeps work (Out o'') w.done left, λ ss are. (w.done, told ss are, left))
    work_stopped NotUnderstood turns = absurd (turns.takes w.done w.stands)
    work_stopped (Mismatched x y) turns = absurd (turns.takes w.done w.stands)
    work_stopped (ReadFault k) turns = absurd (turns.takes w.done w.stands)

    -- or goes on
    pub work_more : Turned (Ok tt) → HasDone R work corners level (Src l) (Out o'') feeds m' (n + 1)
    work_more turns =
        let did = did_one taken_ writes o o' o'' m' round w.done work w.leaves (turns.takes w.done w.stands) in
        let p = did.0 in
        record {
          taken = has.next;
          waiting = has.waiting;
          done = record {
            done = p ∷ w.done;
            count = omega (arith, w.count);
            stands = did.2;
            plans = more_plans p (own_passes turns.task p did.1);
            leaves = did.3;
          };
        }

-- ---- what the commands did

-- the same corners
pub takes_same : {A K : Type 0} (R : Readers) (work : Work) (corners own : List Corner) (level : Option ℕ) (sources : Sources A) (out : Change K) (result : Result ℕ Stop) → corners ≡ own
    → TakesRounds R work corners level sources out result → TakesRounds R work own level sources out result
takes_same R work corners own level sources out result same takes = subst (λ (l : List Corner). TakesRounds R work l level sources out result) same takes

-- no source was read
pub check_unread : {A K : Type 0} (bytes : A → Option (List ℕ)) (faults : A → ℕ) (taken : K → Option (List ℕ)) (writes : K → ℕ) (R : Readers) (first : List A) (o : K) (corners : List Corner)
    → ChecksMergeBy R corners (sources_change bytes faults first first) (change taken writes o o) (Err NoMemory)
check_unread bytes faults taken writes R first o corners = (unread bytes faults R first, refl)

module _ {A K : Type 0} (R : Readers) (corners : List Corner) (sources : Sources A) (out : Change K) where
  -- nothing was written where a check stopped
  pub check_stopped : (stop : Stop) → TakesRounds R Check corners None sources out (Err stop) → ChecksMergeBy R corners sources out (Err stop)
  check_stopped (Refused r place) takes = (takes.0, takes.1, takes.2, λ ss are. let x = takes.3 ss are in (x.0, x.1, x.2))
  check_stopped (ReadFault k) takes =
      let seen = takes.3 in
      (takes.0, takes.1, takes.2, (seen.0, seen.1, seen.2, λ ss are. let x = seen.3 ss are in (x.0, x.1, x.2, x.3)))
  check_stopped NoMemory takes = (takes.0, takes.1)
  check_stopped NotUnderstood takes = absurd takes
  check_stopped (Mismatched x y) takes = absurd takes
  check_stopped WriteFault takes = let other = takes.0 in absurd (cc)

  module _ (n : ℕ) (takes : TakesRounds R Check corners None sources out (Ok n)) where
    -- no memory for the line
    pub check_unmade : ChecksMergeBy R corners sources out (Err NoMemory)
    check_unmade = (λ k within. let r = takes.0 k within in (r.0, r.1), takes.1)

    module _ (o : K) where
      abbrev from : K → Change K
      from x = change out.bytes out.faults x o

      -- it was written
      pub check_done : Gains (from out.new) (ok_text n) → ChecksMergeBy R corners sources (from out.old) (Ok tt)
      check_done more =
          let gained = subst (λ (x : K). Gains (from x) (ok_text n)) takes.1 more in
          (takes.0, gained.kept, λ ss are. let x = takes.2 ss are in (x.0, x.2, subst (λ (k : ℕ). Gains (from out.old) (ok_text k)) (sym x.1) gained))

      -- or a front of it
      pub check_cut : GainsFront (from out.new) (ok_text n) → ChecksMergeBy R corners sources (from out.old) (Err WriteFault)
      check_cut more =
          let front = subst (λ (x : K). GainsFront (from x) (ok_text n)) takes.1 more in
          (takes.0, front.failed, λ ss are. let x = takes.2 ss are in (x.0, x.2, subst (λ (k : ℕ). GainsFront (from out.old) (ok_text k)) (sym x.1) front))
