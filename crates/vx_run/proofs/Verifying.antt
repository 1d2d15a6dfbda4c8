-- What rounds that are verified come to.
use Rattle.std.proofs.Common.{◌≡◌, ℕ, ◌+◌, ◌⊎◌, List, [], ◌∷◌, ◌∙◌, Option, Some, Result, Ok, Err, length, map, drop, slice_get, inl, inr, sym, refl, subst, arith, take, ◌-◌}
use Rattle.std.proofs.Math.Seq.{take_all}
use Rattle.std.proofs.lemmas.Bool.{cases_lt}
use Rattle.std.proofs.lemmas.List.{length-map}
use Rattle.std.proofs.lemmas.Option.{same_Some}
use Rattle.vx_pic.specs.Readings.{Picture}
use Rattle.vx_pic.specs.Rules.{Readers}
use Rattle.vx_pic.specs.Parts.{Parts}
use Rattle.vx_assemble.specs.Held.{lent_by}
use Rattle.vx_assemble.specs.Feed.{Feeding}
use Rattle.vx_verify.specs.declared.mismatch.Mismatch.{Mismatch}
use Rattle.vx_verify.specs.declared.mismatch.VerifyError.{VerifyError}
use Rattle.vx_verify.specs.declared.mismatch.VerifyError.TheVariants as errors
use Rattle.vx_verify.specs.declared.spot.Spot.{Spot}
use Rattle.vx_verify.specs.Verified.{IsVerified, IsMismatch}
use Rattle.vx_verify.specs.Verifying.{Judges}
use Rattle.vx_run.specs.declared.stop.Stop.{Stop}
use Rattle.vx_run.specs.declared.stop.Stop.TheVariants.{NotUnderstood, Mismatched, Refused, ReadFault, WriteFault, NoMemory}
use Rattle.vx_run.specs.Change.{Sources, change, sources_change, Gains, GainsFront}
use Rattle.vx_run.specs.Conclusion.{IsOfCommand, Outcome}
use Rattle.vx_run.specs.Rounds.{Stream, by_round, AreTold, OfEachSource, IsReadInRound, IsRound}
use Rattle.vx_run.specs.Verify.{OfRound, AreVerified, length_differs, verify_telling, VerifiesBy, yes_text}
use Rattle.vx_run.specs.inner.Advancing.{OfAll, Begin, IsUnfed, AllTake, AllEnd, so_far, EndsFirst, HaltsAtSource, HaltsByLength}
use Rattle.vx_run.specs.inner.Verifying.{VerifiesRound, VerifiesRounds, HasVerified, stop_in}
use Rattle.vx_run.proofs.Advancing.{counted, all_out, end_begin, all_ended, take_begin, take_read, take_for, round_told, unread, waiting_none, first_stops, length_stops}
use Rattle.vx_run.proofs.Sources.{HasRound, has_round, round_stays, stream_of}

-- ---- one round

-- what holds of the pictures of a round where another thing does
pub of_round : (P Q : Parts → List Parts → Type 0) → ((q : Parts) (round : List Parts) → P q round → Q q round) → (round : List Parts) → OfRound P round → OfRound Q round
of_round P Q so [] is = is
of_round P Q so (q ∷ round) is = so q round is

-- the pictures that feeds lend, of which the first is the finished stream's
pub lent_round : (P : Parts → List Parts → Type 0) (feeds : List Feeding) (f : Feeding) → slice_get feeds 0 ≡ Some f → P (lent_by f.assembler) (map (λ (g : Feeding). lent_by g.assembler) (drop 1 feeds)) → OfRound P (map (λ (g : Feeding). lent_by g.assembler) feeds)
lent_round P [] f at is = absurd (cc)
lent_round P (g ∷ feeds) f at is = subst (λ (h : Feeding). P (lent_by h.assembler) (map (λ (x : Feeding). lent_by x.assembler) feeds)) (sym (same_Some g f at)) is

-- those behind the first
pub behind_first : (feeds : List Feeding) → take (length feeds - 1) (drop 1 feeds) ≡ drop 1 feeds
behind_first [] = refl
behind_first (f ∷ feeds) = take_all (length (f ∷ feeds) - 1) feeds (omega arith)

-- where it isn't verified
pub judged_in : (spots : List Spot) (feeds : List Feeding) (f : Feeding) (n : ℕ) (error : VerifyError) → slice_get feeds 0 ≡ Some f → Judges spots (lent_by f.assembler) (map (λ (g : Feeding). lent_by g.assembler) (drop 1 feeds)) (Err error)
    → VerifiesRound spots (map (λ (g : Feeding). lent_by g.assembler) feeds) n (Err (stop_in error n))
judged_in spots feeds f n (errors.Refused m) at judged = (lent_round (λ q round. IsMismatch spots q round m) feeds f at judged, refl)
judged_in spots feeds f n errors.Memory at judged = tt
judged_in spots feeds f n (errors.Stopped first) at judged = absurd judged

-- where it is
pub verified_in : (spots : List Spot) (feeds : List Feeding) (f : Feeding) (n : ℕ) → slice_get feeds 0 ≡ Some f → Judges spots (lent_by f.assembler) (map (λ (g : Feeding). lent_by g.assembler) (drop 1 feeds)) (Ok tt)
    → VerifiesRound spots (map (λ (g : Feeding). lent_by g.assembler) feeds) n (Ok tt)
verified_in spots feeds f n at judged = lent_round (λ q round. IsVerified spots q round) feeds f at judged

-- what stops it is no want of understanding
pub is_of_command : (error : VerifyError) (n : ℕ) → IsOfCommand (stop_in error n)
is_of_command (errors.Refused m) n = tt
is_of_command errors.Memory n = tt
is_of_command (errors.Stopped first) n = tt

-- the same places and feeds
pub judged_same : (own spots : List Spot) (fs feeds : List Feeding) (n : ℕ) (outcome : Outcome) → own ≡ spots → fs ≡ feeds → VerifiesRound own (map (λ (f : Feeding). lent_by f.assembler) fs) n outcome
    → VerifiesRound spots (map (λ (f : Feeding). lent_by f.assembler) feeds) n outcome
judged_same own spots fs feeds n outcome same alike judged =
    subst (λ (l : List Spot). VerifiesRound l (map (λ (f : Feeding). lent_by f.assembler) feeds) n outcome) same (subst (λ (l : List Feeding). VerifiesRound own (map (λ (f : Feeding). lent_by f.assembler) l) n outcome) alike judged)

-- ---- rounds that are verified

-- those that are verified so far are in streams that begin with them
verified_stay : (spots : List Spot) (ss : List Stream) (taken : List (List Picture)) (n : ℕ) → length ss ≡ length taken → OfAll (λ k ps. length ps ≡ n) taken → Begin ss taken → AreVerified spots (so_far taken) n → AreVerified spots ss n
verified_stay spots ss taken n count rounds begin verified r before = let v = verified r before in (v.0, round_stays ss taken n r count rounds begin before ∙ v.1, v.2)

module _ {A : Type 0} (bytes : A → Option (List ℕ)) (faults : A → ℕ) (R : Readers) (first : List A) (spots : List Spot) where
  abbrev Src : List A → Sources A
  Src l = sources_change bytes faults first l

  abbrev Comes : List A → Result ℕ Stop → Type 0
  Comes l result = VerifiesRounds R spots (Src l) result

  pub verify_none : (feeds : List Feeding) → length feeds ≡ length first → OfAll (λ k f. IsUnfed f) feeds → HasVerified R spots (Src first) feeds 0
  verify_none feeds count unfed = record { taken = _; waiting = waiting_none bytes faults R first feeds count unfed; verified = λ r before. absurd (omega (arith, before)) }

  -- ---- n rounds of these pictures were verified

  module _ (l : List A) (taken : List (List Picture)) (n : ℕ) (count : length taken ≡ length first) (rounds : OfAll (λ k ps. length ps ≡ n) taken) (verified : AreVerified spots (so_far taken) n) where
    told : (ss : List Stream) → AreTold R (Src l) ss → Begin ss taken → AreVerified spots ss n
    told ss are begin = verified_stay spots ss taken n (counted bytes faults R first l ss taken are count) rounds begin verified

    -- and it stopped at a file,
    halted : (stop : Stop) → HaltsAtSource R (Src l) taken n stop → Comes l (Err stop)
    halted (Refused r place) halts = (
      n,
      halts.0,
      λ ss are. let h = halts.1 ss are in (told ss are h.0, first_stops (verify_telling spots) (λ k e. refl) ss n (Refused r place) h.1),
    )
    halted (ReadFault k) halts = (halts.0, halts.1, (n, halts.2, halts.3, λ ss are. let h = halts.4 ss are in (told ss are h.0, h.1)))
    halted NoMemory halts = halts.0
    halted NotUnderstood halts = absurd halts
    halted (Mismatched m k) halts = absurd halts
    halted WriteFault halts = absurd halts

    -- or for their lengths
    uneven : (k : ℕ) → OfEachSource (Src l) (IsReadInRound R n) → ((ss : List Stream) → AreTold R (Src l) ss → Begin ss taken × EndsFirst ss n k) → Comes l (Err (length_differs n k))
    uneven k read ends = (read, λ ss are. let h = ends ss are in (told ss are h.0, length_stops (verify_telling spots) ss n k (length_differs n k) refl h.1))

    pub verify_halted : (stop : Stop) → HaltsAtSource R (Src l) taken n stop ⊎ HaltsByLength length_differs R (Src l) taken n stop → Comes l (Err stop)
    verify_halted stop (inl halts) = halted stop halts
    verify_halted stop (inr halts) = subst (λ (s : Stop). Comes l (Err s)) (sym halts.is) (uneven halts.k halts.read halts.told)

    -- all have ended
    pub verify_done : AllEnd R (Src l) taken n → Comes l (Ok n)
    verify_done all = (
      all_out bytes faults R first l taken n all,
      λ ss are. (told ss are (end_begin bytes faults R first l taken n all ss are), all_ended bytes faults R first l taken n all ss are),
    )

  -- ---- one more round of pictures was taken

  module _ (l : List A) (feeds : List Feeding) (taken : List (List Picture)) (n : ℕ) (all : AllTake R (Src l) feeds taken n) (verified : AreVerified spots (so_far taken) n) where
    abbrev round : List Parts
    round = map (λ (f : Feeding). lent_by f.assembler) feeds

    has : HasRound bytes faults R first l feeds taken n
    has = has_round bytes faults R first l feeds taken n all

    -- it isn't verified
    mismatched : (m : Mismatch) → OfRound (λ q sources. IsMismatch spots q sources m) round → Comes l (Err (Mismatched m n))
    mismatched m is = (
      λ k within. inl (take_for bytes faults R first l feeds taken n all k within),
      λ ss are. (
        told l taken n all.taken_count all.rounds verified ss are (take_begin bytes faults R first l feeds taken n all ss are),
        by_round round (round_told bytes faults R first l feeds taken n all has ss are) (of_round _ _ (λ q sources told. (m, told, refl)) round is),
      ),
    )

    pub verify_stopped : (stop : Stop) → VerifiesRound spots round n (Err stop) → Comes l (Err stop)
    verify_stopped (Mismatched m k) judged = subst (λ (i : ℕ). Comes l (Err (Mismatched m i))) (sym judged.1) (mismatched m judged.0)
    verify_stopped NoMemory judged = take_read bytes faults R first l feeds taken n all
    verify_stopped NotUnderstood judged = absurd judged
    verify_stopped (Refused r place) judged = absurd judged
    verify_stopped (ReadFault k) judged = absurd judged
    verify_stopped WriteFault judged = absurd judged

    -- or it is
    more : OfRound (IsVerified spots) round → AreVerified spots (so_far has.next) (n + 1)
    more is r before = elim (cases_lt r n) [
      | inl earlier ↦ verified_stay spots (so_far has.next) taken n (omega (arith, has.waiting.taken_count, all.taken_count, length-map has.next stream_of)) all.rounds has.begin verified r earlier
      | inr not_ ↦
          let same : r ≡ n = omega (arith, before, not_) in
          (round, subst (λ (i : ℕ). IsRound (so_far has.next) i round) (sym same) has.round, is)
    ]

    pub verify_more : OfRound (IsVerified spots) round → HasVerified R spots (Src l) feeds (n + 1)
    verify_more is = record { taken = has.next; waiting = has.waiting; verified = more is }

-- ---- what the command did

-- the same places
pub verifies_same : {A : Type 0} (R : Readers) (spots own : List Spot) (sources : Sources A) (result : Result ℕ Stop) → spots ≡ own → VerifiesRounds R spots sources result → VerifiesRounds R own sources result
verifies_same R spots own sources result same verifies = subst (λ (l : List Spot). VerifiesRounds R l sources result) same verifies

-- no file was read
pub verify_unread : {A K : Type 0} (bytes : A → Option (List ℕ)) (faults : A → ℕ) (taken : K → Option (List ℕ)) (writes : K → ℕ) (R : Readers) (first : List A) (o : K) (spots : List Spot)
    → VerifiesBy R spots (sources_change bytes faults first first) (change taken writes o o) (Err NoMemory)
verify_unread bytes faults taken writes R first o spots = (unread bytes faults R first, refl)

module _ {A K : Type 0} (R : Readers) (spots : List Spot) (sources : Sources A) (taken : K → Option (List ℕ)) (writes : K → ℕ) (o : K) where
  abbrev Did : K → Outcome → Type 0
  Did o' outcome = VerifiesBy R spots sources (change taken writes o o') outcome

  -- nothing was written where it stopped
  pub verified_not : (stop : Stop) → VerifiesRounds R spots sources (Err stop) → Did o (Err stop)
  verified_not (Mismatched m n) takes = (takes.0, refl, takes.1)
  verified_not (Refused r place) takes = (takes.0, takes.1, refl, takes.2)
  verified_not (ReadFault k) takes = (takes.0, takes.1, refl, takes.2)
  verified_not NoMemory takes = (takes, refl)
  verified_not NotUnderstood takes = absurd takes
  verified_not WriteFault takes = absurd takes

  module _ (n : ℕ) (takes : VerifiesRounds R spots sources (Ok n)) where
    -- no memory for the line
    pub verified_unmade : Did o (Err NoMemory)
    verified_unmade = (λ k within. let r = takes.0 k within in (r.0, r.1), refl)

    -- it was written
    pub verified_done : (o' : K) → Gains (change taken writes o o') (yes_text n) → Did o' (Ok tt)
    verified_done o' gained = (takes.0, gained.kept, λ ss are. (n, takes.1 ss are, gained))

    -- or a front of it
    pub verified_cut : (o' : K) → GainsFront (change taken writes o o') (yes_text n) → Did o' (Err WriteFault)
    verified_cut o' front = (takes.0, front.failed, λ ss are. (n, takes.1 ss are, front))
