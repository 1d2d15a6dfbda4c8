-- What was written of the pictures that were taken, and what that comes to when `extract` ends.
use Rattle.std.proofs.Common.{◌≡◌, ℕ, ◌+◌, ◌<◌, List, [], ◌∷◌, ◌++◌, ◌∙◌, Option, Some, None, Result, Ok, Err, Bool, true, false, cond, length, map, sym, ap, ap₂, refl, subst, arith, append_assoc, append-nil}
use Rattle.std.specs.Prelude.{OnOk, IfErr}
use Rattle.std.specs.Io.KnownBytes.{Consumes, IsAtEnd, Appends}
use Rattle.std.proofs.lemmas.Grind.{flat_map-append}
use Rattle.std.proofs.KnownBytes.{Consumes-nil, Appends-trans}
use Rattle.vx_bits.specs.declared.refusal.Refusal.{Refusal}
use Rattle.vx_bits.specs.declared.refusal.Refusal.TheVariants.{Extract}
use Rattle.vx_bits.specs.declared.rules.TheConstants.{NO_PICTURE}
use Rattle.vx_io.specs.Faults.{Rose}
use Rattle.vx_io.specs.Written.{AppendsFront}
use Rattle.vx_annexb.specs.ByteStream.{UnitPlace, long_start_code}
use Rattle.vx_annexb.specs.Reading.{LastWasNeeded}
use Rattle.vx_annexb.specs.Laws.{written}
use Rattle.vx_pic.specs.Readings.{Reading, Picture, pictures}
use Rattle.vx_pic.specs.Rules.{Readers}
use Rattle.vx_pic.specs.Bytes.{AreSeenPictures}
use Rattle.vx_pic.specs.Parts.{Parts, parts_of}
use Rattle.vx_pic.specs.Written.{Plan, units_of}
use Rattle.vx_pic.specs.Resident.{units_written}
use Rattle.vx_assemble.specs.Feed.{Feeding, EndsAtEnd, HasFed}
use Rattle.vx_assemble.specs.Held.{HasPicture, ShowsLatest}
use Rattle.vx_extract.specs.Extracting.{Extracting, Stands, HasSlice, WritesPicture, WritesKept, ChecksPicture}
use Rattle.vx_write.specs.declared.fault.WriteError.{WriteError}
use Rattle.vx_write.specs.declared.fault.WriteError.TheVariants as errors
use Rattle.vx_extract.specs.Rules.{is_kept, refusal_of}
use Rattle.vx_extract.specs.Written.{AreExtracted, IsExtracted}
use Rattle.vx_run.specs.declared.stop.Place.TheVariants as places
use Rattle.vx_run.specs.declared.extract.Task.{Task}
use Rattle.vx_run.specs.declared.stop.Stop.{Stop}
use Rattle.vx_run.specs.declared.stop.Stop.TheVariants.{NotUnderstood, Mismatched, Refused, ReadFault, WriteFault, NoMemory}
use Rattle.vx_run.specs.Conclusion.{Outcome}
use Rattle.vx_run.specs.Change.{Change, change, HasNoFault, HasFault, GivesFront, Gains}
use Rattle.vx_assemble.specs.Feed.{seen_of}
use Rattle.vx_pic.specs.Sublayers.{at_most}
use Rattle.vx_run.specs.Extract.{BreakNoRule, by_ending, by_picture, without, WhereTold, BeginsWithPictures, GainsExtraction, BreaksOff, ExtractsBy}
use Rattle.vx_run.specs.ReadAgain.{IsReadAgain}
use Rattle.vx_run.specs.inner.Advancing.{AdvancesOf}
use Rattle.vx_run.specs.inner.Stopping.{stop_of_write}
use Rattle.vx_run.specs.inner.Extracting.{ChecksOne, HaveSlices, HasTaken, HasTakenOne, IsTask, TakenIsReadAgain, HasExtracted, ExtractsOne}
use Rattle.vx_run.proofs.Gained.{Gains-nothing, Gains-then}
use Rattle.vx_run.proofs.ReadAgain.{has_subpicture}
use Rattle.vx_run.proofs.Showing.{told_at}
use Rattle.vx_run.proofs.Taking.{taken_first, taken_stops, taken_below, taken_slice, takes_one, takes_end, takes_refused, takes_unread, takes_none, takes_units}
use Rattle.vx_run.proofs.Told.{refused_at}

-- ---- one more picture, written or left out

-- the parts of pictures that are kept, where the last one is or isn't
abbrev kept_with : Bool → Picture → List Picture → List Parts
kept_with k p kept = map parts_of (cond k (p ∷ kept) kept)

-- with what was written of it
pub record Goes {K : Type 0} (t : Task) (q : List Parts) (x : Extracting) (out : Change K) : Type 0 where
  pub done : List Plan
  pub stands : Stands x done
  pub plans : AreExtracted t.target t.level q done
  pub gained : Gains out (written (units_written done))

-- the bytes of one more plan
pub written_more : (p : Plan) (done : List Plan) → written (units_written (p ∷ done)) ≡ written (units_written done) ++ written (units_of p)
written_more p done = flat_map-append (λ (unit : List ℕ). long_start_code ++ unit) (units_written done) (units_of p)

-- as the task has it
extracted_so : (t : Task) (x : Extracting) (q : Parts) (done : List Plan) (p : Plan) → IsTask t x → IsExtracted x.target x.level q done p → IsExtracted t.target t.level q done p
extracted_so t x q done p task is =
    subst (λ (l : Option ℕ). IsExtracted t.target l q done p) task.level (subst (λ (n : ℕ). IsExtracted n x.level q done p) task.target is)

pub refusal_so : (t : Task) (x : Extracting) (q : Parts) → IsTask t x → refusal_of x.target x.tid q ≡ refusal_of t.target t.tid q
refusal_so t x q task = ap₂ (λ a b. refusal_of a b q) task.target task.tid

module _ {K : Type 0} (taken : K → Option (List ℕ)) (writes : K → ℕ) (t : Task) where
  abbrev Out : K → K → Change K
  Out = change taken writes

  goes_on : (k : Bool) (p : Picture) (kept : List Picture) (x : Extracting) (o o' o'' : K) (done : List Plan) → IsTask t x → AreExtracted t.target t.level (map parts_of kept) done → Gains (Out o o') (written (units_written done))
      → writes o'' ≡ writes o' → (k ≡ true → HasSlice t.target (parts_of p)) → WritesKept k (parts_of p) done x (taken o') (taken o'') → Goes t (kept_with k p kept) x (Out o o'')
  goes_on true p kept x o o' o'' done task plans gained same slice wrote =
      let more = wrote (subst (λ (n : ℕ). HasSlice n (parts_of p)) (sym task.target) (slice refl)) in
      record {
        done = more.0 ∷ done;
        stands = more.3;
        plans = (extracted_so t x (parts_of p) done more.0 task more.1, plans);
        gained = subst (λ (l : List ℕ). Gains (Out o o'') l) (sym (written_more more.0 done)) (Gains-then taken writes o o' o'' (written (units_written done)) (written (units_of more.0)) gained (record { kept = same; gained = more.2 }));
      }
  goes_on false p kept x o o' o'' done task plans gained same slice wrote = record {
    done = done;
    stands = wrote.1;
    plans = plans;
    gained = record { kept = same ∙ gained.kept; gained = subst (λ (b : Option (List ℕ)). Appends (taken o) b (written (units_written done))) (sym wrote.0) gained.gained };
  }

  -- or a front of it
  goes_front : (R : Readers) (p : Picture) (before : List Picture) (x : Extracting) (o o' o'' : K) (done : List Plan) → IsTask t x → AreExtracted t.target t.level (map parts_of (at_most t.tid before)) done → Gains (Out o o') (written (units_written done))
      → IsReadAgain R t before (written (units_written done)) → is_kept t.tid (parts_of p) ≡ true → (q : Plan) × IsExtracted x.target x.level (parts_of p) done q × AppendsFront (taken o') (taken o'') (written (units_of q))
      → BreaksOff R t p before (Out o o'')
  goes_front R p before x o o' o'' done task plans gained again kept wrote = record {
    done = done;
    plan = wrote.0;
    others = plans;
    again = again;
    kept = kept;
    extracted = extracted_so t x (parts_of p) done wrote.0 task wrote.1;
    front = wrote.2.front;
    of_picture = wrote.2.of_piece;
    short = wrote.2.short;
    gained = Appends-trans (taken o) (taken o') (taken o'') (written (units_written done)) wrote.2.front gained.gained wrote.2.gained;
  }

pub no_pictures : (ps : List Picture) → length ps ≡ 0 → ps ≡ []
no_pictures [] none = refl
no_pictures (p ∷ ps) none = absurd (omega (arith, none))

-- ---- a source and `out`, from picture to picture

module _ {A K : Type 0} (left : A → Option (List ℕ)) (reads : A → ℕ) (taken : K → Option (List ℕ)) (writes : K → ℕ) (R : Readers) (t : Task) where
  abbrev Source : A → A → Change A
  Source = change left reads

  abbrev Sink : K → K → Change K
  Sink = change taken writes

  -- what was written of pictures that were taken is read again
  again_of : TakenIsReadAgain R t → (source : Change A) (f : Feeding) (ps : List Picture) → HasTaken R source f ps → BreakNoRule t ps → (done : List Plan) → AreExtracted t.target t.level (map parts_of (at_most t.tid ps)) done
      → IsReadAgain R t ps (written (units_written done))
  again_of reads_again source f ps taken =
      subst (λ (l : List Picture). BreakNoRule t l → (done : List Plan) → AreExtracted t.target t.level (map parts_of (at_most t.tid l)) done → IsReadAgain R t l (written (units_written done))) taken.done
      (reads_again taken.given taken.units taken.readings f taken.fed)

  -- none was
  pub HasExtracted-none : TakenIsReadAgain R t → (s : A) (o : K) (f : Feeding) (x : Extracting) → HasTaken R (Source s s) f [] → Stands x [] → HasExtracted R t (Source s s) (Sink o o) f x 0
  HasExtracted-none reads_again s o f x first stands = record {
    ps = [];
    taken = first;
    rules = tt;
    count = refl;
    done = [];
    stands = stands;
    plans = tt;
    gained = Gains-nothing taken writes o o refl;
    again = again_of reads_again (Source s s) f [] first tt [] tt;
  }

  -- nor was there memory to begin
  pub Extracts-unmade : IsReadAgain R t [] [] → (s : A) (o : K) → ExtractsBy R t (Source s s) (Sink o o) (Err NoMemory)
  Extracts-unmade again s o = (
    refl,
    refl,
    ([], Consumes-nil (left s)),
    λ b qs ending told are. ([], (qs, sym (append-nil qs)), tt, ([], ([], tt, refl), Gains-nothing taken writes o o refl, again)),
  )

  module _ (s s' s'' : A) (o o' : K) (f f' : Feeding) (x : Extracting) (n : ℕ) (e : HasExtracted R t (Source s s') (Sink o o') f x n) where
    -- what is written of those that were taken
    gains_so_far : GainsExtraction R t e.ps (Sink o o')
    gains_so_far = (written (units_written e.done), (e.done, e.plans, refl), e.gained, e.again)

    module _ (x' : Extracting) (o'' : K) (task : IsTask t x') (one : HasTakenOne R (Source s s'') f' e.ps) (slice : refusal_of t.target t.tid (parts_of one.picture) ≡ None → is_kept t.tid (parts_of one.picture) ≡ true → HasSlice t.target (parts_of one.picture)) where
      abbrev q : Parts
      q = parts_of one.picture

      -- it is written, or left out
      pub HasExtracted-more : TakenIsReadAgain R t → WritesPicture q e.done x' (taken o') (taken o'') (writes o') (writes o'') (Ok tt) → HasExtracted R t (Source s s'') (Sink o o'') f' x' (n + 1)
      HasExtracted-more reads_again wrote =
          let fine : refusal_of t.target t.tid q ≡ None = sym (refusal_so t x' q task) ∙ wrote.0 in
          let kept = subst (λ (k : ℕ). WritesKept (is_kept k q) q e.done x' (taken o') (taken o'')) task.tid wrote.2 in
          let goes = goes_on taken writes t (is_kept t.tid q) one.picture (at_most t.tid e.ps) x' o o' o'' e.done task e.plans e.gained wrote.1 (slice fine) kept in
          record {
            ps = one.picture ∷ e.ps;
            taken = one.taken;
            rules = (fine, e.rules);
            count = omega (arith, e.count);
            done = goes.done;
            stands = goes.stands;
            plans = goes.plans;
            gained = goes.gained;
            again = again_of reads_again (Source s s'') f' (one.picture ∷ e.ps) one.taken (fine, e.rules) goes.done goes.plans;
          }

      -- it breaks a rule
      pub Extracts-broken : (r : Refusal) → WritesPicture q e.done x' (taken o') (taken o'') (writes o') (writes o'') (Err (errors.Refused r)) → ExtractsBy R t (Source s s'') (Sink o o'') (Err (Refused r (places.Picture n)))
      Extracts-broken r wrote =
          let broken : refusal_of t.target t.tid q ≡ Some r = sym (refusal_so t x' q task) ∙ wrote.0 in
          let gained : Gains (Sink o o'') (written (units_written e.done)) = record { kept = wrote.2 ∙ e.gained.kept; gained = subst (λ (b : Option (List ℕ)). Appends (taken o) b (written (units_written e.done))) (sym wrote.1) e.gained.gained } in (
            one.taken.kept,
            gained.kept,
            (one.taken.given, one.taken.gave),
            λ b qs ending told are.
                let first = taken_first left reads R s s'' f' (one.picture ∷ e.ps) one.taken b qs ending told are in (
                  e.ps,
                  by_picture (record { later = first.0; picture = one.picture; place = first.1; kept = e.rules; broken = broken }) (taken_stops left reads R s s'' f' e.ps one) (ap places.Picture e.count),
                  (written (units_written e.done), (e.done, e.plans, refl), gained, e.again),
                ),
          )

      -- there was no memory for it
      pub Extracts-unheld : WritesPicture q e.done x' (taken o') (taken o'') (writes o') (writes o'') (Err errors.Memory) → ExtractsBy R t (Source s s'') (Sink o o'') (Err NoMemory)
      Extracts-unheld wrote =
          let gained : Gains (Sink o o'') (written (units_written e.done)) = record { kept = wrote.3 ∙ e.gained.kept; gained = subst (λ (b : Option (List ℕ)). Appends (taken o) b (written (units_written e.done))) (sym wrote.2) e.gained.gained } in (
            one.taken.kept,
            gained.kept,
            (one.taken.given, one.taken.gave),
            λ b qs ending told are.
                let first = taken_first left reads R s s'' f' (one.picture ∷ e.ps) one.taken b qs ending told are in (
                  e.ps,
                  (first.0 ++ one.picture ∷ [], first.1 ∙ sym (append_assoc first.0 (one.picture ∷ []) e.ps)),
                  e.rules,
                  (written (units_written e.done), (e.done, e.plans, refl), gained, e.again),
                ),
          )

      -- a write failed
      pub Extracts-cut : WritesPicture q e.done x' (taken o') (taken o'') (writes o') (writes o'') (Err errors.SinkFailed) → ExtractsBy R t (Source s s'') (Sink o o'') (Err WriteFault)
      Extracts-cut wrote =
          let fine : refusal_of t.target t.tid q ≡ None = sym (refusal_so t x' q task) ∙ wrote.0 in
          let kept : is_kept t.tid q ≡ true = subst (λ (k : ℕ). is_kept k q ≡ true) task.tid wrote.1 in
          let plan = wrote.3 (subst (λ (k : ℕ). HasSlice k q) (sym task.target) (slice fine kept)) in (
            one.taken.kept,
            subst (λ (n : ℕ). Rose n (writes o'')) e.gained.kept wrote.2,
            record {
              picture = one.picture;
              before = e.ps;
              stops = taken_stops left reads R s s'' f' e.ps one;
              rules = (fine, e.rules);
              first = taken_first left reads R s s'' f' (one.picture ∷ e.ps) one.taken;
              breaks = goes_front taken writes t R one.picture e.ps x' o o' o'' e.done task e.plans e.gained e.again kept plan;
            },
          )

    -- ---- what ends it

    -- all pictures were taken, and there is one
    pub Extracts-done : 0 < n → HasNoFault (Source s s'') × GivesFront (Source s s'') × IsAtEnd (left s'') × WhereTold R (Source s s'') (λ qs ending. (qs ≡ e.ps) × (ending ≡ None)) → ExtractsBy R t (Source s s'') (Sink o o') (Ok tt)
    Extracts-done some end = (
      end.0,
      e.gained.kept,
      end.1,
      end.2,
      λ b qs ending told are.
          let is = end.3 b qs ending told are in (
            record { whole = is.1; some = subst (λ (l : List Picture). 0 < length l) (sym is.0) (omega (arith, some, e.count)); rules = subst (λ (l : List Picture). BreakNoRule t l) (sym is.0) e.rules },
            subst (λ (l : List Picture). GainsExtraction R t l (Sink o o')) (sym is.0) gains_so_far,
          ),
    )

    -- or none
    pub Extracts-none : n ≡ 0 → HasNoFault (Source s s'') × GivesFront (Source s s'') × IsAtEnd (left s'') × WhereTold R (Source s s'') (λ qs ending. (qs ≡ e.ps) × (ending ≡ None))
        → ExtractsBy R t (Source s s'') (Sink o o') (Err (Refused (Extract NO_PICTURE) (places.Picture 0)))
    Extracts-none none end = (
      end.0,
      e.gained.kept,
      end.1,
      λ b qs ending told are.
          let is = end.3 b qs ending told are in
          let empty : e.ps ≡ [] = no_pictures e.ps (omega (arith, none, e.count)) in
          (e.ps, without (sym is.0) (is.0 ∙ empty) is.1 end.2 refl refl, gains_so_far),
    )

    -- what follows is refused
    pub Extracts-refused : (r : Refusal) → HasNoFault (Source s s'') × GivesFront (Source s s'') × WhereTold R (Source s s'') (λ qs ending. (qs ≡ e.ps) × (ending ≡ refused_at f'.units r))
        → ExtractsBy R t (Source s s'') (Sink o o') (Err (Refused r (places.Unit 0 f'.units)))
    Extracts-refused r end = (
      end.0,
      e.gained.kept,
      end.1,
      λ b qs ending told are.
          let is = end.2 b qs ending told are in
          (e.ps, by_ending (sym is.0) (subst (λ (l : List Picture). BreakNoRule t l) (sym is.0) e.rules) (told_at ending f'.units r is.1), gains_so_far),
    )

    -- a read failed
    pub Extracts-unread : HasFault (Source s s'') × ((given : List ℕ) × Consumes (left s) (left s'') given × AreSeenPictures R (seen_of given) e.ps) → ExtractsBy R t (Source s s'') (Sink o o') (Err (ReadFault 0))
    Extracts-unread end = (
      end.0,
      refl,
      (e.ps, record { given = end.1.0; gave = end.1.1; seen = end.1.2; rules = e.rules }, gains_so_far),
    )

    -- there was no memory to go on
    pub Extracts-no_room : HasNoFault (Source s s'') × GivesFront (Source s s'') × WhereTold R (Source s s'') (λ qs ending. BeginsWithPictures qs e.ps) → ExtractsBy R t (Source s s'') (Sink o o') (Err NoMemory)
    Extracts-no_room end = (end.0, e.gained.kept, end.1, λ b qs ending told are. (e.ps, end.2 b qs ending told are, e.rules, gains_so_far))

-- ---- what an answer comes to

pub shown_is : (q : Parts) (l : List Picture) (p : Picture) (ps : List Picture) → ShowsLatest q l → l ≡ p ∷ ps → q ≡ parts_of p
shown_is q l p ps shows is = subst (λ (x : List Picture). ShowsLatest q x) is shows

pub checked_by : (q : Parts) (x : Extracting) (n : ℕ) (error : WriteError) → ChecksPicture q x (Err error) → ChecksOne q x n (Err (stop_of_write error n))
checked_by q x n (errors.Refused r) by = (by, refl)
checked_by q x n errors.SinkFailed by = absurd by
checked_by q x n errors.Memory by = absurd by
checked_by q x n (errors.Stopped f) by = absurd by

-- ---- a turn of the loop

module _ {A K : Type 0} (left : A → Option (List ℕ)) (reads : A → ℕ) (taken : K → Option (List ℕ)) (writes : K → ℕ) (R : Readers) (have : HaveSlices R) (t : Task) (s s' s'' : A) (o o' : K) (f f' : Feeding) (x : Extracting) (n : ℕ)
    (e : HasExtracted R t (change left reads s s') (change taken writes o o') f x n) where
  abbrev Advanced : Result Bool Stop → Type 0
  Advanced result = (g : List ℕ) (units : List UnitPlace) (readings : List Reading) → HasFed R f g units readings → LastWasNeeded g units → AdvancesOf 0 R g units readings f' (left s') (left s'') (reads s') (reads s'') result

  came : (result : Result Bool Stop) → Advanced result → AdvancesOf 0 R e.taken.given e.taken.units e.taken.readings f' (left s') (left s'') (reads s') (reads s'') result
  came result advanced = advanced e.taken.given e.taken.units e.taken.readings e.taken.fed e.taken.needed

  -- the feed stopped
  pub extract_stopped : EndsAtEnd f' (left s'') → (stop : Stop) → Advanced (Err stop) → ExtractsBy R t (change left reads s s'') (change taken writes o o') (Err stop)
  extract_stopped ended NotUnderstood advanced = absurd (came (Err NotUnderstood) advanced)
  extract_stopped ended (Mismatched x y) advanced = absurd (came (Err (Mismatched x y)) advanced)
  extract_stopped ended (Refused r place) advanced =
      let at = came (Err (Refused r place)) advanced in
      rw at.1 (Extracts-refused left reads taken writes R t s s' s'' o o' f f' x n e r (takes_refused left reads R s s' s'' f f' e.ps e.taken ended r at.0))
  extract_stopped ended (ReadFault k) advanced =
      let at = came (Err (ReadFault k)) advanced in
      rw at.1 (Extracts-unread left reads taken writes R t s s' s'' o o' f f' x n e (takes_unread left reads R s s' s'' f f' e.ps e.taken at.0))
  extract_stopped ended WriteFault advanced = absurd (came (Err WriteFault) advanced)
  extract_stopped ended NoMemory advanced = Extracts-no_room left reads taken writes R t s s' s'' o o' f f' x n e (takes_none left reads R s s' s'' f f' e.ps e.taken (came (Err NoMemory) advanced))

  -- it came to the end
  pub extract_done : EndsAtEnd f' (left s'') → Advanced (Ok false) → 0 < n → ExtractsBy R t (change left reads s s'') (change taken writes o o') (Ok tt)
  extract_done ended advanced some = Extracts-done left reads taken writes R t s s' s'' o o' f f' x n e some (takes_end left reads R s s' s'' f f' e.ps e.taken ended (came (Ok false) advanced))

  pub extract_none : EndsAtEnd f' (left s'') → Advanced (Ok false) → n ≡ 0 → ExtractsBy R t (change left reads s s'') (change taken writes o o') (Err (Refused (Extract NO_PICTURE) (places.Picture 0)))
  extract_none ended advanced none = Extracts-none left reads taken writes R t s s' s'' o o' f f' x n e none (takes_end left reads R s s' s'' f f' e.ps e.taken ended (came (Ok false) advanced))

  pub extract_end : EndsAtEnd f' (left s'') → Advanced (Ok false) → (result : Outcome) → OnOk result (0 < n) → IfErr result (λ stop. (n ≡ 0) × (stop ≡ Refused (Extract NO_PICTURE) (places.Picture 0)))
      → ExtractsBy R t (change left reads s s'') (change taken writes o o') result
  extract_end ended advanced (Ok _) some none = extract_done ended advanced some
  extract_end ended advanced (Err stop) some none = rw none.1 (extract_none ended advanced none.0)

  -- or to a picture
  pub more_units : Advanced (Ok true) → f.units < f'.units
  more_units advanced = takes_units left reads R s s' s'' f f' e.ps e.taken (came (Ok true) advanced)

  module _ (ended : EndsAtEnd f' (left s'')) (has : HasPicture f'.assembler) (advanced : Advanced (Ok true)) where
    one : HasTakenOne R (change left reads s s'') f' e.ps
    one = takes_one left reads R s s' s'' f f' e.ps e.taken ended has (came (Ok true) advanced)

    pub pictures_below : n < f'.units
    pictures_below = omega (arith, e.count, taken_below left reads R s s'' f' e.ps one)

    slice : refusal_of t.target t.tid (parts_of one.picture) ≡ None → is_kept t.tid (parts_of one.picture) ≡ true → HasSlice t.target (parts_of one.picture)
    slice fine kept = taken_slice left reads R s s'' f' e.ps one have t.target (has_subpicture t.target t.tid (parts_of one.picture) fine kept)

    module _ (x' : Extracting) (o'' : K) (task : IsTask t x') where
      abbrev Wrote : Outcome → Type 0
      Wrote outcome = (g : List ℕ) (units : List UnitPlace) (readings : List Reading) (p : Picture) (ps : List Picture) (done : List Plan) → HasFed R f' g units readings → pictures readings ≡ p ∷ ps → Stands x done
          → ExtractsOne p done x' (taken o') (taken o'') (writes o') (writes o'') n outcome

      did : (outcome : Outcome) → Wrote outcome → ExtractsOne one.picture e.done x' (taken o') (taken o'') (writes o') (writes o'') n outcome
      did outcome wrote = wrote one.taken.given one.taken.units one.taken.readings one.picture e.ps e.done one.taken.fed one.taken.done e.stands

      -- which was written, or left out
      pub extract_more : TakenIsReadAgain R t → Wrote (Ok tt) → HasExtracted R t (change left reads s s'') (change taken writes o o'') f' x' (n + 1)
      extract_more reads_again wrote = HasExtracted-more left reads taken writes R t s s' s'' o o' f f' x n e x' o'' task one slice reads_again (did (Ok tt) wrote)

      -- or wasn't
      pub extract_cut : (stop : Stop) → Wrote (Err stop) → ExtractsBy R t (change left reads s s'') (change taken writes o o'') (Err stop)
      extract_cut NotUnderstood wrote = absurd (did (Err NotUnderstood) wrote)
      extract_cut (Mismatched x y) wrote = absurd (did (Err (Mismatched x y)) wrote)
      extract_cut (Refused r place) wrote =
          let at = did (Err (Refused r place)) wrote in
          rw at.1 (Extracts-broken left reads taken writes R t s s' s'' o o' f f' x n e x' o'' task one slice r at.0)
      extract_cut (ReadFault k) wrote = absurd (did (Err (ReadFault k)) wrote)
      extract_cut WriteFault wrote = Extracts-cut left reads taken writes R t s s' s'' o o' f f' x n e x' o'' task one slice (did (Err WriteFault) wrote)
      extract_cut NoMemory wrote = Extracts-unheld left reads taken writes R t s s' s'' o o' f f' x n e x' o'' task one slice (did (Err NoMemory) wrote)
