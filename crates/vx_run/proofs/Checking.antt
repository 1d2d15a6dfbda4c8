-- Which pictures were found to keep the rules, and what that comes to when `check extract` ends.
use Rattle.std.proofs.Common.{◌≡◌, ℕ, ◌+◌, ◌<◌, ◌≤◌, List, [], ◌∷◌, ◌∙◌, nat_le, Option, Some, None, Result, Ok, Err, Bool, true, false, cond, length, sym, ap, refl, subst, arith}
use Rattle.std.specs.Io.KnownBytes.{Consumes, IsAtEnd}
use Rattle.vx_bits.specs.declared.refusal.Refusal.{Refusal}
use Rattle.vx_bits.specs.declared.refusal.Refusal.TheVariants.{Extract}
use Rattle.vx_bits.specs.declared.rules.TheConstants.{NO_PICTURE}
use Rattle.vx_annexb.specs.ByteStream.{UnitPlace}
use Rattle.vx_annexb.specs.Reading.{LastWasNeeded}
use Rattle.vx_pic.specs.Readings.{Reading, Picture, pictures}
use Rattle.vx_pic.specs.Rules.{Readers}
use Rattle.vx_pic.specs.Bytes.{AreSeenPictures}
use Rattle.vx_pic.specs.Parts.{Parts, parts_of}
use Rattle.vx_assemble.specs.Held.{HasPicture, ShowsLatest}
use Rattle.vx_assemble.specs.Feed.{Feeding, EndsAtEnd, HasFed}
use Rattle.vx_extract.specs.Extracting.{Extracting}
use Rattle.vx_extract.specs.Rules.{refusal_of}
use Rattle.vx_run.specs.declared.stop.Place.TheVariants as places
use Rattle.vx_run.specs.declared.extract.Task.{Task}
use Rattle.vx_run.specs.declared.stop.Stop.{Stop}
use Rattle.vx_run.specs.declared.stop.Stop.TheVariants.{NotUnderstood, Mismatched, Refused, ReadFault, WriteFault, NoMemory}
use Rattle.vx_run.specs.Change.{Change, change, HasNoFault, HasFault, GivesFront, Gains, GainsFront}
use Rattle.vx_assemble.specs.Feed.{seen_of}
use Rattle.vx_pic.specs.Sublayers.{at_most}
use Rattle.vx_run.specs.Extract.{BreakNoRule, by_ending, by_picture, without, WhereTold, BeginsWithPictures, ok_text, ChecksBy}
use Rattle.vx_run.specs.inner.Advancing.{AdvancesOf}
use Rattle.vx_run.specs.inner.Extracting.{HasTaken, HasTakenOne, IsTask, HasChecked, ChecksOne, CountsBy}
use Rattle.vx_run.proofs.Extracting.{no_pictures, refusal_so}
use Rattle.vx_run.proofs.Showing.{told_at}
use Rattle.vx_run.proofs.Taking.{taken_first, taken_stops, taken_below, takes_one, takes_end, takes_refused, takes_unread, takes_none, takes_units}
use Rattle.vx_run.proofs.Told.{refused_at}

-- one more is kept, or left out
kept_more : (k : Bool) (p : Picture) (kept : List Picture) → cond k (length kept + 1) (length kept) ≡ length (cond k (p ∷ kept) kept)
kept_more true p kept = omega arith
kept_more false p kept = refl

-- no more are kept than were taken
kept_few : (k : Bool) (p : Picture) (kept : List Picture) (n : ℕ) → length kept ≤ n → length (cond k (p ∷ kept) kept) ≤ n + 1
kept_few true p kept n few = omega arith
kept_few false p kept n few = omega arith

pub at_most_few : (tid : ℕ) (ps : List Picture) → length (at_most tid ps) ≤ length ps
at_most_few tid [] = omega arith
at_most_few tid (p ∷ ps) = omega (arith, kept_few (nat_le p.kind.temporal_id tid) p (at_most tid ps) (length ps) (at_most_few tid ps))

module _ {A : Type 0} (left : A → Option (List ℕ)) (reads : A → ℕ) (R : Readers) (t : Task) where
  abbrev Source : A → A → Change A
  Source = change left reads

  -- none was
  pub HasChecked-none : (s : A) (f : Feeding) → HasTaken R (Source s s) f [] → HasChecked R t (Source s s) f 0 0
  HasChecked-none s f first = record { ps = []; taken = first; rules = tt; count = refl; kept = refl }

  module _ (s s' s'' : A) (f f' : Feeding) (n k : ℕ) (e : HasChecked R t (Source s s') f n k) where
    module _ (one : HasTakenOne R (Source s s'') f' e.ps) where
      -- the next one keeps them
      pub HasChecked-more : refusal_of t.target t.tid (parts_of one.picture) ≡ None
          → HasChecked R t (Source s s'') f' (n + 1) (cond (nat_le one.picture.kind.temporal_id t.tid) (k + 1) k)
      HasChecked-more fine = record {
        ps = one.picture ∷ e.ps;
        taken = one.taken;
        rules = (fine, e.rules);
        count = omega (arith, e.count);
        kept = ap (λ (m : ℕ). cond (nat_le one.picture.kind.temporal_id t.tid) (m + 1) m) e.kept ∙ kept_more (nat_le one.picture.kind.temporal_id t.tid) one.picture (at_most t.tid e.ps);
      }

      -- or breaks one
      pub Counts-broken : (r : Refusal) → refusal_of t.target t.tid (parts_of one.picture) ≡ Some r → CountsBy R t (Source s s'') (Err (Refused r (places.Picture n)))
      Counts-broken r broken = (
        one.taken.kept,
        (one.taken.given, one.taken.gave),
        λ b qs ending told are.
            let first = taken_first left reads R s s'' f' (one.picture ∷ e.ps) one.taken b qs ending told are in
            (e.ps, by_picture (record { later = first.0; picture = one.picture; place = first.1; kept = e.rules; broken = broken }) (taken_stops left reads R s s'' f' e.ps one) (ap places.Picture e.count)),
      )

    -- ---- what ends it

    -- all pictures were taken, and there is one
    pub Counts-done : 0 < n → HasNoFault (Source s s'') × GivesFront (Source s s'') × IsAtEnd (left s'') × WhereTold R (Source s s'') (λ qs ending. (qs ≡ e.ps) × (ending ≡ None)) → CountsBy R t (Source s s'') (Ok k)
    Counts-done some end = (
      end.0,
      end.1,
      end.2,
      λ b qs ending told are.
          let is = end.3 b qs ending told are in (
            record { whole = is.1; some = subst (λ (l : List Picture). 0 < length l) (sym is.0) (omega (arith, some, e.count)); rules = subst (λ (l : List Picture). BreakNoRule t l) (sym is.0) e.rules },
            e.kept ∙ ap (λ (l : List Picture). length (at_most t.tid l)) (sym is.0),
          ),
    )

    -- or none
    pub Counts-none : n ≡ 0 → HasNoFault (Source s s'') × GivesFront (Source s s'') × IsAtEnd (left s'') × WhereTold R (Source s s'') (λ qs ending. (qs ≡ e.ps) × (ending ≡ None))
        → CountsBy R t (Source s s'') (Err (Refused (Extract NO_PICTURE) (places.Picture 0)))
    Counts-none none end = (
      end.0,
      end.1,
      λ b qs ending told are.
          let is = end.3 b qs ending told are in
          let empty : e.ps ≡ [] = no_pictures e.ps (omega (arith, none, e.count)) in
          (e.ps, without (sym is.0) (is.0 ∙ empty) is.1 end.2 refl refl),
    )

    -- what follows is refused
    pub Counts-refused : (r : Refusal) → HasNoFault (Source s s'') × GivesFront (Source s s'') × WhereTold R (Source s s'') (λ qs ending. (qs ≡ e.ps) × (ending ≡ refused_at f'.units r))
        → CountsBy R t (Source s s'') (Err (Refused r (places.Unit 0 f'.units)))
    Counts-refused r end = (
      end.0,
      end.1,
      λ b qs ending told are.
          let is = end.2 b qs ending told are in
          (e.ps, by_ending (sym is.0) (subst (λ (l : List Picture). BreakNoRule t l) (sym is.0) e.rules) (told_at ending f'.units r is.1)),
    )

    -- a read failed
    pub Counts-unread : HasFault (Source s s'') × ((given : List ℕ) × Consumes (left s) (left s'') given × AreSeenPictures R (seen_of given) e.ps) → CountsBy R t (Source s s'') (Err (ReadFault 0))
    Counts-unread end = (end.0, refl, (e.ps, record { given = end.1.0; gave = end.1.1; seen = end.1.2; rules = e.rules }))

    -- there was no memory to go on
    pub Counts-no_room : HasNoFault (Source s s'') × GivesFront (Source s s'') × WhereTold R (Source s s'') (λ qs ending. BeginsWithPictures qs e.ps) → CountsBy R t (Source s s'') (Err NoMemory)
    Counts-no_room end = (end.0, end.1)

-- ---- a turn of the loop

module _ {A : Type 0} (left : A → Option (List ℕ)) (reads : A → ℕ) (R : Readers) (t : Task) (s s' s'' : A) (f f' : Feeding) (n k : ℕ) (e : HasChecked R t (change left reads s s') f n k) where
  abbrev Advanced : Result Bool Stop → Type 0
  Advanced result = (g : List ℕ) (units : List UnitPlace) (readings : List Reading) → HasFed R f g units readings → LastWasNeeded g units → AdvancesOf 0 R g units readings f' (left s') (left s'') (reads s') (reads s'') result

  came : (result : Result Bool Stop) → Advanced result → AdvancesOf 0 R e.taken.given e.taken.units e.taken.readings f' (left s') (left s'') (reads s') (reads s'') result
  came result advanced = advanced e.taken.given e.taken.units e.taken.readings e.taken.fed e.taken.needed

  -- the feed stopped
  pub count_stopped : EndsAtEnd f' (left s'') → (stop : Stop) → Advanced (Err stop) → CountsBy R t (change left reads s s'') (Err stop)
  count_stopped ended NotUnderstood advanced = came (Err NotUnderstood) advanced
  count_stopped ended (Mismatched x y) advanced = came (Err (Mismatched x y)) advanced
  count_stopped ended (Refused r place) advanced =
      let at = came (Err (Refused r place)) advanced in
      rw at.1 (Counts-refused left reads R t s s' s'' f f' n k e r (takes_refused left reads R s s' s'' f f' e.ps e.taken ended r at.0))
  count_stopped ended (ReadFault j) advanced =
      let at = came (Err (ReadFault j)) advanced in
      rw at.1 (Counts-unread left reads R t s s' s'' f f' n k e (takes_unread left reads R s s' s'' f f' e.ps e.taken at.0))
  count_stopped ended WriteFault advanced = came (Err WriteFault) advanced
  count_stopped ended NoMemory advanced = Counts-no_room left reads R t s s' s'' f f' n k e (takes_none left reads R s s' s'' f f' e.ps e.taken (came (Err NoMemory) advanced))

  -- it came to the end
  pub count_done : EndsAtEnd f' (left s'') → Advanced (Ok false) → 0 < n → CountsBy R t (change left reads s s'') (Ok k)
  count_done ended advanced some = Counts-done left reads R t s s' s'' f f' n k e some (takes_end left reads R s s' s'' f f' e.ps e.taken ended (came (Ok false) advanced))

  pub count_none : EndsAtEnd f' (left s'') → Advanced (Ok false) → n ≡ 0 → CountsBy R t (change left reads s s'') (Err (Refused (Extract NO_PICTURE) (places.Picture 0)))
  count_none ended advanced none = Counts-none left reads R t s s' s'' f f' n k e none (takes_end left reads R s s' s'' f f' e.ps e.taken ended (came (Ok false) advanced))

  -- or to a picture
  pub count_units : Advanced (Ok true) → f.units < f'.units
  count_units advanced = takes_units left reads R s s' s'' f f' e.ps e.taken (came (Ok true) advanced)

  module _ (ended : EndsAtEnd f' (left s'')) (has : HasPicture f'.assembler) (advanced : Advanced (Ok true)) where
    one : HasTakenOne R (change left reads s s'') f' e.ps
    one = takes_one left reads R s s' s'' f f' e.ps e.taken ended has (came (Ok true) advanced)

    pub count_below : n < f'.units
    count_below = omega (arith, e.count, taken_below left reads R s s'' f' e.ps one)

    pub kept_below : k ≤ n
    kept_below = omega (arith, e.kept, e.count, at_most_few t.tid e.ps)

    module _ (x : Extracting) (q : Parts) (task : IsTask t x) (shows : (g : List ℕ) (units : List UnitPlace) (readings : List Reading) → HasFed R f' g units readings → ShowsLatest q (pictures readings)) where
      is_it : q ≡ parts_of one.picture
      is_it = subst (λ (l : List Picture). ShowsLatest q l) one.taken.done (shows one.taken.given one.taken.units one.taken.readings one.taken.fed)

      so : refusal_of x.target x.tid q ≡ refusal_of t.target t.tid (parts_of one.picture)
      so = refusal_so t x q task ∙ ap (refusal_of t.target t.tid) is_it

      -- which keeps the rules
      pub count_more : ChecksOne q x n (Ok tt) → HasChecked R t (change left reads s s'') f' (n + 1) (cond (nat_le q.kind.temporal_id t.tid) (k + 1) k)
      count_more fine =
          subst (λ (p : Parts). HasChecked R t (change left reads s s'') f' (n + 1) (cond (nat_le p.kind.temporal_id t.tid) (k + 1) k)) (sym is_it)
          (HasChecked-more left reads R t s s' s'' f f' n k e one (sym so ∙ fine))

      -- or breaks one
      pub count_cut : (stop : Stop) → ChecksOne q x n (Err stop) → CountsBy R t (change left reads s s'') (Err stop)
      count_cut NotUnderstood broken = broken
      count_cut (Mismatched x y) broken = broken
      count_cut (Refused r place) broken = rw broken.1 (Counts-broken left reads R t s s' s'' f f' n k e one r (sym so ∙ broken.0))
      count_cut (ReadFault j) broken = absurd broken
      count_cut WriteFault broken = broken
      count_cut NoMemory broken = absurd broken

-- ---- the line of the count

module _ {A K : Type 0} (R : Readers) (t : Task) (source : Change A) (out : Change K) where
  -- nothing was written where there is none
  pub Checks-stopped : (stop : Stop) → out.new ≡ out.old → CountsBy R t source (Err stop) → ChecksBy R t source out (Err stop)
  Checks-stopped NotUnderstood same counts = counts
  Checks-stopped (Mismatched x y) same counts = counts
  Checks-stopped (Refused r place) same counts = (counts.0, same, counts.1, counts.2)
  Checks-stopped (ReadFault j) same counts = (counts.0, counts.1, same, counts.2)
  Checks-stopped WriteFault same counts = absurd counts
  Checks-stopped NoMemory same counts = (counts.0, same, counts.1)

  module _ (k : ℕ) (counts : CountsBy R t source (Ok k)) where
    -- no memory for it
    pub Checks-unmade : out.new ≡ out.old → ChecksBy R t source out (Err NoMemory)
    Checks-unmade same = (counts.0, same, counts.1)

    -- it was written
    pub Checks-done : Gains out (ok_text k) → ChecksBy R t source out (Ok tt)
    Checks-done gained = (
      counts.0,
      gained.kept,
      counts.1,
      counts.2,
      λ b ps ending told are. let is = counts.3 b ps ending told are in (is.0, subst (λ (m : ℕ). Gains out (ok_text m)) is.1 gained),
    )

    -- or a front of it
    pub Checks-cut : GainsFront out (ok_text k) → ChecksBy R t source out (Err WriteFault)
    Checks-cut front = (
      counts.0,
      front.failed,
      counts.1,
      counts.2,
      λ b ps ending told are. let is = counts.3 b ps ending told are in (is.0, subst (λ (m : ℕ). GainsFront out (ok_text m)) is.1 front),
    )
