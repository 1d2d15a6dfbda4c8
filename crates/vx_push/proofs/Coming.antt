-- An intake: what it came to, by what its feed came to in the bytes that it was given.
use Rattle.std.proofs.Common.{◌≡◌, ℕ, ◌<◌, ◌≤◌, List, [], ◌∷◌, ◌++◌, ◌∙◌, Option, Some, None, Bool, true, false, take, drop, inl, inr, ◌⊎◌, refl, ap, sym, subst, arith, append_assoc, append-nil, ⊎_elim}
use Rattle.std.proofs.Math.Seq.{take_all}
use Rattle.std.proofs.lemmas.List.{take-append-drop}
use Rattle.vx_annexb.specs.ByteStream.{source_limit, UnitPlace}
use Rattle.vx_annexb.specs.Held.{is_all}
use Rattle.vx_annexb.specs.Reading.{HasRead}
use Rattle.vx_annexb.specs.declared.unit_reader.Closed.{Closed}
use Rattle.vx_annexb.specs.declared.unit_reader.Closed.TheVariants as closed
use Rattle.vx_bits.specs.declared.refusal.Refusal.{Refusal}
use Rattle.vx_pic.specs.Readings.{Picture}
use Rattle.vx_pic.specs.Rules.{Readers}
use Rattle.vx_pic.specs.Streams.{read_on}
use Rattle.vx_pic.specs.Bytes.{Ending, ending_by, ArePictures, AreSeenPictures}
use Rattle.vx_assemble.specs.Feed.{Feeding, HasFed, seen_of}
use Rattle.vx_run.specs.Extract.{BeginsWithPictures}
use Rattle.vx_run.proofs.Told.{IsGiven, refused_at}
use Rattle.vx_run.proofs.Taking.{begins_with, all_of_given, refused_behind, follows_front}
use Rattle.vx_run.proofs.Showing.{is_end, has_ended, is_long}
use Rattle.vx_push.specs.Handed.{Handed, nothing, with_more, with_end, zeros, IsOpenedBy, OfEachStream}
use Rattle.vx_push.specs.Comes.{HasCome, ComesNext}
use Rattle.vx_push.specs.declared.intake.State.{State}
use Rattle.vx_push.specs.declared.intake.State.TheVariants as states
use Rattle.vx_push.specs.inner.Comes.{intaking, zeros_if, Owes, HasTaken, IsGoing, IsReady, IsLeftAs, IsStopped, SeeksTo, StepsBehind}

-- ---- what is owed

-- of a feed that was given the end, nothing
none_owed : (c : Option Closed) (flushed ended : Bool) (owed : List ℕ) → c ≡ Some closed.End → Owes c flushed ended owed → (owed ≡ []) × (ended ≡ true)
none_owed None flushed ended owed end owes = absurd (cc)
none_owed (Some closed.End) flushed ended owed end owes = owes
none_owed (Some closed.TooLong) flushed ended owed end owes = absurd (cc)
none_owed (Some closed.Failed) flushed ended owed end owes = absurd (cc)

-- while it may read on, zeros
zeros_owed : (c : Option Closed) (flushed ended : Bool) (owed : List ℕ) → c ≡ None → Owes c flushed ended owed → owed ≡ zeros_if flushed
zeros_owed None flushed ended owed going owes = owes
zeros_owed (Some closed.End) flushed ended owed going owes = absurd (cc)
zeros_owed (Some closed.TooLong) flushed ended owed going owes = absurd (cc)
zeros_owed (Some closed.Failed) flushed ended owed going owes = absurd (cc)

-- where none are, nothing is as long as it was not given the end
owes_none : (c : Option Closed) (ended : Bool) (owed : List ℕ) → (c ≡ Some closed.End → ⊥) → (c ≡ None → owed ≡ []) → Owes c false ended owed
owes_none None ended owed unended none = none refl
owes_none (Some closed.End) ended owed unended none = absurd (unended refl)
owes_none (Some closed.TooLong) ended owed unended none = tt
owes_none (Some closed.Failed) ended owed unended none = tt

-- more zeros
owes_zeros : (c : Option Closed) (owed : List ℕ) → Owes c false false owed → Owes c true false (owed ++ zeros)
owes_zeros None owed owes = rw owes refl
owes_zeros (Some closed.End) owed owes = absurd (let e = owes.1 in cc)
owes_zeros (Some closed.TooLong) owed owes = tt
owes_zeros (Some closed.Failed) owed owes = tt

-- the end
owes_end : (c : Option Closed) (flushed ended : Bool) (owed : List ℕ) → Owes c flushed ended owed → Owes c flushed true owed
owes_end None flushed ended owed owes = owes
owes_end (Some closed.End) flushed ended owed owes = (owes.0, refl)
owes_end (Some closed.TooLong) flushed ended owed owes = tt
owes_end (Some closed.Failed) flushed ended owed owes = tt

-- zeros, or the end, were handed in behind
pub with_the_zeros : (R : Readers) (f : Feeding) (s s' : State) (h : Handed) (ps : List Picture) → IsGoing R (intaking f s false false) h ps → IsGoing R (intaking f s' true false) (with_more h zeros) ps
with_the_zeros R f s s' h ps g = record {
  given = g.given;
  owed = g.owed ++ zeros;
  taken = g.taken;
  bytes = ap (λ l. l ++ zeros) g.bytes ∙ append_assoc g.given g.owed zeros;
  owes = owes_zeros f.reader.closed g.owed g.owes;
  all = g.all;
}

pub with_the_end : (R : Readers) (f : Feeding) (s s' : State) (flushed ended : Bool) (h : Handed) (ps : List Picture) → IsGoing R (intaking f s flushed ended) h ps → IsGoing R (intaking f s' flushed true) (with_end h) ps
with_the_end R f s s' flushed ended h ps g = record {
  given = g.given;
  owed = g.owed;
  taken = g.taken;
  bytes = g.bytes;
  owes = owes_end f.reader.closed flushed ended g.owed g.owes;
  all = refl;
}

-- ---- the streams that begin so

module _ (R : Readers) (h : Handed) (f : Feeding) (g owed : List ℕ) (flushed ended : Bool) (bytes : h.bytes ≡ g ++ owed) (owes : Owes f.reader.closed flushed ended owed) (all : h.all ≡ ended) where
  -- its feed was given the front of each
  is_given : (b : List ℕ) → IsOpenedBy h b → (us : List UnitPlace) → HasRead f.reader g us → IsGiven b g (is_all f.reader.splitter)
  is_given b o us read = record {
    rest = owed ++ o.rest;
    front = o.front ∙ ap (λ l. l ++ o.rest) bytes ∙ append_assoc g owed o.rest;
    whole = λ whole.
        let at = is_end f.reader.closed f.reader read.closes whole in
        let none = none_owed f.reader.closed flushed ended owed at.0 owes in
        let same : owed ++ o.rest ≡ o.rest = ap (λ l. l ++ o.rest) none.0 in
        (same ∙ o.whole (all ∙ none.1), subst (λ n. n ≤ source_limit) (sym read.taken) at.1);
  }

  -- and its pictures are the first ones,
  pub begins : (ps : List Picture) → HasTaken R f g ps → OfEachStream R h (λ qs ending. BeginsWithPictures qs ps)
  begins ps t b qs ending o are =
      subst (λ (l : List Picture). BeginsWithPictures qs l) t.done (begins_with R b g t.places t.before qs ending are (is_all f.reader.splitter) (is_given b o t.places t.fed.read) t.fed.read.stands.given t.fed.readings)

  -- or all, where it ends,
  ends : (ps : List Picture) (us : List UnitPlace) → HasRead f.reader g us → f.reader.closed ≡ Some closed.End → ArePictures R (seen_of g) true ps None
      → OfEachStream R h (λ qs ending. (qs ≡ ps) × (ending ≡ None))
  ends ps us read end there b qs ending o are =
      let given = subst (λ (w : Bool). IsGiven b g w) (has_ended f.reader g us read end) (is_given b o us read) in
      all_of_given R b g us [] qs ending are ps None given there

  -- or is refused
  refused : (ps : List Picture) (r : Refusal) (n : ℕ) → IsStopped R f g ps r n → OfEachStream R h (λ qs ending. (qs ≡ ps) × (ending ≡ Some (record { units = n; refusal = r })))
  refused ps r n s b qs ending o are =
      let us = s.places ++ s.more in
      let one = refused_behind R b g s.places s.before qs ending are f.reader r (is_all f.reader.splitter) refl
      (has_ended f.reader g us s.read) (is_long f.reader g us s.read) (is_given b o us s.read)
      (follows_front (seen_of g) (is_all f.reader.splitter) 0 s.places s.more s.read.stands.given) s.were s.refused in
      (one.0 ∙ s.done, one.1 ∙ ap (λ k. refused_at k r) (sym s.count))

  -- it goes on
  abbrev pub goes : (s : State) (ps : List Picture) → HasTaken R f g ps → IsGoing R (intaking f s flushed ended) h ps
  goes s ps t = record { given = g; owed = owed; taken = t; bytes = bytes; owes = owes; all = all }

  -- what it came to behind pictures that are the first ones
  pub steps : (ps : List Picture) (s : State) → OfEachStream R h (λ qs ending. BeginsWithPictures qs ps) → SeeksTo R g ps f s → StepsBehind R (intaking f s flushed ended) h ps s
  steps ps states.Waits first to = (goes states.Waits ps to.0, to.1)
  steps ps states.Picture first to = (to.0, goes states.Picture (to.0 ∷ ps) to.1, to.2)
  steps ps states.Ended first to = (ends ps to.0.places to.0.fed.read to.2 to.1, all ∙ (none_owed f.reader.closed flushed ended owed to.2 owes).1)
  steps ps (states.Refused r n) first to = refused ps r n to
  steps ps states.NoMemory first to = first

-- those of one that goes on
pub first_of_going : (R : Readers) (f : Feeding) (s : State) (flushed ended : Bool) (h : Handed) (ps : List Picture) → IsGoing R (intaking f s flushed ended) h ps → OfEachStream R h (λ qs ending. BeginsWithPictures qs ps)
first_of_going R f s flushed ended h ps g = begins R h f g.given g.owed flushed ended g.bytes g.owes g.all ps g.taken

-- what holds of the streams that begin so holds of those that begin with more
pub of_later : (R : Readers) (h : Handed) (piece : List ℕ) (P : List Picture → Option Ending → Type 0) → h.all ≡ false → OfEachStream R h P → OfEachStream R (with_more h piece) P
of_later R h piece P more each b qs ending o are = each b qs ending (record { rest = piece ++ o.rest; front = o.front ∙ append_assoc h.bytes piece o.rest; whole = λ all. absurd (cc) }) are

-- ---- one that goes on

-- by what is seen in what its feed was given
pub steps_on : (R : Readers) (f f1 : Feeding) (s0 s : State) (flushed ended : Bool) (h : Handed) (ps : List Picture) (g : IsGoing R (intaking f s0 flushed ended) h ps) → f1.reader.closed ≡ f.reader.closed
    → SeeksTo R g.given ps f1 s → StepsBehind R (intaking f1 s flushed ended) h ps s
steps_on R f f1 s0 s flushed ended h ps g same to =
    steps R h f1 g.given g.owed flushed ended g.bytes (subst (λ (c : Option Closed). Owes c flushed ended g.owed) (sym same) g.owes) g.all ps s (first_of_going R f s0 flushed ended h ps g) to

-- where zeros are owed, and it was given them
no_memory : (s : State) → (s ≡ states.NoMemory) ⊎ (s ≡ states.NoMemory → ⊥)
no_memory states.Waits = inr (λ e. absurd (cc))
no_memory states.Picture = inr (λ e. absurd (cc))
no_memory states.Ended = inr (λ e. absurd (cc))
no_memory (states.Refused r n) = inr (λ e. absurd (cc))
no_memory states.NoMemory = inl refl

pub steps_zeros : (R : Readers) (f f1 : Feeding) (s0 s : State) (ended : Bool) (h : Handed) (ps : List Picture) (g : IsGoing R (intaking f s0 true ended) h ps) (k : ℕ) → f.reader.closed ≡ None
    → (f1.reader.closed ≡ Some closed.End → ⊥) → ((s ≡ states.NoMemory → ⊥) → f1.reader.closed ≡ None → k ≡ 3) → SeeksTo R (g.given ++ take k zeros) ps f1 s → StepsBehind R (intaking f1 s false ended) h ps s
steps_zeros R f f1 s0 s ended h ps g k open_ unended whole to =
    let owed : g.owed ≡ zeros = zeros_owed f.reader.closed true ended g.owed open_ g.owes in
    let bytes : h.bytes ≡ (g.given ++ take k zeros) ++ drop k zeros =
    g.bytes ∙ ap (λ l. g.given ++ l) (owed ∙ sym (take-append-drop k zeros)) ∙ sym (append_assoc g.given (take k zeros) (drop k zeros)) in
    let first = first_of_going R f s0 true ended h ps g in
    ⊎_elim
    (λ is. subst (λ (x : State). StepsBehind R (intaking f1 x false ended) h ps x) (sym is) first)
    (λ not_. steps R h f1 (g.given ++ take k zeros) (drop k zeros) false ended bytes (owes_none f1.reader.closed ended (drop k zeros) unended (λ going. ap (λ n. drop n zeros) (whole not_ going))) g.all ps s first to)
    (no_memory s)

-- and where it was given the end
pub steps_end : (R : Readers) (f f1 : Feeding) (s0 s : State) (h : Handed) (ps : List Picture) (g : IsGoing R (intaking f s0 false true) h ps) → f.reader.closed ≡ None → f1.reader.closed ≡ Some closed.End
    → SeeksTo R g.given ps f1 s → StepsBehind R (intaking f1 s false true) h ps s
steps_end R f f1 s0 s h ps g open_ end to =
    let owed : g.owed ≡ [] = zeros_owed f.reader.closed false true g.owed open_ g.owes in
    let owes : Owes (Some closed.End) false true g.owed = (owed, refl) in
    steps R h f1 g.given g.owed false true g.bytes (subst (λ (c : Option Closed). Owes c false true g.owed) (sym end) owes) g.all ps s (first_of_going R f s0 false true h ps g) to

-- a piece was handed in, and as much of it was given to its feed
pub steps_piece : (R : Readers) (f f1 : Feeding) (s0 s : State) (h : Handed) (ps : List Picture) (g : IsGoing R (intaking f s0 false false) h ps) (piece : List ℕ) → f.reader.closed ≡ None
    → (f1.reader.closed ≡ Some closed.End → ⊥) → SeeksTo R (g.given ++ piece) ps f1 s → StepsBehind R (intaking f1 s false false) (with_more h piece) ps s
steps_piece R f f1 s0 s h ps g piece open_ unended to =
    let owed : g.owed ≡ [] = zeros_owed f.reader.closed false false g.owed open_ g.owes in
    let given : h.bytes ≡ g.given = g.bytes ∙ ap (λ l. g.given ++ l) owed ∙ append-nil g.given in
    let bytes : h.bytes ++ piece ≡ (g.given ++ piece) ++ [] = ap (λ l. l ++ piece) given ∙ sym (append-nil (g.given ++ piece)) in
    let first = of_later R h piece (λ qs ending. BeginsWithPictures qs ps) g.all (first_of_going R f s0 false false h ps g) in
    steps R (with_more h piece) f1 (g.given ++ piece) [] false false bytes (owes_none f1.reader.closed false [] unended (λ going. refl)) g.all ps s first to

-- ---- at rest

-- it has come to what it came to
pub rests : (R : Readers) (f : Feeding) (s : State) (flushed ended : Bool) (h : Handed) (ps : List Picture) → (s ≡ states.Waits → (flushed ≡ false) × (ended ≡ false) × (f.reader.closed ≡ None))
    → StepsBehind R (intaking f s flushed ended) h ps s → ComesNext R (intaking f s flushed ended) h ps s
rests R f states.Waits flushed ended h ps waits (g, seen) =
    let is = waits refl in
    let owed : g.owed ≡ [] = zeros_owed f.reader.closed flushed ended g.owed is.2 g.owes ∙ ap zeros_if is.0 in
    let given : h.bytes ≡ g.given = g.bytes ∙ ap (λ l. g.given ++ l) owed ∙ append-nil g.given in
    record {
      told = (
        first_of_going R f states.Waits flushed ended h ps g,
        subst (λ (l : List ℕ). AreSeenPictures R (seen_of l) ps) (sym given) seen,
        g.all ∙ is.1,
      );
      lends = λ e. absurd (cc);
      fed = g;
    }
rests R f states.Picture flushed ended h ps waits (p, g, shows) = (
  p,
  record { told = (first_of_going R f states.Picture flushed ended h (p ∷ ps) g, omega arith); lends = λ e. shows; fed = g },
)
rests R f states.Ended flushed ended h ps waits is = record { told = is; lends = λ e. absurd (cc); fed = tt }
rests R f (states.Refused r n) flushed ended h ps waits is = record { told = is; lends = λ e. absurd (cc); fed = tt }
rests R f states.NoMemory flushed ended h ps waits is = record { told = is; lends = λ e. absurd (cc); fed = tt }

-- ---- calls

-- nothing was handed in
pub come_none : (R : Readers) (f : Feeding) → HasFed R f [] [] [] → f.reader.closed ≡ None → HasCome R (intaking f states.Waits false false) nothing []
come_none R f fed open_ =
    let owes : Owes None false false [] = refl in
    let g : IsGoing R (intaking f states.Waits false false) nothing [] = record {
      given = [];
      owed = [];
      taken = record { places = []; before = []; fed = fed; done = refl };
      bytes = refl;
      owes = subst (λ (c : Option Closed). Owes c false false []) (sym open_) owes;
      all = refl;
    } in
    let empty : seen_of [] ≡ [] = take_all source_limit [] (omega arith) in
    let seen : AreSeenPictures R [] [] = (
      ending_by false None (read_on R [] []),
      record {
        places = [];
        framing = None;
        stream = record { follow = tt; behind = inl (record { order = omega arith; within = omega arith; each = λ k low high. absurd (omega (arith, low, high)) }) };
        done = refl;
        ends = refl;
      },
    ) in
    record {
      told = (
        first_of_going R f states.Waits false false nothing [] g,
        subst (λ (l : List ℕ). AreSeenPictures R l []) (sym empty) seen,
        refl,
      );
      lends = λ e. absurd (cc);
      fed = g;
    }

-- where it waits, it goes on
waiting : (R : Readers) (f : Feeding) (s : State) (flushed ended : Bool) (h : Handed) (ps : List Picture) → s ≡ states.Waits → IsReady (intaking f s flushed ended) s → HasCome R (intaking f s flushed ended) h ps
    → (flushed ≡ false) × (ended ≡ false) × (f.reader.closed ≡ None) × IsGoing R (intaking f states.Waits false false) h ps
waiting R f states.Waits flushed ended h ps is ready come = (
  ready.unflushed,
  ready.unended,
  ready.open_.reader,
  subst (λ (b : Bool). IsGoing R (intaking f states.Waits false b) h ps) ready.unended (subst (λ (a : Bool). IsGoing R (intaking f states.Waits a ended) h ps) ready.unflushed come.fed),
)
waiting R f states.Picture flushed ended h ps is ready come = absurd (cc)
waiting R f states.Ended flushed ended h ps is ready come = absurd (cc)
waiting R f (states.Refused r n) flushed ended h ps is ready come = absurd (cc)
waiting R f states.NoMemory flushed ended h ps is ready come = absurd (cc)

open_as : (f : Feeding) (s : State) → IsLeftAs f s → s ≡ states.Waits → f.reader.closed ≡ None
open_as f states.Waits left is = left.0.reader
open_as f states.Picture left is = absurd (cc)
open_as f states.Ended left is = absurd (cc)
open_as f (states.Refused r n) left is = absurd (cc)
open_as f states.NoMemory left is = absurd (cc)

module _ (R : Readers) (f : Feeding) (s0 : State) (flushed ended : Bool) (h : Handed) (ps : List Picture) (come : HasCome R (intaking f s0 flushed ended) h ps) where
  module _ (is : s0 ≡ states.Waits) (ready : IsReady (intaking f s0 flushed ended) s0) (f1 : Feeding) (s : State) where
    -- a piece was handed in
    pub pushed : (piece : List ℕ) → IsLeftAs f1 s → (f1.reader.closed ≡ Some closed.End → ⊥) → ((g : List ℕ) → HasTaken R f g ps → SeeksTo R (g ++ piece) ps f1 s)
        → ComesNext R (intaking f1 s flushed ended) (with_more h piece) ps s
    pushed piece left unended to =
        let w = waiting R f s0 flushed ended h ps is ready come in
        let g = w.3 in
        let behind = steps_piece R f f1 states.Waits s h ps g piece w.2 unended (to g.given g.taken) in
        rw (w.0, w.1) (rests R f1 s false false (with_more h piece) ps (λ e. (refl, refl, open_as f1 s left e)) behind)

    -- zeros were
    pub flushes : (k : ℕ) → IsLeftAs f1 s → (f1.reader.closed ≡ Some closed.End → ⊥) → ((s ≡ states.NoMemory → ⊥) → f1.reader.closed ≡ None → k ≡ 3)
        → ((g : List ℕ) → HasTaken R f g ps → SeeksTo R (g ++ take k zeros) ps f1 s) → ComesNext R (intaking f1 s flushed ended) (with_more h zeros) ps s
    flushes k left unended whole to =
        let w = waiting R f s0 flushed ended h ps is ready come in
        let g = with_the_zeros R f states.Waits states.Waits h ps w.3 in
        let behind = steps_zeros R f f1 states.Waits s false (with_more h zeros) ps g k w.2 unended whole (to g.given g.taken) in
        rw (w.0, w.1) (rests R f1 s false false (with_more h zeros) ps (λ e. (refl, refl, open_as f1 s left e)) behind)

    -- the end was
    pub finishes : (s ≡ states.Waits → ⊥) → f1.reader.closed ≡ Some closed.End → ((g : List ℕ) → HasTaken R f g ps → SeeksTo R g ps f1 s) → ComesNext R (intaking f1 s flushed true) (with_end h) ps s
    finishes stays end to =
        let w = waiting R f s0 flushed ended h ps is ready come in
        let g = with_the_end R f states.Waits states.Waits false false h ps w.3 in
        let behind = steps_end R f f1 states.Waits s (with_end h) ps g w.2 end (to g.given g.taken) in
        rw w.0 (rests R f1 s false true (with_end h) ps (λ e. absurd (stays e)) behind)

    -- there was no memory for it
    pub unheld : (piece : List ℕ) → HasCome R (intaking f1 states.NoMemory flushed ended) (with_more h piece) ps
    unheld piece =
        let w = waiting R f s0 flushed ended h ps is ready come in
        let g = w.3 in
        record {
          told = of_later R h piece (λ qs ending. BeginsWithPictures qs ps) g.all (first_of_going R f states.Waits false false h ps g);
          lends = λ e. absurd (cc);
          fed = tt;
        }

-- behind a picture it goes on
pub holding : (R : Readers) (f : Feeding) (s : State) (flushed ended : Bool) (h : Handed) (ps : List Picture) → s ≡ states.Picture → HasCome R (intaking f s flushed ended) h ps → IsGoing R (intaking f states.Picture flushed ended) h ps
holding R f states.Waits flushed ended h ps is come = absurd (cc)
holding R f states.Picture flushed ended h ps is come = come.fed
holding R f states.Ended flushed ended h ps is come = absurd (cc)
holding R f (states.Refused r n) flushed ended h ps is come = absurd (cc)
holding R f states.NoMemory flushed ended h ps is come = absurd (cc)

-- zeros were handed in behind it
pub flushed_later : (R : Readers) (f : Feeding) (s : State) (flushed ended : Bool) (h : Handed) (ps : List Picture) → s ≡ states.Picture → flushed ≡ false → ended ≡ false → HasCome R (intaking f s flushed ended) h ps
    → HasCome R (intaking f s true ended) (with_more h zeros) ps
flushed_later R f states.Waits flushed ended h ps is none open_ come = absurd (cc)
flushed_later R f states.Picture flushed ended h ps is none open_ come =
    let g = subst (λ (b : Bool). IsGoing R (intaking f states.Picture false b) h ps) open_ (subst (λ (a : Bool). IsGoing R (intaking f states.Picture a ended) h ps) none come.fed) in
    let later = with_the_zeros R f states.Picture states.Picture h ps g in
    record {
      told = (first_of_going R f states.Picture true false (with_more h zeros) ps later, come.told.1);
      lends = come.lends;
      fed = subst (λ (b : Bool). IsGoing R (intaking f states.Picture true b) (with_more h zeros) ps) (sym open_) later;
    }
flushed_later R f states.Ended flushed ended h ps is none open_ come = absurd (cc)
flushed_later R f (states.Refused r n) flushed ended h ps is none open_ come = absurd (cc)
flushed_later R f states.NoMemory flushed ended h ps is none open_ come = absurd (cc)

-- or the end
pub ended_later : (R : Readers) (f : Feeding) (s : State) (flushed ended : Bool) (h : Handed) (ps : List Picture) → s ≡ states.Picture → HasCome R (intaking f s flushed ended) h ps
    → HasCome R (intaking f s flushed true) (with_end h) ps
ended_later R f states.Waits flushed ended h ps is come = absurd (cc)
ended_later R f states.Picture flushed ended h ps is come =
    let later = with_the_end R f states.Picture states.Picture flushed ended h ps come.fed in
    record { told = (first_of_going R f states.Picture flushed true (with_end h) ps later, come.told.1); lends = come.lends; fed = later }
ended_later R f states.Ended flushed ended h ps is come = absurd (cc)
ended_later R f (states.Refused r n) flushed ended h ps is come = absurd (cc)
ended_later R f states.NoMemory flushed ended h ps is come = absurd (cc)

-- it was passed
pub passes : (R : Readers) (f1 : Feeding) (s : State) (flushed ended : Bool) (h : Handed) (ps : List Picture) → IsLeftAs f1 s → (s ≡ states.Waits → flushed ≡ false) → (s ≡ states.Waits → ended ≡ false)
    → StepsBehind R (intaking f1 s flushed ended) h ps s → ComesNext R (intaking f1 s flushed ended) h ps s
passes R f1 s flushed ended h ps left unflushed unended behind = rests R f1 s flushed ended h ps (λ e. (unflushed e, unended e, open_as f1 s left e)) behind
