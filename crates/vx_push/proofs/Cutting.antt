-- A cutter: what it answers, by what its intake came to and its extractor answered.
use Rattle.std.proofs.Common.{◌≡◌, ◌⊎◌, ⊎_elim, ℕ, ◌+◌, ◌-◌, ◌<◌, ◌≤◌, Bool, true, false, cond, List, [], ◌∷◌, ◌++◌, ◌∙◌, Option, Some, None, Ok, Err, length, map, nat_le, refl, ap, ap₂, sym, subst, arith, append_assoc}
use Rattle.std.specs.List.{AllByRecursion}
use Rattle.vx_bits.specs.declared.refusal.Refusal.TheVariants.{Extract}
use Rattle.vx_bits.specs.declared.rules.TheConstants.{NO_PICTURE}
use Rattle.vx_pic.specs.declared.kind.Kind.{Kind}
use Rattle.vx_pic.specs.Readings.{Picture, pictures}
use Rattle.vx_pic.specs.Rules.{Readers}
use Rattle.vx_pic.specs.H266.{AreOfH266}
use Rattle.vx_pic.specs.Streams.{StreamReading, pictures_of}
use Rattle.vx_pic.specs.Bytes.{units_at}
use Rattle.vx_pic.specs.Parts.{Parts, parts_of}
use Rattle.vx_pic.specs.Sublayers.{at_most}
use Rattle.vx_pic.specs.Written.{Plan}
use Rattle.vx_run.specs.declared.stop.Place.TheVariants as places
use Rattle.vx_assemble.specs.Held.{lent_by}
use Rattle.vx_assemble.specs.Feed.{seen_of}
use Rattle.vx_sps.specs.Subpictures.{subpics_of}
use Rattle.vx_write.specs.declared.fault.WriteError.{WriteError}
use Rattle.vx_write.specs.declared.fault.WriteError.TheVariants as errors
use Rattle.vx_extract.specs.Extracting.{Extracting, Stands, SameTask, HasSlice, WritesPicture, WritesKept}
use Rattle.vx_extract.specs.Rules.{is_kept, refusal_of}
use Rattle.vx_extract.specs.Written.{AreExtracted, IsExtracted}
use Rattle.vx_run.specs.declared.extract.Task.{Task}
use Rattle.vx_run.specs.declared.stop.Stop.TheVariants.{NotUnderstood, Refused, Mismatched, ReadFault, WriteFault, NoMemory}
use Rattle.vx_run.specs.Extract.{BreakNoRule, BeginsWithPictures, IsExtractable}
use Rattle.vx_run.specs.inner.Extracting.{HaveSlices}
use Rattle.vx_run.proofs.Extracting.{no_pictures, shown_is}
use Rattle.vx_run.proofs.ReadAgain.{has_subpicture}
use Rattle.vx_push.specs.declared.intake.State.{State}
use Rattle.vx_push.specs.declared.intake.State.TheVariants as states
use Rattle.vx_push.specs.declared.cutter.Cut.{Cut}
use Rattle.vx_push.specs.declared.cutter.Cut.TheVariants.{Picture as ToPicture, Waits as ToWait, Ended as ToEnd, Stopped as ToStop}
use Rattle.vx_push.specs.Handed.{nothing, Handed, OfEachStream}
use Rattle.vx_push.specs.Comes.{Intaking, HasCome, ComesTo, ComesNext, IsFedBy}
use Rattle.vx_push.specs.Cutting.{Cutting, IsRefusedCut, by_ending_told, by_picture, without, HasEndedBy, HoldsPicture, HasCut, Answers}
use Rattle.vx_push.specs.inner.Comes.{IsGoing, IsMore}
use Rattle.vx_push.specs.inner.Cutting.{HaltsBy, stop_by, CutsKept, Cuts, end_by, StepsTo, StillCuts, units_by}
use Rattle.vx_push.proofs.Handing.{carried, one_held, none_held, not_picture}

-- ---- what is handed in

ended_on : (R : Readers) (t : Task) (h more : Handed) (ps : List Picture) (end : Cut) → IsMore h more → HasEndedBy R t h ps end → HasEndedBy R t more ps end
ended_on R t h more ps ToPicture is by = absurd by
ended_on R t h more ps ToWait is by = absurd by
ended_on R t h more ps ToEnd is by = carried R h more is (λ qs ending. (qs ≡ ps) × IsExtractable t qs ending) by
ended_on R t h more ps (ToStop (Refused r place)) is by = carried R h more is (λ qs ending. IsRefusedCut t qs ending ps r place) by
ended_on R t h more ps (ToStop NoMemory) is by = carried R h more is (λ qs ending. BeginsWithPictures qs ps) by
ended_on R t h more ps (ToStop NotUnderstood) is by = absurd by
ended_on R t h more ps (ToStop (Mismatched m n)) is by = absurd by
ended_on R t h more ps (ToStop (ReadFault k)) is by = absurd by
ended_on R t h more ps (ToStop WriteFault) is by = absurd by

pub cut_handed : (R : Readers) (t : Task) (c : Cutting) (i : Intaking) (h more : Handed) (ps : List Picture) (done : List Plan) → HasCut R t c h ps done → IsMore h more × ComesNext R i more ps i.state
    → HasCut R t (record c { intake = i }) more ps done
cut_handed R t c i h more ps done cut takes = record {
  target = cut.target;
  level = cut.level;
  tid = cut.tid;
  come = takes.1;
  count = cut.count;
  rules = cut.rules;
  plans = cut.plans;
  stands = cut.stands;
  holds = λ kind is. let one = cut.holds kind is in (one.0, one.1, one.2, record { bytes = one.3.bytes; kind = one.3.kind });
  ended = λ end is. ended_on R t h more ps end takes.0 (cut.ended end is);
}

-- ---- what it comes to

same_cut : {a b : Cut} → (let x : Option Cut = Some a in x) ≡ Some b → a ≡ b
same_cut is = cc

-- in the end
ends : (R : Readers) (t : Task) (c : Cutting) (h : Handed) (ps : List Picture) (done : List Plan) (end : Cut) → HasCut R t c h ps done → HasEndedBy R t h ps end
    → HasCut R t (record c { end = Some end }) h ps done × HasEndedBy R t h ps end
ends R t c h ps done end cut by = (
  record {
    target = cut.target;
    level = cut.level;
    tid = cut.tid;
    come = cut.come;
    count = cut.count;
    rules = cut.rules;
    plans = cut.plans;
    stands = λ none. absurd (cc);
    holds = λ kind is. let one = cut.holds kind is in (one.0, one.1, one.2, record { bytes = one.3.bytes; kind = one.3.kind });
    ended = λ e is. subst (λ (x : Cut). HasEndedBy R t h ps x) (same_cut is) by;
  },
  by,
)

-- by what its intake has come to
pub halts : (R : Readers) (t : Task) (c : Cutting) (h : Handed) (ps : List Picture) (done : List Plan) (cut : HasCut R t c h ps done) (s : State) (answer : Cut) → c.intake.state ≡ s → HaltsBy s c.pictures answer
    → StepsTo R t c h ps done (Err answer)
halts R t c h ps done cut states.Waits answer is by =
    let come = none_held R c.intake h ps (not_picture c.intake.state is) cut.come in
    let told = subst (λ (s : State). ComesTo R h ps s) is come.told in
    rw by (cut, record { seen = told.1; open_ = told.2 })
halts R t c h ps done cut states.Picture answer is by = absurd by
halts R t c h ps done cut states.Ended ToPicture is by = absurd by
halts R t c h ps done cut states.Ended ToWait is by = absurd by
halts R t c h ps done cut states.Ended ToEnd is by =
    let come = none_held R c.intake h ps (λ e. let f = is in absurd (cc)) cut.come in
    let told = subst (λ (s : State). ComesTo R h ps s) is come.told in
    ends R t c h ps done ToEnd cut (λ b qs ending o are.
    let all = told.0 b qs ending o are in (
      all.0,
      record {
        whole = all.1;
        some = subst (λ (l : List Picture). 0 < length l) (sym all.0) (omega (arith, by, cut.count));
        rules = subst (λ (l : List Picture). BreakNoRule t l) (sym all.0) cut.rules;
      },
    ))
halts R t c h ps done cut states.Ended (ToStop stop) is by =
    let come = none_held R c.intake h ps (λ e. let f = is in absurd (cc)) cut.come in
    let told = subst (λ (s : State). ComesTo R h ps s) is come.told in
    let empty : ps ≡ [] = no_pictures ps (omega (arith, by.0, cut.count)) in
    rw by.1 (ends R t c h ps done (ToStop (Refused (Extract NO_PICTURE) (places.Picture 0))) cut (λ b qs ending o are.
    let all = told.0 b qs ending o are in
    without (all.0 ∙ empty) empty all.1 refl refl))
halts R t c h ps done cut (states.Refused r n) answer is by =
    let come = none_held R c.intake h ps (λ e. let f = is in absurd (cc)) cut.come in
    let told = subst (λ (s : State). ComesTo R h ps s) is come.told in
    rw by (ends R t c h ps done (ToStop (Refused r _)) cut (λ b qs ending o are. let all = told b qs ending o are in by_ending_told n all.0 all.1 refl))
halts R t c h ps done cut states.NoMemory answer is by =
    let come = none_held R c.intake h ps (λ e. let f = is in absurd (cc)) cut.come in
    let told = subst (λ (s : State). ComesTo R h ps s) is come.told in
    rw by (ends R t c h ps done (ToStop NoMemory) cut told)

-- ---- a picture

-- it has a slice of the subpicture
slice_of_held : (R : Readers) → HaveSlices R → (i : Intaking) (h : Handed) (ps : List Picture) (p : Picture) → IsGoing R i h (p ∷ ps) → (k : ℕ) → k < subpics_of p.begun.sps → HasSlice k (parts_of p)
slice_of_held R have i h ps p going k within =
    let tk = going.taken in
    let units = units_at (seen_of going.given) tk.places in
    let are : pictures_of R units ≡ p ∷ ps = ap (λ (o : StreamReading). pictures o.before) tk.fed.readings ∙ tk.done in
    (subst (λ (l : List Picture). AllByRecursion (λ q. (j : ℕ) → j < subpics_of q.begun.sps → HasSlice j (parts_of q)) l) are (have units)).0 k within

-- its answer
pub cuts_kept : (q : Parts) (done : List Plan) (x : Extracting) (bytes : List ℕ) (tid : ℕ) → tid ≡ x.tid → (n : ℕ) (faults : ℕ) → WritesPicture q done x (Some []) (Some bytes) 0 faults (Ok tt)
    → Cuts q done x bytes n (Ok (cond (nat_le q.kind.temporal_id tid) (Some q.kind) None))
cuts_kept q done x bytes tid same n faults wrote = (wrote.0, subst (λ (k : ℕ). CutsKept (is_kept x.tid q) q done x bytes (cond (nat_le q.kind.temporal_id k) (Some q.kind) None)) (sym same) (by_kept (is_kept x.tid q) wrote.2))
  where
    by_kept : (b : Bool) → WritesKept b q done x (Some []) (Some bytes) → CutsKept b q done x bytes (cond b (Some q.kind) None)
    by_kept true wrote = (refl, λ slice. let p = wrote slice in (p.0, p.1, p.2, p.3))
    by_kept false wrote = (refl, wrote.1)

pub cuts_not : (q : Parts) (done : List Plan) (x : Extracting) (bytes : List ℕ) (n faults : ℕ) (error : WriteError) → WritesPicture q done x (Some []) (Some bytes) 0 faults (Err error) → Cuts q done x bytes n (Err (ToStop (stop_by error n)))
cuts_not q done x bytes n faults (errors.Refused r) by = (by.0, refl)
cuts_not q done x bytes n faults errors.SinkFailed by = tt
cuts_not q done x bytes n faults errors.Memory by = tt
cuts_not q done x bytes n faults (errors.Stopped f) by = tt

-- the extractor went on
module _ (R : Readers) (t : Task) (c : Cutting) (h : Handed) (ps : List Picture) (done : List Plan) (cut : HasCut R t c h ps done) (held : c.held ≡ None) (holds : c.intake.state ≡ states.Picture)
    (x : Extracting) (same : SameTask c.extractor x) (bytes : List ℕ) where
  target_is : x.target ≡ t.target
  target_is = same.target ∙ cut.target

  level_is : x.level ≡ t.level
  level_is = same.level ∙ cut.level

  tid_is : x.tid ≡ t.tid
  tid_is = same.tid ∙ cut.tid

  abbrev one : (p : Picture) × HasCome R c.intake h (p ∷ ps)
  one = one_held R c.intake h ps holds cut.come

  abbrev q : Parts
  q = lent_by c.intake.feed.assembler

  is_latest : q ≡ parts_of one.0
  is_latest = shown_is q (one.0 ∷ ps) one.0 ps (one.1.lends holds) refl

  refusal_is : refusal_of x.target x.tid q ≡ refusal_of t.target t.tid (parts_of one.0)
  refusal_is = ap₂ (λ a b. refusal_of a b q) target_is tid_is ∙ ap (λ w. refusal_of t.target t.tid w) is_latest

  kept_is : is_kept x.tid q ≡ is_kept t.tid (parts_of one.0)
  kept_is = ap₂ (λ a w. is_kept a w) tid_is is_latest

  first : OfEachStream R h (λ qs ending. BeginsWithPictures qs (one.0 ∷ ps))
  first = (subst (λ (s : State). ComesTo R h (one.0 ∷ ps) s) holds one.1.told).0

  stopped : (end : Cut) → HasEndedBy R t h ps end → HasCut R t (record c { extractor = x; cut = bytes; end = Some end }) h ps done × HasEndedBy R t h ps end
  stopped end by = (
    record {
      target = target_is;
      level = level_is;
      tid = tid_is;
      come = cut.come;
      count = cut.count;
      rules = cut.rules;
      plans = cut.plans;
      stands = λ none. absurd (cc);
      holds = λ kind is. let e = held in absurd (cc);
      ended = λ e is. subst (λ (y : Cut). HasEndedBy R t h ps y) (same_cut is) by;
    },
    by,
  )

  -- it wasn't written
  pub cut_not : (answer : Cut) → Cuts q done x bytes c.pictures (Err answer) → StepsTo R t (record c { extractor = x; cut = bytes }) h ps done (Err answer)
  cut_not ToPicture by = absurd by
  cut_not ToWait by = absurd by
  cut_not ToEnd by = absurd by
  cut_not (ToStop NotUnderstood) by = absurd by
  cut_not (ToStop (Refused r place)) by = stopped (ToStop (Refused r place)) (λ b qs ending o are.
      let begins = first b qs ending o are in
      by_picture (record { later = begins.0; picture = one.0; place = begins.1; kept = cut.rules; broken = sym refusal_is ∙ by.0 }) (by.1 ∙ ap places.Picture cut.count))
  cut_not (ToStop (Mismatched m n)) by = absurd by
  cut_not (ToStop (ReadFault k)) by = absurd by
  cut_not (ToStop WriteFault) by = absurd by
  cut_not (ToStop NoMemory) by = stopped (ToStop NoMemory) (λ b qs ending o are.
      let begins = first b qs ending o are in
      (begins.0 ++ one.0 ∷ [], begins.1 ∙ sym (append_assoc begins.0 (one.0 ∷ []) ps)))

  module _ (have : HaveSlices R) (going : c.end ≡ None) (i : Intaking) (next : (qs : List Picture) → HasCome R c.intake h qs → ComesNext R i h qs i.state) (n : ℕ) (more : n ≡ c.pictures + 1) where
    abbrev new : Cutting
    new = record c { intake = i; extractor = x; cut = bytes; pictures = n }

    -- it was, or was left out
    went : (held : Option Kind) (later : List Plan) → refusal_of t.target t.tid (parts_of one.0) ≡ None → AreExtracted t.target t.level (map parts_of (at_most t.tid (one.0 ∷ ps))) later → Stands x later
        → ((kind : Kind) → held ≡ Some kind → (p : Plan) × (before : List Plan) × (later ≡ p ∷ before) × HoldsPicture (record new { held = held }) p) → HasCut R t (record new { held = held }) h (one.0 ∷ ps) later
    went held later fine plans stands holding = record {
      target = target_is;
      level = level_is;
      tid = tid_is;
      come = next (one.0 ∷ ps) one.1;
      count = omega (arith, more, cut.count);
      rules = (fine, cut.rules);
      plans = plans;
      stands = λ none. stands;
      holds = holding;
      ended = λ e is. let none = going in absurd (cc);
    }

    by_kept : (b : Bool) → is_kept t.tid (parts_of one.0) ≡ b → refusal_of t.target t.tid (parts_of one.0) ≡ None → (kept : Option Kind) → CutsKept b q done x bytes kept → StepsTo R t new h ps done (Ok kept)
    by_kept true on fine kept wrote =
        let going : IsGoing R c.intake h (one.0 ∷ ps) = subst (λ (s : State). IsFedBy R c.intake h (one.0 ∷ ps) s) holds one.1.fed in
        let has = slice_of_held R have c.intake h ps one.0 going t.target (has_subpicture t.target t.tid (parts_of one.0) fine on) in
        let slice : HasSlice x.target q = subst (λ (w : Parts). HasSlice x.target w) (sym is_latest) (subst (λ (k : ℕ). HasSlice k (parts_of one.0)) (sym target_is) has) in
        let plan = wrote.1 slice in
        let p = plan.0 in
        let extracted : IsExtracted t.target t.level (parts_of one.0) done p = subst (λ (w : Parts). IsExtracted t.target t.level w done p) is_latest
        (subst (λ (l : Option ℕ). IsExtracted t.target l q done p) level_is (subst (λ (k : ℕ). IsExtracted k x.level q done p) target_is plan.1)) in
        let plans : AreExtracted t.target t.level (map parts_of (at_most t.tid (one.0 ∷ ps))) (p ∷ done) = rw on (extracted, cut.plans) in
        let holding : HoldsPicture (record new { held = Some q.kind }) p = record { bytes = plan.2; kind = ap (λ (k : Kind). Some k) (sym plan.1.kind) } in
        subst (λ (k : Option Kind). StepsTo R t new h ps done (Ok k)) (sym wrote.0) (one.0, p, went (Some q.kind) (p ∷ done) fine plans plan.3 (λ kind is. (p, done, refl, holding)), holding)
    by_kept false on fine kept wrote =
        let plans : AreExtracted t.target t.level (map parts_of (at_most t.tid (one.0 ∷ ps))) done = rw on cut.plans in
        let none : c.held ≡ None = held in
        subst (λ (k : Option Kind). StepsTo R t new h ps done (Ok k)) (sym wrote.0) (one.0, went c.held done fine plans wrote.1 (λ kind is. absurd (cc)))

    pub cut_kept : (kept : Option Kind) → Cuts q done x bytes c.pictures (Ok kept) → StepsTo R t new h ps done (Ok kept)
    cut_kept kept by =
        by_kept (is_kept t.tid (parts_of one.0)) refl (sym refusal_is ∙ by.0) kept (subst (λ (b : Bool). CutsKept b q done x bytes kept) kept_is by.1)

-- fewer units are left
pub fewer : (s s' : State) (n m : ℕ) → s ≡ states.Picture → n ≤ 1099511627776 → (s' ≡ states.Picture → n < m) → (s' ≡ states.Picture → m ≤ 1099511627776) → units_by s' m < units_by s n
fewer s s' n m is few grows within = rw is (by_state s' n m few grows within)
  where
    by_state : (s' : State) (n m : ℕ) → n ≤ 1099511627776 → (s' ≡ states.Picture → n < m) → (s' ≡ states.Picture → m ≤ 1099511627776) → units_by s' m < 1099511627777 - n
    by_state states.Waits n m few grows within = omega (arith, few)
    by_state states.Picture n m few grows within = omega (arith, few, grows refl, within refl)
    by_state states.Ended n m few grows within = omega (arith, few)
    by_state (states.Refused r k) n m few grows within = omega (arith, few)
    by_state states.NoMemory n m few grows within = omega (arith, few)

-- ---- from picture to picture

pub cuts_first : (c : Cutting) → c.held ≡ None → c.end ≡ None → StillCuts c c
cuts_first c held going = record { cuts = λ R of t h ps done cut. ([], cut); held = held; going = going }

pub cuts_more : (old c c1 : Cutting) → StillCuts old c
    → ((R : Readers) → AreOfH266 R → (t : Task) (h : Handed) (ps : List Picture) (done : List Plan) → HasCut R t c h ps done → StepsTo R t c1 h ps done (Ok None))
    → c1.held ≡ c.held → c1.end ≡ c.end → StillCuts old c1
cuts_more old c c1 s step held going = record {
  cuts = λ R of t h ps done cut.
      let so_far = s.cuts R of t h ps done cut in
      let next = step R of t h (so_far.0 ++ ps) done so_far.1 in
      (next.0 ∷ so_far.0, next.1);
  held = held ∙ s.held;
  going = going ∙ s.going;
}

module _ (old c c1 : Cutting) (s : StillCuts old c) (R : Readers) (of : AreOfH266 R) (t : Task) (h : Handed) (ps : List Picture) (done : List Plan) (cut : HasCut R t old h ps done) where
  pub answers_picture : (kind : Kind) → ((ps : List Picture) → HasCut R t c h ps done → StepsTo R t c1 h ps done (Ok (Some kind))) → Answers R t (record c1 { held = Some kind }) h ps done ToPicture
  answers_picture kind step =
      let so_far = s.cuts R of t h ps done cut in
      let next = step (so_far.0 ++ ps) so_far.1 in
      (next.0 ∷ so_far.0, next.1, next.2, next.3)

  pub answers_end : (answer : Cut) → c1.end ≡ None → ((ps : List Picture) → HasCut R t c h ps done → StepsTo R t c1 h ps done (Err answer)) → Answers R t (record c1 { end = end_by answer }) h ps done answer
  answers_end ToPicture none step = let so_far = s.cuts R of t h ps done cut in absurd (step (so_far.0 ++ ps) so_far.1)
  answers_end ToWait none step =
      let so_far = s.cuts R of t h ps done cut in
      let next = step (so_far.0 ++ ps) so_far.1 in
      (so_far.0, subst (λ (e : Option Cut). HasCut R t (record c1 { end = e }) h (so_far.0 ++ ps) done) none next.0, next.1)
  answers_end ToEnd none step =
      let so_far = s.cuts R of t h ps done cut in
      let next = step (so_far.0 ++ ps) so_far.1 in
      (so_far.0, next.0, next.1, refl)
  answers_end (ToStop stop) none step =
      let so_far = s.cuts R of t h ps done cut in
      let next = step (so_far.0 ++ ps) so_far.1 in
      (so_far.0, next.0, next.1, refl)

-- ---- the beginning, and what is taken

pub cut_none : (R : Readers) (t : Task) (i : Intaking) (x : Extracting) → HasCome R i nothing [] → i.state ≡ states.Waits → x.target ≡ t.target → x.level ≡ t.level → x.tid ≡ t.tid → Stands x []
    → HasCut R t (record { intake = i; extractor = x; pictures = 0; cut = []; held = None; end = None }) nothing [] []
cut_none R t i x come waits target level tid stands = record {
  target = target;
  level = level;
  tid = tid;
  come = subst (λ (s : State). ComesNext R i nothing [] s) (sym waits) come;
  count = refl;
  rules = tt;
  plans = tt;
  stands = λ none. stands;
  holds = λ kind is. absurd (cc);
  ended = λ end is. absurd (cc);
}

pub cut_taken : (R : Readers) (t : Task) (c : Cutting) (bytes : List ℕ) (h : Handed) (ps : List Picture) (done : List Plan) → HasCut R t c h ps done → HasCut R t (record c { held = None; cut = bytes }) h ps done
cut_taken R t c bytes h ps done cut = record {
  target = cut.target;
  level = cut.level;
  tid = cut.tid;
  come = cut.come;
  count = cut.count;
  rules = cut.rules;
  plans = cut.plans;
  stands = cut.stands;
  holds = λ kind is. absurd (cc);
  ended = cut.ended;
}
