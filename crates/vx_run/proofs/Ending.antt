-- What the status tells of what came of a command.
use Rattle.std.proofs.Common.{◌≡◌, ◌≢◌, ◌⊎◌, ℕ, List, [], ◌∷◌, ◌++◌, length, Option, Some, None, Ok, Err, inl, inr, refl, sym, ap, subst, arith, ◌<◌, ◌≤◌, ◌∙◌}
use Rattle.std.specs.Prelude.{◌↔◌, IsSomeAnd}
use Rattle.std.proofs.lemmas.Bool.{cases_lt}
use Rattle.std.proofs.lemmas.List.{length-map}
use Rattle.vx_bits.specs.declared.refusal.Refusal.{Refusal}
use Rattle.vx_bits.specs.declared.refusal.Refusal.TheVariants.{Limit}
use Rattle.vx_bits.specs.declared.rules.TheConstants.{TOO_MANY_SOURCES, TOO_MANY_FILES}
use Rattle.vx_run.specs.declared.stop.Place.{Place}
use Rattle.vx_run.specs.declared.stop.Place.TheVariants as places
use Rattle.vx_explain.specs.Explained.{explanation}
use Rattle.vx_run.specs.declared.stop.Stop.{Stop}
use Rattle.vx_run.specs.declared.stop.Stop.TheVariants.{NotUnderstood, Mismatched, Refused, ReadFault, WriteFault, NoMemory}
use Rattle.vx_run.specs.Change.{Change, Sources, source_at, HasFault}
use Rattle.vx_run.specs.About.{help_text, version_text, Writes}
use Rattle.vx_run.specs.Conclusion.{Outcome, Concludes, ExitsWith, IsOfCommand, IsMade, status_of}
use Rattle.vx_run.specs.declared.extract.Task.{Task}
use Rattle.vx_run.specs.Extract.{BreakNoRule, RefusesExtraction, by_ending, by_picture, without, IsExtractable, WhereTold, ExtractsBy, ChecksBy, task_of}
use Rattle.vx_run.specs.Grammar.{Command, Placing, show, extract, check_extract, merge, play, check_merge, verify, trial, help, version, explain, AskFor, IsUnderstood, NamesFiles}
use Rattle.vx_run.specs.Trial.{EndsTrial}
use Rattle.vx_run.specs.Run.{Does, Performs, Runs}
use Rattle.vx_frame.specs.declared.corner.Corner.{Corner}
use Rattle.vx_run.specs.Rounds.{Stream, OfEachSource, WhereAllTold, most_sources, too_many}
use Rattle.vx_run.specs.Merge.{EndsWritten, EndsOnce, ChecksMergeBy, MergesBy, corner_of, corners_of}
use Rattle.vx_run.specs.Play.{EndsPlayed, PlayEndsOnce, PlaysBy, file_regions, most_files, region_corners, region_at_corner, too_many_files}
use Rattle.vx_verify.specs.declared.mismatch.Mismatch.{Mismatch}
use Rattle.vx_verify.specs.declared.spot.Spot.{Spot}
use Rattle.vx_run.specs.Verify.{EndsVerified, VerifyEndsOnce, VerifiesBy, spot_of, spots_of}
use Rattle.vx_pic.specs.Readings.{Picture}
use Rattle.vx_pic.specs.Rules.{Readers}
use Rattle.vx_pic.specs.Bytes.{Ending}
use Rattle.vx_pic.specs.Parts.{parts_of}
use Rattle.vx_pic.specs.Written.{Plan}
use Rattle.vx_extract.specs.Rules.{refusal_of}
use Rattle.vx_run.specs.Show.{Teller, teller, ShowsBy, WhereKnown}
use Rattle.vx_run.specs.laws.Status.{HasStatus, HaveNoFault, IsPlayable, IsVerifiedMerge, IsWritable, IsZeroWhere, PlacesTooMany}
use Rattle.vx_run.proofs.Performing.{names-file, merge_some, verify_files_count}
use Rattle.vx_run.proofs.PlayRegions.{some_regions}

-- ---- 0 or 1

is-done : (P : Type 0) (status : ℕ) → P → status ≡ 0 → IsZeroWhere P status
is-done P status so zero_ = record { done = (λ is. so, λ p. zero_); refused = (λ one. absurd (omega (arith, one, zero_)), λ not_. absurd (not_ so)) }

is-refused : (P : Type 0) (status : ℕ) → (P → ⊥) → status ≡ 1 → IsZeroWhere P status
is-refused P status not_ one = record { done = (λ zero_. absurd (omega (arith, one, zero_)), λ so. absurd (not_ so)); refused = (λ is. not_, λ is. one) }

-- ---- what stops a command, but for want of memory

refused_1 : {E : Type 0} (r : Refusal) (place : Place) (status : ℕ) (err : Change E) → Concludes (Refused r place) status err → status ≢ 4 → status ≡ 1
refused_1 r place status err ends fits = elim ends.ended [ inl p ↦ p.0 | inr p ↦ absurd (fits p.1) ]

mismatched_1 : {E : Type 0} (m : Mismatch) (n status : ℕ) (err : Change E) → Concludes (Mismatched m n) status err → status ≢ 4 → status ≡ 1
mismatched_1 m n status err ends fits = elim ends.ended [ inl p ↦ p.0 | inr p ↦ absurd (fits p.1) ]

no-memory : {E : Type 0} (status : ℕ) (err : Change E) → Concludes NoMemory status err → status ≢ 4 → ⊥
no-memory status err ends fits = elim ends.ended [ inl p ↦ fits p.0 | inr p ↦ p.0 ]

-- ---- pictures of one source

no_rule_of : (t : Task) (later before : List Picture) (p : Picture) → BreakNoRule t (later ++ p ∷ before) → refusal_of t.target t.tid (parts_of p) ≡ None
no_rule_of t [] before p none = none.0
no_rule_of t (q ∷ later) before p none = no_rule_of t later before p none.1

-- what is refused can't be extracted
refuses-not : {A : Type 0} (R : Readers) (t : Task) (source : Change A) (ps : List Picture) (ending : Option Ending) (before : List Picture) (r : Refusal) (place : Place) → RefusesExtraction R t source ps ending before r place → IsExtractable t ps ending → ⊥
refuses-not R t source ps ending before r place (by_ending all rules told) fine = let none = sym told.is ∙ fine.whole in absurd (cc)
refuses-not R t source ps ending before r place (by_picture broken stops at) fine =
    let none = no_rule_of t broken.later before broken.picture (subst (λ (l : List Picture). BreakNoRule t l) broken.place fine.rules) in
    let some = broken.broken in
    absurd (cc)
refuses-not R t source ps ending before r place (without all empty whole end is at) fine = omega (arith, fine.some, ap (λ (l : List Picture). length l) empty)

module _ {A K E : Type 0} (R : Readers) (source : Change A) (out : Change K) (status : ℕ) (err : Change E) (read : ¬ HasFault source) (write : ¬ HasFault out) (fits : status ≢ 4) where
  shown-status : (T : Teller) (outcome : Outcome) → ShowsBy R T source out outcome → ExitsWith outcome status err → WhereKnown R source (λ b units ending. IsZeroWhere (ending ≡ None) status)
  shown-status T (Ok v) shows exits b units ending told is = is-done (ending ≡ None) status (shows.4 b units ending told is).0 exits.0
  shown-status T (Err (Refused refusal place)) shows exits b units ending told is =
      let some = (shows.3 b units ending told is).0.is in
      is-refused (ending ≡ None) status (λ none. let other = sym some ∙ none in absurd (cc)) (refused_1 refusal place status err exits fits)
  shown-status T (Err (ReadFault k)) shows exits b units ending told is = absurd (read shows.0)
  shown-status T (Err WriteFault) shows exits b units ending told is = absurd (write shows.1)
  shown-status T (Err NoMemory) shows exits b units ending told is = absurd (no-memory status err exits fits)
  shown-status T (Err NotUnderstood) shows exits b units ending told is = absurd shows
  shown-status T (Err (Mismatched x y)) shows exits b units ending told is = absurd shows

  extracted-status : (t : Task) (outcome : Outcome) → ExtractsBy R t source out outcome → ExitsWith outcome status err → WhereTold R source (λ ps ending. IsZeroWhere (IsExtractable t ps ending) status)
  extracted-status t (Ok v) does exits b ps ending told are = is-done (IsExtractable t ps ending) status (does.4 b ps ending told are).0 exits.0
  extracted-status t (Err (Refused r place)) does exits b ps ending told are =
      let is = does.3 b ps ending told are in
      is-refused (IsExtractable t ps ending) status (refuses-not R t source ps ending is.0 r place is.1) (refused_1 r place status err exits fits)
  extracted-status t (Err (ReadFault k)) does exits b ps ending told are = absurd (read does.0)
  extracted-status t (Err WriteFault) does exits b ps ending told are = absurd (write does.1)
  extracted-status t (Err NoMemory) does exits b ps ending told are = absurd (no-memory status err exits fits)
  extracted-status t (Err NotUnderstood) does exits b ps ending told are = absurd does
  extracted-status t (Err (Mismatched x y)) does exits b ps ending told are = absurd does

  checked-status : (t : Task) (outcome : Outcome) → ChecksBy R t source out outcome → ExitsWith outcome status err → WhereTold R source (λ ps ending. IsZeroWhere (IsExtractable t ps ending) status)
  checked-status t (Ok v) does exits b ps ending told are = is-done (IsExtractable t ps ending) status (does.4 b ps ending told are).0 exits.0
  checked-status t (Err (Refused r place)) does exits b ps ending told are =
      let is = does.3 b ps ending told are in
      is-refused (IsExtractable t ps ending) status (refuses-not R t source ps ending is.0 r place is.1) (refused_1 r place status err exits fits)
  checked-status t (Err (ReadFault k)) does exits b ps ending told are = absurd (read does.0)
  checked-status t (Err WriteFault) does exits b ps ending told are = absurd (write does.1)
  checked-status t (Err NoMemory) does exits b ps ending told are = absurd (no-memory status err exits fits)
  checked-status t (Err NotUnderstood) does exits b ps ending told are = absurd does
  checked-status t (Err (Mismatched x y)) does exits b ps ending told are = absurd does

-- ---- rounds: what stops can't be done, since it ends once

merge-not : EndsOnce → (corners : List Corner) (level : Option ℕ) (ss : List Stream) (done : List Plan) (stop : Stop) → 0 < length ss → EndsWritten corners level ss done (Err stop) → IsWritable corners level ss → ⊥
merge-not once corners level ss done stop some ends able =
    let same : (let o : Outcome = Ok tt in o) ≡ Err stop = (once corners level ss able.0 done (Ok tt) (Err stop) some able.1 ends).1 in
    absurd (cc)

verify-not : VerifyEndsOnce → (spots : List Spot) (ss : List Stream) (n : ℕ) (stop : Stop) → 0 < length ss → EndsVerified spots ss n (Err stop) → IsVerifiedMerge spots ss → ⊥
verify-not once spots ss n stop some ends able =
    let same : (let o : Outcome = Ok tt in o) ≡ Err stop = (once spots ss able.0 n (Ok tt) (Err stop) some able.1 ends).1 in
    absurd (cc)

play-not : PlayEndsOnce → (corners : List Corner) (level : Option ℕ) (regions : List ℕ) (files : List Stream) (done : List Plan) (stop : Stop) → 0 < length corners
    → EndsPlayed corners level regions files done (Err stop) → IsPlayable corners level regions files → ⊥
play-not once corners level regions files done stop some ends able =
    let same : (let o : Outcome = Ok tt in o) ≡ Err stop = (once corners level regions files able.0 done (Ok tt) (Err stop) some able.1 ends).1 in
    absurd (cc)

module _ {A K E : Type 0} (R : Readers) (sources : Sources A) (out : Change K) (status : ℕ) (err : Change E) (read : OfEachSource sources (λ source. ¬ HasFault source)) (write : ¬ HasFault out) (fits : status ≢ 4) where
  module _ (once : EndsOnce) (corners : List Corner) (some : 0 < length sources.old) where
    merged-checked : (outcome : Outcome) → ChecksMergeBy R corners sources out outcome → ExitsWith outcome status err → WhereAllTold R sources (λ ss. IsZeroWhere (IsWritable corners None ss) status)
    merged-checked (Ok v) does exits ss are = let is = does.2 ss are in is-done (IsWritable corners None ss) status (is.0, is.1) exits.0
    merged-checked (Err (Refused r place)) does exits ss are =
        let is = does.3 ss are in
        is-refused (IsWritable corners None ss) status (merge-not once corners None ss is.0 (Refused r place) (omega (arith, some, are.count)) is.2) (refused_1 r place status err exits fits)
    merged-checked (Err (ReadFault k)) does exits ss are = absurd (read k does.0 does.1)
    merged-checked (Err WriteFault) does exits ss are = absurd (write does.1)
    merged-checked (Err NoMemory) does exits ss are = absurd (no-memory status err exits fits)
    merged-checked (Err NotUnderstood) does exits ss are = absurd does
    merged-checked (Err (Mismatched x y)) does exits ss are = absurd does

    merged-status : (level : Option ℕ) (outcome : Outcome) → MergesBy R corners level sources out outcome → ExitsWith outcome status err → WhereAllTold R sources (λ ss. IsZeroWhere (IsWritable corners level ss) status)
    merged-status level (Ok v) does exits ss are = let is = does.2 ss are in is-done (IsWritable corners level ss) status (is.0, is.1) exits.0
    merged-status level (Err (Refused r place)) does exits ss are =
        let is = does.3 ss are in
        is-refused (IsWritable corners level ss) status (merge-not once corners level ss is.0 (Refused r place) (omega (arith, some, are.count)) is.2) (refused_1 r place status err exits fits)
    merged-status level (Err (ReadFault k)) does exits ss are = absurd (read k does.0 does.1)
    merged-status level (Err WriteFault) does exits ss are = absurd (write does.2)
    merged-status level (Err NoMemory) does exits ss are = absurd (no-memory status err exits fits)
    merged-status level (Err NotUnderstood) does exits ss are = absurd does
    merged-status level (Err (Mismatched x y)) does exits ss are = absurd does

  verified-status : VerifyEndsOnce → (spots : List Spot) → 0 < length sources.old → (outcome : Outcome) → VerifiesBy R spots sources out outcome → ExitsWith outcome status err
      → WhereAllTold R sources (λ ss. IsZeroWhere (IsVerifiedMerge spots ss) status)
  verified-status once spots some (Ok v) does exits ss are = let is = does.2 ss are in is-done (IsVerifiedMerge spots ss) status (is.0, is.1) exits.0
  verified-status once spots some (Err (Mismatched m n)) does exits ss are =
      is-refused (IsVerifiedMerge spots ss) status (verify-not once spots ss n (Mismatched m n) (omega (arith, some, are.count)) (does.2 ss are)) (mismatched_1 m n status err exits fits)
  verified-status once spots some (Err (Refused r place)) does exits ss are =
      is-refused (IsVerifiedMerge spots ss) status (verify-not once spots ss does.0 (Refused r place) (omega (arith, some, are.count)) (does.3 ss are)) (refused_1 r place status err exits fits)
  verified-status once spots some (Err (ReadFault k)) does exits ss are = absurd (read k does.0 does.1)
  verified-status once spots some (Err WriteFault) does exits ss are = absurd (write does.1)
  verified-status once spots some (Err NoMemory) does exits ss are = absurd (no-memory status err exits fits)
  verified-status once spots some (Err NotUnderstood) does exits ss are = absurd does

  played-status : PlayEndsOnce → (corners : List Corner) (level : Option ℕ) (regions : List ℕ) → 0 < length corners → (outcome : Outcome) → PlaysBy R corners level regions sources out outcome → ExitsWith outcome status err
      → WhereAllTold R sources (λ files. IsZeroWhere (IsPlayable corners level regions files) status)
  played-status once corners level regions some (Ok v) does exits files are = let is = does.2 files are in is-done (IsPlayable corners level regions files) status (is.0, is.1) exits.0
  played-status once corners level regions some (Err (Refused r place)) does exits files are =
      let is = does.3 files are in
      is-refused (IsPlayable corners level regions files) status (play-not once corners level regions files is.0 (Refused r place) some is.2) (refused_1 r place status err exits fits)
  played-status once corners level regions some (Err (ReadFault k)) does exits files are = absurd (read k does.0 does.1)
  played-status once corners level regions some (Err WriteFault) does exits files are = absurd (write does.2)
  played-status once corners level regions some (Err NoMemory) does exits files are = absurd (no-memory status err exits fits)
  played-status once corners level regions some (Err NotUnderstood) does exits files are = absurd does
  played-status once corners level regions some (Err (Mismatched x y)) does exits files are = absurd does

-- ---- no sources

module _ {K E : Type 0} (out : Change K) (status : ℕ) (err : Change E) (write : ¬ HasFault out) (fits : status ≢ 4) where
  written-status : (text : List ℕ) (outcome : Outcome) → Writes text out outcome → ExitsWith outcome status err → status ≡ 0
  written-status text (Ok v) writes exits = exits.0
  written-status text (Err WriteFault) writes exits = absurd (write writes.failed)
  written-status text (Err NotUnderstood) writes exits = absurd writes
  written-status text (Err (Mismatched x y)) writes exits = absurd writes
  written-status text (Err (Refused refusal place)) writes exits = absurd writes
  written-status text (Err (ReadFault k)) writes exits = absurd writes
  written-status text (Err NoMemory) writes exits = absurd writes

  explained-status : (text : Option (List ℕ)) (outcome : Outcome) → IsSomeAnd text (λ t. Writes t out outcome) → ExitsWith outcome status err → status ≡ 0
  explained-status None outcome tells exits = absurd tells
  explained-status (Some text) outcome tells exits = written-status text outcome tells exits

  trial-status : (outcome : Outcome) → EndsTrial out outcome → ExitsWith outcome status err → status ≡ 0
  trial-status (Ok v) does exits = exits.0
  trial-status (Err WriteFault) does exits = absurd (write does)
  trial-status (Err NoMemory) does exits = absurd (no-memory status err exits fits)
  trial-status (Err NotUnderstood) does exits = absurd does
  trial-status (Err (Refused refusal place)) does exits = absurd does
  trial-status (Err (Mismatched x y)) does exits = absurd does
  trial-status (Err (ReadFault k)) does exits = absurd does

-- ---- the status of each command

same_count : (placings : List Placing) → length (corners_of placings) ≡ length placings
same_count placings = length-map placings corner_of

many_regions : (placings : List Placing) → length (file_regions placings) ≡ length placings
many_regions placings = length-map (corners_of placings) (region_at_corner (region_corners placings)) ∙ length-map placings corner_of

at-most : (most n : ℕ) → ¬ (most < n) → n ≤ most
at-most most n few = elim (cases_lt most n) [ inl many ↦ absurd (few many) | inr fits ↦ fits ]

module _ {A K E : Type 0} (merge_once : EndsOnce) (play_once : PlayEndsOnce) (verify_once : VerifyEndsOnce) (words : List (List ℕ)) (sources : Sources A) (out : Change K) (status : ℕ) (err : Change E)
    (runs : Runs words sources out status err) (names : NamesFiles words (length sources.old)) where
  -- what it comes to, faults and want of memory aside
  pub status_exact : (command : Command) → AskFor words command → ¬ PlacesTooMany command → HaveNoFault sources out → status ≢ 4 → HasStatus command sources status
  status_exact (show fields inputs file) asks few fine fits = λ R of.
      let first = fine.reads 0 (names-file words (length sources.old) names (show fields inputs file) asks (omega arith)) in
      shown-status R (source_at sources 0) out status err first fine.writes fits (teller fields inputs R of) runs.0 ((runs.1.command (show fields inputs file) asks).1 R of) runs.2
  status_exact (extract tid level index file) asks few fine fits = λ R of.
      let first = fine.reads 0 (names-file words (length sources.old) names (extract tid level index file) asks (omega arith)) in
      extracted-status R (source_at sources 0) out status err first fine.writes fits (task_of tid level index) runs.0 ((runs.1.command (extract tid level index file) asks).1 R of) runs.2
  status_exact (check_extract tid index file) asks few fine fits = λ R of.
      let first = fine.reads 0 (names-file words (length sources.old) names (check_extract tid index file) asks (omega arith)) in
      checked-status R (source_at sources 0) out status err first fine.writes fits (task_of tid None index) runs.0 ((runs.1.command (check_extract tid index file) asks).1 R of) runs.2
  status_exact (merge level placings) asks few fine fits = λ R of.
      let some = merge_some words (length sources.old) (merge level placings) placings refl names asks asks.named.1 in
      let within = at-most most_sources (length placings) few in
      merged-status R sources out status err fine.reads fine.writes fits merge_once (corners_of placings) some level runs.0 ((runs.1.command (merge level placings) asks).few (omega (arith, within, same_count placings)) R of) runs.2
  status_exact (check_merge placings) asks few fine fits = λ R of.
      let some = merge_some words (length sources.old) (check_merge placings) placings refl names asks asks.named.0 in
      let within = at-most most_sources (length placings) few in
      merged-checked R sources out status err fine.reads fine.writes fits merge_once (corners_of placings) some runs.0 ((runs.1.command (check_merge placings) asks).few (omega (arith, within, same_count placings)) R of) runs.2
  status_exact (verify finished placings) asks few fine fits = λ R of.
      let some : 0 < length sources.old = omega (arith, verify_files_count words (length sources.old) finished placings names asks) in
      let within = at-most most_sources (length placings) few in
      verified-status R sources out status err fine.reads fine.writes fits verify_once (spots_of placings) some runs.0 ((runs.1.command (verify finished placings) asks).few (omega (arith, within, length-map placings spot_of)) R of) runs.2
  status_exact (play level placings) asks few fine fits = λ R of.
      let regions = at-most most_sources (length (region_corners placings)) (λ many. few (inl many)) in
      let files = at-most most_files (length placings) (λ many. few (inr many)) in
      played-status R sources out status err fine.reads fine.writes fits play_once (region_corners placings) level (file_regions placings) (some_regions placings asks.named.1) runs.0
      ((runs.1.command (play level placings) asks).few regions (omega (arith, files, many_regions placings)) R of) runs.2
  status_exact (trial seed n k) asks few fine fits = trial-status out status err fine.writes fits runs.0 (runs.1.command (trial seed n k) asks).1.ends runs.2
  status_exact help asks few fine fits = written-status out status err fine.writes fits help_text runs.0 (runs.1.command help asks).1 runs.2
  status_exact version asks few fine fits = written-status out status err fine.writes fits version_text runs.0 (runs.1.command version asks).1 runs.2
  status_exact (explain word) asks few fine fits = explained-status out status err fine.writes fits (explanation word) runs.0 (runs.1.command (explain word) asks).1 runs.2

-- ---- too many

refused_outcome : {E : Type 0} (outcome : Outcome) (r : Refusal) (place : Place) (status : ℕ) (err : Change E) → outcome ≡ Err (Refused r place) → ExitsWith outcome status err → status ≢ 4 → status ≡ 1
refused_outcome outcome r place status err is exits fits = refused_1 r place status err (subst (λ (o : Outcome). ExitsWith o status err) is exits) fits

-- where there are too many regions or files, it isn't done
limit_of : {A K : Type 0} (words : List (List ℕ)) (sources : Sources A) (out : Change K) (level : Option ℕ) (placings : List Placing) → AskFor words (play level placings) → (outcome : Outcome) → Performs words sources out outcome
    → PlacesTooMany (play level placings) → (outcome ≡ too_many) ⊎ (outcome ≡ too_many_files) ⊎ (outcome ≡ Err NoMemory)
limit_of words sources out level placings asks outcome performs over =
    let does = performs.command (play level placings) asks in
    elim (cases_lt most_sources (length (region_corners placings))) [
      | inl many ↦ elim (does.many many).0 [ inl is ↦ inl is | inr is ↦ inr (inr is) ]
      | inr fits ↦ elim over [
        | inl many ↦ absurd (omega (arith, fits, many))
        | inr many ↦ elim (does.files fits (omega (arith, many, many_regions placings))).0 [ inl is ↦ inr (inl is) | inr is ↦ inr (inr is) ]
      ]
    ]

module _ {A K E : Type 0} (words : List (List ℕ)) (sources : Sources A) (out : Change K) (status : ℕ) (err : Change E) (runs : Runs words sources out status err) where
  sources_1 : runs.0 ≡ too_many → status ≢ 4 → status ≡ 1
  sources_1 is fits = refused_outcome runs.0 (Limit TOO_MANY_SOURCES) places.Words status err is runs.2 fits

  -- that is refused
  pub too_many_refused : (command : Command) → AskFor words command → PlacesTooMany command → status ≢ 4 → status ≡ 1
  too_many_refused (merge level placings) asks many fits = sources_1 ((runs.1.command (merge level placings) asks).many (omega (arith, many, same_count placings))).0 fits
  too_many_refused (check_merge placings) asks many fits = sources_1 ((runs.1.command (check_merge placings) asks).many (omega (arith, many, same_count placings))).0 fits
  too_many_refused (verify finished placings) asks many fits = sources_1 ((runs.1.command (verify finished placings) asks).many (omega (arith, many, length-map placings spot_of))).0 fits
  too_many_refused (play level placings) asks many fits = elim (limit_of words sources out level placings asks runs.0 runs.1 many) [
    | inl is ↦ sources_1 is fits
    | inr other ↦ elim other [
      | inl is ↦ refused_outcome runs.0 (Limit TOO_MANY_FILES) places.Words status err is runs.2 fits
      | inr is ↦ absurd (no-memory status err (subst (λ (o : Outcome). ExitsWith o status err) is runs.2) fits)
    ]
  ]
  too_many_refused (show fields inputs file) asks many fits = absurd many
  too_many_refused (extract tid level index file) asks many fits = absurd many
  too_many_refused (check_extract tid index file) asks many fits = absurd many
  too_many_refused (trial seed n k) asks many fits = absurd many
  too_many_refused help asks many fits = absurd many
  too_many_refused version asks many fits = absurd many
  too_many_refused (explain word) asks many fits = absurd many

-- ---- status 2

writes_of_command : {K : Type 0} (text : List ℕ) (out : Change K) (stop : Stop) → Writes text out (Err stop) → IsOfCommand stop
writes_of_command text out NotUnderstood writes = writes
writes_of_command text out (Mismatched x y) writes = tt
writes_of_command text out (Refused refusal place) writes = tt
writes_of_command text out (ReadFault k) writes = tt
writes_of_command text out WriteFault writes = tt
writes_of_command text out NoMemory writes = tt

told_of_command : {K : Type 0} (text : Option (List ℕ)) (out : Change K) (stop : Stop) → IsSomeAnd text (λ t. Writes t out (Err stop)) → IsOfCommand stop
told_of_command None out stop tells = absurd tells
told_of_command (Some text) out stop tells = writes_of_command text out stop tells

trial_of_command : {K : Type 0} (out : Change K) (stop : Stop) → EndsTrial out (Err stop) → IsOfCommand stop
trial_of_command out NotUnderstood ends = ends
trial_of_command out (Mismatched x y) ends = tt
trial_of_command out (Refused refusal place) ends = tt
trial_of_command out (ReadFault k) ends = tt
trial_of_command out WriteFault ends = tt
trial_of_command out NoMemory ends = tt

does_of_command : {A K : Type 0} (command : Command) (sources : Sources A) (out : Change K) (stop : Stop) → Does command sources out (Err stop) → IsOfCommand stop
does_of_command (show fields inputs file) sources out stop does = does.0
does_of_command (extract tid level index file) sources out stop does = does.0
does_of_command (check_extract tid index file) sources out stop does = does.0
does_of_command (merge level placings) sources out stop does = does.stop
does_of_command (play level placings) sources out stop does = does.stop
does_of_command (check_merge placings) sources out stop does = does.stop
does_of_command (verify finished placings) sources out stop does = does.stop
does_of_command (trial seed n k) sources out stop does = trial_of_command out stop does.1.ends
does_of_command help sources out stop does = writes_of_command help_text out stop does.1
does_of_command version sources out stop does = writes_of_command version_text out stop does.1
does_of_command (explain word) sources out stop does = told_of_command (explanation word) out stop does.1

pub not_two : {E : Type 0} (err : Change E) (stop : Stop) (status : ℕ) → IsOfCommand stop → Concludes stop status err → status ≡ 2 → ⊥
not_two err NotUnderstood status of ends two = of
not_two err (Refused refusal place) status of ends two = elim ends.ended [ inl p ↦ omega (arith, p.0, two) | inr p ↦ omega (arith, p.1, two) ]
not_two err (Mismatched x y) status of ends two = elim ends.ended [ inl p ↦ omega (arith, p.0, two) | inr p ↦ omega (arith, p.1, two) ]
not_two err (ReadFault k) status of ends two = elim ends.ended [ inl p ↦ omega (arith, p.0, two) | inr p ↦ omega (arith, p.1, two) ]
not_two err WriteFault status of ends two = elim ends.ended [ inl p ↦ omega (arith, p.0, two) | inr p ↦ omega (arith, p.1, two) ]
not_two err NoMemory status of ends two = elim ends.ended [ inl p ↦ omega (arith, p.0, two) | inr p ↦ omega (arith, p.1, two) ]

is_two : {E : Type 0} (err : Change E) (stop : Stop) (status : ℕ) → stop ≡ NotUnderstood → Concludes stop status err → status ≡ 2
is_two err stop status is ends = elim ends.ended [ inl p ↦ p.0 ∙ ap status_of is | inr p ↦ absurd (subst IsMade is p.0) ]

-- whether the words were understood
understood : {A K E : Type 0} (words : List (List ℕ)) (sources : Sources A) (out : Change K) (status : ℕ) (err : Change E) (outcome : Outcome) → Performs words sources out outcome → ExitsWith outcome status err
    → (status ≡ 2 → IsUnderstood words → ⊥) × (¬ IsUnderstood words → status ≡ 2)
understood words sources out status err (Ok v) performs exits = (
  λ two asked. omega (arith, exits.0, two),
  λ none. let told = (performs.other none).0 in absurd (cc),
)
understood words sources out status err (Err stop) performs exits = (
  λ two asked. not_two err stop status (does_of_command asked.0 sources out stop (performs.command asked.0 asked.1)) exits two,
  λ none. let same : stop ≡ NotUnderstood = let told = (performs.other none).0 in cc in is_two err stop status same exits,
)

pub status_2_exact : {A K E : Type 0} (words : List (List ℕ)) (sources : Sources A) (out : Change K) (status : ℕ) (err : Change E) → Runs words sources out status err → (status ≡ 2) ↔ ¬ IsUnderstood words
status_2_exact words sources out status err runs = understood words sources out status err runs.0 runs.1 runs.2
