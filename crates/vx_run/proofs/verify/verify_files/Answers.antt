use Rattle.std.proofs.Common.{◌≡◌, ◌∙◌, List, ℕ, Ok, Err, length, map, ap, subst, arith}
use Rattle.std.proofs.lemmas.Result.{err_from_is_err_and}
use Rattle.vx_verify.specs.declared.spot.Spot.{Spot}
use Rattle.vx_run.specs.Change.{change, sources_change, Gains, GainsFront}
use Rattle.vx_run.specs.Grammar.{texts}
use Rattle.vx_run.specs.Verify.{spot_of, spots_of}
use Rattle.vx_run.specs.inner.Placings.{placing_in}
use Rattle.vx_run.proofs.Corners.{many_placed}
use Rattle.vx_run.proofs.Verifying.{verifies_same, verify_unread, verified_not, verified_unmade, verified_done, verified_cut}
use Rattle.vx_run.proofs.verify.verify_files.Goals as goal

pub verify_rounds-requires-clause-few : goal.verify_rounds-requires-clause-few
verify_rounds-requires-clause-few g c =
    let same : c.deref.result.now ≡ spots_of (map placing_in (texts c.args.placings.words.now)) = c.deref.ensures.value ∙ c.in_ok-spots.ensures in
    omega (arith, c.requires.few, many_placed spot_of c.args.placings.words.now, ap (λ (l : List Spot). length l) same)

pub verify_rounds-requires-clause-count : goal.verify_rounds-requires-clause-count
verify_rounds-requires-clause-count g c =
    let same : c.deref.result.now ≡ spots_of (map placing_in (texts c.args.placings.words.now)) = c.deref.ensures.value ∙ c.in_ok-spots.ensures in
    omega (arith, c.requires.count, many_placed spot_of c.args.placings.words.now, ap (λ (l : List Spot). length l) same)

-- no memory for the places
pub returns-in_err-spots-clause-verifies : goal.returns-in_err-spots-clause-verifies
returns-in_err-spots-clause-verifies g c R of =
    let p = err_from_is_err_and c.from_residual.result c.from_residual.ensures.1 in
    rw (p.1, p.2) (verify_unread _ _ g.K.Sink.bytes_taken g.K.Sink.write_faults R c.args.sources.now.items c.args.out.now (spots_of (map placing_in (texts c.args.placings.words.now))))

-- not all rounds are verified
pub returns-in_err-rounds-clause-verifies : goal.returns-in_err-rounds-clause-verifies
returns-in_err-rounds-clause-verifies g c R of =
    let p = err_from_is_err_and c.from_residual-in_err-rounds.result c.from_residual-in_err-rounds.ensures.1 in
    let same : c.deref.result.now ≡ spots_of (map placing_in (texts c.args.placings.words.now)) = c.deref.ensures.value ∙ c.in_ok-spots.ensures in
    let sources = sources_change (λ s. (goal.Source-dyn g (s.vtable, s.value)).bytes_left s.value) (λ s. (goal.Source-dyn g (s.vtable, s.value)).read_faults s.value) c.args.sources.now.items c.verify_rounds.new.sources.items in
    rw (p.1, p.2) (verified_not R _ sources g.K.Sink.bytes_taken g.K.Sink.write_faults c.args.out.now c.in_err-rounds.field-0.0 (verifies_same R _ _ sources (Err c.in_err-rounds.field-0.0) same (c.in_err-rounds.ensures.verifies R of)))

-- no memory for the line
pub returns-in_err-line-clause-verifies : goal.returns-in_err-line-clause-verifies
returns-in_err-line-clause-verifies g c R of =
    let p = err_from_is_err_and c.from_residual-in_err-line.result c.from_residual-in_err-line.ensures.1 in
    let same : c.deref.result.now ≡ spots_of (map placing_in (texts c.args.placings.words.now)) = c.deref.ensures.value ∙ c.in_ok-spots.ensures in
    let sources = sources_change (λ s. (goal.Source-dyn g (s.vtable, s.value)).bytes_left s.value) (λ s. (goal.Source-dyn g (s.vtable, s.value)).read_faults s.value) c.args.sources.now.items c.verify_rounds.new.sources.items in
    rw (p.1, p.2) (verified_unmade R _ sources g.K.Sink.bytes_taken g.K.Sink.write_faults c.args.out.now c.in_ok-rounds.rounds (verifies_same R _ _ sources (Ok c.in_ok-rounds.rounds) same (c.in_ok-rounds.ensures.verifies R of)))

-- a write of it failed
pub returns-in_err-write_all-clause-verifies : goal.returns-in_err-write_all-clause-verifies
returns-in_err-write_all-clause-verifies g c R of =
    let p = err_from_is_err_and c.from_residual-in_err-write_all.result c.from_residual-in_err-write_all.ensures.1 in
    let same : c.deref.result.now ≡ spots_of (map placing_in (texts c.args.placings.words.now)) = c.deref.ensures.value ∙ c.in_ok-spots.ensures in
    let sources = sources_change (λ s. (goal.Source-dyn g (s.vtable, s.value)).bytes_left s.value) (λ s. (goal.Source-dyn g (s.vtable, s.value)).read_faults s.value) c.args.sources.now.items c.verify_rounds.new.sources.items in
    let out = change g.K.Sink.bytes_taken g.K.Sink.write_faults c.args.out.now c.write_all.new.out in
    let front = subst (λ (l : List ℕ). GainsFront out l) (c.deref-2.ensures.value ∙ c.in_ok-line.ensures) (record { failed = c.in_err-write_all.ensures.faults; gained = c.in_err-write_all.ensures.err }) in
    rw (p.1, p.2) (verified_cut R _ sources g.K.Sink.bytes_taken g.K.Sink.write_faults c.args.out.now c.in_ok-rounds.rounds (verifies_same R _ _ sources (Ok c.in_ok-rounds.rounds) same (c.in_ok-rounds.ensures.verifies R of)) c.write_all.new.out front)

pub returns-clause-verifies : goal.returns-clause-verifies
returns-clause-verifies g c R of =
    let same : c.deref.result.now ≡ spots_of (map placing_in (texts c.args.placings.words.now)) = c.deref.ensures.value ∙ c.in_ok-spots.ensures in
    let sources = sources_change (λ s. (goal.Source-dyn g (s.vtable, s.value)).bytes_left s.value) (λ s. (goal.Source-dyn g (s.vtable, s.value)).read_faults s.value) c.args.sources.now.items c.verify_rounds.new.sources.items in
    let out = change g.K.Sink.bytes_taken g.K.Sink.write_faults c.args.out.now c.write_all.new.out in
    let gained = subst (λ (l : List ℕ). Gains out l) (c.deref-2.ensures.value ∙ c.in_ok-line.ensures) (record { kept = c.in_ok-write_all.ensures.faults; gained = c.in_ok-write_all.ensures.ok }) in
    verified_done R _ sources g.K.Sink.bytes_taken g.K.Sink.write_faults c.args.out.now c.in_ok-rounds.rounds (verifies_same R _ _ sources (Ok c.in_ok-rounds.rounds) same (c.in_ok-rounds.ensures.verifies R of)) c.write_all.new.out gained
