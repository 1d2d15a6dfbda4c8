use Rattle.std.proofs.Common.{◌≡◌, ℕ, List, ◌∙◌, Ok, Err, None, length, map, sym, ap, subst, arith}
use Rattle.std.proofs.lemmas.Result.{err_from_is_err_and}
use Rattle.vx_frame.specs.declared.corner.Corner.{Corner}
use Rattle.vx_frame.specs.Corners.{AreCorners}
use Rattle.vx_run.specs.declared.merge.Work.TheVariants.{Check}
use Rattle.vx_run.specs.Change.{change, sources_change, Gains, GainsFront}
use Rattle.vx_run.specs.Grammar.{texts}
use Rattle.vx_run.specs.Merge.{corners_of}
use Rattle.vx_run.specs.inner.Placings.{placing_in}
use Rattle.vx_run.proofs.Corners.{are_corners, many_corners}
use Rattle.vx_run.proofs.Working.{takes_same, check_unread, check_stopped, check_unmade, check_done, check_cut}
use Rattle.vx_run.proofs.PlacingWords.{words_of_parts}
use Rattle.vx_run.proofs.merge.check_rounds.Goals as goal

pub take_rounds-requires-clause-corners : goal.take_rounds-requires-clause-corners
take_rounds-requires-clause-corners g c =
    let same : c.deref.result.now ≡ corners_of (map placing_in (texts c.args.placings.words.now)) = c.deref.ensures.value ∙ c.in_ok-corners.ensures in
    subst AreCorners (sym same) (are_corners c.args.placings.words.now (words_of_parts (texts c.args.placings.words.now) c.args.placings.each) c.args.placings.some c.requires.few)

pub take_rounds-requires-clause-count : goal.take_rounds-requires-clause-count
take_rounds-requires-clause-count g c =
    let same : c.deref.result.now ≡ corners_of (map placing_in (texts c.args.placings.words.now)) = c.deref.ensures.value ∙ c.in_ok-corners.ensures in
    omega (arith, c.requires.count, many_corners c.args.placings.words.now, ap (λ (l : List Corner). length l) same)

-- no memory for the corners
pub returns-in_err-corners-clause-checks : goal.returns-in_err-corners-clause-checks
returns-in_err-corners-clause-checks g c R of =
    let p = err_from_is_err_and c.from_residual.result c.from_residual.ensures.1 in
    rw (p.1, p.2) (check_unread _ _ g.K.Sink.bytes_taken g.K.Sink.write_faults R c.args.sources.now.items c.args.out.now (corners_of (map placing_in (texts c.args.placings.words.now))))

-- the rounds don't all pass
pub returns-in_err-rounds-clause-checks : goal.returns-in_err-rounds-clause-checks
returns-in_err-rounds-clause-checks g c R of =
    let p = err_from_is_err_and c.from_residual-in_err-rounds.result c.from_residual-in_err-rounds.ensures.1 in
    let same : c.deref.result.now ≡ corners_of (map placing_in (texts c.args.placings.words.now)) = c.deref.ensures.value ∙ c.in_ok-corners.ensures in
    let sources = sources_change (λ s. (goal.Source-dyn g (s.vtable, s.value)).bytes_left s.value) (λ s. (goal.Source-dyn g (s.vtable, s.value)).read_faults s.value) c.args.sources.now.items c.take_rounds.new.sources.items in
    let out = change g.K.Sink.bytes_taken g.K.Sink.write_faults c.args.out.now c.take_rounds.new.out in
    rw (p.1, p.2) (check_stopped R _ sources out c.in_err-rounds.field-0.0 (takes_same R Check _ _ None sources out (Err c.in_err-rounds.field-0.0) same (c.in_err-rounds.ensures.takes R of)))

-- no memory for the line
pub returns-in_err-line-clause-checks : goal.returns-in_err-line-clause-checks
returns-in_err-line-clause-checks g c R of =
    let p = err_from_is_err_and c.from_residual-in_err-line.result c.from_residual-in_err-line.ensures.1 in
    let same : c.deref.result.now ≡ corners_of (map placing_in (texts c.args.placings.words.now)) = c.deref.ensures.value ∙ c.in_ok-corners.ensures in
    let sources = sources_change (λ s. (goal.Source-dyn g (s.vtable, s.value)).bytes_left s.value) (λ s. (goal.Source-dyn g (s.vtable, s.value)).read_faults s.value) c.args.sources.now.items c.take_rounds.new.sources.items in
    let out = change g.K.Sink.bytes_taken g.K.Sink.write_faults c.args.out.now c.take_rounds.new.out in
    rw (p.1, p.2) (check_unmade R _ sources out c.in_ok-rounds.rounds (takes_same R Check _ _ None sources out (Ok c.in_ok-rounds.rounds) same (c.in_ok-rounds.ensures.takes R of)))

-- a write of it failed
pub returns-in_err-write_all-clause-checks : goal.returns-in_err-write_all-clause-checks
returns-in_err-write_all-clause-checks g c R of =
    let p = err_from_is_err_and c.from_residual-in_err-write_all.result c.from_residual-in_err-write_all.ensures.1 in
    let same : c.deref.result.now ≡ corners_of (map placing_in (texts c.args.placings.words.now)) = c.deref.ensures.value ∙ c.in_ok-corners.ensures in
    let sources = sources_change (λ s. (goal.Source-dyn g (s.vtable, s.value)).bytes_left s.value) (λ s. (goal.Source-dyn g (s.vtable, s.value)).read_faults s.value) c.args.sources.now.items c.take_rounds.new.sources.items in
    let out = change g.K.Sink.bytes_taken g.K.Sink.write_faults c.args.out.now c.take_rounds.new.out in
    let more = change g.K.Sink.bytes_taken g.K.Sink.write_faults c.take_rounds.new.out c.write_all.new.out in
    let front = subst (λ (l : List ℕ). GainsFront more l) (c.deref-2.ensures.value ∙ c.in_ok-line.ensures) (record { failed = c.in_err-write_all.ensures.faults; gained = c.in_err-write_all.ensures.err }) in
    rw (p.1, p.2) (check_cut R _ sources out c.in_ok-rounds.rounds (takes_same R Check _ _ None sources out (Ok c.in_ok-rounds.rounds) same (c.in_ok-rounds.ensures.takes R of)) c.write_all.new.out front)

pub returns-clause-checks : goal.returns-clause-checks
returns-clause-checks g c R of =
    let same : c.deref.result.now ≡ corners_of (map placing_in (texts c.args.placings.words.now)) = c.deref.ensures.value ∙ c.in_ok-corners.ensures in
    let sources = sources_change (λ s. (goal.Source-dyn g (s.vtable, s.value)).bytes_left s.value) (λ s. (goal.Source-dyn g (s.vtable, s.value)).read_faults s.value) c.args.sources.now.items c.take_rounds.new.sources.items in
    let out = change g.K.Sink.bytes_taken g.K.Sink.write_faults c.args.out.now c.take_rounds.new.out in
    let more = change g.K.Sink.bytes_taken g.K.Sink.write_faults c.take_rounds.new.out c.write_all.new.out in
    let gained = subst (λ (l : List ℕ). Gains more l) (c.deref-2.ensures.value ∙ c.in_ok-line.ensures) (record { kept = c.in_ok-write_all.ensures.faults; gained = c.in_ok-write_all.ensures.ok }) in
    check_done R _ sources out c.in_ok-rounds.rounds (takes_same R Check _ _ None sources out (Ok c.in_ok-rounds.rounds) same (c.in_ok-rounds.ensures.takes R of)) c.write_all.new.out gained
