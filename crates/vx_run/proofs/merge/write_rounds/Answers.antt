use Rattle.std.proofs.Common.{◌≡◌, List, ◌∙◌, Ok, Err, length, map, sym, ap, subst, arith}
use Rattle.std.proofs.lemmas.Result.{err_from_is_err_and}
use Rattle.vx_frame.specs.declared.corner.Corner.{Corner}
use Rattle.vx_frame.specs.Corners.{AreCorners}
use Rattle.vx_run.specs.declared.merge.Work.TheVariants.{Write}
use Rattle.vx_run.specs.declared.stop.Stop.TheVariants.{NoMemory}
use Rattle.vx_run.specs.Change.{change, sources_change}
use Rattle.vx_run.specs.Grammar.{texts}
use Rattle.vx_run.specs.Merge.{corners_of}
use Rattle.vx_run.specs.inner.Placings.{placing_in}
use Rattle.vx_run.proofs.Corners.{are_corners, many_corners}
use Rattle.vx_run.proofs.MergeAgain.{merged}
use Rattle.vx_run.proofs.Working.{takes_same, work_unmade}
use Rattle.vx_run.proofs.PlacingWords.{words_of_parts}
use Rattle.vx_run.proofs.merge.write_rounds.Goals as goal

pub take_rounds-requires-clause-corners : goal.take_rounds-requires-clause-corners
take_rounds-requires-clause-corners g c =
    let same : c.deref.result.now ≡ corners_of (map placing_in (texts c.args.placings.words.now)) = c.deref.ensures.value ∙ c.in_ok-corners.ensures in
    subst AreCorners (sym same) (are_corners c.args.placings.words.now (words_of_parts (texts c.args.placings.words.now) c.args.placings.each) c.args.placings.some c.requires.few)

pub take_rounds-requires-clause-count : goal.take_rounds-requires-clause-count
take_rounds-requires-clause-count g c =
    let same : c.deref.result.now ≡ corners_of (map placing_in (texts c.args.placings.words.now)) = c.deref.ensures.value ∙ c.in_ok-corners.ensures in
    omega (arith, c.requires.count, many_corners c.args.placings.words.now, ap (λ (l : List Corner). length l) same)

-- no memory for the corners
pub returns-in_err-corners-clause-merges : goal.returns-in_err-corners-clause-merges
returns-in_err-corners-clause-merges g c R of =
    let p = err_from_is_err_and c.from_residual.result c.from_residual.ensures.1 in
    let sources = sources_change (λ s. (goal.Source-dyn g (s.vtable, s.value)).bytes_left s.value) (λ s. (goal.Source-dyn g (s.vtable, s.value)).read_faults s.value) c.args.sources.now.items c.args.sources.now.items in
    let out = change g.K.Sink.bytes_taken g.K.Sink.write_faults c.args.out.now c.args.out.now in
    let unmade = work_unmade (λ s. (goal.Source-dyn g (s.vtable, s.value)).bytes_left s.value) (λ s. (goal.Source-dyn g (s.vtable, s.value)).read_faults s.value) g.K.Sink.bytes_taken g.K.Sink.write_faults R c.args.sources.now.items c.args.out.now (corners_of (map placing_in (texts c.args.placings.words.now))) c.args.level Write in
    rw (p.1, p.2) (merged c.merges_read_again.ensures R of c.args.placings.words.now (words_of_parts (texts c.args.placings.words.now) c.args.placings.each) c.args.placings.some c.requires.few sources (omega (arith, c.requires.count)) out c.args.level (Err NoMemory) unmade)

-- not all rounds were written
pub returns-in_err-take_rounds-clause-merges : goal.returns-in_err-take_rounds-clause-merges
returns-in_err-take_rounds-clause-merges g c R of =
    let p = err_from_is_err_and c.from_residual-in_err-take_rounds.result c.from_residual-in_err-take_rounds.ensures.1 in
    let same : c.deref.result.now ≡ corners_of (map placing_in (texts c.args.placings.words.now)) = c.deref.ensures.value ∙ c.in_ok-corners.ensures in
    let sources = sources_change (λ s. (goal.Source-dyn g (s.vtable, s.value)).bytes_left s.value) (λ s. (goal.Source-dyn g (s.vtable, s.value)).read_faults s.value) c.args.sources.now.items c.take_rounds.new.sources.items in
    let out = change g.K.Sink.bytes_taken g.K.Sink.write_faults c.args.out.now c.take_rounds.new.out in
    let takes = takes_same R Write _ _ c.args.level sources out (Err c.in_err-take_rounds.field-0.0) same (c.in_err-take_rounds.ensures.takes R of) in
    rw (p.1, p.2) (merged c.merges_read_again.ensures R of c.args.placings.words.now (words_of_parts (texts c.args.placings.words.now) c.args.placings.each) c.args.placings.some c.requires.few sources (omega (arith, c.requires.count)) out c.args.level (Err c.in_err-take_rounds.field-0.0) takes)

pub returns-clause-merges : goal.returns-clause-merges
returns-clause-merges g c R of =
    let same : c.deref.result.now ≡ corners_of (map placing_in (texts c.args.placings.words.now)) = c.deref.ensures.value ∙ c.in_ok-corners.ensures in
    let sources = sources_change (λ s. (goal.Source-dyn g (s.vtable, s.value)).bytes_left s.value) (λ s. (goal.Source-dyn g (s.vtable, s.value)).read_faults s.value) c.args.sources.now.items c.take_rounds.new.sources.items in
    let out = change g.K.Sink.bytes_taken g.K.Sink.write_faults c.args.out.now c.take_rounds.new.out in
    let takes = takes_same R Write _ _ c.args.level sources out (Ok c.in_ok-take_rounds.field-0) same (c.in_ok-take_rounds.ensures.takes R of) in
    merged c.merges_read_again.ensures R of c.args.placings.words.now (words_of_parts (texts c.args.placings.words.now) c.args.placings.each) c.args.placings.some c.requires.few sources (omega (arith, c.requires.count)) out c.args.level (Ok c.in_ok-take_rounds.field-0) takes
