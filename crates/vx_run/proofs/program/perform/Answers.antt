use Rattle.std.proofs.Common.{◌<◌, length, map, arith, refl}
use Rattle.vx_run.specs.Grammar.{show, extract, check_extract, merge, play, check_merge, verify, trial, help, version, explain, texts}
use Rattle.vx_run.specs.inner.Placings.{placing_in}
use Rattle.vx_run.proofs.Performing.{names-file, performs, performs-show, performs-extract, performs-check, merge_count, verify_count}
use Rattle.vx_run.proofs.program.perform.Goals as goal

pub returns-in-Some-Show-clause-performs : goal.returns-in-Some-Show-clause-performs
returns-in-Some-Show-clause-performs g c =
    let spelled = rw c.in-Some-Show.field-0-is at c.in-Some-Show.ensures.some in
    let named = names-file _ _ c.requires (show _ _ _) spelled (omega arith) in
    let within : 0 < length c.args.sources.now.items = omega arith in
    performs-show _ _ _ c.index_mut.result.now c.show.new.source c.args.sources.now.items _ c.show.result _ _ _ spelled within c.index_mut.ensures.value (c.show.ensures.stop, c.show.ensures.shows)

pub returns-in-Some-Help-clause-performs : goal.returns-in-Some-Help-clause-performs
returns-in-Some-Help-clause-performs g c =
    performs _ _ _ _ help (rw c.in-Some-Help.field-0-is at c.in-Some-Help.ensures.some) (refl, rw c.help.ensures at c.write_text.ensures.writes)

pub returns-in-Some-Version-clause-performs : goal.returns-in-Some-Version-clause-performs
returns-in-Some-Version-clause-performs g c =
    performs _ _ _ _ version (rw c.in-Some-Version.field-0-is at c.in-Some-Version.ensures.some) (refl, rw c.version.ensures at c.write_text-in-Some-Version.ensures.writes)

pub trial-requires : goal.trial-requires
trial-requires g c = (rw c.in-Some-Trial.field-0-is at c.in-Some-Trial.ensures.some).named

pub returns-in-Some-Trial-clause-performs : goal.returns-in-Some-Trial-clause-performs
returns-in-Some-Trial-clause-performs g c =
    performs _ _ _ _ (trial c.in-Some-Trial.seed c.in-Some-Trial.sources c.in-Some-Trial.pictures) (rw c.in-Some-Trial.field-0-is at c.in-Some-Trial.ensures.some) (refl, c.trial.ensures.trials)

pub explain-requires : goal.explain-requires
explain-requires g c = (rw c.in-Some-Explain.field-0-is at c.in-Some-Explain.ensures.some).named

pub returns-in-Some-Explain-clause-performs : goal.returns-in-Some-Explain-clause-performs
returns-in-Some-Explain-clause-performs g c =
    performs _ _ _ _ (explain c.in-Some-Explain.word.now) (rw c.in-Some-Explain.field-0-is at c.in-Some-Explain.ensures.some) (refl, c.explain.ensures.writes)

pub returns-in-Some-Extract-clause-performs : goal.returns-in-Some-Extract-clause-performs
returns-in-Some-Extract-clause-performs g c =
    let spelled = rw c.in-Some-Extract.field-0-is at c.in-Some-Extract.ensures.some in
    let named = names-file _ _ c.requires (extract _ _ _ _) spelled (omega arith) in
    let within : 0 < length c.args.sources.now.items = omega arith in
    performs-extract _ _ _ c.index_mut-in-Some-Extract.result.now c.extract.new.source c.args.sources.now.items _ c.extract.result _ _ _ _ spelled within c.index_mut-in-Some-Extract.ensures.value
    (c.extract.ensures.stop, rw c.task_of.ensures.task at c.extract.ensures.extracts)

pub returns-in-Some-CheckExtract-clause-performs : goal.returns-in-Some-CheckExtract-clause-performs
returns-in-Some-CheckExtract-clause-performs g c =
    let spelled = rw c.in-Some-CheckExtract.field-0-is at c.in-Some-CheckExtract.ensures.some in
    let named = names-file _ _ c.requires (check_extract _ _ _) spelled (omega arith) in
    let within : 0 < length c.args.sources.now.items = omega arith in
    performs-check _ _ _ c.index_mut-in-Some-CheckExtract.result.now c.check_extract.new.source c.args.sources.now.items _ c.check_extract.result _ _ _ spelled within c.index_mut-in-Some-CheckExtract.ensures.value
    (c.check_extract.ensures.stop, rw c.task_of-in-Some-CheckExtract.ensures.task at c.check_extract.ensures.checks)

-- ---- merges

pub merge-requires : goal.merge-requires
merge-requires g c =
    let spelled = rw c.in-Some-Merge.field-0-is at c.in-Some-Merge.ensures.some in
    let count = merge_count _ _ (merge c.in-Some-Merge.level (map placing_in (texts c.in-Some-Merge.placings.words.now))) c.in-Some-Merge.placings.words.now refl c.requires spelled spelled.named.1 in
    record { count = count.1 }

pub returns-in-Some-Merge-clause-performs : goal.returns-in-Some-Merge-clause-performs
returns-in-Some-Merge-clause-performs g c =
    performs _ _ _ _ (merge c.in-Some-Merge.level (map placing_in (texts c.in-Some-Merge.placings.words.now))) (rw c.in-Some-Merge.field-0-is at c.in-Some-Merge.ensures.some) c.merge.ensures.merges

pub play-requires : goal.play-requires
play-requires g c =
    let spelled = rw c.in-Some-Play.field-0-is at c.in-Some-Play.ensures.some in
    let count = merge_count _ _ (play c.in-Some-Play.level (map placing_in (texts c.in-Some-Play.placings.words.now))) c.in-Some-Play.placings.words.now refl c.requires spelled spelled.named.1 in
    record { count = count.1 }

pub returns-in-Some-Play-clause-performs : goal.returns-in-Some-Play-clause-performs
returns-in-Some-Play-clause-performs g c =
    performs _ _ _ _ (play c.in-Some-Play.level (map placing_in (texts c.in-Some-Play.placings.words.now))) (rw c.in-Some-Play.field-0-is at c.in-Some-Play.ensures.some) c.play.ensures.plays

pub check_merge-requires : goal.check_merge-requires
check_merge-requires g c =
    let spelled = rw c.in-Some-CheckMerge.field-0-is at c.in-Some-CheckMerge.ensures.some in
    let count = merge_count _ _ (check_merge (map placing_in (texts c.in-Some-CheckMerge.placings.words.now))) c.in-Some-CheckMerge.placings.words.now refl c.requires spelled spelled.named.0 in
    record { count = count.1 }

pub returns-in-Some-CheckMerge-clause-performs : goal.returns-in-Some-CheckMerge-clause-performs
returns-in-Some-CheckMerge-clause-performs g c =
    performs _ _ _ _ (check_merge (map placing_in (texts c.in-Some-CheckMerge.placings.words.now))) (rw c.in-Some-CheckMerge.field-0-is at c.in-Some-CheckMerge.ensures.some) c.check_merge.ensures.checks

-- ---- finished merges

pub verify-requires : goal.verify-requires
verify-requires g c =
    let spelled = rw c.in-Some-Verify.field-0-is at c.in-Some-Verify.ensures.some in
    record { count = verify_count _ _ _ c.in-Some-Verify.placings.words.now c.requires spelled }

pub returns-in-Some-Verify-clause-performs : goal.returns-in-Some-Verify-clause-performs
returns-in-Some-Verify-clause-performs g c =
    performs _ _ _ _ (verify _ (map placing_in (texts c.in-Some-Verify.placings.words.now))) (rw c.in-Some-Verify.field-0-is at c.in-Some-Verify.ensures.some) c.verify.ensures.verifies
