use Rattle.std.proofs.Common.{map}
use Rattle.vx_run.proofs.Spelling.{spelled_once}
use Rattle.vx_run.specs.Grammar.{texts, merge, play, check_merge, verify}
use Rattle.vx_run.specs.inner.Placings.{placing_in}
use Rattle.vx_run.proofs.words.file_word.Goals as goal

pub returns-in-Merge-clause-files : goal.returns-in-Merge-clause-files
returns-in-Merge-clause-files c command asks =
    let spelled = rw c.in-Merge.is at c.in_ok-file.ensures.some in
    rw (spelled_once (texts c.args.words.now) command (merge c.in-Merge.level (map placing_in (texts c.in-Merge.placings.words.now))) asks spelled) c.file.ensures

pub returns-in-Play-clause-files : goal.returns-in-Play-clause-files
returns-in-Play-clause-files c command asks =
    let spelled = rw c.in-Play.is at c.in_ok-file.ensures.some in
    rw (spelled_once (texts c.args.words.now) command (play c.in-Play.level (map placing_in (texts c.in-Play.placings.words.now))) asks spelled) c.file-in-Play.ensures

pub returns-in-CheckMerge-clause-files : goal.returns-in-CheckMerge-clause-files
returns-in-CheckMerge-clause-files c command asks =
    let spelled = rw c.in-CheckMerge.is at c.in_ok-file.ensures.some in
    rw (spelled_once (texts c.args.words.now) command (check_merge (map placing_in (texts c.in-CheckMerge.placings.words.now))) asks spelled) c.file-in-CheckMerge.ensures

pub returns-in-Verify-clause-files : goal.returns-in-Verify-clause-files
returns-in-Verify-clause-files c command asks =
    let spelled = rw c.in-Verify.is at c.in_ok-file.ensures.some in
    rw (spelled_once (texts c.args.words.now) command (verify c.in-Verify.finished.now (map placing_in (texts c.in-Verify.placings.words.now))) asks spelled) c.verified_file.ensures
