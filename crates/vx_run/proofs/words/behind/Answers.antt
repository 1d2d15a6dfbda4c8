use Rattle.std.proofs.Common.{rules, ◌≡◌, ◌<◌, length, sym, ◌∙◌}
use Rattle.vx_run.proofs.Numbering.{first_text, behind_text}
use Rattle.vx_run.proofs.words.behind.Goals as goal

pub returns-then-ne : goal.returns-then-ne
returns-then-ne c rest is =
    let some : 0 < length c.args.words.now = search rules in
    let same : c.as_str.result.now ≡ c.args.name.now = c.as_str.ensures.value ∙ first_text c.args.words.now c.index-words-0.result c.args.name.now rest some c.index-words-0.is is in
    search rules

pub returns : goal.returns
returns c =
    let some : 0 < length c.args.words.now = search rules in
    let same : c.as_str.result.now ≡ c.args.name.now = search rules in
    behind_text c.args.words.now c.index-words-0.result c.args.name.now some c.index-words-0.is (sym c.as_str.ensures.value ∙ same)
