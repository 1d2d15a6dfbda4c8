use Rattle.std.proofs.Common.{◌≡◌, ◌∙◌, true, false, sym}
use Rattle.vx_run.specs.Grammar.{texts}
use Rattle.vx_run.proofs.PlacingWords.{parts_of_words, some_there}
use Rattle.vx_run.proofs.placings.Placings.of.Goals as goal

pub returns-then-not-place_files : goal.returns-then-not-place_files
returns-then-not-place_files c place =
    let is : true ≡ false = sym (c.place_files.ensures.1 place) ∙ c.if-not-place_files.true in
    absurd (cc)

pub invariant_of-result : goal.invariant_of-result
invariant_of-result c =
    let place = c.place_files.ensures.0 c.if-not-place_files.false in
    record { some = some_there c.args.words.now place.0; each = parts_of_words (texts c.args.words.now) place.1 }
