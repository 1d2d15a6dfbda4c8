use Rattle.std.proofs.Common.{◌∙◌, sym}
use Rattle.vx_run.proofs.PlacingWords.{no_bytes, some_bytes, lacks_equals, lacks_comma, lacks_x, lacks_y, lacks_file, spells_so}
use Rattle.vx_run.proofs.placings.placing_of.Goals as goal

pub returns-in_err-corner : goal.returns-in_err-corner
returns-in_err-corner c = rw c.from_residual.ensures (lacks_equals c.args.word.now c.split_once.result c.split_once.ensures.cases c.in_err-corner.was)

pub returns-in_err-x : goal.returns-in_err-x
returns-in_err-x c =
    rw c.from_residual-in_err-x.ensures
    (lacks_comma c.args.word.now c.split_once.result c.in_ok-corner.corner c.in_ok-corner.file c.split_once.ensures.cases c.in_ok-corner.was c.split_once-2.result c.split_once-2.ensures.cases c.in_err-x.was)

pub returns-in_err-x-2 : goal.returns-in_err-x-2
returns-in_err-x-2 c =
    rw c.from_residual-in_err-x-2.ensures
    (lacks_x c.args.word.now c.split_once.result c.in_ok-corner.corner c.in_ok-corner.file c.split_once.ensures.cases c.in_ok-corner.was c.split_once-2.result c.split_once-2.ensures.cases c.in_ok-x.x c.in_ok-x.y c.in_ok-x.was c.in_err-x-2.ensures)

pub returns-in_err-y : goal.returns-in_err-y
returns-in_err-y c =
    rw c.from_residual-in_err-y.ensures
    (lacks_y c.args.word.now c.split_once.result c.in_ok-corner.corner c.in_ok-corner.file c.split_once.ensures.cases c.in_ok-corner.was c.split_once-2.result c.split_once-2.ensures.cases c.in_ok-x.x c.in_ok-x.y c.in_ok-x.was c.in_err-y.ensures)

pub returns-then-is_empty : goal.returns-then-is_empty
returns-then-is_empty c = lacks_file c.args.word.now c.split_once.result c.in_ok-corner.corner c.in_ok-corner.file c.split_once.ensures.cases c.in_ok-corner.was (no_bytes c.in_ok-corner.file.now (sym c.is_empty.ensures ∙ c.if-is_empty.true))

pub returns : goal.returns
returns c =
    spells_so c.args.word.now c.split_once.result c.in_ok-corner.corner c.in_ok-corner.file c.split_once.ensures.cases c.in_ok-corner.was c.split_once-2.result c.split_once-2.ensures.cases c.in_ok-x.x c.in_ok-x.y c.in_ok-x.was
    c.in_ok-x-2.x c.in_ok-y.y c.in_ok-x-2.ensures c.in_ok-y.ensures (some_bytes c.in_ok-corner.file.now (sym c.is_empty.ensures ∙ c.if-is_empty.false))
