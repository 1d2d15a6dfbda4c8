use Rattle.std.proofs.Common.{◌≡◌, take, vec_len}
use Rattle.vx_run.specs.Grammar.{Command, AskFor, files_of, texts}
use Rattle.vx_app.specs.Opened.{StandFor}
use Rattle.vx_app.proofs.open.open_all.Given as goal

-- the first files that the words name
abbrev pub invariant-loop-k : goal.invariant-loop-k
invariant-loop-k g l = (vec_len l.files ≡ l.k)
    × ((command : Command) → AskFor (texts l.words) command → StandFor (g.O.Opener.opens l.opener) (take l.k (files_of command)) l.files.items)
