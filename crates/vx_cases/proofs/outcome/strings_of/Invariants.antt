use Rattle.std.proofs.Common.{◌≡◌, map, take}
use Rattle.vx_run.specs.Grammar.{texts}
use Rattle.vx_cases.proofs.outcome.strings_of.Given as goal

-- the strings so far are the words so far
abbrev pub invariant-loop-word : goal.invariant-loop-word
invariant-loop-word l = texts l.strings.items ≡ map (λ word. word.now) (take l.word-index l.words)
