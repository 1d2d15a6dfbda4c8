use Rattle.std.proofs.Common.{◌≡◌, map}
use Rattle.vx_run.specs.Grammar.{texts}
use Rattle.vx_c.proofs.memory.words_in.Given as goal

-- the words so far are the parts so far
abbrev pub invariant-loop-word : goal.invariant-loop-word
invariant-loop-word l = texts l.words.items ≡ map (λ word. word.now) l.yielded
