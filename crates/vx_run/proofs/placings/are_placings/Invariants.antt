use Rattle.std.proofs.Common.{take}
use Rattle.std.specs.List.{AllByRecursion}
use Rattle.vx_run.specs.Grammar.{texts}
use Rattle.vx_run.specs.inner.Placings.{IsPlacingWord}
use Rattle.vx_run.proofs.placings.are_placings.Given as goal

-- those so far are
abbrev pub invariant-loop-word : goal.invariant-loop-word
invariant-loop-word l = AllByRecursion IsPlacingWord (texts (take l.word-index l.words))
