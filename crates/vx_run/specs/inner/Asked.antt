-- The command that the program has read from its arguments. Our own.
use Rattle.vx_run.specs.declared.words.Command.{Command}
use Rattle.vx_run.specs.declared.words.Command.TheVariants.{Show, Extract, CheckExtract, Merge, Play, CheckMerge, Verify, Trial, Help, Version, Explain}
use Rattle.vx_run.specs.Grammar as grammar
use Rattle.vx_run.specs.inner.Placings.{spelled}

abbrev pub asked : Command → grammar.Command
asked (Show fields inputs file) = grammar.show fields inputs file.now
asked (Extract tid level index file) = grammar.extract tid level index file.now
asked (CheckExtract tid index file) = grammar.check_extract tid index file.now
asked (Merge level placings) = grammar.merge level (spelled placings.words.now)
asked (Play level placings) = grammar.play level (spelled placings.words.now)
asked (CheckMerge placings) = grammar.check_merge (spelled placings.words.now)
asked (Verify finished placings) = grammar.verify finished.now (spelled placings.words.now)
asked (Trial seed sources pictures) = grammar.trial seed sources pictures
asked Help = grammar.help
asked Version = grammar.version
asked (Explain word) = grammar.explain word.now
