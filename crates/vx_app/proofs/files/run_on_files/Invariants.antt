use Rattle.std.proofs.Common.{◌≡◌, ◌+◌, vec_len}
use Rattle.vx_app.proofs.files.run_on_files.Given as goal

-- one source for each file so far
abbrev pub invariant-loop-file : goal.invariant-loop-file
invariant-loop-file g l = vec_len l.sources + l.file-iterator.rest.len ≡ l.initial.file-iterator.rest.len
