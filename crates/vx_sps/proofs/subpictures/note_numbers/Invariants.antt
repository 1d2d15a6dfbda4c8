use Rattle.std.proofs.Common.{◌≡◌, take}
use Rattle.vx_table.specs.Loaded as loading
use Rattle.vx_sps.proofs.subpictures.note_numbers.Given as goal

-- the numbers of the items seen so far
abbrev pub invariant-loop-i : goal.invariant-loop-i
invariant-loop-i l = l.numbers ≡ loading.numbers_of (take l.i l.fields) l.field
