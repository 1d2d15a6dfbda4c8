use Rattle.std.proofs.Common.{◌≡◌, take}
use Rattle.vx_pic.specs.Sets.{named}
use Rattle.vx_extract.specs.inner.Needed.{all_marked}
use Rattle.vx_extract.proofs.needed.NamedAps.mark_named.Given as goal

abbrev pub invariant-loop-i : goal.invariant-loop-i
invariant-loop-i l = l.self ≡ all_marked l.initial.self (named l.kind l.field (take l.i l.items))
