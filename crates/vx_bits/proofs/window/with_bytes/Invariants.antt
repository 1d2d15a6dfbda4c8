use Rattle.std.proofs.Common.{◌+◌, ◌-◌, ◌*◌, ◌≡◌, ◌≤◌, ◌<◌, ◌^◌, ◌++◌, length, drop}
use Rattle.vx_bits.specs.Codes.{fixed, bits_of}
use Rattle.vx_bits.proofs.window.with_bytes.Given as goal

abbrev pub invariant-loop-held : goal.invariant-loop-held
invariant-loop-held l =
    (fixed l.held l.word ++ bits_of (drop l.next l.bytes) ≡ fixed l.initial.held l.initial.word ++ bits_of (drop l.initial.next l.bytes))
    × (l.word < 2 ^ l.held)
    × (l.held < 64)
    × (l.held ≤ 8 * l.next)
    × (l.next ≤ length l.bytes)
    × (l.held + 8 * (length l.bytes - l.next) ≡ l.initial.held + 8 * (length l.bytes - l.initial.next))

abbrev pub decreases-loop-held : goal.decreases-loop-held
decreases-loop-held l = l.count - l.held
