use Rattle.std.proofs.Common.{◌+◌, ◌*◌, ◌≡◌, ◌≤◌, ◌<◌, ◌^◌, ◌++◌, vec_len, vec_capacity}
use Rattle.vx_bits.specs.Codes.{fixed, bits_of}
use Rattle.vx_bits.proofs.writer.append.Given as goal

abbrev pub invariant-loop-left : goal.invariant-loop-left
invariant-loop-left l =
    (bits_of l.bytes.items ++ fixed l.left l.rest ≡ bits_of l.initial.bytes.items ++ fixed l.bits l.word)
    × (l.rest < 2 ^ l.left)
    × (8 * vec_len l.bytes + l.left ≡ 8 * vec_len l.initial.bytes + l.bits)
    × (vec_capacity l.initial.bytes ≤ vec_capacity l.bytes)
    × (l.left ≤ 64)

abbrev pub decreases-loop-left : goal.decreases-loop-left
decreases-loop-left l = l.left
