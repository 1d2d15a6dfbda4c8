use Rattle.std.proofs.Common.{◌≡◌, ◌++◌, length, map, take}
use Rattle.std.specs.List.{concat}
use Rattle.vx_c.proofs.memory.sources_in.Given as goal

-- the streams so far are the bytes before the rest, and of the sizes so far
abbrev pub invariant-loop-len : goal.invariant-loop-len
invariant-loop-len l = (concat (map (λ source. source.left) l.sources.items) ++ l.rest ≡ l.fn.bytes)
    × (map length (map (λ source. source.left) l.sources.items) ≡ take l.len-index l.fn.lengths)
