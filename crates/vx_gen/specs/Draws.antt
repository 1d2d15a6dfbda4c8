-- Bytes that are drawn from a seed. Our own.
use Rattle.std.specs.Prelude.{ℕ, zero, suc, ◌+◌, ◌*◌, ◌/◌, ◌%◌, ◌^◌, List, [], ◌∷◌, ◌++◌, map}
use Rattle.std.specs.List.{range_with_len}

-- The state of the generator after another one, and after n draws.
unfoldable pub next : ℕ → ℕ
next r = (1664525 * r + 1013904223) % 2 ^ 32

abbrev pub state : ℕ → ℕ → ℕ
state seed zero = seed
state seed (suc n) = next (state seed n)

-- The byte that a state gives, which is none of 00.
unfoldable pub byte_of : ℕ → ℕ
byte_of r = 1 + r / 65536 % 256 % 255

-- Draw n, counted from 0.
abbrev pub drawn : ℕ → ℕ → ℕ
drawn seed n = byte_of (state seed (suc n))

-- The data of a slice: five draws from draw n on, and the byte that ends an RBSP.
abbrev pub payload : ℕ → ℕ → List ℕ
payload seed n = map (drawn seed) (range_with_len n 5) ++ 128 ∷ []
