-- The size limit of what is read. Contracts of all readers rely on it.
use Rattle.std.specs.Prelude.{ℕ, ◌^◌}

-- The greatest number of bytes of a unit (our own limit).
abbrev pub unit_limit : ℕ
unit_limit = 2 ^ 23
