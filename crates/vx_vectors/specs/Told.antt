-- What the program reports by its status. Our own.
use Rattle.std.specs.Prelude.{ℕ}
use Rattle.vx_vectors.specs.declared.fault.Fault.{Fault}
use Rattle.vx_vectors.specs.declared.fault.Fault.TheVariants.{Io, Line}
use Rattle.vx_vectors.specs.declared.fault.LineFault.TheVariants.{Memory}

-- 3 if a read or a write failed; for a line 4 if memory ran out, and otherwise 2.
abbrev pub status_of : Fault → ℕ
status_of (Io _) = 3
status_of (Line _ Memory) = 4
status_of (Line _ _) = 2
