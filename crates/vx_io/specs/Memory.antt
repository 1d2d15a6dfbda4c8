-- The models of a memory source and of the two memory sinks. Our own. The contracts of `MemorySource`, `MemorySink` and `GrowSink`
-- rely on it.
use Rattle.std.specs.Prelude.{ℕ, ◌%◌, min, max, List, [], ◌∷◌, length, slice_index}
use Rattle.vx_io.specs.Faults.{count_after}

-- The plan of the calls of a source or sink: the piece lengths in turn, the numbers of the calls that fail, the number
-- of calls made, and the number of calls that failed. A call's number is the number of calls made before it, up to the
-- last value of a count.
pub record Plan : Type 0 where
  pub pieces : List ℕ
  pub failing : List ℕ
  pub calls : ℕ
  pub faults : ℕ

-- The plan before the first call.
abbrev pub fresh_plan : List ℕ → List ℕ → Plan
fresh_plan pieces failing = record { pieces = pieces; failing = failing; calls = 0; faults = 0 }

-- The plan after a call that moved its bytes.
abbrev pub after_call : Plan → Plan
after_call p = record p { calls = count_after p.calls }

-- The plan after a call that failed.
abbrev pub after_fault : Plan → Plan
after_fault p = record p { calls = count_after p.calls; faults = count_after p.faults }

-- How many of n bytes a call moves: all of them if there are no piece lengths, otherwise at most its piece length,
-- where 0 counts as 1.
abbrev pub moved_len : List ℕ → ℕ → ℕ → ℕ
moved_len [] call n = n
moved_len (p ∷ ps) call n = min n (max 1 (slice_index (p ∷ ps) (call % length (p ∷ ps))))

-- A memory source: the bytes that are left, and the plan of its calls.
pub record Supply : Type 0 where
  pub left : List ℕ
  pub plan : Plan

-- A memory sink: the bytes that it took, how many it can take in all, and the plan of its calls.
pub record Store : Type 0 where
  pub taken : List ℕ
  pub room : ℕ
  pub plan : Plan

-- A growing sink: the bytes that it took, and how many of its writes failed.
pub record Growth : Type 0 where
  pub taken : List ℕ
  pub faults : ℕ
