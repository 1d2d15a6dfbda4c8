use Rattle.std.proofs.Common.{◌≡◌, ℕ, ◌<◌, ◌≤◌, ◌^◌, List, Some, slice_get, vec_len}
use Rattle.vx_pic.specs.Readings.{Picture}
use Rattle.vx_pic.specs.Rules.{Readers}
use Rattle.vx_pic.specs.H266.{AreOfH266}
use Rattle.vx_assemble.specs.Feed.{Feeding}
use Rattle.vx_run.specs.Change.{sources_change}
use Rattle.vx_run.specs.inner.Advancing.{AreWaiting, AreAdvancing}
use Rattle.vx_run.proofs.rounds.advance_each.Given as goal

-- those so far were gone on with
abbrev pub invariant-loop-k : goal.invariant-loop-k
invariant-loop-k g l =
    ((vec_len l.feeds ≡ vec_len l.fn.feeds) × (vec_len l.sources ≡ vec_len l.fn.sources) × (vec_len l.ended ≡ vec_len l.fn.ended))
    × ((k : ℕ) (f : Feeding) → k < l.k → slice_get l.feeds.items k ≡ Some f → f.units ≤ 2 ^ 40)
    × ((R : Readers) → AreOfH266 R → (first : List _) (taken : List (List Picture))
    → AreWaiting R (sources_change (λ s. (goal.Source-dyn g (s.vtable, s.value)).bytes_left s.value) (λ s. (goal.Source-dyn g (s.vtable, s.value)).read_faults s.value) first l.fn.sources.items) l.fn.feeds.items taken l.fn.rounds
    → AreAdvancing R (sources_change (λ s. (goal.Source-dyn g (s.vtable, s.value)).bytes_left s.value) (λ s. (goal.Source-dyn g (s.vtable, s.value)).read_faults s.value) first l.sources.items) l.feeds.items taken l.fn.rounds l.ended.items l.k)
