use Rattle.std.proofs.Common.{◌≡◌, ◌≤◌, ℕ, List, slice_index, vec_len}
use Rattle.vx_pic.specs.Readings.{Picture}
use Rattle.vx_pic.specs.Rules.{Readers}
use Rattle.vx_pic.specs.H266.{AreOfH266}
use Rattle.vx_run.specs.Change.{sources_change}
use Rattle.vx_run.specs.inner.Playing.{ArePlaced, SameFiles, WentOn}
use Rattle.vx_run.proofs.play.advance_each.Given as goal

-- the regions so far were gone on with
abbrev pub invariant-loop-k : goal.invariant-loop-k
invariant-loop-k g l =
    ((vec_len l.feeds ≡ vec_len l.fn.feeds) × (vec_len l.sources ≡ vec_len l.fn.sources) × (vec_len l.ended ≡ vec_len l.fn.ended))
    × SameFiles l.fn.schedule l.schedule
    × ((i : ℕ) → l.k ≤ i → slice_index l.schedule.gone i ≡ slice_index l.fn.schedule.gone i)
    × ((R : Readers) → AreOfH266 R → (first : List _) (passed : ℕ → List (List Picture)) (own : ℕ → List Picture)
    → ArePlaced R (sources_change (λ s. (goal.Source-dyn g (s.vtable, s.value)).bytes_left s.value) (λ s. (goal.Source-dyn g (s.vtable, s.value)).read_faults s.value) first l.fn.sources.items) l.fn.schedule l.fn.feeds.items passed own
    → WentOn R (sources_change (λ s. (goal.Source-dyn g (s.vtable, s.value)).bytes_left s.value) (λ s. (goal.Source-dyn g (s.vtable, s.value)).read_faults s.value) first l.sources.items) l.fn.schedule l.schedule l.feeds.items l.ended.items passed own l.k l.k)
