use Rattle.std.proofs.Common.{◌≡◌, ◌≢◌, ◌-◌, ℕ, List, length, slice_get, slice_index, vec_len}
use Rattle.vx_pic.specs.Readings.{Picture}
use Rattle.vx_pic.specs.Rules.{Readers}
use Rattle.vx_pic.specs.H266.{AreOfH266}
use Rattle.vx_play.specs.Scheduled.{files_of_region}
use Rattle.vx_run.specs.Change.{sources_change}
use Rattle.vx_run.specs.inner.Playing.{AreFew, IsAt, IsOn, SameBut}
use Rattle.vx_run.proofs.play.advance_region.Given as goal

-- the region went on from file to file
abbrev pub invariant-loop-file : goal.invariant-loop-file
invariant-loop-file g l =
    (vec_len l.sources ≡ vec_len l.fn.sources)
    × SameBut l.fn.k l.fn.schedule l.schedule
    × ((j : ℕ) → slice_index l.fn.schedule.regions j ≢ l.fn.k → slice_get l.sources.items j ≡ slice_get l.fn.sources.items j)
    × ((R : Readers) → AreOfH266 R → (first : List _) (passed : List (List Picture)) (own : List Picture)
    → IsAt R (sources_change (λ s. (goal.Source-dyn g (s.vtable, s.value)).bytes_left s.value) (λ s. (goal.Source-dyn g (s.vtable, s.value)).read_faults s.value) first l.fn.sources.items) (files_of_region l.fn.schedule.regions l.fn.k) l.fn.feed passed own
    → AreFew passed own → length passed ≡ slice_index l.fn.schedule.gone l.fn.k
    → IsOn R (sources_change (λ s. (goal.Source-dyn g (s.vtable, s.value)).bytes_left s.value) (λ s. (goal.Source-dyn g (s.vtable, s.value)).read_faults s.value) first l.sources.items) (files_of_region l.fn.schedule.regions l.fn.k) (slice_index l.fn.schedule.gone l.fn.k) (slice_index l.schedule.gone l.fn.k) l.feed passed own)

abbrev pub decreases-loop-file : goal.decreases-loop-file
decreases-loop-file g l = length (files_of_region l.fn.schedule.regions l.fn.k) - slice_index l.schedule.gone l.fn.k
