use Rattle.std.proofs.Common.{◌≡◌, ◌+◌, ◌-◌, ◌^◌, None, length, vec_len}
use Rattle.vx_pic.specs.Rules.{Readers}
use Rattle.vx_pic.specs.H266.{AreOfH266}
use Rattle.vx_run.specs.Change.{sources_change}
use Rattle.vx_run.specs.inner.Verifying.{HasVerified}
use Rattle.vx_run.proofs.verify.verify_rounds.Given as goal

-- the rounds so far were verified
abbrev pub invariant-loop-verifier : goal.invariant-loop-verifier
invariant-loop-verifier g l =
    ((l.verifier.spots ≡ l.fn.spots) × (l.verifier.first ≡ None))
    × ((vec_len l.sources ≡ length l.fn.spots + 1) × (vec_len l.feeds ≡ length l.fn.spots + 1) × (vec_len l.ended ≡ length l.fn.spots + 1))
    × ((R : Readers) → AreOfH266 R → HasVerified R l.fn.spots (sources_change (λ s. (goal.Source-dyn g (s.vtable, s.value)).bytes_left s.value) (λ s. (goal.Source-dyn g (s.vtable, s.value)).read_faults s.value) l.fn.sources.items l.sources.items) l.feeds.items l.rounds)

abbrev pub decreases-loop-verifier : goal.decreases-loop-verifier
decreases-loop-verifier g l = 2 ^ 40 + 1 - l.rounds
