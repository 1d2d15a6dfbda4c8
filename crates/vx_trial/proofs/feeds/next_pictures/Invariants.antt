-- Those so far came to their next pictures.
use Rattle.std.proofs.Common.{◌≡◌, ℕ, suc, List, vec_len}
use Rattle.std.specs.List.{AllZip}
use Rattle.vx_pic.specs.H266.{AreOfH266}
use Rattle.vx_pic.specs.Readings.{Picture}
use Rattle.vx_pic.specs.Rules.{Readers}
use Rattle.vx_trial.specs.inner.Feeds.{Lends, Turned, Waits}
use Rattle.vx_trial.proofs.feeds.next_pictures.Given as goal

abbrev pub invariant-loop-k : goal.invariant-loop-k
invariant-loop-k l =
    (vec_len l.feeds ≡ vec_len l.fn.feeds)
    × ((R : Readers) → AreOfH266 R → (m : ℕ) (sources : List (List Picture)) → AllZip (Waits R (suc m)) l.fn.feeds.items sources
    → Turned (Waits R (suc m)) (Lends R m) l.k l.feeds.items sources)
