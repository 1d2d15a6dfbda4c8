-- Rounds of a merge, in the pictures that were taken of its sources.
use Rattle.std.proofs.Common.{◌≡◌, ℕ, ◌≤◌, List, [], ◌∷◌, ◌∙◌, Option, length, map, sym, subst, arith}
use Rattle.std.proofs.lemmas.List.{length-map}
use Rattle.vx_pic.specs.Readings.{Picture}
use Rattle.vx_pic.specs.Rules.{Readers}
use Rattle.vx_pic.specs.Written.{Plan}
use Rattle.vx_assemble.specs.Held.{lent_by}
use Rattle.vx_assemble.specs.Feed.{Feeding}
use Rattle.vx_frame.specs.declared.corner.Corner.{Corner}
use Rattle.vx_merge.specs.Merging.{Passes}
use Rattle.vx_run.specs.Change.{Sources, sources_change}
use Rattle.vx_run.specs.Rounds.{Stream, IsRound, AreTold}
use Rattle.vx_run.specs.Merge.{AreRoundsWritten}
use Rattle.vx_run.specs.inner.Advancing.{OfAll, Begin, AllTake, so_far}
use Rattle.vx_run.proofs.Advancing.{counted}
use Rattle.vx_run.proofs.Sources.{HasRound, round_stays, stream_of}

-- ---- rounds that are written

-- those that are written so far are written so by streams that begin with them
pub written_stay : (corners : List Corner) (level : Option ℕ) (ss : List Stream) (taken : List (List Picture)) (n : ℕ) → length ss ≡ length taken → OfAll (λ k ps. length ps ≡ n) taken → Begin ss taken
    → (done : List Plan) → length done ≤ n → AreRoundsWritten corners level (so_far taken) done → AreRoundsWritten corners level ss done
written_stay corners level ss taken n count rounds begin [] few plans = tt
written_stay corners level ss taken n count rounds begin (p ∷ done) few plans =
    let round = plans.0 in (
      (round.0, round_stays ss taken n (length done) count rounds begin (omega arith) ∙ round.1, round.2),
      written_stay corners level ss taken n count rounds begin done (omega arith) plans.1,
    )

module _ {A : Type 0} (bytes : A → Option (List ℕ)) (faults : A → ℕ) (R : Readers) (first : List A) where
  abbrev Src : List A → Sources A
  Src l = sources_change bytes faults first l

  -- by those that are told,
  pub written_told : (corners : List Corner) (level : Option ℕ) (l : List A) (taken : List (List Picture)) (n : ℕ) → length taken ≡ length first → OfAll (λ k ps. length ps ≡ n) taken → (done : List Plan) → length done ≡ n → AreRoundsWritten corners level (so_far taken) done
      → (ss : List Stream) → AreTold R (Src l) ss → Begin ss taken → AreRoundsWritten corners level ss done
  written_told corners level l taken n count rounds done many plans ss are begin = written_stay corners level ss taken n (counted bytes faults R first l ss taken are count) rounds begin done (omega (arith, many)) plans

  -- and where one more is written, all are
  pub more_written : (l : List A) (feeds : List Feeding) (taken : List (List Picture)) (n : ℕ) (all : AllTake R (Src l) feeds taken n) (corners : List Corner) (level : Option ℕ) (h : HasRound bytes faults R first l feeds taken n) (done : List Plan) (p : Plan) → length done ≡ n → AreRoundsWritten corners level (so_far taken) done
      → Passes corners level (map (λ (f : Feeding). lent_by f.assembler) feeds) done p → AreRoundsWritten corners level (so_far h.next) (p ∷ done)
  more_written l feeds taken n all corners level h done p count plans fine = (
    (map (λ (f : Feeding). lent_by f.assembler) feeds, subst (λ (r : ℕ). IsRound (so_far h.next) r (map (λ (f : Feeding). lent_by f.assembler) feeds)) (sym count) h.round, fine),
    written_stay corners level (so_far h.next) taken n (omega (arith, h.waiting.taken_count, all.taken_count, length-map h.next stream_of)) all.rounds h.begin done (omega (arith, count)) plans,
  )
