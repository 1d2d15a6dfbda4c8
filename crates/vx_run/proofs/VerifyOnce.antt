-- A verification ends once.
use Rattle.std.proofs.Common.{◌≡◌, ℕ, ◌<◌, List, [], ◌∷◌, ◌∙◌, length, inl, inr, sym, ap, subst, arith}
use Rattle.std.proofs.lemmas.Bool.{cases_lt}
use Rattle.vx_pic.specs.Parts.{Parts}
use Rattle.vx_verify.specs.declared.mismatch.Mismatch.{Mismatch}
use Rattle.vx_verify.specs.declared.spot.Spot.{Spot}
use Rattle.vx_verify.specs.Verified.{IsVerified, VerifiedHasNone, MismatchIsOne}
use Rattle.vx_run.specs.declared.stop.Stop.{Stop}
use Rattle.vx_run.specs.declared.stop.Stop.TheVariants.{Mismatched}
use Rattle.vx_run.specs.Conclusion.{Outcome}
use Rattle.vx_run.specs.Rounds.{Stream, EndsIn}
use Rattle.vx_run.specs.Verify.{OfRound, AreVerified, EndsVerified, VerifyEndsOnce, verify_telling}
use Rattle.vx_run.proofs.Once.{ends_there, ends_alike}

module _ (none : VerifiedHasNone) (one : MismatchIsOne) (spots : List Spot) where
  -- nothing is told of a round that is verified, and one thing of one that isn't
  told_none : (n : ℕ) (round : List Parts) → OfRound (IsVerified spots) round → (stop : Stop) → (verify_telling spots).of_round n round stop → ⊥
  told_none n [] is stop told = absurd is
  told_none n (q ∷ round) is stop told = none spots q round told.0 is told.1

  told_once : (n : ℕ) (round : List Parts) (a b : Stop) → (verify_telling spots).of_round n round a → (verify_telling spots).of_round n round b → a ≡ b
  told_once n [] a b told tells = absurd told
  told_once n (q ∷ round) a b told tells = told.2 ∙ ap (λ (m : Mismatch). Mismatched m n) (one spots q round told.0 tells.0 told.1 tells.1) ∙ sym tells.2

  module _ (ss : List Stream) (some : 0 < length ss) where
    ends_before : (n m : ℕ) (a : Outcome) → EndsVerified spots ss n a → AreVerified spots ss m → n < m → ⊥
    ends_before n m a ends verified before =
        let v = verified n before in
        ends_there (verify_telling spots) ss some n v.0 v.1 (told_none n v.0 v.2) a ends.1

    ends_at_one : (n m : ℕ) (a b : Outcome) → EndsVerified spots ss n a → EndsVerified spots ss m b → (n ≡ m) × (a ≡ b)
    ends_at_one n m a b p q = elim (cases_lt n m) [
      | inl before ↦ absurd (ends_before n m a p q.0 before)
      | inr behind ↦ elim (cases_lt m n) [
        | inl after ↦ absurd (ends_before m n b q p.0 after)
        | inr not_ ↦
            let same : n ≡ m = omega (arith, behind, not_) in
            (same, ends_alike (verify_telling spots) ss some m (told_once m) a b (subst (λ (i : ℕ). EndsIn (verify_telling spots) ss i a) same p.1) q.1)
      ]
    ]

pub verify_once : VerifiedHasNone → MismatchIsOne → VerifyEndsOnce
verify_once none one spots ss n m a b some p q = ends_at_one none one spots ss some n m a b p q
