-- What a sink gained by one call after another.
use Rattle.std.proofs.Common.{◌≡◌, ℕ, List, [], ◌++◌, ◌∙◌, Option, sym, ap, subst}
use Rattle.std.specs.Io.KnownBytes.{Appends}
use Rattle.std.proofs.KnownBytes.{Appends-nil, Appends-trans}
use Rattle.vx_io.specs.Faults.{Rose}
use Rattle.vx_io.proofs.WrittenLemmas.{AppendsFront-append, AppendsFront-after}
use Rattle.vx_run.specs.Change.{Change, change, Gains, GainsFront}

module _ {A : Type 0} (bytes : A → Option (List ℕ)) (faults : A → ℕ) where
  -- nothing, where nothing was done
  pub Gains-nothing : (a b : A) → b ≡ a → Gains (change bytes faults a b) []
  Gains-nothing a b same = record {
    kept = ap faults same;
    gained = subst (λ (x : A). Appends (bytes a) (bytes x) []) (sym same) (Appends-nil (bytes a));
  }

  -- nothing more
  pub Gains-still : (a b c : A) (xs : List ℕ) → Gains (change bytes faults a b) xs → c ≡ b → Gains (change bytes faults a c) xs
  Gains-still a b c xs p same = subst (λ (x : A). Gains (change bytes faults a x) xs) (sym same) p

  -- one piece, then another
  pub Gains-then : (a b c : A) (xs ys : List ℕ) → Gains (change bytes faults a b) xs → Gains (change bytes faults b c) ys → Gains (change bytes faults a c) (xs ++ ys)
  Gains-then a b c xs ys p q = record {
    kept = q.kept ∙ p.kept;
    gained = Appends-trans (bytes a) (bytes b) (bytes c) xs ys p.gained q.gained;
  }

  -- one piece, then a front of another
  pub GainsFront-then : (a b c : A) (xs ys : List ℕ) → Gains (change bytes faults a b) xs → GainsFront (change bytes faults b c) ys → GainsFront (change bytes faults a c) (xs ++ ys)
  GainsFront-then a b c xs ys p q = record {
    failed = subst (λ (n : ℕ). Rose n (faults c)) p.kept q.failed;
    gained = AppendsFront-after (bytes a) (bytes b) (bytes c) xs ys p.gained q.gained;
  }

-- a front of a piece is one of the piece and what follows
pub GainsFront-append : {A : Type 0} (c : Change A) (xs ys : List ℕ) → GainsFront c xs → GainsFront c (xs ++ ys)
GainsFront-append c xs ys p = record {
  failed = p.failed;
  gained = AppendsFront-append (c.bytes c.old) (c.bytes c.new) xs ys p.gained;
}
