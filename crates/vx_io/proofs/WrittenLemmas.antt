-- Lemmas on what a sink gained of a piece.
use Rattle.std.proofs.Common.{◌≡◌, ℕ, ◌-◌, List, ◌++◌, Option, sym, ap, arith, ◌∙◌, length, take, drop, append_assoc, length-append, take-append-drop}
use Rattle.std.proofs.lemmas.List.{take_rest}
use Rattle.std.proofs.Math.Seq.{take-append_seam}
use Rattle.std.specs.Io.{StartsWith}
use Rattle.std.specs.Io.KnownBytes.{Appends}
use Rattle.std.proofs.KnownBytes.{Appends-trans, starts_with_rest}
use Rattle.vx_io.specs.Written.{AppendsFront}

-- a piece starts with each front of it
pub StartsWith-of_split : (piece front rest : List ℕ) → piece ≡ front ++ rest → StartsWith piece front
StartsWith-of_split piece front rest e = ap (take (length front)) e ∙ take-append_seam front rest

-- a front of the first piece is one of both
pub AppendsFront-append : (a b : Option (List ℕ)) (xs ys : List ℕ) → AppendsFront a b xs → AppendsFront a b (xs ++ ys)
AppendsFront-append a b xs ys p = record {
  front = p.front;
  of_piece = StartsWith-of_split (xs ++ ys) p.front (drop (length p.front) xs ++ ys) (ap (λ l. l ++ ys) (starts_with_rest xs p.front p.of_piece) ∙ append_assoc p.front (drop (length p.front) xs) ys);
  short = omega (arith, p.short, length-append xs ys);
  gained = p.gained;
}

-- a piece wholly written, and then a front of the next one
pub AppendsFront-after : (a b c : Option (List ℕ)) (xs ys : List ℕ) → Appends a b xs → AppendsFront b c ys → AppendsFront a c (xs ++ ys)
AppendsFront-after a b c xs ys p q = record {
  front = xs ++ q.front;
  of_piece = StartsWith-of_split (xs ++ ys) (xs ++ q.front) (drop (length q.front) ys) (ap (λ l. xs ++ l) (starts_with_rest ys q.front q.of_piece) ∙ sym (append_assoc xs q.front (drop (length q.front) ys)));
  short = omega (arith, q.short, length-append xs q.front, length-append xs ys);
  gained = Appends-trans a b c xs q.front p q.gained;
}

-- a write under way: what the sink gained of the piece, and what is left to write
pub record Underway (old new : Option (List ℕ)) (faults_old faults_new : ℕ) (piece rest : List ℕ) : Type 0 where
  pub front : List ℕ
  pub split : piece ≡ front ++ rest
  pub gained : Appends old new front
  pub faults : faults_new ≡ faults_old

-- the sink took n bytes more
pub underway_more : (a b c : Option (List ℕ)) (k l m : ℕ) (piece rest : List ℕ) (n : ℕ) → Underway a b k l piece rest → Appends b c (take n rest) → m ≡ l
    → Underway a c k m piece (take (length rest - n) (drop n rest))
underway_more a b c k l m piece rest n p q e = record {
  front = p.front ++ take n rest;
  split = p.split ∙ ap (λ z. p.front ++ z) (sym (take-append-drop n rest) ∙ ap (λ z. take n rest ++ z) (sym (take_rest rest n))) ∙ sym (append_assoc p.front (take n rest) (take (length rest - n) (drop n rest)));
  gained = Appends-trans a b c p.front (take n rest) p.gained q;
  faults = e ∙ p.faults;
}
