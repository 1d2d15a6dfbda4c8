-- What a run tells, by what it did to the sink for its line.
use Rattle.std.proofs.Common.{◌≡◌, ◌⊎◌, ℕ, ◌≤◌, List, [], ◌++◌, ◌∙◌, Option, Some, Ok, Err, length, min, take, drop, inl, inr, refl, sym, ap, subst, arith, append_assoc, append-nil}
use Rattle.std.proofs.Math.Seq.{take_all, take-append_seam}
use Rattle.std.proofs.lemmas.List.{length-take-le, take-append-drop}
use Rattle.std.proofs.lemmas.Option.{same_Some}
use Rattle.std.specs.Io.{StartsWith}
use Rattle.std.specs.Io.KnownBytes.{Appends}
use Rattle.vx_run.specs.Change.{Change, Tells}
use Rattle.vx_run.specs.Conclusion.{Outcome, ExitsWith, line_of}
use Rattle.vx_run.specs.declared.stop.Stop.TheVariants.{NotUnderstood, NoMemory}
use Rattle.vx_c.specs.InMemory.{IsFrontOf, TellsWhy}

front_there : (line front : List ℕ) → StartsWith line front → IsFrontOf line front
front_there line front is = (drop (length front) line, sym (take-append-drop (length front) line) ∙ ap (λ l. l ++ drop (length front) line) is)

module _ {E : Type 0} (err : Change E) (told : List ℕ) (old : err.bytes err.old ≡ Some []) (new : err.bytes err.new ≡ Some told) where
  gained : (bytes : List ℕ) → Appends (err.bytes err.old) (err.bytes err.new) bytes → told ≡ bytes
  gained bytes is =
      let known : Appends (Some []) (Some told) bytes =
      subst (λ (b : Option (List ℕ)). Appends (Some []) b bytes) new (subst (λ (a : Option (List ℕ)). Appends a (err.bytes err.new) bytes) old is) in
      known

  of_line : (line : List ℕ) → Tells err line → IsFrontOf line told
  of_line line (inl gains) = ([], sym (gained line gains.gained) ∙ sym (append-nil told))
  of_line line (inr gains) =
      let of = gains.gained in
      subst (λ (l : List ℕ). IsFrontOf line l) (sym (gained of.front of.gained)) (front_there line of.front of.of_piece)

  pub tells_why : (outcome : Outcome) (status : ℕ) → ExitsWith outcome status err → TellsWhy status told
  tells_why (Ok done) status exits = inl (exits.0, same_Some told [] (sym new ∙ ap err.bytes exits.1 ∙ old))
  tells_why (Err stop) status exits = elim exits.ended [
    | inl own ↦ inr (stop, own.0, of_line (line_of stop) own.1)
    | inr none ↦ inr (NoMemory, none.1, of_line (line_of NoMemory) none.2)
  ]

-- as much of that is told as there is room for
why_front : (status n : ℕ) (told : List ℕ) → TellsWhy status told → TellsWhy status (take n told)
why_front status n told (inl done) = inl (done.0, ap (λ l. take n l) done.1 ∙ take_all n [] (omega arith))
why_front status n told (inr why) =
    let rest = why.2.0 in
    let line = why.2.1 ∙ ap (λ l. l ++ rest) (sym (take-append-drop n told)) ∙ append_assoc (take n told) (drop n told) rest in
    inr (why.0, why.1, (drop n told ++ rest, line))

pub why_told : (status n : ℕ) (told before after : List ℕ) → n ≡ min (length told) (length before) → after ≡ take n told ++ drop n before → TellsWhy status told → TellsWhy status (take n after)
why_told status n told before after least is why =
    let within : n ≤ length told = omega (arith, least) in
    let put : take n (take n told ++ drop n before) ≡ take n told =
    subst (λ (k : ℕ). take k (take n told ++ drop n before) ≡ take n told) (length-take-le n told within) (take-append_seam (take n told) (drop n before)) in
    subst (λ (l : List ℕ). TellsWhy status l) (sym (ap (λ (l : List ℕ). take n l) is ∙ put)) (why_front status n told why)

-- nothing is told where words can't be run, or no memory is found before they are
pub why_misused : (into : List ℕ) → TellsWhy 2 (take 0 into)
why_misused into = inr (NotUnderstood, refl, (line_of NotUnderstood, refl))

pub why_no_memory : (into : List ℕ) → TellsWhy 4 (take 0 into)
why_no_memory into = inr (NoMemory, refl, (line_of NoMemory, refl))
