use Rattle.std.proofs.Common.{◌≡◌, ◌≤◌, ◌<◌, ◌^◌, ◌↔◌, ℕ, Result, Ok, Err, length, drop, sym, ap, ◌∙◌, arith}
use Rattle.std.specs.Prelude.{IfOk, IfErr}
use Rattle.std.specs.Result.{IsErrOf}
use Rattle.std.proofs.lemmas.List.{drop_at}
use Rattle.vx_bits.specs.Codes.{fixed}
use Rattle.vx_bits.specs.Place.{Place, Takes}
use Rattle.vx_bits.specs.declared.refusal.BitCause.{BitCause}
use Rattle.vx_bits.specs.declared.refusal.BitCause.TheVariants.{Short}
use Rattle.vx_bits.proofs.Bits.{length-bits_of, length-fixed}
use Rattle.vx_vectors.proofs.slices.behind_first.Goals as goal

taken_one : (result : Result ℕ BitCause) (old new : Place) → IfOk result (λ v. (v < 2 ^ 1) × Takes (fixed 1 v) old new)
    → (IsErrOf result Short ↔ (length old.left < 1)) → IfErr result (λ cause. cause ≡ Short) → 1 ≤ length old.left
    → new.left ≡ drop 1 old.left
taken_one (Ok v) old new value short cause some = sym (ap (drop 1) value.1.left ∙ drop_at (fixed 1 v) new.left 1 (length-fixed 1 v))
taken_one (Err e) old new value short cause some = let none : length old.left < 1 = short.0 (ap (λ x. Err x) cause) in absurd (omega (arith, none, some))

pub returns-clause-left : goal.returns-clause-left
returns-clause-left c =
    let bytes = length-bits_of c.args.bytes.now in
    let some = c.requires.some in
    let left = ap (λ xs. length xs) c.new-bits.ensures.left in
    taken_one c.u.result c.new-bits.result c.u.new.self c.u.ensures.value c.u.ensures.short c.u.ensures.cause (omega (arith, bytes, some, left))
    ∙ ap (drop 1) c.new-bits.ensures.left
