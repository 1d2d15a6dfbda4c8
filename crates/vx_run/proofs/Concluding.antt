-- How a stop is concluded, by its variant.
use Rattle.std.proofs.Common.{◌≡◌, ℕ, List, Result, Ok, Err, IfOk, OnErr, inl, inr, subst}
use Rattle.vx_run.specs.declared.stop.Stop.{Stop}
use Rattle.vx_run.specs.declared.stop.Stop.TheVariants.{NoMemory}
use Rattle.vx_run.specs.Change.{Change, Tells}
use Rattle.vx_run.specs.Conclusion.{Concludes, IsMade, status_of, line_of}

-- by its own line
pub concludes-own : {E : Type 0} (d : Stop) {stop : Stop} {status : ℕ} {err : Change E} → stop ≡ d → status ≡ status_of d → Tells err (line_of d) → Concludes stop status err
concludes-own d is own told = rw is (record { ended = inl (own, told) })

-- by a line that was made, or that for want of memory
pub concludes-made : {V X E : Type 0} (d : Stop) {stop : Stop} {status : ℕ} {err : Change E} (line : Result V X) (items : V → List ℕ) → stop ≡ d → IsMade d
    → IfOk line (λ v. items v ≡ line_of d) → IfOk line (λ v. (status ≡ status_of d) × Tells err (items v)) → OnErr line ((status ≡ 4) × Tells err (line_of NoMemory))
    → Concludes stop status err
concludes-made d {err = err} (Ok v) items is made text own memory =
    rw is (record { ended = inl (own.0, subst (λ (line : List ℕ). Tells err line) text own.1) })
concludes-made d (Err e) items is made text own memory = rw is (record { ended = inr (made, memory.0, memory.1) })
