-- Steps that return a value or a refusal, one after another: the first refusal is that of all. Our own. The rules on units rely on
-- it.
use Rattle.std.specs.Prelude.{Bool, cond, Result, Ok, Err}
use Rattle.vx_bits.specs.declared.refusal.Refusal.{Refusal}

-- A step, and the next one, which has its value.
infixl 10 ◌>>=◌
abbrev pub ◌>>=◌ : {A B : Type 0} → Result A Refusal → (A → Result B Refusal) → Result B Refusal
(Ok a) >>= next = next a
(Err r) >>= next = Err r

-- Refused if this holds.
abbrev pub refuse_if : Bool → Refusal → Result (Unit {0}) Refusal
refuse_if holds r = cond holds (Err r) (Ok tt)
