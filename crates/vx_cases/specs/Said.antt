-- What the lines say of a source or a sink. Our own.
use Rattle.std.specs.Prelude.{◌==◌, ◌≡◌, ℕ, List, Bool, true, false, map, filter, take, drop, length, All}
use Rattle.vx_cases.specs.declared.setup.Setup.{Setup}
use Rattle.vx_cases.specs.declared.setup.End.{End}
use Rattle.vx_cases.specs.declared.setup.End.TheVariants.{Source, EachSource, Out, Err}

-- What is said of the first end is said of the second: of each source, or of this very one.
abbrev pub covers : End → End → Bool
covers EachSource (Source _) = true
covers EachSource EachSource = true
covers (Source k) (Source n) = k == n
covers Out Out = true
covers Err Err = true
covers _ _ = false

-- The numbers that were said of an end, in order.
abbrev pub said_of : End → List (End × ℕ) → List ℕ
said_of end said = map (λ pair. pair.1) (filter (λ pair. covers pair.0 end) said)

-- The list begins with these.
abbrev pub Begins : {X : Type 0} → List X → List X → Type 0
Begins xs front = take (length front) xs ≡ front

-- The same was said, and then more, only of this end.
abbrev pub SaysOf : End → List (End × ℕ) → List (End × ℕ) → Type 0
SaysOf end old new = Begins new old × All (λ pair. pair.0 ≡ end) (drop (length old) new)

-- What was said before is still said, before what is said more.
abbrev pub SaysMore : Setup → Setup → Type 0
SaysMore old new = Begins new.pieces.items old.pieces.items × Begins new.failing.items old.failing.items
    × Begins new.closed.items old.closed.items
