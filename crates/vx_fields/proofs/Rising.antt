-- A list that rises, and stays below a bound, has no number twice and none from the bound on.
use Rattle.std.proofs.Common.{◌≡◌, ◌≢◌, ℕ, ◌<◌, ◌≤◌, Bool, true, List, [], ◌∷◌, nat_lt, arith}
use Rattle.std.specs.Prelude.{◌&&◌, All}
use Rattle.std.specs.List.{AllPairs}
use Rattle.std.proofs.lemmas.Bool.{and_parts, ltb-true}
use Rattle.std.proofs.lemmas.List.Elements.{All-cons, All-nil}
use Rattle.std.proofs.lemmas.List.Kept.{AllPairs-cons}

-- each number is above the one before it, and below the bound
unfoldable pub rises : (from bound : ℕ) → List ℕ → Bool
rises from bound [] = true
rises from bound (n ∷ ns) = nat_lt from n && (nat_lt n bound && rises n bound ns)

-- a rising step, told
steps : (from bound n : ℕ) (ns : List ℕ) → rises from bound (n ∷ ns) ≡ true → (from < n) × (n < bound) × (rises n bound ns ≡ true)
unfolding rises
steps from bound n ns h =
    let first = and_parts (nat_lt from n) (nat_lt n bound && rises n bound ns) h in
    let second = and_parts (nat_lt n bound) (rises n bound ns) first.1 in
    (ltb-true from n first.0, ltb-true n bound second.0, second.1)

-- what is not above the start differs from each number
apart : (k from bound : ℕ) (ns : List ℕ) → k ≤ from → rises from bound ns ≡ true → All (λ n. k ≢ n) ns
apart k from bound [] low h = All-nil (λ n. k ≢ n)
apart k from bound (n ∷ ns) low h =
    let step = steps from bound n ns h in
    All-cons (λ n. k ≢ n) n ns (λ e. omega (arith, e, low, step.0)) (apart k n bound ns (omega (arith, low, step.0)) step.2)

pub rising_differ : (from bound : ℕ) (ns : List ℕ) → rises from bound ns ≡ true → AllPairs (λ m n. m ≢ n) ns
rising_differ from bound [] h = λ i j d before within. omega (arith, within)
rising_differ from bound (n ∷ ns) h =
    let step = steps from bound n ns h in AllPairs-cons (λ m n. m ≢ n) n ns (apart n n bound ns (omega arith) step.2) (rising_differ n bound ns step.2)

pub rising_below : (from bound : ℕ) (ns : List ℕ) → rises from bound ns ≡ true → All (λ n. n < bound) ns
rising_below from bound [] h = All-nil (λ n. n < bound)
rising_below from bound (n ∷ ns) h =
    let step = steps from bound n ns h in All-cons (λ n. n < bound) n ns step.1 (rising_below n bound ns step.2)
