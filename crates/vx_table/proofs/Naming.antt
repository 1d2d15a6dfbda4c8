-- The test that no number stands twice in a list.
use Rattle.std.proofs.Common.{◌≡◌, ◌≢◌, ℕ, Bool, true, List, [], ◌∷◌, arith}
use Rattle.std.specs.Prelude.{not, ◌&&◌, ◌==◌, All}
use Rattle.std.specs.List.{AllPairs}
use Rattle.std.proofs.lemmas.Bool.{and_parts, not-true, eqb-false}
use Rattle.std.proofs.lemmas.List.Elements.{All-cons, All-nil}
use Rattle.std.proofs.lemmas.List.Kept.{AllPairs-cons}
use Rattle.vx_table.specs.declared.rows.Row.{Row}
use Rattle.vx_table.specs.Named.{coded_by_all, CodedOnce}

unfoldable pub is_none_of : List ℕ → ℕ → Bool
is_none_of [] n = true
is_none_of (m ∷ ms) n = not (n == m) && is_none_of ms n

unfoldable pub differ : List ℕ → Bool
differ [] = true
differ (n ∷ ns) = is_none_of ns n && differ ns

none_is : (ns : List ℕ) (n : ℕ) → is_none_of ns n ≡ true → All (λ m. n ≢ m) ns
unfolding is_none_of
none_is [] n h = All-nil (λ m. n ≢ m)
none_is (m ∷ ms) n h =
    let parts = and_parts (not (n == m)) (is_none_of ms n) h in
    All-cons (λ m. n ≢ m) m ms (eqb-false n m (not-true (n == m) parts.0)) (none_is ms n parts.1)

numbers_differ : (ns : List ℕ) → differ ns ≡ true → AllPairs (λ m n. m ≢ n) ns
unfolding differ
numbers_differ [] h = λ i j d before within. omega (arith, within)
numbers_differ (n ∷ ns) h =
    let parts = and_parts (is_none_of ns n) (differ ns) h in
    AllPairs-cons (λ m n. m ≢ n) n ns (none_is ns n parts.0) (numbers_differ ns parts.1)

pub coded_once : (tables : List (List Row)) → differ (coded_by_all tables) ≡ true → CodedOnce tables
coded_once tables h = record { differ = numbers_differ (coded_by_all tables) h }
