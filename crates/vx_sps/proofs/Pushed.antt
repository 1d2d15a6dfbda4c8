-- Items that are appended one by one.
use Rattle.std.proofs.Common.{◌≡◌, ℕ, zero, suc, ◌+◌, List, [], ◌∷◌, ◌++◌, replicate, arith, ap, sym, ◌∙◌}
use Rattle.std.proofs.lemmas.List.{append-nil, append_assoc, replicate-append-replicate}
use Rattle.vx_bits.specs.declared.list.Item.{Item}
use Rattle.vx_table.specs.Rewrites.{in_all_turns}

-- an equal item more
pub equal_more : (item : Item) (n : ℕ) → replicate (n + 1) item ≡ replicate n item ++ item ∷ []
equal_more item n = sym (replicate-append-replicate n 1 item)

-- the items of a turn more
turns_from : (items : ℕ → List Item) (turn n : ℕ) → in_all_turns items turn (suc n) ≡ in_all_turns items turn n ++ items (turn + n)
turns_from items turn zero = let same : turn + 0 ≡ turn = omega arith in rw same (append-nil (items turn))
turns_from items turn (suc n) =
    let same : turn + 1 + n ≡ turn + suc n = omega arith in
    ap (λ x. items turn ++ x) (turns_from items (turn + 1) n ∙ ap (λ k. in_all_turns items (turn + 1) n ++ items k) same)
    ∙ sym (append_assoc (items turn) (in_all_turns items (turn + 1) n) (items (turn + suc n)))

pub turn_more : (items : ℕ → List Item) (n : ℕ) → in_all_turns items 0 (n + 1) ≡ in_all_turns items 0 n ++ items n
turn_more items n =
    let one : n + 1 ≡ suc n = omega arith in
    let here : 0 + n ≡ n = omega arith in
    rw one (turns_from items 0 n ∙ ap (λ k. in_all_turns items 0 n ++ items k) here)

-- six lists one behind another
pub six_pushed : (a b s p d t : List Item) {empty i j k l m n : List Item} → empty ≡ [] → i ≡ empty ++ a → j ≡ i ++ b → k ≡ j ++ s → l ≡ k ++ p → m ≡ l ++ d → n ≡ m ++ t
    → n ≡ a ++ (b ++ ((s ++ p) ++ (d ++ t)))
six_pushed a b s p d t none first second third fourth fifth sixth = sixth ∙ rw (fifth, fourth, third, second, first, none) (simp append_assoc)

-- two items, and a list behind them
pub two_pushed : (old : List Item) {mid into : List Item} (x y u v : Item) (rest others : List Item) → mid ≡ old ++ x ∷ y ∷ [] → into ≡ mid ++ rest → x ≡ u → y ≡ v → rest ≡ others
    → into ≡ old ++ u ∷ v ∷ others
two_pushed old x y u v rest others first second a b c = second ∙ rw (first, a, b, c) (append_assoc old (u ∷ v ∷ []) others)

-- the items of turns, and those of the next one
pub turn_pushed : (items : ℕ → List Item) (i : ℕ) (old : List Item) {into next : List Item} → into ≡ old ++ in_all_turns items 0 i → next ≡ into ++ items i → next ≡ old ++ in_all_turns items 0 (i + 1)
turn_pushed items i old first second = second ∙ rw (first, turn_more items i) (append_assoc old (in_all_turns items 0 i) (items i))
