-- The text of fields, as they go on.
use Rattle.std.proofs.Common.{◌≡◌, ℕ, zero, suc, ◌+◌, List, [], ◌∷◌, ◌++◌, ◌∙◌, take, slice_get, flat_map, Some, ◌<◌, length, take_all, ◌≤◌, sym, ap, arith, append_assoc, append-nil}
use Rattle.std.specs.Prelude.{codes}
use Rattle.vx_bits.specs.declared.list.Item.{Item}
use Rattle.vx_report.specs.FieldsLine.{item_json, items_json}

more_pieces : (f : Item → List ℕ) (xs : List Item) (i : ℕ) (x : Item) → slice_get xs i ≡ Some x → flat_map f (take (suc i) xs) ≡ flat_map f (take i xs) ++ f x
more_pieces f [] i x at = absurd (cc)
more_pieces f (y ∷ ys) zero x at = let same : y ≡ x = (cc) in append-nil (f y) ∙ ap f same
more_pieces f (y ∷ ys) (suc i) x at = ap (λ l. f y ++ l) (more_pieces f ys i x at) ∙ sym (append_assoc (f y) (flat_map f (take i ys)) (f x))

-- behind a first one
more_items : (xs : List Item) (i : ℕ) (x : Item) → slice_get xs (suc i) ≡ Some x → items_json (take (suc (suc i)) xs) ≡ items_json (take (suc i) xs) ++ (codes "," ++ item_json x)
more_items [] i x at = absurd (cc)
more_items (y ∷ ys) i x at =
    ap (λ l. item_json y ++ l) (more_pieces (λ z. codes "," ++ item_json z) ys i x at)
    ∙ sym (append_assoc (item_json y) (flat_map (λ z. codes "," ++ item_json z) (take i ys)) (codes "," ++ item_json x))

-- so far, and one more
pub items_on : (xs : List Item) (i : ℕ) (x : Item) (old so_far with_comma new : List ℕ) → 0 < i → slice_get xs i ≡ Some x → so_far ≡ old ++ items_json (take i xs)
    → with_comma ≡ so_far ++ codes "," → new ≡ with_comma ++ item_json x → new ≡ old ++ items_json (take (i + 1) xs)
items_on xs zero x old so_far with_comma new first at is comma item = absurd (omega (arith, first))
items_on xs (suc i) x old so_far with_comma new first at is comma item =
    let next : suc i + 1 ≡ suc (suc i) = omega arith in
    item
    ∙ ap (λ l. l ++ item_json x) (comma ∙ ap (λ l. l ++ codes ",") is)
    ∙ append_assoc (old ++ items_json (take (suc i) xs)) (codes ",") (item_json x)
    ∙ append_assoc old (items_json (take (suc i) xs)) (codes "," ++ item_json x)
    ∙ ap (λ l. old ++ l) (sym (more_items xs i x at))
    ∙ ap (λ n. old ++ items_json (take n xs)) (sym next)

-- none
pub items_none : (xs : List Item) (old : List ℕ) → length xs ≡ 0 → old ≡ old ++ items_json xs
items_none [] old none = sym (append-nil old)
items_none (y ∷ ys) old none = absurd (omega (arith, none))

-- the first alone
pub items_first : (xs : List Item) (x : Item) (old new : List ℕ) → slice_get xs 0 ≡ Some x → new ≡ old ++ item_json x → new ≡ old ++ items_json (take 1 xs)
items_first [] x old new at is = absurd (cc)
items_first (y ∷ ys) x old new at is =
    let same : y ≡ x = (cc) in
    is ∙ ap (λ l. old ++ l) (sym (append-nil (item_json y) ∙ ap item_json same))

-- all
pub items_all : (xs : List Item) (i : ℕ) (old new : List ℕ) → length xs ≤ i → new ≡ old ++ items_json (take i xs) → new ≡ old ++ items_json xs
items_all xs i old new long is = is ∙ ap (λ l. old ++ items_json l) (take_all i xs long)

-- ---- texts that are put one behind another

pub put_three : (old a b c one two three : List ℕ) → one ≡ old ++ a → two ≡ one ++ b → three ≡ two ++ c → three ≡ old ++ (a ++ (b ++ c))
put_three old a b c one two three first second third =
    third ∙ ap (λ l. l ++ c) (second ∙ ap (λ l. l ++ b) first) ∙ append_assoc (old ++ a) b c ∙ append_assoc old a (b ++ c)

pub put_six : (old a b c d e f three six : List ℕ) → three ≡ old ++ (a ++ (b ++ c)) → six ≡ three ++ (d ++ (e ++ f)) → six ≡ old ++ (a ++ (b ++ (c ++ (d ++ (e ++ f)))))
put_six old a b c d e f three six front end =
    let rest = d ++ (e ++ f) in
    end ∙ ap (λ l. l ++ rest) front ∙ append_assoc old (a ++ (b ++ c)) rest ∙ ap (λ l. old ++ l) (append_assoc a (b ++ c) rest ∙ ap (λ l. a ++ l) (append_assoc b c rest))
