-- The items of one field in lists that are made turn by turn.
use Rattle.std.proofs.Common.{◌≡◌, ℕ, pos, zero, suc, ◌+◌, ◌<◌, ◌≤◌, true, false, ◌==◌, List, [], ◌∷◌, length, map, slice_index, refl, ap, ◌∙◌, arith}
use Rattle.std.specs.Prelude.{Bool}
use Rattle.std.proofs.lemmas.Bool.{eq-eqb}
use Rattle.std.proofs.lemmas.List.{map-append}
use Rattle.std.proofs.lemmas.List.Elements.{filter-append}
use Rattle.vx_bits.specs.declared.list.Item.{Item}
use Rattle.vx_table.specs.Scope.{natural}
use Rattle.vx_table.specs.Rewrites.{in_all_turns}
use Rattle.vx_table.proofs.With.{with_field, with_second}
use Rattle.vx_table.specs.Loaded.{numbers_of}
use Rattle.vx_sps.specs.Reshaped.{item}
use Rattle.vx_table.specs.Rewritten.{where_so}

pub where_has : (of v : ℕ) (b : Bool) → with_field of (where_so b (item of v ∷ [])) ≡ where_so b (item of v ∷ [])
where_has of v true = let is = eq-eqb of of refl in rw is refl
where_has of v false = refl

-- ---- turn by turn

-- the numbers of turns
abbrev pub values : (ℕ → ℕ) → ℕ → ℕ → List ℕ
values f turn zero = []
values f turn (suc n) = natural (pos (f turn)) ∷ values f (turn + 1) n

pub length-values : (f : ℕ → ℕ) (turn n : ℕ) → length (values f turn n) ≡ n
length-values f turn zero = refl
length-values f turn (suc n) = let more = length-values f (turn + 1) n in omega (arith, more)

pub values_at : (f : ℕ → ℕ) (turn n i : ℕ) → i < n → slice_index (values f turn n) i ≡ natural (pos (f (turn + i)))
values_at f turn zero i within = absurd (omega (arith, within))
values_at f turn (suc n) zero within = let same : turn + 0 ≡ turn = omega arith in rw same refl
values_at f turn (suc n) (suc i) within = let same : turn + 1 + i ≡ turn + suc i = omega arith in values_at f (turn + 1) n i (omega (arith, within)) ∙ ap (λ k. natural (pos (f k))) same

pub numbers_turns : (of : ℕ) (f : ℕ → ℕ) (items : ℕ → List Item) (turn n : ℕ) → ((i : ℕ) → turn ≤ i → i < turn + n → with_field of (items i) ≡ item of (f i) ∷ [])
    → numbers_of (in_all_turns items turn n) of ≡ values f turn n
numbers_turns of f items turn zero each = refl
numbers_turns of f items turn (suc n) each =
    ap (λ xs. map (λ item. natural item.value) xs) (filter-append (λ item. item.field == of) (items turn) (in_all_turns items (turn + 1) n))
    ∙ map-append (λ item. natural item.value) (with_field of (items turn)) (with_field of (in_all_turns items (turn + 1) n))
    ∙ rw (each turn (omega arith) (omega arith)) (ap (λ xs. natural (pos (f turn)) ∷ xs) (numbers_turns of f items (turn + 1) n (λ i from within. each i (omega (arith, from)) (omega (arith, within)))))

pub no_numbers : (of : ℕ) (items : ℕ → List Item) (turn n : ℕ) → ((i : ℕ) → turn ≤ i → i < turn + n → with_field of (items i) ≡ []) → with_field of (in_all_turns items turn n) ≡ []
no_numbers of items turn zero each = refl
no_numbers of items turn (suc n) each =
    with_second of (items turn) (in_all_turns items (turn + 1) n) (each turn (omega arith) (omega arith))
    ∙ no_numbers of items (turn + 1) n (λ i from within. each i (omega (arith, from)) (omega (arith, within)))
