-- Items loaded into a scope from a field on.
use Rattle.std.proofs.Common.{◌≡◌, ℕ, ◌<◌, ◌≤◌, inl, inr, List, ◌∷◌, length, ◌+◌, ◌-◌, ◌++◌, take, drop, slice_set, refl, ap, sym, subst, ◌∙◌, arith}
use Rattle.std.proofs.lemmas.Bool.{cases_lt, lt-ltb, le-ltb}
use Rattle.std.proofs.lemmas.List.{set-append_right, drop-set-lt, drop-set-add, length-take}
use Rattle.std.specs.Prelude.{Some, slice_get}
use Rattle.vx_bits.specs.declared.list.Item.{Item}
use Rattle.vx_table.specs.Scope.{natural, fresh, loaded, joined}
use Rattle.vx_table.specs.inner.Loading.{loaded_at}
use Rattle.vx_table.proofs.Places.{dropped_all, dropped_at}

-- a number below the field is forgotten
join_below : (from : ℕ) (s t : List ℕ) (n v : ℕ) → n < from → joined from s (slice_set t n v) ≡ joined from s t
join_below from s t n v below = ap (λ u. take from s ++ u) (drop-set-lt from t n v below)

-- and one from it on is set
join_set : (from : ℕ) (s t : List ℕ) (n v : ℕ) → from ≤ length s → from ≤ n → joined from s (slice_set t n v) ≡ slice_set (joined from s t) n v
join_set from s t n v within past =
    let i : ℕ = n - from in
    let at : from + i ≡ n = omega (arith, past) in
    let size : length (take from s) ≡ from = omega (arith, length-take from s, within) in
    let behind : drop from (slice_set t n v) ≡ slice_set (drop from t) i v = subst (λ m. drop from (slice_set t m v) ≡ slice_set (drop from t) i v) at (drop-set-add from t i v) in
    ap (λ u. take from s ++ u) behind ∙ sym (set-append_right (take from s) (drop from t) from n v size past)

-- Of a scope: from the field on it has the numbers of another one, into which the items that are left are still to be loaded.
pub record IsFrom (from : ℕ) (old new all : List ℕ) (left : List Item) : Type 0 where
  pub within : from ≤ length old
  pub other : List ℕ
  pub is : new ≡ joined from old other
  pub comes_to : loaded other left ≡ all

pub from_first : (from : ℕ) (old : List ℕ) (items : List Item) → from ≤ length old → IsFrom from old (joined from old fresh) (loaded fresh items) items
from_first from old items within = record { within = within; other = fresh; is = refl; comes_to = refl }

-- an item is loaded, or passed over where its field is below
from_next : (from : ℕ) (old new all : List ℕ) (item : Item) (more : List Item) → IsFrom from old new all (item ∷ more)
    → IsFrom from old (loaded_at from new item) all more
from_next from old new all item more p = record {
  within = p.within;
  other = slice_set p.other item.field (natural item.value);
  is = elim (cases_lt item.field from) [
    | inl below ↦ rw (lt-ltb item.field from below) (p.is ∙ sym (join_below from old p.other item.field (natural item.value) below))
    | inr past ↦ rw (le-ltb item.field from past) (ap (λ s. slice_set s item.field (natural item.value)) p.is
        ∙ sym (join_set from old p.other item.field (natural item.value) p.within past))
  ];
  comes_to = p.comes_to;
}

-- what a turn of the loop does, at the item of its number
pub from_turn : (from : ℕ) (old new all : List ℕ) (items : List Item) (i : ℕ) (item : Item) → slice_get items i ≡ Some item
    → IsFrom from old new all (drop i items) → IsFrom from old (loaded_at from new item) all (drop (i + 1) items)
from_turn from old new all items i item is p = from_next from old new all item (drop (i + 1) items) (rw (dropped_at items i item is) at p)

pub from_all : (from : ℕ) (old new all : List ℕ) (items : List Item) (i : ℕ) → length items ≤ i → IsFrom from old new all (drop i items)
    → new ≡ joined from old all
from_all from old new all items i past p = p.is ∙ ap (joined from old) (rw (dropped_all items i past) at p.comes_to)
