-- Numbers are distinct exactly where a set of them has as many.
use Rattle.std.proofs.Common.{◌≡◌, ◌≢◌, ◌==◌, ◌⊎◌, inl, inr, ℕ, Bool, true, false, List, length, refl, subst, sym, ◌∙◌}
use Rattle.std.specs.Bool.{Decides}
use Rattle.std.specs.BTreeSet as sorted
use Rattle.std.specs.BTreeSet.{btree_set_len}
use Rattle.std.proofs.Common.{BTreeSet}
use Rattle.std.specs.Ordering.{eq_by_cmp, nat_cmp}
use Rattle.std.specs.Set.{distinct_count}
use Rattle.std.proofs.lemmas.Bool.{eqb-true, eqb-false}
use Rattle.std.proofs.lemmas.Cmp.{eq_by_cmp_equiv, nat_cmp_total}
use Rattle.std.proofs.lemmas.Map.Made.{AllPairs-from_IsDistinct, IsDistinct-from_AllPairs, IsDistinct-from_count, distinct_count-from_IsDistinct}
use Rattle.std.proofs.lemmas.Map.Lookups.{exact_unsigned}
use Rattle.std.proofs.lemmas.Map.Views.{btree_set_len-from_list, tells_apart}
use Rattle.vx_pic.specs.PictureLayout.{AreDistinct}

same_number : (a b : ℕ) → Decides (eq_by_cmp nat_cmp a b) (a ≡ b)
same_number a b = (tells_apart exact_unsigned a b, λ same. subst (λ x. eq_by_cmp nat_cmp a x ≡ true) same ((eq_by_cmp_equiv nat_cmp_total).refl a))

pub as_many : (xs : List ℕ) (n : BTreeSet ℕ) → sorted.IsFromIterResult nat_cmp xs n → btree_set_len n ≡ length xs → AreDistinct xs
as_many xs n from same =
    AllPairs-from_IsDistinct same_number xs (IsDistinct-from_count (eq_by_cmp_equiv nat_cmp_total) xs (sym (btree_set_len-from_list nat_cmp_total xs n from) ∙ same))

pub fewer : (xs : List ℕ) (n : BTreeSet ℕ) → sorted.IsFromIterResult nat_cmp xs n → btree_set_len n ≢ length xs → ¬ AreDistinct xs
fewer xs n from other distinct =
    other (btree_set_len-from_list nat_cmp_total xs n from ∙ distinct_count-from_IsDistinct (eq_by_cmp_equiv nat_cmp_total) xs (IsDistinct-from_AllPairs same_number xs distinct))

-- numbers are distinct, or they aren't
distinct_by : (xs : List ℕ) (b : Bool) → (distinct_count (eq_by_cmp nat_cmp) xs == length xs) ≡ b → AreDistinct xs ⊎ ¬ AreDistinct xs
distinct_by xs true same = inl (AllPairs-from_IsDistinct same_number xs (IsDistinct-from_count (eq_by_cmp_equiv nat_cmp_total) xs (eqb-true (distinct_count (eq_by_cmp nat_cmp) xs) (length xs) same)))
distinct_by xs false other =
    inr (λ distinct. eqb-false (distinct_count (eq_by_cmp nat_cmp) xs) (length xs) other (distinct_count-from_IsDistinct (eq_by_cmp_equiv nat_cmp_total) xs (IsDistinct-from_AllPairs same_number xs distinct)))

pub distinct_or_not : (xs : List ℕ) → AreDistinct xs ⊎ ¬ AreDistinct xs
distinct_or_not xs = distinct_by xs (distinct_count (eq_by_cmp nat_cmp) xs == length xs) refl
