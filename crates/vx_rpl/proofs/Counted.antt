-- Counting the long-term entries of a list, one by one.
use Rattle.std.proofs.Common.{◌≡◌, ℕ, ◌+◌, cond, List, take, count_by, slice_get, Some, ◌∙◌, ap}
use Rattle.std.proofs.lemmas.List.Sums.{sum_by_more}
use Rattle.std.proofs.lemmas.Option.{slice_get_within, get_or_from_slice_get}
use Rattle.vx_table.specs.Scope.{one_if}
use Rattle.vx_rpl.specs.declared.entry.RefEntry.{RefEntry}
use Rattle.vx_rpl.specs.Lists.{is_long}

pub count_more : (xs : List RefEntry) (i : ℕ) (x : RefEntry) → slice_get xs i ≡ Some x
    → count_by is_long (take (i + 1) xs) ≡ count_by is_long (take i xs) + one_if (is_long x)
count_more xs i x e = sum_by_more (λ y. cond (is_long y) 1 0) xs i x (slice_get_within xs i x e)
    ∙ ap (λ y. count_by is_long (take i xs) + cond (is_long y) 1 0) (get_or_from_slice_get xs i x x e)
