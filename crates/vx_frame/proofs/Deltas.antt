-- Sums of the deltas of entries, and of their cycles.
use Rattle.std.proofs.Common.{◌≡◌, ℕ, ℤ, pos, neg_ℤ, ◌+◌, ◌+ℤ◌, ◌≤ℤ◌, List, [], ◌∷◌, ◌++◌, take, slice_get, get_or, Some, ap, ◌∙◌, refl, arith}
use Rattle.std.proofs.lemmas.Grind.{common_steps}
use Rattle.std.proofs.lemmas.List.{take_more}
use Rattle.std.proofs.lemmas.List.Sums.{sum_by_push}
use Rattle.std.proofs.lemmas.Option.{get_or_from_slice_get, slice_get_within}
use Rattle.vx_rpl.specs.declared.entry.RefEntry.{RefEntry}
use Rattle.vx_frame.specs.Collocated.{cycles_of, cycles_to, delta_from, delta_of, delta_to}

delta_push : (base : ℤ) (entries : List RefEntry) (x : RefEntry) → delta_from base (entries ++ x ∷ []) ≡ delta_from base entries +ℤ delta_of x
delta_push base [] x = refl
delta_push base (e ∷ entries) x = delta_push (base +ℤ delta_of e) entries x

pub delta_more : (entries : List RefEntry) (i : ℕ) (x : RefEntry) → slice_get entries i ≡ Some x → delta_to (take (i + 1) entries) ≡ delta_to (take i entries) +ℤ delta_of x
delta_more entries i x at =
    let is : get_or entries i x ≡ x = get_or_from_slice_get entries i x x at in
    ap delta_to (take_more entries i x (slice_get_within entries i x at))
    ∙ (delta_push (pos 0) (take i entries) (get_or entries i x) ∙ ap (λ y. delta_to (take i entries) +ℤ delta_of y) is)

-- ---- how large a sum is

pub low_sum : (a b : ℕ) (s d : ℤ) → neg_ℤ (pos a) ≤ℤ s → neg_ℤ (pos b) ≤ℤ d → neg_ℤ (pos (a + b)) ≤ℤ (s +ℤ d)
low_sum a b s d l m = grind (arith, common_steps)

pub high_sum : (a b : ℕ) (s d : ℤ) → s ≤ℤ pos a → d ≤ℤ pos b → (s +ℤ d) ≤ℤ pos (a + b)
high_sum a b s d l m = grind (arith, common_steps)

-- ---- sums of cycles

pub cycles_more : (entries : List RefEntry) (i : ℕ) (x : RefEntry) → slice_get entries i ≡ Some x → cycles_to (take (i + 1) entries) ≡ cycles_to (take i entries) + cycles_of x
cycles_more entries i x at =
    let is : get_or entries i x ≡ x = get_or_from_slice_get entries i x x at in
    ap cycles_to (take_more entries i x (slice_get_within entries i x at))
    ∙ (sum_by_push cycles_of (take i entries) (get_or entries i x) ∙ ap (λ y. cycles_to (take i entries) + cycles_of y) is)
