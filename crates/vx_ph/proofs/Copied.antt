-- A form that reads few numbers has as few bits as at a scope that has these alone.
use Rattle.std.proofs.Common.{◌≡◌, ℕ, ◌≤◌, true, nat_lt, List, [], ◌∷◌, ◌++◌, length, get_or, slice_index, slice_set, refl, ap, sym, ◌∙◌, inl, inr, arith}
use Rattle.std.specs.Prelude.{All, nat_le}
use Rattle.std.proofs.lemmas.Bool.{and_parts, cases_eq, leb-true, ltb-true}
use Rattle.std.proofs.lemmas.Grind.{get_or-set_at}
use Rattle.std.proofs.lemmas.List.{get_or-set_other, length-replicate, length-set}
use Rattle.std.proofs.lemmas.List.Elements.{All-cons, All-head, All-nil, All-tail}
use Rattle.vx_table.specs.laws.Again.{AlwaysShown}
use Rattle.vx_table.specs.Depends.{Agree, DependsOnlyOn}
use Rattle.vx_table.specs.Forms.{Form}
use Rattle.vx_table.specs.Scope.{fresh}
use Rattle.vx_table.specs.laws.Sizes.{Bound, EachSpelling, IsShort, IsWithin, greatest}
use Rattle.vx_table.proofs.Again.{follows_again}
use Rattle.vx_table.proofs.Sizes.{fresh_within, within_set}
use Rattle.vx_pps.proofs.Fields.{all_pass, named, passes}

-- ---- a scope that has some numbers alone

copied : List ℕ → List ℕ → List ℕ
copied s [] = fresh
copied s (n ∷ names) = slice_set (copied s names) n (slice_index s n)

copied_length : (s names : List ℕ) → length (copied s names) ≡ 1024
unfolding copied fresh
copied_length s [] = length-replicate {A = ℕ} 1024 0
copied_length s (n ∷ names) = length-set (copied s names) n (slice_index s n) ∙ copied_length s names

copied_same : (s names : List ℕ) → passes (λ n. nat_lt n 1024) names ≡ true → All (λ n. slice_index (copied s names) n ≡ slice_index s n) names
unfolding copied
copied_same s [] small = All-nil (λ n. slice_index (copied s []) n ≡ slice_index s n)
copied_same s (n ∷ names) small =
    let parts = and_parts (nat_lt n 1024) (passes (λ m. nat_lt m 1024) names) small in
    let rest = copied_same s names parts.1 in
    let low = ltb-true n 1024 parts.0 in
    All-cons (λ m. slice_index (copied s (n ∷ names)) m ≡ slice_index s m) n names
    (get_or-set_at (copied s names) n n (slice_index s n) 0 refl (omega (arith, low, copied_length s names)))
    (λ k d short. elim (cases_eq (get_or names k d) n) [
      | inl is ↦ get_or-set_at (copied s names) n (get_or names k d) (slice_index s n) 0 is (omega (arith, low, copied_length s names)) ∙ ap (slice_index s) (sym is)
      | inr other ↦ get_or-set_other (copied s names) n (get_or names k d) (slice_index s n) 0 other ∙ rest k d short
    ])

copied_within : (bounds : List Bound) (s names : List ℕ) → All (λ n. slice_index s n ≤ greatest bounds n) names → IsWithin bounds (copied s names)
unfolding copied
copied_within bounds s [] few = fresh_within bounds
copied_within bounds s (n ∷ names) few =
    within_set bounds (copied s names) n (slice_index s n) (copied_within bounds s names (All-tail (λ m. slice_index s m ≤ greatest bounds m) n names few)) (All-head (λ m. slice_index s m ≤ greatest bounds m) n names few)

-- ---- at any scope at which these numbers keep no higher bounds

keeps_bound : (low high : List Bound) (s : List ℕ) → IsWithin low s → (n : ℕ) → nat_le (greatest low n) (greatest high n) ≡ true → slice_index s n ≤ greatest high n
keeps_bound low high s within n test = let less = leb-true (greatest low n) (greatest high n) test in let few = within.at n in omega (arith, less, few)

pub few_by_given : (given others : List ℕ) (form : List ℕ → Form (List ℕ)) (low high : List Bound) (bits : ℕ) → passes (λ n. nat_lt n 1024) given ≡ true
    → passes (λ n. nat_le (greatest low n) (greatest high n)) given ≡ true → DependsOnlyOn given others form → AlwaysShown (given ++ others) form
    → ((t : List ℕ) → IsWithin high t → IsShort high bits (form t)) → (s : List ℕ) → length s ≡ 1024 → IsWithin low s → EachSpelling (form s) (λ size end. size ≤ bits)
few_by_given given others form low high bits small keeps depends shown few s long within = record {
  at = λ place values end follows.
      let t : List ℕ = copied s given in
      let same = copied_same s given small in
      let agree : Agree given s t = record {
        size = long ∙ sym (copied_length s given);
        same = λ n there. sym (named (λ m. slice_index t m ≡ slice_index s m) given n same there);
      } in
      let again = follows_again (given ++ others) given (form s) (form t) values end (depends.alike s t agree) (shown.at s) (shown.at t) follows in
      let bounded : IsWithin high t = copied_within high s given (all_pass (λ n. nat_le (greatest low n) (greatest high n)) (λ n. slice_index s n ≤ greatest high n) (keeps_bound low high s within) given keeps) in
      let less = ((few t bounded).at place values again.last again.follows).0 in
      omega (arith, less, ap length (again.bits place));
}
