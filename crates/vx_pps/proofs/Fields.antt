-- Items of one field, and sets of fields by their lists.
use Rattle.std.proofs.Common.{◌≡◌, inl, inr, ℕ, ◌==◌, ◌&&◌, Bool, true, false, not, IsTrue, List, [], ◌∷◌, slice_index, refl, ap, sym, ◌∙◌}
use Rattle.std.specs.Prelude.{All, filter}
use Rattle.std.proofs.lemmas.Bool.{and_parts, both_ways, cases_Bool, cases_eq, eqb-true, not-true}
use Rattle.std.proofs.lemmas.List.Elements.{All-cons, All-head, All-nil, All-tail}
use Rattle.vx_bits.specs.declared.list.Item.{Item}
use Rattle.vx_table.specs.Depends.{Agree, has}
use Rattle.vx_table.specs.Shown.{shown_items}
use Rattle.vx_table.proofs.Agreeing.{others_too}

-- ---- items of one field

abbrev pub with_field : ℕ → List Item → List Item
with_field of items = filter (λ item. item.field == of) items

-- they are among those of each set of fields that has it
pub shown_with : (names : List ℕ) (of : ℕ) (items : List Item) → IsTrue (has names of) → with_field of (shown_items names items) ≡ with_field of items
shown_with names of [] inside = refl
shown_with names of (x ∷ items) inside = elim (cases_Bool (x.field == of)) [
  | inl is ↦ let shown : has names x.field ≡ true = ap (λ n. has names n) (eqb-true x.field of is) ∙ inside in rw (shown, is) (ap (λ xs. x ∷ xs) (shown_with names of items inside))
  | inr other ↦ elim (cases_Bool (has names x.field)) [
    | inl shown ↦ rw (shown, other) (shown_with names of items inside)
    | inr hidden ↦ rw (hidden, other) (shown_with names of items inside)
  ]
]

pub same_with : (names : List ℕ) (of : ℕ) (items others : List Item) → IsTrue (has names of) → shown_items names items ≡ shown_items names others → with_field of items ≡ with_field of others
same_with names of items others inside same = sym (shown_with names of items inside) ∙ ap (λ xs. with_field of xs) same ∙ shown_with names of others inside

-- ---- sets by their lists

-- what holds of each of some names holds of each name of their set
pub named : (P : ℕ → Type 0) (names : List ℕ) (n : ℕ) → All P names → IsTrue (has names n) → P n
named P [] n all is = absurd (both_ways _ refl is)
named P (m ∷ more) n all is = elim (cases_eq n m) [
  | inl same ↦ rw same (All-head P m more all)
  | inr other ↦ named P more n (All-tail P m more all) (others_too more m n other is)
]

abbrev pub passes : (ℕ → Bool) → List ℕ → Bool
passes test [] = true
passes test (n ∷ ns) = test n && passes test ns

pub all_pass : (test : ℕ → Bool) (P : ℕ → Type 0) → ((n : ℕ) → test n ≡ true → P n) → (ns : List ℕ) → passes test ns ≡ true → All P ns
all_pass test P each [] pass = All-nil P
all_pass test P each (n ∷ ns) pass = let parts = and_parts (test n) (passes test ns) pass in All-cons P n ns (each n parts.0) (all_pass test P each ns parts.1)

-- scopes that agree on more agree on fewer
pub agree_fewer : (names known s t : List ℕ) → passes (λ n. has known n) names ≡ true → Agree known s t → Agree names s t
agree_fewer names known s t pass agree = record {
  size = agree.size;
  same = λ n is. named (λ m. slice_index s m ≡ slice_index t m) names n (all_pass (λ m. has known m) (λ m. slice_index s m ≡ slice_index t m) (λ m h. agree.same m h) names pass) is;
}

-- the items of one set are none of another
pub apart : (names fields : List ℕ) (items : List Item) → passes (λ n. not (has names n)) fields ≡ true → shown_items names (shown_items fields items) ≡ []
apart names fields [] none = refl
apart names fields (x ∷ items) none = elim (cases_Bool (has fields x.field)) [
  | inl is ↦
      let out : has names x.field ≡ false = named (λ m. has names m ≡ false) fields x.field (all_pass (λ m. not (has names m)) (λ m. has names m ≡ false) (λ m h. not-true (has names m) h) fields none) is in
      rw (is, out) (apart names fields items none)
  | inr is_not ↦ rw is_not (apart names fields items none)
]
