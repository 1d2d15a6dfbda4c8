-- What isn't unlike is the same: where two things can be told to be the same or not.
use Rattle.std.proofs.Common.{◌≡◌, ℕ, Bool, true, false, List, [], ◌∷◌, get_or, drop, Option, Some, None, unwrap_or, refl, ap, sym, ◌∙◌, inl, inr}
use Rattle.std.specs.Prelude.{◌⊎◌}
use Rattle.std.proofs.lemmas.Bool.{cases_eq}
use Rattle.vx_rpl.specs.declared.entry.RefEntry.{RefEntry}
use Rattle.vx_rpl.specs.declared.entry.RefEntry.TheVariants.{Short, Long}
use Rattle.vx_rpl.specs.declared.entry.RefLists.{RefLists}

-- any two are the same, or they aren't
abbrev pub IsDecided : Type 0 → Type 0
IsDecided A = (a b : A) → (a ≡ b) ⊎ (a ≡ b → ⊥)

pub alike : {A : Type 0} → IsDecided A → (a b : A) → ¬ (a ≡ b → ⊥) → a ≡ b
alike decide a b none = elim (decide a b) [ inl same ↦ same | inr other ↦ absurd (none other) ]

-- ---- numbers, flags, pairs, lists

pub numbers : IsDecided ℕ
numbers = cases_eq

pub flags : IsDecided Bool
flags true true = inl refl
flags true false = inr (λ same. cc)
flags false true = inr (λ same. cc)
flags false false = inl refl

pub pairs : {A B : Type 0} → IsDecided A → IsDecided B → IsDecided (A × B)
pairs {A} {B} first second a b =
    elim (first a.0 b.0) [
      | inr other ↦ inr (λ same. other (ap (λ (p : A × B). p.0) same))
      | inl left ↦
          elim (second a.1 b.1) [
            | inr other ↦ inr (λ same. other (ap (λ (p : A × B). p.1) same))
            | inl right ↦ inl (ap (λ x. (x, a.1)) left ∙ ap (λ y. (b.0, y)) right)
          ]
    ]

pub lists : {A : Type 0} → IsDecided A → IsDecided (List A)
lists each [] [] = inl refl
lists each [] (y ∷ ys) = inr (λ same. cc)
lists each (x ∷ xs) [] = inr (λ same. cc)
lists each (x ∷ xs) (y ∷ ys) =
    elim (each x y) [
      | inr other ↦ inr (λ same. other (ap (λ zs. get_or zs 0 x) same))
      | inl front ↦
          elim (lists each xs ys) [
            | inr other ↦ inr (λ same. other (ap (λ zs. drop 1 zs) same))
            | inl rest ↦ inl (ap (λ z. z ∷ xs) front ∙ ap (λ zs. y ∷ zs) rest)
          ]
    ]

pub options : {A : Type 0} → IsDecided A → IsDecided (Option A)
options each None None = inl refl
options each None (Some b) = inr (λ same. cc)
options each (Some a) None = inr (λ same. cc)
options each (Some a) (Some b) =
    elim (each a b) [
      | inl same ↦ inl (ap Some same)
      | inr other ↦ inr (λ same. other (ap (λ o. unwrap_or o a) same))
    ]

-- what another thing tells, from which it is got back
pub by_code : {A B : Type 0} (code : A → B) (back : B → A) → ((a : A) → back (code a) ≡ a) → IsDecided B → IsDecided A
by_code code back undo decide a b =
    elim (decide (code a) (code b)) [
      | inl same ↦ inl (sym (undo a) ∙ (ap back same ∙ undo b))
      | inr other ↦ inr (λ same. other (ap code same))
    ]

-- ---- reference picture lists

abbrev code_of : RefEntry → ℕ × (Bool × Option (Option ℕ))
code_of (Short abs sign) = (abs, (sign, None))
code_of (Long lsb msb) = (lsb, (false, Some msb))

abbrev entry_of : ℕ → Bool → Option (Option ℕ) → RefEntry
entry_of n sign None = Short n sign
entry_of n sign (Some msb) = Long n msb

undo_entry : (e : RefEntry) → entry_of (code_of e).0 (code_of e).1.0 (code_of e).1.1 ≡ e
undo_entry (Short abs sign) = refl
undo_entry (Long lsb msb) = refl

entries : IsDecided RefEntry
entries = by_code code_of (λ p. entry_of p.0 p.1.0 p.1.1) undo_entry (pairs numbers (pairs flags (options (options numbers))))

pub ref_lists : IsDecided RefLists
ref_lists =
    by_code (λ (l : RefLists). (l.first, l.second)) (λ p. record { first = p.0; second = p.1 }) (λ l. refl) (pairs (lists entries) (lists entries))
