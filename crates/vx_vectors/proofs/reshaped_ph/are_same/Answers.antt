use Rattle.std.proofs.Common.{◌≡◌, ◌∙◌, ℕ, ℤ, ◌==◌, ◌&&◌, ap, ap₂, sym}
use Rattle.std.specs.Bool.{Decides}
use Rattle.std.specs.Ordering.{int_eq}
use Rattle.std.proofs.lemmas.Bool.{OnTrue_from}
use Rattle.std.proofs.lemmas.Bool.Decides.{Decides-and, Decides-eqb, Decides-int_eq, Decides-like}
use Rattle.std.proofs.lemmas.Slice.Eq.{slice_eq-Decides}
use Rattle.vx_bits.specs.declared.list.Item.{Item}
use Rattle.vx_vectors.proofs.reshaped_ph.are_same.Goals as goal

abbrev made : ℕ → ℤ → Item
made field value = record { field = field; value = value }

same_item : (a b : Item) → Decides (a.field == b.field && int_eq a.value b.value) (a ≡ b)
same_item a b =
    Decides-like _ (λ p. ap₂ made p.0 p.1) (λ e. (ap (λ (i : Item). i.field) e, ap (λ (i : Item). i.value) e))
    (Decides-and _ _ (Decides-eqb a.field b.field) (Decides-int_eq a.value b.value))

pub returns : goal.returns
returns c = OnTrue_from c.eq.result _ (λ same. sym c.as_slice.ensures ∙ (slice_eq-Decides same_item _ _ _ c.eq.ensures).0 same ∙ c.as_slice-2.ensures)
