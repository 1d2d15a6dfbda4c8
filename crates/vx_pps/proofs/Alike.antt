-- Alike forms keep the same.
use Rattle.std.proofs.Common.{◌≡◌, ℕ, ℤ, IsTrue, List, ◌++◌, sym, ap, ◌∙◌, refl}
use Rattle.std.proofs.lemmas.Bool.{false≢true}
use Rattle.vx_table.specs.Depends.{Alike, at_ends, both, has, hidden_left, hidden_right}
use Rattle.vx_table.specs.EachField.{EachField}
use Rattle.vx_table.specs.Forms.{Form}
use Rattle.vx_table.specs.Kept.{kept_along, kept_item}
use Rattle.vx_table.specs.Values.{Follows, to_end, through}

-- those all of whose fields are shown keep the same of the same values
pub kept_alike : {shown known : List ℕ} {f g : Form (List ℕ)} {v : List ℤ} {a b : List ℕ} → Alike shown known f g → EachField (λ cell. IsTrue (has shown cell.field)) f → EachField (λ cell. IsTrue (has shown cell.field)) g
    → Follows f v a → Follows g v b → kept_along f v ≡ kept_along g v
kept_alike (at_ends agree) all each to_end to_end = refl
kept_alike (both is alike) all each (through {cell} {v} value on) (through holds along) = ap (λ x. kept_item cell v ++ x) (kept_alike (alike v) (all.1 v) (each.1 v) on along)
kept_alike (hidden_left is_not alike) all each on along = absurd (false≢true (sym is_not ∙ all.0))
kept_alike (hidden_right is_not alike) all each on along = absurd (false≢true (sym is_not ∙ each.0))
