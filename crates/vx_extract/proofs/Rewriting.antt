-- Pictures with the same two sets have the same rewritten ones.
use Rattle.std.proofs.Common.{◌≡◌, ℕ, ◌&&◌, true, List, Option, sym, ap, subst, ◌∙◌}
use Rattle.vx_bits.specs.declared.list.Item.{Item}
use Rattle.vx_layout.specs.declared.numbers.Numbers.{Numbers}
use Rattle.vx_sps.specs.declared.shape.SpsShape.{SpsShape}
use Rattle.vx_pps.specs.declared.shape.PpsShape.{PpsShape}
use Rattle.vx_sps.specs.Reshaped as sps_reshaped
use Rattle.vx_pps.specs.Reshaped as pps_reshaped
use Rattle.vx_pic.specs.Sets.{same_items}
use Rattle.vx_pic.specs.PictureLayout.{ids_of, numbers_in}
use Rattle.vx_pic.specs.Parts.{Parts}
use Rattle.vx_pic.proofs.Sent.{items_are}
use Rattle.vx_extract.specs.declared.rewritten.Rewritten.{Rewritten}
use Rattle.vx_extract.specs.Shapes.{sps_shape, pps_shape}
use Rattle.vx_extract.specs.inner.Rewritings.{IsRewritingOf, IsRewriting}
use Rattle.vx_write.proofs.Held.{both}

-- a picture with these
abbrev with : Parts → List Item → List Item → List ℕ → Numbers → Parts
with q s p ids layout = record q { sps = s; pps = p; ids = ids; layout = layout }

module _ (q p : Parts) (sps : q.sps ≡ p.sps) (pps : q.pps ≡ p.pps) (ids : q.ids ≡ p.ids) (layout : q.layout ≡ p.layout) where
  same_sps : (target : ℕ) (level : Option ℕ) → sps_shape q target level ≡ sps_shape p target level
  same_sps target level =
      ap (λ s. sps_shape (with q s q.pps q.ids q.layout) target level) sps
      ∙ ap (λ x. sps_shape (with q p.sps x q.ids q.layout) target level) pps
      ∙ ap (λ x. sps_shape (with q p.sps p.pps x q.layout) target level) ids

  same_pps : (target : ℕ) → pps_shape q target ≡ pps_shape p target
  same_pps target =
      ap (λ s. pps_shape (with q s q.pps q.ids q.layout) target) sps
      ∙ ap (λ x. pps_shape (with q p.sps x q.ids q.layout) target) pps
      ∙ ap (λ x. pps_shape (with q p.sps p.pps x q.layout) target) ids
      ∙ ap (λ x. pps_shape (with q p.sps p.pps p.ids x) target) layout

moved : (target : ℕ) (level : Option ℕ) (q p : Parts) (made : Rewritten) → IsRewritingOf target level q made → q.sps ≡ p.sps → q.pps ≡ p.pps
    → p.layout ≡ numbers_in p.sps p.pps → p.ids ≡ ids_of p.sps p.pps → IsRewritingOf target level p made
moved target level q p made is sps pps layout ids =
    let numbers : q.layout ≡ p.layout =
    is.layout ∙ ap (λ s. numbers_in s q.pps) sps ∙ ap (λ x. numbers_in p.sps x) pps ∙ sym layout in
    let names : q.ids ≡ p.ids =
    is.ids ∙ ap (λ s. ids_of s q.pps) sps ∙ ap (λ x. ids_of p.sps x) pps ∙ sym ids in
    let P : List Item → SpsShape → Type 0 = λ s shape. sps_reshaped.IsReshapedSps s shape made.sps in
    let Q : List Item → PpsShape → Type 0 = λ s shape. pps_reshaped.IsReshapedPps s shape made.pps in
    record {
      source_sps = is.source_sps ∙ sps;
      source_pps = is.source_pps ∙ pps;
      layout = layout;
      ids = ids;
      sps = subst (λ s. P s (sps_shape p target level)) sps (subst (P q.sps) (same_sps q p sps pps names numbers target level) is.sps);
      pps = subst (λ s. Q s (pps_shape p target)) pps (subst (Q q.pps) (same_pps q p sps pps names numbers target) is.pps);
    }

-- kept sets are those of a picture with the same items
pub kept_of : (target : ℕ) (level : Option ℕ) (p : Parts) (made : Rewritten) → IsRewriting target level made
    → (same_items made.source.sps p.sps && same_items made.source.pps p.pps) ≡ true
    → p.layout ≡ numbers_in p.sps p.pps → p.ids ≡ ids_of p.sps p.pps → IsRewritingOf target level p made
kept_of target level p made kept same layout ids =
    let parts = both (same_items made.source.sps p.sps) (same_items made.source.pps p.pps) same in
    let is = kept.is in
    let sps : kept.picture.sps ≡ p.sps = sym is.source_sps ∙ items_are made.source.sps p.sps parts.0 in
    let pps : kept.picture.pps ≡ p.pps = sym is.source_pps ∙ items_are made.source.pps p.pps parts.1 in
    moved target level kept.picture p made is sps pps layout ids
