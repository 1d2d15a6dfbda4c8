-- What is stated in a slice header, put together item by item.
use Rattle.std.proofs.Common.{◌≡◌, ℕ, ℤ, Bool, List, [], ◌∷◌, ◌++◌, refl, ap, ◌∙◌, arith}
use Rattle.std.proofs.lemmas.List.{append_assoc}
use Rattle.vx_bits.specs.declared.list.Item.{Item}
use Rattle.vx_fields.specs.declared.ph.TheConstants.{ph_explicit_scaling_list_enabled_flag, ph_lmcs_enabled_flag}
use Rattle.vx_fields.specs.declared.sh.TheConstants.{sh_qp_delta}
use Rattle.vx_sh.specs.declared.numbers.SliceNumbers.{SliceNumbers}
use Rattle.vx_sh.specs.declared.shape.ShShape.{ShShape}
use Rattle.vx_sh.specs.InForce.{in_force_at}
use Rattle.vx_sh.specs.Reshaped.{stated_filter_items, sh_subpic_id_items, qp_items, stated_sh_items, use_items}
use Rattle.vx_sh.specs.inner.Sending.{uses_at}
use Rattle.vx_sh.proofs.SameScopes.{header_told}

-- what a slice's scope says of the picture header is what its items say
uses_are : (n : SliceNumbers) (slice : List ℕ) (lmcs scaling : Bool) → slice ≡ (in_force_at n).slice → uses_at slice lmcs scaling ≡ use_items n.header.now.fields lmcs scaling
uses_are n slice lmcs scaling is =
    rw (is, header_told n.nal_type n.sps.now n.pps.now n.header.now ph_lmcs_enabled_flag (omega arith) (omega arith), header_told n.nal_type n.sps.now n.pps.now n.header.now ph_explicit_scaling_list_enabled_flag (omega arith) (omega arith)) refl

pub all_stated : (n : SliceNumbers) (slice : List ℕ) (shape : ShShape) {a b c d e : List Item} {delta : ℤ} → slice ≡ (in_force_at n).slice → a ≡ [] → b ≡ a ++ sh_subpic_id_items n.sps.now shape.subpic_id
    → c ≡ b ++ stated_filter_items n.sps.now shape.filter.now → d ≡ c ++ uses_at slice shape.uses_lmcs shape.uses_scaling → e ≡ d ++ record { field = sh_qp_delta; value = delta } ∷ [] → delta ≡ shape.qp_delta
    → e ≡ stated_sh_items n shape
all_stated n slice shape {d} is none first second third fourth qp =
    let id = sh_subpic_id_items n.sps.now shape.subpic_id in
    let filter = stated_filter_items n.sps.now shape.filter.now in
    let uses = use_items n.header.now.fields shape.uses_lmcs shape.uses_scaling in
    let two = second ∙ ap (λ xs. xs ++ filter) (first ∙ ap (λ xs. xs ++ id) none) in
    let three = third ∙ ap (λ xs. xs ++ uses_at slice shape.uses_lmcs shape.uses_scaling) two ∙ ap (λ xs. (id ++ filter) ++ xs) (uses_are n slice shape.uses_lmcs shape.uses_scaling is) ∙ append_assoc id filter uses in
    fourth ∙ ap (λ v. d ++ record { field = sh_qp_delta; value = v } ∷ []) qp ∙ ap (λ xs. xs ++ qp_items shape.qp_delta) three ∙ append_assoc id (filter ++ uses) (qp_items shape.qp_delta)
