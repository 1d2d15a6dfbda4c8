use Rattle.std.proofs.Common.{◌≡◌, ℕ, Bor, List, map, length, slice_index, ap, sym, ◌∙◌, arith}
use Rattle.std.specs.Prelude.{option_map}
use Rattle.std.proofs.lemmas.List.{length-map}
use Rattle.std.proofs.lemmas.Option.{slice_get-map}
use Rattle.vx_merge.proofs.SliceFilters.{id_found, id_none, id_passed}
use Rattle.vx_merge.proofs.slice_shape.id_of.Goals as goal

pub returns-then-same_bytes : goal.returns-then-same_bytes
returns-then-same_bytes c =
    let xs = c.args.named.now.bodies in
    ap (λ xs. slice_index xs c.loop-i.i) c.as_slice-ids.ensures.value ∙ id_found (map (λ (b : Bor (List ℕ)). b.now) xs)
    c.args.named.now.ids.items c.args.body.now c.loop-i.i c.item.result.now
    (slice_get-map (λ (b : Bor (List ℕ)). b.now) xs c.loop-i.i ∙ ap (option_map (λ (b : Bor (List ℕ)). b.now)) c.item.ensures.value)
    (omega (arith, c.requires)) (sym c.same_bytes.ensures ∙ c.if-same_bytes.true) c.loop-i.invariant

pub loop-i-preserved : goal.loop-i-preserved
loop-i-preserved c =
    let xs = c.args.named.now.bodies in
    id_passed (map (λ (b : Bor (List ℕ)). b.now) xs) c.args.named.now.ids.items c.args.body.now c.loop-i.i c.item.result.now
    (slice_get-map (λ (b : Bor (List ℕ)). b.now) xs c.loop-i.i ∙ ap (option_map (λ (b : Bor (List ℕ)). b.now)) c.item.ensures.value)
    (omega (arith, c.requires)) (sym c.same_bytes.ensures ∙ c.if-same_bytes.false) c.loop-i.invariant

pub returns : goal.returns
returns c =
    let xs = c.args.named.now.bodies in
    let size : length (map (λ (b : Bor (List ℕ)). b.now) xs) ≡ length xs = length-map xs (λ (b : Bor (List ℕ)). b.now) in
    id_none (map (λ (b : Bor (List ℕ)). b.now) xs) c.args.named.now.ids.items c.args.body.now c.loop-i.i (omega (arith, size))
    c.loop-i.invariant
