use Rattle.std.proofs.Common.{◌≡◌, ℕ, Bor, List, map, length, ap, sym, ◌∙◌, arith}
use Rattle.std.specs.Prelude.{option_map}
use Rattle.std.proofs.lemmas.List.{length-map}
use Rattle.std.proofs.lemmas.Option.{slice_get-map}
use Rattle.vx_frame.proofs.Gathered.{among_found, among_none, among_passed}
use Rattle.vx_frame.proofs.filters.is_among.Goals as goal

pub returns-then-same_bytes : goal.returns-then-same_bytes
returns-then-same_bytes c =
    let xs = c.args.bodies.now in
    sym (among_found c.args.body.now (map (λ (b : Bor (List ℕ)). b.now) xs) c.loop-i.i c.item.result.now (slice_get-map (λ (b : Bor (List ℕ)). b.now) xs c.loop-i.i ∙ ap (option_map (λ (b : Bor (List ℕ)). b.now)) c.item.ensures.value)
    (sym c.same_bytes.ensures ∙ c.if-same_bytes.true) c.loop-i.invariant)

pub loop-i-preserved : goal.loop-i-preserved
loop-i-preserved c =
    let xs = c.args.bodies.now in
    among_passed c.args.body.now (map (λ (b : Bor (List ℕ)). b.now) xs) c.loop-i.i c.item.result.now (slice_get-map (λ (b : Bor (List ℕ)). b.now) xs c.loop-i.i ∙ ap (option_map (λ (b : Bor (List ℕ)). b.now)) c.item.ensures.value)
    (sym c.same_bytes.ensures ∙ c.if-same_bytes.false) c.loop-i.invariant

pub returns : goal.returns
returns c =
    let xs = c.args.bodies.now in
    let size : length (map (λ (b : Bor (List ℕ)). b.now) xs) ≡ length xs = length-map xs (λ (b : Bor (List ℕ)). b.now) in
    sym (among_none c.args.body.now (map (λ (b : Bor (List ℕ)). b.now) xs) c.loop-i.i (omega (arith, size)) c.loop-i.invariant)
