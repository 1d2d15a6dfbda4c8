use Rattle.std.proofs.Common.{◌≡◌, ℕ, Bor, List, map, length, ap, sym, ◌∙◌, arith}
use Rattle.std.specs.Prelude.{option_map}
use Rattle.std.proofs.lemmas.List.{length-map, take_all}
use Rattle.std.proofs.lemmas.Option.{slice_get-map}
use Rattle.vx_frame.specs.Bodies.{with_bodies, with_body}
use Rattle.vx_frame.proofs.Gathered.{with_next}
use Rattle.vx_frame.proofs.filters.add_all.Goals as goal

pub loop-i-preserved : goal.loop-i-preserved
loop-i-preserved c =
    let xs = c.args.more.now in
    c.in_ok-add.ensures ∙ (ap (λ bs. with_body bs c.item.result.now) c.loop-i.invariant
    ∙ sym (with_next _ (map (λ (b : Bor (List ℕ)). b.now) xs) c.loop-i.i c.item.result.now (slice_get-map (λ (b : Bor (List ℕ)). b.now) xs c.loop-i.i ∙ ap (option_map (λ (b : Bor (List ℕ)). b.now)) c.item.ensures.value)))

pub returns : goal.returns
returns c =
    let xs = c.args.more.now in
    let size : length (map (λ (b : Bor (List ℕ)). b.now) xs) ≡ length xs = length-map xs (λ (b : Bor (List ℕ)). b.now) in
    c.loop-i.invariant ∙ ap (with_bodies _) (take_all c.loop-i.i (map (λ (b : Bor (List ℕ)). b.now) xs) (omega (arith, size)))
