use Rattle.std.proofs.Common.{◌≡◌, ℕ, Bor, List, ◌+◌, map, length, take, ap, sym, ◌∙◌, below_more, arith}
use Rattle.std.specs.Prelude.{flat_map}
use Rattle.std.proofs.lemmas.List.{length-map, take_all}
use Rattle.std.proofs.lemmas.Option.{none-some}
use Rattle.vx_frame.specs.Bodies.{filters_in, once, with_bodies}
use Rattle.vx_frame.specs.Rules.{too_many_filters}
use Rattle.vx_frame.proofs.Gathered.{flat_read, once_more}
use Rattle.vx_frame.proofs.filters.round_filters.Goals as goal

pub returns-then-are_too_many : goal.returns-then-are_too_many
returns-then-are_too_many c =
    let round = c.args.round.now in
    let k : ℕ = c.loop-k.k in
    let more : map (λ (b : Bor (List ℕ)). b.now) c.add_picture.new.bodies ≡ once (flat_map filters_in (take (k + 1) round)) =
    c.in_ok-add_picture.ensures ∙ (ap (λ bs. with_bodies bs (filters_in c.index-round-k.result)) c.loop-k.invariant.0
    ∙ (sym (once_more (flat_map filters_in (take k round)) (filters_in c.index-round-k.result)) ∙ ap once (sym (flat_read filters_in round k c.index-round-k.result c.loop-k-test.true c.index-round-k.is)))) in
    let size : length (map (λ (b : Bor (List ℕ)). b.now) c.add_picture.new.bodies) ≡ length c.add_picture.new.bodies = length-map c.add_picture.new.bodies (λ (b : Bor (List ℕ)). b.now) in
    record {
      too_many = record { in_range = c.loop-k-test.true; breaks = let many = c.if-are_too_many.ensures.many in let all = ap length more in omega (arith, all, size, many); lower = c.loop-k.invariant.1 };
      all = λ none. absurd (none-some k (sym none));
    }

pub loop-k-preserved : goal.loop-k-preserved
loop-k-preserved c =
    let round = c.args.round.now in
    let k : ℕ = c.loop-k.k in
    let more : map (λ (b : Bor (List ℕ)). b.now) c.add_picture.new.bodies ≡ once (flat_map filters_in (take (k + 1) round)) =
    c.in_ok-add_picture.ensures ∙ (ap (λ bs. with_bodies bs (filters_in c.index-round-k.result)) c.loop-k.invariant.0
    ∙ (sym (once_more (flat_map filters_in (take k round)) (filters_in c.index-round-k.result)) ∙ ap once (sym (flat_read filters_in round k c.index-round-k.result c.loop-k-test.true c.index-round-k.is)))) in
    let size : length (map (λ (b : Bor (List ℕ)). b.now) c.add_picture.new.bodies) ≡ length c.add_picture.new.bodies = length-map c.add_picture.new.bodies (λ (b : Bor (List ℕ)). b.now) in
    (more, below_more (λ j. ¬ (too_many_filters round).breaks j) k c.loop-k.invariant.1 (λ many. let all = ap length more in c.if-are_too_many.ensures.few (omega (arith, many, all, size))))

pub returns : goal.returns
returns c = record {
  too_many = λ k short. c.loop-k.invariant.1 k (omega (arith, short));
  all = λ none. c.loop-k.invariant.0 ∙ ap (λ xs. once (flat_map filters_in xs)) (take_all c.loop-k.k c.args.round.now (omega arith));
}
