use Rattle.std.proofs.Common.{◌≡◌, ℕ, ◌+◌, ◌-◌, [], ◌∷◌, ◌++◌, length, arith, ap, sym, ◌∙◌, append_assoc, length-append}
use Rattle.vx_layout.specs.Bounds.{sums_after, repeated_sizes}
use Rattle.vx_layout.proofs.Tiling.{Rises-push, last_after-push, repeated_sizes-more, repeated_sizes-rest}
use Rattle.vx_layout.proofs.bounds.push_repeated.Goals as goal

pub push-requires : goal.push-requires
push-requires c = Rises-push _ _ c.loop-at.invariant.rises c.loop-at.invariant.some (omega arith)

pub loop-at-preserved : goal.loop-at-preserved
loop-at-preserved c =
    let at : ℕ = c.loop-at.at in
    let size : ℕ = c.args.size in
    let left : ℕ = c.args.total - at in
    let grown : c.push.new.self ≡ c.loop-at.bounds ++ (at + size) ∷ [] = c.in_ok-push.ensures.ok in
    let less : c.args.total - (at + size) ≡ left - size = omega arith in
    let more : repeated_sizes size left ≡ size ∷ repeated_sizes size (left - size) = repeated_sizes-more size left c.requires.size c.loop-at-test.true in
    record {
      rises = rw grown (Rises-push c.loop-at.bounds (at + size) c.loop-at.invariant.rises c.loop-at.invariant.some (omega arith));
      some = omega (arith, ap length grown, length-append c.loop-at.bounds ((at + size) ∷ []));
      at_end = rw grown (last_after-push 0 c.loop-at.bounds (at + size));
      within = omega arith;
      whole =
          rw (grown, less, append_assoc)
          (ap (λ t. c.loop-at.bounds ++ t) (ap (λ t. sums_after at t) (sym more)) ∙ c.loop-at.invariant.whole);
    }

pub push-requires-then-at-total : goal.push-requires-then-at-total
push-requires-then-at-total c = Rises-push _ _ c.loop-at.invariant.rises c.loop-at.invariant.some (omega arith)

pub returns-in_ok-push-2 : goal.returns-in_ok-push-2
returns-in_ok-push-2 c =
    let at : ℕ = c.loop-at.at in
    let rest : repeated_sizes c.args.size (c.args.total - at) ≡ (c.args.total - at) ∷ [] =
    repeated_sizes-rest c.args.size (c.args.total - at) (omega arith) (omega arith)
    in
    let to_end : at + (c.args.total - at) ≡ c.args.total = omega arith in
    let one : sums_after at (repeated_sizes c.args.size (c.args.total - at)) ≡ c.args.total ∷ [] =
    ap (λ t. sums_after at t) rest ∙ ap (λ n. n ∷ []) to_end
    in
    let grown : c.push-then-at-total.new.self ≡ c.loop-at.bounds ++ c.args.total ∷ [] = c.in_ok-push-2.ensures.ok in
    grown ∙ (ap (λ t. c.loop-at.bounds ++ t) (sym one) ∙ c.loop-at.invariant.whole)
