use Rattle.std.proofs.Common.{◌≡◌, ℕ, ◌+◌, ◌<◌, List, [], ◌∷◌, ◌++◌, length, sum, take, get_or, arith, ap, sym, ◌∙◌}
use Rattle.std.proofs.lemmas.List.{take_more}
use Rattle.std.proofs.lemmas.List.Sums.{sum_by_more}
use Rattle.vx_layout.specs.Bounds.{sums_after}
use Rattle.vx_layout.proofs.Tiling.{Rises-push, last_after-push, sums_after-push}
use Rattle.vx_layout.proofs.bounds.push_explicit.Goals as goal

pub push-requires : goal.push-requires
push-requires c =
    Rises-push _ _ c.loop-i.invariant.rises (omega (arith, ap length c.loop-i.invariant.bounds_are))
    (omega (arith, c.requires.sizes c.loop-i.i 0 c.loop-i-test.true))

pub loop-i-preserved : goal.loop-i-preserved
loop-i-preserved c =
    let xs : List ℕ = c.args.explicit.now in
    let x : ℕ = get_or xs c.loop-i.i 0 in
    let here : c.loop-i.i < length xs = c.loop-i-test.true in
    let more : sum (take (c.loop-i.i + 1) xs) ≡ sum (take c.loop-i.i xs) + x = sum_by_more (λ n. n) xs c.loop-i.i 0 here in
    let front : take (c.loop-i.i + 1) xs ≡ take c.loop-i.i xs ++ x ∷ [] = take_more xs c.loop-i.i 0 here in
    let grown : c.push.new.self ≡ c.loop-i.bounds ++ (c.loop-i.at + x) ∷ [] = c.in_ok-push.ensures.ok in
    let sums : sums_after 0 (take (c.loop-i.i + 1) xs) ≡ sums_after 0 (take c.loop-i.i xs) ++ (c.loop-i.at + x) ∷ [] =
    rw (front, c.loop-i.invariant.at_is) (sums_after-push 0 (take c.loop-i.i xs) x ∙ ap (λ n. sums_after 0 (take c.loop-i.i xs) ++ n ∷ []) (omega arith))
    in
    record {
      at_is = omega arith;
      within = omega arith;
      bounds_are = grown ∙ (ap (λ b. b ++ (c.loop-i.at + x) ∷ []) c.loop-i.invariant.bounds_are ∙ ap (λ t. 0 ∷ t) (sym sums));
      rises =
          rw grown
          (Rises-push c.loop-i.bounds (c.loop-i.at + x) c.loop-i.invariant.rises (omega (arith, ap length c.loop-i.invariant.bounds_are))
          (omega (arith, c.requires.sizes c.loop-i.i 0 here)));
      at_end = rw grown (last_after-push 0 c.loop-i.bounds (c.loop-i.at + x));
    }
