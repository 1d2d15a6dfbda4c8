use Rattle.std.proofs.Common.{◌≡◌, ℕ, ◌-◌, List, ◌∷◌, ◌++◌, length, sum, get_or, arith, ap, sym, ◌∙◌}
use Rattle.vx_layout.specs.Bounds.{last, sums_after, repeated_sizes}
use Rattle.vx_layout.proofs.Tiling.{sums_after-append_first, last-get_or}
use Rattle.vx_layout.proofs.bounds.tile_bounds.Goals as goal

pub push_repeated-requires-clause-last : goal.push_repeated-requires-clause-last
push_repeated-requires-clause-last c = (omega (arith, ap length c.in_ok-at.ensures.sums), c.in_ok-at.ensures.at.2)

pub returns-clause-bounds : goal.returns-clause-bounds
returns-clause-bounds c =
    let xs : List ℕ = c.args.explicit.now in
    let at : ℕ = c.in_ok-at.at in
    let whole : ℕ = c.args.total in
    let size_is : get_or xs (length xs - 1) 0 ≡ last xs = last-get_or xs c.requires.some in
    let at_is : at ≡ sum xs = c.in_ok-at.ensures.at.0 in
    c.in_ok-push_repeated.ensures
    ∙ (ap (λ b. b ++ sums_after at (repeated_sizes (get_or xs (length xs - 1) 0) (whole - at))) c.in_ok-at.ensures.sums
    ∙ rw (size_is, at_is) (ap (λ t. 0 ∷ t) (sym (sums_after-append_first xs (repeated_sizes (last xs) (whole - sum xs))))))
