use Rattle.std.proofs.Common.{rules, inl, inr, w64}
use Rattle.std.proofs.lemmas.Int.{to_z-of_z}
use mir.Val.{SFits}
use Rattle.vx_table.specs.Spelling.{HasCode}
use Rattle.vx_table.proofs.Values.{fixed_range, golomb_range, signed_range, gap_range, chain}
use Rattle.vx_table.proofs.ranges.has_code.Goals as goal

pub returns-in-Fixed : goal.returns-in-Fixed
returns-in-Fixed c =
    let fits : SFits w64 c.args.value = search rules in
    let wide : SFits w64 c.largest.result = search rules in
    let inside = rw (to_z-of_z w64 c.args.value fits, to_z-of_z w64 c.largest.result wide, c.largest.ensures) at c.is_within.ensures in
    rw c.in-Fixed.is (chain inside (fixed_range c.in-Fixed.width c.args.value))

pub returns-in-Golomb : goal.returns-in-Golomb
returns-in-Golomb c =
    let fits : SFits w64 c.args.value = search rules in
    let inside = rw (to_z-of_z w64 c.args.value fits) at c.is_within-in-Golomb.ensures in
    rw c.in-Golomb.is (chain inside (golomb_range c.args.value))

pub returns-in-SignedGolomb : goal.returns-in-SignedGolomb
returns-in-SignedGolomb c =
    let fits : SFits w64 c.args.value = search rules in
    let inside = rw (to_z-of_z w64 c.args.value fits) at c.is_within-in-SignedGolomb.ensures in
    rw c.in-SignedGolomb.is (chain inside (signed_range c.args.value))

pub returns-in-Zeros : goal.returns-in-Zeros
unfolding HasCode
returns-in-Zeros c =
    let fits : SFits w64 c.args.value = search rules in
    let inside = rw (to_z-of_z w64 c.args.value fits) at c.is_within-in-Zeros.ensures in
    elim c.in-Zeros.is [
      | inl is ↦ rw is (chain inside (gap_range c.args.value))
      | inr others ↦ elim others [
        | inl is ↦ rw is (chain inside (gap_range c.args.value))
        | inr rest ↦ elim rest [
          | inl is ↦ rw is (chain inside (gap_range c.args.value))
          | inr is ↦ rw is (chain inside (gap_range c.args.value))
        ]
      ]
    ]

pub returns-in-Refused : goal.returns-in-Refused
unfolding HasCode
returns-in-Refused c = rw c.in-Refused.is (λ h. search rules, λ h. absurd h)
