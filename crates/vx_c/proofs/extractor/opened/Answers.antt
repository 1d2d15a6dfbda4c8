use Rattle.std.proofs.Common.{rules, ◌≡◌}
use Rattle.vx_c.proofs.extractor.opened.Goals as goal

pub returns-clause-made : goal.returns-clause-made
returns-clause-made c =
    let of = c.in_ok-cutter.ensures in
    (search rules, (c.in_ok-cutter.cutter, search rules, record { cut = λ R. rw c.level_in.ensures at of.cut R; held = of.none.0; end = of.none.1 }))
