use Rattle.std.proofs.Common.{rules, ◌≡◌, ◌∙◌, map}
use Rattle.vx_c.specs.Merger.{corner_of}
use Rattle.vx_c.proofs.merger.opened.Goals as goal

pub returns-clause-made : goal.returns-clause-made
returns-clause-made c =
    let of = c.in_ok-mixer.ensures in
    let are : c.deref-2.result.now ≡ map corner_of c.args.corners.now = search rules in (
      search rules,
      (
        c.in_ok-mixer.mixer,
        search rules,
        record {
          corners_ = of.task.0 ∙ are;
          level_ = of.task.1 ∙ c.level_in.ensures;
          mixed = λ R. rw are at of.mixed R;
          held = of.none.0;
          end = of.none.1;
        },
      ),
    )
