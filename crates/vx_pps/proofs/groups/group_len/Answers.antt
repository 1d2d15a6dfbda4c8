use Rattle.std.proofs.Common.{get_or, sym, subst, arith, Contains}
use Rattle.std.proofs.lemmas.List.{get_or_default}
use Rattle.vx_layout.specs.declared.rect.Rect.{Rect}
use Rattle.vx_layout.specs.Layouts.{no_rect}
use Rattle.vx_pps.proofs.Finding.{NoneEnds, group_fits, group_found, none_more, none_yet}
use Rattle.vx_pps.proofs.groups.group_len.Goals as goal

pub loop-i-init : goal.loop-i-init
loop-i-init c = record { none = none_yet c.args.tiles.now c.args.slices.now; rises = λ some. absurd (omega arith) }

pub loop-i-preserved : goal.loop-i-preserved
loop-i-preserved c =
    let r : Rect = get_or c.args.slices.now c.loop-i.i no_rect in
    record {
      none = none_more c.args.tiles.now c.args.slices.now c.loop-i.i r (get_or_default c.args.slices.now c.loop-i.i no_rect r c.loop-i-test.true) c.loop-i-test.true c.loop-i.invariant.none
          (λ low inside. c.if-has.ensures.missing (subst (λ n. Contains c.args.tiles.now.rows n) (sym (c.bottom.ensures low)) inside));
      rises = λ some. c.has.ensures.rises;
    }

pub returns-then-has-clause-group : goal.returns-then-has-clause-group
returns-then-has-clause-group c = λ group behind is same.
    let r : Rect = get_or c.args.slices.now c.loop-i.i no_rect in
    group_found c.args.tiles.now c.args.slices.now c.loop-i.i r group behind c.requires.grid c.has.ensures.rises is same c.loop-i.invariant.none c.loop-i-test.true
    (get_or_default c.args.slices.now c.loop-i.i no_rect r c.loop-i-test.true)
    (λ low. subst (λ n. Contains c.args.tiles.now.rows n) (c.bottom.ensures low) c.if-has.ensures.found)

pub returns-clause-group : goal.returns-clause-group
returns-clause-group c = λ group behind is same.
    absurd
    (group_fits c.args.tiles.now c.args.slices.now no_rect group behind c.requires.grid (c.loop-i.invariant.rises (omega arith)) is same
    (subst (λ n. NoneEnds c.args.tiles.now c.args.slices.now n) (omega arith) c.loop-i.invariant.none))
