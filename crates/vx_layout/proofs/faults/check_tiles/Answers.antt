use Rattle.std.proofs.Common.{◌<◌, length, arith, refl, sym, subst}
use Rattle.std.proofs.lemmas.List.Elements.{AllWithin-more, at_read, All-from_all_within, AllWithin-upto}
use Rattle.vx_layout.specs.declared.rect.Rect.{Rect}
use Rattle.vx_layout.specs.Faults.{SplitsWell, width, height}
use Rattle.vx_layout.specs.Rects.{IsPart}
use Rattle.vx_layout.proofs.Splitting.{SplitsWell-at, SplitsWell-refuted}
use Rattle.vx_layout.proofs.faults.check_tiles.Goals as goal

pub returns-then-not-splits_by-clause-fault : goal.returns-then-not-splits_by-clause-fault
returns-then-not-splits_by-clause-fault c =
    let n = c.args.numbers.now in
    let s : Rect = c.item.result in
    let short : c.loop-i.i < length n.subpics = omega arith in
    let part : IsPart (width n) (height n) s = subst (λ r. IsPart (width n) (height n) r) (sym c.item.ensures.index) (c.requires.parts c.loop-i.i s short) in (
      refl,
      λ all.
          SplitsWell-refuted n.columns n.rows _ _ s c.next_bounds.ensures.rises c.next_bounds-2.ensures.rises (rw c.as_slice.ensures.value c.in_ok-columns.ensures.next) (rw c.as_slice-in-loop-i.ensures.value c.in_ok-rows.ensures.next) part
          (sym c.if-not-splits_by.ensures) (subst (λ r. SplitsWell n.columns n.rows r) (sym c.item.ensures.index) (all c.loop-i.i s short)),
    )

pub loop-i-preserved : goal.loop-i-preserved
loop-i-preserved c =
    let n = c.args.numbers.now in
    let s : Rect = c.item.result in
    let short : c.loop-i.i < length n.subpics = omega arith in
    let part : IsPart (width n) (height n) s = subst (λ r. IsPart (width n) (height n) r) (sym c.item.ensures.index) (c.requires.parts c.loop-i.i s short) in
    AllWithin-more (SplitsWell n.columns n.rows) n.subpics 0 c.loop-i.i c.loop-i.invariant
    (at_read n.subpics (SplitsWell n.columns n.rows) c.loop-i.i s short c.item.ensures.index
    (SplitsWell-at n.columns n.rows _ _ s (rw c.as_slice.ensures.value c.in_ok-columns.ensures.next) (rw c.as_slice-in-loop-i.ensures.value c.in_ok-rows.ensures.next) part (sym c.if-not-splits_by.ensures)))

pub returns-clause-split : goal.returns-clause-split
returns-clause-split c =
    let n = c.args.numbers.now in
    All-from_all_within (SplitsWell n.columns n.rows) n.subpics (AllWithin-upto (SplitsWell n.columns n.rows) n.subpics 0 c.loop-i.i (length n.subpics) (omega arith) c.loop-i.invariant)
