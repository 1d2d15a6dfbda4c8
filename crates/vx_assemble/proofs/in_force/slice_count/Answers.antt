use Rattle.std.proofs.Common.{◌∙◌, sym}
use Rattle.std.proofs.lemmas.List.FromFn.{length-map-range_with_len}
use Rattle.vx_sps.specs.Subpictures.{rect_of, subpics_of}
use Rattle.vx_assemble.proofs.in_force.slice_count.Goals as goal

pub returns-in-None : goal.returns-in-None
returns-in-None c =
    let s = c.args.sps.now in
    rw (← c.partitioned.ensures, c.if-not-partitioned.false, ← c.in-None.ensures)
    (c.subpics.ensures.number ∙ sym (length-map-range_with_len (rect_of s) 0 (subpics_of s)))
