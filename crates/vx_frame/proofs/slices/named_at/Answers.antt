use Rattle.std.proofs.Common.{ap, sym, ◌∙◌, cond, ◌∷◌, []}
use Rattle.std.specs.Prelude.{◌&&◌}
use Rattle.vx_pic.specs.Parts.{part_of}
use Rattle.vx_frame.specs.Collocated.{collocated_of, collocated_by, names_one}
use Rattle.vx_frame.proofs.Gathered.{piece_is}
use Rattle.vx_frame.proofs.slices.named_at.Goals as goal

pub returns-then-may : goal.returns-then-may
returns-then-may c =
    let q = c.args.picture.now in
    let h = c.slice-slice.result.header.now in
    piece_is (collocated_by q) q.slices c.args.i (part_of c.slice-slice.result) c.slice-slice.ensures.slice
    ∙ (ap (λ t. cond (t && names_one h) (collocated_of q h ∷ []) []) (sym c.requires.may ∙ c.if-may.true) ∙ c.named_in.ensures)

pub returns : goal.returns
returns c =
    let q = c.args.picture.now in
    let h = c.slice-slice.result.header.now in
    piece_is (collocated_by q) q.slices c.args.i (part_of c.slice-slice.result) c.slice-slice.ensures.slice
    ∙ ap (λ t. cond (t && names_one h) (collocated_of q h ∷ []) []) (sym c.requires.may ∙ c.if-may.false)
