use Rattle.std.proofs.Common.{ap, sym, ◌∙◌, ◌∷◌, []}
use Rattle.vx_pic.specs.Inputs.{lists_in_force}
use Rattle.vx_pic.specs.Parts.{SlicePart, part_of}
use Rattle.vx_rpl.specs.declared.entry.RefLists.{RefLists}
use Rattle.vx_frame.proofs.Reading.{first_mapped}
use Rattle.vx_frame.proofs.headers.first_lists.Goals as goal

pub returns : goal.returns
returns c =
    let q = c.args.picture.now in
    first_mapped (λ (s : SlicePart). lists_in_force q s.header) q.slices (part_of c.slice.result) c.slice.ensures.slice
    ∙ ap (λ (l : RefLists). l ∷ []) (sym c.lists_of.ensures)
