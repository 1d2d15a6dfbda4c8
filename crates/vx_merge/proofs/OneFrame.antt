-- The PPS of a frame says one thing.
use Rattle.std.proofs.Common.{◌≡◌, ℕ, List, ◌++◌, sym, ap, subst, ◌∙◌}
use Rattle.vx_bits.specs.declared.list.Item.{Item}
use Rattle.vx_layout.specs.declared.numbers.Numbers.{Numbers}
use Rattle.vx_layout.specs.Bounds.{Rises}
use Rattle.vx_table.specs.Rewritten.{IsRewritten}
use Rattle.vx_table.specs.Shown.{shown_items}
use Rattle.vx_pps.specs.declared.shape.PpsShape.{PpsShape}
use Rattle.vx_pps.specs.Pps.{pps_form}
use Rattle.vx_pps.specs.Reshaped.{IsReshapedPps, front_items, taken, tool_items, whole_flag}
use Rattle.vx_pic.specs.Parts.{Parts}
use Rattle.vx_frame.specs.declared.corner.Corner.{Corner}
use Rattle.vx_frame.specs.Shapes.{frame_pps_shape}
use Rattle.vx_table.proofs.Rewriting.{rewritten_one}
use Rattle.vx_pps.proofs.OneGrouping.{divided_one}

-- whose slices, tiles and kept fields are stated
pub frame_pps_one : (corners : List Corner) (round : List Parts) (frame : Numbers) (id : ℕ) (source a b : List Item) → Rises frame.columns → Rises frame.rows
    → IsReshapedPps source (frame_pps_shape corners round frame id) a → IsReshapedPps source (frame_pps_shape corners round frame id) b → a ≡ b
frame_pps_one corners round frame id source a b columns rows first second =
    let shape : PpsShape = frame_pps_shape corners round frame id in
    let division = divided_one shape first.stated.division second.stated.division columns rows first.stated.divides second.stated.divides in
    let others : first.others ≡ second.others
    = first.stated.all ∙ (ap (λ x. front_items (whole_flag source shape) shape ++ (x ++ tool_items source shape)) division ∙ sym second.stated.all) in
    rewritten_one pps_form (taken shape) (shown_items (taken shape) source) second.others a b
    (subst (λ x. IsRewritten pps_form (taken shape) (shown_items (taken shape) source) x a) others first.rewritten) second.rewritten
