-- A slice header ends in a one and zeros up to a byte boundary: so its bytes are whole, and the last isn't 00.
use Rattle.std.proofs.Common.{◌≡◌, Bool, ℕ, ℤ, ◌%◌, List, length, refl, arith}
use Rattle.vx_table.specs.Claims.{comes_always}
use Rattle.vx_table.specs.Forms.{◌>>=◌, form_of}
use Rattle.vx_table.specs.Parts.{sections_form}
use Rattle.vx_table.specs.laws.Trailing.{EndsWithStop, EndsInStop, is_stop, ends_in_stop, sections_end_in_stop}
use Rattle.vx_table.specs.Values.{Follows, bits_along}
use Rattle.vx_table.proofs.Stopped.{at_boundary, sections_stop, stops_behind}
use Rattle.vx_sh.specs.declared.tables.TheConstants.{HEADER_INSIDE}
use Rattle.vx_rpl.specs.declared.entry.RplTable.{RplTable}
use Rattle.vx_sh.specs.Slice.{behind_weights, weights_here, sh_before_weights, rest_form}
use Rattle.vx_sh.specs.Whole.{At, subpic_form, there, behind_header, header_inside, slice_form}

behind_weights_stops : (s : List ℕ) → EndsInStop (sections_form behind_weights s)
unfolding is_stop ends_in_stop sections_end_in_stop comes_always
behind_weights_stops s = sections_stop behind_weights s refl

rest_stops : (table : RplTable) (points : ℕ → ℕ) (s : List ℕ) → EndsInStop (rest_form table points s)
unfolding rest_form
rest_stops table points s = stops_behind (sh_before_weights table points s >>= weights_here) (sections_form behind_weights) behind_weights_stops

slice_stops : (n : At) → EndsInStop (slice_form n)
unfolding slice_form behind_header
slice_stops n = stops_behind (form_of HEADER_INSIDE n.slice >>= header_inside n.table n.sets) (behind_header n.table n.ids n.layout)
    (λ t. stops_behind (subpic_form n.ids n.layout t) (there n.table n.layout) (λ u. rest_stops n.table _ u))

pub slice_ends : (n : At) (values : List ℤ) (end : List ℕ) → Follows (slice_form n) values end → EndsWithStop 0 (bits_along (slice_form n) 0 values)
slice_ends n values end follows = (slice_stops n).at 0 values end follows

-- bits that end so are those of whole bytes
pub whole_bytes : (bits : List Bool) → EndsWithStop 0 bits → length bits % 8 ≡ 0
whole_bytes bits ends = omega (arith, at_boundary 0 bits ends)
