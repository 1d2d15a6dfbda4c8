-- How many bytes a slice header takes.
use Rattle.std.proofs.Common.{◌≡◌, ℕ, ℤ, ◌+◌, ◌-◌, ◌*◌, ◌/◌, ◌≤◌, Bool, List, ◌++◌, length, take, sym, subst, ap, ◌∙◌, arith}
use Rattle.std.proofs.lemmas.List.{length-append, take_at}
use Rattle.vx_bits.specs.declared.list.Item.{Item}
use Rattle.vx_bits.specs.Codes.{bits_of, EndsInNoZero}
use Rattle.vx_bits.proofs.Bits.{length-bits_of}
use Rattle.vx_bits.proofs.EightBytes.{take-bits_of}
use Rattle.vx_table.specs.Spelling.{Spells}
use Rattle.vx_table.specs.Values.{Follows, bits_along}
use Rattle.vx_table.proofs.Joined.{joined}
use Rattle.vx_table.proofs.Spelled.{both_ways}
use Rattle.vx_table.proofs.Stopped.{at_boundary, last_byte}
use Rattle.vx_table.specs.laws.Trailing.{EndsWithStop}
use Rattle.vx_sh.specs.Whole.{At, behind_header, header_inside, slice_form}
use Rattle.vx_sh.specs.Value.{AreFields, values_of}
use Rattle.vx_sh.proofs.Stopped.{slice_ends}

pub all_follow : (n : At) (items : List Item) (inside : List ℤ) (f : AreFields n items inside) → Follows (slice_form n) (values_of f) f.end
unfolding slice_form
all_follow n items inside f = joined (behind_header n.table n.ids n.layout) (joined (header_inside n.table n.sets) f.begins f.goes_on) f.ends

-- bits that are spelled from the front on end at a byte boundary, and the last byte isn't 00
pub sized : (n : At) (rbsp : List ℕ) (values : List ℤ) (end : List ℕ) (rest : List Bool) (at : ℕ) → Spells (8 * length rbsp) (slice_form n) values (bits_of rbsp) rest
    → Follows (slice_form n) values end → at + length rest ≡ 8 * length rbsp
    → (8 * (at / 8) + length rest ≡ 8 * length rbsp) × EndsInNoZero (take (at / 8) rbsp)
sized n rbsp values end rest at spelled follows is =
    let bits : List Bool = bits_along (slice_form n) 0 values in
    let within : length (bits_of rbsp) ≤ 8 * length rbsp = omega (arith, length-bits_of rbsp) in
    let from_front : 8 * length rbsp - length (bits_of rbsp) ≡ 0 = omega (arith, length-bits_of rbsp) in
    let told = (both_ways (slice_form n) (8 * length rbsp) values (bits_of rbsp) rest within).0 spelled in
    let all : bits_of rbsp ≡ bits ++ rest = rw from_front at told.2 in
    let ends = slice_ends n values end follows in
    let size : at ≡ length bits = omega (arith, is, ap length all, length-append bits rest, length-bits_of rbsp) in
    let whole : 8 * (at / 8) ≡ at = omega (arith, size, at_boundary 0 bits ends) in
    let few : at / 8 ≤ length rbsp = omega (arith, whole, is) in
    let front : bits_of (take (at / 8) rbsp) ≡ bits
    = sym (take-bits_of (at / 8) rbsp few) ∙ ap (take (8 * (at / 8))) all ∙ take_at bits rest (8 * (at / 8)) (omega (arith, whole, size)) in
    (omega (arith, whole, is), last_byte (take (at / 8) rbsp) (subst (EndsWithStop 0) (sym front) ends))
