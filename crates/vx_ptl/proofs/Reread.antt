-- What was read is spelled.
use Rattle.std.proofs.Common.{◌≡◌, ℕ, ◌+◌, ◌-◌, ◌≤◌, Bool, List, [], ◌++◌, length, refl, ap, sym, subst, ◌∙◌, arith}
use Rattle.std.proofs.lemmas.List.{append_assoc, length-append}
use Rattle.vx_bits.specs.declared.list.Item.{Item}
use Rattle.vx_table.specs.Values.{bits_along}
use Rattle.vx_table.proofs.Spelled.{both_ways}
use Rattle.vx_ptl.specs.Spelling.{SpellStructures, no_more, one_more, ReadStructures, all_read, one_read, WritesWhatWasRead}
use Rattle.vx_ptl.proofs.Structured.{runs_spelled}

-- structures that were read are spelled from the same place on
read_spelled : {total : ℕ} {items : List Item} {left rest : List Bool} → length left ≤ total → ReadStructures total left items rest
    → (bits : List Bool) × (left ≡ bits ++ rest) × SpellStructures (total - length left) items bits
read_spelled within all_read = ([], refl, no_more)
read_spelled {total} {left} {rest} within (one_read {form} {values} {items} {mid} is spells more) =
    let (end, follows, bits, closes) = (both_ways form total values left mid within).0 spells in
    let one : List Bool = bits_along form (total - length left) values in
    let size : length left ≡ length one + length mid = ap length bits ∙ length-append one mid in
    let next : total - length mid ≡ total - length left + length one = omega (arith, within, size) in
    let behind = read_spelled (omega (arith, within, size)) more in
    (one ++ behind.0, bits ∙ (ap (λ front. one ++ front) behind.1 ∙ sym (append_assoc one behind.0 rest)), one_more is follows (subst (λ at. SpellStructures at items behind.0) next behind.2))

pub writes_read : WritesWhatWasRead
writes_read total items left rest within read =
    let all = read_spelled within read in
    (all.0, all.1, runs_spelled (total - length left) items all.0 all.2)
