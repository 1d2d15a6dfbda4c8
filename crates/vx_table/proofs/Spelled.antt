-- Spelling as a relation, and as the codes of values one behind another.
use Rattle.std.proofs.Common.{◌≡◌, ℕ, ℤ, ◌+◌, ◌-◌, ◌≤◌, Bool, List, ◌∷◌, ◌++◌, length, refl, ap, sym, subst, ◌∙◌, arith}
use Rattle.std.proofs.lemmas.List.{append_assoc, length-append}
use Rattle.vx_table.specs.declared.rows.Cell.{Cell}
use Rattle.vx_table.specs.Forms.{Form, field}
use Rattle.vx_table.specs.Spelling.{BeginsField, Spells, at_end, behind, Reaches, here, later, MayEnd, code_of}
use Rattle.vx_table.specs.Values.{IsValueOf, Follows, to_end, through, ComesTo, at_field, past, bits_along, Closes}
use Rattle.vx_table.specs.laws.Spelling.{SpellsBothWays, ReachesBothWays, ReadsBack, SpellsApart}
use Rattle.vx_table.proofs.Codings.{code_apart}

-- a field that the bits begin with has a value that it may have
pub is_value : {cell : Cell ℕ} {total : ℕ} {v : ℤ} {left rest : List Bool} → BeginsField cell total v left rest → IsValueOf cell v
is_value begins = record { code = begins.code.value; range = begins.range }

-- The bits before the rest are the codes of the values.
record AreCodes {A : Type 0} (form : Form A) (place : ℕ) (values : List ℤ) (left rest : List Bool) : Type 0 where
  pub bits : left ≡ bits_along form place values ++ rest
  pub closes : Closes form place values rest

-- the place behind a code
place_behind : (total : ℕ) (left code mid : List Bool) → length left ≤ total → left ≡ code ++ mid → (total - length mid ≡ total - length left + length code) × (length mid ≤ total)
place_behind total left code mid within is = (omega (arith, ap length is, length-append code mid), omega (arith, ap length is, length-append code mid))

-- one more code before those
one_before : {A : Type 0} {cell : Cell ℕ} {goes : ℤ → Form A} {total : ℕ} {v : ℤ} {w : List ℤ} {left mid rest : List Bool} → length left ≤ total
    → BeginsField cell total v left mid → AreCodes (goes v) (total - length mid) w mid rest → AreCodes (field cell goes) (total - length left) (v ∷ w) left rest
one_before {cell} {goes} {total} {v} {w} {left} {mid} {rest} within begins more =
    let code : List Bool = code_of cell.coding (total - length left) v in
    let next = place_behind total left code mid within begins.code.bits in
    let codes : AreCodes (goes v) (total - length left + length code) w mid rest = subst (λ place. AreCodes (goes v) place w mid rest) next.0 more in
    record {
      bits = begins.code.bits ∙ ap (λ x. code ++ x) codes.bits ∙ sym (append_assoc code (bits_along (goes v) (total - length left + length code) w) rest);
      closes = (subst (λ x. MayEnd cell.coding x) codes.bits begins.code.end, codes.closes);
    }

-- what is spelled follows the form, and its bits are the codes
spelling : {A : Type 0} {total : ℕ} {form : Form A} {v : List ℤ} {left rest : List Bool} → Spells total form v left rest → length left ≤ total
    → (end : A) × Follows form v end × AreCodes form (total - length left) v left rest
spelling (at_end {a}) within = (a, to_end, record { bits = refl; closes = tt })
spelling {total} {left} (behind {cell} {v} {mid} begins more) within =
    let next = place_behind total left (code_of cell.coding (total - length left) v) mid within begins.code.bits in
    let on = spelling more next.1 in
    (on.0, through (is_value begins) on.1, one_before within begins on.2)

reaching : {A : Type 0} {total : ℕ} {form : Form A} {v : List ℤ} {left rest : List Bool} {cell : Cell ℕ} → Reaches total form v left cell rest → length left ≤ total
    → ComesTo form v cell × AreCodes form (total - length left) v left rest
reaching here within = (at_field, record { bits = refl; closes = tt })
reaching {total} {left} (later {cell} {v} {mid} begins more) within =
    let next = place_behind total left (code_of cell.coding (total - length left) v) mid within begins.code.bits in
    let on = reaching more next.1 in
    (past (is_value begins) on.0, one_before within begins on.1)

-- codes of values begin with the first field
first_begins_field : {A : Type 0} (cell : Cell ℕ) (goes : ℤ → Form A) (total place : ℕ) (v : ℤ) (w : List ℤ) (rest : List Bool) → IsValueOf cell v → Closes (field cell goes) place (v ∷ w) rest
    → total ≡ place + length (bits_along (field cell goes) place (v ∷ w) ++ rest)
    → BeginsField cell total v (bits_along (field cell goes) place (v ∷ w) ++ rest) (bits_along (goes v) (place + length (code_of cell.coding place v)) w ++ rest)
    × (total ≡ place + length (code_of cell.coding place v) + length (bits_along (goes v) (place + length (code_of cell.coding place v)) w ++ rest))
first_begins_field cell goes total place v w rest is closes whole =
    let code : List Bool = code_of cell.coding place v in
    let ahead : List Bool = bits_along (goes v) (place + length code) w in
    let split : (code ++ ahead) ++ rest ≡ code ++ (ahead ++ rest) = append_assoc code ahead rest in
    let size : length ((code ++ ahead) ++ rest) ≡ length code + length (ahead ++ rest) = omega (arith, ap length split, length-append code (ahead ++ rest)) in
    let here_it_is : total - length ((code ++ ahead) ++ rest) ≡ place = omega (arith, whole, size) in (
      record {
        code = record { value = is.code; bits = split ∙ ap (λ at. code_of cell.coding at v ++ (ahead ++ rest)) (sym here_it_is); end = closes.0 };
        range = is.range;
      },
      omega (arith, whole, size),
    )

-- codes of values that follow the form are spelled
pub spelled_at : {A : Type 0} {form : Form A} {v : List ℤ} {a : A} (total place : ℕ) (rest : List Bool) → Follows form v a → Closes form place v rest → total ≡ place + length (bits_along form place v ++ rest)
    → Spells total form v (bits_along form place v ++ rest) rest
spelled_at total place rest to_end closes whole = at_end
spelled_at total place rest (through {cell} {goes} {v} {w} is more) closes whole =
    let first = first_begins_field cell goes total place v w rest is closes whole in
    behind first.0 (spelled_at total (place + length (code_of cell.coding place v)) rest more closes.1 first.1)

reached_at : {A : Type 0} {form : Form A} {v : List ℤ} {next : Cell ℕ} (total place : ℕ) (rest : List Bool) → ComesTo form v next → Closes form place v rest → total ≡ place + length (bits_along form place v ++ rest)
    → Reaches total form v (bits_along form place v ++ rest) next rest
reached_at total place rest at_field closes whole = here
reached_at total place rest (past {cell} {goes} {v} {w} is more) closes whole =
    let first = first_begins_field cell goes total place v w rest is closes whole in
    later first.0 (reached_at total (place + length (code_of cell.coding place v)) rest more closes.1 first.1)

pub both_ways : SpellsBothWays
both_ways form total values left rest within = (
  λ spelled. let is = spelling spelled within in (is.0, is.1, is.2.bits, is.2.closes),
  λ (end, follows, bits, closes).
      let whole : total ≡ total - length left + length (bits_along form (total - length left) values ++ rest) = omega (arith, within, ap length bits) in
      subst (λ x. Spells total form values x rest) (sym bits) (spelled_at total (total - length left) rest follows closes whole),
)

pub reached_both_ways : ReachesBothWays
reached_both_ways form total values left rest cell within = (
  λ reached. let is = reaching reached within in (is.0, is.1.bits, is.1.closes),
  λ (comes, bits, closes).
      let whole : total ≡ total - length left + length (bits_along form (total - length left) values ++ rest) = omega (arith, within, ap length bits) in
      subst (λ x. Reaches total form values x cell rest) (sym bits) (reached_at total (total - length left) rest comes closes whole),
)

pub reads_back : ReadsBack
reads_back form place values end rest follows closes = spelled_at _ place rest follows closes refl

-- equal bits are the spelling of equal values
pub apart_at : {A : Type 0} {form : Form A} {v w : List ℤ} {a b : A} (place : ℕ) (r s : List Bool) → Follows form v a → Follows form w b → bits_along form place v ++ r ≡ bits_along form place w ++ s
    → (v ≡ w) × (r ≡ s) × (a ≡ b)
apart_at place r s to_end to_end same = (refl, same, refl)
apart_at {form = field cell goes} {b} place r s (through {v} {w} is more) (through {v = u} {w = us} other others) same =
    let code : List Bool = code_of cell.coding place v in
    let code2 : List Bool = code_of cell.coding place u in
    let ahead : List Bool = bits_along (goes v) (place + length code) w in
    let ahead2 : List Bool = bits_along (goes u) (place + length code2) us in
    let first = code_apart cell.coding place v u (ahead ++ r) (ahead2 ++ s) is.code other.code (sym (append_assoc code ahead r) ∙ same ∙ append_assoc code2 ahead2 s) in
    let behind_it : ahead ++ r ≡ bits_along (goes v) (place + length code) us ++ s
    = first.1 ∙ ap (λ x. bits_along (goes x) (place + length (code_of cell.coding place x)) us ++ s) (sym first.0) in
    let on = apart_at (place + length code) r s more (subst (λ x. Follows (goes x) us b) (sym first.0) others) behind_it in
    let head = first.0 in
    let tail = on.0 in
    (cc (head, tail), on.1, on.2)

pub spells_apart : SpellsApart
spells_apart form place v w a b r s follows others same = apart_at place r s follows others same
