-- Parts of a table: a part is the form of the rows that it covers, whatever stands around them.
use Rattle.std.proofs.Common.{◌≡◌, ℕ, zero, suc, ◌+◌, ◌-◌, ◌≤◌, min, List, [], ◌∷◌, ◌++◌, length, take, drop, slice_set, refl, ap, sym, ◌∙◌, arith}
use Rattle.vx_table.specs.declared.rows.Formula.{Formula}
use Rattle.vx_table.specs.declared.rows.Cell.{Cell}
use Rattle.vx_table.specs.declared.rows.Row.{Row}
use Rattle.vx_table.specs.declared.rows.Row.TheVariants.{Field, Block, Name}
use Rattle.vx_table.specs.declared.rows.Presence.{Presence}
use Rattle.vx_table.specs.declared.rows.Coding.{Coding}
use Rattle.vx_table.specs.declared.rows.Coding.TheVariants.{Fixed, Golomb, SignedGolomb, Zeros, OneAndZeros, Trailing, Absent, Refused}
use Rattle.vx_table.specs.Spelling.{IsCodable}
use Rattle.vx_table.specs.Scope.{value}
use Rattle.vx_table.specs.Forms.{Form, ◌>>=◌, coding_at, one_field, present, part, form_of}
use Rattle.std.proofs.Math.Path.{fun_ext}
use Rattle.std.proofs.lemmas.List.{take-append-drop, length-take-le, length-drop}

-- the rows behind the first few
part-drop : (skip len : ℕ) (rows : List Row) (s : List ℕ) → part skip len rows s ≡ part 0 len (drop skip rows) s
unfolding part
part-drop zero len [] s = refl
part-drop (suc skip) len [] s = refl
part-drop zero len (row ∷ rows) s = refl
part-drop (suc skip) len (row ∷ rows) s = part-drop skip len rows s

-- rows that stand behind a part don't change it
part-append : (skip len : ℕ) (rows more : List Row) (s : List ℕ) → skip + len ≤ length rows → part skip len (rows ++ more) s ≡ part skip len rows s
unfolding part one_field
part-append zero zero [] [] s fits = refl
part-append zero zero [] (row ∷ more) s fits = refl
part-append zero (suc len) [] more s fits = absurd (omega arith)
part-append (suc skip) len [] more s fits = absurd (omega arith)
part-append (suc skip) len (row ∷ rows) more s fits = part-append skip len rows more s (omega arith)
part-append zero zero (row ∷ rows) more s fits = refl
part-append zero (suc len) (Field c ∷ rows) more s fits =
    let next : part 0 len (rows ++ more) ≡ part 0 len rows = fun_ext (λ t. part-append 0 len rows more t (omega arith)) in
    ap (λ (rest : List ℕ → Form (List ℕ)). one_field s c >>= rest) next
part-append zero (suc len) (Block presence n ∷ rows) more s fits =
    let block : part 0 (min n len) (rows ++ more) ≡ part 0 (min n len) rows = fun_ext (λ t. part-append 0 (min n len) rows more t (omega arith)) in
    let behind : part (min n len) (len - min n len) (rows ++ more) ≡ part (min n len) (len - min n len) rows
    = fun_ext (λ t. part-append (min n len) (len - min n len) rows more t (omega arith)) in
    rw (block, behind) refl
part-append zero (suc len) (Name name formula ∷ rows) more s fits = part-append 0 len rows more _ (omega arith)

-- a part from the first row on is the form of its rows
part-take : (len : ℕ) (rows : List Row) (s : List ℕ) → len ≤ length rows → part 0 len rows s ≡ form_of (take len rows) s
unfolding form_of
part-take len rows s fits =
    let whole = take-append-drop len rows in
    let few = length-take-le len rows fits in
    let cut = part-append 0 len (take len rows) (drop len rows) s (omega arith) in
    rw few (rw whole at cut)

-- The form of a table by its first row.
pub form-field : (c : Cell Formula) (rows : List Row) (s : List ℕ) → form_of (Field c ∷ rows) s ≡ (one_field s c >>= form_of rows)
unfolding form_of part
form-field c rows s = refl

pub form-name : (name : ℕ) (formula : Formula) (rows : List Row) (s : List ℕ) → form_of (Name name formula ∷ rows) s ≡ form_of rows (slice_set s name (value s formula))
unfolding form_of part
form-name name formula rows s = refl

-- the rows behind a block
form-drop : (n : ℕ) (rows : List Row) (s : List ℕ) → part (min n (length rows)) (length rows - min n (length rows)) rows s ≡ form_of (drop (min n (length rows)) rows) s
unfolding form_of
form-drop n rows s = part-drop (min n (length rows)) (length rows - min n (length rows)) rows s ∙ ap (λ len. part 0 len (drop (min n (length rows)) rows) s) (sym (length-drop (min n (length rows)) rows))

pub form-block : (presence : Presence) (n : ℕ) (rows : List Row) (s : List ℕ)
    → form_of (Block presence n ∷ rows) s ≡ (present presence (form_of (take (min n (length rows)) rows)) s >>= form_of (drop (min n (length rows)) rows))
unfolding form_of part
form-block presence n rows s =
    let block : part 0 (min n (length rows)) rows ≡ form_of (take (min n (length rows)) rows) = fun_ext (λ t. part-take (min n (length rows)) rows t (omega arith)) in
    let behind : part (min n (length rows)) (length rows - min n (length rows)) rows ≡ form_of (drop (min n (length rows)) rows) = fun_ext (λ t. form-drop n rows t) in
    rw (block, behind) refl

-- a field at a scope is at most 32 bits wide
pub codable : (s : List ℕ) (coding : Coding Formula) → IsCodable (coding_at s coding)
unfolding coding_at
codable s (Fixed width) = omega arith
codable s Golomb = tt
codable s SignedGolomb = tt
codable s Zeros = tt
codable s OneAndZeros = tt
codable s Trailing = tt
codable s Absent = tt
codable s Refused = tt

-- by its first row where all rows of the block are there
pub form-block-whole : (presence : Presence) (n : ℕ) (rows : List Row) (s : List ℕ) → n ≤ length rows
    → form_of (Block presence n ∷ rows) s ≡ (present presence (form_of (take n rows)) s >>= form_of (drop n rows))
form-block-whole presence n rows s fits =
    let all : min n (length rows) ≡ n = omega (arith, fits) in
    rw all at (form-block presence n rows s)
