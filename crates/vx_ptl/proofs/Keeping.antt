-- The run beside each of the tables.
use Rattle.std.proofs.Common.{◌≡◌, ℕ, ℤ, zero, suc, ◌-◌, min, Bool, true, false, nat_lt, arith, List, [], ◌∷◌, length, take, drop, slice_set, Some, refl}
use Rattle.std.specs.Prelude.{◌==◌, cond}
use Rattle.vx_table.specs.declared.rows.Formula.{Formula}
use Rattle.vx_table.specs.declared.rows.Coding.{Coding}
use Rattle.vx_table.specs.declared.rows.Coding.TheVariants.{Fixed, Golomb, SignedGolomb, Zeros, OneAndZeros, Trailing, Absent, Refused}
use Rattle.vx_table.specs.declared.rows.Cell.{Cell}
use Rattle.vx_table.specs.declared.rows.Row.{Row}
use Rattle.vx_table.specs.declared.rows.Row.TheVariants.{Field, Block, Name}
use Rattle.vx_table.specs.declared.rows.Presence.{Presence}
use Rattle.vx_table.specs.declared.rows.Presence.TheVariants.{When, Repeat}
use Rattle.vx_table.specs.Scope.{value}
use Rattle.vx_table.specs.Forms.{Form, done, coding_at, cell_at, has_value, one_field, present, part, form_of}
use Rattle.vx_table.specs.Spelling.{HasCode}
use Rattle.std.proofs.lemmas.Bool.{le-ltb}
use Rattle.vx_table.proofs.Blocks.{form-field, form-name, form-block}
use Rattle.vx_ptl.specs.Run.{gap, field_code}
use Rattle.vx_ptl.proofs.Beside.{Between, Keeps, written, Runs, Even, runs_on, runs_turns}

-- A row's field takes the run from here to there, at every scope.
abbrev pub Takes : Between → Cell Formula → Between → Type 0
Takes from c to = (s : List ℕ) (before place : ℕ) (gaps : List Bool) (v : ℤ) → from before place gaps → HasCode (coding_at s c.coding) v → Keeps (cell_at s c) v before place gaps to

-- Each field or gap of the rows is so.
abbrev pub Each : (Cell Formula → Type 0) → List Row → Type 0
Each P [] = Unit {0}
Each P (Field c ∷ rows) = P c × Each P rows
Each P (Block presence n ∷ rows) = Each P rows
Each P (Name name formula ∷ rows) = Each P rows

field_runs : (from to : Between) (c : Cell Formula) (s : List ℕ) (before place : ℕ) (gaps : List Bool)
    → Takes from c to → from before place gaps → Runs to (one_field s c) before place gaps
unfolding one_field
field_runs from to c s before place gaps takes here = λ v has. takes s before place gaps v here has

either : (b : Bool) (f g : Form (List ℕ)) (to : Between) (before place : ℕ) (gaps : List Bool)
    → Runs to f before place gaps → Runs to g before place gaps → Runs to (cond b f g) before place gaps
either true f g to before place gaps a b = a
either false f g to before place gaps a b = b

-- What a block keeps, it keeps as often as it is there.
present_keeps : (keep : ℕ → ℕ → List Bool → Type 0) (presence : Presence) (block : List ℕ → Form (List ℕ)) (s : List ℕ) (before place : ℕ) (gaps : List Bool)
    → ((t : List ℕ) (b p : ℕ) (g : List Bool) → keep b p g → Runs keep (block t) b p g) → keep before place gaps → Runs keep (present presence block s) before place gaps
unfolding present
present_keeps keep (When holds) block s before place gaps each here = either (value s holds == 0) (done s) (block s) keep before place gaps here (each s before place gaps here)
present_keeps keep (Repeat counter times) block s before place gaps each here = runs_turns keep block counter 0 (value s times) s before place gaps each here

-- Where each field keeps it, each part of the rows does.
pub part_keeps : (keep : Between) (P : Cell Formula → Type 0) → ((c : Cell Formula) → P c → Takes keep c keep) → (skip len : ℕ) (rows : List Row) (s : List ℕ) (before place : ℕ) (gaps : List Bool)
    → Each P rows → keep before place gaps → Runs keep (part skip len rows s) before place gaps
unfolding part
part_keeps keep P on zero len [] s before place gaps each here = here
part_keeps keep P on (suc skip) len [] s before place gaps each here = here
part_keeps keep P on (suc skip) len (Field c ∷ rows) s before place gaps each here = part_keeps keep P on skip len rows s before place gaps each.1 here
part_keeps keep P on (suc skip) len (Block presence n ∷ rows) s before place gaps each here = part_keeps keep P on skip len rows s before place gaps each here
part_keeps keep P on (suc skip) len (Name name formula ∷ rows) s before place gaps each here = part_keeps keep P on skip len rows s before place gaps each here
part_keeps keep P on zero zero (row ∷ rows) s before place gaps each here = here
part_keeps keep P on zero (suc len) (Field c ∷ rows) s before place gaps each here =
    runs_on keep keep (one_field s c) (part 0 len rows) before place gaps (λ t b p g now. part_keeps keep P on 0 len rows t b p g each.1 now)
    (field_runs keep keep c s before place gaps (on c each.0) here)
part_keeps keep P on zero (suc len) (Block presence n ∷ rows) s before place gaps each here =
    runs_on keep keep (present presence (part 0 (min n len) rows) s) (part (min n len) (len - min n len) rows) before place gaps
    (λ t b p g now. part_keeps keep P on (min n len) (len - min n len) rows t b p g each now)
    (present_keeps keep presence (part 0 (min n len) rows) s before place gaps (λ t b p g now. part_keeps keep P on 0 (min n len) rows t b p g each now) here)
part_keeps keep P on zero (suc len) (Name name formula ∷ rows) s before place gaps each here = part_keeps keep P on 0 len rows (slice_set s name (value s formula)) before place gaps each here

-- a field of bits is one at every scope
pub has_at : (s : List ℕ) (coding : Coding Formula) → has_value coding ≡ true → has_value (coding_at s coding) ≡ true
unfolding has_value coding_at
has_at s (Fixed width) has = refl
has_at s Golomb has = refl
has_at s SignedGolomb has = refl
has_at s Zeros has = has
has_at s OneAndZeros has = has
has_at s Trailing has = has
has_at s Absent has = has
has_at s Refused has = has

-- A field of bits that a run codes as its row does, and before which no gap stands.
pub record IsPlain (c : Cell Formula) : Type 0 where
  pub value : has_value c.coding ≡ true
  pub coded : (s : List ℕ) → (field_code c.field).coding ≡ Some (coding_at s c.coding)
  pub apart : (field_code c.field).zeros ≡ 0

pub no_gap : (c : Cell Formula) (before place : ℕ) → IsPlain c → gap before c.field place ≡ []
no_gap c before place plain =
    let none : nat_lt before 0 ≡ false = le-ltb before 0 (omega arith) in
    rw (plain.apart, none) refl

plain_even : (c : Cell Formula) → IsPlain c → Takes Even c Even
plain_even c plain s before place gaps v here code =
    written (has_at s c.coding plain.value) (plain.coded s) (rw (no_gap c before place plain, here) refl) refl

-- From here to there along the rows, at every scope.
pub record Leads (from : Between) (rows : List Row) (to : Between) : Type 0 where
  pub runs : (s : List ℕ) (before place : ℕ) (gaps : List Bool) → from before place gaps → Runs to (form_of rows s) before place gaps

-- where all rows are plain
pub plain_leads : (rows : List Row) → Each IsPlain rows → Leads Even rows Even
unfolding form_of
plain_leads rows plain = record { runs = λ s before place gaps here. part_keeps Even IsPlain plain_even 0 (length rows) rows s before place gaps plain here }

-- by the first row
pub leads_over : (keep : Between) → Leads keep [] keep
unfolding form_of part
leads_over keep = record { runs = λ s before place gaps here. here }

pub leads_field : (from mid to : Between) (c : Cell Formula) (rows : List Row) → Takes from c mid → Leads mid rows to → Leads from (Field c ∷ rows) to
leads_field from mid to c rows takes rest = record {
  runs = λ s before place gaps here. rw (form-field c rows s) (runs_on mid to (one_field s c) (form_of rows) before place gaps rest.runs (field_runs from mid c s before place gaps takes here));
}

pub leads_name : (from to : Between) (name : ℕ) (formula : Formula) (rows : List Row) → Leads from rows to → Leads from (Name name formula ∷ rows) to
leads_name from to name formula rows rest = record {
  runs = λ s before place gaps here. rw (form-name name formula rows s) (rest.runs _ before place gaps here);
}

pub leads_block : (from to : ℕ → ℕ → List Bool → Type 0) (presence : Presence) (n : ℕ) (rows : List Row)
    → Leads from (take (min n (length rows)) rows) from → Leads from (drop (min n (length rows)) rows) to → Leads from (Block presence n ∷ rows) to
leads_block from to presence n rows block rest = record {
  runs = λ s before place gaps here.
      rw (form-block presence n rows s) (runs_on from to (present presence (form_of (take (min n (length rows)) rows)) s) (form_of (drop (min n (length rows)) rows)) before place gaps
      rest.runs (present_keeps from presence (form_of (take (min n (length rows)) rows)) s before place gaps block.runs here));
}
