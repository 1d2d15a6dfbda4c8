-- A walk over a form, put together of its steps.
use Rattle.std.proofs.Common.{◌≡◌, ℕ, suc, ◌+◌, ◌-◌, ◌<◌, ◌≤◌, min, List, [], ◌∷◌, length, take, drop, slice_set, Result, Ok, Err, refl, ap, sym, arith, get_or, add-one, drop-cons}
use Rattle.std.proofs.Math.ListN.{drop_of_length-le}
use Rattle.std.proofs.Math.Path.{fun_ext}
use Rattle.std.proofs.lemmas.Bool.{ne_eqb}
use Rattle.vx_table.specs.declared.rows.Formula.{Formula}
use Rattle.vx_table.specs.declared.rows.Cell.{Cell}
use Rattle.vx_table.specs.declared.rows.Row.{Row}
use Rattle.vx_table.specs.declared.rows.Row.TheVariants.{Field, Block, Name}
use Rattle.vx_table.specs.declared.rows.Presence.{Presence}
use Rattle.vx_table.specs.declared.rows.Presence.TheVariants.{When, Repeat}
use Rattle.vx_table.specs.Forms.{Form, done, field, ◌>>=◌, one_field, turns, present, part, form_of}
use Rattle.vx_table.specs.declared.parts.Part.{Part}
use Rattle.vx_table.specs.Parts.{sections_form, section_form, section_of, parts_form}
use Rattle.vx_table.specs.Scope.{value}
use Rattle.vx_table.specs.Walks.{Step, Walks, ended, coded, refused}
pub use Rattle.vx_table.specs.inner.Leading.{Leads}
use Rattle.vx_table.proofs.Blocks.{form-field, form-name, form-block}

-- a walk to the end of one form and on along the next is one along both
pub then : {C I E A B : Type 0} {step : Step C I E} {f : Form A} (next : A → Form B) {c d e : C} {i j k : I} {a : A} {r : Result B E}
    → Walks step f c i (Ok a) d j → Walks step (next a) d j r e k → Walks step (f >>= next) c i r e k
then next ended behind = behind
then next (coded s rest) behind = coded s (then next rest behind)

-- a refusal within the first form is one within both
pub stop : {C I E A B : Type 0} {step : Step C I E} {f : Form A} (next : A → Form B) {c d : C} {i j : I} {e : E}
    → Walks step f c i (Err e) d j → Walks step (f >>= next) c i (Err e) d j
stop next (coded s rest) = coded s (stop next rest)
stop next (refused s) = refused s

-- one rest behind another
pub leads-on : {C I E A : Type 0} {step : Step C I E} {whole between rest : Form A} {first c d : C} {first_items i j : I}
    → Leads step whole first first_items between c i → Leads step between c i rest d j → Leads step whole first first_items rest d j
leads-on before behind = record { on = λ r e k w. before.on r e k (behind.on r e k w) }

pub leads : {C I E A : Type 0} (step : Step C I E) (f : Form A) (c : C) (i : I) → Leads step f c i f c i
leads step f c i = record { on = λ r d j w. w }

-- behind a form that was walked
pub leads-then : {C I E A B : Type 0} {step : Step C I E} {whole : Form A} {first : C} {first_items : I} {f : Form B} (next : B → Form A) {c d : C} {i j : I} {b : B}
    → Leads step whole first first_items (f >>= next) c i → Walks step f c i (Ok b) d j → Leads step whole first first_items (next b) d j
leads-then next before walked = record { on = λ r d j rest. before.on r d j (then next walked rest) }

-- at a refusal
pub leads-stop : {C I E A B : Type 0} {step : Step C I E} {whole : Form A} {first : C} {first_items : I} {f : Form B} (next : B → Form A) {c d : C} {i j : I} {e : E}
    → Leads step whole first first_items (f >>= next) c i → Walks step f c i (Err e) d j → Walks step whole first first_items (Err e) d j
leads-stop next before walked = before.on _ _ _ (stop next walked)

-- at the end
pub leads-end : {C I E A : Type 0} {step : Step C I E} {whole : Form A} {first : C} {first_items : I} {a : A} {c : C} {i : I}
    → Leads step whole first first_items (done a) c i → Walks step whole first first_items (Ok a) c i
leads-end before = before.on _ _ _ ended

-- No rows behind a form change nothing.
pub no_rows_behind : (f : Form (List ℕ)) → (f >>= form_of []) ≡ f
unfolding form_of part
no_rows_behind (done s) = refl
no_rows_behind (field cell goes) = ap (λ x. field cell x) (fun_ext (λ v. no_rows_behind (goes v)))

none_of : (rows : List Row) → length rows ≡ 0 → rows ≡ []
none_of [] none = refl
none_of (row ∷ rows) none = absurd (omega arith)

-- Rows that are behind none come first.
pub rows_behind_none : (rows behind : List Row) (s : List ℕ) → length rows ≡ 0
    → (form_of rows s >>= form_of behind) ≡ (form_of behind s >>= form_of [])
unfolding form_of part
rows_behind_none rows behind s none = rw (none_of rows none) (sym (no_rows_behind (form_of behind s)))

-- no rows, and none behind them
pub form_at_end : (rows behind : List Row) (s : List ℕ) → length rows ≡ 0 → length behind ≡ 0
    → (form_of rows s >>= form_of behind) ≡ done s
unfolding form_of part
form_at_end rows behind s none none_behind = rw (none_of rows none, none_of behind none_behind) refl

-- Of two runs of rows behind a form, one without rows can be left out.
pub no_next : (next behind : List Row) (f : Form (List ℕ)) → length next ≡ 0
    → ((f >>= form_of next) >>= form_of behind) ≡ (f >>= form_of behind)
no_next next behind f none = rw (none_of next none, no_rows_behind f) refl

pub no_behind : (next behind : List Row) (f : Form (List ℕ)) → length behind ≡ 0
    → ((f >>= form_of next) >>= form_of behind) ≡ (f >>= form_of next)
no_behind next behind f none = rw (none_of behind none, no_rows_behind (f >>= form_of next)) refl

-- a walk to the end of the first of three forms and on along the others is one along all
within : {C I E A B D : Type 0} {step : Step C I E} {f : Form A} (next : A → Form B) (last : B → Form D) {c d e : C} {i j k : I} {a : A} {r : Result D E}
    → Walks step f c i (Ok a) d j → Walks step (next a >>= last) d j r e k → Walks step ((f >>= next) >>= last) c i r e k
within next last ended behind = behind
within next last (coded s rest) behind = coded s (within next last rest behind)

leads-within : {C I E A B D : Type 0} {step : Step C I E} {whole : Form A} {first : C} {first_items : I} {f : Form B} (next : B → Form D) (last : D → Form A) {c d : C} {i j : I} {b : B}
    → Leads step whole first first_items ((f >>= next) >>= last) c i → Walks step f c i (Ok b) d j → Leads step whole first first_items (next b >>= last) d j
leads-within next last before walked = record { on = λ r d j rest. before.on r d j (within next last walked rest) }

leads-stop-within : {C I E A B D : Type 0} {step : Step C I E} {whole : Form A} {first : C} {first_items : I} {f : Form B} (next : B → Form D) (last : D → Form A) {c d : C} {i j : I} {e : E}
    → Leads step whole first first_items ((f >>= next) >>= last) c i → Walks step f c i (Err e) d j → Walks step whole first first_items (Err e) d j
leads-stop-within next last before walked = before.on _ _ _ (stop last (stop next walked))

-- a block on a condition that holds, and one in turns
pub here : {C I E : Type 0} {step : Step C I E} (holds : Formula) (block : List ℕ → Form (List ℕ)) (s : List ℕ) {c d : C} {i j : I} {r : Result (List ℕ) E}
    → (value s holds ≡ 0 → ⊥) → Walks step (block s) c i r d j → Walks step (present (When holds) block s) c i r d j
unfolding present
here holds block s some walked = rw (ne_eqb _ _ some) walked

pub around : {C I E : Type 0} {step : Step C I E} (counter : ℕ) (times : Formula) (block : List ℕ → Form (List ℕ)) (s : List ℕ) {c d : C} {i j : I} {r : Result (List ℕ) E}
    → Walks step (turns block counter 0 (value s times) s) c i r d j → Walks step (present (Repeat counter times) block s) c i r d j
unfolding present
around counter times block s walked = walked

-- What is left of a table behind its first row, and behind the rows that follow.
module _ {C I E : Type 0} {step : Step C I E} {whole : Form (List ℕ)} {first : C} {first_items : I} where
  pub leads-field : (cell : Cell Formula) (rows behind : List Row) (s t : List ℕ) {c d : C} {i j : I}
      → Leads step whole first first_items (form_of (Field cell ∷ rows) s >>= form_of behind) c i → Walks step (one_field s cell) c i (Ok t) d j
      → Leads step whole first first_items (form_of rows t >>= form_of behind) d j
  leads-field cell rows behind s t before walked = leads-within (form_of rows) (form_of behind) (rw form-field at before) walked

  pub stop-field : (cell : Cell Formula) (rows behind : List Row) (s : List ℕ) {e : E} {c d : C} {i j : I}
      → Leads step whole first first_items (form_of (Field cell ∷ rows) s >>= form_of behind) c i → Walks step (one_field s cell) c i (Err e) d j → Walks step whole first first_items (Err e) d j
  stop-field cell rows behind s before walked = leads-stop-within (form_of rows) (form_of behind) (rw form-field at before) walked

  pub leads-block : (presence : Presence) (n : ℕ) (rows behind : List Row) (s t : List ℕ) {c d : C} {i j : I}
      → Leads step whole first first_items (form_of (Block presence n ∷ rows) s >>= form_of behind) c i
      → Walks step (present presence (form_of (take (min n (length rows)) rows)) s) c i (Ok t) d j
      → Leads step whole first first_items (form_of (drop (min n (length rows)) rows) t >>= form_of behind) d j
  leads-block presence n rows behind s t before walked = leads-within (form_of (drop (min n (length rows)) rows)) (form_of behind) (rw form-block at before) walked

  pub stop-block : (presence : Presence) (n : ℕ) (rows behind : List Row) (s : List ℕ) {e : E} {c d : C} {i j : I}
      → Leads step whole first first_items (form_of (Block presence n ∷ rows) s >>= form_of behind) c i
      → Walks step (present presence (form_of (take (min n (length rows)) rows)) s) c i (Err e) d j
      → Walks step whole first first_items (Err e) d j
  stop-block presence n rows behind s before walked = leads-stop-within (form_of (drop (min n (length rows)) rows)) (form_of behind) (rw form-block at before) walked

  -- a block that isn't there is passed over
  pub leads-over : (holds : Formula) (n : ℕ) (rows behind : List Row) (s : List ℕ) {c : C} {i : I} → value s holds ≡ 0
      → Leads step whole first first_items (form_of (Block (When holds) n ∷ rows) s >>= form_of behind) c i
      → Leads step whole first first_items (form_of (drop (min n (length rows)) rows) s >>= form_of behind) c i
  unfolding present
  leads-over holds n rows behind s none before = rw none at (rw form-block at before)

  -- and so is one in no turns
  pub leads-no_turns : (counter : ℕ) (times : Formula) (n : ℕ) (rows behind : List Row) (s : List ℕ) {c : C} {i : I} → value s times ≡ 0
      → Leads step whole first first_items (form_of (Block (Repeat counter times) n ∷ rows) s >>= form_of behind) c i
      → Leads step whole first first_items (form_of (drop (min n (length rows)) rows) s >>= form_of behind) c i
  unfolding present turns
  leads-no_turns counter times n rows behind s none before = rw none at (rw form-block at before)

  -- one that is there is gone into, and what is left behind it comes after it
  pub leads-into : (holds : Formula) (n : ℕ) (rows behind all : List Row) (s : List ℕ) {c : C} {i : I} → (value s holds ≡ 0 → ⊥)
      → ((f : Form (List ℕ)) → ((f >>= form_of (drop (min n (length rows)) rows)) >>= form_of behind) ≡ (f >>= form_of all))
      → Leads step whole first first_items (form_of (Block (When holds) n ∷ rows) s >>= form_of behind) c i
      → Leads step whole first first_items (form_of (take (min n (length rows)) rows) s >>= form_of all) c i
  unfolding present
  leads-into holds n rows behind all s some joined before =
      rw (joined _) at (rw (ne_eqb _ _ some) at (rw form-block at before))

  pub leads-name : (name : ℕ) (formula : Formula) (rows behind : List Row) (s : List ℕ) {c : C} {i : I}
      → Leads step whole first first_items (form_of (Name name formula ∷ rows) s >>= form_of behind) c i
      → Leads step whole first first_items (form_of rows (slice_set s name (value s formula)) >>= form_of behind) c i
  leads-name name formula rows behind s before = rw form-name at before

  pub leads-turn : (block : List Row) (counter turn times : ℕ) (s t : List ℕ) {c d : C} {i j : I} → turn < times
      → Leads step whole first first_items (turns (form_of block) counter turn (times - turn) s) c i
      → Walks step (form_of block (slice_set s counter turn)) c i (Ok t) d j
      → Leads step whole first first_items (turns (form_of block) counter (turn + 1) (times - (turn + 1)) t) d j
  unfolding turns
  leads-turn block counter turn times s t more before walked =
      let one : times - turn ≡ suc (times - (turn + 1)) = omega arith in
      leads-then (turns (form_of block) counter (turn + 1) (times - (turn + 1))) (rw one at before) walked

  pub stop-turn : (block : List Row) (counter turn times : ℕ) (s : List ℕ) {e : E} {c d : C} {i j : I} → turn < times
      → Leads step whole first first_items (turns (form_of block) counter turn (times - turn) s) c i
      → Walks step (form_of block (slice_set s counter turn)) c i (Err e) d j
      → Walks step whole first first_items (Err e) d j
  unfolding turns
  stop-turn block counter turn times s more before walked =
      let one : times - turn ≡ suc (times - (turn + 1)) = omega arith in
      leads-stop (turns (form_of block) counter (turn + 1) (times - (turn + 1))) (rw one at before) walked

  pub leads-no_turn : (rows : List Row) (counter turn times : ℕ) (s : List ℕ) {c : C} {i : I} → times ≤ turn
      → Leads step whole first first_items (turns (form_of rows) counter turn (times - turn) s) c i → Walks step whole first first_items (Ok s) c i
  unfolding turns
  leads-no_turn rows counter turn times s over before =
      let none : times - turn ≡ 0 = omega arith in
      leads-end (rw none at before)

-- What is left of parts behind the one at a place.
module _ {C I E : Type 0} {step : Step C I E} {whole : Form (List ℕ)} {first : C} {first_items : I} where
  at_part : (parts : List Part) (i : ℕ) (none : Part) (s : List ℕ) {c : C} {j : I} → i < length parts
      → Leads step whole first first_items (parts_form (drop i parts) s) c j → Leads step whole first first_items (section_form (section_of (get_or parts i none)) s >>= parts_form (drop (i + 1) parts)) c j
  unfolding sections_form
  at_part parts i none s more before = rw (add-one) (rw (drop-cons parts i none more) at before)

  pub leads-part : (parts : List Part) (i : ℕ) (none : Part) (s t : List ℕ) {c d : C} {j k : I} → i < length parts
      → Leads step whole first first_items (parts_form (drop i parts) s) c j → Walks step (section_form (section_of (get_or parts i none)) s) c j (Ok t) d k → Leads step whole first first_items (parts_form (drop (i + 1) parts) t) d k
  leads-part parts i none s t more before walked = leads-then (parts_form (drop (i + 1) parts)) (at_part parts i none s more before) walked

  pub stop-part : (parts : List Part) (i : ℕ) (none : Part) (s : List ℕ) {e : E} {c d : C} {j k : I} → i < length parts
      → Leads step whole first first_items (parts_form (drop i parts) s) c j → Walks step (section_form (section_of (get_or parts i none)) s) c j (Err e) d k → Walks step whole first first_items (Err e) d k
  stop-part parts i none s more before walked = leads-stop (parts_form (drop (i + 1) parts)) (at_part parts i none s more before) walked

  pub leads-no_part : (parts : List Part) (i : ℕ) (s : List ℕ) {c : C} {j : I} → length parts ≤ i
      → Leads step whole first first_items (parts_form (drop i parts) s) c j → Walks step whole first first_items (Ok s) c j
  unfolding sections_form
  leads-no_part parts i s none before =
      let end : drop i parts ≡ [] = drop_of_length-le parts none in
      leads-end (rw end at before)
