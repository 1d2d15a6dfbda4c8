-- A walk that may also end where memory runs out, put together of its steps.
use Rattle.std.proofs.Common.{Result, Ok, Err}
use Rattle.vx_table.specs.Forms.{Form, done, ◌>>=◌}
use Rattle.vx_table.specs.Walks.{Step, Walks}
use Rattle.vx_table.specs.Walks as walks
use Rattle.vx_pps.specs.declared.halt.Halt.{Halt}
use Rattle.vx_pps.specs.declared.halt.Halt.TheVariants.{Memory, Refused}
use Rattle.vx_pps.specs.inner.Walked.{Walked, ended, coded, refused, halted}

-- a walk to the end of one form and on along the next is one along both
pub then : {C I E A B : Type 0} {step : Step C I E} {f : Form A} (next : A → Form B) {c d e : C} {i j k : I} {a : A} {r : Result B (Halt E)}
    → Walked step f c i (Ok a) d j → Walked step (next a) d j r e k → Walked step (f >>= next) c i r e k
then next ended behind = behind
then next (coded s rest) behind = coded s (then next rest behind)

-- what ends a walk within the first form ends it within both
pub stop : {C I E A B : Type 0} {step : Step C I E} {f : Form A} (next : A → Form B) {c d : C} {i j : I} {e : Halt E}
    → Walked step f c i (Err e) d j → Walked step (f >>= next) c i (Err e) d j
stop next (coded s rest) = coded s (stop next rest)
stop next (refused s) = refused s
stop next halted = halted

-- where memory runs out, nothing is said
pub halt : {C I E A : Type 0} (step : Step C I E) (form : Form A) (c d : C) (i j : I) → Walked step form c i (Err Memory) d j
halt step form c d i j = halted

-- ---- walks that don't ask for memory

pub from_end : {C I E A : Type 0} {step : Step C I E} {f : Form A} {c d : C} {i j : I} {a : A}
    → Walks {E = E} step f c i (Ok a) d j → Walked step f c i (Ok a) d j
from_end walks.ended = ended
from_end (walks.coded s rest) = coded s (from_end rest)

pub from_refusal : {C I E A : Type 0} {step : Step C I E} {f : Form A} {c d : C} {i j : I} {e : E}
    → Walks {A = A} step f c i (Err e) d j → Walked {A = A} step f c i (Err (Refused e)) d j
from_refusal (walks.coded s rest) = coded s (from_refusal rest)
from_refusal (walks.refused s) = refused s

pub to_end : {C I E A : Type 0} {step : Step C I E} {f : Form A} {c d : C} {i j : I} {a : A}
    → Walked {E = E} step f c i (Ok a) d j → Walks step f c i (Ok a) d j
to_end ended = walks.ended
to_end (coded s rest) = walks.coded s (to_end rest)

pub to_refusal : {C I E A : Type 0} {step : Step C I E} {f : Form A} {c d : C} {i j : I} {e : E}
    → Walked {A = A} step f c i (Err (Refused e)) d j → Walks {A = A} step f c i (Err e) d j
to_refusal (coded s rest) = walks.coded s (to_refusal rest)
to_refusal (refused s) = walks.refused s

-- ---- loops

-- Whatever follows this rest of a form, from this coder and these items on, completes the whole.
pub record Leads {C I E A : Type 0} (step : Step C I E) (whole : Form A) (first : C) (first_items : I) (rest : Form A) (c : C) (i : I) : Type 0 where
  pub on : (r : Result A (Halt E)) (d : C) (j : I) → Walked step rest c i r d j → Walked step whole first first_items r d j

pub leads : {C I E A : Type 0} (step : Step C I E) (f : Form A) (c : C) (i : I) → Leads step f c i f c i
leads step f c i = record { on = λ r d j w. w }

-- behind a form that was walked
pub leads-then : {C I E A B : Type 0} {step : Step C I E} {whole : Form A} {first : C} {first_items : I} {f : Form B} (next : B → Form A) {c d : C} {i j : I} {b : B}
    → Leads step whole first first_items (f >>= next) c i → Walked step f c i (Ok b) d j → Leads step whole first first_items (next b) d j
leads-then next before walked = record { on = λ r d j rest. before.on r d j (then next walked rest) }

-- at what ends a walk
pub leads-stop : {C I E A B : Type 0} {step : Step C I E} {whole : Form A} {first : C} {first_items : I} {f : Form B} (next : B → Form A) {c d : C} {i j : I} {e : Halt E}
    → Leads step whole first first_items (f >>= next) c i → Walked step f c i (Err e) d j → Walked step whole first first_items (Err e) d j
leads-stop next before walked = before.on _ _ _ (stop next walked)

-- at the end
pub leads-end : {C I E A : Type 0} {step : Step C I E} {whole : Form A} {first : C} {first_items : I} {a : A} {c : C} {i : I}
    → Leads step whole first first_items (done a) c i → Walked step whole first first_items (Ok a) c i
leads-end before = before.on _ _ _ ended
