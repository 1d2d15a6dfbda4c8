-- What is left of a form after a coder was taken along it.
use Rattle.std.specs.Prelude.{Result}
use Rattle.vx_table.specs.Forms.{Form}
use Rattle.vx_table.specs.Walks.{Step, Walks}

-- Whatever follows this rest of a form, from this coder and these items on, completes the whole.
pub record Leads {C I E A : Type 0} (step : Step C I E) (whole : Form A) (first : C) (first_items : I) (rest : Form A) (c : C) (i : I) : Type 0 where
  pub on : (r : Result A E) (d : C) (j : I) → Walks step rest c i r d j → Walks step whole first first_items r d j
