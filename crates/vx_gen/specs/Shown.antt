-- Generated pictures as callers see them. Our own.
use Rattle.std.specs.Prelude.{ℕ, zero, suc, ◌+◌, ◌*◌, true, List, [], ◌∷◌, None, replicate}
use Rattle.vx_rpl.specs.declared.entry.RefLists.{RefLists}
use Rattle.vx_pic.specs.Parts.{Parts}
use Rattle.vx_gen.specs.Pictures.{generated_header, kind, layout, generated_pps, generated_slice, generated_sps}
use Rattle.vx_gen.specs.Units.{slice}

-- Both reference picture lists are empty.
abbrev pub no_lists : RefLists
no_lists = record { first = []; second = [] }

-- Picture p of source k, whose data is drawn from draw n on: it has one slice, no adaptation parameter sets and no messages.
abbrev pub generated_parts : (seed n k p : ℕ) → Parts
generated_parts seed n k p = record {
  kind = kind p;
  sps = generated_sps;
  pps = generated_pps k;
  layout = layout;
  header = record { fields = generated_header p; lists = no_lists };
  ids = 0 ∷ [];
  unit = None;
  slices = record {
    unit = slice seed n p;
    header = record { inside = true; fields = generated_slice p; subpic = 0; address = 0; lists = no_lists };
    payload = 4;
  } ∷ [];
  bodies = replicate 24 None;
  messages = [];
}

-- The first `pictures` pictures of source k, the last one first, if the first one's data is drawn from draw n on.
abbrev pub shown : (seed n k pictures : ℕ) → List Parts
shown seed n k zero = []
shown seed n k (suc p) = generated_parts seed (n + 5 * p) k p ∷ shown seed n k p
