-- What is kept behind one unit more.
use Rattle.std.proofs.Common.{◌≡◌, ℕ, ◌≤◌, List, ◌∷◌, ◌++◌, length, refl, ◌∙◌, ap, arith, cond, false}
use Rattle.std.specs.Prelude.{◌==◌, Option, Some, None}
use Rattle.std.specs.List.{slice_index_or}
use Rattle.std.specs.Option.{option_or}
use Rattle.std.proofs.lemmas.Bool.Decides.{nat_tests}
use Rattle.std.proofs.lemmas.List.{take_all}
use Rattle.vx_bits.specs.declared.list.Item.{Item}
use Rattle.vx_sei.specs.declared.message.Message.{Message}
use Rattle.vx_pic.specs.Sets.{sps_id, pps_id}
use Rattle.vx_pic.specs.Parts.{header_unit_in}
use Rattle.vx_pic.specs.Readings.{Reading, dropped, vps_read, sps_read, pps_read, messages_read, header_read, sequence_ended}
use Rattle.vx_assemble.specs.declared.state.BegunPicture.{BegunPicture}
use Rattle.vx_assemble.specs.declared.state.MadeSets.{MadeSets}
use Rattle.vx_assemble.specs.declared.state.State.{State}
use Rattle.vx_assemble.specs.inner.Held.{begun_of, IsHeld}
use Rattle.vx_assemble.specs.inner.Changes.{with_items, with_sps, with_pps, with_messages, with_end, with_begun}

pub dropped_held : (s : State) (before : List Reading) → IsHeld s before → IsHeld s (dropped ∷ before)
dropped_held s before h = record {
  apart = record {
    sps = h.apart.sps;
    pps = h.apart.pps;
    aps = h.apart.aps;
    gathered = h.apart.gathered;
    last = h.apart.last;
    previous = h.apart.previous;
    ended = h.apart.ended;
  };
  picture = h.picture;
  items = tt;
}

pub vps_held : (s : State) (before : List Reading) (v : List Item) → IsHeld s before → IsHeld (with_items v s) (vps_read v ∷ before)
vps_held s before v h = record {
  apart = record {
    sps = h.apart.sps;
    pps = h.apart.pps;
    aps = h.apart.aps;
    gathered = h.apart.gathered;
    last = h.apart.last;
    previous = h.apart.previous;
    ended = h.apart.ended;
  };
  picture = h.picture;
  items = refl;
}

pub sps_held : (s : State) (sets : List (Option (List Item))) (made : Option MadeSets) (before : List Reading) (v : List Item) → IsHeld s before
    → ((id : ℕ) → slice_index_or sets id None ≡ option_or (cond (sps_id v == id) (Some v) None) (slice_index_or s.sps id None))
    → IsHeld (with_sps sets made s) (sps_read v ∷ before)
sps_held s sets made before v h stands = record {
  apart = record {
    sps = λ id. stands id ∙ ap (λ o. option_or (cond (sps_id v == id) (Some v) None) o) (h.apart.sps id);
    pps = h.apart.pps;
    aps = h.apart.aps;
    gathered = h.apart.gathered;
    last = h.apart.last;
    previous = h.apart.previous;
    ended = h.apart.ended;
  };
  picture = h.picture;
  items = tt;
}

pub pps_held : (s : State) (sets : List (Option (List Item))) (made : Option MadeSets) (before : List Reading) (v : List Item) → IsHeld s before
    → ((id : ℕ) → slice_index_or sets id None ≡ option_or (cond (pps_id v == id) (Some v) None) (slice_index_or s.pps id None))
    → IsHeld (with_pps sets made s) (pps_read v ∷ before)
pps_held s sets made before v h stands = record {
  apart = record {
    sps = h.apart.sps;
    pps = λ id. stands id ∙ ap (λ o. option_or (cond (pps_id v == id) (Some v) None) o) (h.apart.pps id);
    aps = h.apart.aps;
    gathered = h.apart.gathered;
    last = h.apart.last;
    previous = h.apart.previous;
    ended = h.apart.ended;
  };
  picture = h.picture;
  items = tt;
}

pub messages_held : (s : State) (before : List Reading) (messages : List Message) → IsHeld s before
    → IsHeld (with_messages messages s) (messages_read messages ∷ before)
messages_held s before messages h = record {
  apart = record {
    sps = h.apart.sps;
    pps = h.apart.pps;
    aps = h.apart.aps;
    gathered = ap (λ m. m ++ messages) h.apart.gathered;
    last = h.apart.last;
    previous = h.apart.previous;
    ended = h.apart.ended;
  };
  picture = h.picture;
  items = tt;
}

pub end_held : (s : State) (before : List Reading) → IsHeld s before → IsHeld (with_end s) (sequence_ended ∷ before)
end_held s before h = record {
  apart = record {
    sps = h.apart.sps;
    pps = h.apart.pps;
    aps = h.apart.aps;
    gathered = h.apart.gathered;
    last = h.apart.last;
    previous = h.apart.previous;
    ended = refl;
  };
  picture = h.picture;
  items = tt;
}

-- the PH unit is all bytes
unit_whole : (u : List ℕ) → 2 ≤ length u → header_unit_in u (length u) ≡ Some u
unit_whole u some = let e : (length u == 0) ≡ false = grind (arith, nat_tests) in rw (e, take_all (length u) u (omega arith)) refl

pub header_held : (s : State) (before : List Reading) (b : BegunPicture) (u : List ℕ) → IsHeld s before → 2 ≤ length u
    → IsHeld (with_begun b u s) (header_read (begun_of b (Some u)) ∷ before)
header_held s before b u h some = record {
  apart = record {
    sps = h.apart.sps;
    pps = h.apart.pps;
    aps = h.apart.aps;
    gathered = h.apart.gathered;
    last = h.apart.last;
    previous = h.apart.previous;
    ended = h.apart.ended;
  };
  picture = record { begun = ap (λ x. Some (begun_of b x)) (unit_whole u some); kind = refl; slices = refl; size = refl };
  items = tt;
}
