-- A picture header that is read step by step.
use Rattle.std.proofs.Common.{◌≡◌, ℕ, List, Bool, true, false, not, refl, sym, ◌∙◌, ap, Result, Ok, Err}
use Rattle.std.proofs.Math.Path.{fun_ext}
use Rattle.std.specs.Prelude.{Option, ok_or, is_none}
use Rattle.vx_bits.specs.declared.list.Item.{Item}
use Rattle.vx_bits.specs.declared.refusal.Refusal.{Refusal}
use Rattle.vx_bits.specs.declared.rules.TheConstants as rules
use Rattle.vx_layout.specs.declared.numbers.Numbers.{Numbers}
use Rattle.vx_pic.specs.declared.sets.TheConstants as sets
use Rattle.vx_pic.specs.Answers.{◌>>=◌, refuse_if}
use Rattle.vx_pic.specs.Units.{rbsp_of, temporal_id}
use Rattle.vx_pic.specs.Sets.{referred_sps, same_size}
use Rattle.vx_pic.specs.Readings.{Begun, Reading, stored_sps, stored_pps}
use Rattle.vx_pic.specs.Rules.{Readers, structure, missing, begins}
use Rattle.vx_assemble.specs.declared.begin.SetPair.{SetPair}
use Rattle.vx_assemble.specs.declared.state.State.{State}
use Rattle.vx_bits.specs.declared.refusal.ReadError.{ReadError}
use Rattle.vx_assemble.specs.declared.state.BegunPicture.{BegunPicture}
use Rattle.vx_assemble.specs.inner.Held.{begun_of, IsApart}
use Rattle.vx_assemble.specs.inner.Takes.{Gives}
use Rattle.vx_assemble.specs.inner.Beginning.{layout_under, sets_at, pps_kept, sps_kept, sets_kept, layout_kept, unit_in, header_under, begins_at}
use Rattle.vx_assemble.proofs.Steps.{bind_assoc, bind_same, gives_first, gives_same}
use Rattle.vx_assemble.proofs.InForce.{gives_within}

-- the sets first, and then what they make up
sets_first : (f g : ℕ → Option (List Item)) (id : ℕ) (k : SetPair → Result Begun Refusal)
    → (sets_at f g id >>= k)
    ≡ (ok_or (f id) (missing sets.PPS id) >>= λ pps. ok_or (g (referred_sps pps)) (missing sets.SPS (referred_sps pps)) >>= λ sps. k (record { sps = sps; pps = pps }))
sets_first f g id k =
    bind_assoc (ok_or (f id) (missing sets.PPS id)) _ k
    ∙ bind_same (ok_or (f id) (missing sets.PPS id)) _ _ (λ pps. bind_assoc (ok_or (g (referred_sps pps)) (missing sets.SPS (referred_sps pps))) _ k)

layout_first : (R : Readers) (sps pps : List Item) (k : Numbers → Result Begun Refusal)
    → (layout_under R sps pps >>= k)
    ≡ (refuse_if (not (same_size sps pps)) (structure rules.SIZE_DIFFERS) >>= λ _. R.layout sps pps >>= k)
layout_first R sps pps k = bind_assoc (refuse_if (not (same_size sps pps)) (structure rules.SIZE_DIFFERS)) _ k

pub in_steps : (R : Readers) (before : List Reading) (u : List ℕ) (unit : Option (List ℕ))
    → begins R before u unit ≡ begins_at R (λ id. stored_pps id before) (λ id. stored_sps id before) u unit
in_steps R before u unit =
    bind_same (R.referred_pps (is_none unit) (rbsp_of u)) _ _ (λ id.
    bind_same (ok_or (stored_pps id before) (missing sets.PPS id)) _ _ (λ pps.
    bind_same (ok_or (stored_sps (referred_sps pps) before) (missing sets.SPS (referred_sps pps))) _ _ (λ sps.
    sym (layout_first R sps pps (λ layout. header_under R sps pps layout u unit))))
    ∙ sym (sets_first (λ i. stored_pps i before) (λ i. stored_sps i before) id
    (λ pair. layout_under R pair.sps pair.pps >>= λ layout. header_under R pair.sps pair.pps layout u unit)))

-- under the sets that are kept
pub kept_begins : (R : Readers) (s : State) (before : List Reading) (u : List ℕ) (unit : Option (List ℕ)) → IsApart s before
    → begins R before u unit ≡ begins_at R (pps_kept s) (sps_kept s) u unit
kept_begins R s before u unit held =
    in_steps R before u unit
    ∙ ap (λ f. begins_at R f (λ id. stored_sps id before) u unit) (fun_ext (λ id. sym (held.pps id)))
    ∙ ap (λ g. begins_at R (pps_kept s) g u unit) (fun_ext (λ id. sym (held.sps id)))

-- ---- what is given at each exit

inside_is : (inside : Bool) (u : List ℕ) → is_none (unit_in inside u) ≡ inside
inside_is true u = refl
inside_is false u = refl

-- behind the id
from_id : (R : Readers) (s : State) (inside : Bool) (u : List ℕ) (id : ℕ) → Result Begun Refusal
from_id R s inside u id =
    sets_kept s id >>= λ pair. layout_under R pair.sps pair.pps >>= λ layout. header_under R pair.sps pair.pps layout u (unit_in inside u)

id_step : (R : Readers) (s : State) (before : List Reading) (inside : Bool) (u rbsp : List ℕ) → IsApart s before → rbsp ≡ rbsp_of u
    → begins R before u (unit_in inside u) ≡ (R.referred_pps inside rbsp >>= λ id. from_id R s inside u id)
unfolding from_id
id_step R s before inside u rbsp held spells =
    kept_begins R s before u (unit_in inside u) held
    ∙ ap (λ i. R.referred_pps i (rbsp_of u) >>= λ id. from_id R s inside u id) (inside_is inside u)
    ∙ ap (λ x. R.referred_pps inside x >>= λ id. from_id R s inside u id) (sym spells)

pub id_refused : (R : Readers) (s : State) (before : List Reading) (inside : Bool) (u rbsp : List ℕ) (e : ReadError) → IsApart s before → rbsp ≡ rbsp_of u
    → Gives (R.referred_pps inside rbsp) (Err e) → Gives (begins R before u (unit_in inside u)) (Err e)
id_refused R s before inside u rbsp e held spells bad =
    gives_same (begins R before u (unit_in inside u)) _ (Err e) (id_step R s before inside u rbsp held spells)
    (gives_first (R.referred_pps inside rbsp) (λ id. from_id R s inside u id) e bad)

sets_step : (R : Readers) (s : State) (before : List Reading) (inside : Bool) (u rbsp : List ℕ) (id : ℕ) → IsApart s before → rbsp ≡ rbsp_of u
    → R.referred_pps inside rbsp ≡ Ok id
    → begins R before u (unit_in inside u)
    ≡ (sets_kept s id >>= λ pair. layout_under R pair.sps pair.pps >>= λ layout. header_under R pair.sps pair.pps layout u (unit_in inside u))
unfolding from_id
sets_step R s before inside u rbsp id held spells read =
    id_step R s before inside u rbsp held spells ∙ ap (λ x. x >>= λ i. from_id R s inside u i) read

pub sets_refused : (R : Readers) (s : State) (before : List Reading) (inside : Bool) (u rbsp : List ℕ) (id : ℕ) (e : ReadError) → IsApart s before
    → rbsp ≡ rbsp_of u → R.referred_pps inside rbsp ≡ Ok id → Gives (layout_kept R s id) (Err e) → Gives (begins R before u (unit_in inside u)) (Err e)
sets_refused R s before inside u rbsp id e held spells read bad =
    gives_same (begins R before u (unit_in inside u)) _ (Err e) (sets_step R s before inside u rbsp id held spells read)
    (gives_within (sets_kept s id) (λ pair. layout_under R pair.sps pair.pps) (λ pair layout. header_under R pair.sps pair.pps layout u (unit_in inside u)) e bad)

layout_step : (R : Readers) (s : State) (before : List Reading) (inside : Bool) (u rbsp : List ℕ) (id : ℕ) (pair : SetPair) → IsApart s before
    → rbsp ≡ rbsp_of u → R.referred_pps inside rbsp ≡ Ok id → sets_kept s id ≡ Ok pair
    → begins R before u (unit_in inside u) ≡ (layout_under R pair.sps pair.pps >>= λ layout. header_under R pair.sps pair.pps layout u (unit_in inside u))
layout_step R s before inside u rbsp id pair held spells read found =
    sets_step R s before inside u rbsp id held spells read
    ∙ ap (λ x. x >>= λ y. layout_under R y.sps y.pps >>= λ layout. header_under R y.sps y.pps layout u (unit_in inside u)) found

header_is : (R : Readers) (sps pps : List Item) (layout : Numbers) (inside : Bool) (u rbsp : List ℕ) → rbsp ≡ rbsp_of u
    → header_under R sps pps layout u (unit_in inside u)
    ≡ (R.header inside sps pps rbsp >>= λ header. Ok (record {
      sps = sps;
      pps = pps;
      layout = layout;
      header = header;
      temporal_id = temporal_id u;
      unit = unit_in inside u;
    }))
header_is R sps pps layout inside u rbsp spells = rw (inside_is inside u, ← spells) refl

header_step : (R : Readers) (s : State) (before : List Reading) (inside : Bool) (u rbsp : List ℕ) (id : ℕ) (pair : SetPair) (layout : Numbers)
    → IsApart s before → rbsp ≡ rbsp_of u → R.referred_pps inside rbsp ≡ Ok id → sets_kept s id ≡ Ok pair
    → layout_under R pair.sps pair.pps ≡ Ok layout
    → begins R before u (unit_in inside u) ≡ header_under R pair.sps pair.pps layout u (unit_in inside u)
header_step R s before inside u rbsp id pair layout held spells read found made =
    layout_step R s before inside u rbsp id pair held spells read found
    ∙ ap (λ x. x >>= λ l. header_under R pair.sps pair.pps l u (unit_in inside u)) made

pub header_refused : (R : Readers) (s : State) (before : List Reading) (inside : Bool) (u rbsp : List ℕ) (id : ℕ) (pair : SetPair) (layout : Numbers)
    (e : ReadError) → IsApart s before → rbsp ≡ rbsp_of u → R.referred_pps inside rbsp ≡ Ok id → sets_kept s id ≡ Ok pair
    → layout_under R pair.sps pair.pps ≡ Ok layout → Gives (R.header inside pair.sps pair.pps rbsp) (Err e)
    → Gives (begins R before u (unit_in inside u)) (Err e)
header_refused R s before inside u rbsp id pair layout e held spells read found made bad =
    gives_same (begins R before u (unit_in inside u)) _ (Err e)
    (header_step R s before inside u rbsp id pair layout held spells read found made ∙ header_is R pair.sps pair.pps layout inside u rbsp spells)
    (gives_first (R.header inside pair.sps pair.pps rbsp) _ e bad)

pub begun : (R : Readers) (s : State) (before : List Reading) (inside : Bool) (u rbsp : List ℕ) (id : ℕ) (pair : SetPair) (layout : Numbers)
    (header : List Item) → IsApart s before → rbsp ≡ rbsp_of u → R.referred_pps inside rbsp ≡ Ok id → sets_kept s id ≡ Ok pair
    → layout_under R pair.sps pair.pps ≡ Ok layout → R.header inside pair.sps pair.pps rbsp ≡ Ok header
    → begins R before u (unit_in inside u)
    ≡ Ok (record { sps = pair.sps; pps = pair.pps; layout = layout; header = header; temporal_id = temporal_id u; unit = unit_in inside u })
begun R s before inside u rbsp id pair layout header held spells read found made is =
    header_step R s before inside u rbsp id pair layout held spells read found made
    ∙ header_is R pair.sps pair.pps layout inside u rbsp spells
    ∙ ap (λ x. x >>= λ h. Ok (record {
      sps = pair.sps;
      pps = pair.pps;
      layout = layout;
      header = h;
      temporal_id = temporal_id u;
      unit = unit_in inside u;
    })) is

pub begun_kept : (R : Readers) (s : State) (before : List Reading) (inside : Bool) (u rbsp : List ℕ) (id : ℕ) (pair : SetPair) (k : BegunPicture)
    → IsApart s before → rbsp ≡ rbsp_of u → R.referred_pps inside rbsp ≡ Ok id → sets_kept s id ≡ Ok pair
    → layout_under R pair.sps pair.pps ≡ Ok k.sets.layout → R.header inside pair.sps pair.pps rbsp ≡ Ok k.header.fields → k.sets.sps ≡ pair.sps
    → k.sets.pps ≡ pair.pps → k.temporal_id ≡ temporal_id u → begins R before u (unit_in inside u) ≡ Ok (begun_of k (unit_in inside u))
begun_kept R s before inside u rbsp id pair k held spells read found made is sps pps tid =
    begun R s before inside u rbsp id pair k.sets.layout k.header.fields held spells read found made is ∙ rw (sps, pps, tid) refl
