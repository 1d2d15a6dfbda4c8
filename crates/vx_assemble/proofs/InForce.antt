-- The sets that a PPS id refers to, with what they make up, as they are kept.
use Rattle.std.proofs.Common.{◌≡◌, ℕ, List, refl, sym, ap, subst, Ok, Err}
use Rattle.std.specs.Prelude.{Option, Some, None, ok_or, Result}
use Rattle.vx_bits.specs.declared.list.Item.{Item}
use Rattle.vx_bits.specs.declared.refusal.Refusal.{Refusal}
use Rattle.vx_bits.specs.declared.refusal.ReadError.{ReadError}
use Rattle.vx_bits.specs.declared.refusal.ReadError.TheVariants as errors
use Rattle.vx_pic.specs.Answers.{◌>>=◌}
use Rattle.vx_pic.specs.Sets.{referred_sps}
use Rattle.vx_pic.specs.H266.{AreOfH266}
use Rattle.vx_pic.specs.Rules.{Readers}
use Rattle.vx_pic.proofs.Determined.{one_layout}
use Rattle.vx_assemble.specs.declared.begin.SetPair.{SetPair}
use Rattle.vx_assemble.specs.declared.in_force.InForce.{InForce}
use Rattle.vx_assemble.specs.declared.state.MadeSets.{MadeSets}
use Rattle.vx_assemble.specs.declared.state.State.{State}
use Rattle.vx_assemble.specs.inner.Beginning.{AreInForce, layout_under, layout_kept, pps_kept, sps_kept, sets_kept}
use Rattle.vx_assemble.specs.inner.Order.{AreMade, AreStored}
use Rattle.vx_assemble.specs.inner.Takes.{Gives}
use Rattle.vx_assemble.proofs.Steps.{gives_first}

-- ---- kept, and found again

pair_by : (o : Option (List Item)) (r : Refusal) (pps : List Item) (pair : SetPair)
    → (ok_or o r >>= λ sps. Ok (record { sps = sps; pps = pps })) ≡ Ok pair → (pps ≡ pair.pps) × (o ≡ Some pair.sps)
pair_by (Some sps) r pps pair is = let same : record { sps = sps; pps = pps } ≡ pair = cc in (ap (λ (p : SetPair). p.pps) same, ap (λ (p : SetPair). Some p.sps) same)
pair_by None r pps pair is = absurd (cc)

found_by : (o : Option (List Item)) (g : ℕ → Option (List Item)) (q : Refusal) (r : List Item → Refusal) (pair : SetPair)
    → (ok_or o q >>= λ pps. ok_or (g (referred_sps pps)) (r pps) >>= λ sps. Ok (record { sps = sps; pps = pps })) ≡ Ok pair
    → (o ≡ Some pair.pps) × (g (referred_sps pair.pps) ≡ Some pair.sps)
found_by (Some pps) g q r pair is =
    let both = pair_by (g (referred_sps pps)) (r pps) pps pair is in
    (ap (λ x. Some x) both.0, subst (λ x. g (referred_sps x) ≡ Some pair.sps) both.0 both.1)
found_by None g q r pair is = absurd (cc)

pub stored : (s : State) (id : ℕ) (f : InForce) → AreInForce s id f → AreStored s.sps s.pps (record { id = id; sets = f })
stored s id f are =
    let both = found_by (pps_kept s id) (sps_kept s) _ _ (record { sps = f.sps; pps = f.pps }) are.found in
    record { pps_stored = both.0; sps_stored = both.1; made = are.made }

pub found_again : (s : State) (m : MadeSets) (id : ℕ) (f : InForce) → AreStored s.sps s.pps m → m.id ≡ id → f ≡ m.sets → AreInForce s id f
found_again s m id f are same is = rw (is, ← same) record { found = rw (are.pps_stored, are.sps_stored) refl; made = are.made }

-- ---- what they make up

pub makes : (R : Readers) (f : InForce) → AreOfH266 R → AreMade f → layout_under R f.sps f.pps ≡ Ok f.layout
makes R f are made =
    let layout : R.layout f.sps f.pps ≡ Ok f.layout =
    one_layout f.sps f.pps (R.layout f.sps f.pps) (Ok f.layout) (are.layout f.sps f.pps) (made.make, made.layout) in
    rw made.size layout

-- a refusal of either
pub gives_within : {A B C : Type 0} (m : Result A Refusal) (f : A → Result B Refusal) (k : A → B → Result C Refusal) (e : ReadError)
    → Gives (m >>= f) (Err e) → Gives (m >>= λ a. f a >>= k a) (Err e)
gives_within (Ok a) f k e is = gives_first (f a) (k a) e is
gives_within (Err r) f k errors.Memory is = tt
gives_within (Err r) f k (errors.Refused q) is = cc

pub no_sets : (R : Readers) (s : State) (id : ℕ) (e : ReadError) → Gives (sets_kept s id) (Err e) → Gives (layout_kept R s id) (Err e)
no_sets R s id e bad = gives_first (sets_kept s id) (λ pair. layout_under R pair.sps pair.pps) e bad

pub no_layout : (R : Readers) (s : State) (id : ℕ) (pair : SetPair) (e : ReadError) → sets_kept s id ≡ Ok pair → Gives (layout_under R pair.sps pair.pps) (Err e)
    → Gives (layout_kept R s id) (Err e)
no_layout R s id pair e found bad = subst (λ x. Gives (x >>= λ p. layout_under R p.sps p.pps) (Err e)) (sym found) bad
