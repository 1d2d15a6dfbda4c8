-- The first fault of what is held, and who is told it.
use Rattle.std.proofs.Common.{◌≡◌, ◌∙◌, Result, Err, Some, None, sym, ap}
use Rattle.vx_bits.specs.declared.refusal.Refusal.{Refusal}
use Rattle.vx_pic.specs.declared.accepted.Accepted.TheVariants as accepted
use Rattle.vx_assemble.specs.declared.fault.First.{First}
use Rattle.vx_assemble.specs.declared.fault.AssembleFault.{AssembleFault}
use Rattle.vx_assemble.specs.declared.fault.AssembleFault.TheVariants as faults
use Rattle.vx_assemble.specs.inner.Held.{Held}

module _ (h k : Held) (view : h ≡ k) where
  pub first_is : h.first ≡ k.first
  first_is = ap (λ (x : Held). x.first) view

  pub goes_on : {B : Type 0} (f : First) → h.first ≡ None → k.first ≡ Some f → B
  goes_on f none is = let some = first_is ∙ is in absurd (cc)

  pub stops : {B : Type 0} (f : First) → h.first ≡ Some f → k.first ≡ None → B
  stops f some is = let none = first_is ∙ is in absurd (cc)

  pub stops_by : {A : Type 0} (f g : First) → h.first ≡ Some f → k.first ≡ Some g → ◌≡◌ {A = Result A AssembleFault} (Err (faults.Stopped f)) (Err (faults.Stopped g))
  stops_by f g some is = let same = first_is ∙ is in cc

  pub stopped_by : {A : Type 0} (f g : First) → h.first ≡ Some f → ◌≡◌ {A = Result A AssembleFault} (Err (faults.Stopped f)) (Err (faults.Stopped g)) → k.first ≡ Some g
  stopped_by f g some same = sym first_is ∙ some ∙ (let e : f ≡ g = cc in ap Some e)

-- of what was not done or told
pub nothing_done : {B : Type 0} → accepted.Nothing ≡ accepted.PictureDone → B
nothing_done is = absurd (cc)

pub memory_no_stop : {A B : Type 0} {f : First} → ◌≡◌ {A = Result A AssembleFault} (Err faults.Memory) (Err (faults.Stopped f)) → B
memory_no_stop is = absurd (cc)

pub refused_no_stop : {A B : Type 0} {r : Refusal} {f : First} → ◌≡◌ {A = Result A AssembleFault} (Err (faults.Refused r)) (Err (faults.Stopped f)) → B
refused_no_stop is = absurd (cc)
