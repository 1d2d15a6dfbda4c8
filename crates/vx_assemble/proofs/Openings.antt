-- A picture that begins, by what is kept.
use Rattle.std.proofs.Common.{◌≡◌, ℕ, false, List, [], ◌∷◌, refl, sym, ◌∙◌, ap}
use Rattle.std.specs.Prelude.{Option, Some, None, is_none, option_map}
use Rattle.vx_bits.specs.declared.list.Item.{Item}
use Rattle.vx_annexb.specs.NalUnit.{nal_unit_type}
use Rattle.vx_pic.specs.Units.{temporal_id}
use Rattle.vx_pic.specs.Readings.{Begun, Reading, Picture, pictures}
use Rattle.vx_pic.specs.Counts.{is_empty, is_changed}
use Rattle.vx_pic.specs.Rules.{opens}
use Rattle.vx_assemble.specs.declared.in_force.InForce.{InForce}
use Rattle.vx_assemble.specs.declared.state.BegunPicture.{BegunPicture}
use Rattle.vx_assemble.specs.declared.state.State.{State}
use Rattle.vx_assemble.specs.inner.Held.{begun_of, last_held, last_sps, IsApart}
use Rattle.vx_assemble.specs.inner.Opening.{held_changed, opened_in}
use Rattle.vx_pic.proofs.SameItems.{same_itself}

empty_is : (ps : List Picture) (o : Option InForce) → option_map (λ f. f.sps) o ≡ last_sps ps → is_empty ps ≡ is_none o
empty_is [] None is = refl
empty_is [] (Some f) is = cc
empty_is (p ∷ ps) None is = cc
empty_is (p ∷ ps) (Some f) is = refl

-- the same SPS isn't another one
pub held_same : (o : Option (List Item)) (sps : List Item) → o ≡ Some sps → held_changed o sps ≡ false
held_same o sps is = rw (is, same_itself sps) refl

changed_is : (ps : List Picture) (sps : List Item) → is_changed ps sps ≡ held_changed (last_sps ps) sps
changed_is [] sps = refl
changed_is (p ∷ ps) sps = refl

opens_under : (s : State) (before : List Reading) (k : BegunPicture) (unit : Option (List ℕ)) (u : List ℕ) → IsApart s before
    → opens before (begun_of k unit) u ≡ opened_in s (begun_of k None) (nal_unit_type u) (temporal_id u)
opens_under s before k unit u held =
    let changed : is_changed (pictures before) k.sets.sps ≡ held_changed (last_held s) k.sets.sps =
    changed_is (pictures before) k.sets.sps ∙ ap (λ o. held_changed o k.sets.sps) (sym held.last) in
    rw (← held.ended, empty_is (pictures before) s.last held.last, changed, ← held.previous) refl

pub opens_are : (s : State) (before : List Reading) (k : BegunPicture) (b : Begun) (u : List ℕ) → IsApart s before → begun_of k b.unit ≡ b
    → opens before b u ≡ opened_in s (begun_of k None) (nal_unit_type u) (temporal_id u)
opens_are s before k b u held is = ap (λ x. opens before x u) (sym is) ∙ opens_under s before k b.unit u held
