-- The picture that was begun last, as it is kept.
use Rattle.std.proofs.Common.{◌≡◌, length, true, false, not, refl, sym, ◌∙◌, ap, subst}
use Rattle.std.specs.Prelude.{Some, None, option_map}
use Rattle.std.proofs.lemmas.List.{length-map}
use Rattle.vx_pic.specs.Parts.{header_unit_in}
use Rattle.vx_pic.specs.Readings.{Begun, Picture, is_whole, Current, nothing, headed, going, is_open, is_within_picture}
use Rattle.vx_assemble.specs.declared.state.BegunPicture.{BegunPicture}
use Rattle.vx_assemble.specs.declared.state.CurrentPicture.{CurrentPicture}
use Rattle.vx_assemble.specs.declared.state.GoingPicture.{GoingPicture}
use Rattle.vx_assemble.specs.declared.state.Stage.TheVariants as stages
use Rattle.vx_assemble.specs.inner.Held.{begun_of, header_at, kind_at, begun_in, slice_of, Keeps, IsGoing}
use Rattle.vx_assemble.specs.inner.Order.{IsHeader, AreSlots, IsOrdered}
use Rattle.vx_assemble.specs.inner.Changes.{came_all}
use Rattle.vx_assemble.proofs.Steps.{same_some}

-- the header that is kept
pub begun_is : (c : CurrentPicture) (b : BegunPicture) (x : Begun) → header_at c.stage ≡ Some b → begun_in c ≡ Some x
    → begun_of b (header_unit_in c.bytes c.header_end) ≡ x
begun_is c b x is begun =
    same_some (begun_of b (header_unit_in c.bytes c.header_end)) x
    (sym (ap (λ o. option_map (λ k. begun_of k (header_unit_in c.bytes c.header_end)) o) is) ∙ begun)

pub no_begun : (c : CurrentPicture) (x : Begun) → header_at c.stage ≡ None → begun_in c ≡ Some x → ⊥
no_begun c x is begun =
    let e : None ≡ Some x = sym (ap (λ o. option_map (λ k. begun_of k (header_unit_in c.bytes c.header_end)) o) is) ∙ begun in cc

pub header_is : (c : CurrentPicture) (b : BegunPicture) → header_at c.stage ≡ Some b → IsOrdered c → IsHeader b
header_is c b is o = let slots : AreSlots (Some b) c.bytes c.bodies c.slices = subst (λ x. AreSlots x c.bytes c.bodies c.slices) is o.slots in slots.0

pub going_whole : (c : CurrentPicture) (b : BegunPicture) (p : Picture) → header_at c.stage ≡ Some b → IsOrdered c → IsGoing c p → came_all b c ≡ is_whole p
going_whole c b p is o g =
    let came : length c.slices ≡ length p.slices = sym (length-map c.slices (slice_of c.bytes)) ∙ ap length g.slices in
    let all : b.sets.slices ≡ length p.begun.layout.slices =
    (header_is c b is o).sets.slices ∙ ap (λ x. length x.layout.slices) (begun_is c b p.begun is g.begun) in
    rw (came, all) refl

-- ---- whether slices are to come

pub nothing_open : (c : CurrentPicture) (p : Current) → c.stage ≡ stages.Nothing → Keeps c p → is_open p ≡ false
nothing_open c nothing is k = refl
nothing_open c (headed x) is k = absurd (no_begun c x (ap header_at is) k.begun)
nothing_open c (going p) is k = absurd (no_begun c p.begun (ap header_at is) k.begun)

pub headed_open : (c : CurrentPicture) (b : BegunPicture) (p : Current) → c.stage ≡ stages.Headed b → Keeps c p → is_open p ≡ true
headed_open c b nothing is k = absurd (let e : stages.Headed b ≡ stages.Nothing = sym is ∙ k in cc)
headed_open c b (headed x) is k = refl
headed_open c b (going p) is k = absurd (let e : None ≡ Some p.kind = sym (ap kind_at is) ∙ k.kind in cc)

pub going_open : (c : CurrentPicture) (g : GoingPicture) (p : Current) → c.stage ≡ stages.Going g → IsOrdered c → Keeps c p
    → not (came_all g.begun c) ≡ is_open p
going_open c g nothing is o k = absurd (let e : stages.Going g ≡ stages.Nothing = sym is ∙ k in cc)
going_open c g (headed x) is o k = absurd (let e : Some g.kind ≡ None = sym (ap kind_at is) ∙ k.kind in cc)
going_open c g (going p) is o k = ap not (going_whole c g.begun p (ap header_at is) o k)

pub nothing_within : (c : CurrentPicture) (p : Current) → c.stage ≡ stages.Nothing → Keeps c p → is_within_picture p ≡ false
nothing_within c nothing is k = refl
nothing_within c (headed x) is k = refl
nothing_within c (going p) is k = absurd (no_begun c p.begun (ap header_at is) k.begun)

pub headed_within : (c : CurrentPicture) (b : BegunPicture) (p : Current) → c.stage ≡ stages.Headed b → Keeps c p → is_within_picture p ≡ false
headed_within c b nothing is k = refl
headed_within c b (headed x) is k = refl
headed_within c b (going p) is k = absurd (let e : None ≡ Some p.kind = sym (ap kind_at is) ∙ k.kind in cc)

pub going_within : (c : CurrentPicture) (g : GoingPicture) (p : Current) → c.stage ≡ stages.Going g → IsOrdered c → Keeps c p
    → not (came_all g.begun c) ≡ is_within_picture p
going_within c g nothing is o k = absurd (let e : stages.Going g ≡ stages.Nothing = sym is ∙ k in cc)
going_within c g (headed x) is o k = absurd (let e : Some g.kind ≡ None = sym (ap kind_at is) ∙ k.kind in cc)
going_within c g (going p) is o k = ap not (going_whole c g.begun p (ap header_at is) o k)
