-- What later pictures come to behind a whole one.
use Rattle.std.proofs.Common.{◌≡◌, ◌<◌, length, Bool, true, false, cond, refl, sym, ◌∙◌, ap, arith}
use Rattle.std.specs.Prelude.{Option, Some, None}
use Rattle.std.proofs.lemmas.Bool.Decides.{nat_tests}
use Rattle.vx_pic.specs.declared.accepted.Accepted.TheVariants as accepted
use Rattle.vx_assemble.specs.declared.slices.Whole.{Whole}
use Rattle.vx_assemble.specs.declared.state.GoingPicture.{GoingPicture}
use Rattle.vx_assemble.specs.declared.state.Stage.{Stage}
use Rattle.vx_assemble.specs.declared.state.Stage.TheVariants as stages
use Rattle.vx_assemble.specs.declared.state.State.{State}
use Rattle.vx_assemble.specs.inner.Held.{header_at}
use Rattle.vx_assemble.specs.inner.Order.{IsInOrder, IsComplete}
use Rattle.vx_assemble.specs.inner.Changes.{came_all, counts_behind}
use Rattle.vx_assemble.specs.inner.Slices.{IsSettled, whole_of}
use Rattle.vx_assemble.proofs.KeptPicture.{header_is}
use Rattle.vx_assemble.proofs.Steps.{same_some}

-- its sets are the last ones then
abbrev pub behind_whole : State → Whole → State
behind_whole s w = record s { last = Some w.sets; unchanged = true; previous = w.previous }

pub record IsDone (s : State) (w : Whole) : Type 0 where
  pub settled : IsSettled s (behind_whole s w) accepted.PictureDone
  pub order : IsInOrder (behind_whole s w)
  pub complete : IsComplete s.picture

same_going : (g h : GoingPicture) → stages.Going g ≡ stages.Going h → g ≡ h
same_going g h is = cc

done_by : (s : State) (w : Whole) (g : GoingPicture) (all : Bool) → came_all g.begun s.picture ≡ all → s.picture.stage ≡ stages.Going g → IsInOrder s
    → 0 < length s.picture.slices
    → Some w ≡ cond all (Some (record { sets = g.begun.sets; previous = counts_behind g.begun g.kind s.previous })) None → IsDone s w
done_by s w g false came is order some whole = absurd (cc)
done_by s w g true came is order some whole =
    let same : w ≡ record { sets = g.begun.sets; previous = counts_behind g.begun g.kind s.previous } = same_some w _ whole in
    let count : length s.picture.slices ≡ g.begun.sets.slices = grind (arith, nat_tests, came) in
    let header = header_is s.picture g.begun (ap header_at is) order.picture in
    record {
      settled = record {
        new_is = λ h at. let e : g ≡ h = same_going g h (sym is ∙ at) in rw (sym e, came, same) refl;
        told = λ h at. let e : g ≡ h = same_going g h (sym is ∙ at) in rw (sym e, came) refl;
      };
      order = record {
        sps = order.sps;
        pps = order.pps;
        aps = order.aps;
        made = order.made;
        under = order.under;
        known = λ _. rw (same, is) refl;
        picture = order.picture;
        spelled = order.spelled;
        gathered = order.gathered;
      };
      complete = record { slices = rw is (some, count ∙ header.sets.slices) };
    }

done_at : (s : State) (w : Whole) (stage : Stage) → s.picture.stage ≡ stage → IsInOrder s → 0 < length s.picture.slices → Some w ≡ whole_of stage s → IsDone s w
done_at s w stages.Nothing is order some whole = absurd (cc)
done_at s w (stages.Headed b) is order some whole = absurd (cc)
done_at s w (stages.Going g) is order some whole = done_by s w g (came_all g.begun s.picture) refl is order some whole

-- where all slices of the picture came
pub whole_done : (s : State) (w : Whole) → IsInOrder s → 0 < length s.picture.slices → Some w ≡ whole_of s.picture.stage s → IsDone s w
whole_done s w order some whole = done_at s w s.picture.stage refl order some whole
