-- The sets that are sent for a round that breaks no rule keep what the sets of each of its pictures keep.
use Rattle.std.proofs.Common.{◌≡◌, ℕ, zero, suc, ◌<◌, List, [], ◌∷◌, length, Option, refl, sym, ◌∙◌, arith}
use Rattle.std.specs.List.{AllByRecursion}
use Rattle.vx_layout.specs.declared.numbers.Numbers.{Numbers}
use Rattle.vx_sps.specs.Depends as sps_set
use Rattle.vx_sps.proofs.Says.{reshaped_keeps}
use Rattle.vx_pps.specs.Pps as pps_set
use Rattle.vx_pps.proofs.Framing.{frame_keeps}
use Rattle.vx_ph.specs.Reshaped.{HaveSameKept, IsApart}
use Rattle.vx_pic.specs.Parts.{Parts}
use Rattle.vx_pic.specs.Written.{SetUnit}
use Rattle.vx_write.specs.InForce.{AreInForce}
use Rattle.vx_write.proofs.Spelled.{pps_items, sps_items}
use Rattle.vx_frame.specs.Rounds.{picture_at}
use Rattle.vx_frame.specs.Shapes.{frame_pps_shape, frame_sps_shape}
use Rattle.vx_frame.proofs.Passing.{pps_alike, sps_alike}
use Rattle.vx_merge.specs.declared.needed.RoundSets.{RoundSets}
use Rattle.vx_merge.specs.inner.Ready.{IsReady}
use Rattle.vx_merge.proofs.Apart.{frame_apart}

in_force_at : (round : List Parts) (k : ℕ) → k < length round → AllByRecursion AreInForce round → AreInForce (picture_at round k)
in_force_at [] k short are = absurd (omega (arith, short))
in_force_at (q ∷ round) zero short are = are.0
in_force_at (q ∷ round) (suc k) short are = in_force_at round k (omega (arith, short)) are.1

module _ (level : Option ℕ) (round : List Parts) (frame : Numbers) (sent : List SetUnit) (n : RoundSets)
    (ready : IsReady level round frame sent n) where
  -- there is a picture
  pub some_picture : 0 < length round
  some_picture = let some = ready.made.can.are.some in let same = ready.same in omega (arith, some, same)

  in_force : (k : ℕ) → k < length round → AreInForce (picture_at round k)
  in_force k short = in_force_at round k short ready.made.are

  -- what source 0's sets keep
  sps_sent : sps_set.kept_sps_items n.sps.now ≡ sps_set.kept_sps_items (picture_at round 0).sps
  sps_sent = reshaped_keeps (picture_at round 0).sps n.sps.now (frame_sps_shape ready.corners round level) ready.needed.sps

  pps_sent : pps_set.kept_pps_items n.pps.now ≡ pps_set.kept_pps_items (picture_at round 0).pps
  pps_sent =
      let shape = frame_pps_shape ready.corners round frame n.pps_id in
      frame_keeps (picture_at round 0).pps n.pps.now shape (in_force 0 some_picture).pps ready.needed.pps refl

  pub kept_same : (k : ℕ) → k < length round → HaveSameKept (picture_at round k).sps (picture_at round k).pps n.sps.now n.pps.now
  kept_same k short = record {
    of_sps = sps_sent ∙ sym (sps_alike ready.corners round ready.same ready.passes k short);
    of_pps = pps_sent ∙ sym (pps_alike ready.corners round ready.same ready.passes k short);
    is_sps = (in_force k short).sps;
    is_other_sps = sps_items (picture_at round 0).sps (frame_sps_shape ready.corners round level) n.sps.now ready.needed.sps;
    is_pps = (in_force k short).pps;
    is_other_pps = pps_items (picture_at round 0).pps (frame_pps_shape ready.corners round frame n.pps_id) n.pps.now ready.needed.pps;
  }

  -- the filter and the QP stand in slice headers
  pub apart : IsApart n.pps.now
  apart = frame_apart (picture_at round 0).pps n.pps.now (frame_pps_shape ready.corners round frame n.pps_id) ready.needed.pps refl
