-- The result for a unit that was read. Our own. The contracts of `Assembler` rely on it.
use Rattle.std.specs.Prelude.{cond, List, ◌∷◌}
use Rattle.vx_pic.specs.declared.accepted.Accepted.{Accepted}
use Rattle.vx_pic.specs.declared.accepted.Accepted.TheVariants as accepted
use Rattle.vx_pic.specs.Sets.{sps_id, pps_id}
use Rattle.vx_pic.specs.Readings.{Reading, dropped, vps_read, sps_read, pps_read, aps_read, messages_read, header_read, first_slice}
use Rattle.vx_pic.specs.Readings.{next_slice, sequence_ended, Current, nothing, headed, going, current, is_whole}

-- A picture is complete with this slice, or more of its slices come.
abbrev pub done_or_not : Current → Accepted
done_or_not nothing = accepted.Nothing
done_or_not (headed b) = accepted.Nothing
done_or_not (going p) = cond (is_whole p) accepted.PictureDone accepted.Nothing

-- A unit that was read as this after those before it.
abbrev pub told_of : Reading → List Reading → Accepted
told_of dropped before = accepted.Nothing
told_of (vps_read v) before = accepted.Vps
told_of (sps_read s) before = accepted.Sps (sps_id s)
told_of (pps_read p) before = accepted.Pps (pps_id p)
told_of (aps_read a) before = accepted.Aps a.kind a.id
told_of (messages_read m) before = accepted.Nothing
told_of (header_read b) before = accepted.Nothing
told_of (first_slice b k s) before = done_or_not (current (first_slice b k s ∷ before))
told_of (next_slice s) before = done_or_not (current (next_slice s ∷ before))
told_of sequence_ended before = accepted.Nothing
