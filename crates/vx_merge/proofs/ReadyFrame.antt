-- A frame that a round uses, and the sets that the round needs in it.
use Rattle.std.proofs.Common.{ℕ, List, Option, sym, subst}
use Rattle.vx_pic.specs.Parts.{Parts}
use Rattle.vx_pic.specs.Written.{SetUnit}
use Rattle.vx_frame.specs.declared.corner.Corner.{Corner}
use Rattle.vx_frame.specs.declared.frame.Frame.{Frame}
use Rattle.vx_frame.specs.inner.Frames.{IsUsedFor}
use Rattle.vx_merge.specs.declared.needed.RoundSets.{RoundSets}
use Rattle.vx_merge.specs.inner.Ready.{AreNeeded, IsReady}

pub needed_there : (corners : List Corner) (level : Option ℕ) (round : List Parts) (s : Frame) (sent : List SetUnit) (n : RoundSets) → IsUsedFor corners level round s
    → AreNeeded corners level round s.geometry.numbers sent n → AreNeeded corners level round s.layout sent n
needed_there corners level round s sent n used needed = subst (λ l. AreNeeded corners level round l sent n) (sym used.is.layout) needed

pub ready_for : (corners : List Corner) (level : Option ℕ) (round : List Parts) (s : Frame) (sent : List SetUnit) (n : RoundSets) → IsUsedFor corners level round s
    → AreNeeded corners level round s.geometry.numbers sent n → IsReady level round s.layout sent n
ready_for corners level round s sent n used needed =
    subst (λ l. IsReady level round l sent n) (sym used.is.layout)
    (record { corners = corners; same = used.count; passes = used.passes; made = used.is.made; shapes = used.is.geometry.shapes; needed = needed })
