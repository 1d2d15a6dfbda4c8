-- What each call on a merger does to it, and what it returns. Our own.
use Rattle.std.specs.Prelude.{◌≡◌, ◌⊎◌, ℕ, ◌-◌, ◌≤◌, true, List, [], length, map, take, slice_get, Option, Some, None, IfSome}
use Rattle.vx_frame.specs.declared.corner.Corner.{Corner}
use Rattle.vx_merge.specs.Merging.{SameTask}
use Rattle.vx_pic.specs.declared.kind.Kind.{Kind}
use Rattle.vx_pic.specs.Rules.{Readers}
use Rattle.vx_pic.specs.H266.{AreOfH266}
use Rattle.vx_pic.specs.Written.{Plan}
use Rattle.vx_run.specs.declared.stop.Stop.{Stop}
use Rattle.vx_run.specs.Conclusion.{status_of}
use Rattle.vx_push.specs.declared.mixer.Mixed.{Mixed}
use Rattle.vx_push.specs.declared.mixer.Mixed.TheVariants.{Picture as ToPicture, Waits as ToWait, Ended as ToEnd, Stopped as ToStop}
use Rattle.vx_push.specs.Comes.{Handed, Intaking, nothing, with_more}
use Rattle.vx_push.specs.Mixing.{Mixing, HasMixed, Answers, HandsIn}
use Rattle.vx_push.specs.Mixing as push
use Rattle.vx_c.specs.Call.{picture_by, CopiesPicture}
use Rattle.vx_c.specs.declared.corners.GqCorner.{GqCorner}
use Rattle.vx_c.specs.declared.picture.GqPicture.{GqPicture}
use Rattle.vx_c.specs.declared.status.TheConstants.{DONE, MISUSED, WAITS, ENDED}

-- ---- open

abbrev pub corner_of : GqCorner → Corner
corner_of c = record { x = c.x; y = c.y }

-- 0 is the highest of the sources
abbrev pub level_of : ℕ → Option ℕ
level_of ℕ.zero = None
level_of n = Some n

-- A merger of sources at these corners, to which nothing was pushed.
pub record IsFresh (m : Mixing) (corners : List Corner) (level : Option ℕ) : Type 0 where
  pub corners_ : m.merger.corners ≡ corners
  pub level_ : m.merger.level ≡ level
  pub mixed : (R : Readers) → HasMixed R m (map (λ corner. nothing) corners) []
  pub held : m.held ≡ None
  pub end : m.end ≡ None

-- ---- push, flush, end

-- It is done; or there is no such source, and nothing changes.
pub record HandsOver (m later : Mixing) (source : ℕ) (more : Intaking → Handed → Handed) (status : ℕ) : Type 0 where
  pub status_ : (status ≡ DONE) ⊎ (status ≡ MISUSED)
  pub done : status ≡ DONE → HandsIn m later source more
  pub wrong : status ≡ MISUSED → (length m.intakes ≤ source) × (later ≡ m)

-- This many bytes of the piece were taken, and none after the end.
pub record Pushes (m later : Mixing) (source : ℕ) (piece : List ℕ) (taken status : ℕ) : Type 0 where
  pub hands : HandsOver m later source (λ i h. with_more h (take taken piece)) status
  pub few : taken ≤ length piece
  pub ended : (R : Readers) (given : List Handed) (done : List Plan) (h : Handed) → HasMixed R m given done
      → slice_get given source ≡ Some h → h.all ≡ true → taken ≡ 0
  pub count : status ≡ DONE → (i j : Intaking) → slice_get m.intakes source ≡ Some i → slice_get later.intakes source ≡ Some j
      → push.Takes i j (length piece) taken
  pub wrong : status ≡ MISUSED → taken ≡ 0

-- ---- next

abbrev pub status_by : Mixed → ℕ
status_by ToPicture = DONE
status_by (ToWait k) = WAITS
status_by ToEnd = ENDED
status_by (ToStop stop) = status_of stop

-- The source that waits, if one does.
abbrev pub source_by : Mixed → ℕ → ℕ
source_by (ToWait k) before = k
source_by mixed before = before

-- A merger reaches this: the picture that it holds, or its end, again; or what is next.
pub record ComesTo (m later : Mixing) (mixed : Mixed) : Type 0 where
  pub held : (kind : Kind) → m.held ≡ Some kind → (mixed ≡ ToPicture) × (later ≡ m)
  pub ended : (end : Mixed) → m.held ≡ None → m.end ≡ Some end → (mixed ≡ end) × (later ≡ m)
  pub answers : m.held ≡ None → m.end ≡ None → (R : Readers) → AreOfH266 R → (given : List Handed) (done : List Plan) → HasMixed R m given done
      → Answers R later given done mixed
  pub waits : (k : ℕ) → mixed ≡ ToWait k → later ≡ m
  pub task : SameTask m.merger later.merger

pub record Advances (m later : Mixing) (source_before source : ℕ) (picture_before picture : GqPicture) (status : ℕ) : Type 0 where
  pub mixed : Mixed
  pub comes : ComesTo m later mixed
  pub status_ : status ≡ status_by mixed
  pub source_ : source ≡ source_by mixed source_before
  pub told : mixed ≡ ToPicture → IfSome later.held (λ kind. picture ≡ picture_by (later.rounds - 1) (length later.merged) kind)
  pub kept : (mixed ≡ ToPicture → ⊥) → picture ≡ picture_before

-- ---- take, line

-- The merged picture is copied and given up.
pub record TakesPicture (m later : Mixing) (before after : List ℕ) (status : ℕ) : Type 0 where
  pub copies : CopiesPicture m later (record m { held = None; merged = [] }) m.held m.merged before after status
  pub mixed : (R : Readers) (given : List Handed) (done : List Plan) → HasMixed R m given done → HasMixed R later given done

-- Why it goes on no more, if it is stopped.
abbrev pub stop_in : Option Mixed → Option Stop
stop_in (Some (ToStop stop)) = Some stop
stop_in end = None
