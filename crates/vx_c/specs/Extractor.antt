-- What each call on an extractor does to it, and what it returns. Our own.
use Rattle.std.specs.Prelude.{◌≡◌, ◌⊎◌, ℕ, ◌-◌, ◌≤◌, true, List, [], ◌++◌, length, take, Option, Some, None, IfSome}
use Rattle.vx_pic.specs.declared.kind.Kind.{Kind}
use Rattle.vx_pic.specs.Readings.{Picture}
use Rattle.vx_pic.specs.Rules.{Readers}
use Rattle.vx_pic.specs.H266.{AreOfH266}
use Rattle.vx_pic.specs.Written.{Plan}
use Rattle.vx_run.specs.declared.extract.Task.{Task}
use Rattle.vx_run.specs.declared.stop.Stop.{Stop}
use Rattle.vx_run.specs.Conclusion.{status_of}
use Rattle.vx_push.specs.declared.cutter.Cut.{Cut}
use Rattle.vx_push.specs.declared.cutter.Cut.TheVariants.{Picture as ToPicture, Waits as ToWait, Ended as ToEnd, Stopped as ToStop}
use Rattle.vx_push.specs.declared.intake.State.TheVariants.{Waits as AtWait, NoMemory as AtNoMemory}
use Rattle.vx_push.specs.Comes.{Handed, nothing, with_more, taken_at_once}
use Rattle.vx_push.specs.Cutting.{Cutting, HasCut, Answers}
use Rattle.vx_c.specs.Call.{picture_by, CopiesPicture}
use Rattle.vx_c.specs.Merger.{level_of}
use Rattle.vx_c.specs.declared.picture.GqPicture.{GqPicture}
use Rattle.vx_c.specs.declared.status.TheConstants.{DONE, WAITS, ENDED}

-- ---- open

abbrev pub task_of : ℕ → ℕ → ℕ → Task
task_of index tid level = record { target = index; level = level_of level; tid = tid }

-- Indices are 0 to 999, and a TemporalId is 0 to 6.
pub record IsTask (index tid : ℕ) : Type 0 where
  pub index_ : index ≤ 999
  pub tid_ : tid ≤ 6

-- An extractor that does this task, to which nothing was pushed.
pub record IsFresh (c : Cutting) (task : Task) : Type 0 where
  pub cut : (R : Readers) → HasCut R task c nothing [] []
  pub held : c.held ≡ None
  pub end : c.end ≡ None

-- ---- push, flush, end

-- More was pushed, and nothing else was done.
pub record HandsOver (c later : Cutting) (more : Handed → Handed) (status : ℕ) : Type 0 where
  pub cut : (R : Readers) → AreOfH266 R → (t : Task) (h : Handed) (ps : List Picture) (done : List Plan)
      → HasCut R t c h ps done → HasCut R t later (more h) ps done
  pub status_ : status ≡ DONE

-- This many bytes of the piece were taken, as the intake takes them, and none after the end.
pub record Pushes (c later : Cutting) (piece : List ℕ) (taken status : ℕ) : Type 0 where
  pub hands : HandsOver c later (λ h. with_more h (take taken piece)) status
  pub few : taken ≤ length piece
  pub ended : (R : Readers) (t : Task) (h : Handed) (ps : List Picture) (done : List Plan) → HasCut R t c h ps done → h.all ≡ true → taken ≡ 0
  pub count : c.intake.state ≡ AtWait → (taken ≡ taken_at_once c.intake (length piece)) ⊎ ((taken ≡ 0) × (later.intake.state ≡ AtNoMemory))
  pub kept : (c.intake.state ≡ AtWait → ⊥) → (taken ≡ 0) × (later ≡ c)

-- ---- next

abbrev pub status_by : Cut → ℕ
status_by ToPicture = DONE
status_by ToWait = WAITS
status_by ToEnd = ENDED
status_by (ToStop stop) = status_of stop

-- An extractor reaches this: the picture that it holds, or its end, again; or what is next.
pub record ComesTo (c later : Cutting) (cut : Cut) : Type 0 where
  pub held : (kind : Kind) → c.held ≡ Some kind → (cut ≡ ToPicture) × (later ≡ c)
  pub ended : (end : Cut) → c.held ≡ None → c.end ≡ Some end → (cut ≡ end) × (later ≡ c)
  pub answers : c.held ≡ None → c.end ≡ None → (R : Readers) → AreOfH266 R → (t : Task) (h : Handed) (ps : List Picture) (done : List Plan)
      → HasCut R t c h ps done → Answers R t later h ps done cut

pub record Advances (c later : Cutting) (picture_before picture : GqPicture) (status : ℕ) : Type 0 where
  pub cut : Cut
  pub comes : ComesTo c later cut
  pub status_ : status ≡ status_by cut
  pub told : cut ≡ ToPicture → IfSome later.held (λ kind. picture ≡ picture_by (later.pictures - 1) (length later.cut) kind)
  pub kept : (cut ≡ ToPicture → ⊥) → picture ≡ picture_before

-- ---- take, line

-- The picture is copied and given up.
pub record TakesPicture (c later : Cutting) (before after : List ℕ) (status : ℕ) : Type 0 where
  pub copies : CopiesPicture c later (record c { held = None; cut = [] }) c.held c.cut before after status
  pub cut : (R : Readers) → AreOfH266 R → (t : Task) (h : Handed) (ps : List Picture) (done : List Plan)
      → HasCut R t c h ps done → HasCut R t later h ps done

-- Why it goes on no more, if it is stopped.
abbrev pub stop_in : Option Cut → Option Stop
stop_in (Some (ToStop stop)) = Some stop
stop_in end = None
