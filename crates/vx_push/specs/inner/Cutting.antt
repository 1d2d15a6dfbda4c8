-- The steps of a cutter. Our own.
use Rattle.std.specs.Prelude.{◌≡◌, ℕ, ◌+◌, ◌-◌, ◌^◌, ◌<◌, Bool, true, false, List, [], ◌∷◌, ◌++◌, Option, Some, None, Result, Ok, Err}
use Rattle.vx_bits.specs.declared.refusal.Refusal.TheVariants.{Extract}
use Rattle.vx_bits.specs.declared.rules.TheConstants.{NO_PICTURE}
use Rattle.vx_annexb.specs.Laws.{written}
use Rattle.vx_pic.specs.declared.kind.Kind.{Kind}
use Rattle.vx_pic.specs.Readings.{Picture}
use Rattle.vx_pic.specs.Rules.{Readers}
use Rattle.vx_pic.specs.H266.{AreOfH266}
use Rattle.vx_pic.specs.Parts.{Parts}
use Rattle.vx_pic.specs.Written.{Plan, units_of}
use Rattle.vx_write.specs.declared.fault.WriteError.{WriteError}
use Rattle.vx_write.specs.declared.fault.WriteError.TheVariants as errors
use Rattle.vx_extract.specs.Extracting.{Extracting, Stands, HasSlice}
use Rattle.vx_extract.specs.Rules.{is_kept, refusal_of}
use Rattle.vx_extract.specs.Written.{IsExtracted}
use Rattle.vx_run.specs.declared.stop.Place.TheVariants as places
use Rattle.vx_run.specs.declared.extract.Task.{Task}
use Rattle.vx_run.specs.declared.stop.Stop.{Stop}
use Rattle.vx_run.specs.declared.stop.Stop.TheVariants.{Refused, NoMemory}
use Rattle.vx_run.specs.inner.Stopping.{stop_of_write}
use Rattle.vx_push.specs.declared.intake.State.{State}
use Rattle.vx_push.specs.declared.intake.State.TheVariants as states
use Rattle.vx_push.specs.declared.cutter.Cut.{Cut}
use Rattle.vx_push.specs.declared.cutter.Cut.TheVariants.{Picture as ToPicture, Waits as ToWait, Ended as ToEnd, Stopped as ToStop}
use Rattle.vx_push.specs.Comes.{Intaking, Handed}
use Rattle.vx_push.specs.Cutting.{Cutting, HasCut, HoldsPicture, IsAwaited, HasEndedBy}

-- A source has ended after n pictures: there has to be one.
abbrev pub EndsBehind : ℕ → Cut → Type 0
EndsBehind n ToEnd = 0 < n
EndsBehind n (ToStop stop) = (n ≡ 0) × (stop ≡ Refused (Extract NO_PICTURE) (places.Picture 0))
EndsBehind n _ = ⊥

-- What keeps a cutter from going on after n pictures, if its intake is in this state and lends no picture.
abbrev pub HaltsBy : State → ℕ → Cut → Type 0
HaltsBy states.Waits n cut = cut ≡ ToWait
HaltsBy states.Picture n cut = ⊥
HaltsBy states.Ended n cut = EndsBehind n cut
HaltsBy (states.Refused r u) n cut = cut ≡ ToStop (Refused r (places.Unit 0 u))
HaltsBy states.NoMemory n cut = cut ≡ ToStop NoMemory

-- What stops it if picture n isn't written; a sink in memory fails only for lack of it.
abbrev pub stop_by : WriteError → ℕ → Stop
stop_by (errors.Refused r) n = stop_of_write (errors.Refused r) n
stop_by errors.SinkFailed n = NoMemory
stop_by errors.Memory n = NoMemory
stop_by (errors.Stopped first) n = NoMemory

-- What happened to a picture after n others: it was written, with these bytes, or left out; or why neither.
abbrev pub CutsKept : Bool → Parts → List Plan → Extracting → List ℕ → Option Kind → Type 0
CutsKept true q done x bytes kept =
    (kept ≡ Some q.kind)
    × (HasSlice x.target q → (p : Plan) × IsExtracted x.target x.level q done p × (bytes ≡ written (units_of p)) × Stands x (p ∷ done))
CutsKept false q done x bytes kept = (kept ≡ None) × Stands x done

abbrev pub Cuts : Parts → List Plan → Extracting → List ℕ → ℕ → Result (Option Kind) Cut → Type 0
Cuts q done x bytes n (Ok kept) = (refusal_of x.target x.tid q ≡ None) × CutsKept (is_kept x.tid q) q done x bytes kept
Cuts q done x bytes n (Err (ToStop (Refused r place))) = (refusal_of x.target x.tid q ≡ Some r) × (place ≡ places.Picture n)
Cuts q done x bytes n (Err (ToStop NoMemory)) = Unit {0}
Cuts q done x bytes n (Err _) = ⊥

-- What is kept of a result: the end.
abbrev pub end_by : Cut → Option Cut
end_by ToPicture = None
end_by ToWait = None
end_by ToEnd = Some ToEnd
end_by (ToStop stop) = Some (ToStop stop)

-- One picture was written, and is to be held, or was left out; or it waits, or has ended.
abbrev pub StepsTo : Readers → Task → Cutting → Handed → List Picture → List Plan → Result (Option Kind) Cut → Type 0
StepsTo R t c h ps done (Ok None) = (q : Picture) × HasCut R t c h (q ∷ ps) done
StepsTo R t c h ps done (Ok (Some kind)) =
    (q : Picture) × (p : Plan) × HasCut R t (record c { held = Some kind }) h (q ∷ ps) (p ∷ done) × HoldsPicture (record c { held = Some kind }) p
StepsTo R t c h ps done (Err ToWait) = HasCut R t c h ps done × IsAwaited R h ps
StepsTo R t c h ps done (Err ToPicture) = ⊥
StepsTo R t c h ps done (Err end) = HasCut R t (record c { end = Some end }) h ps done × HasEndedBy R t h ps end

-- How many units there may be after the picture that is lent, and none if there is no picture; each picture that is passed leaves fewer.
abbrev pub units_by : State → ℕ → ℕ
units_by states.Picture n = 2 ^ 40 + 1 - n
units_by state n = 0

abbrev pub units_left : Intaking → ℕ
units_left i = units_by i.state i.feed.units

-- A cutter that began to seek the next picture as `old` still seeks it.
pub record StillCuts (old c : Cutting) : Type 0 where
  pub cuts : (R : Readers) → AreOfH266 R → (t : Task) (h : Handed) (ps : List Picture) (done : List Plan) → HasCut R t old h ps done
      → (later : List Picture) × HasCut R t c h (later ++ ps) done
  pub held : c.held ≡ None
  pub going : c.end ≡ None
