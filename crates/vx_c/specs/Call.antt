-- A call on a handle: what it does to what the handle holds, and what it returns. Our own.
use Rattle.std.specs.Prelude.{◌≡◌, ◌⊎◌, ◌<◌, ℕ, List, ◌++◌, length, take, drop, Option, Some, None}
use Rattle.vx_pic.specs.declared.kind.Kind.{Kind}
use Rattle.vx_run.specs.declared.stop.Stop.{Stop}
use Rattle.vx_push.specs.Line.{IsLineOf}
use Rattle.vx_c.specs.declared.picture.GqPicture.{GqPicture}
use Rattle.vx_c.specs.declared.state.State.{State}
use Rattle.vx_c.specs.declared.status.TheConstants.{DONE, MISUSED, NO_ROOM, NO_MEMORY}

-- A handle that holds another kind, or nothing, is misused, and nothing changes. Otherwise this is done to what it holds.
pub record Calls {A : Type 0} (of : A → State) (old new : Option State) (status : ℕ) (P : A → A → Type 0) : Type 0 where
  pub none : ((m : A) → old ≡ Some (of m) → ⊥) → (status ≡ MISUSED) × (new ≡ old)
  pub one : (m : A) → old ≡ Some (of m) → (later : A) × (new ≡ Some (of later)) × P m later

-- ---- open

-- The result for a closed handle: it holds a fresh one of this kind; or what is asked for can't be; or there was no memory.
pub record OpensClosed {A : Type 0} (of : A → State) (new : Option State) (CanBe : Type 0) (IsFresh : A → Type 0) (status : ℕ) : Type 0 where
  pub status_ : (status ≡ DONE) ⊎ ((status ≡ MISUSED) ⊎ (status ≡ NO_MEMORY))
  pub done : status ≡ DONE → CanBe × ((m : A) × (new ≡ Some (of m)) × IsFresh m)
  pub misused : status ≡ MISUSED → ¬ CanBe
  pub closed : (status ≡ DONE → ⊥) → new ≡ None

-- One that is open stays as it is.
pub record Opens {A : Type 0} (of : A → State) (old new : Option State) (CanBe : Type 0) (IsFresh : A → Type 0) (status : ℕ) : Type 0 where
  pub open_ : (state : State) → old ≡ Some state → (status ≡ MISUSED) × (new ≡ old)
  pub closed : old ≡ None → OpensClosed of new CanBe IsFresh status

-- ---- next, take, line

-- The description of picture `number` of this kind, of which so many bytes are written.
abbrev pub picture_by : ℕ → ℕ → Kind → GqPicture
picture_by number bytes kind = record {
  number = number;
  bytes = bytes;
  order = kind.poc;
  nal_type = kind.nal_type;
  temporal_id = kind.temporal_id;
  starts_sequence = kind.clvss;
}

-- The picture that waits, of which this is written, is copied and given up; or there is too little room, or none waits, and nothing
-- changes.
pub record CopiesPicture {A : Type 0} (old new without : A) (held : Option Kind) (written before after : List ℕ) (status : ℕ) : Type 0 where
  pub status_ : (status ≡ DONE) ⊎ ((status ≡ NO_ROOM) ⊎ (status ≡ MISUSED))
  pub done : status ≡ DONE → (new ≡ without) × (after ≡ written ++ drop (length written) before)
  pub kept : (status ≡ DONE → ⊥) → (new ≡ old) × (after ≡ before)
  pub room : status ≡ NO_ROOM → length before < length written
  pub misused : status ≡ MISUSED → held ≡ None
  pub none : held ≡ None → status ≡ MISUSED

-- The line of the stop is written, as far as there is room for it; or there is no memory for it, or no stop: then nothing is.
abbrev pub TellsNone : List ℕ → List ℕ → ℕ → Type 0
TellsNone before after len = (len ≡ 0) × (after ≡ before)

abbrev pub TellsLine : Option Stop → List ℕ → List ℕ → ℕ → Type 0
TellsLine None before after len = TellsNone before after len
TellsLine (Some stop) before after len =
    TellsNone before after len
    ⊎ ((line : List ℕ) × IsLineOf stop line × (len ≡ length line) × (after ≡ take (length before) line ++ drop (length line) before))
