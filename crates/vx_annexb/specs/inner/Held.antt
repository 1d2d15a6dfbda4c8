-- What a splitter holds of the bytes that it was fed, and how that is tied to them.
use Rattle.std.specs.Prelude.{◌≡◌, ℕ, ◌+◌, ◌<◌, ◌≤◌, Bool, List, Option, Some, None, length, drop, slice_range}
use Rattle.vx_bits.specs.declared.refusal.Refusal.{Refusal}
use Rattle.vx_annexb.specs.Places.{AreZeros, IsMark}
use Rattle.vx_annexb.specs.ByteStream.{StartsAt, UnitPlace, RefusesUnit, RefusesNext, FollowsFrom, end_of}

-- The parts of a splitter.
pub record Held : Type 0 where
  -- The bytes held, and the place of the first of them.
  pub kept : List ℕ
  pub base : ℕ
  -- The number of further bytes for which there is room.
  pub room : ℕ
  -- The place after the last unit returned, 0 before the first.
  pub from : ℕ
  -- The place where the next unit begins, once its start code was found.
  pub start : Option ℕ
  -- The place up to which the next unit has been searched for.
  pub sought : ℕ
  -- The place up to which no 00 00 and a byte of at most 03 begins in the unit that has begun, while it is held whole.
  pub clear : ℕ
  -- The refusal of the unit that has begun, once it is too long and no longer held whole.
  pub doomed : Option Refusal
  -- Whether the bytes fed are all there are.
  pub all : Bool
  -- The first refusal, which every later call returns again.
  pub refused : Option Refusal

-- The number of bytes fed.
abbrev pub fed : Held → ℕ
fed h = h.base + length h.kept

-- The bytes from place s up to place m, of a unit that begins at s, would be refused for this.
abbrev pub IsDoomedBy : List ℕ → ℕ → ℕ → Option Refusal → Type 0
IsDoomedBy g m s None = Unit {0}
IsDoomedBy g m s (Some r) = RefusesUnit (slice_range g s m) s r

-- What has been searched of what comes next.
abbrev pub HasSought : Held → List ℕ → Option ℕ → Option Refusal → Type 0
HasSought h g start (Some r) = RefusesNext g h.all h.from r
HasSought h g None None = AreZeros g h.from h.sought
HasSought h g (Some s) None =
    StartsAt g h.from s × ((k : ℕ) → s ≤ k → k < h.sought → ¬ IsMark 1 g k) × IsDoomedBy g (h.base + 3) s h.doomed

-- h is what a splitter holds of the bytes g after it returned these units.
pub record Stands (h : Held) (g : List ℕ) (units : List UnitPlace) : Type 0 where
  -- All bytes were taken, and those that are held are the last of them.
  pub taken : length g ≡ fed h
  pub kept : h.kept ≡ drop h.base g
  pub given : FollowsFrom g h.all 0 units
  pub behind : h.from ≡ end_of 0 units
  pub sought : HasSought h g h.start h.refused
