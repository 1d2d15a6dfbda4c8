-- The order of the places in a splitter, and what it drops.
use Rattle.std.specs.Prelude.{◌≡◌, ℕ, ◌+◌, ◌-◌, ◌^◌, ◌<◌, ◌≤◌, List, Option, Some, None, Result, Ok, Err, drop, max}
use Rattle.vx_bits.specs.declared.refusal.Refusal.{Refusal}
use Rattle.vx_annexb.specs.Places.{IsMark}
use Rattle.vx_bits.specs.Limits.{unit_limit}
use Rattle.vx_annexb.specs.ByteStream.{UnitPlace, IsStream}
use Rattle.vx_annexb.specs.inner.Held.{Held, fed, HasSought, Stands}

-- The unit that begins at place s is held whole; or it is too long, and at most its last five bytes are held.
abbrev pub IsKept : Held → ℕ → Option Refusal → Type 0
IsKept h s None = (h.base ≤ s) × (s ≤ h.clear) × ((k : ℕ) → s ≤ h.base + k → h.base + k < h.clear → ¬ IsMark 3 h.kept k)
IsKept h s (Some r) = (s + unit_limit < h.base + 3) × (h.base + 3 ≤ h.sought)

-- The unit that begins at place s lies after the last one.
pub record HasBegun (h : Held) (s : ℕ) : Type 0 where
  pub from : h.from ≤ s
  pub order : s ≤ h.sought
  pub clear : h.clear ≤ h.sought
  pub sought : h.sought + 2 ≤ max (s + 2) (fed h)
  pub held : IsKept h s h.doomed

abbrev pub IsStarted : Held → Option ℕ → Type 0
IsStarted h None = h.doomed ≡ None
IsStarted h (Some s) = HasBegun h s

-- What is held and searched lies in order.
pub record IsInOrder (h : Held) : Type 0 where
  pub fits : fed h < 2 ^ 64
  pub base : h.base ≤ h.sought
  pub from : h.from ≤ h.sought
  pub sought : h.sought ≤ fed h
  pub start : IsStarted h h.start

-- The bytes before place `base` are dropped.
abbrev pub cut_held : Held → ℕ → Option Refusal → Held
cut_held h base doomed = record h { kept = drop (base - h.base) h.kept; base = base; doomed = doomed }

-- They can be dropped if the unit that has begun is then held whole or doomed as given.
pub record IsCut (h : Held) (base : ℕ) (doomed : Option Refusal) : Type 0 where
  pub low : h.base ≤ base
  pub high : base ≤ h.sought
  pub begun : IsStarted (cut_held h base doomed) h.start
  pub sought : (g : List ℕ) (units : List UnitPlace) → Stands h g units → HasSought (cut_held h base doomed) g h.start h.refused

-- The result of a search for the next unit's first byte.
abbrev pub HasStarted : List ℕ → List UnitPlace → Held → Result (Option ℕ) Refusal → Type 0
HasStarted g units h (Ok (Some s)) = Stands h g units
HasStarted g units h (Ok None) = Stands h g units × IsStream g h.all units None
HasStarted g units h (Err r) = Stands h g units × IsStream g h.all units (Some r)
