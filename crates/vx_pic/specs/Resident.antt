-- Pictures that are written one after another: which sets are sent with each, and that all are read again. Our own. Contracts of
-- all writers of streams rely on it.
use Rattle.std.specs.Prelude.{◌≡◌, ◌⊎◌, ℕ, ◌+◌, ◌==◌, ◌&&◌, ◌≤◌, Bool, true, false, not, cond, List, [], ◌∷◌, ◌++◌, length, filter}
use Rattle.std.specs.Prelude.{sum_by, nat_le, Option, Some, None}
use Rattle.std.specs.Option.{option_or}
use Rattle.std.specs.List.{AllByRecursion}
use Rattle.vx_aps.specs.declared.aps.Aps.{Aps}
use Rattle.vx_pic.specs.Units.{temporal_id, has_header_inside, is_irap_or_gdr}
use Rattle.vx_pic.specs.Sets.{Slot, sps_id, pps_id, referred_sps, same_items, names_of}
use Rattle.vx_pic.specs.Readings.{Reading, Picture, aps_of, pictures}
use Rattle.vx_pic.specs.Rules.{Readers, unit_size, picture_limit}
use Rattle.vx_pic.specs.Streams.{all_read, read_on}
use Rattle.vx_pic.specs.Alike.{IsNext}
use Rattle.vx_pic.specs.Written.{Set, an_sps, a_pps, an_aps, IsStored, SetUnit, Plan, planned_slices, units_of, readings_of}
use Rattle.vx_pic.specs.Written.{readings_after, before_header, planned, Rests, AreInOrder, Says, HeadReads, SliceReads, SeiReads}

-- ---- plans one after another, the last one first

-- What their units are read as.
abbrev pub readings_of_plans : List Plan → List Reading
readings_of_plans [] = []
readings_of_plans (p ∷ done) = readings_after (readings_of_plans done) (readings_of p)

abbrev pub units_written : List Plan → List (List ℕ)
units_written [] = []
units_written (p ∷ done) = units_written done ++ units_of p

-- The pictures.
abbrev pub planned_of : List Plan → List Picture
planned_of [] = []
planned_of (p ∷ done) = planned (readings_of_plans done) p ∷ planned_of done

-- ---- sets that are sent

-- Both have the same type and the same id.
abbrev pub same_slot : Set → Set → Bool
same_slot (an_sps s) (an_sps t) = sps_id s == sps_id t
same_slot (a_pps s) (a_pps t) = pps_id s == pps_id t
same_slot (an_aps a) (an_aps b) = (a.kind == b.kind) && (a.id == b.id)
same_slot _ _ = false

-- Before an IRAP or GDR picture no set counts as sent: a receiver may begin there.
abbrev pub kept_for : ℕ → List SetUnit → List SetUnit
kept_for t history = cond (is_irap_or_gdr t) [] history

-- The sets sent since the last such picture was begun.
abbrev pub history_of : List Plan → List SetUnit
history_of [] = []
history_of (p ∷ done) = kept_for p.kind.nal_type (history_of done) ++ p.sent

-- No two of these have the same type and the same id.
abbrev pub HaveOwnSlots : List SetUnit → Type 0
HaveOwnSlots [] = Unit {0}
HaveOwnSlots (x ∷ more) = AllByRecursion (λ y. same_slot x.set y.set ≡ false) more × HaveOwnSlots more

-- The same bytes.
abbrev pub same_bytes : List ℕ → List ℕ → Bool
same_bytes [] [] = true
same_bytes (a ∷ bytes) (b ∷ others) = (a == b) && same_bytes bytes others
same_bytes [] (b ∷ others) = false
same_bytes (a ∷ bytes) [] = false

-- The same set.
abbrev pub same_set : Set → Set → Bool
same_set (an_sps s) (an_sps t) = same_items s t
same_set (a_pps s) (a_pps t) = same_items s t
same_set (an_aps a) (an_aps b) = (a.kind == b.kind) && ((a.id == b.id) && same_bytes a.body b.body)
same_set _ _ = false

-- The last of these units with the type and the id of a set.
abbrev pub last_of : Set → List SetUnit → Option SetUnit
last_of s [] = None
last_of s (x ∷ more) = option_or (last_of s more) (cond (same_slot x.set s) (Some x) None)

-- That unit is of the same set, and can be decoded with pictures of a TemporalId: its own isn't above it (7.4.2.2).
abbrev pub serves : ℕ → Set → Option SetUnit → Bool
serves t s None = false
serves t s (Some x) = same_set x.set s && nat_le (temporal_id x.unit) t

-- A set is resident after sets that count as sent, for a picture of this TemporalId.
abbrev pub is_resident : ℕ → List SetUnit → SetUnit → Bool
is_resident t history x = serves t x.set (last_of x.set history)

-- What counts as sent for a plan after others.
abbrev pub sent_before : List Plan → Plan → List SetUnit
sent_before done p = kept_for p.kind.nal_type (history_of done)

-- Of the sets that a picture needs, exactly those are sent that aren't resident, in order.
pub record Sends (done : List Plan) (p : Plan) : Type 0 where
  pub needed : List SetUnit
  pub slots : HaveOwnSlots needed
  pub sent : p.sent ≡ filter (λ x. not (is_resident p.kind.temporal_id (sent_before done p) x)) needed

-- Each set that a picture needs is in force for its header.
abbrev pub NeededIsStored : Type 0
NeededIsStored = (done : List Plan) (p : Plan) (s : Sends done p)
    → AllByRecursion (λ x. IsStored (before_header (readings_of_plans done) p) x.set) s.needed

-- ---- all plans

-- One of them is this set.
abbrev pub HasSet : List SetUnit → Set → Type 0
HasSet [] s = ⊥
HasSet (x ∷ more) s = (x.set ≡ s) ⊎ HasSet more s

-- Each adaptation parameter set that is named is among them.
abbrev pub HaveNamed : List SetUnit → List Slot → Type 0
HaveNamed needed slots = AllByRecursion (λ slot. (a : Aps) × (a.kind ≡ slot.kind) × (a.id ≡ slot.id) × HasSet needed (an_aps a)) slots

module _ (R : Readers) where
  -- The requirements of a plan that is written after others.
  pub record IsPlanned (done : List Plan) (p : Plan) : Type 0 where
    pub sets : AllByRecursion (λ x. Says R x.unit x.set) p.sent
    pub sends : Sends done p
    pub pps : HasSet sends.needed (a_pps p.begun.pps)
    pub sps : HasSet sends.needed (an_sps p.begun.sps)
    pub refers : referred_sps p.begun.pps ≡ sps_id p.begun.sps
    pub bodies : AllByRecursion (λ s. HaveNamed sends.needed (names_of p.begun.pps p.begun.header s.header)) (planned_slices p)
    pub sei : SeiReads R p.sei
    pub head : HeadReads R p.begun.unit p.begun p.first
    pub slices : AllByRecursion (SliceReads R p.begun p.kind.nal_type) (planned_slices p)
    pub outside : AllByRecursion (λ s. has_header_inside s.unit ≡ false) p.more
    pub order : AreInOrder p.begun 0 (planned_slices p)
    pub all : length (planned_slices p) ≡ length p.begun.layout.slices
    pub size : unit_size p.begun.unit + sum_by (λ s. length s.unit) (planned_slices p) ≤ picture_limit
    pub tid : p.kind.temporal_id ≡ p.begun.temporal_id
    pub next : IsNext (planned_of done) p.begun p.kind

  abbrev pub AreAllPlanned : List Plan → Type 0
  AreAllPlanned [] = Unit {0}
  AreAllPlanned (p ∷ done) = IsPlanned done p × AreAllPlanned done

  -- Their units are read, and the pictures are the planned ones, all whole.
  pub record AllReadAgain (done : List Plan) : Type 0 where
    pub read : read_on R [] (units_written done) ≡ all_read (readings_of_plans done)
    pub planned : pictures (readings_of_plans done) ≡ planned_of done
    pub rests : Rests (readings_of_plans done)

-- Plans that are written are read again.
abbrev pub WrittenReadsAgain : Type 0
WrittenReadsAgain = (R : Readers) (done : List Plan) → AreAllPlanned R done → AllReadAgain R done

-- An adaptation parameter set is one of the picture.
abbrev pub IsBodyOf : Picture → Set → Type 0
IsBodyOf p (an_sps s) = Unit {0}
IsBodyOf p (a_pps s) = Unit {0}
IsBodyOf p (an_aps a) = aps_of p a.kind a.id ≡ Some a

-- Each one that a picture needs is one of the picture that is read again.
abbrev pub NeededIsBody : Type 0
NeededIsBody = (done : List Plan) (p : Plan) (s : Sends done p) → AllByRecursion (λ x. IsBodyOf (planned (readings_of_plans done) p) x.set) s.needed
