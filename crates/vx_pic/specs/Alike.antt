-- The kind of a picture among those before it, and pictures of two streams whose counts depend on the same numbers. Our own. Laws
-- on edited streams, and `vx_extract` and `vx_again`, rely on it.
use Rattle.std.specs.Prelude.{◌≡◌, true, false, List, [], ◌∷◌}
use Rattle.vx_pic.specs.declared.kind.Kind.{Kind}
use Rattle.vx_pic.specs.Units.{is_irap_or_gdr}
use Rattle.vx_pic.specs.Sets.{max_lsb, lsb_of, msb_cycle, is_non_ref}
use Rattle.vx_pic.specs.Readings.{Begun, Picture}
use Rattle.vx_pic.specs.Counts.{fits_count, is_empty, begins_anew, kind_of, is_changed}

-- A picture of this kind comes next after those before it, the latest first.
pub record IsNext (earlier : List Picture) (b : Begun) (k : Kind) : Type 0 where
  -- A sequence ended there only if there is a picture before.
  pub ends : k.after_eos ≡ true → is_empty earlier ≡ false
  -- The kind, with the count, is that of its first slice.
  pub kind : k ≡ kind_of earlier k.after_eos b k.nal_type k.temporal_id
  -- It is an IRAP or GDR picture if it begins anew.
  pub begins : begins_anew earlier k.after_eos ≡ true → is_irap_or_gdr k.nal_type ≡ true
  -- Its SPS is that of the picture before, unless it starts a coded layer video sequence.
  pub same : k.clvss ≡ false → is_changed earlier b.sps ≡ false
  -- The count has 32 bits.
  pub fits : fits_count k.poc ≡ true

-- Headers that agree on what counts depend on.
pub record AlikeForCounts (a b : Begun) : Type 0 where
  pub lsb : lsb_of a.header ≡ lsb_of b.header
  pub cycle : msb_cycle a.header ≡ msb_cycle b.header
  pub non_ref : is_non_ref a.header ≡ is_non_ref b.header
  pub max : max_lsb a.sps ≡ max_lsb b.sps

-- Pictures of the same kinds with such headers, each with its own.
abbrev pub AreAlike : List Picture → List Picture → Type 0
AreAlike [] [] = Unit {0}
AreAlike (p ∷ ps) (q ∷ qs) = (p.kind ≡ q.kind) × AlikeForCounts p.begun q.begun × AreAlike ps qs
AreAlike [] (q ∷ qs) = ⊥
AreAlike (p ∷ ps) [] = ⊥

-- A kind, with its count, that comes next after pictures also comes next after pictures that are alike. Its SPS must be that of the
-- picture before, unless the kind starts a coded layer video sequence.
abbrev pub AlikeIsNext : Type 0
AlikeIsNext = (ps qs : List Picture) (b c : Begun) (k : Kind) → AreAlike ps qs → AlikeForCounts b c
    → (k.clvss ≡ false → is_changed qs c.sps ≡ false) → IsNext ps b k → IsNext qs c k
