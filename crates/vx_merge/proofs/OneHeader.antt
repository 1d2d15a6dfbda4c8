-- The picture header of a round: it goes under the sets that are sent, and it is that of the written picture.
use Rattle.std.proofs.Common.{◌≡◌, ℕ, ◌<◌, List, [], ◌∷◌, length, slice_get, slice_index, Option, Some, refl, sym, ap, subst, ◌∙◌}
use Rattle.std.proofs.Common.{inl, inr, arith}
use Rattle.std.specs.Prelude.{IfSome, option_map}
use Rattle.std.proofs.lemmas.Bool.{cases_lt}
use Rattle.vx_bits.specs.Codes.{EndsInNoZero}
use Rattle.vx_layout.specs.declared.numbers.Numbers.{Numbers}
use Rattle.vx_table.specs.Forms.{form_of}
use Rattle.vx_table.specs.laws.Trailing.{EndsInStop, EndsWithStop, ends_in_stop, is_stop}
use Rattle.vx_table.proofs.Stopped.{last_byte, stops_behind, tables_stop}
use Rattle.vx_rpl.specs.declared.entry.RplTable.{RplTable}
use Rattle.vx_rpl.specs.HeaderLists.{lists_of}
use Rattle.vx_ph.specs.declared.header.PictureHeader.{PictureHeader}
use Rattle.vx_ph.specs.declared.tables.TheConstants.{TRAILING}
use Rattle.vx_ph.specs.Header.{header_form}
use Rattle.vx_ph.specs.InForce.{in_force, structures}
use Rattle.vx_ph.specs.Picture.{IsHeader, IsPictureHeaderUnit, unit_form}
use Rattle.vx_ph.specs.Reshaped.{GoesUnder, IsReshapedPictureHeader, IsShape}
use Rattle.vx_pic.specs.declared.unit_types.TheConstants.{PH_NUT}
use Rattle.vx_pic.specs.Parts.{Parts}
use Rattle.vx_pic.specs.Readings.{Begun}
use Rattle.vx_pic.specs.UnderSets.{picture_header_of}
use Rattle.vx_pic.specs.Written.{Set, SetUnit}
use Rattle.vx_write.specs.Units.{IsUnitOf}
use Rattle.vx_frame.specs.Rounds.{picture_at}
use Rattle.vx_merge.specs.declared.needed.RoundSets.{RoundSets}
use Rattle.vx_merge.specs.Headers.{HasMergedHeader, lmcs_shape, ph_shape}
use Rattle.vx_merge.specs.Needed.{Ids}
use Rattle.vx_merge.specs.Slots.{IsHeld, TakeSlots, TakesFree}
use Rattle.vx_merge.specs.inner.Ready.{IsReady, ids_in}
use Rattle.vx_merge.proofs.KeptSame.{apart, kept_same, some_picture}

-- ---- ids

module _ (count n t : ℕ) (sent : List SetUnit) (at : ℕ → ℕ → Set) (slots : List ℕ) (take : TakeSlots count n t sent at slots) where
  free_below : (k slot : ℕ) → TakesFree count n t sent at slots k slot → slot < count
  free_below k slot takes = elim takes [
    | inl fresh ↦ fresh.in_range
    | inr other ↦ other.1.in_range
  ]

  -- a slot that is taken is one of the type's
  pub slot_below : (k : ℕ) → k < n → slice_index slots k < count
  slot_below k short = elim (cases_lt (slice_index slots k) count) [
    | inl below ↦ below
    | inr past ↦
        let not_held : ¬ IsHeld count n t sent at k = λ held. let low = (take.held k short held).in_range in absurd (omega (arith, low, past)) in
        let low = free_below k (slice_index slots k) (take.others k short not_held) in
        absurd (omega (arith, low, past))
  ]

  first_below : 0 < length slots → slice_index slots 0 < count
  first_below some = let size = take.one_each in slot_below 0 (omega (arith, some, size))

first_id : (count : ℕ) (slots : List ℕ) → (0 < length slots → slice_index slots 0 < count) → IfSome (slice_get slots 0) (λ id. id < count)
first_id count [] below = tt
first_id count (id ∷ slots) below = below (omega arith)

first_lmcs : (round : List Parts) (count : ℕ) (slots : List ℕ) → (0 < length slots → slice_index slots 0 < count)
    → IfSome (option_map (lmcs_shape round) (slice_get slots 0)) (λ lmcs. lmcs.id < count)
first_lmcs round count [] below = tt
first_lmcs round count (id ∷ slots) below = below (omega arith)

-- ---- source 0's header goes under the sets that are sent, and can say that

module _ (level : Option ℕ) (round : List Parts) (frame : Numbers) (sent : List SetUnit) (n : RoundSets)
    (ready : IsReady level round frame sent n) where
  pub is_shape : IsShape (ph_shape round (ids_in n))
  is_shape = record {
    pps_id = ready.needed.pps_id;
    lmcs = first_lmcs round 4 n.lmcs.ids.items (first_below _ _ _ _ _ n.lmcs.ids.items ready.needed.taken.of_lmcs);
    scaling = first_id 8 n.scaling.ids.items (first_below _ _ _ _ _ n.scaling.ids.items ready.needed.taken.of_scaling);
  }

  pub goes_under : (source : PictureHeader) (q : Parts) → q ≡ picture_at round 0 → IsHeader (structures q.sps) (in_force q.sps q.pps) source
      → GoesUnder source n.sps.now n.pps.now
  goes_under source q is header = record {
    own_sps = (picture_at round 0).sps;
    own_pps = (picture_at round 0).pps;
    header = subst (λ x. IsHeader (structures x.sps) (in_force x.sps x.pps) source) is header;
    same = kept_same level round frame sent n ready 0 (some_picture level round frame sent n ready);
    apart = apart level round frame sent n ready;
  }

-- ---- its unit

unit_stops : (table : RplTable) (s : List ℕ) → EndsInStop (unit_form table s)
unfolding unit_form ends_in_stop is_stop
unit_stops table s = stops_behind (header_form table s) (form_of TRAILING) (λ end. tables_stop TRAILING end refl)

-- it ends in rbsp_trailing_bits( ), so that its last byte isn't 00
pub unit_ends : (table : RplTable) (s : List ℕ) (header : PictureHeader) (bytes : List ℕ) → IsPictureHeaderUnit table s header bytes → EndsInNoZero bytes
unit_ends table s header bytes is =
    last_byte bytes (subst (EndsWithStop 0) (sym is.bits) ((unit_stops table s).at 0 is.values is.end is.follows))

-- ---- the written picture has it

module _ (b : Begun) (header : PictureHeader) (fields : b.header ≡ header.fields)
    (is : IsHeader (structures b.sps) (in_force b.sps b.pps) header) where
  -- its lists are those that its items come to
  pub header_is : header ≡ picture_header_of b
  header_is =
      let items = sym fields in
      let of = lists_of (structures b.sps) (in_force b.sps b.pps) in
      let lists : header.lists ≡ of b.header = is.lists ∙ ap of items in
      λ j. record { fields = items j; lists = lists j }

  pub has_header : (round : List Parts) (ids : Ids) (unit rbsp : List ℕ) → b.unit ≡ Some unit
      → IsReshapedPictureHeader (picture_at round 0).header (ph_shape round ids) b.sps b.pps header
      → IsPictureHeaderUnit (structures b.sps) (in_force b.sps b.pps) header rbsp
      → IsUnitOf PH_NUT b.temporal_id rbsp unit → HasMergedHeader round ids b
  has_header round ids unit rbsp there says spelled made = record {
    says = subst (IsReshapedPictureHeader (picture_at round 0).header (ph_shape round ids) b.sps b.pps) header_is says;
    unit = unit;
    is = there;
    rbsp = rbsp;
    spelled = subst (λ h. IsPictureHeaderUnit (structures b.sps) (in_force b.sps b.pps) h rbsp) header_is spelled;
    made = made;
  }
