-- The units of a round that is written are read again as the plan says.
use Rattle.std.proofs.Common.{◌≡◌, ℕ, pos, suc, ◌+◌, ◌<◌, false, List, [], ◌∷◌, length, map, Option, Some, refl, ap, sym, subst, ◌∙◌, arith}
use Rattle.std.specs.Prelude.{unwrap_or}
use Rattle.std.specs.List.{AllByRecursion, AllZip}
use Rattle.vx_fields.specs.declared.pps.TheConstants as pps_fields
use Rattle.vx_layout.proofs.Parts.{Each-append}
use Rattle.vx_pps.specs.laws.Sets.{ReadSlicesAreListable, SetsTellPartitions}
use Rattle.vx_ph.specs.Id.{UnitHasId}
use Rattle.vx_ph.specs.Picture.{UnitIsRead}
use Rattle.vx_pic.specs.declared.kind.Kind.{Kind}
use Rattle.vx_pic.specs.H266.{AreOfH266}
use Rattle.vx_pic.specs.H266Laws.{HaveOneAnswer}
use Rattle.vx_pic.specs.Parts.{Parts, SlicePart}
use Rattle.vx_pic.specs.Readings.{Slice}
use Rattle.vx_pic.specs.Rules.{Readers}
use Rattle.vx_pic.specs.Sets.{signed}
use Rattle.vx_pic.specs.Units.{class_of, has_header_inside, slice_unit}
use Rattle.vx_pic.specs.Written as written
use Rattle.vx_pic.specs.Written.{HeadReads, Plan, SliceReads}
use Rattle.vx_write.specs.Again.{UnitsAreRead}
use Rattle.vx_frame.specs.declared.corner.Corner.{Corner}
use Rattle.vx_frame.specs.Rounds.{picture_at}
use Rattle.vx_merge.specs.Headers.{IsMergedSlice, sourced}
use Rattle.vx_merge.specs.Merging.{Passes}
use Rattle.vx_again.specs.Frames.{AreFrameSets, IsReadyRound, MakeTheFrame}
use Rattle.vx_again.specs.Rounds.{MergedUnitsAreRead}
use Rattle.vx_again.specs.Sources.{IsSource, IsSourceSlice}
use Rattle.vx_again.proofs.Facts.{apart, kept_same, sets_of, some_round, source_at}
use Rattle.vx_again.proofs.Frames.{make_the_frame, told}
use Rattle.vx_again.proofs.Heads.{header_reads, plain}
use Rattle.vx_again.proofs.Slices.{IsKnownSlice, SliceLaws, outside, slice_reads}

-- ---- slices of a round, each with the index of its source

-- it is one of its source
abbrev pub IsOfItsSource : List Parts → ℕ × SlicePart → Type 0
IsOfItsSource round x = (x.0 < length round) × IsSourceSlice (picture_at round x.0) x.1

those_of : (round : List Parts) (k : ℕ) (slices : List SlicePart) → k < length round
    → AllByRecursion (IsSourceSlice (picture_at round k)) slices → AllByRecursion (IsOfItsSource round) (map (λ s. (k, s)) slices)
those_of round k [] short all = tt
those_of round k (s ∷ slices) short all = ((short, all.0), those_of round k slices short all.1)

from_on : (round : List Parts) (k : ℕ) (qs : List Parts)
    → ((i : ℕ) → i < length qs → (k + i < length round) × (picture_at qs i ≡ picture_at round (k + i)))
    → ((i : ℕ) → i < length round → IsSource (picture_at round i))
    → AllByRecursion (IsOfItsSource round) (sourced k qs)
from_on round k [] at each = tt
from_on round k (q ∷ qs) at each =
    let first = at 0 (omega arith) in
    let here : k + 0 ≡ k = omega arith in
    let short : k < length round = omega (arith, first.0) in
    let same : q ≡ picture_at round k = first.1 ∙ ap (picture_at round) here in
    Each-append (IsOfItsSource round) (map (λ s. (k, s)) q.slices) (sourced (k + 1) qs)
    (those_of round k q.slices short (subst (λ r. AllByRecursion (IsSourceSlice (picture_at round k)) r.slices) (sym same) (each k short).slices))
    (from_on round (k + 1) qs (λ i less. let next : k + suc i ≡ (k + 1) + i = omega arith in let more = at (suc i) (omega (arith, less)) in (omega (arith, more.0), more.1 ∙ ap (picture_at round) next)) each)

pub all_of_sources : (round : List Parts) → ((i : ℕ) → i < length round → IsSource (picture_at round i))
    → AllByRecursion (IsOfItsSource round) (sourced 0 round)
all_of_sources round each = from_on round 0 round (λ i less. let same : 0 + i ≡ i = omega arith in (omega (arith, less), ap (picture_at round) (sym same))) each

-- what holds of each of the one list holds so of the other
zip_each : {A B : Type 0} (P : A → Type 0) (Q : A → B → Type 0) (S : B → Type 0) → ((x : A) (y : B) → P x → Q x y → S y)
    → (xs : List A) (ys : List B) → AllByRecursion P xs → AllZip Q xs ys → AllByRecursion S ys
zip_each P Q S move [] [] all zip = tt
zip_each P Q S move [] (y ∷ ys) all zip = absurd zip
zip_each P Q S move (x ∷ xs) [] all zip = tt
zip_each P Q S move (x ∷ xs) (y ∷ ys) all zip = (move x y all.0 zip.0, zip_each P Q S move xs ys all.1 zip.1)

module _ (tells : SetsTellPartitions) (listable : ReadSlicesAreListable) (reads : UnitIsRead) (has_id : UnitHasId) (laws : SliceLaws)
    (corners : List Corner) (level : Option ℕ) (round : List Parts) (done : List Plan) (p : Plan)
    (ready : IsReadyRound corners round) (passes : Passes corners level round done p) where
  sets : AreFrameSets corners level round p.begun.layout passes.is.ids.pps p.begun.sps p.begun.pps
  sets = sets_of corners level round done p passes.is

  make : MakeTheFrame (length round) p.begun.layout passes.is.ids.pps p.begun.sps p.begun.pps
  make = make_the_frame tells listable corners level round p.begun.layout passes.is.ids.pps p.begun.sps p.begun.pps ready passes.verdict passes.is.frame sets

  some : 0 < length round
  some = some_round tells listable corners round ready passes.verdict

  first : IsSource (picture_at round 0)
  first = source_at tells listable corners round ready passes.verdict 0 some

  class : class_of p.kind.nal_type ≡ slice_unit
  class = ap (λ (k : Kind). class_of k.nal_type) passes.is.kind ∙ first.class

  tid_same : p.begun.temporal_id ≡ (picture_at round 0).kind.temporal_id
  tid_same = passes.is.temporal_id ∙ ap (λ (k : Kind). k.temporal_id) passes.is.kind

  low : p.begun.temporal_id < 7
  low = let less = first.tid in omega (arith, less, tid_same)

  init : signed p.begun.pps pps_fields.pps_init_qp_minus26 ≡ signed (picture_at round 0).pps pps_fields.pps_init_qp_minus26
  init =
      let said = told tells listable corners level round p.begun.layout passes.is.ids.pps p.begun.sps p.begun.pps ready passes.verdict passes.is.frame sets in
      ap (λ v. unwrap_or v (pos 0)) (said.init_qp refl)

  known : (x : ℕ × SlicePart) → IsOfItsSource round x → IsKnownSlice round p.kind.nal_type p.begun x.0 x.1
  known (k, s) (short, source) = record {
    source = source;
    kept = kept_same tells listable corners round ready passes.verdict p.begun.layout passes.is.frame level passes.is.ids.pps p.begun.sps p.begun.pps sets k short;
    apart = apart tells listable corners round ready passes.verdict p.begun.layout passes.is.frame level passes.is.ids.pps p.begun.sps p.begun.pps sets;
    init = init;
    low = low;
    class = class;
  }

  each : AllByRecursion (IsOfItsSource round) (sourced 0 round)
  each = all_of_sources round (source_at tells listable corners round ready passes.verdict)

  abbrev IsItsSlice : ℕ × SlicePart → Slice → Type 0
  IsItsSlice x w = IsMergedSlice round passes.is.ids p.kind.nal_type p.begun x.0 x.1 w

  all_outside : AllByRecursion (λ (w : Slice). has_header_inside w.unit ≡ false) (written.planned_slices p)
  all_outside = zip_each (IsOfItsSource round) IsItsSlice (λ (w : Slice). has_header_inside w.unit ≡ false)
      (λ x w of_source own. outside laws round passes.is.ids p.kind.nal_type p.begun x.0 x.1 w (known x of_source) own) (sourced 0 round) (written.planned_slices p) each passes.is.slices

  pub units_read : (R : Readers) → AreOfH266 R → HaveOneAnswer → UnitsAreRead R p
  units_read R of unique =
      let header = passes.is.header in
      let head : HeadReads R (Some header.unit) p.begun p.first = (
        plain reads has_id round passes.is.ids p.begun (length round) make sets.low low header,
        header_reads reads has_id round passes.is.ids p.begun (length round) make sets.low low header R of unique,
        all_outside.0,
      ) in
      record {
        head = subst (λ o. HeadReads R o p.begun p.first) (sym header.is) head;
        slices = zip_each (IsOfItsSource round) IsItsSlice (SliceReads R p.begun p.kind.nal_type)
            (λ x w of_source own. slice_reads laws round passes.is.ids p.kind.nal_type p.begun x.0 x.1 w (known x of_source) own R of unique) (sourced 0 round) (written.planned_slices p) each passes.is.slices;
        outside = all_outside.1;
        refers = make.referred ∙ sym make.sps_id_is;
        tid = sym passes.is.temporal_id;
      }

pub merged_units_are_read : SetsTellPartitions → ReadSlicesAreListable → UnitIsRead → UnitHasId → SliceLaws → HaveOneAnswer
    → MergedUnitsAreRead
merged_units_are_read tells listable reads has_id laws unique R corners level round done p of ready passes =
    units_read tells listable reads has_id laws corners level round done p ready passes R of unique
