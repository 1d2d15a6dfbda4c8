-- What is written for rounds is read again as the merge of their streams, whose regions can be extracted.
use Rattle.std.proofs.Common.{◌≡◌, ℕ, ◌<◌, ◌≤◌, true, false, cond, List, [], ◌∷◌, length, map, All, Option, Some, None, refl, ap, sym, subst, ◌∙◌, inl, inr, arith}
use Rattle.std.specs.Prelude.{nat_le, nat_lt, option_map}
use Rattle.std.specs.List.{AllByRecursion}
use Rattle.std.proofs.lemmas.Bool.{cases_Bool, le-leb, lt-ltb}
use Rattle.std.proofs.lemmas.Option.{slice_get_within}
use Rattle.vx_bits.specs.declared.refusal.Refusal.TheVariants.{Extract}
use Rattle.vx_bits.specs.declared.rules.TheConstants.{SLICE_MISSING}
use Rattle.vx_annexb.specs.ByteStream.{source_limit}
use Rattle.vx_annexb.specs.Laws.{CanStand, written}
use Rattle.vx_sps.specs.Subpictures.{subpics_of}
use Rattle.vx_pic.specs.declared.kind.Kind.{Kind}
use Rattle.vx_pic.specs.Bytes.{ArePictures, ending_by}
use Rattle.vx_pic.specs.Finished.{AreFinished, PicturesAreFinished}
use Rattle.vx_pic.specs.H266.{AreOfH266}
use Rattle.vx_pic.specs.Inputs.{inputs_of}
use Rattle.vx_pic.specs.laws.Pictures.{WrittenHasPictures}
use Rattle.vx_pic.specs.Parts.{parts_of}
use Rattle.vx_pic.specs.Readings.{Picture, Reading, current, is_open, pictures}
use Rattle.vx_pic.specs.Resident.{AllReadAgain, planned_of, readings_of_plans, units_written}
use Rattle.vx_pic.specs.Rules.{Readers, structure}
use Rattle.vx_pic.specs.Streams.{all_read, pictures_of, read_on}
use Rattle.vx_pic.specs.Sublayers.{KeepsStarts, at_most}
use Rattle.vx_pic.specs.Units.{is_irap_or_gdr}
use Rattle.vx_pic.specs.Written.{Plan}
use Rattle.vx_pic.proofs.Sublayers.{low_tid}
use Rattle.vx_extract.specs.Rules.{refusal_of, rule_of_dropped, rule_of_kept}
use Rattle.vx_extract.specs.Whole.{AreKeptWith, AreOfSubpicture, ExtractionReadsAgain}
use Rattle.vx_extract.specs.Written.{IsExtraction}
use Rattle.vx_extract.proofs.ReadyPictures.{each_kept}
use Rattle.vx_frame.specs.declared.corner.Corner.{Corner}
use Rattle.vx_frame.proofs.Passing.{none_broken}
use Rattle.vx_merge.specs.Written.{limits_of}
use Rattle.vx_again.specs.Regions.{AreOfMerge, AreOfSource, HasRegions, PlannedAreOfMerge}
use Rattle.vx_again.specs.Streams.{AreMerged, MergedKeepsMessages, MergedReadsAgain}
use Rattle.vx_again.specs.Whole.{IsExtractedAsSource, MergeIsReadAgain, MergedUnitsCanStand}
use Rattle.vx_again.proofs.Columns.{cons_parts}

abbrev kinds_of : List Picture → List Kind
kinds_of ps = map (λ (p : Picture). p.kind) ps

-- ---- the pictures up to a TemporalId

-- of pictures with the same kinds: what is the same of all is so of those that are kept
kept_same : {A : Type 0} (f g : Picture → A) (tid : ℕ) (qs ps : List Picture) → kinds_of qs ≡ kinds_of ps → map f qs ≡ map g ps
    → map f (at_most tid qs) ≡ map g (at_most tid ps)
kept_same f g tid [] [] kinds same = refl
kept_same f g tid [] (p ∷ ps) kinds same = absurd (omega (arith, ap (λ xs. length xs) kinds))
kept_same f g tid (q ∷ qs) [] kinds same = absurd (omega (arith, ap (λ xs. length xs) kinds))
kept_same f g tid (q ∷ qs) (p ∷ ps) kinds same =
    let kind = cons_parts q.kind p.kind (kinds_of qs) (kinds_of ps) kinds in
    let one = cons_parts (f q) (g p) (map f qs) (map g ps) same in
    let more : map f (at_most tid qs) ≡ map g (at_most tid ps) = kept_same f g tid qs ps kind.1 one.1 in
    ap (λ (k : Kind). map f (cond (nat_le k.temporal_id tid) (q ∷ at_most tid qs) (at_most tid qs))) kind.0
    ∙ elim (cases_Bool (nat_le p.kind.temporal_id tid)) [
      | inl on ↦
          ap (λ b. map f (cond b (q ∷ at_most tid qs) (at_most tid qs))) on
          ∙ (ap (λ x. x ∷ map f (at_most tid qs)) one.0 ∙ ap (λ xs. g p ∷ xs) more)
          ∙ sym (ap (λ b. map g (cond b (p ∷ at_most tid ps) (at_most tid ps))) on)
      | inr off ↦
          ap (λ b. map f (cond b (q ∷ at_most tid qs) (at_most tid qs))) off
          ∙ more
          ∙ sym (ap (λ b. map g (cond b (p ∷ at_most tid ps) (at_most tid ps))) off)
    ]

-- none of them starts a sequence that is left out
starts_same : (tid : ℕ) (qs ps : List Picture) → kinds_of qs ≡ kinds_of ps → KeepsStarts tid ps → KeepsStarts tid qs
starts_same tid [] ps kinds starts = tt
starts_same tid (q ∷ qs) [] kinds starts = absurd (omega (arith, ap (λ xs. length xs) kinds))
starts_same tid (q ∷ qs) (p ∷ ps) kinds starts =
    let kind = cons_parts q.kind p.kind (kinds_of qs) (kinds_of ps) kinds in (
      subst (λ (k : Kind). nat_le k.temporal_id tid ≡ false → is_irap_or_gdr k.nal_type ≡ false) (sym kind.0) starts.0,
      starts_same tid qs ps kind.1 starts.1,
    )

-- ---- rules on extraction

module _ (R : Readers) (corners : List Corner) (k : ℕ) (short : k < length corners) where
  no_rule : (q : Picture) → HasRegions corners q → q.kind.temporal_id < 7 → refusal_of k 6 (parts_of q) ≡ None
  no_rule q regions low =
      let count = regions.count in
      let kept : nat_le q.kind.temporal_id 6 ≡ true = le-leb q.kind.temporal_id 6 (omega (arith, low)) in
      let has : nat_lt k (subpics_of q.begun.sps) ≡ true = lt-ltb k (subpics_of q.begun.sps) (omega (arith, short, count)) in
      ap (λ b. option_map Extract (cond b (rule_of_kept k (parts_of q)) (rule_of_dropped (parts_of q)))) kept
      ∙ rw (has, regions.treated k, regions.filtered k) refl

  no_rules : (qs : List Picture) → AreFinished R qs → AllByRecursion (HasRegions corners) qs
      → AllByRecursion (λ q. refusal_of k 6 (parts_of q) ≡ None) qs
  no_rules [] finished regions = tt
  no_rules (q ∷ qs) finished regions = (no_rule q regions.0 (low_tid R qs q finished.0), no_rules qs finished.2 regions.1)

  have_region : (qs : List Picture) → AllByRecursion (HasRegions corners) qs
      → AllByRecursion (λ (q : Picture). k < subpics_of q.begun.sps) qs
  have_region [] regions = tt
  have_region (q ∷ qs) regions = let count = regions.0.count in (omega (arith, short, count), have_region qs regions.1)

-- ---- a region

module _ (extracted : ExtractionReadsAgain) (R : Readers) (of : AreOfH266 R) (units : List (List ℕ)) (stand : All CanStand units)
    (corners : List Corner) (k : ℕ) (short : k < length corners) where
  region_again : (ps qs : List Picture) → qs ≡ pictures_of R units → AllByRecursion (HasRegions corners) qs → AreOfSource k ps qs
      → AreFinished R qs → IsExtractedAsSource R k ps qs
  region_again ps qs same regions source finished = record {
    rules = no_rules R corners k short qs finished regions;
    again = λ tid level bytes starts is.
        let kept : AreKeptWith k tid qs = record {
          has = each_kept (λ (q : Picture). k < subpics_of q.begun.sps) tid qs (have_region R corners k short qs regions);
          starts = starts_same tid qs ps source.kinds starts;
        } in
        let out = extracted R units k tid level bytes of stand (subst (AreKeptWith k tid) same kept)
        (subst (λ xs. IsExtraction k level (map parts_of (at_most tid xs)) bytes) same is) in
        let them : AreOfSubpicture k (at_most tid qs) out.0 = subst (λ xs. AreOfSubpicture k (at_most tid xs) out.0) (sym same) out.2 in (
          out.0,
          out.1,
          them.alone,
          them.inputs ∙ kept_same (λ (q : Picture). inputs_of q k) (λ (p : Picture). inputs_of p 0) tid qs ps source.kinds source.inputs,
          them.kinds ∙ kept_same (λ (q : Picture). q.kind) (λ (p : Picture). p.kind) tid qs ps source.kinds source.kinds,
        );
  }

-- ---- the whole

-- where no picture lacks a slice, nothing is refused at the end
ends_well : (before : List Reading) → is_open (current before) ≡ false → ending_by true None (all_read before) ≡ None
ends_well before closed =
    ap (λ b. option_map (λ r. record { units = length before; refusal = r }) (cond b (Some (structure SLICE_MISSING)) None)) closed

few_bytes : (corners : List Corner) (level : Option ℕ) (sources : List (List Picture)) (done : List Plan) → 0 < length corners
    → AreMerged corners level sources done → length (written (units_written done)) ≤ source_limit
few_bytes corners level sources [] some merged = omega arith
few_bytes corners level sources (p ∷ done) some ((round, at, passes), merged) =
    let none = (none_broken (length corners) (limits_of done p) passes.limits).1.1.0 0 some in
    omega (arith, none)

pub is_read_again : MergedReadsAgain → MergedUnitsCanStand → WrittenHasPictures → PicturesAreFinished → PlannedAreOfMerge
    → MergedKeepsMessages → ExtractionReadsAgain → MergeIsReadAgain
is_read_again reads stands has_pictures finished of_merge keeps_messages extracted R corners level sources done of so =
    let units : List (List ℕ) = units_written done in
    let qs : List Picture = planned_of done in
    let again : AllReadAgain R done = reads R corners level sources done of so in
    let stand : All CanStand units = stands R corners level sources done of so in
    let same : qs ≡ pictures_of R units = sym (ap (λ o. pictures o.before) again.read ∙ again.planned) in
    let ends : ending_by true None (read_on R [] units) ≡ None
    = ap (ending_by true None) again.read ∙ ends_well (readings_of_plans done) again.rests.closed in
    let are : AreOfMerge corners sources qs = of_merge R corners level sources done of so in
    record {
      read = subst (λ xs. ArePictures R (written units) true xs None) (sym same)
          (subst (ArePictures R (written units) true (pictures_of R units)) ends (has_pictures R units stand));
      pictures = are;
      regions = λ k ps here.
          let short = slice_get_within sources k ps here in
          let long = so.same in
          region_again extracted R of units stand corners k (omega (arith, short, long)) ps qs same are.regions (are.each k ps here)
          (subst (AreFinished R) (sym same) (finished R units));
      messages = λ ps here. keeps_messages corners level sources done ps so.merged here;
      short = few_bytes corners level sources done so.are.some so.merged;
    }
