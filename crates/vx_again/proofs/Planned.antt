-- What is written for the rounds of several streams is as plans have to be, and has the kinds of each stream.
use Rattle.std.proofs.Common.{◌≡◌, ℕ, ◌<◌, Bool, true, false, not, List, [], ◌∷◌, length, map, Option, refl, ap, sym, subst, ◌∙◌, arith}
use Rattle.std.specs.Prelude.{drop}
use Rattle.std.specs.List.{AllByRecursion, AllZip}
use Rattle.std.proofs.lemmas.Bool.{not-false}
use Rattle.std.proofs.lemmas.List.{length-map}
use Rattle.vx_pic.specs.declared.kind.Kind.{Kind}
use Rattle.vx_pic.specs.Alike.{AlikeForCounts, AreAlike, IsNext}
use Rattle.vx_pic.specs.Counts.{is_changed, kind_of}
use Rattle.vx_pic.specs.H266.{AreOfH266}
use Rattle.vx_pic.specs.Parts.{Parts, parts_of}
use Rattle.vx_pic.specs.Readings.{Begun, Picture, Slice}
use Rattle.vx_pic.specs.Resident.{AreAllPlanned, HaveNamed, IsPlanned, is_resident, planned_of, readings_of_plans, sent_before}
use Rattle.vx_pic.specs.Rules.{Readers}
use Rattle.vx_pic.specs.Sets.{names_of, same_items}
use Rattle.vx_pic.specs.Written.{Plan, Says, SetUnit, planned, planned_slices}
use Rattle.vx_pic.proofs.Counting.{alike_is_next, same_kind}
use Rattle.vx_pic.proofs.SameItems.{same_itself}
use Rattle.vx_pic.proofs.Sent.{items_are}
use Rattle.vx_write.specs.Again.{HasItsBodies, IsReadable, IsWholePlan, SeiUnitsAreRead, SendsItsSets, SetUnitsAreRead, UnitsAreRead}
use Rattle.vx_write.specs.Units.{IsSetUnit}
use Rattle.vx_write.proofs.OwnSets.{each_passing}
use Rattle.vx_frame.specs.declared.corner.Corner.{Corner}
use Rattle.vx_frame.specs.Corners.{AreCorners}
use Rattle.vx_frame.specs.Rounds.{picture_at}
use Rattle.vx_frame.specs.Rules.{shared_kind}
use Rattle.vx_frame.proofs.Passing.{kind_alike}
use Rattle.vx_merge.specs.Merging.{Passes}
use Rattle.vx_merge.specs.Written.{IsMerged}
use Rattle.vx_again.specs.Frames.{IsReadyRound}
use Rattle.vx_again.specs.Rounds.{MergedHasItsBodies, MergedIsAlike, MergedIsWhole, MergedSendsItsSets, MergedUnitsAreRead}
use Rattle.vx_again.specs.Sources.{CanBeMerged, IsSource}
use Rattle.vx_again.specs.Streams.{AreMerged, MergedArePlanned, earlier}
use Rattle.vx_again.proofs.Columns.{IsLast, IsSoundLast, all_last, earlier_can, earlier_long, ready_round, sound_lasts, sources_are}
use Rattle.vx_again.proofs.Counts.{all_at, of_parts}
use Rattle.vx_again.proofs.Facts.{one_at}
use Rattle.vx_again.proofs.OneSps.{AreSame, one_sps}

-- ---- one round, all but its place among the pictures

module _ (R : Readers) (of : AreOfH266 R) (units_read : MergedUnitsAreRead) (wholes : MergedIsWhole) (sends : MergedSendsItsSets)
    (bodies : MergedHasItsBodies) (sets_read : SetUnitsAreRead) (sei_reads : SeiUnitsAreRead)
    (corners : List Corner) (level : Option ℕ) (round : List Parts) (done : List Plan) (p : Plan) (ready : IsReadyRound corners round)
    (passes : Passes corners level round done p) where
  abbrev is : IsMerged corners level round done p
  is = passes.is

  first_source : IsSource (picture_at round 0)
  first_source = let some = ready.are.some in let same = ready.same in one_at IsSource round 0 (omega (arith, some, same)) ready.each

  low : p.kind.temporal_id < 7
  low = subst (λ (k : Kind). k.temporal_id < 7) (sym is.kind) first_source.tid

  all_say : (units : List SetUnit) → AllByRecursion (λ (u : SetUnit). IsReadable u.set) units
      → AllByRecursion (λ (u : SetUnit). IsSetUnit p.kind.temporal_id u.set u.unit) units
      → AllByRecursion (λ (u : SetUnit). Says R u.unit u.set) units
  all_say [] can are = tt
  all_say (u ∷ units) can are = (sets_read R p.kind.temporal_id u.set u.unit of low can.0 are.0, all_say units can.1 are.1)

  abbrev is_sent : SetUnit → Bool
  is_sent x = not (is_resident p.kind.temporal_id (sent_before done p) x)

  pub planned_if : IsNext (planned_of done) p.begun p.kind → IsPlanned R done p
  planned_if next =
      let read : UnitsAreRead R p = units_read R corners level round done p of ready passes in
      let full : IsWholePlan p = wholes corners level round done p ready passes in
      let sent : SendsItsSets is.needed done p = sends corners level round done p is in
      let own : HasItsBodies is.needed p = bodies corners level round done p ready passes.verdict is in
      let can : AllByRecursion (λ (u : SetUnit). IsReadable u.set) p.sent =
      subst (λ xs. AllByRecursion (λ (u : SetUnit). IsReadable u.set) xs) (sym is.sent) (each_passing (λ (u : SetUnit). IsReadable u.set) is_sent is.needed own.readable) in
      let made : AllByRecursion (λ (u : SetUnit). IsSetUnit p.kind.temporal_id u.set u.unit) p.sent =
      subst (λ xs. AllByRecursion (λ (u : SetUnit). IsSetUnit p.kind.temporal_id u.set u.unit) xs) (sym is.sent) (each_passing (λ (u : SetUnit). IsSetUnit p.kind.temporal_id u.set u.unit) is_sent is.needed is.units) in
      record {
        sets = all_say p.sent can made;
        sends = sent.sends;
        pps = sent.pps;
        sps = sent.sps;
        refers = read.refers;
        bodies = subst (λ needed. AllByRecursion (λ (s : Slice). HaveNamed needed (names_of p.begun.pps p.begun.header s.header)) (planned_slices p)) (sym sent.same) own.bodies;
        sei = sei_reads R p.kind.temporal_id (picture_at round 0).messages p.sei of low first_source.carried first_source.short is.sei;
        head = read.head;
        slices = read.slices;
        outside = read.outside;
        order = full.order;
        all = full.all;
        size = full.size;
        tid = read.tid;
        next = next;
      }

-- ---- kinds

-- the kind that comes next, by what all pictures of a round have
abbrev kind_by : List Picture → Begun → ℕ × (ℕ × Bool) → Kind
kind_by before b x = kind_of before x.1.1 b x.0 x.1.0

module _ (R : Readers) (done : List Plan) (p : Plan) where
  own_kind : (ps : List Picture) (q : Picture) → IsSoundLast R ps q → AreAlike (drop 1 ps) (planned_of done)
      → AlikeForCounts q.begun p.begun → q.kind ≡ kind_by (planned_of done) p.begun (shared_kind (parts_of q))
  own_kind ps q last_ alike same = last_.sound.next.kind
      ∙ same_kind (drop 1 ps) (planned_of done) q.begun p.begun q.kind.after_eos q.kind.nal_type q.kind.temporal_id alike same

  -- so is that of each picture of the round
  kinds : (sources : List (List Picture)) (round : List Picture) (shared : ℕ × (ℕ × Bool)) → AllZip (IsSoundLast R) sources round
      → AllByRecursion (λ ps. AreAlike ps (planned_of done)) (earlier sources)
      → AllByRecursion (λ q. AlikeForCounts q.begun p.begun) round
      → AllByRecursion (λ (q : Picture). shared_kind (parts_of q) ≡ shared) round → p.kind ≡ kind_by (planned_of done) p.begun shared
      → AllByRecursion (λ (q : Picture). q.kind ≡ p.kind) round
  kinds [] [] shared lasts_ alike same kinds_ told = tt
  kinds [] (q ∷ round) shared lasts_ alike same kinds_ told = absurd lasts_
  kinds (ps ∷ sources) [] shared lasts_ alike same kinds_ told = tt
  kinds (ps ∷ sources) (q ∷ round) shared lasts_ alike same kinds_ told = (
    own_kind ps q lasts_.0 alike.0 same.0 ∙ ap (kind_by (planned_of done) p.begun) kinds_.0 ∙ sym told,
    kinds sources round shared lasts_.1 alike.1 same.1 kinds_.1 told,
  )

  -- so each stream is alike with this round too
  alike_more : (sources : List (List Picture)) (round : List Picture) (new : Picture) → new.kind ≡ p.kind → new.begun ≡ p.begun
      → AllZip IsLast sources round → AllByRecursion (λ ps. AreAlike ps (planned_of done)) (earlier sources)
      → AllByRecursion (λ q. AlikeForCounts q.begun p.begun) round → AllByRecursion (λ (q : Picture). q.kind ≡ p.kind) round
      → AllByRecursion (λ ps. AreAlike ps (new ∷ planned_of done)) sources
  alike_more [] [] new kind begun lasts_ alike same kinds_ = tt
  alike_more [] (q ∷ round) new kind begun lasts_ alike same kinds_ = tt
  alike_more (ps ∷ sources) [] new kind begun lasts_ alike same kinds_ = absurd lasts_
  alike_more (ps ∷ sources) (q ∷ round) new kind begun lasts_ alike same kinds_ = (
    subst (λ xs. AreAlike xs (new ∷ planned_of done)) (sym lasts_.0.is) (kinds_.0 ∙ sym kind, subst (AlikeForCounts q.begun) (sym begun) same.0, alike.0),
    alike_more sources round new kind begun lasts_.1 alike.1 same.1 kinds_.1,
  )

-- ---- the SPS stays in a sequence

-- the SPS of a picture is that of the one before it
same_before : (before : List Picture) (e q : Picture) → IsLast before e → is_changed before q.begun.sps ≡ false → e.begun.sps ≡ q.begun.sps
same_before before e q last_ stays =
    items_are e.begun.sps q.begun.sps (not-false (same_items e.begun.sps q.begun.sps) (subst (λ xs. is_changed xs q.begun.sps ≡ false) last_.is stays))

-- a stream, its last picture, and the one before
stay : (R : Readers) (sources : List (List Picture)) (round before : List Picture) (clvss : Bool) → AllZip (IsSoundLast R) sources round
    → AllZip IsLast (earlier sources) before
    → AllByRecursion (λ (q : Picture). q.kind.clvss ≡ clvss) round → clvss ≡ false → AllByRecursion (λ q. IsSource (parts_of q)) before
    → AllByRecursion (λ q. IsSource (parts_of q)) round
    → AreSame (map parts_of before) (map parts_of round)
stay R [] [] [] clvss lasts_ befores kinds_ none were are = tt
stay R [] [] (e ∷ before) clvss lasts_ befores kinds_ none were are = absurd befores
stay R [] (q ∷ round) before clvss lasts_ befores kinds_ none were are = absurd lasts_
stay R (ps ∷ sources) [] before clvss lasts_ befores kinds_ none were are = absurd lasts_
stay R (ps ∷ sources) (q ∷ round) [] clvss lasts_ befores kinds_ none were are = absurd befores
stay R (ps ∷ sources) (q ∷ round) (e ∷ before) clvss lasts_ befores kinds_ none were are = (
  record {
    same = same_before (drop 1 ps) e q befores.0 (lasts_.0.sound.next.same (kinds_.0 ∙ none));
    size = were.0.sets.size;
    other_size = are.0.sets.size;
  },
  stay R sources round before clvss lasts_.1 befores.1 kinds_.1 none were.1 are.1,
)

clvss_of : (k : Kind) (round : List Picture) → AllByRecursion (λ (q : Picture). q.kind ≡ k) round
    → AllByRecursion (λ (q : Picture). q.kind.clvss ≡ k.clvss) round
clvss_of k [] all = tt
clvss_of k (q ∷ round) all = (ap (λ (x : Kind). x.clvss) all.0, clvss_of k round all.1)

keeps : (R : Readers) (corners : List Corner) (level : Option ℕ) (sources : List (List Picture)) (round : List Picture) (done : List Plan)
    (p : Plan) → AllZip (IsSoundLast R) sources round → AllByRecursion (CanBeMerged R) sources
    → AreMerged corners level (earlier sources) done → AllByRecursion (λ (q : Picture). q.kind ≡ p.kind) round
    → AllByRecursion (λ q. IsSource (parts_of q)) round → Passes corners level (map parts_of round) done p
    → p.kind.clvss ≡ false → is_changed (planned_of done) p.begun.sps ≡ false
keeps R corners level sources round [] p lasts_ can merged kinds_ are passes stays = refl
keeps R corners level sources round (d ∷ done) p lasts_ can ((before, same, were), merged) kinds_ are passes stays =
    let befores = all_last (earlier sources) before same in
    let sources_before : AllByRecursion (λ q. IsSource (parts_of q)) before =
    sources_are R (earlier sources) before (sound_lasts R (earlier sources) before befores (earlier_can R sources can)) in
    let alike = stay R sources round before p.kind.clvss lasts_ befores (clvss_of p.kind round kinds_) stays sources_before are in
    let one : d.begun.sps ≡ p.begun.sps = one_sps corners level (map parts_of before) (map parts_of round) d.begun.sps p.begun.sps alike were.is.sps passes.is.sps in
    ap not (subst (λ xs. same_items d.begun.sps xs ≡ true) one (same_itself d.begun.sps))

-- ---- all rounds

first_kind : (shared : ℕ × (ℕ × Bool)) (round : List Picture)
    → ((k : ℕ) → k < length (map parts_of round) → shared_kind (picture_at (map parts_of round) k) ≡ shared)
    → AllByRecursion (λ (q : Picture). shared_kind (parts_of q) ≡ shared) round
first_kind shared round each = of_parts (λ q. shared_kind q ≡ shared) round (all_at (λ q. shared_kind q ≡ shared) (map parts_of round) each)

no_pictures : (sources : List (List Picture)) → AllByRecursion (λ (ps : List Picture). ps ≡ []) sources
    → AllByRecursion (λ ps. AreAlike ps []) sources
no_pictures [] none = tt
no_pictures (ps ∷ sources) none = (subst (λ xs. AreAlike xs []) (sym none.0) tt, no_pictures sources none.1)

module _ (R : Readers) (of : AreOfH266 R) (units_read : MergedUnitsAreRead) (wholes : MergedIsWhole) (sends : MergedSendsItsSets)
    (bodies : MergedHasItsBodies) (alikes : MergedIsAlike) (sets_read : SetUnitsAreRead) (sei_reads : SeiUnitsAreRead)
    (corners : List Corner) (level : Option ℕ) (are : AreCorners corners) where
  -- a round behind planned ones
  module _ (sources : List (List Picture)) (round : List Picture) (done : List Plan) (p : Plan) (lasts_ : AllZip IsLast sources round)
      (sounds : AllZip (IsSoundLast R) sources round)
      (ready : IsReadyRound corners (map parts_of round)) (passes : Passes corners level (map parts_of round) done p)
      (alike : AllByRecursion (λ ps. AreAlike ps (planned_of done)) (earlier sources)) where
    alike_here : AllByRecursion (λ q. AlikeForCounts q.begun p.begun) round
    alike_here = alikes corners level round done p ready passes.verdict passes.is

    abbrev shared : ℕ × (ℕ × Bool)
    shared = shared_kind (picture_at (map parts_of round) 0)

    all_shared : AllByRecursion (λ (q : Picture). shared_kind (parts_of q) ≡ shared) round
    all_shared = first_kind shared round (λ k short. kind_alike corners (map parts_of round) ready.same passes.verdict k short)

    -- the first stream's next picture
    first_of : (sources : List (List Picture)) (round : List Picture) → 0 < length round → AllZip (IsSoundLast R) sources round
        → AllByRecursion (λ ps. AreAlike ps (planned_of done)) (earlier sources)
        → AllByRecursion (λ q. AlikeForCounts q.begun p.begun) round
        → (picture_at (map parts_of round) 0).kind ≡ kind_by (planned_of done) p.begun (shared_kind (picture_at (map parts_of round) 0))
    first_of [] [] some last_ alike same = absurd (omega (arith, some))
    first_of [] (q ∷ round) some last_ alike same = absurd last_
    first_of (ps ∷ sources) [] some last_ alike same = absurd (omega (arith, some))
    first_of (ps ∷ sources) (q ∷ round) some last_ alike same = own_kind R done p ps q last_.0 alike.0 same.0

    some_round : 0 < length round
    some_round = let some = ready.are.some in let same = ready.same in let count = length-map round parts_of in omega (arith, some, same, count)

    kind_is : p.kind ≡ kind_by (planned_of done) p.begun shared
    kind_is = passes.is.kind ∙ first_of sources round some_round sounds alike alike_here

    pub all_kinds : AllByRecursion (λ (q : Picture). q.kind ≡ p.kind) round
    all_kinds = kinds R done p sources round shared sounds alike alike_here all_shared kind_is

    next_of : (sources : List (List Picture)) (round : List Picture) → 0 < length round → AllZip (IsSoundLast R) sources round
        → AllByRecursion (λ ps. AreAlike ps (planned_of done)) (earlier sources)
        → AllByRecursion (λ q. AlikeForCounts q.begun p.begun) round
        → AllByRecursion (λ (q : Picture). q.kind ≡ p.kind) round
        → (p.kind.clvss ≡ false → is_changed (planned_of done) p.begun.sps ≡ false) → IsNext (planned_of done) p.begun p.kind
    next_of [] [] some last_ alike same kinds_ stays = absurd (omega (arith, some))
    next_of [] (q ∷ round) some last_ alike same kinds_ stays = absurd last_
    next_of (ps ∷ sources) [] some last_ alike same kinds_ stays = absurd (omega (arith, some))
    next_of (ps ∷ sources) (q ∷ round) some last_ alike same kinds_ stays =
        subst (λ k. IsNext (planned_of done) p.begun k) kinds_.0
        (alike_is_next (drop 1 ps) (planned_of done) q.begun p.begun q.kind alike.0 same.0 (λ none. stays (ap (λ (k : Kind). k.clvss) (sym kinds_.0) ∙ none)) last_.0.sound.next)

  pub all_planned : (sources : List (List Picture)) (done : List Plan) → length corners ≡ length sources
      → AllByRecursion (CanBeMerged R) sources → AreMerged corners level sources done
      → AreAllPlanned R done × AllByRecursion (λ ps. AreAlike ps (planned_of done)) sources
  all_planned sources [] same can merged = (tt, no_pictures sources merged)
  all_planned sources (p ∷ done) same can ((round, at, passes), merged) =
      let before = all_planned (earlier sources) done (earlier_long corners sources same) (earlier_can R sources can) merged in
      let lasts_ = all_last sources round at in
      let sounds = sound_lasts R sources round lasts_ can in
      let each : AllByRecursion (λ q. IsSource (parts_of q)) round = sources_are R sources round sounds in
      let ready = ready_round R corners sources round are same sounds in
      let kinds_ = all_kinds sources round done p lasts_ sounds ready passes before.1 in
      let alike_here = alikes corners level round done p ready passes.verdict passes.is in
      let next = next_of sources round done p lasts_ sounds ready passes before.1 sources round (some_round sources round done p lasts_ sounds ready passes before.1) sounds before.1 alike_here kinds_
      (keeps R corners level sources round done p sounds can merged kinds_ each passes) in (
        (planned_if R of units_read wholes sends bodies sets_read sei_reads corners level (map parts_of round) done p ready passes next, before.0),
        alike_more R done p sources round (planned (readings_of_plans done) p) refl refl lasts_ before.1 alike_here kinds_,
      )

pub are_planned : MergedUnitsAreRead → MergedIsWhole → MergedSendsItsSets → MergedHasItsBodies → MergedIsAlike → SetUnitsAreRead
    → SeiUnitsAreRead → MergedArePlanned
are_planned units_read wholes sends bodies alikes sets_read sei_reads R corners level sources done of so =
    all_planned R of units_read wholes sends bodies alikes sets_read sei_reads corners level so.are sources done so.same so.can so.merged
