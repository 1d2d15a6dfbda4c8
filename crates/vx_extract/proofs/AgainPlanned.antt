-- What is written for the pictures of a stream is as plans have to be, so that it is read again.
use Rattle.std.proofs.Common.{◌≡◌, ℕ, ◌<◌, true, false, not, List, [], ◌∷◌, map, Option, refl, ap, sym, subst, arith}
use Rattle.std.specs.List.{AllByRecursion}
use Rattle.std.proofs.lemmas.Bool.{not-false}
use Rattle.vx_pps.specs.laws.Sets.{SetsTellPartitions}
use Rattle.vx_pic.specs.Sets.{names_of, same_items}
use Rattle.vx_pic.specs.Readings.{Picture, Slice, is_whole, messages_of}
use Rattle.vx_pic.specs.Alike.{AreAlike, IsNext}
use Rattle.vx_pic.specs.Counts.{is_changed}
use Rattle.vx_pic.specs.Parts.{parts_of}
use Rattle.vx_pic.specs.Rules.{Readers}
use Rattle.vx_pic.specs.H266.{AreOfH266}
use Rattle.vx_pic.specs.Finished.{AreFinished, IsSoundPicture}
use Rattle.vx_pic.specs.laws.Edited.{AreEdits, EditsArePlanned}
use Rattle.vx_pic.specs.Written.{Plan, Says, SetUnit, planned_slices}
use Rattle.vx_pic.specs.Resident.{AreAllPlanned, HaveNamed, IsPlanned, is_resident, planned_of, sent_before}
use Rattle.vx_pic.proofs.SameItems.{same_itself}
use Rattle.vx_pic.proofs.Sent.{items_are}
use Rattle.vx_pic.proofs.Sublayers.{low_tid}
use Rattle.vx_write.specs.Again.{IsReadable, SeiUnitsAreRead, SetUnitsAreRead}
use Rattle.vx_write.specs.Units.{IsSetUnit}
use Rattle.vx_write.proofs.OwnSets.{each_passing}
use Rattle.vx_extract.specs.Written.{AreExtracted, IsExtracted}
use Rattle.vx_extract.specs.Again.{ExtractedHasItsBodies, ExtractedIsAlike, ExtractedIsWhole, ExtractedSendsItsSets, ExtractedUnitsAreRead, IsReady}
use Rattle.vx_extract.proofs.AgainSame.{same_again}
use Rattle.vx_write.proofs.Sizes.{subpics_count}

module _ (R : Readers) (of : AreOfH266 R) (target : ℕ) (tells : SetsTellPartitions) (units_read : ExtractedUnitsAreRead) (wholes : ExtractedIsWhole) (sends : ExtractedSendsItsSets) (alikes : ExtractedIsAlike) (bodies : ExtractedHasItsBodies)
    (sets_read : SetUnitsAreRead) (sei_reads : SeiUnitsAreRead) (level : Option ℕ) where
  all_say : (tid : ℕ) (units : List SetUnit) → tid < 7 → AllByRecursion (λ (u : SetUnit). IsReadable u.set) units → AllByRecursion (λ (u : SetUnit). IsSetUnit tid u.set u.unit) units → AllByRecursion (λ (u : SetUnit). Says R u.unit u.set) units
  all_say tid [] low can are = tt
  all_say tid (u ∷ units) low can are = (sets_read R tid u.set u.unit of low can.0 are.0, all_say tid units low can.1 are.1)

  module _ (earlier : List Picture) (pic : Picture) (done : List Plan) (p : Plan) (sound : IsSoundPicture R earlier pic) (whole : is_whole pic ≡ true) (ready : IsReady target pic) (ex : IsExtracted target level (parts_of pic) done p) where
    planned_if : IsNext (planned_of done) p.begun p.kind → IsPlanned R done p
    planned_if next =
        let read = units_read R target level earlier pic done p of sound whole ready.in_force ready.has ex in
        let count = subpics_count (parts_of pic) ready.in_force in
        let has = ready.has in
        let full = wholes target level pic done p ready.each sound.size (omega (arith, count, has)) ex in
        let sent = sends target level (parts_of pic) done p ex in
        let own = bodies target level (parts_of pic) done p ready.in_force ready.readable ready.there ex in
        let low = low_tid R earlier pic sound in
        let can : AllByRecursion (λ (u : SetUnit). IsReadable u.set) p.sent =
        subst (λ xs. AllByRecursion (λ (u : SetUnit). IsReadable u.set) xs) (sym ex.sent) (each_passing (λ (u : SetUnit). IsReadable u.set) (λ x. not (is_resident pic.kind.temporal_id (sent_before done p) x)) ex.needed own.readable) in
        let written : AllByRecursion (λ (u : SetUnit). IsSetUnit pic.kind.temporal_id u.set u.unit) p.sent =
        subst (λ xs. AllByRecursion (λ (u : SetUnit). IsSetUnit pic.kind.temporal_id u.set u.unit) xs) (sym ex.sent) (each_passing (λ (u : SetUnit). IsSetUnit pic.kind.temporal_id u.set u.unit) (λ x. not (is_resident pic.kind.temporal_id (sent_before done p) x)) ex.needed ex.units) in
        record {
          sets = all_say pic.kind.temporal_id p.sent low can written;
          sends = sent.sends;
          pps = sent.pps;
          sps = sent.sps;
          refers = read.refers;
          bodies = subst (λ needed. AllByRecursion (λ (s : Slice). HaveNamed needed (names_of p.begun.pps p.begun.header s.header)) (planned_slices p)) (sym sent.same) own.bodies;
          sei = sei_reads R pic.kind.temporal_id (messages_of pic) p.sei of low ready.carried sound.messages ex.sei;
          head = read.head;
          slices = read.slices;
          outside = read.outside;
          order = full.order;
          all = full.all;
          size = full.size;
          tid = read.tid;
          next = next;
        }

  -- the SPS stays where the picture's does
  keeps : (earlier : List Picture) (done : List Plan) (pic : Picture) (p : Plan) → AllByRecursion (IsReady target) earlier → AreExtracted target level (map parts_of earlier) done → IsReady target pic → IsExtracted target level (parts_of pic) done p
      → is_changed earlier pic.begun.sps ≡ false → is_changed (planned_of done) p.begun.sps ≡ false
  keeps [] [] pic p all were ready ex same = refl
  keeps [] (d ∷ done) pic p all were ready ex same = absurd were
  keeps (e ∷ earlier) [] pic p all were ready ex same = absurd were
  keeps (e ∷ earlier) (d ∷ done) pic p all were ready ex same =
      let one = same_again tells target level (parts_of e) (parts_of pic) d.begun.sps p.begun.sps all.0.in_force ready.in_force all.0.has (items_are e.begun.sps pic.begun.sps (not-false (same_items e.begun.sps pic.begun.sps) same)) were.0.sps ex.sps in
      ap not (subst (λ xs. same_items d.begun.sps xs ≡ true) one (same_itself d.begun.sps))

  edits : (pics : List Picture) (done : List Plan) → AreFinished R pics → AllByRecursion (IsReady target) pics → AreExtracted target level (map parts_of pics) done → AreEdits R pics done
  edits [] [] finished all were = tt
  edits [] (p ∷ done) finished all were = were
  edits (pic ∷ earlier) [] finished all were = were
  edits (pic ∷ earlier) (p ∷ done) (sound, whole, finished) (ready, all) (ex, were) = (
    record {
      kind = sym ex.kind;
      alike = alikes target level pic done p ex;
      keeps = λ stays. keeps earlier done pic p all were ready ex (sound.next.same stays);
      others = planned_if earlier pic done p sound whole ready ex;
    },
    edits earlier done finished all were,
  )

  pub planned_again : EditsArePlanned → (pics : List Picture) (done : List Plan) → AreFinished R pics → AllByRecursion (IsReady target) pics → AreExtracted target level (map parts_of pics) done
      → AreAllPlanned R done × AreAlike pics (planned_of done)
  planned_again planned pics done finished all were = planned R pics done finished (edits pics done finished all were)
