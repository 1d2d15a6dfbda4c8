-- The units that are written for a whole stream are read again.
use Rattle.std.proofs.Common.{◌≡◌, ℕ, cond, List, [], ◌∷◌, map, Option, Some, None, refl, ap, sym, subst, ◌∙◌}
use Rattle.std.specs.List.{AllByRecursion}
use Rattle.vx_bits.specs.declared.rules.TheConstants.{SLICE_MISSING}
use Rattle.vx_sps.specs.Subpictures.{subpics_of}
use Rattle.vx_pic.specs.declared.kind.Kind.{Kind}
use Rattle.vx_pic.specs.Readings.{Picture, pictures}
use Rattle.vx_pic.specs.Parts.{parts_of}
use Rattle.vx_pic.specs.Written.{Plan}
use Rattle.vx_pic.specs.Resident.{AllReadAgain, planned_of, units_written}
use Rattle.vx_pic.specs.Rules.{structure}
use Rattle.vx_pic.specs.Streams.{ending_of, pictures_of}
use Rattle.vx_pic.specs.Finished.{AreFinished, PicturesAreFinished}
use Rattle.vx_pic.specs.Sublayers.{KeptAreFinished, at_most}
use Rattle.vx_extract.specs.Written.{AreExtracted}
use Rattle.vx_extract.specs.Again.{AreRewritten, ExtractedReadsAgain, IsReady, RewrittenMakeRegion}
use Rattle.vx_extract.specs.Kept.{AllKeepInputs, AllKeepMessages}
use Rattle.vx_extract.specs.Ready.{PicturesAreReady}
use Rattle.vx_extract.specs.Whole.{AreOfSubpicture, ExtractedUnitsReadAgain}

kinds_kept : (target : ℕ) (level : Option ℕ) (pics : List Picture) (done : List Plan) → AreExtracted target level (map parts_of pics) done
    → map (λ (q : Picture). q.kind) (planned_of done) ≡ map (λ (p : Picture). p.kind) pics
kinds_kept target level [] [] were = refl
kinds_kept target level [] (p ∷ done) were = absurd were
kinds_kept target level (pic ∷ pics) [] were = absurd were
kinds_kept target level (pic ∷ pics) (p ∷ done) (ex, were) =
    ap (λ (k : Kind). k ∷ map (λ (q : Picture). q.kind) (planned_of done)) ex.kind ∙ ap (λ ks. pic.kind ∷ ks) (kinds_kept target level pics done were)

each_alone : RewrittenMakeRegion → (target : ℕ) (level : Option ℕ) (pics : List Picture) (done : List Plan) → AllByRecursion (IsReady target) pics
    → AreExtracted target level (map parts_of pics) done → AllByRecursion (λ (q : Picture). subpics_of q.begun.sps ≡ 1) (planned_of done)
each_alone regions target level [] [] all were = tt
each_alone regions target level [] (p ∷ done) all were = absurd were
each_alone regions target level (pic ∷ pics) [] all were = absurd were
each_alone regions target level (pic ∷ pics) (p ∷ done) (ready, all) (ex, were) =
    let re : AreRewritten target level (parts_of pic) p.begun.sps p.begun.pps = record { of_sps = ex.sps; of_pps = ex.pps } in
    let made = regions target level (parts_of pic) p.begun.sps p.begun.pps ready.in_force ready.has re in
    (made.alone, each_alone regions target level pics done all were)

pub units_read_again : RewrittenMakeRegion → PicturesAreFinished → KeptAreFinished → PicturesAreReady → ExtractedReadsAgain → AllKeepInputs → AllKeepMessages → ExtractedUnitsReadAgain
units_read_again regions finished kept readies reads inputs messages R units target tid level done of fit were =
    let pics : List Picture = at_most tid (pictures_of R units) in
    let ready = readies R target tid units of fit.has in
    let ends : AreFinished R pics = kept R tid (pictures_of R units) (finished R units) fit.starts in
    let again : AllReadAgain R done = reads R target level pics done of ends ready were in
    let same : planned_of done ≡ pictures_of R (units_written done) = sym (ap (λ o. pictures o.before) again.read ∙ again.planned) in
    let are : AreOfSubpicture target pics (planned_of done) = record {
      kinds = kinds_kept target level pics done were;
      messages = messages R target level pics done of ends ready were;
      alone = each_alone regions target level pics done ready were;
      inputs = inputs target level pics done ready were;
    } in
    record {
      pictures = subst (AreOfSubpicture target pics) same are;
      ends = ap ending_of again.read ∙ ap (λ b. cond b (Some (structure SLICE_MISSING)) None) again.rests.closed;
    }
