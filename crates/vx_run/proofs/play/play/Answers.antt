use Rattle.std.proofs.Common.{◌<◌, ◌≤◌, ◌∙◌, ℕ, List, Err, length, inl, inr, ap, map, refl, arith}
use Rattle.std.proofs.lemmas.List.{length-map}
use Rattle.std.proofs.lemmas.Result.{err_from_is_err_and}
use Rattle.vx_frame.specs.declared.corner.Corner.{Corner}
use Rattle.vx_run.specs.declared.stop.Stop.TheVariants.{NoMemory}
use Rattle.vx_run.specs.Change.{change, sources_change}
use Rattle.vx_run.specs.Grammar.{texts}
use Rattle.vx_run.specs.Merge.{corners_of}
use Rattle.vx_run.specs.Play.{file_regions, most_files, region_corners, region_at_corner}
use Rattle.vx_run.specs.Rounds.{most_sources}
use Rattle.vx_run.specs.inner.Placings.{placing_in}
use Rattle.vx_run.proofs.Corners.{many_corners, too_many_stop}
use Rattle.vx_run.proofs.PlayAgain.{plays}
use Rattle.vx_run.proofs.Playing.{play_unmade}
use Rattle.vx_run.proofs.PlayRegions.{files_found, found_corners}
use Rattle.vx_run.proofs.PlayRounds.{plays_of, too_many_files_stop}
use Rattle.vx_run.proofs.PlacingWords.{words_of_parts}
use Rattle.vx_run.proofs.play.play.Goals as goal

-- there was no memory for the regions
pub returns-in_err-regions-clause-plays : goal.returns-in_err-regions-clause-plays
returns-in_err-regions-clause-plays g c =
    let p = err_from_is_err_and c.from_residual.result c.from_residual.ensures.1 in
    rw (p.1, p.2) (record {
      stop = tt;
      many = λ many. (inr refl, refl, refl);
      files = λ few many. (inr refl, refl, refl);
      few = λ few fits R of.
          let corners = region_corners (map placing_in (texts c.args.placings.words.now)) in
          let are = found_corners c.args.placings.words.now corners (words_of_parts (texts c.args.placings.words.now) c.args.placings.each) c.args.placings.some refl few in
          plays c.plays_read_again.ensures R of corners are c.args.level (file_regions (map placing_in (texts c.args.placings.words.now))) _ _ (Err NoMemory)
          (play_unmade _ _ g.K.Sink.bytes_taken g.K.Sink.write_faults R c.args.sources.now.items c.args.out.now corners c.args.level (file_regions (map placing_in (texts c.args.placings.words.now))));
    })

-- there are too many regions
pub returns-in_default-clause-plays : goal.returns-in_default-clause-plays
returns-in_default-clause-plays g c =
    let over : most_sources < length (region_corners (map placing_in (texts c.args.placings.words.now))) = rw c.in_default.is at c.in_ok-regions.ensures in
    record {
      stop = too_many_stop c.too_many.result c.too_many.ensures;
      many = λ many. (inl c.too_many.ensures, refl, refl);
      files = λ few. absurd (omega (arith, few, over));
      few = λ few. absurd (omega (arith, few, over));
    }

-- there are too many files
pub returns-then-len-gt-MOST_FILES-clause-plays : goal.returns-then-len-gt-MOST_FILES-clause-plays
returns-then-len-gt-MOST_FILES-clause-plays g c =
    let found = rw c.in-Some.is at c.in_ok-regions.ensures in
    let few : length (region_corners (map placing_in (texts c.args.placings.words.now))) ≤ most_sources = omega (arith, found.1, ap (λ (l : List Corner). length l) found.0.once) in
    let over : most_files < length (file_regions (map placing_in (texts c.args.placings.words.now))) = omega (arith, c.if-len-gt-MOST_FILES.true, c.len.ensures, ap (λ (l : List ℕ). length l) (files_found found.0)) in
    record {
      stop = too_many_files_stop c.too_many_files.result c.too_many_files.ensures;
      many = λ many. absurd (omega (arith, many, few));
      files = λ few_ many. (inl c.too_many_files.ensures, refl, refl);
      few = λ few_ fits. absurd (omega (arith, fits, over));
    }

pub play_rounds-requires : goal.play_rounds-requires
play_rounds-requires g c =
    let found = rw c.in-Some.is at c.in_ok-regions.ensures in
    let files = c.in-Some.regions.files.items in
    let corners = c.in-Some.regions.corners.items in
    let placed = many_corners c.args.placings.words.now in
    let few : length corners ≤ most_sources = omega (arith, found.1) in
    let each = ap (λ (l : List ℕ). length l) found.0.each ∙ length-map (corners_of (map placing_in (texts c.args.placings.words.now))) (region_at_corner corners) in
    record {
      corners = rw c.deref-2.ensures.value (found_corners c.args.placings.words.now corners (words_of_parts (texts c.args.placings.words.now) c.args.placings.each) c.args.placings.some found.0.once few);
      few = rw c.deref.ensures.value (omega (arith, c.if-len-gt-MOST_FILES.false, c.len.ensures));
      regions = rw (c.deref.ensures.value, c.deref-2.ensures.value) found.0.count;
      count = rw c.deref.ensures.value (omega (arith, c.requires.count, each, placed));
    }

-- or there aren't
pub returns-clause-plays : goal.returns-clause-plays
returns-clause-plays g c =
    let found = rw c.in-Some.is at c.in_ok-regions.ensures in
    let placings = map placing_in (texts c.args.placings.words.now) in
    let few : length (region_corners placings) ≤ most_sources = omega (arith, found.1, ap (λ (l : List Corner). length l) found.0.once) in
    let fits : length (file_regions placings) ≤ most_files = omega (arith, c.if-len-gt-MOST_FILES.false, c.len.ensures, ap (λ (l : List ℕ). length l) (files_found found.0)) in
    let sources = sources_change (λ s. (goal.Source-dyn g (s.vtable, s.value)).bytes_left s.value) (λ s. (goal.Source-dyn g (s.vtable, s.value)).read_faults s.value) c.args.sources.now.items c.play_rounds.new.sources.items in
    let out = change g.K.Sink.bytes_taken g.K.Sink.write_faults c.args.out.now c.play_rounds.new.out in
    record {
      stop = c.play_rounds.ensures.stop;
      many = λ many. absurd (omega (arith, many, few));
      files = λ few_ many. absurd (omega (arith, fits, many));
      few = λ few_ fits_ R of.
          let are = found_corners c.args.placings.words.now (region_corners placings) (words_of_parts (texts c.args.placings.words.now) c.args.placings.each) c.args.placings.some refl few_ in
          plays c.plays_read_again.ensures R of (region_corners placings) are c.args.level (file_regions placings) sources out c.play_rounds.result
          (plays_of R sources out c.deref-2.result.now (region_corners placings) c.args.level c.deref.result.now (file_regions placings) c.play_rounds.result (c.deref-2.ensures.value ∙ found.0.once) (c.deref.ensures.value ∙ files_found found.0)
          (c.play_rounds.ensures.plays R of));
    }
