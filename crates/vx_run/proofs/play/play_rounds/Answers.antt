use Rattle.std.proofs.Common.{◌≡◌, ◌∙◌, ℕ, List, Option, None, length, sym, ap, subst, arith, refl}
use Rattle.std.specs.Prelude.{replicate}
use Rattle.std.proofs.lemmas.Result.{err_from_is_err_and}
use Rattle.vx_frame.specs.declared.corner.Corner.{Corner}
use Rattle.vx_frame.specs.Corners.{AreCorners}
use Rattle.vx_play.specs.Scheduled.{Scheduled, regions_counted}
use Rattle.vx_run.specs.Change.{change, sources_change}
use Rattle.vx_run.specs.inner.Playing.{PlaysRounds}
use Rattle.vx_run.proofs.Playing.{play_unmade}
use Rattle.vx_run.proofs.PlayRounds.{plays_of}
use Rattle.vx_run.proofs.play.play_rounds.Goals as goal

-- there was no memory to begin
pub returns-in_err-schedule-clause-plays : goal.returns-in_err-schedule-clause-plays
returns-in_err-schedule-clause-plays g c R of =
    let p = err_from_is_err_and c.from_residual.result c.from_residual.ensures.1 in
    rw (p.1, p.2) (play_unmade _ _ g.K.Sink.bytes_taken g.K.Sink.write_faults R c.args.sources.now.items c.args.out.now c.args.corners.now c.args.level c.args.files.now)

pub returns-in_err-merger-clause-plays : goal.returns-in_err-merger-clause-plays
returns-in_err-merger-clause-plays g c R of =
    let p = err_from_is_err_and c.from_residual-in_err-merger.result c.from_residual-in_err-merger.ensures.1 in
    rw (p.1, p.2) (play_unmade _ _ g.K.Sink.bytes_taken g.K.Sink.write_faults R c.args.sources.now.items c.args.out.now c.args.corners.now c.args.level c.args.files.now)

pub play_by-requires : goal.play_by-requires
play_by-requires g c =
    let is = c.in_ok-schedule.ensures in
    let own : length c.in_ok-schedule.schedule.regions ≡ length c.args.files.now = ap (λ (x : Scheduled). length x.regions) is in
    let same = sym c.in_ok-merger.ensures.task.0 in
    let many : length c.args.corners.now ≡ length c.in_ok-merger.merger.corners = ap (λ (l : List Corner). length l) same in
    record {
      corners = subst AreCorners same c.requires.corners;
      stands = c.in_ok-merger.ensures.stands;
      begins = subst (λ (x : Scheduled). x ≡ record { regions = x.regions; gone = replicate (regions_counted x.regions) 0; last = None }) (sym is) refl;
      few = omega (arith, own, c.requires.few);
      regions = ap (λ (x : Scheduled). regions_counted x.regions) is ∙ c.requires.regions ∙ many;
      count = many;
      sources = omega (arith, c.requires.count, own);
    }

-- they are written
pub returns-clause-plays : goal.returns-clause-plays
returns-clause-plays g c R of =
    let sources = sources_change (λ s. (goal.Source-dyn g (s.vtable, s.value)).bytes_left s.value) (λ s. (goal.Source-dyn g (s.vtable, s.value)).read_faults s.value) c.args.sources.now.items c.play_by.new.sources.items in
    let out = change g.K.Sink.bytes_taken g.K.Sink.write_faults c.args.out.now c.play_by.new.out in
    let same = c.in_ok-merger.ensures.task in
    subst (λ (n : Option ℕ). PlaysRounds R c.args.corners.now n c.args.files.now sources out c.play_by.result) same.1
    (plays_of R sources out c.in_ok-merger.merger.corners c.args.corners.now c.in_ok-merger.merger.level c.in_ok-schedule.schedule.regions c.args.files.now c.play_by.result same.0 (ap (λ (x : Scheduled). x.regions) c.in_ok-schedule.ensures) (c.play_by.ensures.plays R of))
