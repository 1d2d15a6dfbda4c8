use Rattle.std.proofs.Common.{◌≡◌, vec_len, arith}
use Rattle.vx_app.proofs.files.run_on_files.Goals as goal

pub run_whole-status-requires : goal.run_whole-status-requires
run_whole-status-requires g c =
    let many : vec_len c.loop-file.sources ≡ vec_len c.in_ok-files.files = omega (arith, c.loop-file.invariant, c.in-None.ensures.steps.0, c.into_iter-file-iterator.ensures.into_iter_gives.1) in
    rw many c.in_ok-files.ensures.count
