-- What was counted.
use Rattle.std.proofs.Common.{ℕ, List, length, ap, refl}
use Rattle.vx_trial.proofs.Counted.{is_tally, regions_here}
use Rattle.vx_trial.proofs.tally.trial.Goals as goal

pub weigh-requires : goal.weigh-requires
weigh-requires c R of =
    let n = c.args.sources in
    let m = c.args.pictures in
    let some = c.requires.sources in
    let few = c.requires.pictures in
    let can = c.generated_can_be_tried.ensures R c.args.seed n m of some.0 some.1 few.0 few.1 in
    let made = c.in_ok-merged.ensures R of in
    let again = c.tried_are_read_again.ensures R c.args.seed n m c.in_ok-merged.merged.taken of some.0 some.1 few.0 few.1 made in
    (again.merged, regions_here R c.args.seed n m can c.in_ok-merged.merged.taken c.bytes.result.now made again c.bytes.ensures)

pub returns : goal.returns
returns c R of =
    let n = c.args.sources in
    let m = c.args.pictures in
    let some = c.requires.sources in
    let few = c.requires.pictures in
    let can = c.generated_can_be_tried.ensures R c.args.seed n m of some.0 some.1 few.0 few.1 in
    let made = c.in_ok-merged.ensures R of in
    let again = c.tried_are_read_again.ensures R c.args.seed n m c.in_ok-merged.merged.taken of some.0 some.1 few.0 few.1 made in
    let regions = regions_here R c.args.seed n m can c.in_ok-merged.merged.taken c.bytes.result.now made again c.bytes.ensures in
    let weighed = c.in_ok-weight.ensures R of again.merged regions in
    let size = ap (λ (b : List ℕ). length b) c.bytes-2.ensures in
    is_tally R c.args.seed n m can c.in_ok-merged.merged.taken c.bytes.result.now made again c.bytes.ensures weighed.0 weighed.1 _ refl refl size weighed.2
