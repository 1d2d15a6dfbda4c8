-- A merge of all rounds.
use Rattle.std.proofs.Common.{◌≡◌, ◌∙◌, List, [], ap, subst}
use Rattle.vx_io.specs.Memory.{Growth}
use Rattle.vx_frame.specs.declared.corner.Corner.{Corner}
use Rattle.vx_trial.specs.inner.Merges.{IsMergeOf}
use Rattle.vx_trial.proofs.Fed.{all_wait}
use Rattle.vx_trial.proofs.Rounds.{begins, ends}
use Rattle.vx_trial.proofs.merge.merge.Goals as goal

pub write_rounds-requires : goal.write_rounds-requires
write_rounds-requires c R of =
    let can = c.requires.can R of in
    let task = c.in_ok-merger.ensures.task in
    let none : c.new-merged.result.taken ≡ [] = ap (λ (g : Growth). g.taken) c.new-merged.ensures in
    let waits = all_wait R c.args.pictures c.in_ok-feeds.feeds.items c.args.streams.now can.0 c.in_ok-feeds.ensures can.1.read can.1.many in (
      can.0,
      begins R c.args.corners.now c.args.pictures c.args.streams.now can.0 c.in_ok-feeds.feeds.items c.in_ok-merger.merger c.new-merged.result.taken
          can.1 task.0 task.1 c.in_ok-merger.ensures.stands none waits,
    )

pub returns : goal.returns
returns c R of sources can =
    let task = c.in_ok-merger.ensures.task in
    let none : c.new-merged.result.taken ≡ [] = ap (λ (g : Growth). g.taken) c.new-merged.ensures in
    let waits = all_wait R c.args.pictures c.in_ok-feeds.feeds.items c.args.streams.now sources c.in_ok-feeds.ensures can.read can.many in
    let first = begins R c.args.corners.now c.args.pictures c.args.streams.now sources c.in_ok-feeds.feeds.items c.in_ok-merger.merger c.new-merged.result.taken
    can task.0 task.1 c.in_ok-merger.ensures.stands none waits in
    let last = c.in_ok-write_rounds.ensures.merged R of sources first in
    let bytes = c.write_rounds.new.merged.taken in
    subst (λ (l : List Corner). IsMergeOf l sources bytes) (c.write_rounds.ensures.task.corners ∙ task.0)
    (ends R sources c.write_rounds.new.feeds.items c.write_rounds.new.merger bytes last)
