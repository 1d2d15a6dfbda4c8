-- One more round.
use Rattle.std.proofs.Common.{◌≡◌, List, All, length, map, ap, subst, sym, arith}
use Rattle.std.proofs.lemmas.Result.{on_ok_weaker}
use Rattle.vx_bits.specs.declared.refusal.Refusal.{Refusal}
use Rattle.vx_pic.proofs.Existing.{there_are_readers}
use Rattle.vx_assemble.specs.Feed.{Feeding}
use Rattle.vx_assemble.specs.Held.{HasPicture, lent_by}
use Rattle.vx_merge.specs.Merging.{IsBarred}
use Rattle.vx_trial.specs.inner.Feeds.{Lends}
use Rattle.vx_trial.specs.inner.Merges.{IsWrittenOn}
use Rattle.vx_trial.proofs.Pairs.{as_many}
use Rattle.vx_trial.proofs.Rounds.{all_hold, goes, goes_on}
use Rattle.vx_trial.proofs.merge.write_next.Goals as goal

pub next_pictures-requires : goal.next_pictures-requires
next_pictures-requires c R of = let may = c.requires R of in record { left = may.left; sources = may.sources; each = may.merged.waits }

pub write_round-requires-clause-count : goal.write_round-requires-clause-count
write_round-requires-clause-count c =
    let R = there_are_readers.0 in
    let may = c.requires R there_are_readers.1 in
    let lends = c.in_ok-next_pictures.ensures R there_are_readers.1 may.left may.sources may.merged.waits in
    let many : length c.next_pictures.new.feeds.items ≡ length may.sources = as_many (Lends R may.left) c.next_pictures.new.feeds.items may.sources lends in
    let same : length c.deref.result.now ≡ length c.next_pictures.new.feeds.items = ap (λ (l : List Feeding). length l) c.deref.ensures.value in
    omega (arith, same, many, may.merged.same)

pub write_round-requires-clause-holds : goal.write_round-requires-clause-holds
write_round-requires-clause-holds c =
    let R = there_are_readers.0 in
    let may = c.requires R there_are_readers.1 in
    let lends = c.in_ok-next_pictures.ensures R there_are_readers.1 may.left may.sources may.merged.waits in
    subst (λ (l : List Feeding). All (λ f. HasPicture f.assembler) l) (sym c.deref.ensures.value) (all_hold R may.left c.next_pictures.new.feeds.items may.sources lends)

pub write_round-requires-clause-goes : goal.write_round-requires-clause-goes
write_round-requires-clause-goes c =
    let R = there_are_readers.0 in
    let may = c.requires R there_are_readers.1 in
    let m = may.merged in
    let lends = c.in_ok-next_pictures.ensures R there_are_readers.1 may.left may.sources m.waits in
    let x = c.args.merger.now in (
      m.done,
      m.stands,
      subst (λ (l : List Feeding). (r : Refusal) → ¬ IsBarred x.corners x.level (map (λ f. lent_by f.assembler) l) m.done r) (sym c.deref.ensures.value)
          (goes R may.left may.sources c.args.feeds.now.items c.next_pictures.new.feeds.items x c.args.merged.now.taken m lends),
    )

pub returns-clause-merged : goal.returns-clause-merged
returns-clause-merged c R of m sources merged =
    let lends = c.in_ok-next_pictures.ensures R of m sources merged.waits in
    let x = c.args.merger.now in
    let x' = c.write_round.new.merger in
    let bytes = c.args.merged.now.taken in
    let bytes' = c.write_round.new.merged.taken in
    on_ok_weaker c.write_round.result
    (λ wrote. goes_on R m sources c.args.feeds.now.items c.next_pictures.new.feeds.items x bytes merged lends x' bytes' c.write_round.ensures.task
    (subst (λ (l : List Feeding). IsWrittenOn (map (λ f. lent_by f.assembler) l) merged.done x x' bytes bytes') c.deref.ensures.value wrote))
    (c.write_round.ensures.written merged.done merged.stands)
