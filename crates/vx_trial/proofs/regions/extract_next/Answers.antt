-- One more picture.
use Rattle.std.proofs.Common.{◌∙◌, subst, sym}
use Rattle.std.proofs.lemmas.Result.{on_ok_weaker}
use Rattle.vx_pic.specs.Parts.{Parts}
use Rattle.vx_pic.proofs.Existing.{there_are_readers}
use Rattle.vx_trial.specs.inner.Regions.{HasRegion, IsExtractedOn}
use Rattle.vx_trial.proofs.Extracting.{goes_on, has}
use Rattle.vx_trial.proofs.regions.extract_next.Goals as goal

pub picture-requires : goal.picture-requires
picture-requires c =
    let may = c.requires there_are_readers.0 there_are_readers.1 in
    (c.in_ok-next_picture.ensures there_are_readers.0 there_are_readers.1 may.left may.pictures may.extracted.waits).holds

pub next_picture-requires : goal.next_picture-requires
next_picture-requires c R of = let may = c.requires R of in (may.left, may.pictures, may.extracted.waits)

pub write_region-requires-clause-tid : goal.write_region-requires-clause-tid
write_region-requires-clause-tid c = (c.requires there_are_readers.0 there_are_readers.1).extracted.tid

pub write_region-requires-clause-has : goal.write_region-requires-clause-has
write_region-requires-clause-has c =
    let R = there_are_readers.0 in
    let may = c.requires R there_are_readers.1 in
    let lends = c.in_ok-next_picture.ensures R there_are_readers.1 may.left may.pictures may.extracted.waits in
    subst (HasRegion c.args.extractor.now.target) (sym (c.picture.ensures ∙ lends.lent))
    (has R may.left may.pictures c.args.feed.now c.next_picture.new.feed c.args.extractor.now c.args.region.now.taken may.extracted lends)

pub write_region-requires-clause-stands : goal.write_region-requires-clause-stands
write_region-requires-clause-stands c =
    let may = c.requires there_are_readers.0 there_are_readers.1 in
    (may.extracted.done, may.extracted.stands)

pub returns-clause-extracted : goal.returns-clause-extracted
returns-clause-extracted c R of m ps extracted =
    let lends = c.in_ok-next_picture.ensures R of m ps extracted.waits in
    on_ok_weaker c.write_region.result
    (λ wrote. goes_on R m ps c.args.feed.now c.next_picture.new.feed c.args.extractor.now c.args.region.now.taken extracted lends c.write_region.new.extractor c.write_region.new.region.taken c.write_region.ensures.task
    (subst (λ (q : Parts). IsExtractedOn q extracted.done c.args.extractor.now c.write_region.new.extractor c.args.region.now.taken c.write_region.new.region.taken) (c.picture.ensures ∙ lends.lent) wrote))
    (c.write_region.ensures.written extracted.done extracted.stands)
