use Rattle.std.proofs.Common.{Err, subst}
use Rattle.vx_pic.specs.Readings.{pictures}
use Rattle.vx_pic.specs.Parts.{Parts, parts_of}
use Rattle.vx_extract.specs.Extracting.{WritesPicture}
use Rattle.vx_run.proofs.Corners.{comes_of}
use Rattle.vx_run.proofs.Extracting.{shown_is}
use Rattle.vx_run.proofs.extract.extract_picture.Goals as goal

pub returns-in-Ok-clause-answer : goal.returns-in-Ok-clause-answer
returns-in-Ok-clause-answer g c R b units readings p ps done fed are stands =
    let same = shown_is c.picture.result (pictures readings) p ps (c.picture.ensures.shows R b units readings fed) are in
    rw same at c.in-Ok.ensures.answer done stands

pub returns-clause-answer : goal.returns-clause-answer
returns-clause-answer g c R b units readings p ps done fed are stands =
    let same = shown_is c.picture.result (pictures readings) p ps (c.picture.ensures.shows R b units readings fed) are in
    let l = g.K.Sink.bytes_taken c.args.out.now in
    let l' = g.K.Sink.bytes_taken c.picture-2.new.out in
    let k = g.K.Sink.write_faults c.args.out.now in
    let k' = g.K.Sink.write_faults c.picture-2.new.out in
    let wrote = subst (λ (q : Parts). WritesPicture q done c.picture-2.new.self l l' k k' (Err c.in-Err.error)) same (c.in-Err.ensures.answer done stands) in
    rw c.of_write.ensures (comes_of (WritesPicture (parts_of p) done c.picture-2.new.self l l' k k') (λ f by. by) c.args.pictures c.in-Err.error wrote)
