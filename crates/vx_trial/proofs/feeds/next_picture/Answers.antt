-- There is one more picture.
use Rattle.std.proofs.Common.{None}
use Rattle.std.proofs.lemmas.Result.{on_ok_weaker}
use Rattle.vx_pic.proofs.Existing.{there_are_readers}
use Rattle.vx_trial.proofs.Fed.{comes_to, is_to_picture}
use Rattle.vx_trial.proofs.feeds.next_picture.Goals as goal

pub to_picture-requires : goal.to_picture-requires
to_picture-requires c =
    let R = there_are_readers.0 in
    let of = there_are_readers.1 in
    let next = c.requires R of in
    let w = next.2 in
    is_to_picture R next.0 next.1 c.args.feed.now c.advance.new.self w c.advance.result
    (c.advance.ensures.answer R of w.bytes _ next.1 None w.seen w.read)

pub returns : goal.returns
returns c R of m ps w =
    let went = c.advance.ensures.answer R of w.bytes _ ps None w.seen w.read in
    on_ok_weaker c.to_picture.result (λ is. comes_to R m ps c.args.feed.now c.advance.new.self w (c.advance.ensures.picture is) (rw is at went)) c.to_picture.ensures
