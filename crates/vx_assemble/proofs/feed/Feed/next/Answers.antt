use Rattle.vx_assemble.proofs.feed.Feed.next.Goals as goal

pub returns : goal.returns
returns c =
    let e = c.next_with.ensures in
    record { answer = e.answer; going = e.going; first = e.first; again = e.again; «open» = e.«open»; sought = e.sought; within = e.within; taken = e.taken; closed = e.closed; lowers = e.lowers; counts = e.counts; units = e.units; kept = e.kept; grows = e.grows; few = e.few; held = e.held; bytes = e.bytes; bounded = e.bounded; all = e.all; ended = e.ended; told = e.told }
