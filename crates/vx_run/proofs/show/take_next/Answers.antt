use Rattle.vx_run.proofs.Fields.{gives_unseen}
use Rattle.vx_run.proofs.show.take_next.Goals as goal

pub returns-then-fields : goal.returns-then-fields
returns-then-fields c = record {
  answer = c.next_with.ensures.answer;
  seen = λ R h g units before fed. rw c.if-fields.true (c.next_with.ensures.seen R h g units before fed);
  «open» = c.next_with.ensures.«open»;
  sought = c.next_with.ensures.sought;
  taken = c.next_with.ensures.taken;
  closed = c.next_with.ensures.closed;
  all = c.next_with.ensures.all;
  lowers = c.next_with.ensures.lowers;
  ended = c.next_with.ensures.ended;
  told = c.next_with.ensures.told;
}

pub returns : goal.returns
returns c = record {
  answer = c.next.ensures.answer;
  seen = λ R h g units before fed.
      rw (c.requires, c.if-fields.false) (gives_unseen R h g units before c.next.new.self c.next.result (c.next.ensures.answer R h g units before fed));
  «open» = c.next.ensures.«open»;
  sought = c.next.ensures.sought;
  taken = c.next.ensures.taken;
  closed = c.next.ensures.closed;
  all = c.next.ensures.all;
  lowers = c.next.ensures.lowers;
  ended = c.next.ensures.ended;
  told = c.next.ensures.told;
}
