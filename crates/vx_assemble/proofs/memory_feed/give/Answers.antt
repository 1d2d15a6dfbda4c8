use Rattle.std.proofs.Common.{ℕ, List, [], subst}
use Rattle.vx_annexb.specs.Held.{Stands as Splits}
use Rattle.vx_assemble.proofs.InMemory.{given_all, given_long}
use Rattle.vx_assemble.proofs.memory_feed.give.Goals as goal

pub returns-then-bytes-gt-SOURCE_LIMIT-clause-given : goal.returns-then-bytes-gt-SOURCE_LIMIT-clause-given
returns-then-bytes-gt-SOURCE_LIMIT-clause-given c =
    let fed = c.in_ok-feed.ensures.stands [] [] c.requires.stands in
    given_long c.args.bytes.now c.feed.new.self c.if-bytes-gt-SOURCE_LIMIT.true (subst (λ (l : List ℕ). Splits c.feed.new.self l []) c.seen.ensures.seen fed) c.feed.ensures.all

pub returns-clause-given : goal.returns-clause-given
returns-clause-given c =
    let fed = c.in_ok-feed.ensures.stands [] [] c.requires.stands in
    let stands = c.finish.ensures.stands _ _ (subst (λ (l : List ℕ). Splits c.feed.new.self l []) c.seen.ensures.seen fed) in
    given_all c.args.bytes.now c.finish.new.self c.if-bytes-gt-SOURCE_LIMIT.false stands c.finish.ensures.all
