use Rattle.std.proofs.Common.{◌∙◌, refl, length, ap}
use Rattle.vx_annexb.specs.Reading.{Reading, fed_at_once}
use Rattle.vx_assemble.proofs.Within.{reader_within}
use Rattle.vx_assemble.proofs.Feeding.{feeds_more, few_bytes}
use Rattle.vx_assemble.proofs.feed.Feed.feed.Goals as goal

pub returns-in-Ok-clause-fed : goal.returns-in-Ok-clause-fed
returns-in-Ok-clause-fed c R bytes places before fed =
    let open_ = rw (← c.self.view_is) at c.requires.open in
    let was = rw (← c.self.view_is) at fed in
    feeds_more R bytes _ places before _ _ was open_.reader (c.in-Ok.ensures.read bytes places was.read) refl refl open_.going

pub returns-in-Ok-clause-bytes : goal.returns-in-Ok-clause-bytes
returns-in-Ok-clause-bytes c = few_bytes c.feed.new.self c.self.inside.assembler c.feed.ensures.held c.self.invariant.bounded

pub returns-in-Err-clause-bytes : goal.returns-in-Err-clause-bytes
returns-in-Err-clause-bytes c = few_bytes c.feed.new.self c.self.inside.assembler c.feed.ensures.held c.self.invariant.bounded

pub returns-in-Ok-clause-units : goal.returns-in-Ok-clause-units
returns-in-Ok-clause-units c = rw (← c.self.view_is) refl

pub returns-in-Ok-clause-lends : goal.returns-in-Ok-clause-lends
returns-in-Ok-clause-lends c = rw (← c.self.view_is) refl

pub returns-in-Ok-clause-held : goal.returns-in-Ok-clause-held
returns-in-Ok-clause-held c = c.feed.ensures.held

pub returns-in-Ok-clause-bounded : goal.returns-in-Ok-clause-bounded
returns-in-Ok-clause-bounded c = c.self.invariant.bounded

pub returns-in-Err-clause-units : goal.returns-in-Err-clause-units
returns-in-Err-clause-units c = rw (← c.self.view_is) refl

pub returns-in-Err-clause-lends : goal.returns-in-Err-clause-lends
returns-in-Err-clause-lends c = rw (← c.self.view_is) refl

pub returns-in-Err-clause-held : goal.returns-in-Err-clause-held
returns-in-Err-clause-held c = c.feed.ensures.held

pub returns-in-Err-clause-bounded : goal.returns-in-Err-clause-bounded
returns-in-Err-clause-bounded c = c.self.invariant.bounded

pub returns-in-Ok-clause-going : goal.returns-in-Ok-clause-going
returns-in-Ok-clause-going c =
    let open_ = rw (← c.self.view_is) at c.requires.open in
    open_.going

pub returns-in-Ok-clause-first : goal.returns-in-Ok-clause-first
returns-in-Ok-clause-first c = tt

pub returns-in-Err-clause-fed : goal.returns-in-Err-clause-fed
returns-in-Err-clause-fed c = tt

pub returns-in-Err-clause-count : goal.returns-in-Err-clause-count
returns-in-Err-clause-count c = tt

pub returns-in-Err-clause-few : goal.returns-in-Err-clause-few
returns-in-Err-clause-few c = tt

pub returns-in-Err-clause-whole : goal.returns-in-Err-clause-whole
returns-in-Err-clause-whole c = tt

pub returns-in-Err-clause-going : goal.returns-in-Err-clause-going
returns-in-Err-clause-going c = tt

pub returns-in-Err-clause-first : goal.returns-in-Err-clause-first
returns-in-Err-clause-first c = refl

pub returns-in-Ok-clause-count : goal.returns-in-Ok-clause-count
returns-in-Ok-clause-count c =
    c.in-Ok.ensures.count ∙ ap (λ (h : Reading). fed_at_once h.taken (length c.args.piece.now)) (reader_within _ _ _ _ _ c.self.view_is)

pub returns-in-Ok-clause-few : goal.returns-in-Ok-clause-few
returns-in-Ok-clause-few c = c.in-Ok.ensures.few

pub returns-in-Ok-clause-whole : goal.returns-in-Ok-clause-whole
returns-in-Ok-clause-whole c open_ = c.in-Ok.ensures.whole open_.reader

pub returns-in-Ok-clause-within : goal.returns-in-Ok-clause-within
returns-in-Ok-clause-within c = c.feed.ensures.within

pub returns-in-Err-clause-within : goal.returns-in-Err-clause-within
returns-in-Err-clause-within c = c.feed.ensures.within
