use Rattle.std.proofs.Common.{◌≡◌, [], ◌∷◌, map, length, ap, sym, ◌∙◌, arith, Bor, ℕ, List}
use Rattle.std.proofs.lemmas.List.{append-nil, length-map}
use Rattle.vx_pic.specs.Written.{an_aps}
use Rattle.vx_merge.specs.Needed.{sets_with_id}
use Rattle.vx_merge.proofs.Rising.{end_at, lent_at, others_as, with_none, with_one}
use Rattle.vx_merge.proofs.send.send_with.Goals as goal

pub item-body-requires : goal.item-body-requires
item-body-requires c = let size = c.requires.can.one_each in let low = c.in-Some.ensures.in_range in omega (arith, size, low)

pub send-requires-clause-set : goal.send-requires-clause-set
send-requires-clause-set c =
    let body = end_at c.args.named.now.bodies c.in-Some.k c.item-body.result c.item-body.ensures.value c.requires.can.ends in
    (c.requires.kind, omega (arith, c.requires.id), body.0, body.1)

pub returns-in-Some : goal.returns-in-Some
returns-in-Some c before sets apart sent others =
    let kind = c.args.search.kind in
    let bodies = map (λ (b : Bor (List ℕ)). b.now) c.args.named.now.bodies in
    let ids = c.args.named.now.ids.items in
    let size : length ids ≡ length bodies = c.requires.can.one_each ∙ sym (length-map c.args.named.now.bodies (λ (b : Bor (List ℕ)). b.now)) in
    let place = rw c.deref.ensures.value at c.in-Some.ensures in
    let one = with_one kind bodies ids c.args.id c.in-Some.k size place.in_range place.breaks apart in
    let own = lent_at c.args.named.now.bodies c.in-Some.k c.item-body.result c.item-body.ensures.value in
    let more : sets_with_id kind bodies ids c.args.id ≡ an_aps (record { kind = kind; id = c.args.id; body = c.item-body.result.now }) ∷ [] =
    one ∙ ap (λ b. an_aps (record { kind = kind; id = c.args.id; body = b }) ∷ []) own in
    rw more (c.send.ensures.sent before sets sent (others_as kind c.args.id c.item-body.result.now sets others))

pub returns-in-None : goal.returns-in-None
returns-in-None c before sets apart sent others =
    let bodies = map (λ (b : Bor (List ℕ)). b.now) c.args.named.now.bodies in
    let none = with_none c.args.search.kind bodies c.args.named.now.ids.items c.args.id (rw c.deref.ensures.value at c.in-None.ensures) in
    rw (none, append-nil sets) sent
