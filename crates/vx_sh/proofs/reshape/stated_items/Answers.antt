use Rattle.std.proofs.Common.{rules, ◌≡◌, w64, to_z, of_z}
use Rattle.vx_sh.proofs.Stated.{all_stated}
use Rattle.vx_sh.proofs.reshape.stated_items.Goals as goal

pub returns : goal.returns
returns c =
    let qp : to_z w64 (of_z w64 c.from.result) ≡ c.args.shape.now.qp_delta = search (rules, c.from.ensures) in
    all_stated c.args.numbers.now c.args.slice.now c.args.shape.now c.requires c.new-into.ensures c.in_ok-push_id.ensures c.in_ok-push_filter.ensures c.in_ok-push_uses.ensures c.in_ok-push.ensures.ok qp
