use Rattle.std.proofs.Common.{ℕ, Bor, List, map, ap, sym, ◌∙◌}
use Rattle.std.specs.Prelude.{option_to_list}
use Rattle.std.proofs.lemmas.Result.{on_ok_weaker}
use Rattle.vx_pic.specs.Inputs.{alf_of}
use Rattle.vx_pic.specs.Parts.{part_of}
use Rattle.vx_frame.specs.Bodies.{bodies_in, filters_of, with_bodies}
use Rattle.vx_frame.proofs.Gathered.{four_more, piece_is}
use Rattle.vx_frame.proofs.filters.add_slice.Goals as goal

pub returns : goal.returns
returns c =
    let q = c.args.picture.now in
    let seen : List (Bor (List ℕ)) → List (List ℕ) = λ bodies. map (λ (b : Bor (List ℕ)). b.now) bodies in
    let a = seen c.add_luma.new.bodies in
    let b = seen c.add_some.new.bodies in
    let d = seen c.add_some-2.new.bodies in
    on_ok_weaker c.add_some-3.result
    (λ last. four_more (seen c.args.bodies.now) a b d (seen c.add_some-3.new.bodies) (alf_of q c.filter_fields-items.result.now)
    c.in_ok-add_luma.ensures
    (c.in_ok-add_some.ensures ∙ ap (λ o. with_bodies a (option_to_list o)) c.body_named.ensures)
    (c.in_ok-add_some-2.ensures ∙ ap (λ o. with_bodies b (option_to_list o)) c.body_named-2.ensures)
    (last ∙ ap (λ o. with_bodies d (option_to_list o)) c.body_named-3.ensures)
    ∙ ap (with_bodies (seen c.args.bodies.now)) (ap (λ l. bodies_in (alf_of q l)) c.filter_fields-items.ensures
    ∙ sym (piece_is (filters_of q) q.slices c.args.i (part_of c.slice-slice.result) c.slice-slice.ensures.slice)))
    c.add_some-3.ensures
