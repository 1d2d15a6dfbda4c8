-- A picture more.
use Rattle.std.proofs.Common.{◌≡◌, ℕ, ◌+◌, ◌*◌, [], ◌∷◌, ◌++◌, ap, sym, ◌∙◌, arith}
use Rattle.vx_annexb.specs.Laws.{written}
use Rattle.vx_gen.specs.Draws.{state}
use Rattle.vx_gen.specs.Units.{slice}
use Rattle.vx_gen.proofs.Making.{picture_more}
use Rattle.vx_gen.proofs.streams.stream.Goals as goal

pub loop-p-preserved : goal.loop-p-preserved
loop-p-preserved c = λ seed n start.
    let before = c.loop-p.invariant seed n start in
    let at : ℕ = n + 5 * c.loop-p.p in
    let one : c.push_picture.new.stream ≡ c.loop-p.stream ++ written (slice seed at c.loop-p.p ∷ []) = c.in_ok-push_picture.ensures.bytes seed at before.0 in
    let drawn : c.push_picture.new.draws.state ≡ state seed (at + 5) = c.in_ok-push_picture.ensures.draws seed at before.0 in
    (drawn ∙ ap (state seed) (omega arith), one ∙ ap (λ bytes. bytes ++ written (slice seed at c.loop-p.p ∷ [])) before.1 ∙ sym (picture_more seed n c.args.k c.loop-p.p))
