use Rattle.std.proofs.Common.{rules, ◌≡◌, ◌↔◌, ℕ, List, [], Option, Some, length, map, vec_len, ap, refl, subst, arith}
use Rattle.vx_run.specs.Grammar.{IsUnderstood, NamesFiles, texts}
use Rattle.vx_c.specs.InMemory.{AreStreams}
use Rattle.vx_c.specs.InMemory as caller
use Rattle.vx_c.proofs.Streams.{counted}
use Rattle.vx_c.proofs.Telling.{tells_why}
use Rattle.vx_c.proofs.whole.run_in_memory.Goals as goal

pub run-status-requires : goal.run-status-requires
run-status-requires c =
    let are : AreStreams c.args.bytes.now c.args.lengths.now (map (λ source. source.left) c.in-Some-2.streams.items) = search rules in
    let as_many = counted (λ source. source.left) c.in-Some-2.streams.items c.args.lengths.now are.lengths in
    let size : vec_len c.in-Some-2.streams ≡ length c.in-Some-2.streams.items = search rules in
    let many : vec_len c.loop-stream.sources ≡ length c.args.lengths.now =
    omega (arith, c.loop-stream.invariant, c.in-None.ensures.steps.0, c.into_iter-stream-iterator.ensures.into_iter_gives.1, size, as_many) in
    let names : NamesFiles (texts c.deref-2.result.now) (length c.args.lengths.now) = search rules in
    rw many names

pub returns-clause-words : goal.returns-clause-words
returns-clause-words c =
    let exact = c.status_2_is_exact.ensures (texts c.deref-2.result.now) _ _ c.run-status.result _ c.run-status.ensures.ends in
    let words : texts c.deref-2.result.now ≡ caller.words_in c.args.words.now = search rules in
    subst (λ ws. (c.run-status.result ≡ 2) ↔ ¬ IsUnderstood ws) words exact

pub returns-clause-tells : goal.returns-clause-tells
returns-clause-tells c =
    let ends = c.run-status.ensures.ends in
    let none : c.in_ok-err.err.taken ≡ [] = search rules in
    tells_why _ c.run-status.new.err.taken (ap (λ (l : List ℕ). let o : Option (List ℕ) = Some l in o) none) refl ends.0 _ ends.2
