use Rattle.std.proofs.Common.{rules, tests, ◌==◌, ◌≡◌, ◌∙◌, map, string_bytes}
use Rattle.std.specs.Str.{IsUtf8}
use Rattle.std.proofs.lemmas.Iterator.Consumers.{YieldsList-end, YieldsList-turn}
use Rattle.std.proofs.lemmas.Iterator.Splits.{YieldsList-from_slice_split}
use Rattle.vx_c.specs.InMemory.{words_in}
use Rattle.vx_c.proofs.Streams.{same_more, not_all}
use Rattle.vx_c.proofs.memory.words_in.Goals as goal

pub loop-word-preserved : goal.loop-word-preserved
loop-word-preserved c = same_more string_bytes (λ word. word.now) c.loop-word.words.items c.push.new.self.items c.loop-word.yielded _ c.in-Some.word
    c.in_ok-push.ensures.items c.loop-word.invariant (search rules)

pub returns-in_default-clause-none : goal.returns-in_default-clause-none
returns-in_default-clause-none c =
    let next = YieldsList-turn (YieldsList-from_slice_split _ (λ byte. byte == 10) c.args.text.now (cc) (cc)
    (cc) (λ x r q k. search (rules, tests))) c.loop-word.yielded _ c.loop-word.yielded_by _ _ c.in-Some.word c.in-Some.is c.next.ensures.steps in
    not_all IsUtf8 (words_in c.args.text.now) c.in-Some.word.now _ next c.in_default.ensures.cases.0

pub returns-clause-words : goal.returns-clause-words
returns-clause-words c =
    let parts : map (λ word. word.now) c.loop-word.yielded ≡ words_in c.args.text.now =
    (YieldsList-end (YieldsList-from_slice_split _ (λ byte. byte == 10) c.args.text.now (cc) (cc)
    (cc) (λ x r q k. search (rules, tests))) c.loop-word.yielded _ c.loop-word.yielded_by _ _ c.in-None.is c.next.ensures.steps).0 in
    c.loop-word.invariant ∙ parts
