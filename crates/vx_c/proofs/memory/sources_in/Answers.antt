use Rattle.std.proofs.Common.{rules, refl, ◌≡◌, get_or}
use Rattle.vx_c.proofs.Streams.{joined_more, sized_more, longer, shorter, joined_all, sized_all}
use Rattle.vx_c.proofs.memory.sources_in.Goals as goal

pub returns-in_default-clause-none : goal.returns-in_default-clause-none
returns-in_default-clause-none c = longer (λ source. source.left) c.loop-len.sources.items c.args.bytes.now c.loop-len.rest.now c.args.lengths.now
    c.loop-len.len-index (search rules) c.loop-len.invariant.0 c.loop-len.invariant.1 (search rules)

pub loop-len-preserved : goal.loop-len-preserved
loop-len-preserved c =
    let size = get_or c.args.lengths.now c.loop-len.len-index 0 in
    let stream : c.new-in-loop-len-2.result.left ≡ c.in-Some.stream.now = search rules in (
      joined_more (λ source. source.left) c.loop-len.sources.items c.push.new.self.items c.new-in-loop-len-2.result c.args.bytes.now c.loop-len.rest.now
          c.in-Some.stream.now c.in-Some.behind.now size c.in_ok-push.ensures.items c.loop-len.invariant.0 stream c.in-Some.ensures.cases,
      sized_more (λ source. source.left) c.loop-len.sources.items c.push.new.self.items c.new-in-loop-len-2.result c.loop-len.rest.now
          c.in-Some.stream.now c.in-Some.behind.now size c.args.lengths.now c.loop-len.len-index c.in_ok-push.ensures.items (search rules)
          c.loop-len.invariant.1 stream c.in-Some.ensures.cases refl,
    )

pub returns-then-is_empty-clause-streams : goal.returns-then-is_empty-clause-streams
returns-then-is_empty-clause-streams c = record {
  joined = joined_all (λ source. source.left) c.loop-len.sources.items c.args.bytes.now c.loop-len.rest.now c.loop-len.invariant.0 (search rules);
  lengths = sized_all (λ source. source.left) c.loop-len.sources.items c.args.lengths.now c.loop-len.len-index c.loop-len.invariant.1 (search rules);
}

pub returns-else-is_empty-clause-none : goal.returns-else-is_empty-clause-none
returns-else-is_empty-clause-none c = shorter (λ source. source.left) c.loop-len.sources.items c.args.bytes.now c.loop-len.rest.now c.args.lengths.now
    c.loop-len.len-index (search rules) c.loop-len.invariant.0 c.loop-len.invariant.1 (search rules)
