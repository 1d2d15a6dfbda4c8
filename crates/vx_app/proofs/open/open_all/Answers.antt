use Rattle.std.proofs.Common.{◌≡◌, ap, arith, option_copied, rules, sym}
use Rattle.vx_run.specs.Grammar.{files_of}
use Rattle.vx_app.specs.Opened.{opened_file}
use Rattle.vx_app.proofs.Opening.{stand-more, word_found, all_opened}
use Rattle.vx_app.proofs.open.open_all.Goals as goal

pub loop-k-init : goal.loop-k-init
loop-k-init g c = (search rules, λ command asked. rw c.new-files.ensures.items tt)

pub unreachable-requires : goal.unreachable-requires
unreachable-requires g c = word_found _ _ _ (option_copied c.file_word.result) c.file_count-k-end.ensures (omega (arith, c.loop-k-test.true)) c.file_word.ensures.files (ap option_copied c.in_default.is)

pub loop-k-preserved : goal.loop-k-preserved
loop-k-preserved g c =
    let opens = g.O.Opener.opens c.args.opener.now in
    let is : opens c.in-Some.name.now (opened_file c.new.result) = rw c.new.ensures.file c.in_ok-open.ensures in (
      search rules,
      λ command asked. rw c.in_ok-push.ensures.items
          (stand-more opens (files_of command) c.loop-k.files.items c.loop-k.k c.in-Some.name.now c.new.result (c.loop-k.invariant.1 command asked) _ (omega arith) (sym (c.in-Some.ensures.files command asked)) is),
    )

pub returns-clause-opened : goal.returns-clause-opened
returns-clause-opened g c =
    let end : c.loop-k.k ≡ c.file_count-k-end.result = omega (arith, c.loop-k-test.false, c.loop-k.auto.k-end) in
    let held = c.loop-k.invariant.1 in
    all_opened (g.O.Opener.opens c.args.opener.now) _ c.file_count-k-end.result c.loop-k.files.items c.file_count-k-end.ensures (omega (arith, end, c.loop-k.invariant.0)) (rw end at held)
