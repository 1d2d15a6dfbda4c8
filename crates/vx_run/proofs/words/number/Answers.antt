use Rattle.std.proofs.Common.{ℕ, ◌<◌, ◌≤◌, List, length, get_or, nat_le, ap, refl, subst, arith, ◌∙◌}
use Rattle.std.proofs.lemmas.Fmt.{parse-decimal}
use Rattle.vx_run.proofs.Numbering.{no_further_zero, number_answer}
use Rattle.vx_run.proofs.words.number.Goals.{else-bytes-gt1-via-then-bytes-gt1+else-bytes-lt49, else-bytes-gt1-via-else-bytes-gt1}
use Rattle.vx_run.proofs.words.number.Goals as goal

pub returns-then-bytes-lt49 : goal.returns-then-bytes-lt49
returns-then-bytes-lt49 c n within is =
    let same = c.as_bytes-bytes.ensures.value ∙ is in
    let bound = no_further_zero n (omega arith) (subst (λ (l : List ℕ). 1 < length l) same c.if-bytes-gt1.true) in
    let low = subst (λ (l : List ℕ). get_or l 0 0 < 49) same c.if-bytes-lt49.true in
    omega (arith, bound, low)

pub returns-in_default : goal.returns-in_default
returns-in_default c n within is =
    let read = parse-decimal 32 n c.args.word.now c.parse.result (omega arith) (omega arith) is c.parse.ensures.value.0 in
    let no = c.in_default.is in
    absurd (cc)

pub returns : goal.returns
returns c =
    let same = c.as_bytes-bytes.ensures.value in
    let lead : 1 < length c.args.word.now → 49 ≤ get_or c.args.word.now 0 0 = elim c.else-bytes-gt1.branch [
      | else-bytes-gt1-via-then-bytes-gt1+else-bytes-lt49 w ↦ λ long. subst (λ (l : List ℕ). 49 ≤ get_or l 0 0) same w.if-bytes-lt49.false
      | else-bytes-gt1-via-else-bytes-gt1 w ↦ λ long. absurd (omega (arith, w.if-bytes-gt1.false, ap (λ (l : List ℕ). length l) same, long))
    ] in
    number_answer c.args.word.now c.in-Ok.n c.args.most c.then_some.result c.parse.result (omega arith) c.parse.ensures.value.0 c.in-Ok.is lead (nat_le c.in-Ok.n c.args.most) refl c.then_some.ensures
