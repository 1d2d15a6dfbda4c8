use Rattle.std.proofs.Common.{◌≡◌, ◌++◌, ◌∷◌, ◌∙◌, Some, Result, Ok, Err, [], refl, ap, sym, append-nil}
use Rattle.std.proofs.lemmas.Result.{err_from_is_err_and}
use Rattle.vx_report.specs.FieldsLine.{fields_text}
use Rattle.vx_run.specs.declared.stop.Place.TheVariants as places
use Rattle.vx_run.specs.Show.{teller, refused_field}
use Rattle.vx_run.proofs.Fields.{taken_fields, refused_told_of}
use Rattle.vx_run.proofs.Made.{gathers_one}
use Rattle.vx_run.proofs.Showing.{sees_end, sees_none}
use Rattle.vx_run.proofs.show.gather_next.Goals as goal

-- an error is no value
never : {T E A : Type 0} {r : Result T E} {x : T} {y : E} → r ≡ Err y → r ≡ Ok x → A
never err ok = absurd (cc)

pub returns-in_err-made-in-Ok-Some-Nal : goal.returns-in_err-made-in-Ok-Some-Nal
returns-in_err-made-in-Ok-Some-Nal c =
    let p = err_from_is_err_and c.from_residual.result c.from_residual.ensures.1 in
    record {
      answer = λ R of g units before fed count. rw (p.1, p.2) ([], refl, sym (append-nil c.args.lines.now.items));
      taken = c.take_next.ensures.taken;
      closed = c.take_next.ensures.closed;
      all = c.take_next.ensures.all;
      sought = λ is. never p.1 is;
      falls = rw p.1 tt;
      stop = rw (p.1, p.2) tt;
    }

pub returns-in_err-put_inputs-in-Ok-Some-Nal : goal.returns-in_err-put_inputs-in-Ok-Some-Nal
returns-in_err-put_inputs-in-Ok-Some-Nal c =
    let p = err_from_is_err_and c.from_residual-in_err-put_inputs-in-Ok-Some-Nal.result c.from_residual-in_err-put_inputs-in-Ok-Some-Nal.ensures.1 in
    record {
      answer = λ R of g units before fed count. rw (p.1, p.2) ([], refl, sym (append-nil c.args.lines.now.items));
      taken = c.take_next.ensures.taken;
      closed = c.take_next.ensures.closed;
      all = c.take_next.ensures.all;
      sought = λ is. never p.1 is;
      falls = rw p.1 tt;
      stop = rw (p.1, p.2) tt;
    }

pub returns-in_err-fields_line-in-Ok-Some-Nal : goal.returns-in_err-fields_line-in-Ok-Some-Nal
returns-in_err-fields_line-in-Ok-Some-Nal c =
    let p = err_from_is_err_and c.from_residual-in_err-fields_line-in-Ok-Some-Nal.result c.from_residual-in_err-fields_line-in-Ok-Some-Nal.ensures.1 in
    record {
      answer = λ R of g units before fed count. rw (p.1, p.2) ([], refl, sym (append-nil c.args.lines.now.items));
      taken = c.take_next.ensures.taken;
      closed = c.take_next.ensures.closed;
      all = c.take_next.ensures.all;
      sought = λ is. never p.1 is;
      falls = rw p.1 tt;
      stop = rw (p.1, p.2) tt;
    }

pub returns-in_err-extend_from_slice-in-Ok-Some-Nal : goal.returns-in_err-extend_from_slice-in-Ok-Some-Nal
returns-in_err-extend_from_slice-in-Ok-Some-Nal c =
    let p = err_from_is_err_and c.from_residual-in_err-extend_from_slice-in-Ok-Some-Nal.result c.from_residual-in_err-extend_from_slice-in-Ok-Some-Nal.ensures.1 in
    let same : c.extend_from_slice.new.self.items ≡ c.args.lines.now.items = c.in_err-extend_from_slice-in-Ok-Some-Nal.ensures.items in
    record {
      answer = λ R of g units before fed count. rw (p.1, p.2) ([], refl, same ∙ sym (append-nil c.args.lines.now.items));
      taken = c.take_next.ensures.taken;
      closed = c.take_next.ensures.closed;
      all = c.take_next.ensures.all;
      sought = λ is. never p.1 is;
      falls = rw p.1 tt;
      stop = rw (p.1, p.2) tt;
    }

pub returns-in_ok-extend_from_slice-in-Ok-Some-Nal : goal.returns-in_ok-extend_from_slice-in-Ok-Some-Nal
returns-in_ok-extend_from_slice-in-Ok-Some-Nal c =
    let lines : c.extend_from_slice.new.self.items ≡ c.args.lines.now.items ++ c.fields_line.new.lines.items = rw c.deref.ensures.value at c.in_ok-extend_from_slice-in-Ok-Some-Nal.ensures.items in
    record {
      answer = λ R of g units before fed count.
          let gives = rw c.in-Ok-Some-Nal.field-0-0-is at (rw c.in-Ok-Some-Nal.field-0-is at c.in-Ok-Some-Nal.ensures.seen R of g units before fed) in
          let made = taken_fields R of g units before c.args.feed.now c.take_next.new.feed fed c.unit-unit.result c.unit-unit.ensures c.args.fields c.args.inputs gives.0 gives.1 c.take_next.new.seen
          c.in_ok-made-in-Ok-Some-Nal.made.items c.put_inputs.new.lines.items _ gives.2 gives.4 (c.in_ok-made-in-Ok-Some-Nal.ensures R of g (units ++ gives.0 ∷ []) gives.0 gives.1 before gives.2 gives.3 count)
          (c.in_ok-put_inputs-in-Ok-Some-Nal.ensures R of g (units ++ gives.0 ∷ []) gives.1 before gives.2 gives.3.what count) c.in_ok-fields_line-in-Ok-Some-Nal.ensures in
          gathers_one R (teller c.args.fields c.args.inputs R of) g units before c.take_next.new.feed _ _ _ _ c.args.pictures _ _ _ c.in-Ok-Some-Nal.what gives.0 gives.1 gives.2 gives.3 count lines made
          (λ is less. c.count_with.ensures.done is (rw c.unit.ensures less))
          c.count_with.ensures.other;
      taken = c.take_next.ensures.taken;
      closed = c.take_next.ensures.closed;
      all = c.take_next.ensures.all;
      sought = λ is. absurd (cc);
      falls = rw c.in-Ok-Some-Nal.field-0-0-is at (rw c.in-Ok-Some-Nal.field-0-is at c.in-Ok-Some-Nal.ensures.lowers);
      stop = tt;
    }

pub returns-in-Ok-Some-End : goal.returns-in-Ok-Some-End
returns-in-Ok-Some-End c = record {
  answer = λ R of g units before fed count.
      (sees_end R c.take_next.new.feed g units before (rw c.in-Ok-Some-End.field-0-0-is at (rw c.in-Ok-Some-End.field-0-is at c.in-Ok-Some-End.ensures.answer R of g units before fed)), refl);
  taken = c.take_next.ensures.taken;
  closed = c.take_next.ensures.closed;
  all = c.take_next.ensures.all;
  sought = λ is open_. absurd (c.in-Ok-Some-End.ensures.ended (ap Ok (c.in-Ok-Some-End.field-0-is ∙ ap Some c.in-Ok-Some-End.field-0-0-is)) open_);
  falls = tt;
  stop = tt;
}

pub returns-in-Ok-None : goal.returns-in-Ok-None
returns-in-Ok-None c =
    let none = ap Ok c.in-Ok-None.field-0-is in
    record {
      answer = λ R of g units before fed count.
          (sees_none R c.take_next.new.feed g units before (c.in-Ok-None.ensures.«open» none) (rw c.in-Ok-None.field-0-is at c.in-Ok-None.ensures.answer R of g units before fed), refl);
      taken = c.take_next.ensures.taken;
      closed = c.take_next.ensures.closed;
      all = c.take_next.ensures.all;
      sought = λ is open_. c.in-Ok-None.ensures.sought none;
      falls = tt;
      stop = tt;
    }

pub returns-in_err-tell_refused-in-Err-Refused : goal.returns-in_err-tell_refused-in-Err-Refused
returns-in_err-tell_refused-in-Err-Refused c =
    let p = err_from_is_err_and c.from_residual-in_err-tell_refused-in-Err-Refused.result c.from_residual-in_err-tell_refused-in-Err-Refused.ensures.1 in
    record {
      answer = λ R of g units before fed count. rw (p.1, p.2) ([], refl, c.in_err-tell_refused-in-Err-Refused.ensures.err ∙ sym (append-nil c.args.lines.now.items));
      taken = c.take_next.ensures.taken;
      closed = c.take_next.ensures.closed;
      all = c.take_next.ensures.all;
      sought = λ is. never p.1 is;
      falls = rw p.1 tt;
      stop = rw (p.1, p.2) tt;
    }

pub returns-in_ok-tell_refused-in-Err-Refused : goal.returns-in_ok-tell_refused-in-Err-Refused
returns-in_ok-tell_refused-in-Err-Refused c = record {
  answer = λ R of g units before fed count.
      let sees = rw c.in-Err-Refused.field-0-is at c.in-Err-Refused.ensures.seen R of g units before fed in
      let why = refused_told_of R of g units before c.args.feed.now c.take_next.new.feed fed c.unit-unit.result c.unit-unit.ensures c.args.fields c.args.inputs c.in-Err-Refused.refusal c.take_next.new.seen sees in
      (fields_text c.unit-unit.result c.take_next.new.seen (refused_field c.in-Err-Refused.refusal), (why.0, ap (places.Unit 0) (c.unit-unit.ensures ∙ fed.count), why.1), c.in_ok-tell_refused-in-Err-Refused.ensures.ok);
  taken = c.take_next.ensures.taken;
  closed = c.take_next.ensures.closed;
  all = c.take_next.ensures.all;
  sought = λ is. absurd (cc);
  falls = tt;
  stop = tt;
}
