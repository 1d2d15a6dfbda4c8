use Rattle.std.proofs.Common.{List, ℕ, [], ◌-◌, ◌++◌, ◌∙◌, sym, subst, take}
use Rattle.std.proofs.lemmas.List.{append-nil}
use Rattle.vx_annexb.specs.ByteStream.{source_limit}
use Rattle.vx_annexb.specs.Held.{Stands, lent}
use Rattle.vx_annexb.proofs.Taking.{seen_of_more}
use Rattle.vx_annexb.proofs.unit_reader.read_piece.Goals as goal

pub returns-in_default-read_from-clause-answer : goal.returns-in_default-read_from-clause-answer
returns-in_default-read_from-clause-answer g c bytes units len s =
    let same = c.in_default-read_from.ensures.answer in
    let stands = c.read_from.ensures.stands [] (same.1 ∙ sym (append-nil (lent c.make_room.new.self))) (take source_limit bytes) units (c.in-Ok.ensures.stands (take source_limit bytes) units s) in
    (same.0, c.in_default-read_from.ensures.faults, rw append-nil at stands)

pub returns-clause-answer : goal.returns-clause-answer
returns-clause-answer g c bytes units len s =
    let came = c.in-Ok-read_from.ensures.answer in
    let fed_ = c.read_from.ensures.stands (take (1099511627776 - c.args.taken) came.piece) came.put (take source_limit bytes) units (c.in-Ok.ensures.stands (take source_limit bytes) units s) in
    let stands = subst (λ (xs : List ℕ). Stands c.read_from.new.self xs units) (seen_of_more bytes came.piece c.args.taken len c.requires.within) fed_ in
    (came.piece, came.consumed, came.came, c.in-Ok-read_from.ensures.faults, c.close-closed.ensures.stands (take source_limit (bytes ++ came.piece)) units stands, λ end. let none = c.close-closed.ensures.end end in (came.came ∙ none, came.end none))
