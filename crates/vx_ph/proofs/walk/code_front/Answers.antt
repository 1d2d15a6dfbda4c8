use Rattle.std.proofs.lemmas.Result.{err_from_is_err_and}
use Rattle.vx_table.proofs.ByType.{no_section, section_then, section_stop}
use Rattle.vx_ph.proofs.walk.code_front.Goals as goal

pub returns-in_err-code_section : goal.returns-in_err-code_section
returns-in_err-code_section g c =
    let p = err_from_is_err_and c.from_residual.result c.from_residual.ensures.1 in
    rw (p.1, p.2) (section_stop _ _ _ _ (rw c.in_err-code_section.was at c.code_section.ensures))

pub returns-in_err-code_section-2 : goal.returns-in_err-code_section-2
returns-in_err-code_section-2 g c =
    let p = err_from_is_err_and c.from_residual-in_err-code_section-2.result c.from_residual-in_err-code_section-2.ensures.1 in
    rw (p.1, p.2) (section_then _ _ _ _ _ (rw c.in_ok-code_section.was at c.code_section.ensures)
    (section_stop _ _ _ _ (rw c.in_err-code_section-2.was at c.code_section-2.ensures)))

pub returns-in_err-code_section-3 : goal.returns-in_err-code_section-3
returns-in_err-code_section-3 g c =
    let p = err_from_is_err_and c.from_residual-in_err-code_section-3.result c.from_residual-in_err-code_section-3.ensures.1 in
    rw (p.1, p.2) (section_then _ _ _ _ _ (rw c.in_ok-code_section.was at c.code_section.ensures)
    (section_then _ _ _ _ _ (rw c.in_ok-code_section-2.was at c.code_section-2.ensures)
    (section_stop _ _ _ _ (rw c.in_err-code_section-3.was at c.code_section-3.ensures))))

pub returns-in_err-code_section-4 : goal.returns-in_err-code_section-4
returns-in_err-code_section-4 g c =
    let p = err_from_is_err_and c.from_residual-in_err-code_section-4.result c.from_residual-in_err-code_section-4.ensures.1 in
    rw (p.1, p.2) (section_then _ _ _ _ _ (rw c.in_ok-code_section.was at c.code_section.ensures)
    (section_then _ _ _ _ _ (rw c.in_ok-code_section-2.was at c.code_section-2.ensures)
    (section_then _ _ _ _ _ (rw c.in_ok-code_section-3.was at c.code_section-3.ensures)
    (section_stop _ _ _ _ (rw c.in_err-code_section-4.was at c.code_section-4.ensures)))))

pub returns-in_err-code_section-5 : goal.returns-in_err-code_section-5
returns-in_err-code_section-5 g c =
    let p = err_from_is_err_and c.from_residual-in_err-code_section-5.result c.from_residual-in_err-code_section-5.ensures.1 in
    rw (p.1, p.2) (section_then _ _ _ _ _ (rw c.in_ok-code_section.was at c.code_section.ensures)
    (section_then _ _ _ _ _ (rw c.in_ok-code_section-2.was at c.code_section-2.ensures)
    (section_then _ _ _ _ _ (rw c.in_ok-code_section-3.was at c.code_section-3.ensures)
    (section_then _ _ _ _ _ (rw c.in_ok-code_section-4.was at c.code_section-4.ensures)
    (section_stop _ _ _ _ (rw c.in_err-code_section-5.was at c.code_section-5.ensures))))))

pub returns-in_err-code_section-6 : goal.returns-in_err-code_section-6
returns-in_err-code_section-6 g c =
    let p = err_from_is_err_and c.from_residual-in_err-code_section-6.result c.from_residual-in_err-code_section-6.ensures.1 in
    rw (p.1, p.2) (section_then _ _ _ _ _ (rw c.in_ok-code_section.was at c.code_section.ensures)
    (section_then _ _ _ _ _ (rw c.in_ok-code_section-2.was at c.code_section-2.ensures)
    (section_then _ _ _ _ _ (rw c.in_ok-code_section-3.was at c.code_section-3.ensures)
    (section_then _ _ _ _ _ (rw c.in_ok-code_section-4.was at c.code_section-4.ensures)
    (section_then _ _ _ _ _ (rw c.in_ok-code_section-5.was at c.code_section-5.ensures)
    (section_stop _ _ _ _ (rw c.in_err-code_section-6.was at c.code_section-6.ensures)))))))

pub returns : goal.returns
returns g c =
    section_then _ _ _ _ _ (rw c.in_ok-code_section.was at c.code_section.ensures)
    (section_then _ _ _ _ _ (rw c.in_ok-code_section-2.was at c.code_section-2.ensures)
    (section_then _ _ _ _ _ (rw c.in_ok-code_section-3.was at c.code_section-3.ensures)
    (section_then _ _ _ _ _ (rw c.in_ok-code_section-4.was at c.code_section-4.ensures)
    (section_then _ _ _ _ _ (rw c.in_ok-code_section-5.was at c.code_section-5.ensures)
    (section_then _ _ _ _ _ (rw c.in_ok-code_section-6.was at c.code_section-6.ensures)
    (no_section _ _ _))))))
