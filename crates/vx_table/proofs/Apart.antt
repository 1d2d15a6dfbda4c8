-- Spellings tell their values apart.
use Rattle.std.proofs.Common.{◌≡◌, ℕ, ℤ, Bool, List, refl, subst, sym}
use Rattle.vx_bits.specs.declared.refusal.Refusal.{Refusal}
use Rattle.vx_table.specs.declared.rows.Cell.{Cell}
use Rattle.vx_table.specs.Forms.{Form, done, field}
use Rattle.vx_table.specs.Spelling.{BeginsField, Spells, at_end, behind, Reaches, here, later, IsRefusedField}
use Rattle.vx_table.specs.laws.Spelling.{ReadsOneWay, AnswersOneWay}
use Rattle.vx_table.proofs.Codings.{begins_code_apart, begins_field_not_refused, refused_once}

apart : {total : ℕ} {form : Form (List ℕ)} {v w : List ℤ} {left other r s : List Bool} → left ≡ other → Spells total form v left r → Spells total form w other s → (v ≡ w) × (r ≡ s)
apart same at_end at_end = (refl, same)
apart {total} {form = field cell goes} {r} {s} same (behind {v} {w = vs} {mid} a more) (behind {v = u} {w = us} {mid = next} b others) =
    let first = begins_code_apart (subst (λ x. BeginsField cell total v x mid) same a).code b.code in
    let on : (vs ≡ us) × (r ≡ s) = apart first.1 more (subst (λ x. Spells total (goes x) us next s) (sym first.0) others) in
    let head = first.0 in
    let tail = on.0 in
    (cc (head, tail), on.1)

pub reads_one_way : ReadsOneWay
reads_one_way form total v w left r s a b = apart refl a b

not_both : {total : ℕ} {form : Form (List ℕ)} {v w : List ℤ} {left other r s : List Bool} {cell : Cell ℕ} {q : Refusal}
    → left ≡ other → Reaches total form v left cell r → IsRefusedField cell total r q → Spells total form w other s → ⊥
not_both {form = done a} same reached out spelled = elim reached [ ]
not_both {total} {form = field cell goes} {q} same here out (behind b others) = begins_field_not_refused b (subst (λ x. IsRefusedField cell total x q) same out)
not_both {total} {form = field cell goes} {s} same (later {v} {mid} a more) out (behind {v = u} {w = us} {mid = next} b others) =
    let first = begins_code_apart (subst (λ x. BeginsField cell total v x mid) same a).code b.code in
    not_both first.1 more out (subst (λ x. Spells total (goes x) us next s) (sym first.0) others)

one_refusal : {total : ℕ} {form : Form (List ℕ)} {v w : List ℤ} {left other r s : List Bool} {cell next : Cell ℕ} {q p : Refusal}
    → left ≡ other → Reaches total form v left cell r → IsRefusedField cell total r q → Reaches total form w other next s → IsRefusedField next total s p → (v ≡ w) × (r ≡ s) × (cell ≡ next) × (q ≡ p)
one_refusal {form = done a} same reached out again other = elim reached [ ]
one_refusal {total} {form = field cell goes} {q} same here out here other = (refl, same, refl, refused_once (subst (λ x. IsRefusedField cell total x q) same out) other)
one_refusal {total} {form = field cell goes} {q} same here out (later b others) other = absurd (begins_field_not_refused b (subst (λ x. IsRefusedField cell total x q) same out))
one_refusal {total} {form = field cell goes} same (later {v} {mid} a more) out here other = absurd (begins_field_not_refused (subst (λ x. BeginsField cell total v x mid) same a) other)
one_refusal {total} {form = field cell goes} {s} {next = final} same (later {v} {w = vs} {mid} a more) out (later {v = u} {w = us} {mid = after} b others) other =
    let first = begins_code_apart (subst (λ x. BeginsField cell total v x mid) same a).code b.code in
    let on = one_refusal first.1 more out (subst (λ x. Reaches total (goes x) us after final s) (sym first.0) others) other in
    let head = first.0 in
    let tail : vs ≡ us = on.0 in
    (cc (head, tail), on.1, on.2, on.3)

pub answers_one_way : AnswersOneWay
answers_one_way form total v w left r s cell q reached out = (λ spelled. not_both refl reached out spelled, λ next other again no_other. one_refusal refl reached out again no_other)
