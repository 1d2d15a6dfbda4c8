-- Picture headers are read under the rewritten sets as under the source's.
use Rattle.std.proofs.Common.{◌≡◌, ℕ, Bool, true, false, IsTrue, List, [], ◌∷◌, ◌++◌, Result, Ok, Err, refl, sym, subst}
use Rattle.std.proofs.lemmas.Bool.{both_ways}
use Rattle.vx_bits.specs.declared.list.Item.{Item}
use Rattle.vx_bits.specs.declared.refusal.Refusal.{Refusal}
use Rattle.vx_bits.specs.declared.refusal.ReadError.{ReadError}
use Rattle.vx_bits.specs.Place.{Place}
use Rattle.vx_fields.specs.declared.ph.TheConstants.{ph_rbsp_trailing_bits}
use Rattle.vx_table.specs.laws.Again.{AllShown, shows_row}
use Rattle.vx_table.specs.Claims.{behind_field, behind_rows, behind_table, depends, hides_row, knows_range, knows_width, table_depends}
use Rattle.vx_table.specs.Depends.{Agree, Alike, Inside, at_ends, both, has, hidden_left, hidden_right}
use Rattle.vx_table.specs.Forms.{Form, form_of, has_value}
use Rattle.vx_table.specs.Reading.{Reads}
use Rattle.vx_table.specs.Scope.{fresh}
use Rattle.vx_table.proofs.Again.{answers_again, tables_show}
use Rattle.vx_table.proofs.Dependence.{alike_less, alike_table, alike_then, inside_with_all, table_grows}
use Rattle.vx_table.proofs.EachField.{each_then}
use Rattle.vx_rpl.specs.declared.entry.RplTable.{RplTable}
use Rattle.vx_ph.specs.declared.tables.TheConstants.{TRAILING}
use Rattle.vx_ph.specs.Depends.{all_of_sets, of_header}
use Rattle.vx_ph.specs.Header.{header_form}
use Rattle.vx_ph.specs.InForce.{in_force, structures}
use Rattle.vx_ph.specs.Picture.{unit_form}
use Rattle.vx_ph.proofs.Carrying.{all_depend}
use Rattle.vx_ph.proofs.Passing.{header_read_again, shows_all}
use Rattle.vx_pps.proofs.Cutting.{each_weaker}
use Rattle.vx_pic.specs.Parts.{Parts}
use Rattle.vx_pic.specs.Rules.{Readers}
use Rattle.vx_pic.specs.H266.{AnswersAt, AreOfH266, form_in, header_place}
use Rattle.vx_pic.specs.H266Laws.{HaveOneAnswer}
use Rattle.vx_pic.specs.laws.AsRead.{AnswersAsRead}
use Rattle.vx_pic.proofs.AsRead.{read_at, spelled_at}
use Rattle.vx_extract.specs.Again.{AgreeForHeaders}

-- ---- a PH unit

-- all that a header has, and the trailing
abbrev of_headers : List ℕ
of_headers = all_of_sets ++ of_header

abbrev of_units : List ℕ
of_units = of_headers ++ ph_rbsp_trailing_bits ∷ []

wider : {shown more known : List ℕ} {f g : Form (List ℕ)} → Inside shown more → Alike shown known f g → AllShown shown f → AllShown shown g → Alike more known f g
wider inside (at_ends agree) all others = at_ends agree
wider inside (both {cell} is goes) all others = both (inside.has_too cell.field is) (λ v. wider inside (goes v) (all.1 v) (others.1 v))
wider inside (hidden_left is goes) all others = absurd (both_ways _ is all.0)
wider inside (hidden_right is goes) all others = absurd (both_ways _ is others.0)

header_inside_unit : Inside of_headers of_units
header_inside_unit = inside_with_all of_headers (ph_rbsp_trailing_bits ∷ [])

known_inside_unit : Inside all_of_sets of_units
known_inside_unit = record { has_too = λ n is. header_inside_unit.has_too n ((inside_with_all all_of_sets of_header).has_too n is) }

trailing_alike : (s t : List ℕ) → Agree all_of_sets s t → Alike of_units all_of_sets (form_of TRAILING s) (form_of TRAILING t)
unfolding fresh has_value knows_width knows_range hides_row behind_field depends behind_rows table_depends behind_table
trailing_alike s t agree = alike_less (table_grows of_units all_of_sets TRAILING) (alike_table of_units all_of_sets TRAILING s t known_inside_unit refl agree)

unit_alike : (table : RplTable) (s t : List ℕ) → Agree all_of_sets s t → Alike of_units all_of_sets (unit_form table s) (unit_form table t)
unfolding unit_form
unit_alike table s t agree = alike_then (wider header_inside_unit ((all_depend table).alike s t agree) ((shows_all table).at s) ((shows_all table).at t)) trailing_alike

unit_shown : (table : RplTable) (s : List ℕ) → AllShown of_units (unit_form table s)
unfolding unit_form fresh shows_row
unit_shown table s =
    each_then (λ cell. IsTrue (has of_units cell.field)) (header_form table s) (form_of TRAILING)
    (each_weaker (λ cell. IsTrue (has of_headers cell.field)) (λ cell. IsTrue (has of_units cell.field)) (header_form table s) (λ cell is. header_inside_unit.has_too cell.field is) ((shows_all table).at s))
    (λ t. (tables_show of_units TRAILING refl).at t)

unit_read_again : (table : RplTable) (s t : List ℕ) (old new : Place) (items after : List Item) (result : Result (Unit {0}) ReadError) → Agree all_of_sets s t → Reads (unit_form table s) old items result new after
    → Reads (unit_form table t) old items result new after
unit_read_again table s t old new items after result agree reads =
    answers_again of_units all_of_sets (unit_form table s) (unit_form table t) old new items after result (unit_alike table s t agree) (unit_shown table s) (unit_shown table t) reads

-- ---- readers

answers_move : (inside : Bool) (table : RplTable) (s t : List ℕ) (place : Place) → Agree all_of_sets s t → (x : Result (List Item) Refusal) → AnswersAsRead (form_in inside table s) place x → AnswersAsRead (form_in inside table t) place x
answers_move true table s t place agree (Ok items) (new, reads) = (new, header_read_again table s t place new [] items (Ok tt) agree reads)
answers_move true table s t place agree (Err r) (new, items, reads) = (new, items, header_read_again table s t place new [] items _ agree reads)
answers_move false table s t place agree (Ok items) (new, reads) = (new, unit_read_again table s t place new [] items (Ok tt) agree reads)
answers_move false table s t place agree (Err r) (new, items, reads) = (new, items, unit_read_again table s t place new [] items _ agree reads)

pub header_read : HaveOneAnswer → (R : Readers) → AreOfH266 R → (q : Parts) (s p : List Item) → AgreeForHeaders q s p → (inside : Bool) (rbsp : List ℕ) → R.header inside s p rbsp ≡ R.header inside q.sps q.pps rbsp
header_read unique R are q s p agree inside rbsp =
    let table = structures q.sps in
    let place = header_place inside rbsp in
    let answer = R.header inside q.sps q.pps rbsp in
    let old = read_at (form_in inside table (in_force q.sps q.pps)) place answer (are.header inside q.sps q.pps rbsp) in
    let moved = spelled_at (form_in inside table (in_force s p)) place answer (answers_move inside table (in_force q.sps q.pps) (in_force s p) place agree.sets answer old) in
    unique.header inside s p rbsp (R.header inside s p rbsp) (R.header inside q.sps q.pps rbsp) (are.header inside s p rbsp)
    (subst (λ t. AnswersAt (form_in inside t (in_force s p)) (header_place inside rbsp) (R.header inside q.sps q.pps rbsp)) (sym agree.same_structures) moved)
