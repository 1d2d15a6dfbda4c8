-- What tests over the rows of a picture header say of each of its fields.
use Rattle.std.proofs.Common.{◌++◌, ◌≡◌, ℕ, Bool, true, List, refl}
use Rattle.vx_table.specs.declared.rows.Formula.{Formula}
use Rattle.vx_table.specs.declared.rows.Term.TheVariants.{Latest}
use Rattle.vx_table.specs.declared.rows.Formula.TheVariants.{Plain}
use Rattle.vx_table.specs.declared.rows.Presence.TheVariants.{When}
use Rattle.vx_table.specs.declared.rows.Cell.{Cell}
use Rattle.vx_table.specs.declared.rows.Row.{Row}
use Rattle.vx_table.specs.declared.rows.Row.TheVariants.{Field}
use Rattle.vx_table.specs.Scope.{fresh}
use Rattle.vx_table.specs.Forms.{◌>>=◌, has_value, cell_at}
use Rattle.vx_table.specs.Parts.{sections_form}
use Rattle.vx_table.specs.EachField.{EachField, sections_pass}
use Rattle.vx_table.specs.Kept.{stands_for_field}
use Rattle.vx_table.specs.Shown.{star_tells}
use Rattle.vx_table.specs.laws.Again.{shows_row}
use Rattle.vx_table.proofs.EachField.{each_then, each_present, each_of_sections}
use Rattle.vx_table.proofs.Starred.{starred}
use Rattle.vx_table.proofs.Again.{answers_again}
use Rattle.vx_fields.specs.declared.pps.TheConstants.{pps_rpl_info_in_ph_flag}
use Rattle.vx_fields.specs.declared.names.ph.TheConstants.{HAS_WEIGHTS}
use Rattle.vx_rpl.specs.declared.entry.RplTable.{RplTable}
use Rattle.vx_rpl.specs.Lists.{lists_form, weights, weights_form}
use Rattle.vx_rpl.specs.Depends.{lists_pass}
use Rattle.vx_rpl.proofs.Passing.{lists_each}
use Rattle.vx_ph.specs.Header.{ph_before_lists, lists_if_present, middle, weights_if_present, back, ph_before_weights, header_form}
use Rattle.vx_ph.specs.Depends.{of_header, kept_ph_fields, kept_of_sets, all_of_sets, KeepsKept, ShowsAll, HeaderReadAgain}
use Rattle.vx_ph.proofs.Carrying.{all_depend}

-- a test of all rows
pub record Pass (test : Row → Bool) : Type 0 where
  pub front : sections_pass test ph_before_lists ≡ true
  pub lists : lists_pass test ≡ true
  pub middle : sections_pass test middle ≡ true
  pub weights : sections_pass test weights ≡ true
  pub back : sections_pass test back ≡ true

pub header_each : (P : Cell ℕ → Type 0) (test : Row → Bool) (sound : (c : Cell Formula) (s : List ℕ) → test (Field c) ≡ true → P (cell_at s c)) (table : RplTable) (s : List ℕ)
    → Pass test → EachField P (header_form table s)
unfolding header_form ph_before_weights
header_each P test sound table s pass =
    let lists : (t : List ℕ) → EachField P (lists_if_present table t) = λ t.
    each_present P (When (Plain (Latest pps_rpl_info_in_ph_flag))) (lists_form table) t (λ u. lists_each P test sound table u pass.lists) in
    let weighted : (t : List ℕ) → EachField P (weights_if_present t) = λ t.
    each_present P (When (Plain (Latest HAS_WEIGHTS))) weights_form t (λ u. each_of_sections P test sound weights u pass.weights) in
    each_then P (ph_before_weights table s >>= weights_if_present) (sections_form back)
    (each_then P (ph_before_weights table s) weights_if_present
    (each_then P (sections_form ph_before_lists s >>= lists_if_present table) (sections_form middle)
    (each_then P (sections_form ph_before_lists s) (lists_if_present table) (each_of_sections P test sound ph_before_lists s pass.front) lists)
    (λ t. each_of_sections P test sound middle t pass.middle))
    weighted)
    (λ t. each_of_sections P test sound back t pass.back)

pub shows_all : ShowsAll
unfolding fresh shows_row
shows_all table = record {
  at = λ s. header_each _ (shows_row (all_of_sets ++ of_header)) (λ c t h. h) table s
      (record { front = refl; lists = refl; middle = refl; weights = refl; back = refl });
}

pub keeps_kept : KeepsKept
unfolding fresh has_value star_tells stands_for_field
keeps_kept table = record {
  keeps = λ s. header_each _ (star_tells (kept_of_sets ++ kept_ph_fields)) (λ c t h. starred (kept_of_sets ++ kept_ph_fields) c t h) table s
      (record { front = refl; lists = refl; middle = refl; weights = refl; back = refl });
}

pub header_read_again : HeaderReadAgain
header_read_again table s t old new items after result agree reads =
    answers_again (all_of_sets ++ of_header) all_of_sets (header_form table s) (header_form table t) old new items after result
    ((all_depend table).alike s t agree) ((shows_all table).at s) ((shows_all table).at t) reads
