-- What an SPS says that doesn't describe its subpictures: it has none of the fields that describe them.
use Rattle.std.proofs.Common.{◌≡◌, ℕ, ℤ, ◌==◌, true, false, List, [], ◌∷◌, ◌++◌, slice_index, refl, ap, sym, subst, ◌∙◌}
use Rattle.std.specs.Prelude.{drop, take}
use Rattle.std.proofs.lemmas.Bool.{eq-eqb, eqb-true, not-false}
use Rattle.std.proofs.lemmas.List.Elements.{All-head, All-tail}
use Rattle.vx_bits.specs.declared.list.Item.{Item}
use Rattle.vx_fields.specs.declared.sps.TheConstants as fields
use Rattle.vx_table.specs.declared.rows.Row.{Row}
use Rattle.vx_table.specs.Claims.{hides_counter, hides_row}
use Rattle.vx_table.specs.Depends.{Agree}
use Rattle.vx_table.specs.EachField.{sections_pass}
use Rattle.vx_table.specs.Forms.{done, present}
use Rattle.vx_table.specs.Loaded.{names_none, number}
use Rattle.vx_table.specs.Parts.{Section, section_form, sections_form}
use Rattle.vx_table.specs.Scope.{fresh, is_set, loaded, value}
use Rattle.vx_table.specs.Spelling.{items_along}
use Rattle.vx_table.specs.Values.{Follows, to_end}
use Rattle.vx_table.proofs.Groups.{cut}
use Rattle.vx_table.proofs.Joined.{items_joined, parted}
use Rattle.vx_table.proofs.Loading.{sections_load}
use Rattle.vx_table.proofs.With.{with_field}
use Rattle.vx_table.proofs.Rewrites.{leaves_agree, sections_leave, sections_together}
use Rattle.vx_sps.specs.declared.tables.TheConstants.{SUBPICTURES, SUBPIC_IDS}
use Rattle.vx_sps.specs.Structure as structure
use Rattle.vx_sps.specs.Structure.{sps_form, sps_sections}
use Rattle.vx_sps.specs.Set.{AreSpsItems}
use Rattle.vx_pic.proofs.Ids.{Lacks, lacks_both, other_row, sections_lack}

-- a list that lacks a field has no item of it
with_none : (of : ℕ) (items : List Item) → Lacks of items → with_field of items ≡ []
with_none of [] lacking = refl
with_none of (x ∷ items) lacking =
    let here : (x.field == of) ≡ false = All-head (λ (y : Item). (y.field == of) ≡ false) x items lacking in
    rw here (with_none of items (All-tail (λ (y : Item). (y.field == of) ≡ false) x items lacking))

abbrev described : ℕ
described = fields.sps_subpic_info_present_flag

at_end : {s : List ℕ} {w : List ℤ} {e : List ℕ} → Follows (done s) w e → (w ≡ []) × (s ≡ e)
at_end to_end = (refl, refl)

-- a table of subpictures that isn't there
skipped : (rows : List Row) (s : List ℕ) {w : List ℤ} {e : List ℕ} → slice_index s described ≡ 0 → Follows (section_form (structure.with_subpictures rows) s) w e
    → (items_along (section_form (structure.with_subpictures rows) s) w ≡ []) × (s ≡ e)
unfolding present value
skipped rows s {w} {e} none follows =
    let test : (slice_index s described == 0) ≡ true = eq-eqb (slice_index s described) 0 none in
    let ends : section_form (structure.with_subpictures rows) s ≡ done s = rw test refl in
    let behind = at_end (subst (λ f. Follows f w e) ends follows) in
    (ap (λ f. items_along f w) ends, behind.1)

-- the sections before, and behind them
abbrev before : List Section
before = structure.ids ++ (structure.start ++ (structure.profile ++ (structure.resampling ++ take 2 structure.picture)))

abbrev behind : List Section
behind = structure.counts ++ (structure.dpb ++ (structure.tools ++ (structure.timing ++ structure.end)))

abbrev places : List Section
places = take 1 (drop 3 structure.picture)

abbrev from_ids : List Section
from_ids = structure.with_subpictures SUBPIC_IDS ∷ behind

abbrev from_counts : List Section
from_counts = structure.with_subpictures SUBPICTURES ∷ (places ++ from_ids)

-- a field of the tables that aren't there alone
pub record IsSubpictures (of : ℕ) : Type 0 where
  pub front : sections_pass (other_row of) before ≡ true
  pub among : sections_pass (other_row of) places ≡ true
  pub back : sections_pass (other_row of) behind ≡ true

pub undescribed : (of : ℕ) (items : List Item) → AreSpsItems items → IsSubpictures of → is_set (number items described) ≡ false → with_field of items ≡ []
unfolding fresh sections_form hides_row hides_counter names_none
undescribed of items set only undescribed_is =
    let p = cut before from_counts fresh set.follows in
    let q = parted (section_form (structure.with_subpictures SUBPICTURES) p.mid) (sections_form (places ++ from_ids)) p.second in
    let r = cut places from_ids q.mid q.second in
    let t = parted (section_form (structure.with_subpictures SUBPIC_IDS) r.mid) (sections_form behind) r.second in
    let names : List ℕ = described ∷ [] in
    let here : slice_index p.mid described ≡ number items described =
    (leaves_agree names (sections_form from_counts) p.mid p.others set.end (sections_leave names from_counts refl) p.second).same described refl
    ∙ sym ((subst (λ xs. Agree names (loaded fresh xs) set.end) (sym set.all) ((sections_load names sps_sections refl).at fresh set.values set.end set.follows)).same described refl) in
    let none : slice_index p.mid described ≡ 0 = here ∙ unset (number items described) undescribed_is in
    let first = skipped SUBPICTURES p.mid none q.first in
    let later : slice_index r.mid described ≡ 0 =
    sym ((leaves_agree names (sections_form places) q.mid r.front r.mid (sections_leave names places refl) r.first).same described refl) ∙ ap (λ s. slice_index s described) (sym first.1) ∙ none in
    let second = skipped SUBPIC_IDS r.mid later t.first in
    let a : List Item = items_along (sections_form before fresh) p.front in
    let b : List Item = items_along (sections_form places q.mid) r.front in
    let c : List Item = items_along (sections_form behind t.mid) t.others in
    let rest_ids : items_along (sections_form from_ids r.mid) r.others ≡ c =
    ap (λ w. items_along (sections_form from_ids r.mid) w) t.all ∙ items_joined (sections_form behind) t.others t.first ∙ ap (λ xs. xs ++ c) second.0 in
    let rest_places : items_along (sections_form (places ++ from_ids) q.mid) q.others ≡ b ++ c =
    ap (λ w. items_along (sections_form (places ++ from_ids) q.mid) w) r.all ∙ ap (λ f. items_along f (r.front ++ r.others)) (sections_together places from_ids q.mid)
    ∙ items_joined (sections_form from_ids) r.others r.first ∙ ap (λ xs. b ++ xs) rest_ids in
    let rest : items_along (sections_form from_counts p.mid) p.others ≡ b ++ c =
    ap (λ w. items_along (sections_form from_counts p.mid) w) q.all ∙ items_joined (sections_form (places ++ from_ids)) q.others q.first ∙ ap (λ xs. xs ++ items_along (sections_form (places ++ from_ids) q.mid) q.others) first.0 ∙ rest_places in
    let all : items ≡ a ++ (b ++ c) =
    set.all ∙ ap (λ w. items_along sps_form w) p.all ∙ ap (λ f. items_along f (p.front ++ p.others)) (sections_together before from_counts fresh)
    ∙ items_joined (sections_form from_counts) p.others p.first ∙ ap (λ xs. a ++ xs) rest in
    with_none of items (subst (Lacks of) {x = a ++ (b ++ c)} (sym all) (lacks_both of a (b ++ c) (sections_lack of before fresh only.front p.first)
    (lacks_both of b c (sections_lack of places q.mid only.among r.first) (sections_lack of behind t.mid only.back t.second))))
  where
    unset : (n : ℕ) → is_set n ≡ false → n ≡ 0
    unset n is = eqb-true n 0 (not-false (n == 0) is)

-- so it counts, signals and has no ids
pub count_only : IsSubpictures fields.sps_num_subpics_minus1
unfolding other_row
count_only = record { front = refl; among = refl; back = refl }

pub length_only : IsSubpictures fields.sps_subpic_id_len_minus1
unfolding other_row
length_only = record { front = refl; among = refl; back = refl }

pub signal_only : IsSubpictures fields.sps_subpic_id_mapping_explicitly_signalled_flag
unfolding other_row
signal_only = record { front = refl; among = refl; back = refl }

pub ids_only : IsSubpictures fields.sps_subpic_id
unfolding other_row
ids_only = record { front = refl; among = refl; back = refl }
