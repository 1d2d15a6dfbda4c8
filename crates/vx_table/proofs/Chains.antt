-- How what is known goes along parts: tables, steps on the scope, parts one behind another.
use Rattle.std.proofs.Common.{◌≡◌, inl, inr, ℕ, true, false, cond, not, ◌==◌, List, [], ◌∷◌, ◌++◌, refl}
use Rattle.std.proofs.lemmas.Bool.{cases_Bool, and_parts}
use Rattle.vx_table.specs.declared.rows.Term.TheVariants.{Number}
use Rattle.vx_table.specs.declared.rows.Formula.TheVariants as formulas
use Rattle.vx_table.specs.declared.rows.Presence.{Presence}
use Rattle.vx_table.specs.declared.rows.Presence.TheVariants.{When}
use Rattle.vx_table.specs.Scope.{value}
use Rattle.vx_table.specs.Forms.{Form, done, present, form_of}
use Rattle.vx_table.specs.Parts.{Section, sections_form}
use Rattle.vx_table.specs.Depends.{at_ends, DependsOnlyOn, Carries}
use Rattle.vx_table.specs.Claims.{hides, comes_always, table_depends, section_depends, behind_section, sections_chain, behind_sections, sections_depend_only_on}
use Rattle.vx_table.specs.laws.Chains.{TablesCarry, SectionsCarry, SetsCarry, StepsCarry, CarriesTogether, CarriesPresent, ChainsDepend}
use Rattle.vx_table.proofs.Agreeing.{inside_itself, inside_on, inside_grown, grows}
use Rattle.vx_table.proofs.Dependence.{alike_less, alike_then, alike_present, alike_block, alike_table, left_table, table_grows, table_inside, inside_block, block_grows, agree_grown, inside_with_all}

pub table_carries : TablesCarry
table_carries shown before rows test = record {
  alike = λ inside s t agree. alike_table shown before rows s t inside test agree;
  inside = λ inside. table_inside rows inside;
  grows = table_grows shown before rows;
}

pub sets_carry : SetsCarry
sets_carry shown before n v = record {
  alike = λ inside s t agree. at_ends (agree_grown shown before n v agree);
  inside = λ inside. inside_grown n inside;
  grows = grows shown before n;
}

pub steps_carry : StepsCarry
steps_carry shown before step keeps = record {
  alike = λ inside s t agree. at_ends (keeps s t agree);
  inside = λ inside. inside;
  grows = inside_itself before;
}

pub carries_together : CarriesTogether
carries_together shown before mid after form next first second = record {
  alike = λ inside s t agree. alike_then (first.alike inside s t agree) (λ u w same. second.alike (first.inside inside) u w same);
  inside = λ inside. second.inside (first.inside inside);
  grows = inside_on first.grows second.grows;
}

pub carries_present : CarriesPresent
carries_present shown before after presence form knows carries = record {
  alike = λ inside s t agree. alike_present presence form s t knows
      (λ u w same. alike_less (inside_on (block_grows shown before presence) carries.grows) (carries.alike (inside_block presence inside) u w same)) agree;
  inside = λ inside. inside;
  grows = inside_itself before;
}

pub chains_depend : ChainsDepend
chains_depend given shown after form carries = record {
  alike = λ s t agree. alike_less carries.grows (carries.alike (inside_with_all given shown) s t agree);
}

-- ---- tables one after another

-- one that is always there is there
pub there_always : (presence : Presence) (block : List ℕ → Form (List ℕ)) (s : List ℕ) → comes_always presence ≡ true → present presence block s ≡ block s
unfolding comes_always present value
there_always (When (formulas.Plain (Number n))) block s is = elim (n == 0) as (λ b. not b ≡ true → cond b (done s) (block s) ≡ block s) [ true ↦ λ h. absurd (cc) | false ↦ λ h. refl ] is
there_always presence block s is = absurd (cc)

section_carries : (shown before : List ℕ) (section : Section) → section_depends shown before section ≡ true → Carries shown before (behind_section shown before section) (present section.presence (form_of section.rows))
section_carries shown before section test = elim (cases_Bool (comes_always section.presence)) [
  | inl always ↦ rw always record {
    alike = λ inside s t agree. rw (there_always section.presence (form_of section.rows) s always, there_always section.presence (form_of section.rows) t always)
        (alike_table shown before section.rows s t inside (rw always at test) agree);
    inside = λ inside. table_inside section.rows inside;
    grows = table_grows shown before section.rows;
  }
  | inr not_always ↦ rw not_always record {
    alike = λ inside s t agree. alike_block shown before section.presence (form_of section.rows) (hides shown section.rows) (λ there. table_depends shown there section.rows) s t inside (rw not_always at test)
        (λ hide u. left_table shown section.rows u hide)
        (λ there inside_there holds u w same. alike_less (table_grows shown there section.rows) (alike_table shown there section.rows u w inside_there holds same)) agree;
    inside = λ inside. inside;
    grows = inside_itself before;
  }
]

pub sections_carry : SectionsCarry
unfolding sections_form
sections_carry shown before [] test = record {
  alike = λ inside s t agree. at_ends agree;
  inside = λ inside. inside;
  grows = inside_itself before;
}
sections_carry shown before (section ∷ more) test =
    let parts = and_parts (section_depends shown before section) (sections_chain shown (behind_section shown before section) more) test in
    carries_together shown before (behind_section shown before section) (behind_sections shown (behind_section shown before section) more) (present section.presence (form_of section.rows)) (sections_form more)
    (section_carries shown before section parts.0) (sections_carry shown (behind_section shown before section) more parts.1)

-- What the test of a structure says.
pub structure_depends_only_on : (given shown : List ℕ) (sections : List Section) → sections_depend_only_on given shown sections ≡ true → DependsOnlyOn given shown (sections_form sections)
structure_depends_only_on given shown sections test =
    chains_depend given shown (behind_sections (given ++ shown) given sections) (sections_form sections) (sections_carry (given ++ shown) given sections test)
