-- How a structure of tables is rewritten, group by group, and how what stands in place of a group goes through it.
use Rattle.std.proofs.Common.{◌≡◌, inl, inr, ℕ, ℤ, true, List, [], ◌∷◌, ◌++◌, length, slice_index, ap, sym, subst, ◌∙◌}
use Rattle.std.proofs.Math.Path.{fun_ext}
use Rattle.std.proofs.lemmas.Bool.{cases_eq, false≢true}
use Rattle.vx_bits.specs.declared.list.Item.{Item}
use Rattle.vx_table.specs.Scope.{fresh}
use Rattle.vx_table.specs.Parts.{Section, sections_form}
use Rattle.vx_table.specs.Values.{Follows, Parted}
use Rattle.vx_table.specs.EachField.{sections_pass}
use Rattle.vx_table.specs.Depends.{Inside, Agree}
use Rattle.vx_table.specs.Claims.{sections_chain, behind_sections, sections_depend_only_on, sections_hide}
use Rattle.vx_table.specs.Named.{named_by_all}
use Rattle.vx_table.specs.laws.Again.{shows_row}
use Rattle.vx_table.specs.Rewrites.{Takes, Rewrites}
use Rattle.vx_table.proofs.Agreeing.{inside_itself, others_too}
use Rattle.vx_table.proofs.Chains.{sections_carry, structure_depends_only_on}
use Rattle.vx_table.proofs.Again.{sections_show}
use Rattle.vx_table.proofs.Joined.{parted}
use Rattle.vx_table.proofs.Rewrites.{sections_leave, sections_together, copied_rewrites, replaced_rewrites, rewrites_together, takes_again, takes_together}

-- ---- groups

-- a structure cut in two
pub cut : (first more : List Section) (s : List ℕ) {values : List ℤ} {end : List ℕ} → Follows (sections_form (first ++ more) s) values end
    → Parted (sections_form first s) (sections_form more) values end
cut first more s {values} {end} follows = parted (sections_form first s) (sections_form more) (subst (λ f. Follows f values end) (sections_together first more s) follows)

-- a group whose fields are all taken over
pub copied_group : (names none : List ℕ) (sections : List Section) {s : List ℕ} {values : List ℤ} {end : List ℕ} → sections_chain names names sections ≡ true
    → sections_pass (shows_row names) sections ≡ true → Follows (sections_form sections s) values end → Rewrites names none (sections_form sections) s values end []
copied_group names none sections {s} {values} {end} chain shows follows =
    copied_rewrites names none names (behind_sections names names sections) (sections_form sections) s values end (inside_itself names) (sections_carry names names sections chain)
    (sections_show names sections shows) follows

-- one whose fields are all replaced
pub replaced_group : (names none : List ℕ) (sections : List Section) {s : List ℕ} {values : List ℤ} {end : List ℕ} {here : List Item} → sections_hide names sections ≡ true
    → Follows (sections_form sections s) values end → ((t : List ℕ) → Agree names s t → Agree none fresh t → Takes (sections_form sections t) here)
    → Rewrites names none (sections_form sections) s values end here
replaced_group names none sections {s} {values} {end} {here} hide follows takes = replaced_rewrites names none (sections_form sections) s values end here (sections_leave names sections hide) follows takes

-- one group behind another, before which some names have no number that the first leaves alone
pub groups_rewrite : (names none later : List ℕ) (first more : List Section) {s : List ℕ} {values : List ℤ} {end : List ℕ} {here others : List Item} → Inside later none
    → sections_hide later first ≡ true
    → (parts : Parted (sections_form first s) (sections_form more) values end) → Rewrites names none (sections_form first) s parts.front parts.mid here
    → Rewrites names later (sections_form more) parts.mid parts.others end others → Rewrites names none (sections_form (first ++ more)) s values end (here ++ others)
groups_rewrite names none later first more {s} {values} {end} {here} {others} inside hide parts before behind =
    subst (λ form. Rewrites names none form s values end (here ++ others)) (fun_ext (λ t. sym (sections_together first more t)))
    (rewrites_together names none later (sections_form first) (sections_form more) s values end here others parts inside (sections_leave later first hide) before behind)

-- ---- scopes that agree

-- two scopes give each of these names the same number
abbrev pub AgreeOn : List ℕ → List ℕ → List ℕ → Type 0
AgreeOn [] s t = Unit {0}
AgreeOn (n ∷ more) s t = (slice_index s n ≡ slice_index t n) × AgreeOn more s t

pub inside_nothing : (names : List ℕ) → Inside [] names
inside_nothing names = record { has_too = λ n h. absurd (false≢true h) }

pub agree_nothing : (s t : List ℕ) → length s ≡ length t → Agree [] s t
agree_nothing s t size = record { size = size; same = λ n h. absurd (false≢true h) }

agree_more : {names s t : List ℕ} (n : ℕ) → Agree names s t → slice_index s n ≡ slice_index t n → Agree (n ∷ names) s t
agree_more {names} {s} {t} n agree same = record {
  size = agree.size;
  same = λ m h. elim (cases_eq m n) [
    | inl is ↦ ap (λ x. slice_index s x) is ∙ same ∙ ap (λ x. slice_index t x) (sym is)
    | inr is_not ↦ agree.same m (others_too names n m is_not h)
  ];
}

pub agree_given : (given : List ℕ) {s t : List ℕ} → length s ≡ length t → AgreeOn given s t → Agree given s t
agree_given [] {s} {t} size same = agree_nothing s t size
agree_given (n ∷ more) size same = agree_more n (agree_given more size same.1) same.0

-- ---- what goes through a group

-- What goes through at one scope goes through at each that agrees with it on the numbers that a group reads.
pub takes_at : (given : List ℕ) (sections : List Section) (s t : List ℕ) {items : List Item} → sections_depend_only_on given (named_by_all sections) sections ≡ true
    → sections_pass (shows_row (given ++ named_by_all sections)) sections ≡ true → Agree given s t → Takes (sections_form sections s) items
    → Takes (sections_form sections t) items
takes_at given sections s t {items} depends shows agree takes =
    let shown : List ℕ = given ++ named_by_all sections in
    let alike = (structure_depends_only_on given (named_by_all sections) sections depends).alike s t agree in
    let all = sections_show shown sections shows in
    takes_again shown given (sections_form sections s) (sections_form sections t) items alike (all.at s) (all.at t) takes

-- one group behind another
pub groups_take : (first more : List Section) (s : List ℕ) {here others : List Item} → (before : Takes (sections_form first s) here) → Takes (sections_form more before.end) others
    → Takes (sections_form (first ++ more) s) (here ++ others)
groups_take first more s {here} {others} before rest =
    subst (λ f. Takes f (here ++ others)) (sym (sections_together first more s)) (takes_together (sections_form first s) (sections_form more) here others before rest)

-- ---- one group before the rest

-- The rest of a structure can be rewritten with these others, at each scope at which it ends so, where some names have no number
-- before it.
abbrev pub Onward : List ℕ → List ℕ → List Section → List ℕ → List Item → Type 0
Onward names none rest last others = (s : List ℕ) (values : List ℤ) → Follows (sections_form rest s) values last → Rewrites names none (sections_form rest) s values last others

pub copied_first : (names none : List ℕ) (group rest : List Section) {last : List ℕ} {others : List Item} → sections_chain names names group ≡ true
    → sections_pass (shows_row names) group ≡ true → sections_hide none group ≡ true → Onward names none rest last others → Onward names none (group ++ rest) last others
copied_first names none group rest chain shows hide more s values follows =
    let parts = cut group rest s follows in
    groups_rewrite names none none group rest (inside_itself none) hide parts (copied_group names none group chain shows parts.first) (more parts.mid parts.others parts.second)

pub replaced_first : (names none later : List ℕ) (group rest : List Section) {last : List ℕ} {here others : List Item} → Inside later none → sections_hide names group ≡ true
    → sections_hide later group ≡ true
    → ((s t : List ℕ) (values : List ℤ) → Follows (sections_form (group ++ rest) s) values last → Agree names s t → Agree none fresh t → Takes (sections_form group t) here)
    → Onward names later rest last others → Onward names none (group ++ rest) last (here ++ others)
replaced_first names none later group rest inside replaced hide takes more s values follows =
    let parts = cut group rest s follows in
    groups_rewrite names none later group rest inside hide parts (replaced_group names none group replaced parts.first (λ t agree empty. takes s t values follows agree empty))
    (more parts.mid parts.others parts.second)
