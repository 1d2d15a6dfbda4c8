-- Fields in which sources differ.
use Rattle.std.proofs.Common.{◌≡◌, ℕ, ◌==◌, ◌<◌, cond, List, [], ◌∷◌, length, get_or, map, Option, Some, None, unwrap_or, refl, ap, sym, ◌∙◌, inl, inr, true, subst}
use Rattle.std.specs.Prelude.{◌⊎◌}
use Rattle.std.specs.Option.{option_or}
use Rattle.std.proofs.lemmas.Bool.{cases_Bool, eqb-true}
use Rattle.std.proofs.lemmas.Bool.Decides.{eqb_tells}
use Rattle.std.proofs.lemmas.Option.{none-some}
use Rattle.vx_bits.specs.declared.list.Item.{Item}
use Rattle.vx_fields.specs.declared.ph.TheConstants.{ph_chroma_residual_scale_flag}
use Rattle.vx_table.specs.Loaded.{number}
use Rattle.vx_table.specs.Scope.{is_set}
use Rattle.vx_pic.specs.Differences.{differing_field}
use Rattle.vx_pic.specs.Inputs as inputs
use Rattle.vx_pic.specs.Parts.{Parts}
use Rattle.vx_pic.specs.Sets.{same_items}
use Rattle.vx_pic.proofs.Comparing.{item_alike, none_differs, some_differs}
use Rattle.vx_pic.proofs.Sent.{items_are}
use Rattle.vx_frame.specs.Rounds.{UnlikeFirst, picture_at}
use Rattle.vx_frame.specs.Rules.{differing_in, differing_number, differing_profile, header_field, kept_header, kept_pps, kept_sps, picture_header, pps_field, profile_fields, profile_of, sps_field}
use Rattle.vx_frame.specs.inner.Found.{HaveSameItems, TellsAt}
use Rattle.vx_frame.proofs.Reading.{picture_read}

-- ---- numbers of some fields

pub number_none : (fields : List ℕ) (a b : List Item) → differing_number fields a b ≡ None → map (number a) fields ≡ map (number b) fields
number_none [] a b is = refl
number_none (f ∷ fields) a b is =
    elim (cases_Bool (number a f == number b f)) [
      | inl same ↦
          let more = sym (ap (λ t. cond t (differing_number fields a b) (Some f)) same) ∙ is in
          let front : number a f ≡ number b f = eqb-true (number a f) (number b f) same in
          rw (front, number_none fields a b more) refl
      | inr other ↦ absurd (none-some f (sym is ∙ ap (λ t. cond t (differing_number fields a b) (Some f)) other))
    ]

abbrev first_number : List ℕ → ℕ
first_number [] = 0
first_number (n ∷ ns) = n

abbrev rest : List ℕ → List ℕ
rest [] = []
rest (n ∷ ns) = ns

pub number_some : (fields : List ℕ) (a b : List Item) (of : ℕ) → differing_number fields a b ≡ Some of → map (number a) fields ≡ map (number b) fields → ⊥
number_some [] a b of is same = absurd (none-some of is)
number_some (f ∷ fields) a b of is same =
    let front : number a f ≡ number b f = ap first_number same in
    elim (eqb_tells (number a f) (number b f)) [
      | inl e ↦ number_some fields a b of (sym (ap (λ t. cond t (differing_number fields a b) (Some f)) e.0) ∙ is) (ap rest same)
      | inr e ↦ absurd (e.1 front)
    ]

-- ---- one of two differences

-- what a field tells of it
abbrev pub Tells : Type 0 → Option ℕ → Type 0
Tells X None = ¬ X
Tells X (Some field) = X

items_at : (items others : List Item) (answer : Option ℕ) → differing_field items others ≡ answer → Tells (items ≡ others → ⊥) answer
items_at items others None is = λ other. other (none_differs items others is)
items_at items others (Some field) is = some_differs items others field is

pub tells_items : (items others : List Item) → Tells (items ≡ others → ⊥) (differing_field items others)
tells_items items others = items_at items others (differing_field items others) refl

numbers_at : (fields : List ℕ) (a b : List Item) (answer : Option ℕ) → differing_number fields a b ≡ answer → Tells (map (number a) fields ≡ map (number b) fields → ⊥) answer
numbers_at fields a b None is = λ other. other (number_none fields a b is)
numbers_at fields a b (Some field) is = number_some fields a b field is

pub tells_numbers : (fields : List ℕ) (a b : List Item) → Tells (map (number a) fields ≡ map (number b) fields → ⊥) (differing_number fields a b)
tells_numbers fields a b = numbers_at fields a b (differing_number fields a b) refl

pub tells_one : (X : Type 0) (first : Option ℕ) (absent : ℕ) → Tells X first → TellsAt X (unwrap_or first absent) first
tells_one X None absent tells = tells
tells_one X (Some f) absent tells = (tells, refl)

pub tells_two : (X Y : Type 0) (first second : Option ℕ) (absent : ℕ) → Tells X first → Tells Y second
    → TellsAt (X ⊎ Y) (unwrap_or (option_or first second) absent) (option_or first second)
tells_two X Y None None absent left right = λ either. elim either [ inl x ↦ left x | inr y ↦ right y ]
tells_two X Y None (Some g) absent left right = (inr right, refl)
tells_two X Y (Some f) second absent left right = (inl left, refl)

-- ---- nothing differs from itself

field_self : (items : List Item) → differing_field items items ≡ None
field_self [] = refl
field_self (a ∷ items) = item_alike items items a a refl ∙ field_self items

number_self : (fields : List ℕ) (items : List Item) → differing_number fields items items ≡ None
number_self [] items = refl
number_self (f ∷ fields) items =
    elim (eqb_tells (number items f) (number items f)) [
      | inl e ↦ ap (λ t. cond t (differing_number fields items items) (Some f)) e.0 ∙ number_self fields items
      | inr e ↦ absurd (e.1 refl)
    ]

pub alike_sps : (s t : List Item) → same_items s t ≡ true
    → None ≡ option_or (differing_field (inputs.sps_fields s) (inputs.sps_fields t)) (differing_number profile_fields s t)
alike_sps s t same =
    subst (λ x. None ≡ option_or (differing_field (inputs.sps_fields s) (inputs.sps_fields x)) (differing_number profile_fields s x)) (items_are s t same)
    (sym (ap (λ o. option_or o (differing_number profile_fields s s)) (field_self (inputs.sps_fields s)) ∙ number_self profile_fields s))

pub alike_pps : (s t kept : List Item) → kept ≡ inputs.pps_fields t → same_items s t ≡ true → None ≡ differing_field (inputs.pps_fields s) kept
alike_pps s t kept is same =
    let e : kept ≡ inputs.pps_fields s = is ∙ ap inputs.pps_fields (sym (items_are s t same)) in
    subst (λ x. None ≡ differing_field (inputs.pps_fields s) x) (sym e) (sym (field_self (inputs.pps_fields s)))

-- ---- the rules

pub tells_sps : (round : List Parts) (k : ℕ) (answer : Option ℕ) → answer ≡ option_or (differing_in kept_sps round k) (differing_profile round k)
    → TellsAt (UnlikeFirst kept_sps round k ⊎ UnlikeFirst profile_of round k) (sps_field round k) answer
tells_sps round k answer is =
    rw is (tells_two (UnlikeFirst kept_sps round k) (UnlikeFirst profile_of round k) (differing_in kept_sps round k) (differing_profile round k) 0
    (tells_items (kept_sps (picture_at round k)) (kept_sps (picture_at round 0)))
    (tells_numbers profile_fields (picture_at round k).sps (picture_at round 0).sps))

pub tells_sps_read : (round : List Parts) (k : ℕ) (q p : Parts) (s t : List Item) (answer : Option ℕ) → k < length round → 0 < length round
    → q ≡ get_or round k q → p ≡ get_or round 0 p → s ≡ q.sps → t ≡ p.sps
    → answer ≡ option_or (differing_field (inputs.sps_fields s) (inputs.sps_fields t)) (differing_number profile_fields s t)
    → TellsAt (UnlikeFirst kept_sps round k ⊎ UnlikeFirst profile_of round k) (sps_field round k) answer
tells_sps_read round k q p s t answer short some q_is p_is s_is t_is is =
    let here : s ≡ (picture_at round k).sps = s_is ∙ ap (λ x. x.sps) (picture_read round k q short q_is) in
    let there : t ≡ (picture_at round 0).sps = t_is ∙ ap (λ x. x.sps) (picture_read round 0 p some p_is) in
    tells_sps round k answer
    (is ∙ (ap (λ x. option_or (differing_field (inputs.sps_fields x) (inputs.sps_fields t)) (differing_number profile_fields x t)) here
    ∙ ap (λ x. option_or (differing_field (inputs.sps_fields (picture_at round k).sps) (inputs.sps_fields x)) (differing_number profile_fields (picture_at round k).sps x)) there))

pub tells_pps : (round : List Parts) (k : ℕ) (answer : Option ℕ) → answer ≡ differing_in kept_pps round k
    → TellsAt (UnlikeFirst kept_pps round k) (pps_field round k) answer
tells_pps round k answer is =
    rw is (tells_one (UnlikeFirst kept_pps round k) (differing_in kept_pps round k) 0 (tells_items (kept_pps (picture_at round k)) (kept_pps (picture_at round 0))))

-- ---- headers

pub header_read : (round : List Parts) (k : ℕ) (q : Parts) (first : List Item) (answer : Option ℕ) → k < length round → q ≡ get_or round k q
    → first ≡ kept_header (picture_at round 0) → answer ≡ differing_field (kept_header q) first → answer ≡ differing_in kept_header round k
header_read round k q first answer short q_is first_is is =
    is ∙ (ap (λ x. differing_field (kept_header x) first) (picture_read round k q short q_is) ∙ ap (λ items. differing_field (kept_header (picture_at round k)) items) first_is)

-- headers with the same items break no rule
pub headers_alike : (round : List Parts) → HaveSameItems (length round) round → (k : ℕ) → k < length round → ¬ (picture_header round).breaks k
headers_alike round same k short (inl other) = other (ap inputs.header_fields (same k short))
headers_alike round same k short (inr (has, (j, lowest, other))) =
    other (ap (λ items. is_set (number items ph_chroma_residual_scale_flag)) (same k short ∙ sym (same j lowest.in_range)))

pub header_differs : (round : List Parts) (k field : ℕ) → differing_in kept_header round k ≡ Some field
    → UnlikeFirst kept_header round k × (field ≡ header_field round k)
header_differs round k field is =
    (some_differs (kept_header (picture_at round k)) (kept_header (picture_at round 0)) field is, sym (ap (λ o. unwrap_or o 613) is))

pub header_alike : (round : List Parts) (k : ℕ) → differing_in kept_header round k ≡ None → ¬ UnlikeFirst kept_header round k
header_alike round k is = λ other. other (none_differs (kept_header (picture_at round k)) (kept_header (picture_at round 0)) is)

-- ---- the same fields

alike_at : (items others : List Item) (answer : Option ℕ) → differing_field items others ≡ answer → ¬ (items ≡ others → ⊥) → items ≡ others
alike_at items others None is none = none_differs items others is
alike_at items others (Some field) is none = absurd (none (some_differs items others field is))

-- items that don't differ are the same
pub kept_alike : (items others : List Item) → ¬ (items ≡ others → ⊥) → items ≡ others
kept_alike items others none = alike_at items others (differing_field items others) refl none
