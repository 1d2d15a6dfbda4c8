use Rattle.std.proofs.Common.{◌≡◌, ℕ, Bool, true, false, List, ◌∷◌, ◌++◌, map, append-nil, refl, sym, ap, ◌∙◌}
use Rattle.std.specs.Prelude.{◌||◌, option_map, option_to_list}
use Rattle.std.specs.List.{list_any}
use Rattle.std.proofs.lemmas.List.Folds.{list_any-append}
use Rattle.vx_pic.specs.Written.{eos_units}
use Rattle.vx_merge.specs.declared.output.RoundUnits.{RoundUnits}
use Rattle.vx_merge.specs.inner.Making.{is_long, slice_units, units_made}
use Rattle.vx_merge.proofs.limits.has_long_unit.Goals as goal

short_end : (after_eos : Bool) → list_any is_long (eos_units after_eos) ≡ false
short_end true = refl
short_end false = refl

-- where these are the answers for its parts
any_made : (m : RoundUnits) (sets sei header slices : Bool) → list_any is_long (map (λ u. u.items) m.sets.items) ≡ sets
    → list_any is_long (option_to_list (option_map (λ u. u.items) m.sei)) ≡ sei → is_long m.header.items ≡ header → list_any is_long (slice_units m) ≡ slices
    → list_any is_long (units_made m) ≡ (sets || (sei || (header || slices)))
any_made m sets sei header slices of_sets of_sei of_header of_slices =
    let own : List (List ℕ) = map (λ u. u.items) m.sets.items in
    let messages : List (List ℕ) = option_to_list (option_map (λ u. u.items) m.sei) in
    let rest = m.header.items ∷ slice_units m in
    list_any-append is_long (eos_units m.after_eos) (own ++ (messages ++ rest))
    ∙ (ap (λ b. b || list_any is_long (own ++ (messages ++ rest))) (short_end m.after_eos)
    ∙ (list_any-append is_long own (messages ++ rest)
    ∙ (ap (λ b. b || list_any is_long (messages ++ rest)) of_sets
    ∙ ap (λ b. sets || b) (list_any-append is_long messages rest
    ∙ (ap (λ b. b || list_any is_long rest) of_sei ∙ ap (λ b. sei || b) (ap (λ b. b || list_any is_long (slice_units m)) of_header ∙ ap (λ b. header || b) of_slices))))))

pub returns-then-has_long : goal.returns-then-has_long
returns-then-has_long c =
    let sets = sym (c.has_long.ensures ∙ ap (λ us. list_any is_long (map (λ u. u.items) us)) c.as_slice.ensures.value) ∙ c.if-has_long.true in
    sym (any_made c.args.units.now true _ _ _ sets refl refl refl)

pub returns-then-is_some_long : goal.returns-then-is_some_long
returns-then-is_some_long c =
    let sets = sym (c.has_long.ensures ∙ ap (λ us. list_any is_long (map (λ u. u.items) us)) c.as_slice.ensures.value) ∙ c.if-has_long.false in
    let sei = sym (c.is_some_long.ensures ∙ ap (λ us. list_any is_long (option_to_list us)) c.sei_unit.ensures) ∙ c.if-is_some_long.true in
    sym (any_made c.args.units.now false true _ _ sets sei refl refl)

pub returns-then-is_long : goal.returns-then-is_long
returns-then-is_long c =
    let sets = sym (c.has_long.ensures ∙ ap (λ us. list_any is_long (map (λ u. u.items) us)) c.as_slice.ensures.value) ∙ c.if-has_long.false in
    let sei = sym (c.is_some_long.ensures ∙ ap (λ us. list_any is_long (option_to_list us)) c.sei_unit.ensures) ∙ c.if-is_some_long.false in
    let header = sym (c.is_long.ensures ∙ ap is_long (append-nil _ ∙ c.as_slice-2.ensures.value)) ∙ c.if-is_long.true in
    sym (any_made c.args.units.now false false true _ sets sei header refl)

pub returns : goal.returns
returns c =
    let sets = sym (c.has_long.ensures ∙ ap (λ us. list_any is_long (map (λ u. u.items) us)) c.as_slice.ensures.value) ∙ c.if-has_long.false in
    let sei = sym (c.is_some_long.ensures ∙ ap (λ us. list_any is_long (option_to_list us)) c.sei_unit.ensures) ∙ c.if-is_some_long.false in
    let header = sym (c.is_long.ensures ∙ ap is_long (append-nil _ ∙ c.as_slice-2.ensures.value)) ∙ c.if-is_long.false in
    c.has_long_slice.ensures ∙ sym (any_made c.args.units.now false false false _ sets sei header refl)
