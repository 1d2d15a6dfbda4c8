-- Units of sets, one set more at a time.
use Rattle.std.proofs.Common.{◌≡◌, ℕ, ◌<◌, Bool, true, false, not, cond, List, [], ◌∷◌, ◌++◌, map, filter, Option, Some, None, refl, sym, ap, subst, ◌∙◌}
use Rattle.std.specs.Prelude.{option_map}
use Rattle.std.specs.Option.{option_or}
use Rattle.std.specs.List.{AllByRecursion}
use Rattle.std.proofs.lemmas.List.{map-append, append-nil, append_assoc}
use Rattle.std.proofs.lemmas.List.Elements.{filter-append}
use Rattle.vx_pic.specs.Written.{Set, SetUnit}
use Rattle.vx_pic.specs.Resident as resident
use Rattle.vx_pic.specs.Resident.{last_of, serves, is_resident}
use Rattle.vx_sei.specs.declared.message.Message.{Message}
use Rattle.vx_write.specs.Units.{IsSetUnit, IsSeiUnit}
use Rattle.vx_write.specs.Sets.{unit_tid, CanBeWritten}
use Rattle.vx_write.specs.Slots.{Sent, held_serves, AnswerAlike, AreLastOf}
use Rattle.vx_write.specs.Sending.{unsent, AreSent, AreOthers}
use Rattle.vx_write.proofs.Held.{last_append, one_sent}
use Rattle.vx_write.proofs.Tids.{tid_is}
use Rattle.vx_write.proofs.Spelled.{has_unit}

-- ---- one set

-- none is of a set's type and id
of_others : (s : Set) (xs : List SetUnit) → AllByRecursion (λ x. resident.same_slot x.set s ≡ false) xs → last_of s xs ≡ None
of_others s [] others = refl
of_others s (x ∷ xs) others = rw (of_others s xs others.1, others.0) refl

one_more : (s : Set) (x : SetUnit) (xs : List SetUnit) (b : Bool) → resident.same_slot x.set s ≡ false
    → AllByRecursion (λ x. resident.same_slot x.set s ≡ false) xs → AllByRecursion (λ x. resident.same_slot x.set s ≡ false) (cond b (x ∷ xs) xs)
one_more s x xs true other others = (other, others)
one_more s x xs false other others = others

filtered : (test : SetUnit → Bool) (s : Set) (xs : List SetUnit) → AreOthers s (map (λ x. x.set) xs)
    → AllByRecursion (λ x. resident.same_slot x.set s ≡ false) (filter test xs)
filtered test s [] others = tt
filtered test s (x ∷ xs) others = one_more s x (filter test xs) (test x) others.0 (filtered test s xs others.1)

-- what serves as a set of another type or id was sent before
before_all : (t : ℕ) (before : List SetUnit) (sets : List Set) (slots : List Sent) (units : List (List ℕ)) (s : Set)
    → AreSent t before sets slots units → AreOthers s sets → held_serves t s slots ≡ serves t s (last_of s before)
before_all t before sets slots units s sent others =
    let apart : AreOthers s (map (λ x. x.set) sent.needed) = subst (AreOthers s) (sym sent.of) others in
    let gone : last_of s (unsent t before sent.needed) ≡ None = of_others s (unsent t before sent.needed) (filtered (λ x. not (is_resident t before x)) s sent.needed apart) in
    sent.held t s
    ∙ ap (serves t s) (last_append s before (unsent t before sent.needed) ∙ ap (λ o. option_or o (last_of s before)) gone)

unsent_more : (t : ℕ) (before needed : List SetUnit) (x : SetUnit) (b : Bool) → is_resident t before x ≡ b
    → unsent t before (needed ++ x ∷ []) ≡ unsent t before needed ++ cond (not b) (x ∷ []) []
unsent_more t before needed x b is =
    filter-append (λ x. not (is_resident t before x)) needed (x ∷ [])
    ∙ ap (λ r. unsent t before needed ++ cond (not r) (x ∷ []) []) is

sets_more : (needed : List SetUnit) (x : SetUnit) (sets : List Set) (s : Set) → map (λ x. x.set) needed ≡ sets → x.set ≡ s
    → map (λ x. x.set) (needed ++ x ∷ []) ≡ sets ++ s ∷ []
sets_more needed x sets s are is = map-append (λ x. x.set) needed (x ∷ []) ∙ rw (are, is) refl

spelled_more : (t : ℕ) (xs : List SetUnit) (x : SetUnit) → AllByRecursion (λ x. IsSetUnit t x.set x.unit) xs → IsSetUnit t x.set x.unit
    → AllByRecursion (λ x. IsSetUnit t x.set x.unit) (xs ++ x ∷ [])
spelled_more t [] x all one = (one, tt)
spelled_more t (y ∷ xs) x all one = (all.0, spelled_more t xs x all.1 one)

-- a set that is resident
pub kept_more : (t : ℕ) (before : List SetUnit) (sets : List Set) (slots : List Sent) (units : List (List ℕ)) (s : Set)
    → AreSent t before sets slots units → AreOthers s sets → held_serves t s slots ≡ true → CanBeWritten s → AreSent t before (sets ++ s ∷ []) slots units
kept_more t before sets slots units s sent others is can =
    let unit = has_unit t s can in
    let x : SetUnit = record { unit = unit.0; set = s } in
    let same : unsent t before (sent.needed ++ x ∷ []) ≡ unsent t before sent.needed =
    unsent_more t before sent.needed x true (sym (before_all t before sets slots units s sent others) ∙ is) ∙ append-nil (unsent t before sent.needed) in
    let P : List SetUnit → Type 0 = λ xs. (units ≡ map (λ x. x.unit) xs) × AreLastOf (before ++ xs) slots in
    let all : P (unsent t before (sent.needed ++ x ∷ [])) = subst P (sym same) (sent.made, sent.held) in
    record {
      needed = sent.needed ++ x ∷ [];
      of = sets_more sent.needed x sets s sent.of refl;
      made = all.0;
      spelled = spelled_more t sent.needed x sent.spelled unit.1;
      held = all.1;
    }

-- a set that isn't, and is sent
pub sent_more : (t : ℕ) (before : List SetUnit) (sets : List Set) (slots others_slots : List Sent) (units more : List (List ℕ)) (s : Set) (unit : List ℕ) (y : Sent) → t < 7
    → AreSent t before sets slots units → AreOthers s sets → held_serves t s slots ≡ false → IsSetUnit t s unit
    → y.set ≡ s → y.temporal_id ≡ unit_tid t s → AnswerAlike others_slots (y ∷ slots) → more ≡ units ++ unit ∷ []
    → AreSent t before (sets ++ s ∷ []) others_slots more
sent_more t before sets slots others_slots units more s unit y small sent others isn't spells set tid alike gained =
    let x : SetUnit = record { unit = unit; set = s } in
    let xs = unsent t before sent.needed in
    let same : unsent t before (sent.needed ++ x ∷ []) ≡ xs ++ x ∷ [] =
    unsent_more t before sent.needed x false (sym (before_all t before sets slots units s sent others) ∙ isn't) in
    let P : List SetUnit → Type 0 = λ xs. (more ≡ map (λ x. x.unit) xs) × AreLastOf (before ++ xs) others_slots in
    let units_are : more ≡ map (λ x. x.unit) (xs ++ x ∷ []) =
    gained ∙ ap (λ us. us ++ unit ∷ []) sent.made ∙ sym (map-append (λ x. x.unit) xs (x ∷ [])) in
    let last : AreLastOf ((before ++ xs) ++ x ∷ []) others_slots =
    one_sent (before ++ xs) slots others_slots x y sent.held set (tid ∙ tid_is t s unit small spells) alike in
    let Q : List SetUnit → Type 0 = λ history. AreLastOf history others_slots in
    let all : P (unsent t before (sent.needed ++ x ∷ [])) = subst P (sym same) (units_are, subst Q (append_assoc before xs (x ∷ [])) last) in
    record {
      needed = sent.needed ++ x ∷ [];
      of = sets_more sent.needed x sets s sent.of refl;
      made = all.0;
      spelled = spelled_more t sent.needed x sent.spelled spells;
      held = all.1;
    }

-- no set
pub none_more : (t : ℕ) (before : List SetUnit) (slots : List Sent) → AreLastOf before slots → AreSent t before [] slots []
none_more t before slots last =
    let Q : List SetUnit → Type 0 = λ history. AreLastOf history slots in
    record { needed = []; of = refl; made = refl; spelled = tt; held = subst Q (sym (append-nil before)) last }

-- others and others
pub append_others : (s : Set) (xs ys : List Set) → AreOthers s xs → AreOthers s ys → AreOthers s (xs ++ ys)
append_others s [] ys all others = others
append_others s (x ∷ xs) ys all others = (all.0, append_others s xs ys all.1 others)

-- a unit more
pub pushed : {V : Type 0} (f : V → List ℕ) (xs ys : List V) (x : V) → ys ≡ xs ++ x ∷ [] → map f ys ≡ map f xs ++ f x ∷ []
pushed f xs ys x is = ap (map f) is ∙ map-append f xs (x ∷ [])

-- the SEI unit, as its bytes
pub sei_again : {V : Type 0} (f : V → List ℕ) (t : ℕ) (ms : List Message) (o : Option V)
    → IsSeiUnit t ms (option_map (λ u. record { unit = f u; messages = ms }) o)
    → IsSeiUnit t ms (option_map (λ unit. record { unit = unit; messages = ms }) (option_map f o))
sei_again f t ms None is = is
sei_again f t ms (Some u) is = is
