-- Pictures that have the sets that are named alike have the same bodies there.
use Rattle.std.proofs.Common.{◌≡◌, ℕ, ◌==◌, Bool, true, false, cond, pos, List, [], ◌∷◌, ◌++◌, map, Option, refl, ap, sym, subst, ◌∙◌, inl, inr}
use Rattle.std.specs.Prelude.{filter, option_map, option_to_list}
use Rattle.std.specs.List.{AllByRecursion}
use Rattle.std.proofs.lemmas.Bool.{cases_Bool, true≢false}
use Rattle.std.proofs.lemmas.Bool.Decides.{eqb_tells}
use Rattle.vx_bits.specs.declared.list.Item.{Item}
use Rattle.vx_fields.specs.declared.alf.TheConstants as alf
use Rattle.vx_table.specs.Depends.{has}
use Rattle.vx_table.specs.Scope.{natural}
use Rattle.vx_aps.specs.declared.aps.Aps.{Aps}
use Rattle.vx_aps.specs.declared.aps.TheConstants as aps
use Rattle.vx_ph.specs.Filter.{filter_of, set_ids, with_ids}
use Rattle.vx_pic.specs.Inputs.{alf_of, bodies_of, body_of, named_body}
use Rattle.vx_pic.specs.Parts.{Parts, aps_at}
use Rattle.vx_pic.specs.Sets.{Slot, named, named_filters}
use Rattle.vx_frame.specs.Bodies.{bodies_in}
use Rattle.vx_segments.specs.Alike.{HaveAlike}

-- ---- slots

pub front : (P : Slot → Type 0) (xs ys : List Slot) → AllByRecursion P (xs ++ ys) → AllByRecursion P xs
front P [] ys all = tt
front P (x ∷ xs) ys all = (all.0, front P xs ys all.1)

pub back : (P : Slot → Type 0) (xs ys : List Slot) → AllByRecursion P (xs ++ ys) → AllByRecursion P ys
back P [] ys all = all
back P (x ∷ xs) ys all = back P xs ys all.1

abbrev slot_of : ℕ → Item → Slot
slot_of kind x = record { kind = kind; id = natural x.value }

-- what a field names of items with one more before them
module _ (P : Slot → Type 0) (kind of : ℕ) (x : Item) (items : List Item) where
  abbrev Of : Bool → Type 0
  Of b = AllByRecursion P (map (λ (y : Item). slot_of kind y) (cond b (x ∷ filter (λ (y : Item). y.field == of) items) (filter (λ (y : Item). y.field == of) items)))

  named_here : (x.field == of) ≡ true → AllByRecursion P (named kind of (x ∷ items)) → P (slot_of kind x)
  named_here on all = let whole : Of true = subst Of on all in whole.0

  named_rest : AllByRecursion P (named kind of (x ∷ items)) → AllByRecursion P (named kind of items)
  named_rest all = elim (cases_Bool (x.field == of)) [
    | inl on ↦ let whole : Of true = subst Of on all in whole.1
    | inr off ↦ let whole : Of false = subst Of off all in whole
  ]

-- ---- bodies

module _ (p q : Parts) where
  abbrev SameAt : Slot → Type 0
  SameAt slot = aps_at p.bodies slot.kind slot.id ≡ aps_at q.bodies slot.kind slot.id

  body_same : (kind id : ℕ) → SameAt (record { kind = kind; id = id }) → body_of p kind id ≡ body_of q kind id
  body_same kind id same = ap (option_map (λ (a : Aps). a.body)) same

  bodies_same : (slots : List Slot) → HaveAlike p q slots → bodies_of p slots ≡ bodies_of q slots
  bodies_same [] same = refl
  bodies_same (slot ∷ slots) same =
      ap (λ o. option_to_list o ++ bodies_of p slots) (body_same slot.kind slot.id same.0)
      ∙ ap (λ l. option_to_list (body_of q slot.kind slot.id) ++ l) (bodies_same slots same.1)

  pub named_same : (kind of : ℕ) (items : List Item) → HaveAlike p q (named kind of items) → named_body p kind of items ≡ named_body q kind of items
  named_same kind of [] same = refl
  named_same kind of (x ∷ items) same = elim (cases_Bool (x.field == of)) [
    | inl on ↦ rw on (body_same kind (natural x.value) (named_here SameAt kind of x items on same))
    | inr off ↦ rw off (named_same kind of items (named_rest SameAt kind of x items same))
  ]

  pub filters_same : (items : List Item) → HaveAlike p q (named_filters items) → bodies_in (alf_of p items) ≡ bodies_in (alf_of q items)
  filters_same items same =
      let rest = back SameAt (named aps.ALF alf.alf_aps_id_luma items) _ same in
      let last = back SameAt (named aps.ALF alf.alf_aps_id_chroma items) _ rest in
      let luma = bodies_same (named aps.ALF alf.alf_aps_id_luma items) (front SameAt _ _ same) in
      let chroma = named_same aps.ALF alf.alf_aps_id_chroma items (front SameAt _ _ rest) in
      let cb = named_same aps.ALF alf.alf_cc_cb_aps_id items (front SameAt _ _ last) in
      let cr = named_same aps.ALF alf.alf_cc_cr_aps_id items (back SameAt (named aps.ALF alf.alf_cc_cb_aps_id items) _ last) in
      four luma chroma cb cr
    where
      four : {xs ys : List (List ℕ)} {a b c d e f : Option (List ℕ)} → xs ≡ ys → a ≡ b → c ≡ d → e ≡ f
          → xs ++ (option_to_list a ++ (option_to_list c ++ option_to_list e)) ≡ ys ++ (option_to_list b ++ (option_to_list d ++ option_to_list f))
      four {xs} {ys} {a} {b} {c} {d} {e} {f} first second third last =
          ap (λ l. l ++ (option_to_list a ++ (option_to_list c ++ option_to_list e))) first
          ∙ (ap (λ o. ys ++ (option_to_list o ++ (option_to_list c ++ option_to_list e))) second
          ∙ (ap (λ o. ys ++ (option_to_list b ++ (option_to_list o ++ option_to_list e))) third
          ∙ ap (λ o. ys ++ (option_to_list b ++ (option_to_list d ++ option_to_list o))) last))

-- ---- ids

-- a field that names a set is one of four
four_fields : (n : ℕ) → has set_ids n ≡ true → ((P : ℕ → Type 0) → P 683 → P 686 → P 688 → P 690 → P n)
four_fields n is P a b c d = elim (eqb_tells 683 n) [
  | inl e ↦ subst P e.1 a
  | inr x ↦ elim (eqb_tells 686 n) [
    | inl e ↦ subst P e.1 b
    | inr y ↦ elim (eqb_tells 688 n) [
      | inl e ↦ subst P e.1 c
      | inr z ↦ elim (eqb_tells 690 n) [
        | inl e ↦ subst P e.1 d
        | inr w ↦ absurd (true≢false (sym is ∙ rw (x.0, y.0, z.0, w.0) refl))
      ]
    ]
  ]
]

itself : (n : ℕ) → (n == n) ≡ true
itself n = elim (eqb_tells n n) [ inl same ↦ same.0 | inr other ↦ absurd (other.1 refl) ]

-- with ids that tell the same of the sets that are named
module _ (p q : Parts) (f g : ℕ → ℕ) (told : (id : ℕ) → body_of p aps.ALF id ≡ body_of q aps.ALF id → f id ≡ g id) where
  -- what is known of the four fields of some items
  record FourSame (items : List Item) : Type 0 where
    luma : HaveAlike p q (named aps.ALF 683 items)
    chroma : HaveAlike p q (named aps.ALF 686 items)
    cb : HaveAlike p q (named aps.ALF 688 items)
    cr : HaveAlike p q (named aps.ALF 690 items)

  fewer : (x : Item) (items : List Item) → FourSame (x ∷ items) → FourSame items
  fewer x items all = record {
    luma = named_rest (SameAt p q) aps.ALF 683 x items all.luma;
    chroma = named_rest (SameAt p q) aps.ALF 686 x items all.chroma;
    cb = named_rest (SameAt p q) aps.ALF 688 x items all.cb;
    cr = named_rest (SameAt p q) aps.ALF 690 x items all.cr;
  }

  one_same : (x : Item) (items : List Item) → FourSame (x ∷ items) → has set_ids x.field ≡ true → f (natural x.value) ≡ g (natural x.value)
  one_same x items all is =
      let at = λ (of : ℕ) (same : HaveAlike p q (named aps.ALF of (x ∷ items))) (on : (x.field == of) ≡ true). told (natural x.value) (body_same p q aps.ALF (natural x.value) (named_here (SameAt p q) aps.ALF of x items on same)) in
      four_fields x.field is (λ n. (x.field == n) ≡ true → f (natural x.value) ≡ g (natural x.value)) (at 683 all.luma) (at 686 all.chroma) (at 688 all.cb) (at 690 all.cr) (itself x.field)

  ids_of_four : (items : List Item) → FourSame items → with_ids f (filter_of items) ≡ with_ids g (filter_of items)
  ids_of_four [] all = refl
  ids_of_four (x ∷ items) all =
      let rest = ids_of_four items (fewer x items all) in
      elim (cases_Bool (has alf.ALL x.field)) [
        | inr hidden ↦ rw hidden rest
        | inl shown ↦ elim (cases_Bool (has set_ids x.field)) [
          | inr plain ↦ rw (shown, plain) (ap (λ l. x ∷ l) rest)
          | inl known ↦ rw (shown, known)
              (ap (λ n. record { field = x.field; value = pos n } ∷ with_ids f (filter_of items)) (one_same x items all known)
              ∙ ap (λ l. record { field = x.field; value = pos (g (natural x.value)) } ∷ l) rest)
        ]
      ]

  pub ids_same : (items : List Item) → HaveAlike p q (named_filters items) → with_ids f (filter_of items) ≡ with_ids g (filter_of items)
  ids_same items same =
      let rest = back (SameAt p q) (named aps.ALF alf.alf_aps_id_luma items) _ same in
      let last = back (SameAt p q) (named aps.ALF alf.alf_aps_id_chroma items) _ rest in
      ids_of_four items (record {
        luma = front (SameAt p q) _ _ same;
        chroma = front (SameAt p q) _ _ rest;
        cb = front (SameAt p q) _ _ last;
        cr = back (SameAt p q) (named aps.ALF alf.alf_cc_cb_aps_id items) _ last;
      })
