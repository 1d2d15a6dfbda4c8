-- Of the sets that a merged picture needs no two have one type and id.
use Rattle.std.proofs.Common.{◌≡◌, ℕ, zero, suc, ◌+◌, ◌<◌, ◌≤◌, ◌==◌, ◌&&◌, Bool, true, false, List, [], ◌∷◌, ◌++◌, length, map, slice_index, Option, None, refl, ap, sym, subst, ◌∙◌, inl, inr, arith}
use Rattle.std.specs.Prelude.{filter, flat_map}
use Rattle.std.specs.List.{AllByRecursion, range_with_len, zip}
use Rattle.std.proofs.lemmas.Bool.{cases_Bool, eqb-true, ne_eqb}
use Rattle.vx_bits.specs.declared.list.Item.{Item}
use Rattle.vx_aps.specs.declared.aps.TheConstants as aps
use Rattle.vx_layout.proofs.Parts.{Each-append}
use Rattle.vx_pic.specs.Parts.{Parts}
use Rattle.vx_pic.specs.Resident.{same_slot, sent_before}
use Rattle.vx_pic.specs.Written.{Plan, Set, a_pps, an_aps, an_sps}
use Rattle.vx_write.proofs.OwnSets.{HaveOwn, IsAmong, Others, has_set, own_units}
use Rattle.vx_frame.specs.declared.corner.Corner.{Corner}
use Rattle.vx_frame.specs.Bodies.{filters_in, has_lmcs, has_scaling, lmcs_body, scaling_body, alf_bodies}
use Rattle.vx_frame.specs.Shapes.{of_lowest}
use Rattle.vx_frame.specs.Counts.{alf_slots, lmcs_slots, scaling_slots}
use Rattle.vx_merge.specs.Needed.{by_ids, lmcs_bodies, sets_of_round, scaling_bodies, sets_with_id}
use Rattle.vx_merge.specs.Written.{IsMerged}
use Rattle.vx_merge.specs.inner.Sending.{AreApart}
use Rattle.vx_merge.proofs.Owning.{once_apart, own_ids, single_apart}
use Rattle.vx_again.specs.Rounds.{MergedSendsItsSets}

-- ---- lists of sets

own_append : (xs ys : List Set) → HaveOwn xs → HaveOwn ys → AllByRecursion (λ x. Others x ys) xs → HaveOwn (xs ++ ys)
own_append [] ys own more apart = more
own_append (x ∷ xs) ys own more apart = (Each-append (λ y. same_slot x y ≡ false) xs ys own.0 apart.0, own_append xs ys own.1 more apart.1)

all_weaker : (P Q : Set → Type 0) → ((x : Set) → P x → Q x) → (xs : List Set) → AllByRecursion P xs → AllByRecursion Q xs
all_weaker P Q weaker [] all = tt
all_weaker P Q weaker (x ∷ xs) all = (weaker x all.0, all_weaker P Q weaker xs all.1)

-- ---- sets of one type and of ids from one on

record IsFrom (kind low : ℕ) (x : Set) : Type 0 where
  id : ℕ
  body : List ℕ
  high : low ≤ id
  is : x ≡ an_aps (record { kind = kind; id = id; body = body })

abbrev at_id : ℕ → ℕ → List ℕ × ℕ → Set
at_id kind id p = an_aps (record { kind = kind; id = id; body = p.0 })

-- one of a type, and those of ids past its own
past : (kind id : ℕ) (body : List ℕ) (y : Set) → IsFrom kind (suc id) y
    → same_slot (an_aps (record { kind = kind; id = id; body = body })) y ≡ false
past kind id body y from =
    let high = from.high in
    let other : (id == from.id) ≡ false = ne_eqb id from.id (λ e. omega (arith, e, high)) in
    ap (same_slot (an_aps (record { kind = kind; id = id; body = body }))) from.is ∙ second (kind == kind) (id == from.id) other
  where
    second : (a b : Bool) → b ≡ false → (a && b) ≡ false
    second true b is = is
    second false b is = refl

-- and those of another type
other_kind : (kind other low : ℕ) (x y : Set) → (kind == other) ≡ false → IsFrom kind 0 x → IsFrom other low y → same_slot x y ≡ false
other_kind kind other low x y differ from of =
    ap (λ a. same_slot a y) from.is ∙ ap (same_slot (an_aps (record { kind = kind; id = from.id; body = from.body }))) of.is
    ∙ ap (λ b. b && (from.id == of.id)) differ

from_map : (kind id low : ℕ) (ps : List (List ℕ × ℕ)) → low ≤ id → AllByRecursion (IsFrom kind low) (map (at_id kind id) ps)
from_map kind id low [] high = tt
from_map kind id low (p ∷ ps) high = (record { id = id; body = p.0; high = high; is = refl }, from_map kind id low ps high)

others_map : (kind id : ℕ) (ps : List (List ℕ × ℕ)) (ys : List Set) → AllByRecursion (IsFrom kind (suc id)) ys
    → AllByRecursion (λ x. Others x ys) (map (at_id kind id) ps)
others_map kind id [] ys later = tt
others_map kind id (p ∷ ps) ys later = (all_weaker (IsFrom kind (suc id)) (λ y. same_slot (at_id kind id p) y ≡ false) (past kind id p.0) ys later, others_map kind id ps ys later)

-- ---- one set of an id at most

none_with : (bodies : List (List ℕ)) (ids : List ℕ) (id : ℕ) → ((k : ℕ) → k < length ids → slice_index ids k ≡ id → ⊥)
    → filter (λ (p : List ℕ × ℕ). p.1 == id) (zip bodies ids) ≡ []
none_with [] ids id none = refl
none_with (b ∷ bodies) [] id none = refl
none_with (b ∷ bodies) (i ∷ ids) id none =
    let first : (i == id) ≡ false = ne_eqb i id (none 0 (omega arith)) in
    rw first (none_with bodies ids id (λ k short. none (suc k) (omega (arith, short))))

own_one : (kind : ℕ) (bodies : List (List ℕ)) (ids : List ℕ) (id : ℕ) → AreApart ids → HaveOwn (sets_with_id kind bodies ids id)
own_one kind [] ids id apart = tt
own_one kind (b ∷ bodies) [] id apart = tt
own_one kind (b ∷ bodies) (i ∷ ids) id apart =
    let less : AreApart ids = λ j k before short. apart (suc j) (suc k) (omega (arith, before)) (omega (arith, short)) in
    elim (cases_Bool (i == id)) [
      | inl is ↦
          let here : i ≡ id = eqb-true i id is in
          let none = none_with bodies ids id (λ k short same. apart 0 (suc k) (omega arith) (omega (arith, short)) (here ∙ sym same)) in
          rw is (rw none (tt, tt))
      | inr other ↦ rw other (own_one kind bodies ids id less)
    ]

-- ---- all sets of a type

module _ (kind : ℕ) (bodies : List (List ℕ)) (ids : List ℕ) where
  from_all : (from n low : ℕ) → low ≤ from → AllByRecursion (IsFrom kind low) (flat_map (sets_with_id kind bodies ids) (range_with_len from n))
  from_all from zero low high = tt
  from_all from (suc n) low high =
      Each-append (IsFrom kind low) (sets_with_id kind bodies ids from) (flat_map (sets_with_id kind bodies ids) (range_with_len (from + 1) n))
      (from_map kind from low (filter (λ (p : List ℕ × ℕ). p.1 == from) (zip bodies ids)) high) (from_all (from + 1) n low (omega (arith, high)))

  own_all : AreApart ids → (from n : ℕ) → HaveOwn (flat_map (sets_with_id kind bodies ids) (range_with_len from n))
  own_all apart from zero = tt
  own_all apart from (suc n) =
      own_append (sets_with_id kind bodies ids from) (flat_map (sets_with_id kind bodies ids) (range_with_len (from + 1) n)) (own_one kind bodies ids from apart) (own_all apart (from + 1) n)
      (others_map kind from (filter (λ (p : List ℕ × ℕ). p.1 == from) (zip bodies ids)) (flat_map (sets_with_id kind bodies ids) (range_with_len (from + 1) n)) (from_all (from + 1) n (suc from) (omega arith)))

-- those of one type and of another
apart_kinds : (kind other : ℕ) (xs ys : List Set) → (kind == other) ≡ false → AllByRecursion (IsFrom kind 0) xs
    → AllByRecursion (IsFrom other 0) ys → AllByRecursion (λ x. Others x ys) xs
apart_kinds kind other [] ys differ of from = tt
apart_kinds kind other (x ∷ xs) ys differ of from =
    (all_weaker (IsFrom other 0) (λ y. same_slot x y ≡ false) (λ y is. other_kind kind other 0 x y differ of.0 is) ys from, apart_kinds kind other xs ys differ of.1 from)

-- an SPS or a PPS, and adaptation parameter sets
no_sps : (items : List Item) (kind : ℕ) (y : Set) → IsFrom kind 0 y → same_slot (an_sps items) y ≡ false
no_sps items kind y from = ap (same_slot (an_sps items)) from.is

no_pps : (items : List Item) (kind : ℕ) (y : Set) → IsFrom kind 0 y → same_slot (a_pps items) y ≡ false
no_pps items kind y from = ap (same_slot (a_pps items)) from.is

-- ---- a round

module _ (corners : List Corner) (level : Option ℕ) (round : List Parts) (done : List Plan) (p : Plan)
    (is : IsMerged corners level round done p) where
  abbrev t : ℕ
  t = p.kind.temporal_id

  abbrev of_alf : List Set
  of_alf = by_ids aps.ALF alf_slots (alf_bodies round) is.ids.alf

  abbrev of_lmcs : List Set
  of_lmcs = by_ids aps.LMCS lmcs_slots (lmcs_bodies round) is.ids.lmcs

  abbrev of_scaling : List Set
  of_scaling = by_ids aps.SCALING scaling_slots (scaling_bodies round) is.ids.scaling

  pub alf_apart : AreApart is.ids.alf
  alf_apart = own_ids aps.ALF alf_slots t (alf_bodies round) (sent_before done p) is.ids.alf is.taken.of_alf (once_apart (flat_map filters_in round))

  pub lmcs_apart : AreApart is.ids.lmcs
  lmcs_apart = own_ids aps.LMCS lmcs_slots t (lmcs_bodies round) (sent_before done p) is.ids.lmcs is.taken.of_lmcs (single_apart (of_lowest has_lmcs lmcs_body None round))

  pub scaling_apart : AreApart is.ids.scaling
  scaling_apart = own_ids aps.SCALING scaling_slots t (scaling_bodies round) (sent_before done p) is.ids.scaling is.taken.of_scaling (single_apart (of_lowest has_scaling scaling_body None round))

  alf_from : AllByRecursion (IsFrom aps.ALF 0) of_alf
  alf_from = from_all aps.ALF (alf_bodies round) is.ids.alf 0 alf_slots 0 (omega arith)

  lmcs_from : AllByRecursion (IsFrom aps.LMCS 0) of_lmcs
  lmcs_from = from_all aps.LMCS (lmcs_bodies round) is.ids.lmcs 0 lmcs_slots 0 (omega arith)

  scaling_from : AllByRecursion (IsFrom aps.SCALING 0) of_scaling
  scaling_from = from_all aps.SCALING (scaling_bodies round) is.ids.scaling 0 scaling_slots 0 (omega arith)

  -- what holds of those of each type holds of all
  of_all : (P : Set → Type 0) → AllByRecursion P of_alf → AllByRecursion P of_lmcs → AllByRecursion P of_scaling
      → AllByRecursion P (of_alf ++ (of_lmcs ++ of_scaling))
  of_all P a b c = Each-append P of_alf (of_lmcs ++ of_scaling) a (Each-append P of_lmcs of_scaling b c)

  own_aps : HaveOwn (of_alf ++ (of_lmcs ++ of_scaling))
  own_aps =
      own_append of_alf (of_lmcs ++ of_scaling) (own_all aps.ALF (alf_bodies round) is.ids.alf alf_apart 0 alf_slots)
      (own_append of_lmcs of_scaling (own_all aps.LMCS (lmcs_bodies round) is.ids.lmcs lmcs_apart 0 lmcs_slots) (own_all aps.SCALING (scaling_bodies round) is.ids.scaling scaling_apart 0 scaling_slots)
      (apart_kinds aps.LMCS aps.SCALING of_lmcs of_scaling refl lmcs_from scaling_from))
      (both of_alf of_lmcs of_scaling (apart_kinds aps.ALF aps.LMCS of_alf of_lmcs refl alf_from lmcs_from) (apart_kinds aps.ALF aps.SCALING of_alf of_scaling refl alf_from scaling_from))
    where
      both : (xs ys zs : List Set) → AllByRecursion (λ x. Others x ys) xs → AllByRecursion (λ x. Others x zs) xs
          → AllByRecursion (λ x. Others x (ys ++ zs)) xs
      both [] ys zs one two = tt
      both (x ∷ xs) ys zs one two = (Each-append (λ y. same_slot x y ≡ false) ys zs one.0 two.0, both xs ys zs one.1 two.1)

  own_sets : HaveOwn (sets_of_round round is.ids p.begun.sps p.begun.pps)
  own_sets = (
    (
      refl,
      of_all (λ y. same_slot (an_sps p.begun.sps) y ≡ false)
          (all_weaker (IsFrom aps.ALF 0) (λ y. same_slot (an_sps p.begun.sps) y ≡ false) (no_sps p.begun.sps aps.ALF) of_alf alf_from)
          (all_weaker (IsFrom aps.LMCS 0) (λ y. same_slot (an_sps p.begun.sps) y ≡ false) (no_sps p.begun.sps aps.LMCS) of_lmcs lmcs_from)
          (all_weaker (IsFrom aps.SCALING 0) (λ y. same_slot (an_sps p.begun.sps) y ≡ false) (no_sps p.begun.sps aps.SCALING) of_scaling scaling_from),
    ),
    (
      of_all (λ y. same_slot (a_pps p.begun.pps) y ≡ false)
          (all_weaker (IsFrom aps.ALF 0) (λ y. same_slot (a_pps p.begun.pps) y ≡ false) (no_pps p.begun.pps aps.ALF) of_alf alf_from)
          (all_weaker (IsFrom aps.LMCS 0) (λ y. same_slot (a_pps p.begun.pps) y ≡ false) (no_pps p.begun.pps aps.LMCS) of_lmcs lmcs_from)
          (all_weaker (IsFrom aps.SCALING 0) (λ y. same_slot (a_pps p.begun.pps) y ≡ false) (no_pps p.begun.pps aps.SCALING) of_scaling scaling_from),
      own_aps,
    ),
  )

pub sends_its_sets : MergedSendsItsSets
sends_its_sets corners level round done p is = record {
  sends = record {
    needed = is.needed;
    slots = own_units is.needed (subst HaveOwn (sym is.sets) (own_sets corners level round done p is));
    sent = is.sent;
  };
  same = refl;
  sps = has_set is.needed (an_sps p.begun.sps) (subst (λ xs. IsAmong xs (an_sps p.begun.sps)) (sym is.sets) (inl refl));
  pps = has_set is.needed (a_pps p.begun.pps) (subst (λ xs. IsAmong xs (a_pps p.begun.pps)) (sym is.sets) (inr (inl refl)));
}
