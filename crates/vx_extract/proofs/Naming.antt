-- The adaptation parameter sets that the slices of a subpicture name, as they are marked one by one.
use Rattle.std.proofs.Common.{◌≡◌, ◌≢◌, ℕ, ◌+◌, ◌/◌, ◌%◌, ◌<◌, ◌≤◌, inl, inr, Bool, true, false, cond, List, [], ◌∷◌, ◌++◌, length, take, map, get_or, refl, sym, ap, subst, ◌∙◌, arith}
use Rattle.std.specs.Prelude.{◌==◌, ◌&&◌, ◌||◌, nat_lt, filter, flat_map, replicate, slice_get, set, Option, Some, None, option_map, is_none}
use Rattle.std.specs.List.{list_any}
use Rattle.std.proofs.Math.Bool.{or_assoc, or-true, or-false}
use Rattle.std.proofs.lemmas.Bool.{cases_Bool, and_parts, ltb-true, lt-ltb, eqb-true, eq-eqb, ne_eqb}
use Rattle.std.proofs.lemmas.Grind.{flat_map-append}
use Rattle.std.proofs.lemmas.List.{map-append, append-nil, take_all, get_or-set_same, get_or-set_other, get_or-replicate, length-set}
use Rattle.std.proofs.lemmas.List.Elements.{filter_more}
use Rattle.std.proofs.lemmas.List.Folds.{list_any-append}
use Rattle.std.proofs.lemmas.List.FromFn.{get_or-map-range_with_len}
use Rattle.std.proofs.lemmas.List.Sums.{fold-append}
use Rattle.std.proofs.lemmas.Option.{slice_get_within, get_or_from_slice_get}
use Rattle.vx_bits.specs.declared.list.Item.{Item}
use Rattle.vx_table.specs.Scope.{natural, is_set}
use Rattle.vx_table.specs.Loaded.{number}
use Rattle.vx_fields.specs.declared.alf.TheConstants as alf
use Rattle.vx_fields.specs.declared.ph.TheConstants as ph
use Rattle.vx_fields.specs.declared.pps.TheConstants as pps
use Rattle.vx_aps.specs.declared.aps.Aps.{Aps}
use Rattle.vx_aps.specs.declared.aps.TheConstants as aps
use Rattle.vx_sh.specs.declared.header.SliceHeader.{SliceHeader}
use Rattle.vx_pic.specs.Sets.{Slot, named, named_filters, names_of}
use Rattle.vx_pic.specs.Parts.{Parts, SlicePart, AreThere, aps_at, id_count, slot_of, aps_named_by}
use Rattle.vx_pic.specs.Written.{an_aps}
use Rattle.vx_extract.specs.Written.{same_type_and_id, aps_of_slot, all_slots, parts_in, named_in, is_named}
use Rattle.vx_extract.specs.inner.Needed.{slot_count, slot_at, NamesOf, needed_to, marked, all_marked, own_names, header_filters, header_names, parts_to, some_part, WalkedTo}

-- ---- marks, item by item

pub marked_behind : (flags : List Bool) (a b : List Slot) → all_marked flags (a ++ b) ≡ all_marked (all_marked flags a) b
unfolding all_marked
marked_behind flags a b = fold-append marked flags a b

-- what an item names
abbrev slot_in : ℕ → Item → Slot
slot_in kind item = record { kind = kind; id = natural item.value }

mapped : (kind : ℕ) (b : Bool) (item : Item) → map (slot_in kind) (cond b (item ∷ []) []) ≡ cond b (slot_in kind item ∷ []) []
mapped kind true item = refl
mapped kind false item = refl

named_more : (kind of : ℕ) (items : List Item) (i : ℕ) (item : Item) → slice_get items i ≡ Some item
    → named kind of (take (i + 1) items) ≡ named kind of (take i items) ++ cond (item.field == of) (slot_in kind item ∷ []) []
named_more kind of items i item at =
    let within = slice_get_within items i item at in
    let same = get_or_from_slice_get items i item item at in
    let is : Item → Bool = λ x. x.field == of in
    let found : filter is (take (i + 1) items) ≡ filter is (take i items) ++ cond (is item) (item ∷ []) []
    = filter_more is items i item within ∙ ap (λ (x : Item). filter is (take i items) ++ cond (is x) (x ∷ []) []) same in
    ap (map (slot_in kind)) found
    ∙ map-append (slot_in kind) (filter is (take i items)) (cond (is item) (item ∷ []) [])
    ∙ ap (λ xs. named kind of (take i items) ++ xs) (mapped kind (is item) item)

pub mark_on : (old flags new : List Bool) (kind of : ℕ) (items : List Item) (i : ℕ) (item : Item) → slice_get items i ≡ Some item → item.field ≡ of
    → flags ≡ all_marked old (named kind of (take i items)) → new ≡ marked flags (record { kind = kind; id = natural item.value })
    → new ≡ all_marked old (named kind of (take (i + 1) items))
unfolding all_marked
mark_on old flags new kind of items i item at is marks gains =
    let more : named kind of (take (i + 1) items) ≡ named kind of (take i items) ++ slot_in kind item ∷ []
    = named_more kind of items i item at ∙ ap (λ b. named kind of (take i items) ++ cond b (slot_in kind item ∷ []) []) (eq-eqb item.field of is) in
    gains ∙ ap (λ f. marked f (slot_in kind item)) marks
    ∙ sym (marked_behind old (named kind of (take i items)) (slot_in kind item ∷ []))
    ∙ sym (ap (all_marked old) more)

pub mark_off : (old flags : List Bool) (kind of : ℕ) (items : List Item) (i : ℕ) (item : Item) → slice_get items i ≡ Some item → item.field ≢ of
    → flags ≡ all_marked old (named kind of (take i items)) → flags ≡ all_marked old (named kind of (take (i + 1) items))
mark_off old flags kind of items i item at other marks =
    let same : named kind of (take (i + 1) items) ≡ named kind of (take i items)
    = named_more kind of items i item at ∙ ap (λ b. named kind of (take i items) ++ cond b (slot_in kind item ∷ []) []) (ne_eqb item.field of other)
    ∙ append-nil (named kind of (take i items)) in
    marks ∙ sym (ap (all_marked old) same)

pub none_marked : (flags : List Bool) → flags ≡ all_marked flags []
unfolding all_marked
none_marked flags = refl

pub four_marked : (old a b c d : List Bool) (items : List Item) → a ≡ all_marked old (named aps.ALF alf.alf_aps_id_luma items)
    → b ≡ all_marked a (named aps.ALF alf.alf_aps_id_chroma items) → c ≡ all_marked b (named aps.ALF alf.alf_cc_cb_aps_id items)
    → d ≡ all_marked c (named aps.ALF alf.alf_cc_cr_aps_id items) → d ≡ all_marked old (named_filters items)
four_marked old a b c d items first second third fourth =
    let luma = named aps.ALF alf.alf_aps_id_luma items in
    let chroma = named aps.ALF alf.alf_aps_id_chroma items in
    let cb = named aps.ALF alf.alf_cc_cb_aps_id items in
    let cr = named aps.ALF alf.alf_cc_cr_aps_id items in
    fourth ∙ ap (λ x. all_marked x cr) (third ∙ ap (λ x. all_marked x cb) (second ∙ ap (λ x. all_marked x chroma) first))
    ∙ sym (marked_behind (all_marked (all_marked old luma) chroma) cb cr)
    ∙ sym (marked_behind (all_marked old luma) chroma (cb ++ cr))
    ∙ sym (marked_behind old luma (chroma ++ (cb ++ cr)))

-- ---- what a slice and the picture header name

-- by pps_alf_info_in_ph_flag
pub own_none : (old : List Bool) (p items : List Item) → number p pps.pps_alf_info_in_ph_flag ≢ 0 → old ≡ all_marked old (own_names p items)
unfolding own_names all_marked
own_none old p items is = rw (ne_eqb (number p pps.pps_alf_info_in_ph_flag) 0 is) refl

pub own_filters : (old new : List Bool) (p items : List Item) → number p pps.pps_alf_info_in_ph_flag ≡ 0 → new ≡ all_marked old (named_filters items)
    → new ≡ all_marked old (own_names p items)
unfolding own_names
own_filters old new p items is marks = rw is marks

pub filters_none : (old : List Bool) (p items : List Item) → number p pps.pps_alf_info_in_ph_flag ≡ 0 → old ≡ all_marked old (header_filters p items)
unfolding header_filters all_marked
filters_none old p items is = rw is refl

pub filters_there : (old new : List Bool) (p items : List Item) → number p pps.pps_alf_info_in_ph_flag ≢ 0 → new ≡ all_marked old (named_filters items)
    → new ≡ all_marked old (header_filters p items)
unfolding header_filters
filters_there old new p items is marks = rw (ne_eqb (number p pps.pps_alf_info_in_ph_flag) 0 is) marks

pub header_marked : (old a b new : List Bool) (p items : List Item) → a ≡ all_marked old (header_filters p items)
    → b ≡ all_marked a (named aps.LMCS ph.ph_lmcs_aps_id items) → new ≡ all_marked b (named aps.SCALING ph.ph_scaling_list_aps_id items)
    → new ≡ all_marked old (header_names p items)
unfolding header_names
header_marked old a b new p items first second third =
    let filters = header_filters p items in
    let lmcs = named aps.LMCS ph.ph_lmcs_aps_id items in
    let scaling = named aps.SCALING ph.ph_scaling_list_aps_id items in
    third ∙ ap (λ x. all_marked x scaling) (second ∙ ap (λ x. all_marked x lmcs) first)
    ∙ sym (marked_behind (all_marked old filters) lmcs scaling)
    ∙ sym (marked_behind old filters (lmcs ++ scaling))

one_slice : (p : Slot → Bool) (set header : List Item) (h : SliceHeader)
    → list_any p (aps_named_by set header h) ≡ (list_any p (own_names set h.fields) || list_any p (header_names set header))
unfolding own_names header_filters header_names names_of
one_slice p set header h =
    let rest = named aps.LMCS ph.ph_lmcs_aps_id header ++ named aps.SCALING ph.ph_scaling_list_aps_id header in
    elim (cases_Bool (is_set (number set pps.pps_alf_info_in_ph_flag))) [
      | inl is ↦ rw is refl
      | inr other ↦ rw other (list_any-append p (named_filters h.fields) rest)
    ]

-- ---- slice by slice

pub walk_first : (q : Parts) (target : ℕ) (none : List Bool) → WalkedTo q target none none false 0
walk_first q target none = record { marks = none_marked none; found = refl; there = tt }

parts_more : (q : Parts) (target i : ℕ) (s : SlicePart) → slice_get q.slices i ≡ Some s
    → parts_to q target (i + 1) ≡ parts_to q target i ++ cond (s.header.subpic == target) (s ∷ []) []
parts_more q target i s at =
    let is : SlicePart → Bool = λ x. x.header.subpic == target in
    filter_more is q.slices i s (slice_get_within q.slices i s at)
    ∙ ap (λ (x : SlicePart). filter is (take i q.slices) ++ cond (is x) (x ∷ []) []) (get_or_from_slice_get q.slices i s s at)

some_behind : (parts : List SlicePart) (s : SlicePart) → true ≡ some_part (parts ++ s ∷ [])
some_behind [] s = refl
some_behind (x ∷ parts) s = refl

there_behind : (sets : List (Option Aps)) (a b : List Slot) → AreThere sets a → AreThere sets b → AreThere sets (a ++ b)
there_behind sets [] b front back = back
there_behind sets (x ∷ a) b front back = (front.0, there_behind sets a b front.1 back)

one_behind : (f : SlicePart → List Slot) (parts : List SlicePart) (s : SlicePart) → flat_map f (parts ++ s ∷ []) ≡ flat_map f parts ++ f s
one_behind f parts s = flat_map-append f parts (s ∷ []) ∙ ap (λ x. flat_map f parts ++ x) (append-nil (f s))

pub walk_on : (q : Parts) (target : ℕ) (none flags new : List Bool) (found : Bool) (i : ℕ) (s : SlicePart) → slice_get q.slices i ≡ Some s → s.header.subpic ≡ target
    → WalkedTo q target none flags found i → new ≡ all_marked flags (own_names q.pps s.header.fields) → AreThere q.bodies (aps_named_by q.pps q.header.fields s.header)
    → WalkedTo q target none new true (i + 1)
walk_on q target none flags new found i s at is far gains there =
    let own : SlicePart → List Slot = λ x. own_names q.pps x.header.fields in
    let all : SlicePart → List Slot = λ x. aps_named_by q.pps q.header.fields x.header in
    let parts : List SlicePart = parts_to q target i in
    let more : parts_to q target (i + 1) ≡ parts ++ s ∷ []
    = parts_more q target i s at ∙ ap (λ b. parts ++ cond b (s ∷ []) []) (eq-eqb s.header.subpic target is) in
    record {
      marks = gains ∙ ap (λ f. all_marked f (own s)) far.marks ∙ sym (marked_behind none (flat_map own parts) (own s))
          ∙ sym (ap (all_marked none) (ap (flat_map own) more ∙ one_behind own parts s));
      found = some_behind parts s ∙ sym (ap some_part more);
      there = subst (λ l. AreThere q.bodies l) (sym (ap (flat_map all) more ∙ one_behind all parts s)) (there_behind q.bodies (flat_map all parts) (all s) far.there there);
    }

pub walk_off : (q : Parts) (target : ℕ) (none flags : List Bool) (found : Bool) (i : ℕ) (s : SlicePart) → slice_get q.slices i ≡ Some s → s.header.subpic ≢ target
    → WalkedTo q target none flags found i → WalkedTo q target none flags found (i + 1)
walk_off q target none flags found i s at other far =
    let own : SlicePart → List Slot = λ x. own_names q.pps x.header.fields in
    let all : SlicePart → List Slot = λ x. aps_named_by q.pps q.header.fields x.header in
    let parts : List SlicePart = parts_to q target i in
    let same : parts_to q target (i + 1) ≡ parts
    = parts_more q target i s at ∙ ap (λ b. parts ++ cond b (s ∷ []) []) (ne_eqb s.header.subpic target other) ∙ append-nil parts in
    record {
      marks = far.marks ∙ sym (ap (λ l. all_marked none (flat_map own l)) same);
      found = far.found ∙ sym (ap some_part same);
      there = subst (λ l. AreThere q.bodies (flat_map all l)) (sym same) far.there;
    }

-- ---- flags

-- a set with the type and id of a place
same_tells : (i : ℕ) (s : Slot) → same_type_and_id (slot_at i) s ≡ true → (i / id_count ≡ s.kind) × (i % id_count ≡ s.id)
same_tells i s same =
    let parts = and_parts (i / id_count == s.kind) (i % id_count == s.id) same in
    (eqb-true (i / id_count) s.kind parts.0, eqb-true (i % id_count) s.id parts.1)

marked_here : (flags : List Bool) (s : Slot) (i : ℕ) → length flags ≡ slot_count → i < slot_count → i / id_count ≡ s.kind → i % id_count ≡ s.id
    → get_or (marked flags s) i false ≡ true
unfolding marked
marked_here flags s i size within kind id =
    let type : nat_lt s.kind (aps.SCALING + 1) ≡ true = lt-ltb s.kind (aps.SCALING + 1) (omega arith) in
    let known : nat_lt s.id id_count ≡ true = lt-ltb s.id id_count (omega arith) in
    let place : slot_of s.kind s.id ≡ i = omega arith in
    rw (type, known, place) (get_or-set_same flags i true false (omega arith))

marked_elsewhere : (flags : List Bool) (s : Slot) (i : ℕ) → same_type_and_id (slot_at i) s ≡ false → get_or (marked flags s) i false ≡ get_or flags i false
unfolding marked
marked_elsewhere flags s i other =
    elim (cases_Bool (nat_lt s.kind (aps.SCALING + 1) && nat_lt s.id id_count)) [
      | inl is ↦
          let id : s.id < id_count = ltb-true s.id id_count (and_parts (nat_lt s.kind (aps.SCALING + 1)) (nat_lt s.id id_count) is).1 in
          let apart : i ≢ slot_of s.kind s.id = λ e.
          let kind : i / id_count ≡ s.kind = omega (arith, e, id) in
          let rest : i % id_count ≡ s.id = omega (arith, e, id) in
          let same : same_type_and_id (slot_at i) s ≡ true = rw (eq-eqb (i / id_count) s.kind kind, eq-eqb (i % id_count) s.id rest) refl in
          absurd (let no : true ≡ false = sym same ∙ other in cc) in
          rw is (get_or-set_other flags (slot_of s.kind s.id) i true false apart)
      | inr none ↦ rw none refl
    ]

one_marked : (flags : List Bool) (s : Slot) (i : ℕ) → length flags ≡ slot_count → i < slot_count
    → get_or (marked flags s) i false ≡ (get_or flags i false || same_type_and_id (slot_at i) s)
one_marked flags s i size within =
    elim (cases_Bool (same_type_and_id (slot_at i) s)) [
      | inl same ↦
          let told = same_tells i s same in
          marked_here flags s i size within told.0 told.1 ∙ sym (ap (λ b. get_or flags i false || b) same ∙ or-true (get_or flags i false))
      | inr other ↦ marked_elsewhere flags s i other ∙ sym (ap (λ b. get_or flags i false || b) other ∙ or-false (get_or flags i false))
    ]

keeps_size : (flags : List Bool) (s : Slot) → length (marked flags s) ≡ length flags
unfolding marked
keeps_size flags s =
    elim (cases_Bool (nat_lt s.kind (aps.SCALING + 1) && nat_lt s.id id_count)) [
      | inl is ↦ rw is (length-set flags (slot_of s.kind s.id) true)
      | inr none ↦ rw none refl
    ]

marked_at : (flags : List Bool) (names : List Slot) (i : ℕ) → length flags ≡ slot_count → i < slot_count
    → get_or (all_marked flags names) i false ≡ (get_or flags i false || list_any (same_type_and_id (slot_at i)) names)
unfolding all_marked
marked_at flags [] i size within = sym (or-false (get_or flags i false))
marked_at flags (s ∷ names) i size within =
    marked_at (marked flags s) names i (keeps_size flags s ∙ size) within
    ∙ ap (λ b. b || list_any (same_type_and_id (slot_at i)) names) (one_marked flags s i size within)
    ∙ or_assoc (get_or flags i false) (same_type_and_id (slot_at i) s) (list_any (same_type_and_id (slot_at i)) names)

-- ---- all that is named

shuffled : (own more header some : Bool) → ((own || more) || header) ≡ ((own || header) || (more || (some && header)))
shuffled true more header some = refl
shuffled false more true some = or-true more
shuffled false more false true = refl
shuffled false more false false = refl

names_alike : (p : Slot → Bool) (set header : List Item) (parts : List SlicePart)
    → (list_any p (flat_map (λ s. own_names set s.header.fields) parts) || (some_part parts && list_any p (header_names set header)))
    ≡ list_any p (flat_map (λ s. aps_named_by set header s.header) parts)
names_alike p set header [] = refl
names_alike p set header (s ∷ parts) =
    let own : Bool = list_any p (own_names set s.header.fields) in
    let more : Bool = list_any p (flat_map (λ s. own_names set s.header.fields) parts) in
    let head : Bool = list_any p (header_names set header) in
    ap (λ b. b || head) (list_any-append p (own_names set s.header.fields) (flat_map (λ s. own_names set s.header.fields) parts))
    ∙ shuffled own more head (some_part parts)
    ∙ ap (λ b. b || (more || (some_part parts && head))) (sym (one_slice p set header s.header))
    ∙ ap (λ b. list_any p (aps_named_by set header s.header) || b) (names_alike p set header parts)
    ∙ sym (list_any-append p (aps_named_by set header s.header) (flat_map (λ s. aps_named_by set header s.header) parts))

no_flag : (i : ℕ) → i < slot_count → get_or (replicate 24 false) i false ≡ false
no_flag i within = get_or-replicate 24 i false false within

all_parts : (q : Parts) (target i : ℕ) → length q.slices ≤ i → parts_to q target i ≡ parts_in q target
all_parts q target i past = ap (filter (λ s. s.header.subpic == target)) (take_all i q.slices past)

-- the slices name nothing where there are none
pub names_none : (q : Parts) (target : ℕ) (flags : List Bool) (some : Bool) (i : ℕ) → length q.slices ≤ i → some ≡ false → WalkedTo q target (replicate 24 false) flags some i
    → NamesOf q target flags
names_none q target flags some i past is far =
    let own : List SlicePart → List Slot = λ l. flat_map (λ s. own_names q.pps s.header.fields) l in
    let parts : List SlicePart = parts_to q target i in
    let all : parts ≡ parts_in q target = all_parts q target i past in
    record {
      at = λ k within.
          let p : Slot → Bool = same_type_and_id (slot_at k) in
          ap (λ f. get_or f k false) far.marks ∙ marked_at (replicate 24 false) (own parts) k refl within
          ∙ ap (λ b. b || list_any p (own parts)) (no_flag k within)
          ∙ sym (or-false (list_any p (own parts)))
          ∙ ap (λ b. list_any p (own parts) || (b && list_any p (header_names q.pps q.header.fields))) (sym is ∙ far.found)
          ∙ names_alike p q.pps q.header.fields parts
          ∙ ap (λ l. list_any p (flat_map (λ s. aps_named_by q.pps q.header.fields s.header) l)) all;
      there = subst (λ l. AreThere q.bodies (flat_map (λ s. aps_named_by q.pps q.header.fields s.header) l)) all far.there;
    }

pub names_some : (q : Parts) (target : ℕ) (flags new : List Bool) (some : Bool) (i : ℕ) → length q.slices ≤ i → some ≡ true → WalkedTo q target (replicate 24 false) flags some i
    → new ≡ all_marked flags (header_names q.pps q.header.fields) → NamesOf q target new
names_some q target flags new some i past is far gains =
    let own : List SlicePart → List Slot = λ l. flat_map (λ s. own_names q.pps s.header.fields) l in
    let parts : List SlicePart = parts_to q target i in
    let header : List Slot = header_names q.pps q.header.fields in
    let all : parts ≡ parts_in q target = all_parts q target i past in
    let whole : new ≡ all_marked (replicate 24 false) (own parts ++ header)
    = gains ∙ ap (λ f. all_marked f header) far.marks ∙ sym (marked_behind (replicate 24 false) (own parts) header) in
    record {
      at = λ k within.
          let p : Slot → Bool = same_type_and_id (slot_at k) in
          ap (λ f. get_or f k false) whole ∙ marked_at (replicate 24 false) (own parts ++ header) k refl within
          ∙ ap (λ b. b || list_any p (own parts ++ header)) (no_flag k within)
          ∙ list_any-append p (own parts) header
          ∙ ap (λ b. list_any p (own parts) || (b && list_any p header)) (sym is ∙ far.found)
          ∙ names_alike p q.pps q.header.fields parts
          ∙ ap (λ l. list_any p (flat_map (λ s. aps_named_by q.pps q.header.fields s.header) l)) all;
      there = subst (λ l. AreThere q.bodies (flat_map (λ s. aps_named_by q.pps q.header.fields s.header) l)) all far.there;
    }

-- ---- place by place

slot_is : (i : ℕ) (d : Slot) → i < slot_count → get_or all_slots i d ≡ slot_at i
slot_is i d within = get_or-map-range_with_len slot_at 0 24 i i d within (omega arith)

pub needed_more : (q : Parts) (target i : ℕ) → i < slot_count
    → needed_to q target (i + 1) ≡ needed_to q target i ++ flat_map (aps_of_slot q) (cond (is_named q target (slot_at i)) (slot_at i ∷ []) [])
unfolding needed_to
needed_more q target i within =
    let is : Slot → Bool = is_named q target in
    let found : filter is (take (i + 1) all_slots) ≡ filter is (take i all_slots) ++ cond (is (slot_at i)) (slot_at i ∷ []) []
    = filter_more is all_slots i (slot_at i) within
    ∙ ap (λ (x : Slot). filter is (take i all_slots) ++ cond (is x) (x ∷ []) []) (slot_is i (slot_at i) within) in
    ap (flat_map (aps_of_slot q)) found ∙ flat_map-append (aps_of_slot q) (filter is (take i all_slots)) (cond (is (slot_at i)) (slot_at i ∷ []) [])

-- a set that is named is there
named_there : (sets : List (Option Aps)) (kind id : ℕ) (names : List Slot) → AreThere sets names → list_any (same_type_and_id (record { kind = kind; id = id })) names ≡ true
    → is_none (aps_at sets kind id) ≡ false
named_there sets kind id [] there is = absurd (let no : false ≡ true = is in cc)
named_there sets kind id (s ∷ names) there is =
    elim (cases_Bool (same_type_and_id (record { kind = kind; id = id }) s)) [
      | inl same ↦
          let parts = and_parts (kind == s.kind) (id == s.id) same in
          rw (eqb-true kind s.kind parts.0, eqb-true id s.id parts.1) (there.0)
      | inr other ↦ named_there sets kind id names there.1 (rw other at is)
    ]

-- the sets that are needed up to a place, where the one at it isn't named, or is
pub needed_not : (q : Parts) (target i : ℕ) (flags : List Bool) → i < slot_count → false ≡ get_or flags i false → NamesOf q target flags
    → needed_to q target (i + 1) ≡ needed_to q target i ++ []
needed_not q target i flags within none names =
    let is : is_named q target (slot_at i) ≡ false = sym (names.at i within) ∙ sym none in
    needed_more q target i within ∙ ap (λ b. needed_to q target i ++ flat_map (aps_of_slot q) (cond b (slot_at i ∷ []) [])) is

body_set : (q : Parts) (s : Slot) (body : List ℕ) (found : Option Aps) → aps_at q.bodies s.kind s.id ≡ found → option_map (λ a. a.body) found ≡ Some body
    → aps_of_slot q s ≡ an_aps (record { kind = s.kind; id = s.id; body = body }) ∷ []
body_set q s body None at is = absurd (cc)
body_set q s body (Some a) at is = rw at (let same : a.body ≡ body = cc in rw same refl)

pub needed_one : (q : Parts) (target i kind id : ℕ) (flags : List Bool) (body : List ℕ) → i < slot_count → true ≡ get_or flags i false → kind ≡ i / 8 → id ≡ i % 8
    → Some body ≡ option_map (λ a. a.body) (aps_at q.bodies kind id) → NamesOf q target flags
    → needed_to q target (i + 1) ≡ needed_to q target i ++ an_aps (record { kind = kind; id = id; body = body }) ∷ []
needed_one q target i kind id flags body within some type number there names =
    let is : is_named q target (slot_at i) ≡ true = sym (names.at i within) ∙ sym some in
    let one : aps_of_slot q (slot_at i) ≡ an_aps (record { kind = i / 8; id = i % 8; body = body }) ∷ []
    = body_set q (slot_at i) body (aps_at q.bodies (i / 8) (i % 8)) refl (sym (rw (type, number) at there)) in
    let all : flat_map (aps_of_slot q) (slot_at i ∷ []) ≡ an_aps (record { kind = kind; id = id; body = body }) ∷ []
    = append-nil (aps_of_slot q (slot_at i)) ∙ one ∙ rw (type, number) refl in
    needed_more q target i within ∙ ap (λ b. needed_to q target i ++ flat_map (aps_of_slot q) (cond b (slot_at i ∷ []) [])) is
    ∙ ap (λ l. needed_to q target i ++ l) all

no_body : (found : Option Aps) → is_none found ≡ false → None ≡ option_map (λ a. a.body) found → ⊥
no_body None there none = absurd (let no : true ≡ false = there in cc)
no_body (Some a) there none = absurd (cc)

-- it can't be that one that is named has no body
pub needed_there : (q : Parts) (target i kind id : ℕ) (flags : List Bool) → i < slot_count → true ≡ get_or flags i false → kind ≡ i / 8 → id ≡ i % 8
    → None ≡ option_map (λ a. a.body) (aps_at q.bodies kind id) → NamesOf q target flags → ⊥
needed_there q target i kind id flags within some type number none names =
    let is : is_named q target (slot_at i) ≡ true = sym (names.at i within) ∙ sym some in
    no_body (aps_at q.bodies (i / 8) (i % 8)) (named_there q.bodies (i / 8) (i % 8) (named_in q target) names.there is) (rw (type, number) at none)
