-- The slices of a whole picture come subpicture by subpicture, those of each in the order of their addresses.
use Rattle.std.proofs.Common.{◌≡◌, ◌⊎◌, inl, inr, ℕ, suc, ◌+◌, ◌-◌, ◌<◌, ◌≤◌, ◌==◌, min, max, Bool, true, false, cond, List, [], ◌∷◌, length, map, slice_index, ℤ, refl, ap, sym, subst, ◌∙◌, arith}
use Rattle.std.specs.Prelude.{filter, unwrap_or, IfSome, Option, Some, None, Result, Ok}
use Rattle.std.specs.List.{All, AllByRecursion, range_with_len}
use Rattle.std.proofs.lemmas.Bool.{cases_Bool, cases_eq, cases_lt, eq-eqb, ne_eqb, lt-ltb, eqb-true}
use Rattle.std.proofs.lemmas.List.{length-map, take_all}
use Rattle.std.proofs.lemmas.List.Elements.{All-cons, All-nil, All-weaker}
use Rattle.std.proofs.lemmas.List.FromFn.{length-range_with_len}
use Rattle.vx_bits.specs.declared.list.Item.{Item}
use Rattle.vx_bits.specs.declared.refusal.Refusal.{Refusal}
use Rattle.vx_fields.specs.declared.names.sh.TheConstants.{SUBPIC}
use Rattle.vx_layout.specs.declared.numbers.Numbers.{Numbers}
use Rattle.vx_layout.specs.declared.rect.Rect.{Rect}
use Rattle.vx_layout.specs.Faults.{IsLayout, height, width}
use Rattle.vx_layout.specs.Layouts.{slices_in}
use Rattle.vx_layout.specs.Rects.{IsPart, in_order}
use Rattle.vx_layout.specs.Shapes.{HasCtu}
use Rattle.vx_table.specs.Forms.{Form}
use Rattle.vx_table.specs.Reading.{at_front}
use Rattle.vx_table.specs.Spelling.{Spells, at_end, behind}
use Rattle.vx_table.specs.Values.{Follows, to_end, through}
use Rattle.vx_table.proofs.Spelled.{is_value}
use Rattle.vx_sps.specs.Set as sps
use Rattle.vx_sps.specs.Structure.{sps_form}
use Rattle.vx_pps.specs.Pps as pps
use Rattle.vx_pps.specs.laws.Sets.{AreSlices, SetsTellPartitions}
use Rattle.vx_sh.specs.laws.Addresses.{AddressesAreBelow}
use Rattle.vx_sh.specs.InForce.{SliceScopesAreWhole}
use Rattle.vx_sh.specs.Whole as sh
use Rattle.vx_pic.specs.Sets.{SliceHeader, address_of, slices_before}
use Rattle.vx_pic.specs.Readings.{Begun, Slice, Picture, is_whole}
use Rattle.vx_pic.specs.PictureLayout.{IsLayoutAnswer, numbers_in, slices_in_picture, subpictures_of}
use Rattle.vx_pic.specs.UnderSets.{picture_header_of, at_slice_of}
use Rattle.vx_pic.specs.Rules.{Readers}
use Rattle.vx_pic.specs.Streams.{pictures_of}
use Rattle.vx_pic.specs.Written.{AreInOrder, HeadReads, SliceReads}
use Rattle.vx_pic.specs.Finished.{IsSoundPicture, AreFinished}
use Rattle.vx_pic.specs.H266.{BeginsItems, AnswersAt, AreOfH266, IsSlice, IsSliceAnswer}
use Rattle.vx_pic.specs.Parts.{Parts, SlicePart, parts_of, slice_part}
use Rattle.vx_pic.specs.Inputs.{InputsAreShown, input_in}
use Rattle.vx_pic.specs.Whole.{HasSets, HasEach, HasAllInOrder, subpic_slices, SubpicturesHaveSlices, SubpicturesAreWhole, SlicesAreShown}
use Rattle.vx_pic.proofs.Sizes.{has_ctus}
use Rattle.vx_pic.proofs.Finishing.{pictures_finished}
use Rattle.vx_pic.proofs.ReadSets.{pictures_have_sets}
use Rattle.vx_pic.proofs.SliceCounts.{some_slice, all_slices, before, before_next, before_grows}

-- ---- a list that stands at places from n on, of which those from lo to hi pass, each with a number that is its place counted from lo

abbrev Passes : {X : Type 0} → (X → Bool) → (X → ℕ) → ℕ → ℕ → ℕ → X → Type 0
Passes p f lo hi n x = (p x ≡ true) × (lo ≤ n) × (n < hi) × (f x ≡ n - lo)

abbrev Fails : {X : Type 0} → (X → Bool) → ℕ → ℕ → ℕ → X → Type 0
Fails p lo hi n x = (p x ≡ false) × ((n < lo) ⊎ (hi ≤ n))

abbrev StandFrom : {X : Type 0} → (X → Bool) → (X → ℕ) → ℕ → ℕ → ℕ → List X → Type 0
StandFrom p f lo hi n [] = Unit {0}
StandFrom p f lo hi n (x ∷ xs) = (Passes p f lo hi n x ⊎ Fails p lo hi n x) × StandFrom p f lo hi (n + 1) xs

numbers_pass : {X : Type 0} (p : X → Bool) (f : X → ℕ) (lo hi n : ℕ) (xs : List X) → StandFrom p f lo hi n xs
    → map f (filter p xs) ≡ range_with_len (max n lo - lo) (min (n + length xs) hi - max n lo)
numbers_pass p f lo hi n [] stand =
    let none : min (n + 0) hi - max n lo ≡ 0 = omega arith in
    ap (range_with_len (max n lo - lo)) (sym none)
numbers_pass p f lo hi n (x ∷ xs) stand =
    let rest = numbers_pass p f lo hi (n + 1) xs stand.1 in
    let behind : ℕ = min (n + 1 + length xs) hi - max (n + 1) lo in
    elim stand.0 [
      | inl (is, from, below, own) ↦
          let start : max n lo - lo ≡ n - lo = omega (arith, from) in
          let next : max (n + 1) lo - lo ≡ n - lo + 1 = omega (arith, from) in
          let many : min (n + suc (length xs)) hi - max n lo ≡ suc behind = omega (arith, from, below) in
          let kept : map f (filter p (x ∷ xs)) ≡ f x ∷ map f (filter p xs) = rw is refl in
          let here : f x ∷ map f (filter p xs) ≡ range_with_len (n - lo) (suc behind) = rw (own, rest, next) refl in
          kept ∙ here ∙ sym (ap (range_with_len (max n lo - lo)) many ∙ ap (λ a. range_with_len a (suc behind)) start)
      | inr (is_not, inl under) ↦
          let start : max (n + 1) lo - lo ≡ max n lo - lo = omega (arith, under) in
          let many : behind ≡ min (n + suc (length xs)) hi - max n lo = omega (arith, under) in
          let dropped : map f (filter p (x ∷ xs)) ≡ map f (filter p xs) = rw is_not refl in
          dropped ∙ rest ∙ ap (λ a. range_with_len a behind) start ∙ ap (range_with_len (max n lo - lo)) many
      | inr (is_not, inr past) ↦
          let none : behind ≡ 0 = omega (arith, past) in
          let nothing : min (n + suc (length xs)) hi - max n lo ≡ 0 = omega (arith, past) in
          let dropped : map f (filter p (x ∷ xs)) ≡ map f (filter p xs) = rw is_not refl in
          dropped ∙ rest ∙ ap (range_with_len (max (n + 1) lo - lo)) none ∙ ap (range_with_len (max n lo - lo)) (sym nothing)
    ]

-- ---- a slice at its place

-- the address is one of those of its subpicture's slices, where it has any
abbrev HasBound : Numbers → SliceHeader → Type 0
HasBound n h = (address_of h ≡ 0) ⊎ (address_of h < sh.num_slices_in_subpic n h.subpic)

record IsInside (n : Numbers) (h : SliceHeader) : Type 0 where
  subpic : h.subpic < length n.subpics
  address : address_of h < length (slices_in n h.subpic)

placed : (n : Numbers) (h : SliceHeader) → slices_before n h ≡ before n h.subpic + address_of h
unfolding slices_before
placed n h = refl

is_inside : (n : Numbers) (h : SliceHeader) → IsLayout n → HasBound n h → slices_before n h < length (in_order n.slices n.subpics) → IsInside n h
is_inside n h layout bound few = elim (cases_lt h.subpic (length n.subpics)) [
  | inl low ↦
      let some = some_slice n h.subpic layout low in
      let many : sh.num_slices_in_subpic n h.subpic ≡ length (slices_in n h.subpic) = ap (λ b. cond b (length (slices_in n h.subpic)) 0) (lt-ltb h.subpic (length n.subpics) low) in
      record { subpic = low; address = elim bound [ inl none ↦ omega (arith, some, none) | inr below ↦ omega (arith, below, many) ] }
  | inr past ↦
      let all : before n h.subpic ≡ length (in_order n.slices n.subpics) = ap (λ s. length (in_order n.slices s)) (take_all h.subpic n.subpics past) in
      absurd (omega (arith, few, all, placed n h))
]

abbrev is_of : ℕ → Slice → Bool
is_of k s = s.header.subpic == k

abbrev address : Slice → ℕ
address s = address_of s.header

stands : (n : Numbers) (k place : ℕ) (s : Slice) → k < length n.subpics → IsInside n s.header → slices_before n s.header ≡ place
    → Passes (is_of k) address (before n k) (before n (suc k)) place s ⊎ Fails (is_of k) (before n k) (before n (suc k)) place s
stands n k place s low inside is =
    let own : ℕ = s.header.subpic in
    let at = placed n s.header in
    let next = before_next n own inside.subpic in
    elim (cases_eq own k) [
      | inl same ↦
          let lo : before n own ≡ before n k = ap (before n) same in
          let hi : before n (suc own) ≡ before n (suc k) = ap (λ m. before n (suc m)) same in
          inl (eq-eqb own k same, omega (arith, at, is, lo), omega (arith, at, is, hi, next, inside.address), omega (arith, at, is, lo))
      | inr other ↦
          let fails : (own == k) ≡ false = ne_eqb own k other in
          elim (cases_lt own k) [
            | inl under ↦ inr (fails, inl (omega (arith, at, is, next, inside.address, before_grows n (suc own) k (omega (arith, under)))))
            | inr over ↦ inr (fails, inr (omega (arith, at, is, before_grows n (suc k) own (omega (arith, over, other)))))
          ]
    ]

all_stand : (b : Begun) (k n : ℕ) (xs : List Slice) → IsLayout b.layout → k < length b.layout.subpics → AreInOrder b n xs → AllByRecursion (λ s. HasBound b.layout s.header) xs
    → n + length xs ≤ length (in_order b.layout.slices b.layout.subpics) → StandFrom (is_of k) address (before b.layout k) (before b.layout (suc k)) n xs
all_stand b k n [] layout low order bounds few = tt
all_stand b k n (s ∷ xs) layout low order bounds few =
    let inside = is_inside b.layout s.header layout bounds.0 (omega (arith, order.0, few)) in
    (stands b.layout k n s low inside order.0, all_stand b k (n + 1) xs layout low order.1 bounds.1 (omega (arith, few)))

-- ---- a whole picture

-- a picture with all slices of its layout, each at its place
record IsFull (p : Picture) : Type 0 where
  layout : IsLayout p.begun.layout
  some : All HasCtu p.begun.layout.slices
  order : AreInOrder p.begun 0 p.slices
  bounds : AllByRecursion (λ s. HasBound p.begun.layout s.header) p.slices
  whole : length p.slices ≡ length p.begun.layout.slices

all_in_order : (p : Picture) → IsFull p → HasAllInOrder p
all_in_order p full k low =
    let n : Numbers = p.begun.layout in
    let total = all_slices n full.layout full.some in
    let lo : ℕ = before n k in
    let hi : ℕ = before n (suc k) in
    let next : hi ≡ lo + length (slices_in n k) = before_next n k low in
    let all : before n (length n.subpics) ≡ length (in_order n.slices n.subpics) = ap (λ s. length (in_order n.slices s)) (take_all (length n.subpics) n.subpics (omega arith)) in
    let up = before_grows n (suc k) (length n.subpics) (omega (arith, low)) in
    let few : 0 + length p.slices ≤ length (in_order n.slices n.subpics) = omega (arith, full.whole, total) in
    let start : max 0 lo - lo ≡ 0 = omega arith in
    let many : min (0 + length p.slices) hi - max 0 lo ≡ length (slices_in n k) = omega (arith, next, all, up, full.whole, total) in
    numbers_pass (is_of k) address lo hi 0 p.slices (all_stand p.begun k 0 p.slices full.layout low full.order full.bounds few)
    ∙ ap (λ a. range_with_len a (min (0 + length p.slices) hi - max 0 lo)) start ∙ ap (range_with_len 0) many

has_each : (p : Picture) → IsFull p → HasEach p
has_each p full k low =
    let addresses = ap length (all_in_order p full k low) in
    omega (arith, addresses, length-map (subpic_slices p k) address, length-range_with_len 0 (length (slices_in p.begun.layout k)), some_slice p.begun.layout k full.layout low)

-- ---- what was read

ends : {A : Type 0} {total : ℕ} {form : Form A} {v : List ℤ} {left rest : List Bool} → Spells total form v left rest → (end : A) × Follows form v end
ends (at_end {a}) = (a, to_end)
ends (behind begins more) = let on = ends more in (on.0, through (is_value begins) on.1)

pub sps_items : (rbsp : List ℕ) (r : Result (List Item) Refusal) (s : List Item) → AnswersAt sps_form (at_front rbsp) r → r ≡ Ok s → sps.AreSpsItems s
sps_items rbsp r s answer is =
    let begins : BeginsItems sps_form (at_front rbsp) s = subst (λ x. AnswersAt sps_form (at_front rbsp) x) is answer in
    let on = ends begins.spelled in
    record { values = begins.values; end = on.0; follows = on.1; all = begins.all }

pub pps_items : (rbsp : List ℕ) (r : Result (List Item) Refusal) (s : List Item) → AnswersAt pps.pps_form (at_front rbsp) r → r ≡ Ok s → pps.ArePpsItems s
pps_items rbsp r s answer is =
    let begins : BeginsItems pps.pps_form (at_front rbsp) s = subst (λ x. AnswersAt pps.pps_form (at_front rbsp) x) is answer in
    let on = ends begins.spelled in
    record { end = on.0; set = record { values = begins.values; follows = on.1; given = sym begins.all } }

-- each slice of the layout of two sets holds a CTU
listed_some : (listed : Option (List Rect)) (subpics : List Rect) → IfSome listed AreSlices → All HasCtu subpics → All HasCtu (unwrap_or listed subpics)
listed_some None subpics are some = some
listed_some (Some rects) subpics are some = are.each

slices_some : SetsTellPartitions → (s p : List Item) → sps.AreSpsItems s → pps.ArePpsItems p → IsLayout (numbers_in s p) → All HasCtu (slices_in_picture s p)
slices_some tells s p set other layout =
    let n : Numbers = numbers_in s p in
    let subpics : All HasCtu (subpictures_of s) = All-weaker (IsPart (width n) (height n)) HasCtu (λ r part. (part.wide, part.high)) (subpictures_of s) layout.subpics.parts in
    elim (cases_Bool (pps.is_partitioned p)) [
      | inl is ↦ rw is (listed_some (pps.slice_list_of p) (subpictures_of s) (tells p other).slices subpics)
      | inr none ↦ rw none (All-cons HasCtu _ [] ((has_ctus s set).columns.0, (has_ctus s set).rows.0) (All-nil HasCtu))
    ]

layout_read : (R : Readers) (unit : Option (List ℕ)) (b : Begun) (first : Slice) → HeadReads R unit b first → R.layout b.sps b.pps ≡ Ok b.layout
layout_read R None b first head = head.0.layout
layout_read R (Some u) b first head = head.1.layout

made : (R : Readers) → AreOfH266 R → (b : Begun) → R.layout b.sps b.pps ≡ Ok b.layout → IsLayoutAnswer b.sps b.pps (Ok b.layout)
made R of b is = subst (IsLayoutAnswer b.sps b.pps) is (of.layout b.sps b.pps)

slice_bound : AddressesAreBelow → SliceScopesAreWhole → (t : ℕ) (b : Begun) (unit : List ℕ) (h : SliceHeader) → IsSlice t b unit h → HasBound b.layout h
unfolding address_of
slice_bound below whole t b unit h is =
    let begins = is.begins in
    let subpic : h.subpic ≡ slice_index begins.fields.end SUBPIC = is.subpic ∙ begins.numbers.subpic in
    rw (is.fields, subpic) (below (at_slice_of t b) is.value.fields begins.inside begins.fields (whole t b.sps b.pps (picture_header_of b)))

slices_bound : AddressesAreBelow → SliceScopesAreWhole → (R : Readers) → AreOfH266 R → (b : Begun) (t : ℕ) (xs : List Slice) → AllByRecursion (SliceReads R b t) xs
    → AllByRecursion (λ s. HasBound b.layout s.header) xs
slices_bound below whole R of b t [] each = tt
slices_bound below whole R of b t (s ∷ xs) each =
    let is : IsSlice t b s.unit s.header = subst (IsSliceAnswer t b s.unit) each.0.header (of.slice t b s.unit) in
    (slice_bound below whole t b s.unit s.header is, slices_bound below whole R of b t xs each.1)

-- ---- the pictures of units

record Laws : Type 0 where
  pub tells : SetsTellPartitions
  pub below : AddressesAreBelow
  pub whole : SliceScopesAreWhole

full : Laws → (R : Readers) → AreOfH266 R → (earlier : List Picture) (p : Picture) → IsSoundPicture R earlier p → is_whole p ≡ true → HasSets R p.begun → IsFull p
full laws R of earlier p sound whole has =
    let b : Begun = p.begun in
    let answer = made R of b (layout_read R b.unit b sound.first sound.head) in
    let set = sps_items has.sps_rbsp (R.sps has.sps_rbsp) b.sps (of.sps has.sps_rbsp) has.sps in
    let other = pps_items has.pps_rbsp (R.pps has.pps_rbsp) b.pps (of.pps has.pps_rbsp) has.pps in
    let some = slices_some laws.tells b.sps b.pps set other answer.0.layout in
    record {
      layout = subst IsLayout (sym answer.1) answer.0.layout;
      some = subst (λ (n : Numbers). All HasCtu n.slices) (sym answer.1) some;
      order = sound.order;
      bounds = slices_bound laws.below laws.whole R of b p.kind.nal_type p.slices sound.each;
      whole = eqb-true (length p.slices) (length b.layout.slices) whole;
    }

all_full : Laws → (R : Readers) → AreOfH266 R → (Q : Picture → Type 0) → ((p : Picture) → IsFull p → Q p) → (ps : List Picture) → AreFinished R ps
    → AllByRecursion (λ p. HasSets R p.begun) ps → AllByRecursion Q ps
all_full laws R of Q each [] finished have = tt
all_full laws R of Q each (p ∷ earlier) finished have =
    (each p (full laws R of earlier p finished.0 finished.1 have.0), all_full laws R of Q each earlier finished.2 have.1)

pub subpictures_have_slices : SetsTellPartitions → AddressesAreBelow → SliceScopesAreWhole → SubpicturesHaveSlices
subpictures_have_slices tells below whole R units of =
    all_full (record { tells = tells; below = below; whole = whole }) R of HasEach has_each (pictures_of R units) (pictures_finished R units) (pictures_have_sets R units)

pub subpictures_are_whole : SetsTellPartitions → AddressesAreBelow → SliceScopesAreWhole → SubpicturesAreWhole
subpictures_are_whole tells below whole R units of =
    all_full (record { tells = tells; below = below; whole = whole }) R of HasAllInOrder all_in_order (pictures_of R units) (pictures_finished R units) (pictures_have_sets R units)

-- ---- what callers see

shown_at : (b : Begun) (k : ℕ) (xs : List Slice) → filter (λ (s : SlicePart). s.header.subpic == k) (map (slice_part b) xs) ≡ map (slice_part b) (filter (is_of k) xs)
shown_at b k [] = refl
shown_at b k (s ∷ xs) = elim (cases_Bool (s.header.subpic == k)) [
  | inl is ↦ rw is (ap (λ t. slice_part b s ∷ t) (shown_at b k xs))
  | inr is_not ↦ rw is_not (shown_at b k xs)
]

pub slices_are_shown : SlicesAreShown
slices_are_shown parts p k shows = ap (λ (q : Parts). filter (λ (s : SlicePart). s.header.subpic == k) q.slices) shows ∙ shown_at p.begun k p.slices

mapped : {A B C : Type 0} (f : A → B) (g : B → C) (test : B → Bool) (xs : List A) → map g (filter test (map f xs)) ≡ map (λ x. g (f x)) (filter (λ x. test (f x)) xs)
mapped f g test [] = refl
mapped f g test (x ∷ xs) = elim (cases_Bool (test (f x))) [
  | inl is ↦ rw is (ap (λ t. g (f x) ∷ t) (mapped f g test xs))
  | inr is_not ↦ rw is_not (mapped f g test xs)
]

pub inputs_are_shown : InputsAreShown
inputs_are_shown p k = mapped (slice_part p.begun) (input_in (parts_of p)) (λ s. s.header.subpic == k) p.slices
