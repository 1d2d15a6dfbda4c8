-- Fields by what stands before them.
use Rattle.std.proofs.Common.{◌≡◌, ◌≢◌, ◌==◌, ℕ, Bool, true, false, not, List, ◌∷◌, Some, None, Ok, Err, refl, sym, ap, subst, ◌∙◌}
use Rattle.std.proofs.lemmas.Bool.{ne_eqb}
use Rattle.vx_bits.specs.declared.list.Item.{Item}
use Rattle.vx_bits.specs.declared.refusal.Refusal.{Refusal}
use Rattle.vx_annexb.specs.NalUnit.{nal_unit_type, header_of}
use Rattle.vx_annexb.specs.declared.header.NalHeader.{NalHeader}
use Rattle.vx_pic.specs.declared.kind.Kind.{Kind}
use Rattle.vx_pic.specs.declared.structure.Structure.TheVariants as structures
use Rattle.vx_pic.specs.declared.structure.StructureFields.{StructureFields}
use Rattle.vx_pic.specs.Shown.{no_fields, fields_of}
use Rattle.vx_pic.specs.Sets.{referred_sps}
use Rattle.vx_pic.specs.Units.{Class, is_reserved, has_header_inside, rbsp_of, class_of}
use Rattle.vx_pic.specs.Readings.{Begun, Reading, Picture, is_whole, Current, nothing, headed, going, current, is_open, stored_sps, stored_pps}
use Rattle.vx_pic.specs.Rules.{Readers, begins}
use Rattle.vx_pic.specs.Parts.{header_unit_in}
use Rattle.vx_pic.specs.H266.{AreOfH266}
use Rattle.vx_assemble.specs.Fields as fields
use Rattle.vx_assemble.specs.declared.state.BegunPicture.{BegunPicture}
use Rattle.vx_assemble.specs.declared.state.CurrentPicture.{CurrentPicture}
use Rattle.vx_assemble.specs.declared.state.GoingPicture.{GoingPicture}
use Rattle.vx_assemble.specs.declared.state.Stage.TheVariants as stages
use Rattle.vx_assemble.specs.declared.unit.UnitClass.{UnitClass}
use Rattle.vx_assemble.specs.inner.Classes.{class_seen}
use Rattle.vx_assemble.specs.inner.Held.{begun_of, header_at, kind_at, Keeps}
use Rattle.vx_assemble.proofs.KeptPicture.{begun_is}
use Rattle.vx_assemble.proofs.Steps.{same_some}

module _ (R : Readers) (h : AreOfH266 R) where
  -- ---- picture headers

  pub id_refused : (inside : Bool) (rbsp : List ℕ) (before : List Reading) (r : Refusal) → R.referred_pps inside rbsp ≡ Err r
      → fields.picture_header_items R h inside rbsp before ≡ fields.id_items R h inside rbsp
  id_refused inside rbsp before r is = ap (fields.under_id R h inside rbsp (fields.id_items R h inside rbsp) before) is

  pub pps_missing : (inside : Bool) (rbsp : List ℕ) (before : List Reading) (id : ℕ) → R.referred_pps inside rbsp ≡ Ok id → stored_pps id before ≡ None
      → fields.picture_header_items R h inside rbsp before ≡ fields.id_items R h inside rbsp
  pps_missing inside rbsp before id is none =
      let to_id = fields.id_items R h inside rbsp in
      ap (fields.under_id R h inside rbsp to_id before) is ∙ ap (fields.under_pps R h inside rbsp to_id before) none

  pub sps_missing : (inside : Bool) (rbsp : List ℕ) (before : List Reading) (id : ℕ) (pps : List Item) → R.referred_pps inside rbsp ≡ Ok id → stored_pps id before ≡ Some pps
      → stored_sps (referred_sps pps) before ≡ None → fields.picture_header_items R h inside rbsp before ≡ fields.id_items R h inside rbsp
  sps_missing inside rbsp before id pps is some none =
      let to_id = fields.id_items R h inside rbsp in
      ap (fields.under_id R h inside rbsp to_id before) is ∙ ap (fields.under_pps R h inside rbsp to_id before) some ∙ ap (fields.under_sps R h inside rbsp to_id pps) none

  pub under_both : (inside : Bool) (rbsp : List ℕ) (before : List Reading) (id : ℕ) (pps sps : List Item) → R.referred_pps inside rbsp ≡ Ok id → stored_pps id before ≡ Some pps
      → stored_sps (referred_sps pps) before ≡ Some sps → fields.picture_header_items R h inside rbsp before ≡ fields.header_items R h inside rbsp sps pps
  under_both inside rbsp before id pps sps is some known =
      let to_id = fields.id_items R h inside rbsp in
      ap (fields.under_id R h inside rbsp to_id before) is ∙ ap (fields.under_pps R h inside rbsp to_id before) some ∙ ap (fields.under_sps R h inside rbsp to_id pps) known

  -- ---- slices

  whole_none : (p : Picture) (u : List ℕ) (w : Bool) → is_whole p ≡ w → not w ≡ false → fields.following_fields R h (going p) u ≡ no_fields
  whole_none p u true is closed = rw is refl
  whole_none p u false is closed = absurd (let e : true ≡ false = closed in cc)

  pub closed_none : (c : Current) (u : List ℕ) → is_open c ≡ false → fields.following_fields R h c u ≡ no_fields
  closed_none nothing u closed = refl
  closed_none (headed b) u closed = absurd (let e : true ≡ false = closed in cc)
  closed_none (going p) u closed = whole_none p u (is_whole p) refl closed

  -- whose slices are to come
  pub headed_fields : (s : CurrentPicture) (c : Current) (b : BegunPicture) (u : List ℕ) (items : List Item) → Keeps s c → s.stage ≡ stages.Headed b
      → items ≡ fields.slice_items R h (nal_unit_type u) (begun_of b (header_unit_in s.bytes s.header_end)) u
      → fields_of structures.SliceHeader items ≡ fields.following_fields R h c u
  headed_fields s nothing b u items keeps is same = absurd (let e : stages.Headed b ≡ stages.Nothing = sym is ∙ keeps in cc)
  headed_fields s (headed a) b u items keeps is same =
      let of : begun_of b (header_unit_in s.bytes s.header_end) ≡ a = begun_is s b a (ap header_at is) keeps.begun in
      ap (fields_of structures.SliceHeader) (same ∙ ap (λ x. fields.slice_items R h (nal_unit_type u) x u) of)
  headed_fields s (going p) b u items keeps is same = absurd (let e : None ≡ Some p.kind = sym (ap kind_at is) ∙ keeps.kind in cc)

  going_on : (p : Picture) (u : List ℕ) (w : Bool) → is_whole p ≡ w → not w ≡ true
      → fields.following_fields R h (going p) u ≡ fields_of structures.SliceHeader (fields.slice_items R h p.kind.nal_type p.begun u)
  going_on p u true is open_ = absurd (let e : false ≡ true = open_ in cc)
  going_on p u false is open_ = rw is refl

  -- of which some came
  pub going_fields : (s : CurrentPicture) (c : Current) (g : GoingPicture) (u : List ℕ) (items : List Item) → Keeps s c → s.stage ≡ stages.Going g
      → is_open c ≡ true → items ≡ fields.slice_items R h g.kind.nal_type (begun_of g.begun (header_unit_in s.bytes s.header_end)) u
      → fields_of structures.SliceHeader items ≡ fields.following_fields R h c u
  going_fields s nothing g u items keeps is open_ same = absurd (let e : stages.Going g ≡ stages.Nothing = sym is ∙ keeps in cc)
  going_fields s (headed a) g u items keeps is open_ same = absurd (let e : Some g.kind ≡ None = sym (ap kind_at is) ∙ keeps.kind in cc)
  going_fields s (going p) g u items keeps is open_ same =
      let of : begun_of g.begun (header_unit_in s.bytes s.header_end) ≡ p.begun = begun_is s g.begun p.begun (ap header_at is) keeps.begun in
      let kind : g.kind ≡ p.kind = same_some g.kind p.kind (sym (ap kind_at is) ∙ keeps.kind) in
      ap (fields_of structures.SliceHeader) (same ∙ ap (λ x. fields.slice_items R h g.kind.nal_type x u) of ∙ ap (λ (x : Kind). fields.slice_items R h x.nal_type p.begun u) kind)
      ∙ sym (going_on p u (is_whole p) refl open_)

  pub alone_begun : (before : List Reading) (u : List ℕ) (b : Begun) (t : ℕ) (items : List Item) → begins R before u None ≡ Ok b → t ≡ nal_unit_type u
      → items ≡ fields.slice_items R h t b u → items ≡ fields.alone_items R h before u (begins R before u None)
  alone_begun before u b t items is type same =
      same ∙ ap (λ x. fields.slice_items R h x b u) type ∙ sym (ap (fields.alone_items R h before u) is)

  pub alone_refused : (before : List Reading) (u : List ℕ) (r : Refusal) (items : List Item) → begins R before u None ≡ Err r
      → items ≡ fields.inside_item ∷ fields.picture_header_items R h true (rbsp_of u) before → items ≡ fields.alone_items R h before u (begins R before u None)
  alone_refused before u r items is same = same ∙ sym (ap (fields.alone_items R h before u) is)

  pub with_inside : (before : List Reading) (u : List ℕ) (w : Bool) (items : List Item) → w ≡ has_header_inside u → w ≡ true
      → items ≡ fields.alone_items R h before u (begins R before u None) → fields_of structures.SliceHeader items ≡ fields.slice_fields R h before u
  with_inside before u w items told is same = let inside : has_header_inside u ≡ true = sym told ∙ is in rw inside (ap (fields_of structures.SliceHeader) same)

  pub without_inside : (before : List Reading) (u : List ℕ) (w : Bool) (f : StructureFields) → w ≡ has_header_inside u → w ≡ false
      → f ≡ fields.following_fields R h (current before) u → f ≡ fields.slice_fields R h before u
  without_inside before u w f told is same = let inside : has_header_inside u ≡ false = sym told ∙ is in rw inside same

  -- ---- units

  pub as_fields : (k l : UnitClass) (before : List Reading) (u : List ℕ) (f : StructureFields) → k ≡ l → f ≡ fields.fields_as R h (class_seen l) before u
      → f ≡ fields.fields_as R h (class_seen k) before u
  as_fields k l before u f is same = subst (λ x. f ≡ fields.fields_as R h (class_seen x) before u) (sym is) same

  plain_fields : (before : List Reading) (u : List ℕ) (c : Class) → (header_of u).reserved ≡ false → (header_of u).layer_id ≡ 0
      → c ≡ class_of (header_of u).nal_type → fields.unit_fields R h before u ≡ fields.fields_as R h c before u
  unfolding is_reserved
  plain_fields before u c kept layer class =
      let base : not ((header_of u).layer_id == 0) ≡ false = ap (λ n. not (n == 0)) layer in
      rw (kept, base, ← class) refl

  pub plain_shows : (before : List Reading) (u : List ℕ) (head : NalHeader) (k : UnitClass) (f : StructureFields) → head ≡ header_of u → head.reserved ≡ false
      → head.layer_id ≡ 0 → class_seen k ≡ class_of head.nal_type → f ≡ fields.fields_as R h (class_seen k) before u → f ≡ fields.unit_fields R h before u
  plain_shows before u head k f is kept layer class same =
      let reserved : (header_of u).reserved ≡ false = sym (ap (λ x. x.reserved) is) ∙ kept in
      let base : (header_of u).layer_id ≡ 0 = sym (ap (λ x. x.layer_id) is) ∙ layer in
      let kind : class_seen k ≡ class_of (header_of u).nal_type = class ∙ ap (λ x. class_of x.nal_type) is in
      same ∙ sym (plain_fields before u (class_seen k) reserved base kind)

  pub reserved_shows : (before : List Reading) (u : List ℕ) (head : NalHeader) (f : StructureFields) → head ≡ header_of u → head.reserved ≡ true → f ≡ no_fields
      → f ≡ fields.unit_fields R h before u
  unfolding is_reserved
  reserved_shows before u head f is kept none =
      let reserved : (header_of u).reserved ≡ true = sym (ap (λ x. x.reserved) is) ∙ kept in
      rw reserved none

  layer_none : (before : List Reading) (u : List ℕ) (w : Bool) → (header_of u).reserved ≡ w → not ((header_of u).layer_id == 0) ≡ true
      → fields.unit_fields R h before u ≡ no_fields
  unfolding is_reserved
  layer_none before u true is other = rw is refl
  layer_none before u false is other = rw (is, other) refl

  pub layer_shows : (before : List Reading) (u : List ℕ) (head : NalHeader) (f : StructureFields) → head ≡ header_of u → head.layer_id ≢ 0 → f ≡ no_fields
      → f ≡ fields.unit_fields R h before u
  layer_shows before u head f is layer none =
      let other : not ((header_of u).layer_id == 0) ≡ true = ap not (ne_eqb (header_of u).layer_id 0 (λ e. layer (ap (λ x. x.layer_id) is ∙ e))) in
      none ∙ sym (layer_none before u (header_of u).reserved refl other)
