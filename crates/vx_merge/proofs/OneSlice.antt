-- The slices of a round are written in one way.
use Rattle.std.proofs.Common.{◌≡◌, ℕ, ◌<◌, List, [], ◌∷◌, ◌++◌, drop, length, map, refl, sym, ap, subst, ◌∙◌, arith}
use Rattle.std.specs.List.{AllByRecursion, AllZip}
use Rattle.std.proofs.lemmas.Int.{ints}
use Rattle.vx_bits.specs.Codes.{bits_of}
use Rattle.vx_bits.specs.declared.list.Item.{Item}
use Rattle.vx_table.specs.Forms.{◌>>=◌, form_of}
use Rattle.vx_table.specs.Rewritten.{IsRewritten, other_items}
use Rattle.vx_table.specs.Shown.{shown_items}
use Rattle.vx_table.specs.Spelling.{items_along}
use Rattle.vx_table.specs.Values.{Follows, bits_along}
use Rattle.vx_table.proofs.Joined.{items_joined, joined}
use Rattle.vx_table.proofs.Writings as writings
use Rattle.vx_sh.specs.declared.numbers.SliceNumbers.{SliceNumbers}
use Rattle.vx_sh.specs.declared.shape.ShShape.{ShShape}
use Rattle.vx_sh.specs.declared.tables.TheConstants.{HEADER_INSIDE}
use Rattle.vx_sh.specs.Depends.{kept_fields}
use Rattle.vx_sh.specs.InForce.{at_sets, in_force_at}
use Rattle.vx_sh.specs.Reshaped.{stated_filter_items, sh_subpic_id_items, qp_items, stated_sh_items, use_items}
use Rattle.vx_sh.specs.Value.{AreFields, IsSliceHeaderSpelling, values_of}
use Rattle.vx_sh.specs.Whole.{At, behind_header, header_inside, index_of, slice_form}
use Rattle.vx_pic.specs.Parts.{Parts, SlicePart}
use Rattle.vx_pic.specs.Readings.{Begun, Slice}
use Rattle.vx_pic.specs.UnderSets.{at_slice_of}
use Rattle.vx_merge.specs.Headers.{AreNumbers, IsFront, IsMergedSlice, SaysSlice}
use Rattle.vx_merge.specs.Needed.{Ids}
use Rattle.vx_bits.specs.Codes.{AreBytes}
use Rattle.vx_frame.proofs.Gathered.{all_front}
use Rattle.vx_table.proofs.Rewriting.{rewritten_one}
use Rattle.vx_write.proofs.OneUnit.{unit_one}

-- ---- a header at one place

module _ (n : At) where
  -- what kept fields and the others are of, with the picture header apart
  made_of : (names : List ℕ) (shown others items : List Item) → AreFields n items [] → shown_items names items ≡ shown → other_items names items ≡ others
      → IsRewritten (form_of HEADER_INSIDE n.slice >>= behind_header n.table n.ids n.layout) names shown others items
  made_of names shown others items f kept rest = record {
    values = f.first ++ f.behind;
    end = f.end;
    follows = joined (behind_header n.table n.ids n.layout) f.begins f.ends;
    all = f.all ∙ sym (items_joined (behind_header n.table n.ids n.layout) f.behind f.begins);
    shown_ones = kept;
    other_ones = rest;
  }

  -- its items, and those of the picture header where it stands inside, tell its bits
  bits_one : (fields header : List Item) (a b : List ℕ) → IsSliceHeaderSpelling n fields header a → IsSliceHeaderSpelling n fields header b → bits_of a ≡ bits_of b
  bits_one fields header a b is of =
      let f = is.is.slice in
      let h = of.is.slice in
      let inside = header_inside n.table n.sets in
      let behind = behind_header n.table n.ids n.layout in
      let front = writings.apart (items_along (behind f.at) f.behind) (items_along (behind h.at) h.behind) f.begins h.begins (sym f.all ∙ h.all) in
      let back = sym front.2 in
      let within = (writings.apart is.is.others of.is.others f.goes_on (subst (λ s. Follows (inside s) of.is.inside s) back h.goes_on)
      (sym is.is.given ∙ (of.is.given ∙ ap (λ s. items_along (inside s) of.is.inside ++ of.is.others) back))).0 in
      let rest = (writings.apart [] [] f.ends (subst (λ s. Follows (behind s) h.behind h.end) back h.ends)
      (ap (λ items. items ++ []) (front.1 ∙ ap (λ s. items_along (behind s) h.behind) back))).0 in
      let first = front.0 in
      let values : values_of f ≡ values_of h = λ j. (first j ++ within j) ++ rest j in
      is.bits ∙ (ap (bits_along (slice_form n) 0) values ∙ sym of.bits)

-- ---- a slice

module _ (round : List Parts) (ids : Ids) (nal_type : ℕ) (b : Begun) (k : ℕ) (s : SlicePart) where
  place_is : (n : SliceNumbers) → AreNumbers nal_type b n → in_force_at n ≡ at_slice_of nal_type b
  place_is n at =
      let type = at.type in
      let sps = at.sps in
      let pps = at.pps in
      let header = at.header in
      let ids = at.ids in
      let layout = at.layout in
      λ j. at_sets (type j) (sps j) (pps j) (header j) (ids j) (layout j)

  stated_one : (n m : SliceNumbers) (x y : ShShape) → AreNumbers nal_type b n → AreNumbers nal_type b m → SaysSlice round ids k s x → SaysSlice round ids k s y → stated_sh_items n x ≡ stated_sh_items m y
  stated_one n m x y at on is of =
      let sps = at.sps ∙ sym on.sps in
      let header = at.header ∙ sym on.header in
      let id = is.subpic ∙ sym of.subpic in
      let filter = is.filter ∙ sym of.filter in
      let lmcs = is.lmcs ∙ sym of.lmcs in
      let scaling = is.scaling ∙ sym of.scaling in
      let sums = is.qp ∙ sym of.qp in
      let qp : x.qp_delta ≡ y.qp_delta = omega (arith, ints, sums) in
      λ j. sh_subpic_id_items (sps j) (id j) ++ ((stated_filter_items (sps j) (filter j) ++ use_items ((header j).fields) (lmcs j) (scaling j)) ++ qp_items (qp j))

  front_one : (u v : List ℕ) (x : IsFront round ids nal_type b k s u) (y : IsFront round ids nal_type b k s v) → AreBytes u → AreBytes v
      → (x.header.fields ≡ y.header.fields) × (x.header.subpic ≡ y.header.subpic) × (u ≡ v)
  front_one u v x y bytes others =
      let place : in_force_at y.numbers ≡ in_force_at x.numbers = place_is y.numbers y.at ∙ sym (place_is x.numbers x.at) in
      let names = kept_fields in
      let says = stated_one x.numbers y.numbers x.shape y.shape x.at y.at x.says y.says in
      let first = x.reshaped.fields in
      let second = y.reshaped.fields in
      let fields : x.header.fields ≡ y.header.fields
      = rewritten_one _ names (shown_items names s.header.fields) (stated_sh_items x.numbers x.shape) x.header.fields y.header.fields
      (made_of (in_force_at x.numbers) names _ _ x.header.fields first.fields first.kept first.others)
      (made_of (in_force_at x.numbers) names _ _ y.header.fields (subst (λ n. AreFields n y.header.fields []) place second.fields) second.kept (second.others ∙ sym says)) in
      let id = x.says.subpic ∙ sym y.says.subpic in
      let listed = x.at.ids ∙ sym y.at.ids in
      let index : index_of x.shape.subpic_id x.numbers.ids.now ≡ index_of y.shape.subpic_id y.numbers.ids.now = λ j. index_of (id j) (listed j) in
      let spelled = subst (λ n. IsSliceHeaderSpelling n y.header.fields b.header y.bytes) place y.spelled in
      let bits = bits_one (in_force_at x.numbers) x.header.fields b.header x.bytes y.bytes x.spelled (subst (λ fs. IsSliceHeaderSpelling (in_force_at x.numbers) fs b.header y.bytes) (sym fields) spelled) in
      (fields, x.reshaped.subpic ∙ (index ∙ sym y.reshaped.subpic), unit_one nal_type b.temporal_id x.bytes y.bytes u v bytes others bits x.made y.made)

  slice_one : (v w : Slice) → IsMergedSlice round ids nal_type b k s v → IsMergedSlice round ids nal_type b k s w → AreBytes v.unit → AreBytes w.unit → v ≡ w
  slice_one v w x y bytes others =
      let payload : List ℕ = drop s.payload s.unit in
      let one = front_one x.front y.front x.is y.is (all_front (λ n. n < 256) x.front payload (subst AreBytes x.unit bytes)) (all_front (λ n. n < 256) y.front payload (subst AreBytes y.unit others)) in
      let fields = one.0 in
      let subpic = one.1 in
      let front = one.2 in
      let unit = x.unit ∙ (ap (λ u. u ++ payload) front ∙ sym y.unit) in
      let header = x.read ∙ ((λ j. record { fields = fields j; subpic = subpic j; payload = length (front j) }) ∙ sym y.read) in
      λ j. record { unit = unit j; header = header j }

-- ---- all of them

pub slices_one : (round : List Parts) (ids : Ids) (nal_type : ℕ) (b : Begun) (xs : List (ℕ × SlicePart)) (vs ws : List Slice)
    → AllZip (λ x w. IsMergedSlice round ids nal_type b x.0 x.1 w) xs vs → AllZip (λ x w. IsMergedSlice round ids nal_type b x.0 x.1 w) xs ws
    → AllByRecursion AreBytes (map (λ s. s.unit) vs) → AllByRecursion AreBytes (map (λ s. s.unit) ws) → vs ≡ ws
slices_one round ids nal_type b [] [] [] is of bytes others = refl
slices_one round ids nal_type b [] [] (w ∷ ws) is of bytes others = absurd of
slices_one round ids nal_type b [] (v ∷ vs) ws is of bytes others = absurd is
slices_one round ids nal_type b (x ∷ xs) [] ws is of bytes others = absurd is
slices_one round ids nal_type b (x ∷ xs) (v ∷ vs) [] is of bytes others = absurd of
slices_one round ids nal_type b (x ∷ xs) (v ∷ vs) (w ∷ ws) is of bytes others =
    let first = slice_one round ids nal_type b x.0 x.1 v w is.0 of.0 bytes.0 others.0 in
    let rest = slices_one round ids nal_type b xs vs ws is.1 of.1 bytes.1 others.1 in
    λ j. first j ∷ rest j
