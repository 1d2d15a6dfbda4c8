-- The PPS of a frame has the adaptive loop filter and the QP in slice headers.
use Rattle.std.proofs.Common.{◌≡◌, ℕ, pos, true, IsTrue, IsFalse, List, [], ◌∷◌, ◌++◌, refl, sym, ap, subst, ◌∙◌, append_assoc, arith}
use Rattle.vx_bits.specs.declared.list.Item.{Item}
use Rattle.vx_fields.specs.declared.pps.TheConstants as pps
use Rattle.vx_table.specs.Depends.{has}
use Rattle.vx_table.specs.Loaded.{number}
use Rattle.vx_table.specs.Rewritten.{other_items}
use Rattle.vx_table.specs.Scope.{fresh, is_set, natural}
use Rattle.vx_table.proofs.Loading.{number_of_last}
use Rattle.vx_pps.specs.declared.shape.PpsShape.{PpsShape}
use Rattle.vx_pps.specs.Reshaped.{IsReshapedPps, frame_tool_items, front_items, has_weights, info_items, items_of_source, whole_flag}
use Rattle.vx_table.specs.Rewritten.{where_so}
use Rattle.vx_pps.specs.Written.{only_item}
use Rattle.vx_pps.proofs.Cutting.{number_by_others}
use Rattle.vx_pps.proofs.Reshaping.{NoneOf, no_item, no_more, none_where}
use Rattle.vx_pps.proofs.Testing.{names}
use Rattle.vx_ph.specs.Reshaped.{IsApart}

-- a front is taken from what follows it
joined : (of : ℕ) (x a b : List Item) → number (x ++ (a ++ b)) of ≡ number ((x ++ a) ++ b) of
joined of x a b = ap (λ xs. number xs of) (sym (append_assoc x a b))

module _ (source : List Item) (x : List Item) where
  abbrev weights : List Item
  weights = where_so (has_weights source) (items_of_source source pps.pps_wp_info_in_ph_flag)

  abbrev last : List Item
  last = only_item pps.pps_qp_delta_info_in_ph_flag (pos 0)

  abbrev behind : List Item
  behind = only_item pps.pps_alf_info_in_ph_flag (pos 0) ++ (weights ++ last)

  abbrev before : List Item
  before = (x ++ items_of_source source pps.pps_rpl_info_in_ph_flag) ++ items_of_source source pps.pps_sao_info_in_ph_flag

  to_filter : (of : ℕ) → number (x ++ info_items source) of ≡ number (before ++ behind) of
  to_filter of =
      joined of x (items_of_source source pps.pps_rpl_info_in_ph_flag) (items_of_source source pps.pps_sao_info_in_ph_flag ++ behind)
      ∙ joined of (x ++ items_of_source source pps.pps_rpl_info_in_ph_flag) (items_of_source source pps.pps_sao_info_in_ph_flag) behind

  filter_stated : number (x ++ info_items source) pps.pps_alf_info_in_ph_flag ≡ 0
  unfolding natural
  filter_stated =
      let of : ℕ = pps.pps_alf_info_in_ph_flag in
      let wp : ℕ = pps.pps_wp_info_in_ph_flag in
      let none : NoneOf of last = no_item of pps.pps_qp_delta_info_in_ph_flag (pos 0) [] (omega arith) (no_more of) in
      to_filter of
      ∙ number_of_last of (pos 0) before (weights ++ last) (omega arith)
      (none_where of wp (pos (number source wp)) (has_weights source) last (omega arith) none)

  qp_stated : number (x ++ info_items source) pps.pps_qp_delta_info_in_ph_flag ≡ 0
  unfolding natural
  qp_stated =
      let of : ℕ = pps.pps_qp_delta_info_in_ph_flag in
      let filter : List Item = only_item pps.pps_alf_info_in_ph_flag (pos 0) in
      to_filter of ∙ joined of before filter (weights ++ last) ∙ joined of (before ++ filter) weights last
      ∙ number_of_last of (pos 0) ((before ++ filter) ++ weights) [] (omega arith) (no_more of)

module _ (source items : List Item) (shape : PpsShape) (re : IsReshapedPps source shape items) (merged : shape.merged ≡ true) where
  abbrev begins : List Item
  begins = front_items (whole_flag source shape) shape

  abbrev overridden : List Item
  overridden = where_so (is_set (number source pps.pps_deblocking_filter_override_enabled_flag)) (items_of_source source pps.pps_dbf_info_in_ph_flag)

  abbrev front_ : List Item
  front_ = ((begins ++ re.stated.division) ++ only_item pps.pps_init_qp_minus26 shape.init_qp) ++ overridden

  others : other_items (names true) items ≡ begins ++ (re.stated.division ++ frame_tool_items source shape.init_qp)
  others = subst (λ b. other_items (names b) items ≡ re.others) merged re.rewritten.other_ones ∙ re.stated.all
      ∙ ap (λ b. begins ++ (re.stated.division ++ where_so b (frame_tool_items source shape.init_qp))) merged

  by_info : (of : ℕ) → IsTrue (has (of ∷ []) of) → IsFalse (has (names true) of)
      → number items of ≡ number (front_ ++ info_items source) of
  by_info of is out =
      number_by_others (names true) of items is out ∙ ap (λ xs. number xs of) others
      ∙ joined of begins re.stated.division (frame_tool_items source shape.init_qp)
      ∙ joined of (begins ++ re.stated.division) (only_item pps.pps_init_qp_minus26 shape.init_qp) (overridden ++ info_items source)
      ∙ joined of ((begins ++ re.stated.division) ++ only_item pps.pps_init_qp_minus26 shape.init_qp) overridden (info_items source)

  pub frame_apart : IsApart items
  unfolding fresh
  frame_apart = record {
    filter = by_info pps.pps_alf_info_in_ph_flag refl refl ∙ filter_stated source front_;
    qp = by_info pps.pps_qp_delta_info_in_ph_flag refl refl ∙ qp_stated source front_;
  }
