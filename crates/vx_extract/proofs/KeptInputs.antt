-- The slices of what is read again have the decoding inputs of the subpicture's slices.
use Rattle.std.proofs.Common.{◌≡◌, ℕ, ℤ, ◌==◌, Bool, cond, List, [], ◌∷◌, ◌++◌, map, Option, None, refl, ap, sym, ◌∙◌, inl, inr}
use Rattle.std.specs.Prelude.{filter, flat_map, option_map, option_to_list}
use Rattle.std.proofs.lemmas.Bool.{cases_Bool, eqb-true}
use Rattle.vx_bits.specs.declared.list.Item.{Item}
use Rattle.vx_fields.specs.declared.pps.TheConstants as pps_fields
use Rattle.vx_fields.specs.declared.ph.TheConstants as ph_fields
use Rattle.vx_fields.specs.declared.sh.TheConstants as sh_fields
use Rattle.vx_fields.specs.declared.alf.TheConstants as alf_fields
use Rattle.vx_table.specs.Loaded.{number}
use Rattle.vx_table.specs.Scope.{fresh, is_set, natural}
use Rattle.vx_aps.specs.declared.aps.TheConstants as aps
use Rattle.vx_rpl.specs.declared.entry.RefLists.{RefLists}
use Rattle.vx_rpl.specs.HeaderLists.{lists_of}
use Rattle.vx_ph.specs.InForce.{in_force, structures}
use Rattle.vx_sh.specs.declared.header.SliceHeader.{SliceHeader as SliceValue}
use Rattle.vx_pic.specs.declared.kind.Kind.{Kind}
use Rattle.vx_pic.specs.declared.place.Place.{Place}
use Rattle.vx_pic.specs.Sets.{Slot, address_of, filter_items, named, named_filters, names_of, slice_qp}
use Rattle.vx_pic.specs.Readings.{Picture, Slice}
use Rattle.vx_pic.specs.Parts.{Parts, SlicePart, aps_named_by, parts_of, slice_header_of, slice_part}
use Rattle.vx_pic.specs.Parts as parts
use Rattle.vx_pic.specs.Inputs.{Alf, Input, alf_of, bodies_of, body_of, header_fields, input_of, inputs_of, is_used, lists_in_force, lmcs_of, named_body, place_in, scaling_of}
use Rattle.vx_pic.specs.Written.{Plan, planned}
use Rattle.vx_pic.specs.Resident.{readings_of_plans}
use Rattle.vx_extract.specs.Written.{IsExtracted, named_in}
use Rattle.vx_extract.specs.Again.{AgreeForHeaders, AreRewritten, IsReady, KeepFields, RewrittenAgree, RewrittenKeepFields, header_alone}
use Rattle.vx_extract.specs.Kept.{ExtractedKeepsBodies, RewrittenKeepPlaces}
use Rattle.vx_write.specs.InForce.{AreInForce}
use Rattle.vx_extract.proofs.AgainAgree.{pps_taken}
use Rattle.vx_extract.proofs.AgainBodies.{Has, has_all, has_first, has_second}
use Rattle.vx_extract.proofs.AgainUnits.{qp_same, short, slices_shown, those_of}

-- ---- bodies that are named

-- two pictures have the same bodies of these types and ids
abbrev Alike : Parts → Parts → List Slot → Type 0
Alike a b slots = (s : Slot) → Has slots s → body_of a s.kind s.id ≡ body_of b s.kind s.id

front_alike : (a b : Parts) (xs ys : List Slot) → Alike a b (xs ++ ys) → Alike a b xs
front_alike a b xs ys all = λ s is. all s (has_first xs ys s is)

rest_alike : (a b : Parts) (xs ys : List Slot) → Alike a b (xs ++ ys) → Alike a b ys
rest_alike a b xs ys all = λ s is. all s (has_second xs ys s is)

same_bodies : (a b : Parts) (slots : List Slot) → Alike a b slots → bodies_of a slots ≡ bodies_of b slots
same_bodies a b [] all = refl
same_bodies a b (s ∷ slots) all =
    ap (λ o. option_to_list o ++ bodies_of a slots) (all s (inl refl))
    ∙ ap (λ xs. option_to_list (body_of b s.kind s.id) ++ xs) (same_bodies a b slots (λ t is. all t (inr is)))

same_body : (a b : Parts) (kind of : ℕ) (items : List Item) → Alike a b (named kind of items) → named_body a kind of items ≡ named_body b kind of items
same_body a b kind of [] all = refl
same_body a b kind of (x ∷ items) all = elim (cases_Bool (x.field == of)) [
  | inl on ↦ let here : Alike a b (record { kind = kind; id = natural x.value } ∷ named kind of items) = rw on at all in rw on (here (record { kind = kind; id = natural x.value }) (inl refl))
  | inr off ↦ let rest : Alike a b (named kind of items) = rw off at all in rw off (same_body a b kind of items rest)
]

same_alf : (a b : Alf) → a.enabled ≡ b.enabled → a.luma ≡ b.luma → a.cb ≡ b.cb → a.cr ≡ b.cr → a.chroma ≡ b.chroma → a.cc_cb ≡ b.cc_cb → a.cc_cr ≡ b.cc_cr → a ≡ b
same_alf a b enabled luma cb cr chroma cc_cb cc_cr =
    ap (λ t. record { enabled = t; luma = a.luma; cb = a.cb; cr = a.cr; chroma = a.chroma; cc_cb = a.cc_cb; cc_cr = a.cc_cr }) enabled
    ∙ (ap (λ t. record { enabled = b.enabled; luma = t; cb = a.cb; cr = a.cr; chroma = a.chroma; cc_cb = a.cc_cb; cc_cr = a.cc_cr }) luma
    ∙ (ap (λ t. record { enabled = b.enabled; luma = b.luma; cb = t; cr = a.cr; chroma = a.chroma; cc_cb = a.cc_cb; cc_cr = a.cc_cr }) cb
    ∙ (ap (λ t. record { enabled = b.enabled; luma = b.luma; cb = b.cb; cr = t; chroma = a.chroma; cc_cb = a.cc_cb; cc_cr = a.cc_cr }) cr
    ∙ (ap (λ t. record { enabled = b.enabled; luma = b.luma; cb = b.cb; cr = b.cr; chroma = t; cc_cb = a.cc_cb; cc_cr = a.cc_cr }) chroma
    ∙ (ap (λ t. record { enabled = b.enabled; luma = b.luma; cb = b.cb; cr = b.cr; chroma = b.chroma; cc_cb = t; cc_cr = a.cc_cr }) cc_cb
    ∙ ap (λ t. record { enabled = b.enabled; luma = b.luma; cb = b.cb; cr = b.cr; chroma = b.chroma; cc_cb = b.cc_cb; cc_cr = t }) cc_cr)))))

filters_same : (a b : Parts) (items : List Item) → Alike a b (named_filters items) → alf_of a items ≡ alf_of b items
filters_same a b items all =
    let luma : List Slot = named aps.ALF alf_fields.alf_aps_id_luma items in
    let chroma : List Slot = named aps.ALF alf_fields.alf_aps_id_chroma items in
    let cb : List Slot = named aps.ALF alf_fields.alf_cc_cb_aps_id items in
    let cr : List Slot = named aps.ALF alf_fields.alf_cc_cr_aps_id items in
    let behind_luma = rest_alike a b luma (chroma ++ (cb ++ cr)) all in
    let behind_chroma = rest_alike a b chroma (cb ++ cr) behind_luma in
    same_alf (alf_of a items) (alf_of b items) refl
    (same_bodies a b luma (front_alike a b luma (chroma ++ (cb ++ cr)) all)) refl refl
    (same_body a b aps.ALF alf_fields.alf_aps_id_chroma items (front_alike a b chroma (cb ++ cr) behind_luma))
    (same_body a b aps.ALF alf_fields.alf_cc_cb_aps_id items (front_alike a b cb cr behind_chroma))
    (same_body a b aps.ALF alf_fields.alf_cc_cr_aps_id items (rest_alike a b cb cr behind_chroma))

-- ---- inputs

record SameInput (a b : Input) : Type 0 where
  kind : a.kind ≡ b.kind
  sps : a.sps ≡ b.sps
  pps : a.pps ≡ b.pps
  header : a.header ≡ b.header
  slice : a.slice ≡ b.slice
  alf : a.alf ≡ b.alf
  lmcs : a.lmcs ≡ b.lmcs
  scaling : a.scaling ≡ b.scaling
  lists : a.lists ≡ b.lists
  slice_qp : a.slice_qp ≡ b.slice_qp
  place : a.place ≡ b.place
  payload : a.payload ≡ b.payload

abbrev made : Kind → List Item → List Item → List Item → List Item → Alf → Option (List ℕ × Bool) → Option (List ℕ) → RefLists → ℤ → Place → List ℕ → Input
made kind sps pps header slice alf lmcs scaling lists qp place payload =
    record { kind = kind; sps = sps; pps = pps; header = header; slice = slice; alf = alf; lmcs = lmcs; scaling = scaling; lists = lists; slice_qp = qp; place = place; payload = payload }

same_input : (a b : Input) → SameInput a b → a ≡ b
same_input a b same =
    ap (λ t. made t a.sps a.pps a.header a.slice a.alf a.lmcs a.scaling a.lists a.slice_qp a.place a.payload) same.kind
    ∙ (ap (λ t. made b.kind t a.pps a.header a.slice a.alf a.lmcs a.scaling a.lists a.slice_qp a.place a.payload) same.sps
    ∙ (ap (λ t. made b.kind b.sps t a.header a.slice a.alf a.lmcs a.scaling a.lists a.slice_qp a.place a.payload) same.pps
    ∙ (ap (λ t. made b.kind b.sps b.pps t a.slice a.alf a.lmcs a.scaling a.lists a.slice_qp a.place a.payload) same.header
    ∙ (ap (λ t. made b.kind b.sps b.pps b.header t a.alf a.lmcs a.scaling a.lists a.slice_qp a.place a.payload) same.slice
    ∙ (ap (λ t. made b.kind b.sps b.pps b.header b.slice t a.lmcs a.scaling a.lists a.slice_qp a.place a.payload) same.alf
    ∙ (ap (λ t. made b.kind b.sps b.pps b.header b.slice b.alf t a.scaling a.lists a.slice_qp a.place a.payload) same.lmcs
    ∙ (ap (λ t. made b.kind b.sps b.pps b.header b.slice b.alf b.lmcs t a.lists a.slice_qp a.place a.payload) same.scaling
    ∙ (ap (λ t. made b.kind b.sps b.pps b.header b.slice b.alf b.lmcs b.scaling t a.slice_qp a.place a.payload) same.lists
    ∙ (ap (λ t. made b.kind b.sps b.pps b.header b.slice b.alf b.lmcs b.scaling b.lists t a.place a.payload) same.slice_qp
    ∙ (ap (λ t. made b.kind b.sps b.pps b.header b.slice b.alf b.lmcs b.scaling b.lists b.slice_qp t a.payload) same.place
    ∙ ap (λ t. made b.kind b.sps b.pps b.header b.slice b.alf b.lmcs b.scaling b.lists b.slice_qp b.place t) same.payload))))))))))

-- ---- the slices of a picture

module _ (agrees : RewrittenAgree) (keeps : RewrittenKeepFields) (bodies : ExtractedKeepsBodies) (places : RewrittenKeepPlaces)
    (target : ℕ) (level : Option ℕ) (pic : Picture) (done : List Plan) (p : Plan) (ready : IsReady target pic) (ex : IsExtracted target level (parts_of pic) done p) where
  abbrev q : Parts
  q = parts_of pic

  abbrev again : Picture
  again = planned (readings_of_plans done) p

  abbrev r : Parts
  r = parts_of again

  are : AreInForce q
  are = ready.in_force

  re : AreRewritten target level q p.begun.sps p.begun.pps
  re = record { of_sps = ex.sps; of_pps = ex.pps }

  agree : AgreeForHeaders q p.begun.sps p.begun.pps
  agree = agrees target level q p.begun.sps p.begun.pps are re

  kept : KeepFields q p.begun.sps p.begun.pps
  kept = keeps target level q p.begun.sps p.begun.pps are ready.has re

  all_alike : Alike r q (named_in q target)
  all_alike s is = has_all (λ s. body_of r s.kind s.id ≡ body_of q s.kind s.id) (named_in q target) s (bodies target level pic done p ready ex) is

  -- the place
  place_same : (address : ℕ) → place_in r 0 address ≡ place_in q target address
  place_same address =
      ap (λ n. place_in (record q { sps = p.begun.sps; pps = p.begun.pps; layout = n }) 0 address) ex.layout
      ∙ places target level q p.begun.sps p.begun.pps address are ready.has re

  -- where the filters stand, and the lists
  alf_flag : number p.begun.pps pps_fields.pps_alf_info_in_ph_flag ≡ number pic.begun.pps pps_fields.pps_alf_info_in_ph_flag
  unfolding fresh
  alf_flag = sym (pps_taken target level q p.begun.sps p.begun.pps are re pps_fields.pps_alf_info_in_ph_flag refl)

  rpl_flag : number p.begun.pps pps_fields.pps_rpl_info_in_ph_flag ≡ number pic.begun.pps pps_fields.pps_rpl_info_in_ph_flag
  unfolding fresh
  rpl_flag = sym (pps_taken target level q p.begun.sps p.begun.pps are re pps_fields.pps_rpl_info_in_ph_flag refl)

  header_lists : r.header.lists ≡ q.header.lists
  header_lists = ap (λ h. lists_of (structures p.begun.sps) (in_force p.begun.sps p.begun.pps) h) ex.header ∙ agree.lists pic.begun.header

  module _ (s : Slice) (mine : s.header.subpic ≡ target) (named_here : Alike r q (aps_named_by q.pps q.header.fields (slice_header_of pic.begun s.header))) where
    abbrev old : SliceValue
    old = slice_header_of pic.begun s.header

    abbrev new : SliceValue
    new = slice_header_of p.begun (header_alone s.header)

    same_filters : filter_items r.pps r.header.fields (parts.read_of new) ≡ filter_items q.pps q.header.fields (parts.read_of old)
    same_filters =
        ap (λ n. cond (is_set n) p.begun.header s.header.fields) alf_flag
        ∙ ap (λ h. cond (is_set (number pic.begun.pps pps_fields.pps_alf_info_in_ph_flag)) h s.header.fields) ex.header

    abbrev filter_names : List Slot
    filter_names = named_filters (filter_items q.pps q.header.fields (parts.read_of old))

    abbrev lmcs_names : List Slot
    lmcs_names = named aps.LMCS ph_fields.ph_lmcs_aps_id pic.begun.header

    abbrev scaling_names : List Slot
    scaling_names = named aps.SCALING ph_fields.ph_scaling_list_aps_id pic.begun.header

    named_parts : Alike r q (filter_names ++ (lmcs_names ++ scaling_names))
    unfolding names_of
    named_parts = named_here

    alf_same : alf_of r (filter_items r.pps r.header.fields (parts.read_of new)) ≡ alf_of q (filter_items q.pps q.header.fields (parts.read_of old))
    alf_same = ap (λ xs. alf_of r xs) same_filters ∙ filters_same r q (filter_items q.pps q.header.fields (parts.read_of old)) (front_alike r q filter_names (lmcs_names ++ scaling_names) named_parts)

    lmcs_same : lmcs_of r new ≡ lmcs_of q old
    lmcs_same =
        let body = same_body r q aps.LMCS ph_fields.ph_lmcs_aps_id pic.begun.header (front_alike r q lmcs_names scaling_names (rest_alike r q filter_names (lmcs_names ++ scaling_names) named_parts)) in
        ap (λ h. cond (is_used h old ph_fields.ph_lmcs_enabled_flag sh_fields.sh_lmcs_used_flag) (option_map (λ b. (b, is_set (number h ph_fields.ph_chroma_residual_scale_flag))) (named_body r aps.LMCS ph_fields.ph_lmcs_aps_id h)) None) ex.header
        ∙ ap (λ o. cond (is_used pic.begun.header old ph_fields.ph_lmcs_enabled_flag sh_fields.sh_lmcs_used_flag) (option_map (λ b. (b, is_set (number pic.begun.header ph_fields.ph_chroma_residual_scale_flag))) o) None) body

    scaling_same : scaling_of r new ≡ scaling_of q old
    scaling_same =
        let body = same_body r q aps.SCALING ph_fields.ph_scaling_list_aps_id pic.begun.header (rest_alike r q lmcs_names scaling_names (rest_alike r q filter_names (lmcs_names ++ scaling_names) named_parts)) in
        ap (λ h. cond (is_used h old ph_fields.ph_explicit_scaling_list_enabled_flag sh_fields.sh_explicit_scaling_list_used_flag) (named_body r aps.SCALING ph_fields.ph_scaling_list_aps_id h) None) ex.header
        ∙ ap (λ o. cond (is_used pic.begun.header old ph_fields.ph_explicit_scaling_list_enabled_flag sh_fields.sh_explicit_scaling_list_used_flag) o None) body

    lists_same : lists_in_force r new ≡ lists_in_force q old
    lists_same =
        ap (λ n. cond (is_set n) r.header.lists new.lists) rpl_flag
        ∙ (ap (λ l. cond (is_set (number pic.begun.pps pps_fields.pps_rpl_info_in_ph_flag)) l new.lists) header_lists
        ∙ ap (λ l. cond (is_set (number pic.begun.pps pps_fields.pps_rpl_info_in_ph_flag)) q.header.lists l) (agree.lists s.header.fields))

    qp_kept : slice_qp r.pps r.header.fields (parts.read_of new) ≡ slice_qp q.pps q.header.fields (parts.read_of old)
    unfolding slice_qp
    qp_kept = qp_same target level pic done p are ex s.header

    place_kept : place_in r 0 new.address ≡ place_in q old.subpic old.address
    unfolding address_of
    place_kept = place_same old.address ∙ ap (λ k. place_in q k old.address) (sym mine)

    one_input : input_of again (short s) ≡ input_of pic s
    one_input = same_input (input_of again (short s)) (input_of pic s) (record {
      kind = ex.kind;
      sps = kept.of_sps;
      pps = kept.of_pps;
      header = ap (λ h. header_fields h) ex.header;
      slice = refl;
      alf = alf_same;
      lmcs = lmcs_same;
      scaling = scaling_same;
      lists = lists_same;
      slice_qp = qp_kept;
      place = place_kept;
      payload = refl;
    })

  abbrev names_all : List SlicePart → List Slot
  names_all slices = flat_map (λ (s : SlicePart). aps_named_by q.pps q.header.fields s.header) slices

  each_input : (slices : List Slice) → Alike r q (names_all (filter (λ (s : SlicePart). s.header.subpic == target) (map (slice_part pic.begun) slices)))
      → map (input_of again) (filter (λ (s : Slice). s.header.subpic == 0) (those_of target slices)) ≡ map (input_of pic) (filter (λ (s : Slice). s.header.subpic == target) slices)
  each_input [] all = refl
  each_input (s ∷ slices) all = elim (cases_Bool (s.header.subpic == target)) [
    | inl on ↦
        let here : Alike r q (aps_named_by q.pps q.header.fields (slice_header_of pic.begun s.header) ++ names_all (filter (λ (t : SlicePart). t.header.subpic == target) (map (slice_part pic.begun) slices))) = rw on at all in
        let one = one_input s (eqb-true s.header.subpic target on) (front_alike r q _ _ here) in
        let more = each_input slices (rest_alike r q _ _ here) in
        rw on (ap (λ i. i ∷ map (input_of again) (filter (λ (t : Slice). t.header.subpic == 0) (those_of target slices))) one ∙ ap (λ is. input_of pic s ∷ is) more)
    | inr off ↦
        let rest : Alike r q (names_all (filter (λ (t : SlicePart). t.header.subpic == target) (map (slice_part pic.begun) slices))) = rw off at all in
        rw off (each_input slices rest)
  ]

  pub inputs_kept : inputs_of again 0 ≡ inputs_of pic target
  inputs_kept =
      ap (λ xs. map (input_of again) (filter (λ (s : Slice). s.header.subpic == 0) xs)) (ex.slices ∙ slices_shown pic.begun target pic.slices)
      ∙ each_input pic.slices all_alike
