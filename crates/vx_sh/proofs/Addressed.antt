-- The address of a slice is below the number of slices of its subpicture.
use Rattle.std.proofs.Common.{◌≡◌, ◌⊎◌, inl, inr, ℕ, ℤ, pos, negsuc, ◌<◌, None, List, [], ◌∷◌, length, refl, ap, sym, subst, ◌∙◌, arith}
use Rattle.std.specs.Prelude.{nat_lt, int_le, int_lt, drop, slice_index, slice_set}
use Rattle.std.proofs.lemmas.Bool.{and_parts, cases_Bool, ltb-true}
use Rattle.std.proofs.lemmas.Grind.{get_or-set_at}
use Rattle.std.proofs.lemmas.List.{length-set, get_or-set_other}
use Rattle.vx_table.specs.declared.rows.Fault.{Fault}
use Rattle.vx_table.specs.declared.rows.Limits.TheVariants.{Below}
use Rattle.vx_table.specs.Scope.{fresh, natural, value}
use Rattle.vx_table.specs.Forms.{done, has_value, coding_at, limits_at, after, one_field, part, present, form_of}
use Rattle.vx_table.specs.Spelling.{fault_of}
use Rattle.vx_table.specs.Values.{Follows, to_end, through}
use Rattle.vx_table.specs.Claims.{hides_counter, hides_row}
use Rattle.vx_table.specs.Loaded.{number}
use Rattle.vx_table.proofs.Bounds.{unbroken}
use Rattle.vx_table.proofs.Joined.{parted}
use Rattle.vx_table.proofs.Rewrites.{left_end, tables_leave}
use Rattle.vx_fields.specs.declared.sh.TheConstants.{sh_subpic_id, sh_slice_address}
use Rattle.vx_fields.specs.declared.names.sh.TheConstants.{NUM_SUBPICS, SUBPIC, NUM_SLICES}
use Rattle.vx_layout.specs.declared.numbers.Numbers.{Numbers}
use Rattle.vx_sh.specs.declared.tables.TheConstants.{SUBPIC_ID, KNOWN_SUBPIC, ADDRESS}
use Rattle.vx_sh.specs.Whole.{index_of, num_slices_in_subpic, located, subpic_id_form, subpic_form, points_of, there, behind_header}
use Rattle.vx_sh.specs.laws.Addresses.{AddressesAreBelow}
use Rattle.vx_sh.proofs.Told.{done_is, id_is, id_size, inside_size, rest_peeled, numbers_are_told}

-- ---- the field

in_range : (bound : ℕ) (fault : Fault) (v : ℤ) → fault_of (Below bound fault) v ≡ None → natural v < bound
unfolding fault_of natural
in_range bound fault (pos n) none =
    let parts = and_parts (int_le (pos 0) (pos n)) (int_lt (pos n) (pos bound)) (unbroken _ fault none) in
    let below = ltb-true n bound parts.1 in
    omega (arith, below)
in_range bound fault (negsuc n) none = absurd (cc)

-- where it is present
present_below : (s : List ℕ) {w : List ℤ} {e : List ℕ} → length s ≡ 1024 → Follows (form_of (drop 2 ADDRESS) s) w e → slice_index e sh_slice_address < slice_index s NUM_SLICES
unfolding form_of part one_field after has_value coding_at limits_at value
present_below s size (through {v} is to_end) =
    rw (get_or-set_at s sh_slice_address sh_slice_address (natural v) 0 refl (omega (arith, size))) (in_range (slice_index s NUM_SLICES) _ v is.range)

ends_at : {s e : List ℕ} {w : List ℤ} (of : ℕ) → Follows (done s) w e → slice_index s of ≡ slice_index e of
ends_at of to_end = refl

address_below : (s : List ℕ) (w : List ℤ) (e : List ℕ) → length s ≡ 1024 → Follows (form_of ADDRESS s) w e
    → (slice_index e sh_slice_address ≡ 0) ⊎ (slice_index e sh_slice_address < slice_index s NUM_SLICES)
unfolding form_of part present one_field after has_value coding_at limits_at value
address_below s w e size follows =
    let t : List ℕ = slice_set s sh_slice_address 0 in
    let whole : length t ≡ 1024 = length-set s sh_slice_address 0 ∙ size in
    let same : slice_index t NUM_SLICES ≡ slice_index s NUM_SLICES = get_or-set_other s sh_slice_address NUM_SLICES 0 0 (λ is. absurd (omega (arith, is))) in
    let none : slice_index t sh_slice_address ≡ 0 = get_or-set_at s sh_slice_address sh_slice_address 0 0 refl (omega (arith, size)) in
    elim (cases_Bool (nat_lt 1 (slice_index t NUM_SLICES))) [
      | inl several ↦
          let here : Follows (form_of (drop 2 ADDRESS) t) w e = rw several at follows in
          inr (subst (λ n. slice_index e sh_slice_address < n) same (present_below t whole here))
      | inr one ↦
          let here : Follows (done t) w e = rw one at follows in
          inl (sym (ends_at sh_slice_address here) ∙ none)
    ]

-- ---- the number of slices

slices_are : (ids : List ℕ) (layout : Numbers) (s : List ℕ) → length s ≡ 1024 → slice_index (located ids layout s) NUM_SLICES ≡ num_slices_in_subpic layout (index_of (slice_index s sh_subpic_id) ids)
unfolding located
slices_are ids layout s size =
    let i = index_of (slice_index s sh_subpic_id) ids in
    let first = slice_set s NUM_SUBPICS (length ids) in
    let second = slice_set first SUBPIC i in
    let within : NUM_SLICES < length second = omega (arith, length-set first SUBPIC i, length-set s NUM_SUBPICS (length ids), size) in
    get_or-set_at second NUM_SLICES NUM_SLICES (num_slices_in_subpic layout i) 0 refl within

located_size : (ids : List ℕ) (layout : Numbers) (s : List ℕ) → length (located ids layout s) ≡ length s
unfolding located
located_size ids layout s =
    let i = index_of (slice_index s sh_subpic_id) ids in
    let first = slice_set s NUM_SUBPICS (length ids) in
    length-set (slice_set first SUBPIC i) NUM_SLICES (num_slices_in_subpic layout i) ∙ length-set first SUBPIC i ∙ length-set s NUM_SUBPICS (length ids)

-- ---- the whole

pub addresses_are_below : AddressesAreBelow
unfolding fresh behind_header subpic_form subpic_id_form hides_row hides_counter
addresses_are_below n fields inside f size =
    let b = parted (subpic_form n.ids n.layout f.at) (there n.table n.layout) f.ends in
    let k = parted (subpic_id_form n.ids n.layout f.at) (form_of KNOWN_SUBPIC) b.first in
    let i = parted (form_of SUBPIC_ID f.at) (λ t. done (located n.ids n.layout t)) k.first in
    let told = numbers_are_told n fields inside f size in
    let id_whole : length i.mid ≡ 1024 = sym (id_size f.at i.front i.mid i.first) ∙ sym (inside_size n.slice f.first f.at f.begins) ∙ size in
    let still = left_end ((tables_leave (NUM_SLICES ∷ []) KNOWN_SUBPIC refl).at k.mid) k.second in
    let whole : length b.mid ≡ 1024 = sym still.size ∙ ap length (sym (done_is i.second)) ∙ located_size n.ids n.layout i.mid ∙ id_whole in
    let index : index_of (slice_index i.mid sh_subpic_id) n.ids ≡ slice_index f.end SUBPIC = ap (λ id. index_of id n.ids) (id_is n fields inside f size b k i) ∙ sym told.subpic in
    let slices : slice_index b.mid NUM_SLICES ≡ num_slices_in_subpic n.layout (slice_index f.end SUBPIC)
    = sym (still.same NUM_SLICES refl) ∙ ap (λ s. slice_index s NUM_SLICES) (sym (done_is i.second)) ∙ slices_are n.ids n.layout i.mid id_whole ∙ ap (num_slices_in_subpic n.layout) index in
    let p = rest_peeled n.table (points_of n.layout b.mid) b.mid b.others f.end b.second in
    let address : slice_index p.mid sh_slice_address ≡ number fields sh_slice_address = p.agree.same sh_slice_address refl ∙ told.address in
    elim (address_below b.mid p.front p.mid whole p.follows) [
      | inl none ↦ inl (sym address ∙ none)
      | inr below ↦ inr (subst (λ m. number fields sh_slice_address < m) slices (subst (λ a. a < slice_index b.mid NUM_SLICES) address below))
    ]
