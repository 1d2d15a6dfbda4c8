-- A slice header is read at another place that agrees with its own.
use Rattle.std.proofs.Common.{◌≡◌, inl, inr, ℕ, ℤ, ◌<◌, ◌*◌, Bool, false, ◌==◌, nat_le, List, ◌∷◌, ◌++◌, length, slice_index, slice_set, refl, ap, sym, subst, ◌∙◌}
use Rattle.std.proofs.lemmas.Bool.{cases_Bool, lt-leb}
use Rattle.vx_bits.specs.declared.list.Item.{Item}
use Rattle.vx_bits.specs.Codes.{bits_of}
use Rattle.vx_table.specs.Scope.{fresh, is_set, value}
use Rattle.vx_table.specs.Forms.{Form, done, ◌>>=◌, has_value, part, present, form_of}
use Rattle.vx_table.specs.Parts.{sections_form}
use Rattle.vx_table.specs.Spelling.{Spells, items_along}
use Rattle.vx_table.specs.Values.{Follows, Parted}
use Rattle.vx_table.specs.Depends.{Agree, Alike, at_ends}
use Rattle.vx_table.specs.Claims.{knows_formula, knows_width, knows_range, knows_presence, hides_counter, hides_row, behind_field, within_block, depends, table_depends, behind_rows, behind_table}
use Rattle.vx_table.specs.laws.Again.{AllShown, shows_row}
use Rattle.vx_table.specs.Loaded.{number}
use Rattle.vx_table.proofs.Agreeing.{agree_back, agree_on, agree_set, agree_outside, others_too, with_one}
use Rattle.vx_table.proofs.Again.{follows_again, reads_again, tables_show, all_shown_then}
use Rattle.vx_table.proofs.Chains.{table_carries}
use Rattle.vx_table.proofs.Dependence.{alike_then}
use Rattle.vx_pps.proofs.Fields.{agree_fewer}
use Rattle.vx_table.proofs.Rewrites.{left_end}
use Rattle.vx_table.proofs.Joined.{parted, joined, items_joined, spells_joined, spells_parted}
use Rattle.vx_fields.specs.declared.sh.TheConstants.{sh_picture_header_in_slice_header_flag, sh_subpic_id, sh_slice_address}
use Rattle.vx_fields.specs.declared.sps.TheConstants.{sps_entropy_coding_sync_enabled_flag, sps_entry_point_offsets_present_flag}
use Rattle.vx_fields.specs.declared.names.sh.TheConstants.{NUM_SUBPICS, SUBPIC, NUM_SLICES}
use Rattle.vx_fields.specs.declared.rpl.TheConstants as rpl
use Rattle.vx_layout.specs.declared.numbers.Numbers.{Numbers}
use Rattle.vx_rpl.specs.declared.entry.RplTable.{RplTable}
use Rattle.vx_rpl.specs.HeaderLists.{lists_of}
use Rattle.vx_rpl.proofs.Following.{lists_follow_items}
use Rattle.vx_ph.specs.Header.{header_form}
use Rattle.vx_ph.specs.Depends as ph
use Rattle.vx_ph.proofs.Carrying as ph_carrying
use Rattle.vx_ph.proofs.Passing as ph_passing
use Rattle.vx_sh.specs.declared.header.SliceHeader.{SliceHeader}
use Rattle.vx_sh.specs.declared.tables.TheConstants.{HEADER_INSIDE, SUBPIC_ID, KNOWN_SUBPIC, ADDRESS}
use Rattle.vx_sh.specs.Depends.{all_given}
use Rattle.vx_sh.specs.Slice.{with_entry_points, address_form, before_lists, lists_here, between, weights_here, behind_weights, front_form, sh_before_weights, rest_form}
use Rattle.vx_sh.specs.Whole.{At, index_of, num_slices_in_subpic, located, subpic_id_form, subpic_form, points_of, there, behind_header, header_inside, slice_form}
use Rattle.vx_sh.specs.Value.{AreFields, values_of, BeginsSlice}
use Rattle.vx_sh.specs.Elsewhere.{given, HaveSubpicture, IsSameSlice, SliceReadElsewhere}
use Rattle.vx_sh.proofs.Kept.{all_depend, all_are_shown}
use Rattle.vx_sh.proofs.Told.{done_is, known_leaves, only_subpic, id_is, id_size, inside_size, located_is, count_is, refused, numbers_are_told}
use Rattle.vx_sh.proofs.Writable.{nothing_inside, something_inside}

-- ---- values that go on

-- Values of a form go through another, to an end that agrees, with the same items and the same bits.
record GoesOn (known : List ℕ) (f g : Form (List ℕ)) (values : List ℤ) (end : List ℕ) : Type 0 where
  last : List ℕ
  follows : Follows g values last
  agree : Agree known end last
  items : items_along g values ≡ items_along f values
  spells : (total : ℕ) (left rest : List Bool) → Spells total f values left rest → Spells total g values left rest

alike_goes : {shown known : List ℕ} {f g : Form (List ℕ)} {values : List ℤ} {end : List ℕ} → Alike shown known f g → AllShown shown f → AllShown shown g
    → Follows f values end → GoesOn known f g values end
alike_goes {shown} {known} {f} {g} {values} {end} alike all others on =
    let too = follows_again shown known f g values end alike all others on in
    record {
      last = too.last;
      follows = too.follows;
      agree = too.agree;
      items = too.items;
      spells = λ total left rest spelled. reads_again shown known f g total values left rest alike all others spelled;
    }

-- one part behind another
goes_together : {mid known : List ℕ} {f g : Form (List ℕ)} (next other : List ℕ → Form (List ℕ)) {values : List ℤ} {end : List ℕ} (p : Parted f next values end)
    (first : GoesOn mid f g p.front p.mid) → GoesOn known (next p.mid) (other first.last) p.others end → GoesOn known (f >>= next) (g >>= other) values end
goes_together {f} {g} next other p first second = record {
  last = second.last;
  follows = subst (λ w. Follows (g >>= other) w second.last) (sym p.all) (joined other first.follows second.follows);
  agree = second.agree;
  items = ap (items_along (g >>= other)) p.all ∙ items_joined other p.others first.follows ∙ ap (λ x. x ++ items_along (other first.last) p.others) first.items
      ∙ ap (λ x. items_along f p.front ++ x) second.items ∙ sym (items_joined next p.others p.first) ∙ ap (items_along (f >>= next)) (sym p.all);
  spells = λ total left rest spelled.
      let parts = spells_parted next p.first (subst (λ w. Spells total (f >>= next) w left rest) p.all spelled) in
      subst (λ w. Spells total (g >>= other) w left rest) (sym p.all)
      (spells_joined other first.follows (first.spells total left parts.0 parts.1) (second.spells total parts.0 rest parts.2));
}

-- ---- forms through which the same values go to the same ends

record GoSame (f g : Form (List ℕ)) : Type 0 where
  follows : (w : List ℤ) (a : List ℕ) → Follows f w a → Follows g w a
  items : (w : List ℤ) (a : List ℕ) → Follows f w a → items_along g w ≡ items_along f w
  spells : (total : ℕ) (w : List ℤ) (a : List ℕ) (left rest : List Bool) → Follows f w a → Spells total f w left rest → Spells total g w left rest

-- parts behind that are the same
same_behind : (f : Form (List ℕ)) (next other : List ℕ → Form (List ℕ)) → ((t : List ℕ) → next t ≡ other t) → GoSame (f >>= next) (f >>= other)
same_behind f next other same = record {
  follows = λ w a on.
      let p = parted f next on in
      subst (λ x. Follows (f >>= other) x a) (sym p.all) (joined other p.first (subst (λ g. Follows g p.others a) (same p.mid) p.second));
  items = λ w a on.
      let p = parted f next on in
      ap (items_along (f >>= other)) p.all ∙ items_joined other p.others p.first ∙ ap (λ g. items_along f p.front ++ items_along g p.others) (sym (same p.mid))
      ∙ sym (items_joined next p.others p.first) ∙ ap (items_along (f >>= next)) (sym p.all);
  spells = λ total w a left rest on spelled.
      let p = parted f next on in
      let parts = spells_parted next p.first (subst (λ x. Spells total (f >>= next) x left rest) p.all spelled) in
      subst (λ x. Spells total (f >>= other) x left rest) (sym p.all)
      (spells_joined other p.first parts.1 (subst (λ g. Spells total g p.others parts.0 rest) (same p.mid) parts.2));
}

same_before : {f g : Form (List ℕ)} (next : List ℕ → Form (List ℕ)) → GoSame f g → GoSame (f >>= next) (g >>= next)
same_before {f} {g} next same = record {
  follows = λ w a on.
      let p = parted f next on in
      subst (λ x. Follows (g >>= next) x a) (sym p.all) (joined next (same.follows p.front p.mid p.first) p.second);
  items = λ w a on.
      let p = parted f next on in
      ap (items_along (g >>= next)) p.all ∙ items_joined next p.others (same.follows p.front p.mid p.first)
      ∙ ap (λ x. x ++ items_along (next p.mid) p.others) (same.items p.front p.mid p.first)
      ∙ sym (items_joined next p.others p.first) ∙ ap (items_along (f >>= next)) (sym p.all);
  spells = λ total w a left rest on spelled.
      let p = parted f next on in
      let parts = spells_parted next p.first (subst (λ x. Spells total (f >>= next) x left rest) p.all spelled) in
      subst (λ x. Spells total (g >>= next) x left rest) (sym p.all)
      (spells_joined next (same.follows p.front p.mid p.first) (same.spells total p.front p.mid left parts.0 p.first parts.1) parts.2);
}

goes_same : {known : List ℕ} {f g h : Form (List ℕ)} {values : List ℤ} {end : List ℕ} → GoesOn known f g values end → GoSame g h → GoesOn known f h values end
goes_same {values} goes same = record {
  last = goes.last;
  follows = same.follows values goes.last goes.follows;
  agree = goes.agree;
  items = same.items values goes.last goes.follows ∙ goes.items;
  spells = λ total left rest spelled. same.spells total values goes.last left rest goes.follows (goes.spells total left rest spelled);
}

-- entry points that are the same at each address
rest_same : (table : RplTable) (points other : ℕ → ℕ) (s : List ℕ) → ((a : ℕ) → points a ≡ other a) → GoSame (rest_form table points s) (rest_form table other s)
unfolding with_entry_points address_form front_form sh_before_weights rest_form
rest_same table points other s same =
    same_before (sections_form behind_weights)
    (same_before weights_here
    (same_before (sections_form between)
    (same_before (lists_here table)
    (same_before (sections_form before_lists)
    (same_behind (form_of ADDRESS s) (λ t. done (with_entry_points points t)) (λ t. done (with_entry_points other t))
    (λ t. rw (same (slice_index t sh_slice_address)) refl))))))

-- ---- the parts

-- what agrees behind the first field, behind the id, and behind the subpicture
known_1 : List ℕ
known_1 = sh_picture_header_in_slice_header_flag ∷ given

known_2 : List ℕ
known_2 = sh_subpic_id ∷ known_1

known_3 : List ℕ
known_3 = NUM_SLICES ∷ known_2

goes_first : (s t : List ℕ) (values : List ℤ) (end : List ℕ) → Agree given s t → Follows (form_of HEADER_INSIDE s) values end
    → GoesOn known_1 (form_of HEADER_INSIDE s) (form_of HEADER_INSIDE t) values end
unfolding fresh has_value knows_formula knows_width knows_range knows_presence hides_counter hides_row behind_field within_block depends table_depends behind_rows behind_table shows_row known_1
goes_first s t values end agree on =
    let carries = table_carries known_1 given HEADER_INSIDE refl in
    let all = tables_show known_1 HEADER_INSIDE refl in
    alike_goes (carries.alike (with_one given sh_picture_header_in_slice_header_flag) s t agree) (all.at s) (all.at t) on

goes_id : (s t : List ℕ) (values : List ℤ) (end : List ℕ) → Agree known_1 s t → Follows (form_of SUBPIC_ID s) values end
    → GoesOn known_2 (form_of SUBPIC_ID s) (form_of SUBPIC_ID t) values end
unfolding fresh has_value knows_formula knows_width knows_range knows_presence hides_counter hides_row behind_field within_block depends table_depends behind_rows behind_table shows_row known_1 known_2
goes_id s t values end agree on =
    let carries = table_carries known_2 known_1 SUBPIC_ID refl in
    let all = tables_show known_2 SUBPIC_ID refl in
    alike_goes (carries.alike (with_one known_1 sh_subpic_id) s t agree) (all.at s) (all.at t) on

-- the picture header, where it stands inside
abbrev flag : List ℕ → ℕ
flag s = slice_index s sh_picture_header_in_slice_header_flag

goes_inside : (table : RplTable) (sets others s t : List ℕ) (values : List ℤ) (end : List ℕ) → Agree ph.all_of_sets sets others → Agree known_1 s t
    → Follows (header_inside table sets s) values end → GoesOn known_1 (header_inside table sets s) (header_inside table others t) values end
unfolding fresh known_1
goes_inside table sets others s t values end agree_sets agree on =
    let same : flag s ≡ flag t = agree.same sh_picture_header_in_slice_header_flag refl in
    elim (cases_Bool (flag s == 0)) [
      | inl none ↦
          let here = nothing_inside table sets s none in
          let there = nothing_inside table others t (rw same at none) in
          rw (here, there) (alike_goes {shown = known_1} (at_ends agree) tt tt (rw here at on))
      | inr some ↦
          let here = something_inside table sets s some in
          let there = something_inside table others t (rw same at some) in
          let shown = ph.all_of_sets ++ ph.of_header in
          let all = ph_passing.shows_all table in
          rw (here, there) (alike_goes {shown = shown} (alike_then ((ph_carrying.all_depend table).alike sets others agree_sets) (λ u w behind. at_ends agree))
          (all_shown_then shown (header_form table sets) (λ u. done s) (all.at sets) (λ u. tt)) (all_shown_then shown (header_form table others) (λ u. done t) (all.at others) (λ u. tt)) (rw here at on))
    ]

inside_ends : (table : RplTable) (sets s : List ℕ) (values : List ℤ) (end : List ℕ) → Follows (header_inside table sets s) values end → s ≡ end
inside_ends table sets s values end on = elim (cases_Bool (flag s == 0)) [
  | inl none ↦ done_is (rw (nothing_inside table sets s none) at on)
  | inr some ↦ done_is (parted (header_form table sets) (λ t. done s) (rw (something_inside table sets s some) at on)).second
]

-- the subpicture
located_agree : (ids others : List ℕ) (layout other : Numbers) (s t : List ℕ) → Agree known_2 s t
    → num_slices_in_subpic layout (index_of (slice_index s sh_subpic_id) ids) ≡ num_slices_in_subpic other (index_of (slice_index t sh_subpic_id) others)
    → Agree known_3 (located ids layout s) (located others other t)
unfolding fresh known_1 known_2 known_3 located
located_agree ids others layout other s t agree same =
    let i = index_of (slice_index s sh_subpic_id) ids in
    let j = index_of (slice_index t sh_subpic_id) others in
    let here = agree_on (agree_outside known_2 s NUM_SUBPICS (length ids) refl) (agree_outside known_2 (slice_set s NUM_SUBPICS (length ids)) SUBPIC i refl) in
    let there = agree_on (agree_outside known_2 t NUM_SUBPICS (length others) refl) (agree_outside known_2 (slice_set t NUM_SUBPICS (length others)) SUBPIC j refl) in
    rw same (agree_set NUM_SLICES (num_slices_in_subpic other j) (λ m is_not h. others_too known_2 NUM_SLICES m is_not h) (agree_on (agree_back here) (agree_on agree there)))

goes_located : (ids others : List ℕ) (layout other : Numbers) (s t : List ℕ) (values : List ℤ) (end : List ℕ) → Agree known_2 s t
    → num_slices_in_subpic layout (index_of (slice_index s sh_subpic_id) ids) ≡ num_slices_in_subpic other (index_of (slice_index t sh_subpic_id) others)
    → Follows (done (located ids layout s)) values end → GoesOn known_3 (done (located ids layout s)) (done (located others other t)) values end
goes_located ids others layout other s t values end agree same on = alike_goes {shown = known_3} (at_ends (located_agree ids others layout other s t agree same)) tt tt on

-- it is refused exactly where it is none of them
found : (s : List ℕ) → nat_le (slice_index s NUM_SUBPICS) (slice_index s SUBPIC) ≡ false → form_of KNOWN_SUBPIC s ≡ done s
unfolding form_of part present value
found s is_not = rw is_not refl

goes_known : (s t : List ℕ) (w : List ℤ) (u : List ℕ) → Agree known_3 s t → slice_index t SUBPIC < slice_index t NUM_SUBPICS → Follows (form_of KNOWN_SUBPIC s) w u
    → GoesOn known_3 (form_of KNOWN_SUBPIC s) (form_of KNOWN_SUBPIC t) w u
goes_known s t w u agree known on =
    let there = found t (lt-leb (slice_index t NUM_SUBPICS) (slice_index t SUBPIC) known) in
    elim (cases_Bool (nat_le (slice_index s NUM_SUBPICS) (slice_index s SUBPIC))) [
      | inl is ↦ absurd (refused s w u is on)
      | inr is_not ↦ let here = found s is_not in rw (here, there) (alike_goes {shown = known_3} (at_ends agree) tt tt (rw here at on))
    ]

index_is : (ids : List ℕ) (layout : Numbers) (s at : List ℕ) (w : List ℤ) (u : List ℕ) → length s ≡ 1024 → located ids layout s ≡ at → Follows (form_of KNOWN_SUBPIC at) w u
    → slice_index u SUBPIC ≡ index_of (slice_index s sh_subpic_id) ids
unfolding fresh only_subpic
index_is ids layout s at w u size is on =
    sym ((left_end (known_leaves.at at) on).same SUBPIC refl) ∙ ap (λ x. slice_index x SUBPIC) (sym is) ∙ located_is ids layout s size

-- all that the rest depends on is known there
all_agree : (s t : List ℕ) → Agree known_3 s t → Agree all_given s t
unfolding known_1 known_2 known_3
all_agree s t agree = agree_fewer all_given known_3 s t refl agree

-- what is behind
goes_there : (table : RplTable) (layout other : Numbers) (s t : List ℕ) (values : List ℤ) (end : List ℕ) → Agree known_3 s t → ((a : ℕ) → points_of layout s a ≡ points_of other t a)
    → Follows (there table layout s) values end → GoesOn all_given (there table layout s) (there table other t) values end
goes_there table layout other s t values end agree same on =
    let given_agree : Agree all_given s t = all_agree s t agree in
    let points = points_of layout s in
    let all = all_are_shown table points in
    goes_same (alike_goes ((all_depend table points).alike s t given_agree) (all.at s) (all.at t) on) (rest_same table points (points_of other t) t same)

-- ---- the whole

-- a place with the same structures of lists
at_place : At → List ℕ → List ℕ → List ℕ → Numbers → At
at_place n sets slice ids layout = record { table = n.table; sets = sets; slice = slice; ids = ids; layout = layout }

-- the parts of a slice header there
record IsThere (n m : At) (fields : List Item) (inside : List ℤ) (f : AreFields n fields inside) : Type 0 where
  there : AreFields m fields inside
  spells : (total : ℕ) (left rest : List Bool) → Spells total (slice_form n) (values_of f) left rest → Spells total (slice_form m) (values_of there) left rest

is_there : (n : At) (sets slice ids : List ℕ) (layout : Numbers) (fields : List Item) (inside : List ℤ) (f : AreFields n fields inside) → length n.slice ≡ 1024
    → Agree ph.all_of_sets n.sets sets → Agree given n.slice slice → HaveSubpicture n (at_place n sets slice ids layout) (number fields sh_subpic_id)
    → IsThere n (at_place n sets slice ids layout) fields inside f
unfolding goes_together at_place fresh known_1 known_2 known_3 behind_header subpic_form subpic_id_form slice_form
is_there n sets slice ids layout fields inside f size agree_sets agree have =
    let id = number fields sh_subpic_id in
    let first = goes_first n.slice slice f.first f.at agree f.begins in
    let header = goes_inside n.table n.sets sets f.at first.last inside f.at agree_sets first.agree f.goes_on in
    let at : header.last ≡ first.last = sym (inside_ends n.table sets first.last inside header.last header.follows) in
    let b = parted (subpic_form n.ids n.layout f.at) (there n.table n.layout) f.ends in
    let k = parted (subpic_id_form n.ids n.layout f.at) (form_of KNOWN_SUBPIC) b.first in
    let i = parted (form_of SUBPIC_ID f.at) (λ t. done (located n.ids n.layout t)) k.first in
    let named = goes_id f.at first.last i.front i.mid first.agree i.first in
    let here : slice_index i.mid sh_subpic_id ≡ id = id_is n fields inside f size b k i in
    let there_id : slice_index named.last sh_subpic_id ≡ id = sym (named.agree.same sh_subpic_id refl) ∙ here in
    let here_size : length i.mid ≡ 1024 = sym (id_size f.at i.front i.mid i.first) ∙ sym (inside_size n.slice f.first f.at f.begins) ∙ size in
    let there_size : length named.last ≡ 1024 = sym named.agree.size ∙ here_size in
    let slices : num_slices_in_subpic n.layout (index_of (slice_index i.mid sh_subpic_id) n.ids) ≡ num_slices_in_subpic layout (index_of (slice_index named.last sh_subpic_id) ids)
    = rw (here, there_id) have.slices in
    let located_there = goes_located n.ids ids n.layout layout i.mid named.last i.others k.mid named.agree slices i.second in
    let at_id = goes_together (λ t. done (located n.ids n.layout t)) (λ t. done (located ids layout t)) i named located_there in
    let is_located : located ids layout named.last ≡ at_id.last = done_is located_there.follows in
    let known : slice_index at_id.last SUBPIC < slice_index at_id.last NUM_SUBPICS
    = rw (← is_located, located_is ids layout named.last there_size, count_is ids layout named.last there_size, there_id) have.known in
    let known_there = goes_known k.mid at_id.last k.others b.mid at_id.agree known k.second in
    let at_subpic = goes_together (form_of KNOWN_SUBPIC) (form_of KNOWN_SUBPIC) k at_id known_there in
    let index_here = index_is n.ids n.layout i.mid k.mid k.others b.mid here_size (done_is i.second) k.second ∙ ap (λ x. index_of x n.ids) here in
    let index_there = index_is ids layout named.last at_id.last k.others at_subpic.last there_size is_located known_there.follows ∙ ap (λ x. index_of x ids) there_id in
    let points : (a : ℕ) → points_of n.layout b.mid a ≡ points_of layout at_subpic.last a
    = λ a. rw (at_subpic.agree.same sps_entry_point_offsets_present_flag refl, at_subpic.agree.same sps_entropy_coding_sync_enabled_flag refl, index_here, index_there) (have.points _ _ a) in
    let rest = goes_there n.table n.layout layout b.mid at_subpic.last b.others f.end at_subpic.agree points b.second in
    let behind = goes_together (there n.table n.layout) (there n.table layout) b at_subpic rest in
    let inside_there : Follows (header_inside n.table sets first.last) inside first.last = subst (λ e. Follows (header_inside n.table sets first.last) inside e) at header.follows in
    record {
      there = record {
        first = f.first;
        behind = f.behind;
        at = first.last;
        end = behind.last;
        begins = first.follows;
        goes_on = inside_there;
        ends = behind.follows;
        all = f.all ∙ ap (λ x. x ++ items_along (behind_header n.table n.ids n.layout f.at) f.behind) (sym first.items)
            ∙ ap (λ x. items_along (form_of HEADER_INSIDE slice) f.first ++ x) (sym behind.items);
      };
      spells = λ total left rest_bits spelled.
          let whole = spells_parted (behind_header n.table n.ids n.layout) (joined (header_inside n.table n.sets) f.begins f.goes_on) spelled in
          let front = spells_parted (header_inside n.table n.sets) f.begins whole.1 in
          spells_joined (behind_header n.table ids layout) (joined (header_inside n.table sets) first.follows inside_there)
          (spells_joined (header_inside n.table sets) first.follows (first.spells total left front.0 front.1) (header.spells total front.0 whole.0 front.2))
          (behind.spells total whole.0 rest_bits whole.2);
    }

abbrev Found : At → At → List ℕ → SliceHeader → ℕ → Type 0
Found n m rbsp header size = (other : SliceHeader) × BeginsSlice m rbsp other size × IsSameSlice header other
    × (other.subpic ≡ index_of (number header.fields sh_subpic_id) m.ids)

read_there : (n : At) (sets slice ids : List ℕ) (layout : Numbers) (rbsp : List ℕ) (header : SliceHeader) (size : ℕ) → length n.slice ≡ 1024
    → Agree ph.all_of_sets n.sets sets → Agree given n.slice slice → HaveSubpicture n (at_place n sets slice ids layout) (number header.fields sh_subpic_id)
    → BeginsSlice n rbsp header size → Found n (at_place n sets slice ids layout) rbsp header size
unfolding fresh at_place
read_there n sets slice ids layout rbsp header size long agree_sets agree have begins =
    let m = at_place n sets slice ids layout in
    let f = begins.fields in
    let is = is_there n sets slice ids layout header.fields begins.inside f long agree_sets agree have in
    let here = numbers_are_told n header.fields begins.inside f long in
    let told = numbers_are_told m header.fields begins.inside is.there (sym agree.size ∙ long) in
    let other : SliceHeader = record { inside = header.inside; fields = header.fields; subpic = index_of (number header.fields sh_subpic_id) ids; address = header.address; lists = header.lists } in
    let lists : lists_of n.table n.sets header.fields ≡ lists_of n.table sets header.fields
    = lists_follow_items n.table ph.all_of_sets n.sets sets rpl.ALL header.fields header.fields agree_sets refl refl refl refl refl refl in
    let slice_there : BeginsSlice m rbsp other size = record {
      inside = begins.inside;
      fields = is.there;
      rest = begins.rest;
      spelled = is.spells (8 * length rbsp) (bits_of rbsp) begins.rest begins.spelled;
      numbers = record {
        inside = begins.numbers.inside ∙ ap is_set (here.inside ∙ sym told.inside);
        subpic = sym told.subpic;
        address = begins.numbers.address ∙ here.address ∙ sym told.address;
        lists = begins.numbers.lists ∙ lists;
      };
      size = begins.size;
      last = begins.last;
    } in
    (other, slice_there, record { inside = refl; fields = refl; address = refl; lists = refl }, refl)

pub slice_read_elsewhere : SliceReadElsewhere
unfolding at_place
slice_read_elsewhere n m rbsp header size long agree begins =
    let same : at_place n m.sets m.slice m.ids m.layout ≡ m = ap (λ t. record { table = t; sets = m.sets; slice = m.slice; ids = m.ids; layout = m.layout }) agree.table in
    let have : HaveSubpicture n (at_place n m.sets m.slice m.ids m.layout) (number header.fields sh_subpic_id)
    = record { known = agree.subpic.known; slices = agree.subpic.slices; points = agree.subpic.points } in
    subst (λ (k : At). Found n k rbsp header size) same (read_there n m.sets m.slice m.ids m.layout rbsp header size long agree.sets agree.slice have begins)
