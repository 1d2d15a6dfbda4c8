-- The kept items of a set, absent ones among them, tell the numbers of its kept fields.
use Rattle.std.proofs.Common.{◌≡◌, inl, inr, ℕ, ℤ, pos, negsuc, ◌==◌, ◌||◌, Bool, true, IsTrue, List, [], ◌∷◌, ◌++◌, drop, map, slice_index, refl, ap, sym, subst, ◌∙◌}
use Rattle.std.proofs.lemmas.Bool.{eqb-true, or_cases}
use Rattle.std.proofs.lemmas.List.{append-nil}
use Rattle.std.proofs.lemmas.List.Elements.{filter-append}
use Rattle.vx_bits.specs.declared.list.Item.{Item}
use Rattle.vx_fields.specs.declared.pps.TheConstants as pps
use Rattle.vx_table.specs.Depends.{has}
use Rattle.vx_table.specs.Kept.{kept_along}
use Rattle.vx_table.specs.Loaded.{number}
use Rattle.vx_table.specs.Parts.{Section, sections_form}
use Rattle.vx_table.specs.Scope.{fresh, natural}
use Rattle.vx_table.specs.Shown.{shown_items}
use Rattle.vx_table.specs.Spelling.{items_along}
use Rattle.vx_table.specs.Values.{Follows}
use Rattle.vx_table.proofs.Keeping.{kept_are_shown, sections_fill_none, shown_of_shown}
use Rattle.vx_table.proofs.Agreeing.{inside_itself}
use Rattle.vx_table.proofs.Loading.{number_of_shown}
use Rattle.vx_table.proofs.Starred.{structure_keeps_only}
use Rattle.vx_pps.specs.declared.partition.Partition.{Partition}
use Rattle.vx_pps.specs.Pps.{before_tiles, kept_pps_fields, kept_pps_items}
use Rattle.vx_pps.specs.laws.Sets.{GiveSame, KeptTellsNumbers}
use Rattle.vx_pps.specs.Written.{only_item}
use Rattle.vx_pps.proofs.Cutting.{Parts, cut_parts}
use Rattle.vx_pps.proofs.Fields.{all_pass, apart, named, passes, same_with}
use Rattle.vx_pps.proofs.Flags.{flag_items}
use Rattle.vx_pps.proofs.Framing.{at_dbf, at_end, at_info, at_offsets, dbf_keeps, from_early, from_front, from_headers, from_rest, info_keeps, kept_runs, runs_clear, shows_first, shows_more}
use Rattle.vx_pps.proofs.Keeping.{kept_put}
use Rattle.vx_pps.proofs.Testing.{IsRun, before_dbf, dbf_flag, dbf_offsets, early_aside, early_fields, early_run, end, end_aside, end_fields, end_run, from_info, front_aside, front_fields, front_run, header_info, info_flags, offsets_aside, offsets_fields, offsets_run}

run_shows : (fields : List ℕ) (group : List Section) (s : List ℕ) {v : List ℤ} {a : List ℕ} → IsRun fields group → Follows (sections_form group s) v a
    → kept_along (sections_form group s) v ≡ shown_items fields (items_along (sections_form group s) v)
run_shows fields group s run on = kept_are_shown fields ((structure_keeps_only [] fields group run.1).keeps s) (sections_fill_none group s run.2) on

-- ---- what a set keeps, by its items alone

abbrev in_runs : List ℕ → List Item → List Item
in_runs fields items = shown_items fields items

abbrev dbf_flags : List Item → List Item
dbf_flags items = only_item pps.pps_dbf_info_in_ph_flag (pos (number items pps.pps_dbf_info_in_ph_flag))

abbrev header_flags : List Item → List Item
header_flags items = flag_items (number items pps.pps_rpl_info_in_ph_flag) (number items pps.pps_sao_info_in_ph_flag) (number items pps.pps_wp_info_in_ph_flag)

abbrev all_kept : List Item → List Item
all_kept items = in_runs front_fields items ++ (in_runs early_fields items ++ (dbf_flags items ++ (in_runs offsets_fields items ++ (header_flags items ++ in_runs end_fields items))))

kept_is : {items : List Item} {e : Partition} → Parts items e → kept_pps_items items ≡ all_kept items
kept_is {items} p =
    let first = run_shows front_fields before_tiles fresh front_run p.first.follows ∙ sym (from_front p front_fields runs_clear.0 front_aside) in
    let early = run_shows early_fields before_dbf p.scope early_run (at_dbf p).first ∙ sym (from_early p early_fields runs_clear.1 early_aside.0 early_aside.1) in
    let t = offsets_aside in
    let offsets = run_shows offsets_fields dbf_offsets (at_offsets p).mid offsets_run (at_info p).first
    ∙ sym (from_rest p offsets_fields runs_clear.2 t.0 t.1 t.2 ∙ shows_first dbf_offsets from_info (at_offsets p).mid (at_info p) offsets_fields t.3) in
    let u = end_aside in
    let last = run_shows end_fields end (at_end p).mid end_run (at_end p).second
    ∙ sym (from_headers p end_fields runs_clear.3 u.0 u.1 u.2 u.3 ∙ shows_more header_info end (at_info p).mid (at_end p) end_fields u.4) in
    ap kept_pps_items p.all ∙ kept_put p.first p.second p.third ∙ rw (first, kept_runs p, early, (dbf_keeps p).0, offsets, (info_keeps p).0, last) refl

-- ---- parts of it

shown_six : (set : List ℕ) (a b c d e f : List Item) → shown_items set (a ++ (b ++ (c ++ (d ++ (e ++ f)))))
    ≡ shown_items set a ++ (shown_items set b ++ (shown_items set c ++ (shown_items set d ++ (shown_items set e ++ shown_items set f))))
shown_six set a b c d e f =
    let p : Item → Bool = λ item. has set item.field in
    filter-append p a (b ++ (c ++ (d ++ (e ++ f)))) ∙ ap (λ x. shown_items set a ++ x) (filter-append p b (c ++ (d ++ (e ++ f)))
    ∙ ap (λ x. shown_items set b ++ x) (filter-append p c (d ++ (e ++ f))
    ∙ ap (λ x. shown_items set c ++ x) (filter-append p d (e ++ f)
    ∙ ap (λ x. shown_items set d ++ x) (filter-append p e f))))

itself : (set : List ℕ) (items : List Item) → shown_items set (shown_items set items) ≡ shown_items set items
itself set items = shown_of_shown set set items (inside_itself set)

-- the runs
front_told : (items : List Item) → shown_items front_fields (all_kept items) ≡ in_runs front_fields items
unfolding fresh
front_told items =
    let set = front_fields in
    shown_six set (in_runs front_fields items) (in_runs early_fields items) (dbf_flags items) (in_runs offsets_fields items) (header_flags items) (in_runs end_fields items)
    ∙ rw (itself set items, apart set early_fields items refl, apart set offsets_fields items refl, apart set end_fields items refl) (append-nil (in_runs front_fields items))

early_told : (items : List Item) → shown_items early_fields (all_kept items) ≡ in_runs early_fields items
unfolding fresh
early_told items =
    let set = early_fields in
    shown_six set (in_runs front_fields items) (in_runs early_fields items) (dbf_flags items) (in_runs offsets_fields items) (header_flags items) (in_runs end_fields items)
    ∙ rw (apart set front_fields items refl, itself set items, apart set offsets_fields items refl, apart set end_fields items refl) (append-nil (in_runs early_fields items))

offsets_told : (items : List Item) → shown_items offsets_fields (all_kept items) ≡ in_runs offsets_fields items
unfolding fresh
offsets_told items =
    let set = offsets_fields in
    shown_six set (in_runs front_fields items) (in_runs early_fields items) (dbf_flags items) (in_runs offsets_fields items) (header_flags items) (in_runs end_fields items)
    ∙ rw (apart set front_fields items refl, apart set early_fields items refl, itself set items, apart set end_fields items refl) (append-nil (in_runs offsets_fields items))

end_told : (items : List Item) → shown_items end_fields (all_kept items) ≡ in_runs end_fields items
unfolding fresh
end_told items =
    let set = end_fields in
    shown_six set (in_runs front_fields items) (in_runs early_fields items) (dbf_flags items) (in_runs offsets_fields items) (header_flags items) (in_runs end_fields items)
    ∙ rw (apart set front_fields items refl, apart set early_fields items refl, apart set offsets_fields items refl, itself set items) refl

-- the flags
dbf_told : (items : List Item) → shown_items dbf_flag (all_kept items) ≡ dbf_flags items
unfolding fresh
dbf_told items =
    let dbf : shown_items dbf_flag (dbf_flags items) ≡ dbf_flags items = refl in
    let info : shown_items dbf_flag (header_flags items) ≡ [] = refl in
    shown_six dbf_flag (in_runs front_fields items) (in_runs early_fields items) (dbf_flags items) (in_runs offsets_fields items) (header_flags items) (in_runs end_fields items)
    ∙ rw (apart dbf_flag front_fields items refl, apart dbf_flag early_fields items refl, dbf, apart dbf_flag offsets_fields items refl, info, apart dbf_flag end_fields items refl) refl

info_told : (items : List Item) → shown_items info_flags (all_kept items) ≡ header_flags items
unfolding fresh
info_told items =
    let dbf : shown_items info_flags (dbf_flags items) ≡ [] = refl in
    let info : shown_items info_flags (header_flags items) ≡ header_flags items = refl in
    shown_six info_flags (in_runs front_fields items) (in_runs early_fields items) (dbf_flags items) (in_runs offsets_fields items) (header_flags items) (in_runs end_fields items)
    ∙ rw (apart info_flags front_fields items refl, apart info_flags early_fields items refl, dbf, apart info_flags offsets_fields items refl, info, apart info_flags end_fields items refl) refl

-- ---- two sets

magnitude : ℤ → ℕ
magnitude (pos n) = n
magnitude (negsuc n) = 0

first_number : List Item → ℕ
first_number [] = 0
first_number (x ∷ xs) = magnitude x.value

-- a kept field is one of a run, or one of the four flags
abbrev is_kept : ℕ → Bool
is_kept n = (has front_fields n || has early_fields n) || ((has offsets_fields n || has end_fields n)
    || ((n == pps.pps_dbf_info_in_ph_flag || n == pps.pps_rpl_info_in_ph_flag) || (n == pps.pps_sao_info_in_ph_flag || n == pps.pps_wp_info_in_ph_flag)))

all_are_kept : passes is_kept kept_pps_fields ≡ true
unfolding fresh
all_are_kept = refl

module _ {xs ys : List Item} {c d : Partition} (p : Parts xs c) (q : Parts ys d) (same : kept_pps_items xs ≡ kept_pps_items ys) where
  all_same : all_kept xs ≡ all_kept ys
  all_same = sym (kept_is p) ∙ same ∙ kept_is q

  front_same : in_runs front_fields xs ≡ in_runs front_fields ys
  front_same = sym (front_told xs) ∙ ap (λ l. shown_items front_fields l) all_same ∙ front_told ys

  early_same : in_runs early_fields xs ≡ in_runs early_fields ys
  early_same = sym (early_told xs) ∙ ap (λ l. shown_items early_fields l) all_same ∙ early_told ys

  offsets_same : in_runs offsets_fields xs ≡ in_runs offsets_fields ys
  offsets_same = sym (offsets_told xs) ∙ ap (λ l. shown_items offsets_fields l) all_same ∙ offsets_told ys

  end_same : in_runs end_fields xs ≡ in_runs end_fields ys
  end_same = sym (end_told xs) ∙ ap (λ l. shown_items end_fields l) all_same ∙ end_told ys

  dbf_same : dbf_flags xs ≡ dbf_flags ys
  dbf_same = sym (dbf_told xs) ∙ ap (λ l. shown_items dbf_flag l) all_same ∙ dbf_told ys

  info_same : header_flags xs ≡ header_flags ys
  info_same = sym (info_told xs) ∙ ap (λ l. shown_items info_flags l) all_same ∙ info_told ys

  in_run : (fields : List ℕ) (n : ℕ) → in_runs fields xs ≡ in_runs fields ys → IsTrue (has fields n) → number xs n ≡ number ys n
  in_run fields n alike is = number_of_shown fields n xs is ∙ ap (λ l. number l n) alike ∙ sym (number_of_shown fields n ys is)

  flag : (of n : ℕ) → (n == of) ≡ true → number xs of ≡ number ys of → number xs n ≡ number ys n
  flag of n is alike = subst (λ m. number xs m ≡ number ys m) (sym (eqb-true n of is)) alike

  flags_same : (n : ℕ) → ((n == pps.pps_dbf_info_in_ph_flag || n == pps.pps_rpl_info_in_ph_flag) || (n == pps.pps_sao_info_in_ph_flag || n == pps.pps_wp_info_in_ph_flag)) ≡ true
      → number xs n ≡ number ys n
  unfolding first_number magnitude
  flags_same n is = elim (or_cases (n == pps.pps_dbf_info_in_ph_flag || n == pps.pps_rpl_info_in_ph_flag) (n == pps.pps_sao_info_in_ph_flag || n == pps.pps_wp_info_in_ph_flag) is) [
    | inl first ↦ elim (or_cases (n == pps.pps_dbf_info_in_ph_flag) (n == pps.pps_rpl_info_in_ph_flag) first) [
      | inl dbf ↦ flag pps.pps_dbf_info_in_ph_flag n dbf (ap first_number dbf_same)
      | inr lists ↦ flag pps.pps_rpl_info_in_ph_flag n lists (ap first_number info_same)
    ]
    | inr second ↦ elim (or_cases (n == pps.pps_sao_info_in_ph_flag) (n == pps.pps_wp_info_in_ph_flag) second) [
      | inl sao ↦ flag pps.pps_sao_info_in_ph_flag n sao (ap (λ l. first_number (drop 1 l)) info_same)
      | inr weights ↦ flag pps.pps_wp_info_in_ph_flag n weights (ap (λ l. first_number (drop 2 l)) info_same)
    ]
  ]

  each : (n : ℕ) → is_kept n ≡ true → number xs n ≡ number ys n
  each n is = elim (or_cases (has front_fields n || has early_fields n) _ is) [
    | inl early ↦ elim (or_cases (has front_fields n) (has early_fields n) early) [
      | inl in_front ↦ in_run front_fields n front_same in_front
      | inr in_early ↦ in_run early_fields n early_same in_early
    ]
    | inr late ↦ elim (or_cases (has offsets_fields n || has end_fields n) _ late) [
      | inl later ↦ elim (or_cases (has offsets_fields n) (has end_fields n) later) [
        | inl in_offsets ↦ in_run offsets_fields n offsets_same in_offsets
        | inr in_end ↦ in_run end_fields n end_same in_end
      ]
      | inr in_flags ↦ flags_same n in_flags
    ]
  ]

  gives_same : GiveSame xs ys
  unfolding fresh
  gives_same = record {
    numbers = λ n is. named (λ m. number xs m ≡ number ys m) kept_pps_fields n (all_pass is_kept (λ m. number xs m ≡ number ys m) each kept_pps_fields all_are_kept) is;
    active = λ list. ap (λ l. slice_index (map (λ (x : Item). natural x.value) l) list) (same_with early_fields pps.pps_num_ref_idx_default_active_minus1 xs ys refl early_same);
  }

pub kept_tells_numbers : KeptTellsNumbers
kept_tells_numbers items others is are same = gives_same (cut_parts items is.end is.set) (cut_parts others are.end are.set) same
