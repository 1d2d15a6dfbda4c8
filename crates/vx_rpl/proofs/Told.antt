-- What a header tells of entries, one entry after another.
use Rattle.std.proofs.Common.{◌≡◌, ℕ, ◌+◌, ◌≤◌, Bool, List, [], ◌∷◌, ◌++◌, length, drop, slice_get, Some, refl, ◌∙◌, ap, sym, arith}
use Rattle.std.proofs.Math.ListN.{drop_of_length-le}
use Rattle.std.proofs.lemmas.List.{append-nil, append_assoc, drop_more}
use Rattle.std.proofs.lemmas.Option.{slice_get_within, get_or_from_slice_get}
use Rattle.vx_bits.specs.declared.list.Item.{Item}
use Rattle.vx_rpl.specs.declared.entry.RefEntry.{RefEntry}
use Rattle.vx_rpl.specs.HeaderLists.{behind_entries, entry_told, behind_entry, entries_told, behind_told}

pub drop_one : (entries : List RefEntry) (i : ℕ) (entry : RefEntry) → slice_get entries i ≡ Some entry → drop i entries ≡ entry ∷ drop (i + 1) entries
drop_one entries i entry e = drop_more entries i entry (slice_get_within entries i entry e) ∙ ap (λ x. x ∷ drop (i + 1) entries) (get_or_from_slice_get entries i entry entry e)

-- what follows the items of the entries from number i on
pub behind_more : (list : List RefEntry) (i : ℕ) (entry : RefEntry) (items all : List Item) → slice_get list i ≡ Some entry
    → behind_told (drop i list) items ≡ all → behind_told (drop (i + 1) list) (behind_entry entry items) ≡ all
behind_more list i entry items all e before = ap (λ entries. behind_told entries items) (sym (drop_one list i entry e)) ∙ before

pub behind_end : (list : List RefEntry) (i : ℕ) (items all : List Item) → length list ≤ i → behind_told (drop i list) items ≡ all → items ≡ all
behind_end list i items all over before = ap (λ entries. behind_told entries items) (sym (drop_of_length-le list over)) ∙ before

-- the entries from number i on, behind those of a list
pub told_more : (in_header : Bool) (list entries all : List RefEntry) (i : ℕ) (entry : RefEntry) (items : List Item) → slice_get entries i ≡ Some entry
    → list ++ entries_told in_header (drop i entries) items ≡ all
    → (list ++ entry_told in_header entry items ∷ []) ++ entries_told in_header (drop (i + 1) entries) (behind_entry entry items) ≡ all
told_more in_header list entries all i entry items e before =
    append_assoc list (entry_told in_header entry items ∷ []) (entries_told in_header (drop (i + 1) entries) (behind_entry entry items))
    ∙ ap (λ more. list ++ entries_told in_header more items) (sym (drop_one entries i entry e)) ∙ before

pub told_end : (in_header : Bool) (list entries all : List RefEntry) (i : ℕ) (items : List Item) → length entries ≤ i
    → list ++ entries_told in_header (drop i entries) items ≡ all → list ≡ all
told_end in_header list entries all i items over before =
    sym (append-nil list) ∙ ap (λ more. list ++ entries_told in_header more items) (sym (drop_of_length-le entries over)) ∙ before

-- what follows a structure's items
pub behind_none : (left : List Item) → length left ≡ 0 → behind_entries left ≡ left
behind_none [] none = refl
behind_none (item ∷ left) none = absurd (omega arith)
