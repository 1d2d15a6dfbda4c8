-- The entries of a structure, as a loop over its items finds them.
use Rattle.std.proofs.Common.{◌≡◌, ℕ, ◌+◌, Bool, true, false, List, [], ◌∷◌, ◌++◌, length, take, refl, arith}
use Rattle.std.proofs.lemmas.List.{append_assoc, length-append}
use Rattle.vx_bits.specs.declared.list.Item.{Item}
use Rattle.vx_rpl.specs.declared.entry.RefEntry.{RefEntry}
use Rattle.vx_rpl.specs.Resolved.{begins_entry, is_of_structure, entry_of, entries_from}

pub entries_stop : (w : Bool) (i : ℕ) (item : Item) (rest : List Item) → is_of_structure item ≡ false → entries_from w i (item ∷ rest) ≡ []
entries_stop w i item rest is = rw is refl

pub entries_none : (w : Bool) (i : ℕ) (left : List Item) → length left ≡ 0 → entries_from w i left ≡ []
entries_none w i [] none = refl
entries_none w i (item ∷ left) none = absurd (omega arith)

-- one item more, which begins an entry or doesn't
pub entries_pushed : (w : Bool) (list all : List RefEntry) (item : Item) (rest : List Item) → is_of_structure item ≡ true → begins_entry item ≡ true
    → take 29 (list ++ entries_from w (length list) (item ∷ rest)) ≡ all
    → take 29 ((list ++ entry_of w (length list) item rest ∷ []) ++ entries_from w (length (list ++ entry_of w (length list) item rest ∷ [])) rest) ≡ all
entries_pushed w list all item rest is begins e =
    let n : length (list ++ entry_of w (length list) item rest ∷ []) ≡ length list + 1 = length-append list (entry_of w (length list) item rest ∷ []) in
    let same : take 29 (list ++ (entry_of w (length list) item rest ∷ entries_from w (length list + 1) rest)) ≡ all = (rw (is, begins) at e) in
    rw (n, append_assoc list (entry_of w (length list) item rest ∷ []) (entries_from w (length list + 1) rest)) same

pub entries_passed : (w : Bool) (list all : List RefEntry) (item : Item) (rest : List Item) → is_of_structure item ≡ true → begins_entry item ≡ false
    → take 29 (list ++ entries_from w (length list) (item ∷ rest)) ≡ all → take 29 (list ++ entries_from w (length list) rest) ≡ all
entries_passed w list all item rest is begins e = (rw (is, begins) at e)
