-- The bytes that a queue holds in its buffer.
use Rattle.std.proofs.Common.{◌≡◌, ℕ, ◌+◌, ◌-◌, ◌≤◌, List, ◌++◌, Option, length, take, drop, slice_range, min, sym, ap, ⊎_elim, ◌∙◌, arith, rules, length-append}
use Rattle.std.proofs.Math.Seq.{take-append-add, take_all}
use Rattle.std.proofs.lemmas.List.{append-nil, drop-append-le, take-append-le, take-append-drop, drop-drop, take-take, length-take, length-take-le}
use Rattle.std.proofs.Math.Seq.{paste}
use Rattle.std.proofs.lemmas.Bool.{cases_lt}
use Rattle.std.proofs.lemmas.Slice.{between_is, overwrites}
use Rattle.std.specs.Io.KnownBytes.{Consumes, IsAtEnd}
use Rattle.vx_annexb.specs.inner.Queue.{Receives}
use borrow.Rule.Slice.PartMut.{put_mid, post_of}

-- the first k of the bytes held are passed
pub pass_items : (b : List ℕ) (first last k : ℕ) → slice_range b (first + k) last ≡ drop k (slice_range b first last)
pass_items b first last k =
    between_is b (first + k) last
    ∙ sym (drop-drop k first (take last b))
    ∙ sym (ap (drop k) (between_is b first last))

-- the first bytes of a list are those of a longer one
take_begins : (b b' : List ℕ) (n len : ℕ) → n ≤ len → n ≤ length b → take len b' ≡ b → take n b' ≡ take n b
take_begins b b' n len low within begins =
    ap (take n) (sym (take-append-drop len b') ∙ ap (λ xs. xs ++ drop len b') begins) ∙ take-append-le n b (drop len b') within

pub length_begins : (b b' : List ℕ) (len : ℕ) → take len b' ≡ b → length b ≤ length b'
length_begins b b' len begins = let e = ap length begins in omega (arith, length-take len b')

-- the buffer is longer
pub lengthen_items : (b b' : List ℕ) (len first last : ℕ) → length b ≡ len → last ≤ len → take len b' ≡ b → slice_range b' first last ≡ slice_range b first last
lengthen_items b b' len first last len_is within begins =
    between_is b' first last
    ∙ ap (drop first) (take_begins b b' last len within (omega arith) begins)
    ∙ sym (between_is b first last)

-- n bytes behind the bytes held are those of a part that was written there
part_items : (b ys zs : List ℕ) (first last n : ℕ) → first ≤ last → last ≤ length b → n ≤ length ys
    → slice_range (take last b ++ (ys ++ zs)) first (last + n) ≡ slice_range b first last ++ take n ys
part_items b ys zs first last n order within some =
    let front = length-take-le last b within in
    between_is (take last b ++ (ys ++ zs)) first (last + n)
    ∙ ap (drop first) (ap (λ m. take (m + n) (take last b ++ (ys ++ zs))) (sym front) ∙ take-append-add (take last b) (ys ++ zs) n ∙ ap (λ xs. take last b ++ xs) (take-append-le n ys zs some))
    ∙ drop-append-le first (take last b) (take n ys) (omega (arith, front))
    ∙ ap (λ xs. xs ++ take n ys) (sym (between_is b first last))

-- the same of the whole buffer, which was lent as s
module _ (b s ys : List ℕ) (first last len k : ℕ) (is : s ≡ b) (len_is : length s ≡ len) (order : first ≤ last) (within : last + k ≤ len) (k_is : length ys ≡ k) where
  pub put_items : (n end : ℕ) → n ≤ k → end ≡ last + n → slice_range (take len (put_mid last k s ys ++ drop (length (put_mid last k s ys)) b)) first end ≡ slice_range b first last ++ take n ys
  put_items n end some end_is =
      let b_len : length b ≡ len = sym (ap length is) ∙ len_is in
      let x = put_mid last k b ys in
      let rest = drop (length x) b in
      let long : last + n ≤ length x = omega (arith, length-append (take last b) (ys ++ post_of last k b), length-append ys (post_of last k b), length-take-le last b (omega arith)) in
      let w = take len (x ++ rest) in
      let same : take (last + n) w ≡ take (last + n) x = take-take (last + n) len (x ++ rest) (omega arith) ∙ take-append-le (last + n) x rest long in
      rw (is, end_is) (
      between_is w first (last + n)
      ∙ ap (drop first) same
      ∙ sym (between_is x first (last + n))
      ∙ part_items b ys (post_of last k b) first last n order (omega arith) (omega arith)
      )

  -- the bytes held stay
  pub stay_items : slice_range (take len (put_mid last k s ys ++ drop (length (put_mid last k s ys)) b)) first last ≡ slice_range b first last
  stay_items = put_items 0 last (omega arith) (omega arith) ∙ append-nil (slice_range b first last)

-- the bytes held are moved to the front
pub moved_items : (b : List ℕ) (first last : ℕ) → first ≤ last → last ≤ length b → slice_range (paste b 0 (drop first b) (last - first)) 0 (last - first) ≡ slice_range b first last
moved_items b first last order within = search (rules, overwrites)

-- the first of the bytes that came, up to the limit
take_front : (limit count : ℕ) (into : List ℕ) → take (min count limit) into ≡ take limit (take count into)
take_front limit count into = ⊎_elim
    (λ below. let e : min count limit ≡ limit = omega arith in ap (λ n. take n into) e ∙ sym (take-take limit count into (omega arith)))
    (λ above. let e : min count limit ≡ count = omega arith in ap (λ n. take n into) e ∙ sym (take_all limit (take count into) (omega (arith, length-take count into))))
    (cases_lt limit count)

-- what a read of a source into the room gave, of which the first bytes up to the limit are put behind those held
module _ (items items' into : List ℕ) (left left' : Option (List ℕ)) (limit count : ℕ) where
  pub received : count ≡ length (take count into) → Consumes left left' (take count into) → (count ≡ 0 → IsAtEnd left') → items' ≡ items ++ take (min count limit) into → Receives limit count items items' left left'
  received came consumed end put = record {
    piece = take count into;
    consumed = consumed;
    came = sym came;
    put = put ∙ ap (λ xs. items ++ xs) (take_front limit count into);
    end = end;
  }
