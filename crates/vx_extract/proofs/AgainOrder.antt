-- What is written for a picture of a stream is whole, in order, and no larger than a picture may be.
use Rattle.std.proofs.Common.{◌≡◌, ℕ, zero, suc, ◌+◌, ◌<◌, ◌≤◌, ◌==◌, List, [], ◌∷◌, length, map, Option, ap, sym, subst, ◌∙◌, inl, inr, arith}
use Rattle.std.specs.Prelude.{sum_by}
use Rattle.std.specs.List.{range_with_len}
use Rattle.std.proofs.lemmas.Bool.{cases_Bool}
use Rattle.std.proofs.lemmas.List.{length-map}
use Rattle.std.proofs.lemmas.List.FromFn.{length-range_with_len}
use Rattle.std.proofs.lemmas.List.Sums.{sum_by-cons}
use Rattle.vx_layout.specs.Layouts.{slices_in, subpic_at}
use Rattle.vx_layout.specs.Regions.{counted_from}
use Rattle.vx_pic.specs.Sets.{SliceHeader, address_of, slices_before}
use Rattle.vx_pic.specs.Readings.{Begun, Picture, Slice}
use Rattle.vx_pic.specs.Parts.{parts_of}
use Rattle.vx_pic.specs.Rules.{picture_limit, picture_size, unit_size}
use Rattle.vx_pic.specs.Whole.{HasAllInOrder, subpic_slices}
use Rattle.vx_pic.specs.Written.{AreInOrder, Plan, planned_slices}
use Rattle.vx_extract.specs.Written.{IsExtracted}
use Rattle.vx_write.specs.Again.{IsWholePlan}
use Rattle.vx_extract.specs.Again.{header_alone}
use Rattle.vx_extract.proofs.AgainUnits.{short, slices_shown, those_of}

-- of the one subpicture a slice's place is its address
alone_at : (b : Begun) (h : SliceHeader) → slices_before b.layout (header_alone h) ≡ address_of h
unfolding slices_before address_of
alone_at b h = omega arith

head_of : ℕ → List ℕ → ℕ
head_of d [] = d
head_of d (n ∷ ns) = n

tail_of : List ℕ → List ℕ
tail_of [] = []
tail_of (n ∷ ns) = ns

-- slices whose addresses rise by 1 stand in order
in_order_from : (b : Begun) (n count : ℕ) (slices : List Slice) → map (λ s. address_of s.header) slices ≡ range_with_len n count → AreInOrder b n (map short slices)
unfolding head_of tail_of
in_order_from b n count [] rise = tt
in_order_from b n zero (s ∷ slices) rise = absurd (omega (arith, ap (λ ns. length ns) rise))
in_order_from b n (suc count) (s ∷ slices) rise = (alone_at b s.header ∙ ap (λ ns. head_of (address_of s.header) ns) rise, in_order_from b (n + 1) count slices (ap tail_of rise))

-- some slices have no more bytes than all
fewer_bytes : (target : ℕ) (slices : List Slice) → sum_by (λ (s : Slice). length s.unit) (those_of target slices) ≤ sum_by (λ (s : Slice). length s.unit) slices
fewer_bytes target [] = omega arith
fewer_bytes target (s ∷ slices) =
    let rest = fewer_bytes target slices in
    let all = sum_by-cons (λ (t : Slice). length t.unit) s slices in
    elim (cases_Bool (s.header.subpic == target)) [
      | inl on ↦ rw on (let some = sum_by-cons (λ (t : Slice). length t.unit) (short s) (those_of target slices) in omega (arith, rest, all, some))
      | inr off ↦ rw off (omega (arith, rest, all))
    ]

pub whole_again : (target : ℕ) (level : Option ℕ) (pic : Picture) (done : List Plan) (p : Plan) → HasAllInOrder pic → picture_size pic ≤ picture_limit → target < length pic.begun.layout.subpics → IsExtracted target level (parts_of pic) done p
    → IsWholePlan p
whole_again target level pic done p each size within ex =
    let slices : planned_slices p ≡ those_of target pic.slices = ex.slices ∙ slices_shown pic.begun target pic.slices in
    let count : ℕ = length (slices_in pic.begun.layout target) in
    let rise : map (λ s. address_of s.header) (subpic_slices pic target) ≡ range_with_len 0 count = each target within in
    let many : length (planned_slices p) ≡ count =
    ap (λ xs. length xs) slices ∙ length-map (subpic_slices pic target) short ∙ sym (length-map (subpic_slices pic target) (λ (s : Slice). address_of s.header)) ∙ ap (λ ns. length ns) rise ∙ length-range_with_len 0 count in
    let bytes : sum_by (λ (s : Slice). length s.unit) (planned_slices p) ≤ sum_by (λ (s : Slice). length s.unit) pic.slices =
    subst (λ xs. sum_by (λ (s : Slice). length s.unit) xs ≤ sum_by (λ (s : Slice). length s.unit) pic.slices) (sym slices) (fewer_bytes target pic.slices) in
    let header : unit_size p.begun.unit ≡ unit_size pic.begun.unit = ap unit_size ex.unit in
    record {
      order = subst (λ xs. AreInOrder p.begun 0 xs) (sym slices) (in_order_from p.begun 0 count (subpic_slices pic target) rise);
      all = many ∙ sym (ap (λ l. length l.slices) ex.layout ∙ length-map (slices_in pic.begun.layout target) (counted_from (subpic_at pic.begun.layout target)));
      size = omega (arith, header, bytes, size);
    }
