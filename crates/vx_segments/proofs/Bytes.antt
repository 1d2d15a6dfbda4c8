-- Byte streams one behind another.
use Rattle.std.proofs.Common.{◌≡◌, ℕ, ◌+◌, true, List, [], ◌∷◌, ◌++◌, map, replicate, refl, sym, ◌∙◌, ap, subst, All, flat_map}
use Rattle.std.specs.Prelude.{None}
use Rattle.std.proofs.lemmas.Grind.{flat_map-append}
use Rattle.std.proofs.lemmas.List.{append-nil, append_assoc, map-append, replicate-append-replicate}
use Rattle.std.proofs.lemmas.List.Elements.{All-append}
use Rattle.vx_annexb.specs.ByteStream.{IsStream, unit_bytes}
use Rattle.vx_annexb.specs.Laws.{AnnexBIsStream, CanStand, Part, StreamIsAnnexB, annex_b, part_bytes, places_from, units_of}
use Rattle.vx_segments.specs.Streams.{BytesJoin}

-- more zeros behind the last part
extended : Part → List Part → ℕ → List Part
extended q [] zeros = record q { zeros = q.zeros + zeros } ∷ []
extended q (r ∷ parts) zeros = q ∷ extended r parts zeros

extended_units : (q : Part) (parts : List Part) (more : ℕ) → units_of (extended q parts more) ≡ units_of (q ∷ parts)
unfolding extended
extended_units q [] more = refl
extended_units q (r ∷ parts) more = ap (λ (l : List (List ℕ)). q.unit ∷ l) (extended_units r parts more)

abbrev bytes_of : List Part → List ℕ
bytes_of parts = flat_map part_bytes parts

abbrev none : ℕ → List ℕ
none zeros = replicate zeros 0

one_more : (q : Part) (zeros : ℕ) → part_bytes (record q { zeros = q.zeros + zeros }) ≡ part_bytes q ++ none zeros
one_more q zeros =
    ap (λ (l : List ℕ). 0 ∷ 0 ∷ 1 ∷ l) (ap (λ (l : List ℕ). q.unit ++ l) (sym (replicate-append-replicate q.zeros zeros 0)) ∙ sym (append_assoc q.unit (none q.zeros) (none zeros)))

extended_bytes : (q : Part) (parts : List Part) (zeros : ℕ) → bytes_of (extended q parts zeros) ≡ bytes_of (q ∷ parts) ++ none zeros
unfolding extended
extended_bytes q [] zeros =
    append-nil (part_bytes (record q { zeros = q.zeros + zeros })) ∙ (one_more q zeros ∙ ap (λ (l : List ℕ). l ++ none zeros) (sym (append-nil (part_bytes q))))
extended_bytes q (r ∷ parts) zeros =
    ap (λ (l : List ℕ). part_bytes q ++ l) (extended_bytes r parts zeros) ∙ sym (append_assoc (part_bytes q) (bytes_of (r ∷ parts)) (none zeros))

-- both as one
record Joint (zeros : ℕ) (parts : List Part) (more : ℕ) (others : List Part) : Type 0 where
  first : ℕ
  all : List Part
  bytes : annex_b zeros parts ++ annex_b more others ≡ annex_b first all
  units : units_of all ≡ units_of parts ++ units_of others

joint : (zeros : ℕ) (parts : List Part) (more : ℕ) (others : List Part) → Joint zeros parts more others
joint zeros [] more others = record {
  first = zeros + more;
  all = others;
  bytes = ap (λ (l : List ℕ). l ++ annex_b more others) (append-nil (none zeros))
      ∙ (sym (append_assoc (none zeros) (none more) (bytes_of others)) ∙ ap (λ (l : List ℕ). l ++ bytes_of others) (replicate-append-replicate zeros more 0));
  units = refl;
}
joint zeros (q ∷ parts) more others = record {
  first = zeros;
  all = extended q parts more ++ others;
  bytes = append_assoc (none zeros) (bytes_of (q ∷ parts)) (annex_b more others)
      ∙ ap (λ (l : List ℕ). none zeros ++ l)
      (sym (append_assoc (bytes_of (q ∷ parts)) (none more) (bytes_of others))
      ∙ (ap (λ (l : List ℕ). l ++ bytes_of others) (sym (extended_bytes q parts more)) ∙ sym (flat_map-append part_bytes (extended q parts more) others)));
  units = map-append (λ (r : Part). r.unit) (extended q parts more) others ∙ ap (λ (l : List (List ℕ)). l ++ units_of others) (extended_units q parts more);
}

pub bytes_join : StreamIsAnnexB → AnnexBIsStream → BytesJoin
bytes_join is_annex_b is_stream b c us vs one two =
    let x = is_annex_b b us one in
    let y = is_annex_b c vs two in
    let parts : List Part = x.1 in
    let others : List Part = y.1 in
    let j = joint x.0 parts y.0 others in
    let stand = subst (All CanStand) (sym j.units) (All-append CanStand (units_of parts) (units_of others) x.4 y.4) in
    let all = is_stream j.first j.all stand in
    let same : b ++ c ≡ annex_b j.first j.all = ap (λ (l : List ℕ). l ++ c) x.2 ∙ (ap (λ (l : List ℕ). annex_b x.0 parts ++ l) y.2 ∙ j.bytes) in
    let own : map (unit_bytes b) us ≡ units_of parts = ap (λ (l : List ℕ). map (unit_bytes l) us) x.2 ∙ (ap (map (unit_bytes (annex_b x.0 parts))) x.3 ∙ (is_stream x.0 parts x.4).1) in
    let more : map (unit_bytes c) vs ≡ units_of others = ap (λ (l : List ℕ). map (unit_bytes l) vs) y.2 ∙ (ap (map (unit_bytes (annex_b y.0 others))) y.3 ∙ (is_stream y.0 others y.4).1) in (
      places_from j.first j.all,
      subst (λ (l : List ℕ). IsStream l true (places_from j.first j.all) None) (sym same) all.0,
      ap (λ (l : List ℕ). map (unit_bytes l) (places_from j.first j.all)) same
          ∙ (all.1 ∙ (j.units ∙ (ap (λ (l : List (List ℕ)). l ++ units_of others) (sym own) ∙ ap (λ (l : List (List ℕ)). map (unit_bytes b) us ++ l) (sym more)))),
    )
