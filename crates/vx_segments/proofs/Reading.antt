-- Units are read behind others as they are read alone.
use Rattle.std.proofs.Common.{◌≡◌, ◌≢◌, ℕ, ℤ, ◌+◌, ◌==◌, pos, Bool, true, false, not, cond, ◌&&◌, List, [], ◌∷◌, ◌++◌, length, Option, Some, None, Result, Ok, Err, refl, sym, ◌∙◌, ap, subst, inl, inr, ok_or}
use Rattle.std.specs.Prelude.{is_none, nat_le, nat_lt}
use Rattle.std.proofs.lemmas.Bool.{cases_Bool}
use Rattle.std.proofs.lemmas.Option.{same_Some}
use Rattle.vx_bits.specs.declared.list.Item.{Item}
use Rattle.vx_bits.specs.declared.refusal.Refusal.{Refusal}
use Rattle.vx_bits.specs.declared.refusal.Refusal.TheVariants.{Profile}
use Rattle.vx_bits.specs.declared.rules.TheConstants as rules
use Rattle.vx_aps.specs.declared.aps.Aps.{Aps}
use Rattle.vx_annexb.specs.NalUnit.{nal_unit_type, nuh_layer_id}
use Rattle.vx_sei.specs.declared.message.Message.{Message}
use Rattle.vx_pic.specs.declared.kind.Kind.{Kind}
use Rattle.vx_pic.specs.Units.{Class, class_of, end_unit, has_header_inside, header_unit, is_reserved, other_unit, pps_unit, prefix_aps, rbsp_of, sei_unit, slice_unit, sps_unit, suffix_aps, temporal_id, vps_unit}
use Rattle.vx_layout.specs.declared.numbers.Numbers.{Numbers}
use Rattle.vx_sei.specs.Sei.{spelled_length}
use Rattle.vx_pic.specs.declared.sets.TheConstants as sets
use Rattle.vx_pic.specs.Sets.{SliceHeader, is_qp, names_of, slices_before, referred_sps, same_size, slice_qp}
use Rattle.vx_pic.specs.Counts.{fits_count, is_changed, is_empty}
use Rattle.vx_pic.specs.Readings.{Begun, Current, Picture, Reading, Slice, current, dropped, first_slice, gathered, going, header_read, headed, is_ended, is_open, is_whole, is_within_picture, messages_read, next_slice, nothing, pictures, pps_read, sequence_ended, sps_read, stored_pps, stored_sps, vps_read}
use Rattle.vx_pic.specs.Rules.{Readers, alone, aps_reading, are_stored, begins, first, follows, further, gathers, joins, kind_at, message_limit, missing, opened, opens, picture_limit, reads, reads_as, picture_size, starts_elsewhere}
use Rattle.vx_pic.specs.Streams.{StreamReading, all_read, one_more, read_on}
use Rattle.vx_pic.proofs.Finishing.{passed, then_told}
use Rattle.vx_segments.specs.Streams.{HaveNoEnd}
use Rattle.vx_segments.proofs.Behind.{CurrentAgain, Fits, IsAgain, PictureAgain, Stands, again, pps_kept, sps_kept, stands_one, whole_again}

pos_zero : ℤ
pos_zero = pos 0

-- ---- answers

same_ok : {A : Type 0} (a b : A) → (let x : Result A Refusal = Ok a in x) ≡ Ok b → a ≡ b
same_ok a b same = cc

one_of : {A : Type 0} (x : Result A Refusal) (a b : A) → x ≡ Ok a → x ≡ Ok b → a ≡ b
one_of x a b is are = same_ok a b (sym is ∙ are)

found : {A : Type 0} (o : Option A) (r : Refusal) (a : A) → ok_or o r ≡ Ok a → o ≡ Some a
found None r a is = absurd (cc)
found (Some b) r a is = ap (λ x. Some x) (same_ok b a is)

-- ---- what an answer tells of the steps

module _ (R : Readers) where
  record BeginsSo (zs : List Reading) (u : List ℕ) (unit : Option (List ℕ)) (b : Begun) : Type 0 where
    id : ℕ
    p : List Item
    s : List Item
    n : Numbers
    h : List Item
    referred : R.referred_pps (is_none unit) (rbsp_of u) ≡ Ok id
    pps : stored_pps id zs ≡ Some p
    sps : stored_sps (referred_sps p) zs ≡ Some s
    layout : R.layout s p ≡ Ok n
    header : R.header (is_none unit) s p (rbsp_of u) ≡ Ok h
    told : (let x : Begun = record { sps = s; pps = p; layout = n; header = h; temporal_id = temporal_id u; unit = unit } in x) ≡ b

  begins_told : (zs : List Reading) (u : List ℕ) (unit : Option (List ℕ)) (b : Begun) → begins R zs u unit ≡ Ok b → BeginsSo zs u unit b
  begins_told zs u unit b is =
      let id = then_told (R.referred_pps (is_none unit) (rbsp_of u)) _ b is in
      let p = then_told (ok_or (stored_pps id.0 zs) (missing sets.PPS id.0)) _ b id.2 in
      let s = then_told (ok_or (stored_sps (referred_sps p.0) zs) (missing sets.SPS (referred_sps p.0))) _ b p.2 in
      let size = passed (not (same_size s.0 p.0)) _ _ b s.2 in
      let n = then_told (R.layout s.0 p.0) _ b size.1 in
      let h = then_told (R.header (is_none unit) s.0 p.0 (rbsp_of u)) _ b n.2 in
      record {
        id = id.0;
        p = p.0;
        s = s.0;
        n = n.0;
        h = h.0;
        referred = id.1;
        pps = found (stored_pps id.0 zs) (missing sets.PPS id.0) p.0 p.1;
        sps = found (stored_sps (referred_sps p.0) zs) (missing sets.SPS (referred_sps p.0)) s.0 s.1;
        layout = n.1;
        header = h.1;
        told = same_ok _ b h.2;
      }

  record JoinsSo (p : Picture) (u : List ℕ) (s : Slice) : Type 0 where
    h : SliceHeader
    header : R.slice p.kind.nal_type p.begun u ≡ Ok h
    told : (let x : Slice = record { unit = u; header = h } in x) ≡ s

  joins_told : (p : Picture) (u : List ℕ) (s : Slice) → joins R p u ≡ Ok s → JoinsSo p u s
  joins_told p u s is =
      let tid = passed (not (temporal_id u == p.begun.temporal_id)) _ _ s is in
      let type = passed (not (nal_unit_type u == p.kind.nal_type)) _ _ s tid.1 in
      let header = then_told (R.slice p.kind.nal_type p.begun u) _ s type.1 in
      let h : SliceHeader = header.0 in
      let place = passed (not (slices_before p.begun.layout h == length p.slices)) _ _ s header.2 in
      let bodies = then_told (are_stored p.before (names_of p.begun.pps p.begun.header h)) _ s place.1 in
      let qp = passed (not (is_qp p.begun.sps (slice_qp p.begun.pps p.begun.header h))) _ _ s bodies.2 in
      let payload = passed (nat_le (length u) h.payload) _ _ s qp.1 in
      let size = passed (nat_lt picture_limit (picture_size p + length u)) _ _ s payload.1 in
      record { h = h; header = header.1; told = same_ok _ s size.1 }

module _ (R : Readers) (before xs ys : List Reading) (stands : Stands before xs ys) where
  -- ---- a header

  begins_same : (u : List ℕ) (unit : Option (List ℕ)) (b c : Begun) → begins R xs u unit ≡ Ok b → begins R ys u unit ≡ Ok c → b ≡ c
  begins_same u unit b c is are =
      let one = begins_told R xs u unit b is in
      let two = begins_told R ys u unit c are in
      let id : one.id ≡ two.id = one_of _ one.id two.id one.referred two.referred in
      let p : one.p ≡ two.p = same_Some one.p two.p (sym (pps_kept before xs ys one.id one.p stands.behind one.pps) ∙ (ap (λ i. stored_pps i ys) id ∙ two.pps)) in
      let s : one.s ≡ two.s = same_Some one.s two.s (sym (sps_kept before xs ys (referred_sps one.p) one.s stands.behind one.sps) ∙ (ap (λ l. stored_sps (referred_sps l) ys) p ∙ two.sps)) in
      let n : one.n ≡ two.n = one_of (R.layout two.s two.p) one.n two.n (sym (ap (λ l. R.layout two.s l) p) ∙ (sym (ap (λ l. R.layout l one.p) s) ∙ one.layout)) two.layout in
      let h : one.h ≡ two.h = one_of (R.header (is_none unit) two.s two.p (rbsp_of u)) one.h two.h
      (sym (ap (λ l. R.header (is_none unit) two.s l (rbsp_of u)) p) ∙ (sym (ap (λ l. R.header (is_none unit) l one.p (rbsp_of u)) s) ∙ one.header)) two.header in
      sym one.told ∙ (headers one.s two.s one.p two.p one.n two.n one.h two.h s p n h ∙ two.told)
    where
      headers : (s s_ p p_ : List Item) (n n_ : Numbers) (h h_ : List Item) → s ≡ s_ → p ≡ p_ → n ≡ n_ → h ≡ h_
          → (let x : Begun = record { sps = s; pps = p; layout = n; header = h; temporal_id = temporal_id u; unit = unit } in x)
          ≡ record { sps = s_; pps = p_; layout = n_; header = h_; temporal_id = temporal_id u; unit = unit }
      headers s s_ p p_ n n_ h h_ a b c d = cc

  -- ---- a slice

  joins_same : (p q : Picture) (u : List ℕ) (s t : Slice) → q.begun ≡ p.begun → q.kind.nal_type ≡ p.kind.nal_type → joins R p u ≡ Ok s → joins R q u ≡ Ok t → s ≡ t
  joins_same p q u s t begun type is are =
      let one = joins_told R p u s is in
      let two = joins_told R q u t are in
      let h : one.h ≡ two.h = one_of (R.slice p.kind.nal_type p.begun u) one.h two.h one.header
      (sym (ap (λ n. R.slice n p.begun u) type) ∙ (sym (ap (λ b. R.slice q.kind.nal_type b u) begun) ∙ two.header)) in
      sym one.told ∙ (ap (λ x. let o : Slice = record { unit = u; header = x } in o) h ∙ two.told)

  -- the kind of a picture that opens
  opens_told : (zs : List Reading) (b : Begun) (u : List ℕ) (k : Kind) → opens zs b u ≡ Ok k → kind_at zs b u ≡ k
  opens_told zs b u k is =
      let first = passed (starts_elsewhere zs u) _ _ k is in
      let second = passed (not (kind_at zs b u).clvss && is_changed (pictures zs) b.sps) _ _ k first.1 in
      let third = passed (not (fits_count (kind_at zs b u).poc)) _ _ k second.1 in
      same_ok _ k third.1

  no_eos : (zs : List Reading) (ended : Bool) → ended ≡ false → (ended && not (is_empty (pictures zs))) ≡ false
  no_eos zs ended none = ap (λ e. e && not (is_empty (pictures zs))) none

  kinds_again : (b : Begun) (u : List ℕ) (j k : Kind) → opens xs b u ≡ Ok j → opens ys b u ≡ Ok k → k ≡ record j { clvss = k.clvss; poc = k.poc }
  kinds_again b u j k is are =
      let one = opens_told xs b u j is in
      let two = opens_told ys b u k are in
      let after_ : k.after_eos ≡ j.after_eos =
      sym (ap (λ (x : Kind). x.after_eos) two) ∙ (no_eos ys (is_ended ys) stands.still ∙ (sym (no_eos xs (is_ended xs) stands.ended) ∙ ap (λ (x : Kind). x.after_eos) one)) in
      let type : k.nal_type ≡ j.nal_type = sym (ap (λ (x : Kind). x.nal_type) two) ∙ ap (λ (x : Kind). x.nal_type) one in
      let tid : k.temporal_id ≡ j.temporal_id = sym (ap (λ (x : Kind). x.temporal_id) two) ∙ ap (λ (x : Kind). x.temporal_id) one in
      rebuilt k j after_ type tid
    where
      rebuilt : (k j : Kind) → k.after_eos ≡ j.after_eos → k.nal_type ≡ j.nal_type → k.temporal_id ≡ j.temporal_id → k ≡ record j { clvss = k.clvss; poc = k.poc }
      rebuilt k j a t n =
          ap (λ x. let o : Kind = record { nal_type = x; temporal_id = k.temporal_id; clvss = k.clvss; after_eos = k.after_eos; poc = k.poc } in o) t
          ∙ (ap (λ x. let o : Kind = record { nal_type = j.nal_type; temporal_id = x; clvss = k.clvss; after_eos = k.after_eos; poc = k.poc } in o) n
          ∙ ap (λ x. let o : Kind = record { nal_type = j.nal_type; temporal_id = j.temporal_id; clvss = k.clvss; after_eos = x; poc = k.poc } in o) a)

  -- a reading again, which comes where it may, and no end of a sequence
  pub record Fine (x y : Reading) : Type 0 where
    pub is : IsAgain x y
    pub fits : Fits x (current xs)
    pub goes_on : x ≢ sequence_ended

  equal : (x y : Reading) → Fits x (current xs) → x ≢ sequence_ended → x ≡ again true pos_zero x → x ≡ y → Fine x y
  equal x y fits goes own same = record { is = record { clvss = true; poc = pos_zero; same = sym same ∙ own }; fits = fits; goes_on = goes }

  first_again : (b : Begun) (u : List ℕ) (x y : Reading) → first R xs b u ≡ Ok x → first R ys b u ≡ Ok y → Fine x y
  first_again b u x y is are =
      let j = then_told (opens xs b u) _ x is in
      let k = then_told (opens ys b u) _ y are in
      let s = then_told (joins R (opened xs b j.0) u) _ x j.2 in
      let t = then_told (joins R (opened ys b k.0) u) _ y k.2 in
      let kind = kinds_again b u j.0 k.0 j.1 k.1 in
      let slice = joins_same (opened xs b j.0) (opened ys b k.0) u s.0 t.0 refl (ap (λ (z : Kind). z.nal_type) kind) s.1 t.1 in
      let one : first_slice b j.0 s.0 ≡ x = same_ok _ x s.2 in
      let two : first_slice b k.0 t.0 ≡ y = same_ok _ y t.2 in
      subst (λ z. Fine z y) one (record {
        is = record {
          clvss = k.0.clvss;
          poc = k.0.poc;
          same = sym two ∙ (ap (λ z. first_slice b z t.0) kind ∙ ap (λ z. first_slice b (record j.0 { clvss = k.0.clvss; poc = k.0.poc }) z) (sym slice));
        };
        fits = tt;
        goes_on = λ e. absurd (cc);
      })

  further_again : (p q : Picture) (u : List ℕ) (x y : Reading) → current xs ≡ going p → PictureAgain before p q → further R p u ≡ Ok x → further R q u ≡ Ok y → Fine x y
  further_again p q u x y on same is are =
      let s = then_told (joins R p u) _ x is in
      let t = then_told (joins R q u) _ y are in
      let slice = joins_same p q u s.0 t.0 same.begun (ap (λ (z : Kind). z.nal_type) same.kind) s.1 t.1 in
      let one : next_slice s.0 ≡ x = same_ok _ x s.2 in
      let two : next_slice t.0 ≡ y = same_ok _ y t.2 in
      subst (λ z. Fine z y) one (record {
        is = record { clvss = true; poc = pos_zero; same = sym two ∙ ap (λ z. next_slice z) (sym slice) };
        fits = (p, on);
        goes_on = λ e. absurd (cc);
      })

  follows_again : (c d : Current) (u : List ℕ) (x y : Reading) → current xs ≡ c → CurrentAgain before c d → follows R xs c u ≡ Ok x → follows R ys d u ≡ Ok y → Fine x y
  follows_again nothing d u x y on same is are = absurd (cc)
  follows_again (headed b) d u x y on same is are = first_again b u x y is (subst (λ e. follows R ys e u ≡ Ok y) same are)
  follows_again (going p) d u x y on same is are =
      let there = subst (λ e. follows R ys e u ≡ Ok y) same.1 are in
      further_again p same.0 u x y on same.2 (passed (is_whole p) _ _ x is).1 (passed (is_whole same.0) _ _ y there).1

  alone_again : (u : List ℕ) (x y : Reading) → alone R xs u ≡ Ok x → alone R ys u ≡ Ok y → Fine x y
  alone_again u x y is are =
      let b = then_told (begins R xs u None) _ x (passed (is_open (current xs)) _ _ x is).1 in
      let c = then_told (begins R ys u None) _ y (passed (is_open (current ys)) _ _ y are).1 in
      let same = begins_same u None b.0 c.0 b.1 c.1 in
      let one = (passed (nat_lt 1 (length b.0.layout.slices)) _ _ x b.2).1 in
      let two = (passed (nat_lt 1 (length c.0.layout.slices)) _ _ y c.2).1 in
      first_again b.0 u x y one (subst (λ e. first R ys e u ≡ Ok y) (sym same) two)

  -- ---- a unit

  within_same : (c d : Current) → CurrentAgain before c d → is_within_picture c ≡ is_within_picture d
  within_same nothing d same = sym (closed d same)
    where
      closed : (d : Current) → is_open d ≡ false → is_within_picture d ≡ false
      closed nothing is = refl
      closed (headed b) is = refl
      closed (going p) is = is
  within_same (headed b) d same = ap is_within_picture (sym same)
  within_same (going p) d same = ap not (sym (whole_again before p same.0 same.2)) ∙ ap is_within_picture (sym same.1)

  gathers_told : (zs : List Reading) (m : List Message) (x : Reading) → gathers zs m ≡ Ok x → messages_read m ≡ x
  gathers_told zs m x is = same_ok _ x (passed (nat_lt message_limit (spelled_length (gathered zs ++ m))) _ _ x is).1

  aps_again : (o : Option Aps) → aps_reading o ≡ again true pos_zero (aps_reading o)
  aps_again None = refl
  aps_again (Some a) = refl

  aps_goes : (o : Option Aps) → aps_reading o ≢ sequence_ended
  aps_goes None e = absurd (cc)
  aps_goes (Some a) e = absurd (cc)

  aps_fits : (o : Option Aps) (c : Current) → Fits (aps_reading o) c
  aps_fits None c = tt
  aps_fits (Some a) c = tt

  -- what doesn't depend on the readings before
  alike : (r : Reading) (x y : Reading) → Fits r (current xs) → r ≢ sequence_ended → r ≡ again true pos_zero r → r ≡ x → r ≡ y → Fine x y
  alike r x y fits goes own is are = subst (λ z. Fine z y) is (equal r y fits goes own are)

  class_again : (c : Class) (u : List ℕ) (x y : Reading) → c ≢ end_unit → reads_as R c xs u ≡ Ok x → reads_as R c ys u ≡ Ok y → Fine x y
  class_again other_unit u x y other is are = alike dropped x y tt (λ e. absurd (cc)) refl (same_ok _ x is) (same_ok _ y are)
  class_again vps_unit u x y other is are =
      let v = then_told (R.vps (rbsp_of u)) _ x is in
      let w = then_told (R.vps (rbsp_of u)) _ y are in
      alike (vps_read v.0) x y tt (λ e. absurd (cc)) refl (same_ok _ x v.2) (ap (λ z. vps_read z) (one_of _ v.0 w.0 v.1 w.1) ∙ same_ok _ y w.2)
  class_again sps_unit u x y other is are =
      let v = then_told (R.sps (rbsp_of u)) _ x (passed (is_within_picture (current xs)) _ _ x is).1 in
      let w = then_told (R.sps (rbsp_of u)) _ y (passed (is_within_picture (current ys)) _ _ y are).1 in
      alike (sps_read v.0) x y tt (λ e. absurd (cc)) refl (same_ok _ x v.2) (ap (λ z. sps_read z) (one_of _ v.0 w.0 v.1 w.1) ∙ same_ok _ y w.2)
  class_again pps_unit u x y other is are =
      let v = then_told (R.pps (rbsp_of u)) _ x (passed (is_within_picture (current xs)) _ _ x is).1 in
      let w = then_told (R.pps (rbsp_of u)) _ y (passed (is_within_picture (current ys)) _ _ y are).1 in
      alike (pps_read v.0) x y tt (λ e. absurd (cc)) refl (same_ok _ x v.2) (ap (λ z. pps_read z) (one_of _ v.0 w.0 v.1 w.1) ∙ same_ok _ y w.2)
  class_again prefix_aps u x y other is are =
      let v = then_told (R.aps (rbsp_of u)) _ x (passed (is_within_picture (current xs)) _ _ x is).1 in
      let w = then_told (R.aps (rbsp_of u)) _ y (passed (is_within_picture (current ys)) _ _ y are).1 in
      alike (aps_reading v.0) x y (aps_fits v.0 (current xs)) (aps_goes v.0) (aps_again v.0) (same_ok _ x v.2) (ap aps_reading (one_of _ v.0 w.0 v.1 w.1) ∙ same_ok _ y w.2)
  class_again suffix_aps u x y other is are =
      let v = then_told (R.aps (rbsp_of u)) _ x is in
      let w = then_told (R.aps (rbsp_of u)) _ y are in
      alike (aps_reading v.0) x y (aps_fits v.0 (current xs)) (aps_goes v.0) (aps_again v.0) (same_ok _ x v.2) (ap aps_reading (one_of _ v.0 w.0 v.1 w.1) ∙ same_ok _ y w.2)
  class_again header_unit u x y other is are =
      let b = then_told (begins R xs u (Some u)) _ x (passed (is_open (current xs)) _ _ x is).1 in
      let c = then_told (begins R ys u (Some u)) _ y (passed (is_open (current ys)) _ _ y are).1 in
      alike (header_read b.0) x y tt (λ e. absurd (cc)) refl (same_ok _ x b.2) (ap (λ z. header_read z) (begins_same u (Some u) b.0 c.0 b.1 c.1) ∙ same_ok _ y c.2)
  class_again slice_unit u x y other is are = elim (cases_Bool (has_header_inside u)) [
    | inl inside ↦
        alone_again u x y (subst (λ b. cond b (alone R xs u) (follows R xs (current xs) u) ≡ Ok x) inside is)
        (subst (λ b. cond b (alone R ys u) (follows R ys (current ys) u) ≡ Ok y) inside are)
    | inr outside ↦
        follows_again (current xs) (current ys) u x y refl stands.current
        (subst (λ b. cond b (alone R xs u) (follows R xs (current xs) u) ≡ Ok x) outside is)
        (subst (λ b. cond b (alone R ys u) (follows R ys (current ys) u) ≡ Ok y) outside are)
  ]
  class_again end_unit u x y other is are = absurd (other refl)
  class_again sei_unit u x y other is are =
      let within = within_same (current xs) (current ys) stands.current in
      let there = subst (λ b. cond b (Ok dropped) (gathers ys (R.sei (rbsp_of u))) ≡ Ok y) (sym within) are in
      elim (cases_Bool (is_within_picture (current xs))) [
        | inl inside ↦
            let one = subst (λ b. cond b (Ok dropped) (gathers xs (R.sei (rbsp_of u))) ≡ Ok x) inside is in
            let two = subst (λ b. cond b (Ok dropped) (gathers ys (R.sei (rbsp_of u))) ≡ Ok y) inside there in
            alike dropped x y tt (λ e. absurd (cc)) refl (same_ok _ x one) (same_ok _ y two)
        | inr outside ↦
            let one = subst (λ b. cond b (Ok dropped) (gathers xs (R.sei (rbsp_of u))) ≡ Ok x) outside is in
            let two = subst (λ b. cond b (Ok dropped) (gathers ys (R.sei (rbsp_of u))) ≡ Ok y) outside there in
            alike (messages_read (R.sei (rbsp_of u))) x y tt (λ e. absurd (cc)) refl (gathers_told xs (R.sei (rbsp_of u)) x one) (gathers_told ys (R.sei (rbsp_of u)) y two)
      ]

  pub unit_again : (u : List ℕ) (x y : Reading) → class_of (nal_unit_type u) ≢ end_unit → reads R xs u ≡ Ok x → reads R ys u ≡ Ok y → Fine x y
  unit_again u x y other is are = elim (cases_Bool (is_reserved u)) [
    | inl ignored ↦
        let one = subst (λ b. cond b (Ok dropped) (of_layer xs) ≡ Ok x) ignored is in
        let two = subst (λ b. cond b (Ok dropped) (of_layer ys) ≡ Ok y) ignored are in
        alike dropped x y tt (λ e. absurd (cc)) refl (same_ok _ x one) (same_ok _ y two)
    | inr plain ↦
        let one = subst (λ b. cond b (Ok dropped) (of_layer xs) ≡ Ok x) plain is in
        let two = subst (λ b. cond b (Ok dropped) (of_layer ys) ≡ Ok y) plain are in
        elim (cases_Bool (not (nuh_layer_id u == 0))) [
          | inl layer ↦ no_layer (subst (λ b. cond b (Err (Profile rules.SEVERAL_LAYERS)) (reads_as R (class_of (nal_unit_type u)) xs u) ≡ Ok x) layer one)
          | inr base ↦
              class_again (class_of (nal_unit_type u)) u x y other
              (subst (λ b. cond b (Err (Profile rules.SEVERAL_LAYERS)) (reads_as R (class_of (nal_unit_type u)) xs u) ≡ Ok x) base one)
              (subst (λ b. cond b (Err (Profile rules.SEVERAL_LAYERS)) (reads_as R (class_of (nal_unit_type u)) ys u) ≡ Ok y) base two)
        ]
  ]
    where
      of_layer : List Reading → Result Reading Refusal
      of_layer zs = cond (not (nuh_layer_id u == 0)) (Err (Profile rules.SEVERAL_LAYERS)) (reads_as R (class_of (nal_unit_type u)) zs u)

      no_layer : {C : Type 0} {r : Refusal} → (let z : Result Reading Refusal = Err r in z) ≡ Ok x → C
      no_layer wrong = absurd (cc)

-- ---- all units

one_told : (r : Result Reading Refusal) (before : List Reading) (rest : List Reading → StreamReading) (all : List Reading) → one_more r before rest ≡ all_read all
    → (x : Reading) × (r ≡ Ok x) × (rest (x ∷ before) ≡ all_read all)
one_told (Ok x) before rest all is = (x, refl, is)
one_told (Err r) before rest all is = let wrong : Some r ≡ None = ap (λ (o : StreamReading). o.refusal) is in absurd (cc)

pub units_again : (R : Readers) (before : List Reading) (units : List (List ℕ)) (xs ys own all : List Reading) → Stands before xs ys → HaveNoEnd units
    → read_on R xs units ≡ all_read own → read_on R ys units ≡ all_read all → Stands before own all
units_again R before [] xs ys own all stands none is are =
    let one : xs ≡ own = ap (λ (o : StreamReading). o.before) is in
    let two : ys ≡ all = ap (λ (o : StreamReading). o.before) are in
    subst (λ l. Stands before l all) one (subst (λ l. Stands before xs l) two stands)
units_again R before (u ∷ units) xs ys own all stands none is are =
    let one = one_told (reads R xs u) xs (λ after. read_on R after units) own is in
    let two = one_told (reads R ys u) ys (λ after. read_on R after units) all are in
    let fine = unit_again R before xs ys stands u one.0 two.0 none.0 one.1 two.1 in
    units_again R before units (one.0 ∷ xs) (two.0 ∷ ys) own all (stands_one before xs ys one.0 two.0 stands fine.is fine.goes_on fine.fits) none.1 one.2 two.2
