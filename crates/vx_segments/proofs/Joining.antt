-- Rounds that begin anew are written behind others as they are alone.
use Rattle.std.proofs.Common.{◌≡◌, ℕ, ◌+◌, ◌<◌, ◌≤◌, ◌⊎◌, true, List, [], ◌∷◌, ◌++◌, length, filter, not, cond, Option, Some, None, ap, sym, subst, refl, ◌∙◌, inl, inr, arith}
use Rattle.std.proofs.lemmas.Grind.{flat_map-append}
use Rattle.std.proofs.lemmas.List.{append-nil, append_assoc, length-append}
use Rattle.std.proofs.lemmas.Option.{none-some, same_Some}
use Rattle.vx_bits.specs.declared.refusal.Refusal.{Refusal}
use Rattle.vx_bits.specs.declared.refusal.Refusal.TheVariants.{Limit}
use Rattle.vx_bits.specs.declared.rules.TheConstants.{LONG_SOURCE}
use Rattle.vx_annexb.specs.ByteStream.{long_start_code, source_limit}
use Rattle.vx_annexb.specs.Laws.{written}
use Rattle.vx_fit.specs.Lowest.{IsLowest}
use Rattle.vx_pic.specs.Parts.{Parts}
use Rattle.vx_pic.specs.Resident.{history_of, is_resident, kept_for, sent_before, units_written}
use Rattle.vx_pic.specs.Units.{is_irap_or_gdr}
use Rattle.vx_pic.specs.Written.{Plan, SetUnit, units_of}
use Rattle.vx_frame.specs.declared.corner.Corner.{Corner}
use Rattle.vx_frame.specs.Rounds.{picture_at}
use Rattle.vx_frame.specs.Verdict.{IsVerdict, Rule}
use Rattle.vx_merge.specs.Merging.{IsBarred, Passes}
use Rattle.vx_merge.specs.Needed.{TakeIds}
use Rattle.vx_merge.specs.Written.{IsMerged, limits_of, long_picture, long_stream, long_unit}
use Rattle.vx_segments.specs.Segments.{AreWrittenInTurn, BarredAlike, BeginAnew, SegmentsJoin, SegmentsSplit, merge_of}

-- ---- what counts as sent

-- the first of these plans is of an IRAP or GDR picture
abbrev PlansBegin : List Plan → Type 0
PlansBegin [] = Unit {0}
PlansBegin (p ∷ []) = is_irap_or_gdr p.kind.nal_type ≡ true
PlansBegin (p ∷ q ∷ done) = PlansBegin (q ∷ done)

forgotten : (t : ℕ) (history : List SetUnit) → is_irap_or_gdr t ≡ true → kept_for t history ≡ []
forgotten t history is = ap (λ b. cond b [] history) is

-- behind others as much as alone
sent_alike : (ps qs : List Plan) (p : Plan) → PlansBegin (p ∷ qs) → sent_before (qs ++ ps) p ≡ sent_before qs p
sent_alike ps [] p is = forgotten p.kind.nal_type (history_of ps) is ∙ sym (forgotten p.kind.nal_type [] is)
sent_alike ps (q ∷ qs) p is = ap (λ h. kept_for p.kind.nal_type (h ++ q.sent)) (sent_alike ps qs q is)

-- so a round is written alike
pub merged_behind : (corners : List Corner) (level : Option ℕ) (round : List Parts) (done others : List Plan) (p : Plan)
    → sent_before done p ≡ sent_before others p → IsMerged corners level round done p → IsMerged corners level round others p
merged_behind corners level round done others p same is = record {
  kind = is.kind;
  temporal_id = is.temporal_id;
  frame = is.frame;
  sps = is.sps;
  ids = is.ids;
  plain = is.plain;
  plain_is = is.plain_is;
  taken = subst (λ s. TakeIds round p.kind.temporal_id s is.plain is.ids) same is.taken;
  pps = is.pps;
  header = is.header;
  slices = is.slices;
  needed = is.needed;
  sets = is.sets;
  units = is.units;
  sent = subst (λ s. p.sent ≡ filter (λ x. not (is_resident p.kind.temporal_id s x)) is.needed) same is.sent;
  sei = is.sei;
  bytes = is.bytes;
}

-- ---- bytes

units_joined : (ps qs : List Plan) → units_written (qs ++ ps) ≡ units_written ps ++ units_written qs
units_joined ps [] = sym (append-nil (units_written ps))
units_joined ps (q ∷ qs) = ap (λ us. us ++ units_of q) (units_joined ps qs) ∙ append_assoc (units_written ps) (units_written qs) (units_of q)

bytes_joined : (ps qs : List Plan) → merge_of (qs ++ ps) ≡ merge_of ps ++ merge_of qs
bytes_joined ps qs = ap written (units_joined ps qs) ∙ flat_map-append (λ unit. long_start_code ++ unit) (units_written ps) (units_written qs)

length_joined : (ps qs : List Plan) → length (merge_of (qs ++ ps)) ≡ length (merge_of ps) + length (merge_of qs)
length_joined ps qs = ap (λ b. length b) (bytes_joined ps qs) ∙ length-append (merge_of ps) (merge_of qs)

length_one : (q : Plan) (qs : List Plan) → length (merge_of qs) ≤ length (merge_of (q ∷ qs))
length_one q qs = omega (arith, length_joined qs (q ∷ []))

-- ---- limits

kept : (n : ℕ) (rule : Rule) (rules : List Rule) → IsVerdict n (rule ∷ rules) None → ((k : ℕ) → k < n → ¬ rule.breaks k) × IsVerdict n rules None
kept n rule rules verdict = elim verdict [ inl f ↦ f | inr f ↦ absurd (none-some (rule.tells f.0) f.2) ]

module _ (n : ℕ) (ps qs : List Plan) (p : Plan) where
  limits_joined : length (merge_of ps) + length (merge_of (p ∷ qs)) ≤ source_limit → IsVerdict n (limits_of qs p) None → IsVerdict n (limits_of (qs ++ ps) p) None
  limits_joined few verdict =
      let first = kept n (long_unit p) (long_picture p ∷ long_stream qs p ∷ []) verdict in
      let second = kept n (long_picture p) (long_stream qs p ∷ []) first.1 in
      inl (first.0, inl (second.0, inl (λ k less breaks. absurd (omega (arith, few, breaks, length_joined ps (p ∷ qs))), refl)))

  limits_alone : IsVerdict n (limits_of (qs ++ ps) p) None → IsVerdict n (limits_of qs p) None
  limits_alone verdict =
      let first = kept n (long_unit p) (long_picture p ∷ long_stream (qs ++ ps) p ∷ []) verdict in
      let second = kept n (long_picture p) (long_stream (qs ++ ps) p ∷ []) first.1 in
      let third = kept n (long_stream (qs ++ ps) p) [] second.1 in
      inl (first.0, inl (second.0, inl (λ k less breaks. third.0 k less (omega (arith, breaks, length_joined ps (p ∷ qs))), refl)))

  passed_joined : (r : Refusal) → IsVerdict n (limits_of qs p) (Some r) → IsVerdict n (limits_of (qs ++ ps) p) (Some r)
  passed_joined r verdict = elim verdict [
    | inl a ↦ elim a.1 [
      | inl b ↦ elim b.1 [
        | inl c ↦ absurd (none-some r (sym c.1))
        | inr c ↦ inl (a.0, inl (b.0, inr (c.0, still c.0 c.1, c.2)))
      ]
      | inr b ↦ inl (a.0, inr b)
    ]
    | inr a ↦ inr a
  ]
    where
      still : (k : ℕ) → IsLowest n (λ j. source_limit < length (merge_of (p ∷ qs))) k → IsLowest n (λ j. source_limit < length (merge_of (p ∷ (qs ++ ps)))) k
      still k lowest = record {
        in_range = lowest.in_range;
        breaks = let long = lowest.breaks in omega (arith, long, length_joined ps (p ∷ qs));
        lower = λ j less long. lowest.lower j less lowest.breaks;
      }

  passed_alone : (r : Refusal) → IsVerdict n (limits_of (qs ++ ps) p) (Some r) → IsVerdict n (limits_of qs p) (Some r) ⊎ (r ≡ Limit LONG_SOURCE)
  passed_alone r verdict = elim verdict [
    | inl a ↦ elim a.1 [
      | inl b ↦ elim b.1 [
        | inl c ↦ absurd (none-some r (sym c.1))
        | inr c ↦ inr (same_Some r (Limit LONG_SOURCE) c.2)
      ]
      | inr b ↦ inl (inl (a.0, inr b))
    ]
    | inr a ↦ inl (inr a)
  ]

-- ---- rounds

pub before : (round : List Parts) (rounds : List (List Parts)) → BeginAnew (round ∷ rounds) → BeginAnew rounds
before round [] is = tt
before round (other ∷ rounds) is = is

module _ (corners : List Corner) (level : Option ℕ) where
  -- plans begin as rounds do
  plans_begin : (round : List Parts) (later : List (List Parts)) (p : Plan) (qs : List Plan) → p.kind ≡ (picture_at round 0).kind
      → AreWrittenInTurn corners level later qs → BeginAnew (round ∷ later) → PlansBegin (p ∷ qs)
  plans_begin round [] p [] kind are is = ap (λ k. is_irap_or_gdr k.nal_type) kind ∙ is
  plans_begin round [] p (q ∷ qs) kind are is = absurd are
  plans_begin round (other ∷ later) p [] kind are is = absurd are
  plans_begin round (other ∷ later) p (q ∷ qs) kind are is = plans_begin other later q qs are.0.is.kind are.1 is

  module _ (round : List Parts) (later : List (List Parts)) (ps qs : List Plan) (begin : BeginAnew (round ∷ later)) (are : AreWrittenInTurn corners level later qs) where
    to_all : (p : Plan) → IsMerged corners level round qs p → IsMerged corners level round (qs ++ ps) p
    to_all p is = merged_behind corners level round qs (qs ++ ps) p (sym (sent_alike ps qs p (plans_begin round later p qs is.kind are begin))) is

    to_alone : (p : Plan) → IsMerged corners level round (qs ++ ps) p → IsMerged corners level round qs p
    to_alone p is = merged_behind corners level round (qs ++ ps) qs p (sent_alike ps qs p (plans_begin round later p qs is.kind are begin)) is

    passes_all : (p : Plan) → length (merge_of ps) + length (merge_of (p ∷ qs)) ≤ source_limit → Passes corners level round qs p → Passes corners level round (qs ++ ps) p
    passes_all p few passes = record {
      verdict = passes.verdict;
      is = to_all p passes.is;
      limits = limits_joined (length corners) ps qs p few passes.limits;
    }

    passes_alone : (p : Plan) → Passes corners level round (qs ++ ps) p → Passes corners level round qs p
    passes_alone p passes = record {
      verdict = passes.verdict;
      is = to_alone p passes.is;
      limits = limits_alone (length corners) ps qs p passes.limits;
    }

    pub barred_all : (r : Refusal) → IsBarred corners level round qs r → IsBarred corners level round (qs ++ ps) r
    barred_all r barred = elim barred [
      | inl judged ↦ inl judged
      | inr long ↦ inr (record { verdict = long.verdict; plan = long.plan; is = to_all long.plan long.is; limits = passed_joined (length corners) ps qs long.plan r long.limits })
    ]

    barred_alone : (r : Refusal) → IsBarred corners level round (qs ++ ps) r → IsBarred corners level round qs r ⊎ (r ≡ Limit LONG_SOURCE)
    barred_alone r barred = elim barred [
      | inl judged ↦ inl (inl judged)
      | inr long ↦ elim (passed_alone (length corners) ps qs long.plan r long.limits) [
        | inl limits ↦ inl (inr (record { verdict = long.verdict; plan = long.plan; is = to_alone long.plan long.is; limits = limits }))
        | inr same ↦ inr same
      ]
    ]

  joined : (first later : List (List Parts)) (ps qs : List Plan) → BeginAnew later → AreWrittenInTurn corners level first ps
      → AreWrittenInTurn corners level later qs → length (merge_of ps) + length (merge_of qs) ≤ source_limit
      → AreWrittenInTurn corners level (later ++ first) (qs ++ ps)
  joined first [] ps [] begin are more few = are
  joined first [] ps (q ∷ qs) begin are more few = absurd more
  joined first (round ∷ later) ps [] begin are more few = absurd more
  joined first (round ∷ later) ps (q ∷ qs) begin are more few = (
    passes_all round later ps qs begin more.1 q few more.0,
    joined first later ps qs (before round later begin) are more.1 (omega (arith, few, length_one q qs)),
  )

  -- what all are written as, part by part
  record InParts (first later : List (List Parts)) (all : List Plan) : Type 0 where
    ps : List Plan
    qs : List Plan
    same : all ≡ qs ++ ps
    are : AreWrittenInTurn corners level first ps
    more : AreWrittenInTurn corners level later qs

  parted : (first later : List (List Parts)) (all : List Plan) → BeginAnew later → AreWrittenInTurn corners level (later ++ first) all → InParts first later all
  parted first [] all begin are = record { ps = all; qs = []; same = refl; are = are; more = tt }
  parted first (round ∷ later) [] begin are = absurd are
  parted first (round ∷ later) (p ∷ all) begin are =
      let rest = parted first later all (before round later begin) are.1 in
      let passes = passes_alone round later rest.ps rest.qs begin rest.more p (subst (λ l. Passes corners level round l p) rest.same are.0) in
      record { ps = rest.ps; qs = p ∷ rest.qs; same = ap (λ l. p ∷ l) rest.same; are = rest.are; more = (passes, rest.more) }

-- ---- the laws

pub segments_join : SegmentsJoin
segments_join corners level first later ps qs begin are more few =
    record { merged = joined corners level first later ps qs begin are more few; bytes = bytes_joined ps qs }

pub segments_split : SegmentsSplit
segments_split corners level first later all begin are =
    let parts = parted corners level first later all begin are in
    (parts.ps, parts.qs, parts.same, parts.are, parts.more)

pub barred_alike : BarredAlike
barred_alike corners level round later ps qs r begin are =
    (barred_all corners level round later ps qs begin are r, barred_alone corners level round later ps qs begin are r)
