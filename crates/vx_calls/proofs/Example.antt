-- The structure of a table, a direct part and a table: what it depends on, and that it can be rewritten.
use Rattle.std.proofs.Common.{◌≡◌, ℕ, zero, suc, ◌+◌, ◌-◌, ◌<◌, ◌≤◌, IsTrue, IsFalse, List, [], ◌++◌, slice_index, Ok, Err, refl, subst, arith}
use Rattle.std.proofs.lemmas.List.{append-nil}
use Rattle.vx_table.specs.declared.rows.Row.{Row}
use Rattle.vx_table.specs.Scope.{fresh, natural}
use Rattle.vx_table.specs.Forms.{Form, ◌>>=◌, form_of}
use Rattle.vx_table.specs.Walks.{Step, Walks}
use Rattle.vx_table.specs.Spelling.{items_along}
use Rattle.vx_table.specs.Values.{Parted}
use Rattle.vx_table.specs.Depends.{has, Agree, Alike, at_ends, both, Carries, IsLeft, Leaves}
use Rattle.vx_table.specs.Shown.{shown_items}
use Rattle.vx_table.specs.laws.Again.{AlwaysShown}
use Rattle.vx_table.specs.Rewritten.{IsRewritten}
use Rattle.vx_calls.specs.Composite.{one_share, shares, shares_of, composite, of_tables, CompositeIsRewritten}
use Rattle.vx_table.proofs.Agreeing.{inside_itself, agree_itself}
use Rattle.vx_table.proofs.Steps.{Leads, leads-then, leads-stop, leads-end}
use Rattle.vx_table.proofs.Joined.{parted}
use Rattle.vx_table.proofs.Rewrites.{copied_rewrites, replaced_rewrites, rewrites_together, what_goes_is_rewritten}

-- ---- the walk

module _ {C I E : Type 0} {step : Step C I E} {whole : Form (List ℕ)} {first : C} {first_items : I} where
  pub leads-share : (s : List ℕ) (count turn left more : ℕ) {c d : C} {i j : I} → turn < count
      → Leads step whole first first_items (shares s (count - turn) left) c i → Walks step (one_share left) c i (Ok more) d j
      → Leads step whole first first_items (shares s (count - (turn + 1)) more) d j
  leads-share s count turn left more within before walked =
      let one : count - turn ≡ suc (count - (turn + 1)) = omega arith in
      leads-then (shares s (count - (turn + 1))) (rw one at before) walked

  pub stop-share : (s : List ℕ) (count turn left : ℕ) {e : E} {c d : C} {i j : I} → turn < count
      → Leads step whole first first_items (shares s (count - turn) left) c i → Walks step (one_share left) c i (Err e) d j
      → Walks step whole first first_items (Err e) d j
  stop-share s count turn left within before walked =
      let one : count - turn ≡ suc (count - (turn + 1)) = omega arith in
      leads-stop (shares s (count - (turn + 1))) (rw one at before) walked

  pub leads-no_share : (s : List ℕ) (count turn left : ℕ) {c : C} {i : I} → count ≤ turn
      → Leads step whole first first_items (shares s (count - turn) left) c i → Walks step whole first first_items (Ok s) c i
  leads-no_share s count turn left over before =
      let none : count - turn ≡ 0 = omega arith in
      leads-end (rw none at before)

-- ---- what it depends on

shares_alike : {shown known s t : List ℕ} (more left : ℕ) → IsTrue (has shown 33) → Agree known s t → Alike shown known (shares s more left) (shares t more left)
shares_alike zero left is agree = at_ends agree
shares_alike (suc more) left is agree = both is (λ v. shares_alike more (left - (natural v + 1)) is agree)

-- the direct part, by the number and the total, which are known
pub shares_carry : (shown known : List ℕ) → IsTrue (has shown 33) → IsTrue (has known 30) → IsTrue (has known 31) → Carries shown known known shares_of
shares_carry shown known is count total = record {
  alike = λ inside s t agree. rw (agree.same 30 count, agree.same 31 total) (shares_alike (slice_index t 30) (slice_index t 31) is agree);
  inside = λ inside. inside;
  grows = inside_itself known;
}

-- ---- that it can be rewritten

shares_left : (names s : List ℕ) (more left : ℕ) → IsFalse (has names 33) → IsLeft names s (shares s more left)
shares_left names s zero left outside = agree_itself names s
shares_left names s (suc more) left outside = (outside, λ v. shares_left names s more (left - (natural v + 1)) outside)

pub shares_leave : (names : List ℕ) → IsFalse (has names 33) → Leaves names shares_of
shares_leave names outside = record { at = λ s. shares_left names s (slice_index s 30) (slice_index s 31) outside }

-- from what tests of the tables say
pub composite_is_rewritten : (front behind : List Row) (after last none : List ℕ) → Carries of_tables of_tables after (form_of front) → AlwaysShown of_tables (form_of front)
    → Carries of_tables of_tables last (form_of behind) → AlwaysShown of_tables (form_of behind) → Leaves none (form_of front)
    → IsFalse (has none 33) → IsFalse (has of_tables 33) → IsTrue (has of_tables 30) → IsTrue (has of_tables 31) → CompositeIsRewritten front behind
unfolding composite
composite_is_rewritten front behind after last none front_carries front_shown behind_carries behind_shown front_leaves outside no_share count total mid end first values here to_mid onward fits =
    let more : List ℕ → Form (List ℕ) = λ t. shares_of t >>= form_of behind in
    let parts = parted (shares_of mid) (form_of behind) onward in
    let rest = rewrites_together of_tables none none shares_of (form_of behind) mid values end here [] parts (inside_itself none) (shares_leave none outside)
    (replaced_rewrites of_tables none shares_of mid parts.front parts.mid here (shares_leave of_tables no_share) parts.first (λ t agree fresh_there. fits t (agree.same 30 count) (agree.same 31 total)))
    (copied_rewrites of_tables none of_tables last (form_of behind) parts.mid parts.others end (inside_itself of_tables) behind_carries behind_shown parts.second) in
    let whole : Parted (form_of front fresh) more (first ++ values) end = record { front = first; others = values; mid = mid; all = refl; first = to_mid; second = onward } in
    let all = rewrites_together of_tables none none (form_of front) more fresh (first ++ values) end [] (here ++ []) whole (inside_itself none) front_leaves
    (copied_rewrites of_tables none of_tables after (form_of front) fresh first mid (inside_itself of_tables) front_carries front_shown to_mid) rest in
    let there = all.at fresh (agree_itself of_tables fresh) (agree_itself none fresh) in
    let is = what_goes_is_rewritten of_tables end _ ([] ++ (here ++ [])) (composite front behind fresh) there in
    (is.0, subst (λ x. IsRewritten (composite front behind fresh) of_tables (shown_items of_tables (items_along (composite front behind fresh) (first ++ values))) x is.0) (append-nil here) is.1)
