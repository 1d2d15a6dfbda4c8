-- What is handed in to an intake, and what it comes to by that behind its pictures.
use Rattle.std.proofs.Common.{◌≡◌, ◌⊎◌, inl, inr, ℕ, Bool, true, false, List, [], ◌∷◌, ◌++◌, ◌∙◌, Option, Some, None, take, refl, sym, ap, subst, append_assoc, append-nil}
use Rattle.vx_pic.specs.Readings.{Picture}
use Rattle.vx_pic.specs.Rules.{Readers}
use Rattle.vx_pic.specs.Bytes.{Ending}
use Rattle.vx_run.specs.Extract.{BeginsWithPictures}
use Rattle.vx_push.specs.declared.intake.State.{State}
use Rattle.vx_push.specs.declared.intake.State.TheVariants as states
use Rattle.vx_push.specs.Comes.{Intaking, Handed, with_more, with_end, with_zeros, zeros, flushed_by, IsOpenedBy, OfEachStream, HasCome, ComesTo, ComesNext, IsFedBy}
use Rattle.vx_push.specs.inner.Comes.{IsMore}

-- ---- what is more

-- nothing, bytes or the end
pub none_is_more : (h : Handed) → IsMore h h
none_is_more h = record { piece = []; bytes = sym (append-nil h.bytes); all = λ all. (all, refl) }

bytes_are_more : (h : Handed) (piece : List ℕ) → (h.all ≡ true → piece ≡ []) → IsMore h (with_more h piece)
bytes_are_more h piece none = record { piece = piece; bytes = refl; all = λ all. (all, none all) }

end_is_more : (h : Handed) → IsMore h (with_end h)
end_is_more h = record { piece = []; bytes = sym (append-nil h.bytes); all = λ all. (refl, refl) }

-- nothing more is the same
none_added : (h : Handed) → with_more h [] ≡ h
none_added h = ap (λ (b : List ℕ). let x : Handed = record { bytes = b; all = h.all } in x) (append-nil h.bytes)

not_both : (h : Handed) (A : Type 0) → h.all ≡ false → h.all ≡ true → A
not_both h A is all = let no : false ≡ true = sym is ∙ all in absurd (cc)

-- what begins with more begins with less
pub opened_earlier : (h more : Handed) → IsMore h more → (b : List ℕ) → IsOpenedBy more b → IsOpenedBy h b
opened_earlier h more is b o = record {
  rest = is.piece ++ o.rest;
  front = o.front ∙ ap (λ (l : List ℕ). l ++ o.rest) is.bytes ∙ append_assoc h.bytes is.piece o.rest;
  whole = λ all. let both = is.all all in ap (λ (l : List ℕ). l ++ o.rest) both.1 ∙ o.whole both.0;
}

pub carried : (R : Readers) (h more : Handed) → IsMore h more → (P : List Picture → Option Ending → Type 0) → OfEachStream R h P → OfEachStream R more P
carried R h more is P each b qs ending o are = each b qs ending (opened_earlier h more is b o) are

-- ---- where it waits, holds a picture, or neither

state_cases : (s : State) → (s ≡ states.Waits) ⊎ ((s ≡ states.Picture) ⊎ ((s ≡ states.Waits → ⊥) × (s ≡ states.Picture → ⊥)))
state_cases states.Waits = inl refl
state_cases states.Picture = inr (inl refl)
state_cases states.Ended = inr (inr (λ is. absurd (cc), λ is. absurd (cc)))
state_cases (states.Refused r n) = inr (inr (λ is. absurd (cc), λ is. absurd (cc)))
state_cases states.NoMemory = inr (inr (λ is. absurd (cc), λ is. absurd (cc)))

pub not_picture : (s : State) → s ≡ states.Waits → s ≡ states.Picture → ⊥
not_picture s waits holds = let no : states.Waits ≡ states.Picture = sym waits ∙ holds in absurd (cc)

-- one more that it came to, or none
pub one_held : (R : Readers) (i : Intaking) (h : Handed) (ps : List Picture) → i.state ≡ states.Picture → ComesNext R i h ps i.state → (p : Picture) × HasCome R i h (p ∷ ps)
one_held R i h ps is c = subst (λ (s : State). ComesNext R i h ps s) is c

pub none_held : (R : Readers) (i : Intaking) (h : Handed) (ps : List Picture) → (i.state ≡ states.Picture → ⊥) → ComesNext R i h ps i.state → HasCome R i h ps
none_held R i h ps other c = by_state i.state other c
  where
    by_state : (s : State) → (s ≡ states.Picture → ⊥) → ComesNext R i h ps s → HasCome R i h ps
    by_state states.Waits other c = c
    by_state states.Picture other c = absurd (other refl)
    by_state states.Ended other c = c
    by_state (states.Refused r n) other c = c
    by_state states.NoMemory other c = c

holds_none : (R : Readers) (i : Intaking) (h : Handed) (ps : List Picture) → (i.state ≡ states.Picture → ⊥) → HasCome R i h ps → ComesNext R i h ps i.state
holds_none R i h ps other come = by_state i.state other
  where
    by_state : (s : State) → (s ≡ states.Picture → ⊥) → ComesNext R i h ps s
    by_state states.Waits other = come
    by_state states.Picture other = absurd (other refl)
    by_state states.Ended other = come
    by_state (states.Refused r n) other = come
    by_state states.NoMemory other = come

-- where it waits, no end was told; so behind the end it doesn't
waits_open : (R : Readers) (i : Intaking) (h : Handed) (ps : List Picture) → i.state ≡ states.Waits → HasCome R i h ps → h.all ≡ false
waits_open R i h ps is come = (subst (λ (s : State). ComesTo R h ps s) is come.told).2

pub waits_no_more : (R : Readers) (i : Intaking) (h : Handed) (ps : List Picture) → HasCome R i h ps → h.all ≡ true → i.state ≡ states.Waits → ⊥
waits_no_more R i h ps come all is = not_both h ⊥ (waits_open R i h ps is come) all

pub waits_no_more_behind : (R : Readers) (i : Intaking) (h : Handed) (ps : List Picture) → ComesNext R i h ps i.state → h.all ≡ true → i.state ≡ states.Waits → ⊥
waits_no_more_behind R i h ps c all is = waits_no_more R i h ps (none_held R i h ps (not_picture i.state is) c) all is

-- where it has ended, or was refused, or had no memory, the end may be told
ended_already : (R : Readers) (i : Intaking) (h : Handed) (ps : List Picture) → (i.state ≡ states.Waits → ⊥) → (i.state ≡ states.Picture → ⊥) → HasCome R i h ps → HasCome R i (with_end h) ps
ended_already R i h ps waits holds c = by_state i.state refl c.told
  where
    with_told : (s : State) → i.state ≡ s → ComesTo R (with_end h) ps s → IsFedBy R i (with_end h) ps s → HasCome R i (with_end h) ps
    with_told s is told fed = record {
      told = subst (λ (x : State). ComesTo R (with_end h) ps x) (sym is) told;
      lends = c.lends;
      fed = subst (λ (x : State). IsFedBy R i (with_end h) ps x) (sym is) fed;
    }

    more : (P : List Picture → Option Ending → Type 0) → OfEachStream R h P → OfEachStream R (with_end h) P
    more = carried R h (with_end h) (end_is_more h)

    by_state : (s : State) → i.state ≡ s → ComesTo R h ps s → HasCome R i (with_end h) ps
    by_state states.Waits is told = absurd (waits is)
    by_state states.Picture is told = absurd (holds is)
    by_state states.Ended is told = with_told states.Ended is (more (λ qs ending. (qs ≡ ps) × (ending ≡ None)) told.0, refl) tt
    by_state (states.Refused r n) is told =
        with_told (states.Refused r n) is (more (λ qs ending. (qs ≡ ps) × (ending ≡ Some (record { units = n; refusal = r }))) told) tt
    by_state states.NoMemory is told = with_told states.NoMemory is (more (λ qs ending. BeginsWithPictures qs ps) told) tt

-- ---- what is handed in, and what it comes to

module _ (R : Readers) (i later : Intaking) (h : Handed) (ps : List Picture) (c : ComesNext R i h ps i.state) where
  open_ : i.state ≡ states.Waits → h.all ≡ false
  open_ is = waits_open R i h ps is (none_held R i h ps (not_picture i.state is) c)

  knows_end : i.state ≡ states.Picture → h.all ≡ i.ended
  knows_end is = let one = one_held R i h ps is c in (subst (λ (s : State). IsFedBy R i h (one.0 ∷ ps) s) is one.1.fed).all

  waited : (more : Handed) → i.state ≡ states.Waits → ((qs : List Picture) → HasCome R i h qs → ComesNext R later more qs later.state) → ComesNext R later more ps later.state
  waited more is next = next ps (none_held R i h ps (not_picture i.state is) c)

  held : (more : Handed) → i.state ≡ states.Picture → later.state ≡ i.state → ((qs : List Picture) → HasCome R i h qs → HasCome R later more qs) → ComesNext R later more ps later.state
  held more is still come =
      let one = one_held R i h ps is c in
      subst (λ (s : State). ComesNext R later more ps s) (sym (still ∙ is)) (one.0, come (one.0 ∷ ps) one.1)

  same : later ≡ i → ComesNext R later h ps later.state
  same is = subst (λ (x : Intaking). ComesNext R x h ps x.state) (sym is) c

  -- a piece, of which n bytes were taken
  pub takes_piece : (piece : List ℕ) (n : ℕ) → (i.state ≡ states.Waits → (qs : List Picture) → HasCome R i h qs → ComesNext R later (with_more h (take n piece)) qs later.state)
      → ((i.state ≡ states.Waits → ⊥) → (n ≡ 0) × (later ≡ i)) → IsMore h (with_more h (take n piece)) × ComesNext R later (with_more h (take n piece)) ps later.state
  takes_piece piece n next kept = elim (state_cases i.state) [
    | inl waits ↦ (bytes_are_more h (take n piece) (not_both h (take n piece ≡ []) (open_ waits)), waited (with_more h (take n piece)) waits (next waits))
    | inr (inl holds) ↦ none (λ waits. not_picture i.state waits holds)
    | inr (inr neither) ↦ none neither.0
  ]
    where
      none : (i.state ≡ states.Waits → ⊥) → IsMore h (with_more h (take n piece)) × ComesNext R later (with_more h (take n piece)) ps later.state
      none waits =
          let k = kept waits in
          let empty : take n piece ≡ [] = ap (λ (m : ℕ). take m piece) k.0 in
          let is : h ≡ with_more h (take n piece) = sym (ap (λ (b : List ℕ). with_more h b) empty ∙ none_added h) in
          subst (λ (x : Handed). IsMore h x × ComesNext R later x ps later.state) is (none_is_more h, same k.1)

  -- the end
  pub takes_end : (i.state ≡ states.Waits → (qs : List Picture) → HasCome R i h qs → ComesNext R later (with_end h) qs later.state)
      → (i.state ≡ states.Picture → (qs : List Picture) → HasCome R i h qs → HasCome R later (with_end h) qs) → (i.state ≡ states.Picture → later ≡ record i { ended = true })
      → ((i.state ≡ states.Waits → ⊥) → (i.state ≡ states.Picture → ⊥) → later ≡ i) → IsMore h (with_end h) × ComesNext R later (with_end h) ps later.state
  takes_end next behind holding kept = (
    end_is_more h,
    elim (state_cases i.state) [
      | inl waits ↦ waited (with_end h) waits (next waits)
      | inr (inl holds) ↦ held (with_end h) holds (ap (λ (x : Intaking). x.state) (holding holds)) (behind holds)
      | inr (inr neither) ↦
          subst (λ (x : Intaking). ComesNext R x (with_end h) ps x.state) (sym (kept neither.0 neither.1))
          (holds_none R i (with_end h) ps neither.1 (ended_already R i h ps neither.0 neither.1 (none_held R i h ps neither.1 c)))
    ],
  )

  -- zeros
  module _ (next : i.state ≡ states.Waits → (qs : List Picture) → HasCome R i h qs → ComesNext R later (with_more h zeros) qs later.state)
      (behind : i.state ≡ states.Picture → i.ended ≡ false → i.flushed ≡ false → (qs : List Picture) → HasCome R i h qs → HasCome R later (with_more h zeros) qs)
      (holding : i.state ≡ states.Picture → later ≡ record i { flushed = later.flushed })
      (once : i.flushed ≡ true → later ≡ i) (ended : i.ended ≡ true → later ≡ i)
      (kept : (i.state ≡ states.Waits → ⊥) → (i.state ≡ states.Picture → ⊥) → later ≡ i) where
    abbrev Goes : Handed → Type 0
    Goes more = IsMore h more × ComesNext R later more ps later.state

    -- where it holds a picture
    held_zeros : i.state ≡ states.Picture → (flushed told : Bool) → i.flushed ≡ flushed → i.ended ≡ told → Goes (flushed_by states.Picture flushed told h)
    held_zeros holds false false is are = (
      bytes_are_more h zeros (not_both h (zeros ≡ []) (knows_end holds ∙ are)),
      held (with_more h zeros) holds (ap (λ (x : Intaking). x.state) (holding holds)) (behind holds are is),
    )
    held_zeros holds true told is are = (none_is_more h, same (once is))
    held_zeros holds false true is are = (none_is_more h, same (ended are))

    -- where it neither waits nor holds one
    no_zeros : (s : State) → (s ≡ states.Waits → ⊥) → (s ≡ states.Picture → ⊥) → flushed_by s i.flushed i.ended h ≡ h
    no_zeros states.Waits waits holds = absurd (waits refl)
    no_zeros states.Picture waits holds = absurd (holds refl)
    no_zeros states.Ended waits holds = refl
    no_zeros (states.Refused r n) waits holds = refl
    no_zeros states.NoMemory waits holds = refl

    pub takes_zeros : IsMore h (with_zeros i h) × ComesNext R later (with_zeros i h) ps later.state
    takes_zeros = elim (state_cases i.state) [
      | inl waits ↦
          subst (λ (s : State). Goes (flushed_by s i.flushed i.ended h)) (sym waits)
          (bytes_are_more h zeros (not_both h (zeros ≡ []) (open_ waits)), waited (with_more h zeros) waits (next waits))
      | inr (inl holds) ↦ subst (λ (s : State). Goes (flushed_by s i.flushed i.ended h)) (sym holds) (held_zeros holds i.flushed i.ended refl refl)
      | inr (inr neither) ↦ subst (λ (x : Handed). Goes x) (sym (no_zeros i.state neither.0 neither.1)) (none_is_more h, same (kept neither.0 neither.1))
    ]
