-- How many pictures an intake can have come to.
use Rattle.std.proofs.Common.{◌≡◌, ℕ, ◌+◌, ◌-◌, ◌≤◌, Bool, List, [], ◌∷◌, length, ap, subst, arith}
use Rattle.vx_annexb.specs.ByteStream.{UnitPlace, FollowsFrom}
use Rattle.vx_annexb.specs.Held.{is_all}
use Rattle.vx_pic.specs.Readings.{Picture as StreamPicture, pictures}
use Rattle.vx_pic.specs.Rules.{Readers}
use Rattle.vx_assemble.specs.Feed.{seen_of}
use Rattle.vx_assemble.proofs.InMemory.{few_seen}
use Rattle.vx_run.proofs.Lined.{all_length, few_pictures, unit_within}
use Rattle.vx_push.specs.declared.intake.State.{State}
use Rattle.vx_push.specs.declared.intake.State.TheVariants.{Picture as AtPicture}
use Rattle.vx_push.specs.Comes.{Intaking, Handed, ComesNext, IsFedBy}
use Rattle.vx_push.specs.inner.Comes.{IsGoing}
use Rattle.vx_push.specs.Mixing.{HasComeBehind}
use Rattle.vx_push.proofs.Handing.{one_held}

-- units take bytes, each of its own
few_units : (b : List ℕ) (all : Bool) (p : ℕ) (us : List UnitPlace) → FollowsFrom b all p us → length us ≤ length b - p
few_units b all p [] f = omega arith
few_units b all p (u ∷ us) f =
    let at = unit_within b all p u f.0 in
    omega (arith, at.0, at.1, f.0.starts.prefix, few_units b all u.end us f.2)

-- a picture takes units
few_going : (R : Readers) (i : Intaking) (h : Handed) (ps : List StreamPicture) → IsGoing R i h ps → length ps ≤ 1099511627776
few_going R i h ps going =
    let t = going.taken in
    let seen = seen_of going.given in
    omega (
      arith,
      ap (λ (l : List StreamPicture). length l) t.done,
      few_pictures t.before,
      all_length R seen t.places t.before t.fed.readings,
      few_units seen (is_all i.feed.reader.splitter) 0 t.places t.fed.read.stands.given,
      few_seen going.given,
    )

-- so there are no more than a count can tell
pub few_held : (R : Readers) (i : Intaking) (h : Handed) (ps : List StreamPicture) → i.state ≡ AtPicture → ComesNext R i h ps i.state → length ps + 1 ≤ 1099511627776
few_held R i h ps is c =
    let one = one_held R i h ps is c in
    let going : IsGoing R i h (one.0 ∷ ps) = subst (λ (s : State). IsFedBy R i h (one.0 ∷ ps) s) is one.1.fed in
    omega (arith, few_going R i h (one.0 ∷ ps) going)

pub few_behind : (R : Readers) (i : Intaking) (h : Handed) (n : ℕ) → i.state ≡ AtPicture → HasComeBehind R i h n → n + 1 ≤ 1099511627776
few_behind R i h n is c = omega (arith, c.count, few_held R i h c.pictures is c.come)
