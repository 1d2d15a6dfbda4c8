-- Steps that answer a value or a refusal, and what of them is given.
use Rattle.std.proofs.Common.{◌≡◌, Bool, true, false, refl, sym, ◌∙◌, ap, subst, Result, Ok, Err}
use Rattle.std.specs.Prelude.{Some}
use Rattle.vx_bits.specs.declared.refusal.Refusal.{Refusal}
use Rattle.vx_bits.specs.declared.refusal.ReadError.{ReadError}
use Rattle.vx_bits.specs.declared.refusal.ReadError.TheVariants as errors
use Rattle.vx_pic.specs.Answers.{◌>>=◌, refuse_if}
use Rattle.vx_assemble.specs.inner.Takes.{Gives}

pub bind_assoc : {A B C : Type 0} (m : Result A Refusal) (f : A → Result B Refusal) (k : B → Result C Refusal)
    → ((m >>= f) >>= k) ≡ (m >>= λ x. f x >>= k)
bind_assoc (Ok a) f k = refl
bind_assoc (Err r) f k = refl

pub bind_same : {A B : Type 0} (m : Result A Refusal) (f g : A → Result B Refusal) → ((a : A) → f a ≡ g a) → (m >>= f) ≡ (m >>= g)
bind_same (Ok a) f g same = same a
bind_same (Err r) f g same = refl

-- the same value is come to where each step has its value again
pub bind_on : {A B : Type 0} (m n : Result A Refusal) (f g : A → Result B Refusal) (b : B) → ((a : A) → m ≡ Ok a → n ≡ Ok a)
    → ((a : A) → f a ≡ Ok b → g a ≡ Ok b) → (m >>= f) ≡ Ok b → (n >>= g) ≡ Ok b
bind_on (Ok a) n f g b first next is = rw (first a refl) (next a is)
bind_on (Err r) n f g b first next is = absurd (cc)

pub same_some : {A : Type 0} (a b : A) → Some a ≡ Some b → a ≡ b
same_some a b is = cc

-- the first step gives an error
pub gives_first : {A B : Type 0} (m : Result A Refusal) (f : A → Result B Refusal) (e : ReadError) → Gives m (Err e) → Gives (m >>= f) (Err e)
gives_first m f errors.Memory is = tt
gives_first m f (errors.Refused r) is = ap (λ x. x >>= f) is

-- the first step gives a value
pub gives_then : {A B : Type 0} (m : Result A Refusal) (f : A → Result B Refusal) (a : A) (y : Result B ReadError) → m ≡ Ok a → Gives (f a) y
    → Gives (m >>= f) y
gives_then m f a y is then = subst (λ x. Gives (x >>= f) y) (sym is) then

-- of two answers that are the same
pub gives_same : {A : Type 0} (m n : Result A Refusal) (y : Result A ReadError) → m ≡ n → Gives n y → Gives m y
gives_same m n y same is = subst (λ x. Gives x y) (sym same) is

-- by a test
pub refuses : (holds test : Bool) (r : Refusal) → test ≡ holds → test ≡ true → refuse_if holds r ≡ Err r
refuses holds test r said is = ap (λ b. refuse_if b r) (sym said ∙ is)

pub passes : (holds test : Bool) (r : Refusal) → test ≡ holds → test ≡ false → refuse_if holds r ≡ Ok tt
passes holds test r said is = ap (λ b. refuse_if b r) (sym said ∙ is)
