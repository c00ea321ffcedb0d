-- What reading one value after another comes to.
use Rattle.std.proofs.Common.{◌≡◌, Bool, true, false, cond, refl, ◌⊎◌, inl, inr, Option, Some, None}
use Rattle.std.specs.Prelude.{is_some, is_none}
use Rattle.mz_words.specs.Numbers.{◌>>=◌}

pub bind_parts : {A B : Type 0} (o : Option A) (f : A → Option B) (y : B) → (o >>= f) ≡ Some y → (x : A) × (o ≡ Some x) × (f x ≡ Some y)
bind_parts None f y h = absurd cc
bind_parts (Some x) f y h = (x, refl, h)

pub some_same : {A : Type 0} (x y : A) → Some x ≡ Some y → x ≡ y
some_same x y h = cc

pub when_parts : {A : Type 0} (b : Bool) (o : Option A) (y : A) → cond b o None ≡ Some y → (b ≡ true) × (o ≡ Some y)
when_parts true o y h = (refl, h)
when_parts false o y h = absurd cc

pub cases_option : {A : Type 0} (o : Option A) → (o ≡ None) ⊎ ((x : A) × (o ≡ Some x))
cases_option None = inl refl
cases_option (Some x) = inr (x, refl)

-- a value that always follows another is there exactly where that is
pub bind_none : {A B : Type 0} (o : Option A) (f : A → Option B) → ((x : A) → o ≡ Some x → is_some (f x) ≡ true) → is_none (o >>= f) ≡ is_none o
bind_none None f h = refl
bind_none (Some x) f h = turned (f x) (h x refl) where
  turned : {B : Type 0} (o : Option B) → is_some o ≡ true → is_none o ≡ false
  turned None h = absurd cc
  turned (Some y) h = refl
