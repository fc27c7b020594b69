-- An answer to a question, taken by its value. Assumes nothing.
use mathlib.Core.Path.{◌≡◌, subst}
use mathlib.Core.Bool.{Bool, true, false}
use Rattle.schedule.specs.Arrays.{Says}

pub says_yes : (b : Bool) (A : Type 0) → Says b A → b ≡ true → A
says_yes b A x e = subst (λ (y : Bool). Says y A) e x

pub says_no : (b : Bool) (A : Type 0) → Says b A → b ≡ false → A → ⊥
says_no b A x e = subst (λ (y : Bool). Says y A) e x

-- and for another question that has the same
pub says_iff : (b : Bool) (A B : Type 0) → Says b A → (A → B) → (B → A) → Says b B
says_iff true A B x f g = f x
says_iff false A B x f g = λ y. x (g y)
