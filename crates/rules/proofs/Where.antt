-- What elsewhere, apart, together and some_pair say, and that each holds of a larger test where it holds of a smaller one. Assumes nothing.
use mathlib.Core.Logic.{◌≢◌}
use mathlib.Core.Bool.{Bool, not, ◌&&◌}
use Prim.Native.Nat.{ℕ, ◌<◌}
use lib.Dec.{T, eqb, T_not, not_T, eqb→eq, eqb_refl}
use Rattle.finite.specs.Finite.{some_below}
use Rattle.finite.proofs.Some.{some_intro, some_elim}
use Rattle.mask.specs.Mask.{has}
use Rattle.mask.proofs.Tests.{and_both, and_left, and_right}
use Rattle.rules.specs.Placement.{elsewhere, apart, together, some_pair}

-- two different numbers, as a test
pub differ : (i j : ℕ) → i ≢ j → T (not (eqb i j))
differ i j d = not_T (eqb i j) (λ t. d (eqb→eq i j t))

pub different : (i j : ℕ) → T (not (eqb i j)) → i ≢ j
different i j t e = T_not (eqb i j) t (rw e (eqb_refl j))

module _ (m : ℕ) where
  pub elsewhere_elim : {p : ℕ} (x : ℕ → Bool) → T (elsewhere m p x) → (r : ℕ) × (r < m) × (r ≢ p) × T (x r)
  unfolding elsewhere
  elsewhere_elim {p} x t =
      let s = some_elim m (λ r. not (eqb r p) && x r) t in
      (s.0, s.1, different s.0 p (and_left (not (eqb s.0 p)) (x s.0) s.2), and_right (not (eqb s.0 p)) (x s.0) s.2)

  pub elsewhere_intro : {p r : ℕ} (x : ℕ → Bool) → r < m → r ≢ p → T (x r) → T (elsewhere m p x)
  unfolding elsewhere
  elsewhere_intro {p} {r} x l d t = some_intro m (λ r. not (eqb r p) && x r) r l (and_both (not (eqb r p)) (x r) (differ r p d) t)

  pub apart_elim : (x y : ℕ → Bool) → T (apart m x y) → (p r : ℕ) × (p < m) × (r < m) × (r ≢ p) × T (x p) × T (y r)
  unfolding apart
  apart_elim x y t =
      let s = some_elim m (λ p. x p && elsewhere m p y) t in
      let e = elsewhere_elim y (and_right (x s.0) (elsewhere m s.0 y) s.2) in
      (s.0, e.0, s.1, e.1, e.2, and_left (x s.0) (elsewhere m s.0 y) s.2, e.3)

  pub apart_intro : {p r : ℕ} (x y : ℕ → Bool) → p < m → r < m → r ≢ p → T (x p) → T (y r) → T (apart m x y)
  unfolding apart
  apart_intro {p} x y l k d t u = some_intro m (λ p. x p && elsewhere m p y) p l (and_both (x p) (elsewhere m p y) t (elsewhere_intro y k d u))

  pub together_elim : (x y : ℕ → Bool) → T (together m x y) → (p : ℕ) × (p < m) × T (x p) × T (y p)
  unfolding together
  together_elim x y t =
      let s = some_elim m (λ p. x p && y p) t in
      (s.0, s.1, and_left (x s.0) (y s.0) s.2, and_right (x s.0) (y s.0) s.2)

  pub together_intro : {p : ℕ} (x y : ℕ → Bool) → p < m → T (x p) → T (y p) → T (together m x y)
  unfolding together
  together_intro {p} x y l t u = some_intro m (λ p. x p && y p) p l (and_both (x p) (y p) t u)

pub pair_elim : (n g : ℕ) (f : ℕ → ℕ → Bool) → T (some_pair n g f) → (i j : ℕ) × (i < n) × (j < n) × T (has g i) × T (has g j) × T (f i j)
unfolding some_pair
pair_elim n g f t =
    let a = some_elim n (λ i. some_below n (λ j. (has g i && has g j) && f i j)) t in
    let i = a.0 in
    let b = some_elim n (λ j. (has g i && has g j) && f i j) a.2 in
    let j = b.0 in
    let both = and_left (has g i && has g j) (f i j) b.2 in
    (i, j, a.1, b.1, and_left (has g i) (has g j) both, and_right (has g i) (has g j) both, and_right (has g i && has g j) (f i j) b.2)

pub pair_intro : (n g : ℕ) (f : ℕ → ℕ → Bool) (i j : ℕ) → i < n → j < n → T (has g i) → T (has g j) → T (f i j) → T (some_pair n g f)
unfolding some_pair
pair_intro n g f i j l k t u v =
    some_intro n (λ i. some_below n (λ j. (has g i && has g j) && f i j)) i l
    (some_intro n (λ j. (has g i && has g j) && f i j) j k (and_both (has g i && has g j) (f i j) (and_both (has g i) (has g j) t u) v))
