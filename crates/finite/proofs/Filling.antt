-- The loops that store a list of values place by place: their invariant and its laws. Assumes nothing.
use mathlib.Core.Path.{◌≡◌, refl, sym, ◌∙◌}
use mathlib.Core.Logic.{◌≢◌}
use mathlib.Core.Bool.{Bool, true, cond}
use mathlib.Core.List.{List}
use Prim.Native.Nat.{ℕ, ◌+◌, ◌≤◌, ◌<◌}
use native.Mathlib.Omega.{arith}
use native.Mathlib.Decide.{dec_lt}
use borrow.Author.Tests.{lt-ltb, le-ltb}
use lib.Dec.{ltb}
use lib.ListN.{set, replicate}
use Rattle.finite.specs.Finite.{tabulate}
use Rattle.finite.proofs.Tabulate.{tabulate_below, tabulate_same, tabulate_set}

-- the places that are done hold f, the others g
pub record Partly {A : Type 0} (m : ℕ) (f g : ℕ → A) (done : ℕ → Bool) (row : List A) : Type 0 where
  pub value : row ≡ tabulate m (λ k. cond (done k) (f k) (g k))

module _ {A : Type 0} {m : ℕ} {f g : ℕ → A} {done : ℕ → Bool} {row : List A} (w : Partly m f g done row) where
  -- one place more
  pub partly_next : (more : ℕ → Bool) {i : ℕ} {v : A} → i < m → v ≡ f i → more i ≡ true → ((k : ℕ) → k ≢ i → done k ≡ more k) → Partly m f g more (set row i v)
  partly_next more {i} {v} l e here others = record { value = rw (w.value, e ∙ sym new_here) (tabulate_set m (λ k. cond (done k) (f k) (g k)) new i l (λ k d. rw (others k d) refl)) }
    where
      new : ℕ → A
      new k = cond (more k) (f k) (g k)

      new_here : new i ≡ f i
      new_here = rw here refl

  -- what is done, put another way
  pub partly_as : (h : ℕ → A) → ((k : ℕ) → k < m → cond (done k) (f k) (g k) ≡ h k) → row ≡ tabulate m h
  partly_as h e = w.value ∙ tabulate_below m (λ k. cond (done k) (f k) (g k)) h e

-- ---- one place after the other

-- the places below i hold f, the others x
abbrev pub Filled : {A : Type 0} → ℕ → (ℕ → A) → A → ℕ → List A → Type 0
Filled m f x i row = Partly m f (λ k. x) (λ k. ltb k i) row

module _ {A : Type 0} {m : ℕ} (f : ℕ → A) {x : A} where
  pub filled_start : Filled m f x 0 (replicate m x)
  filled_start = record { value = tabulate_same m (λ k. cond (ltb k 0) (f k) x) x (λ k. rw (le-ltb k 0 (omega arith)) refl) }

  pub filled_next : {row : List A} {i : ℕ} {v : A} → Filled m f x i row → i < m → v ≡ f i → Filled m f x (i + 1) (set row i v)
  filled_next {row} {i} {v} w l e = partly_next w (λ k. ltb k (i + 1)) l e (lt-ltb i (i + 1) (omega arith)) (λ k d. others k d (dec_lt k i))
    where
      others : (k : ℕ) → k ≢ i → Dec (k < i) → ltb k i ≡ ltb k (i + 1)
      others k d (yes h) = lt-ltb k i h ∙ sym (lt-ltb k (i + 1) (omega arith))
      others k d (no h) = le-ltb k i (omega arith) ∙ sym (le-ltb k (i + 1) (omega arith))

  pub filled_end : {row : List A} {i : ℕ} → Filled m f x i row → m ≤ i → row ≡ tabulate m f
  filled_end {row} {i} w l = partly_as w f (λ k h. rw (lt-ltb k i (omega arith)) refl)
