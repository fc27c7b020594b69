-- The least solution of x ≡ f x for an f that never falls, and the iteration that reaches it. Assumes nothing.
use mathlib.Core.Path.{◌≡◌, refl}
use Prim.Native.Nat.{ℕ, zero, suc, ◌+◌, ◌≤◌, ◌<◌}
use native.Mathlib.Omega.{arith}
use native.Mathlib.Nat.{le_of_suc-le-suc, lt_of_not-le}
use native.Mathlib.Decide.{ℕ_discrete, dec_le}
use borrow.Author.Tests.{le-leb, lt-leb}
use lib.Dec.{T, eqb, eqb→eq, eqb_refl}
use Rattle.finite.specs.Finite.{first_from}
use Rattle.finite.proofs.First.{First, first, found, missing}
use Rattle.schedule.specs.Response.{least_solution, Least, solved, unsolved, up_to}

-- x is on the way to the least solution: at most f x, and at most each z with f z ≤ z
pub record Iterate (f : ℕ → ℕ) (x : ℕ) : Type 0 where
  pub grows : x ≤ f x
  pub below : (z : ℕ) → f z ≤ z → x ≤ z

module _ (f : ℕ → ℕ) (rises : (x y : ℕ) → x ≤ y → f x ≤ f y) where
  pub step : (x : ℕ) → Iterate f x → Iterate f (f x)
  step x o = record { grows = rises x (f x) o.grows; below = λ z h. omega (arith, rises x z (o.below z h)) }

  -- under a bound z there is a solution
  pub solution : (z : ℕ) → f z ≤ z → (y : ℕ) × (f y ≡ y) × (y ≤ z) × ((v : ℕ) → f v ≤ v → y ≤ v)
  solution z h = go z 0 (record { grows = omega arith; below = λ v k. omega arith }) (omega arith)
    where
      go : (fuel x : ℕ) → Iterate f x → z ≤ x + fuel → (y : ℕ) × (f y ≡ y) × (y ≤ z) × ((v : ℕ) → f v ≤ v → y ≤ v)
      go zero x o l = (x, omega (arith, o.grows, o.below z h, rises x z (o.below z h)), o.below z h, o.below)
      go (suc fuel) x o l = pick (ℕ_discrete (f x) x) (λ (k : z ≤ f x + fuel). go fuel (f x) (step x o) k)
        where
          pick : Dec (f x ≡ x) → (z ≤ f x + fuel → (y : ℕ) × (f y ≡ y) × (y ≤ z) × ((v : ℕ) → f v ≤ v → y ≤ v)) → (y : ℕ) × (f y ≡ y) × (y ≤ z) × ((v : ℕ) → f v ≤ v → y ≤ v)
          pick (yes e) rest = (x, e, o.below z h, o.below)
          pick (no e) rest = rest (omega (arith, o.grows))

pub least_unique : (f : ℕ → ℕ) (d r s : ℕ) → Least f d r → Least f d s → r ≡ s
least_unique f d r s (solved p l e h) (solved q m g k) = omega (arith, h s (omega arith), k r (omega arith))
least_unique f d r s (solved p l e h) (unsolved q k) = omega (arith, k r (omega arith))
least_unique f d r s (unsolved q k) (solved p l e h) = omega (arith, k s (omega arith))
least_unique f d r s (unsolved p h) (unsolved q k) = omega arith

module _ (f : ℕ → ℕ) (rises : (x y : ℕ) → x ≤ y → f x ≤ f y) (pos : (x : ℕ) → 0 < f x) where
  pub least_solution_lem : (d : ℕ) → Least f d (least_solution f d)
  unfolding least_solution
  least_solution_lem d = go (first d (λ x. eqb (f x) x) 1)
    where
      solves : (v : ℕ) → f v ≡ v → T (eqb (f v) v)
      solves v e = rw e (eqb_refl v)

      go : First d (λ x. eqb (f x) x) 1 (first_from d (λ x. eqb (f x) x) 1) → Least f d (first_from d (λ x. eqb (f x) x) 1)
      go (found a c t h) = solved a (omega arith) (eqb→eq (f (first_from d (λ x. eqb (f x) x) 1)) (first_from d (λ x. eqb (f x) x) 1) t) (λ v k.
          let s = solution f rises v k in
          le_of_suc-le-suc (lt_of_not-le (λ (q : suc v ≤ first_from d (λ x. eqb (f x) x) 1). h s.0 (omega (arith, s.1, pos s.0)) (omega (arith, s.2)) (solves s.0 s.1))))
      go (missing e h) = unsolved e (λ v k.
          let s = solution f rises v k in
          lt_of_not-le (λ (q : v ≤ d). h s.0 (omega (arith, s.1, pos s.0)) (omega (arith, s.2)) (solves s.0 s.1)))

  -- the iteration's two ends: it reaches the least solution, or passes d
  pub reached : (d x : ℕ) → Iterate f x → f x ≡ x → x ≤ d → least_solution f d ≡ x
  reached d x o e l = least_unique f d (least_solution f d) x (least_solution_lem d) (solved (omega (arith, pos x)) l e o.below)

  pub exceeded : (d x : ℕ) → Iterate f x → d < x → least_solution f d ≡ 0
  exceeded d x o l = least_unique f d (least_solution f d) 0 (least_solution_lem d) (unsolved refl (λ v k. omega (arith, o.below v k)))

  -- the least solution up to t tells the one up to d
  pub least_cut : (d t : ℕ) → d ≤ t → least_solution f d ≡ up_to d (least_solution f t)
  least_cut d t l = least_unique f d (least_solution f d) (up_to d (least_solution f t)) (least_solution_lem d) (go (least_solution_lem t) (dec_le (least_solution f t) d))
    where
      go : Least f t (least_solution f t) → Dec (least_solution f t ≤ d) → Least f d (up_to d (least_solution f t))
      go (solved p b e h) (yes k) = rw (le-leb (least_solution f t) d k) (solved p k e h)
      go (solved p b e h) (no n) = rw (lt-leb (least_solution f t) d (omega arith)) (unsolved refl (λ v q. omega (arith, h v q)))
      go (unsolved e h) (yes k) = rw (le-leb (least_solution f t) d k) (unsolved e (λ v q. omega (arith, h v q)))
      go (unsolved e h) (no n) = absurd (omega arith)

-- it is at most d
pub least_small : {f : ℕ → ℕ} {d r : ℕ} → Least f d r → r ≤ d
least_small (solved p b e h) = b
least_small (unsolved e h) = omega arith
