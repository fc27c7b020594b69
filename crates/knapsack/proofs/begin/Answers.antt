-- Only the best, its set, the place in the order and the fuel change.
use mathlib.Core.Path.{◌≡◌, refl}
use mathlib.Core.Logic.{◌⊎◌, inl, inr, ⊎_elim}
use Prim.Native.Nat.{ℕ, ◌-◌, ◌≤◌, ◌<◌}
use native.Mathlib.Omega.{arith}
use Rattle.knapsack.specs.declared.Pack.{Pack}
use Rattle.knapsack.specs.Knapsack.{Begun}
use Rattle.knapsack.proofs.begin.Goals as goal

abbrev changed : Pack → ℕ → ℕ → ℕ → ℕ → Pack
changed pack at best set fuel = record {
  on = pack.on;
  candidates = pack.candidates;
  at = at;
  space = pack.space;
  spare = pack.spare;
  weight = pack.weight;
  reach = pack.reach;
  stop = pack.stop;
  best = best;
  best_set = set;
  fuel = fuel;
}

begun_from : {pack mid : Pack} {A B : Type 0} → (A → pack.best < pack.weight) → (A × (mid ≡ changed pack pack.at pack.weight pack.on pack.fuel)) ⊎ (B × (mid ≡ pack))
    → (at fuel : ℕ) → 24 - at ≤ 24 - mid.at → Begun pack (changed mid at mid.best mid.best_set fuel)
begun_from f (inl (a, e)) at fuel l =
    rw e (record { on = refl; candidates = refl; space = refl; spare = refl; weight = refl; reach = refl; stop = refl; no_more = rw e at l; no_less = omega (arith, f a) })
begun_from f (inr (a, e)) at fuel l =
    rw e (record { on = refl; candidates = refl; space = refl; spare = refl; weight = refl; reach = refl; stop = refl; no_more = rw e at l; no_less = omega arith })

pub returns-then-pack-eq0 : goal.returns-then-pack-eq0
returns-then-pack-eq0 c = begun_from (λ w. w) (⊎_elim (λ w. inl (w.if-pack.true, w.begun-is)) (λ w. inr (w.if-pack.false, w.begun-is)) c.if-pack.branch-raw) 24 _ (omega arith)

pub returns : goal.returns
returns c = begun_from (λ w. w) (⊎_elim (λ w. inl (w.if-pack.true, w.begun-is)) (λ w. inr (w.if-pack.false, w.begun-is)) c.if-pack.branch-raw) _ _ (omega arith)
