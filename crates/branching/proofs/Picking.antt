-- The pick: one task after another. Assumes nothing.
use mathlib.Core.Path.{◌≡◌, refl, sym, ◌∙◌}
use mathlib.Core.Bool.{Bool, true, false, cond}
use mathlib.Core.List.{List, [], ◌∷◌}
use Prim.Native.Nat.{ℕ, zero, suc, ◌^◌, ◌≤◌, ◌<◌}
use borrow.Author.Tests.{eq-eqb, ne_eqb, lt-ltb, le-ltb}
use lib.Dec.{T, eqb, ltb}
use lib.ListN.{get_or}
use Rattle.mask.specs.Mask.{has, lowest_of}
use Rattle.mask.proofs.Laws.{lowest_is}
use Rattle.heuristics.specs.declared.Heuristics.{Heuristics}
use Rattle.heuristics.specs.Heuristics.{after_blame, after_noise}
use Rattle.branching.specs.Branching.{Picked, members_from, choices_of, noise_of, score_of, score_in, pick_from, pick_of}

module _ (base may : List ℕ) (processors : ℕ) where
  -- one task more, with the processors that may take it
  module _ (k best least : ℕ) (rest : List ℕ) (heuristics : Heuristics) {picked : Picked} (e : pick_from base may processors (k ∷ rest) best least heuristics ≡ picked)
      {found : ℕ} (f : found ≡ choices_of may processors k) {after : Heuristics} where
    -- no processor may take it
    pub pick_none : found ≡ 0 → after ≡ after_blame heuristics k → (k ≡ picked.task) × (after ≡ picked.heuristics)
    unfolding pick_from
    pick_none z a = rw (← e) (rw (eq-eqb (choices_of may processors k) 0 (sym f ∙ z)) (refl, a))

    module _ (some : found ≡ 0 → ⊥) {value : ℕ} (v : value ≡ score_of (get_or base k 0) (get_or heuristics.guide.failures k 0) found (noise_of heuristics)) (a : after ≡ after_noise heuristics) where
      next : (better : Bool) → ltb value least ≡ better → pick_from base may processors rest (cond better k best) (cond better value least) after ≡ picked
      unfolding pick_from
      next better b = rw (← e) (rw (ne_eqb (choices_of may processors k) 0 (λ z. some (f ∙ z)), ← b, a, v, f) refl)

      -- it is the best so far
      pub pick_better : value < least → pick_from base may processors rest k value after ≡ picked
      pick_better l = next true (lt-ltb value least l)

      -- it is not
      pub pick_worse : least ≤ value → pick_from base may processors rest best least after ≡ picked
      pick_worse l = next false (le-ltb value least l)

  -- no task is left
  pub pick_end : (best least : ℕ) (heuristics : Heuristics) {picked : Picked} → pick_from base may processors [] best least heuristics ≡ picked → (best ≡ picked.task) × (heuristics ≡ picked.heuristics)
  unfolding pick_from
  pick_end best least heuristics e = rw (← e) (refl, refl)

  -- the task that is picked is one of the set
  among : (n k x best least : ℕ) (heuristics : Heuristics) → T (has x best) → T (has x (pick_from base may processors (members_from n k x) best least heuristics).task)
  unfolding members_from pick_from
  among zero k x best least heuristics u = u
  among (suc n) k x best least heuristics u = go (has x k) refl (λ b l h. among n (suc k) x b l h)
    where
      better : Bool
      better = ltb (score_in base may processors heuristics k) least

      chosen : (b : Bool) → T (has x k) → T (has x (cond b k best))
      chosen true v = v
      chosen false v = u

      Later : Type 0
      Later = (b l : ℕ) (h : Heuristics) → T (has x b) → T (has x (pick_from base may processors (members_from n (suc k) x) b l h).task)

      here : (none : Bool) → T (has x k) → Later
          → T (has x (cond none (record { task = k; heuristics = after_blame heuristics k })
          (pick_from base may processors (members_from n (suc k) x) (cond better k best) (cond better (score_in base may processors heuristics k) least) (after_noise heuristics))).task)
      here true v later = v
      here false v later = later (cond better k best) (cond better (score_in base may processors heuristics k) least) (after_noise heuristics) (chosen better v)

      go : (b : Bool) → has x k ≡ b → Later → T (has x (pick_from base may processors (members_from (suc n) k x) best least heuristics).task)
      go true e later = rw e (here (eqb (choices_of may processors k) 0) (rw e tt) later)
      go false e later = rw e (later best least heuristics u)

  pub picked_open : (left : ℕ) (heuristics : Heuristics) → 0 < left → left < 2 ^ 32 → T (has left (pick_of base processors left may heuristics).task)
  picked_open left heuristics some fits = among 32 0 left (lowest_of 32 left) 18446744073709551615 heuristics (lowest_is 32 left some fits).member
