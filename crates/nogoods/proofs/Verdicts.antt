-- What the search may conclude from the verdict on a set. Assumes nothing.
use mathlib.Core.Bool.{Bool, true, false}
use mathlib.Core.Logic.{inl, inr}
use mathlib.Core.List.{List}
use Prim.Native.Nat.{ℕ}
use lib.Dec.{T}
use Rattle.mask.specs.Mask.{has}
use Rattle.schedule.specs.Periodic.{Tasks, Valid, Constrained, LateSet}
use Rattle.schedule.proofs.LateSets.{late_within}
use Rattle.answer.specs.Answer.{mask_at}
use Rattle.nogoods.specs.Nogoods.{Covered, Nogoods, Grows, Extended, Bad, Clear}
use Rattle.nogoods.proofs.Growth.{full_stays, covered_grows, covered_back, covered_more}

-- ---- the list grows

pub bad_grows : (s : Tasks) (listing : Bool) (x : ℕ → Bool) {P : ℕ → Type 0} {a b : List ℕ} {i j : ℕ} → Grows P a i b j → Bad s listing a i x → Bad s listing b j x
bad_grows s false x u h = h
bad_grows s true x u h = covered_grows u h

-- what is clear stays so, for a full list cannot grow
pub clear_grows : (listing : Bool) (x : ℕ → Bool) {s : Tasks} {P : ℕ → Type 0} {a b : List ℕ} {i j : ℕ} → Extended P s a i b j → Clear s listing a i x → Clear s listing b j x
clear_grows false x u f = f
clear_grows true x u (inl f) = inl f
clear_grows true x u (inr f) = let e = full_stays u f.0 in inr (rw (u.grows.long, ← e) f.0, λ h. f.1 (covered_back e u.grows h))

-- ---- late sets

module _ {s : Tasks} (valid : Valid s) (short : Constrained s) where
  pub bad_more : (listing : Bool) (list : List ℕ) (count : ℕ) (x y : ℕ → Bool) → ((k : ℕ) → T (x k) → T (y k)) → Bad s listing list count x → Bad s listing list count y
  bad_more false list count x y f h = late_within s valid short x y f h
  bad_more true list count x y f h = covered_more f h

  module _ {count : ℕ} {list : List ℕ} (w : Nogoods s list count) where
    pub covered_late : {x : ℕ → Bool} → Covered list count x → LateSet s x
    covered_late {x} h = late_within s valid short (has (mask_at list h.number)) x h.inside (w.minimal h.number h.listed).late

    pub clear_uncovered : {x : ℕ → Bool} → (LateSet s x → ⊥) → Covered list count x → ⊥
    clear_uncovered f h = f (covered_late h)
