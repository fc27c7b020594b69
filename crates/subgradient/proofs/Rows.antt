-- The loop that changes a row at the members of a set: its invariant and its laws. Assumes nothing.
use mathlib.Core.Path.{◌≡◌, refl, ap, ◌∙◌}
use mathlib.Core.Logic.{◌≢◌}
use mathlib.Core.Bool.{Bool, true, false, not, ◌&&◌, cond}
use mathlib.Core.List.{List, [], ◌∷◌}
use Prim.Native.Nat.{ℕ, ◌<◌}
use borrow.Author.Tests.{eq-eqb, ne_eqb}
use lib.Dec.{T}
use lib.ListN.{length, get_or, set}
use Rattle.finite.specs.Finite.{tabulate}
use Rattle.mask.specs.Mask.{has, remove_of}
use Rattle.mask.proofs.Laws.{has_zero, has_remove}
use Rattle.finite.proofs.Tabulate.{tabulate_below}
use Rattle.finite.proofs.Filling.{Partly, partly_next, partly_as}

tabulate_self : (row : List ℕ) → row ≡ tabulate (length row) (λ k. get_or row k 0)
unfolding tabulate
tabulate_self [] = refl
tabulate_self (x ∷ row) = ap (λ (r : List ℕ). x ∷ r) (tabulate_self row)

-- the members of the set that are not left hold f, and all other places what they held
pub record Changed (f : ℕ → ℕ) (old : List ℕ) (members left : ℕ) (row : List ℕ) : Type 0 where
  pub partly : Partly 24 f (λ k. get_or old k 0) (λ k. has members k && not (has left k)) row

pub changed_start : {f : ℕ → ℕ} {old : List ℕ} {members : ℕ} → length old ≡ 24 → Changed f old members members old
changed_start {f} {old} {members} e = record {
  partly = record { value = tabulate_self old ∙ rw e (tabulate_below 24 (λ k. get_or old k 0) _ (λ k l. none k (has members k))) };
}
  where
    none : (k : ℕ) (b : Bool) → get_or old k 0 ≡ cond (b && not b) (f k) (get_or old k 0)
    none k true = refl
    none k false = refl

module _ {f : ℕ → ℕ} {old : List ℕ} {members left : ℕ} {row : List ℕ} (w : Changed f old members left row) where
  pub changed_next : {i v rest : ℕ} → i < 24 → v ≡ f i → T (has members i) → rest ≡ remove_of left i → Changed f old members rest (set row i v)
  changed_next {i} {v} {rest} l e u r = record { partly = partly_next w.partly (λ k. has members k && not (has rest k)) l e here others }
    where
      is_true : (b : Bool) → T b → (b && true) ≡ true
      is_true true t = refl
      is_true false t = absurd t

      here : (has members i && not (has rest i)) ≡ true
      here = rw (r, has_remove left i i, eq-eqb i i refl) (is_true (has members i) u)

      others : (k : ℕ) → k ≢ i → (has members k && not (has left k)) ≡ (has members k && not (has rest k))
      others k d = rw (r, has_remove left i k, ne_eqb k i d) refl

  pub changed_end : left ≡ 0 → (h : ℕ → ℕ) → ((k : ℕ) → k < 24 → cond (has members k) (f k) (get_or old k 0) ≡ h k) → row ≡ tabulate 24 h
  changed_end e h p = partly_as w.partly h (λ k l. rw (e, has_zero k) (all k (has members k)) ∙ p k l)
    where
      all : (k : ℕ) (b : Bool) → cond (b && true) (f k) (get_or old k 0) ≡ cond b (f k) (get_or old k 0)
      all k true = refl
      all k false = refl
