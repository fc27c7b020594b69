-- A loop over the members of a mask: its invariant and its laws, for any width. Assumes nothing.
use mathlib.Core.Path.{◌≡◌, subst, sym}
use mathlib.Core.Logic.{◌⊎◌, inl, inr}
use Prim.Native.Nat.{ℕ, ◌^◌, ◌<◌}
use native.Mathlib.Omega.{arith}
use native.Mathlib.Decide.{ℕ_discrete}
use borrow.Author.Tests.{ne_eqb}
use lib.Dec.{T}
use Rattle.mask.specs.Mask.{has, Subset, below, remove_of, lowest_of}
use Rattle.mask.proofs.Laws.{has_remove, has_zero, below_has, lowest_is, remove_lt, remove_subset}

-- of the members of a set of w bits, those in `left` are still to come, and P holds of the others
pub record VisitIn (w set left : ℕ) (P : ℕ → Type 0) : Type 0 where
  pub fits : left < 2 ^ w
  pub inside : Subset left set
  pub visited : (k : ℕ) → T (has set k) → T (has left k) ⊎ P k

-- the same of 32 bits, as every set of the tool has
abbrev pub Visit : ℕ → ℕ → (ℕ → Type 0) → Type 0
Visit = VisitIn 32

-- the lowest of those still to come, and the others; of 32 bits this is `ComesNext`
abbrev pub NextIn : ℕ → ℕ → ℕ → ℕ → Type 0
NextIn w left k rest = (0 < left) × (k ≡ lowest_of w left) × (rest ≡ remove_of left k)

pub visit_start : {w set : ℕ} {P : ℕ → Type 0} → set < 2 ^ w → VisitIn w set set P
visit_start h = record { fits = h; inside = λ k u. u; visited = λ k u. inl u }

pub visit_end : {w set left : ℕ} {P : ℕ → Type 0} → VisitIn w set left P → left ≡ 0 → (k : ℕ) → T (has set k) → P k
visit_end {w} {set} {left} {P} v e k u = go (v.visited k u)
  where
    go : T (has left k) ⊎ P k → P k
    go (inl t) = absurd (rw (e, has_zero k) at t)
    go (inr p) = p

pub visit_map : {w set left : ℕ} {P Q : ℕ → Type 0} → ((k : ℕ) → P k → Q k) → VisitIn w set left P → VisitIn w set left Q
visit_map {w} {set} {left} {P} {Q} f v = record { fits = v.fits; inside = v.inside; visited = λ k u. go k (v.visited k u) }
  where
    go : (k : ℕ) → T (has left k) ⊎ P k → T (has left k) ⊎ Q k
    go k (inl t) = inl t
    go k (inr p) = inr (f k p)

module _ {w set left j rest : ℕ} {P : ℕ → Type 0} (v : VisitIn w set left P) (s : NextIn w left j rest) where
  pub visit_left : T (has left j)
  visit_left = rw s.1 (lowest_is w left s.0 v.fits).member

  pub visit_member : T (has set j)
  visit_member = v.inside j visit_left

  pub visit_low : (n : ℕ) → T (below n set) → j < n
  visit_low n b = below_has n set b j visit_member

  pub visit_next : P j → VisitIn w set rest P
  visit_next p = record {
    fits = rw s.2 (omega (arith, v.fits, remove_lt left j visit_left));
    inside = λ k u. v.inside k (remove_subset left j k (rw s.2 at u));
    visited = λ k u. go k (ℕ_discrete k j) (v.visited k u);
  }
    where
      go : (k : ℕ) → Dec (k ≡ j) → T (has left k) ⊎ P k → T (has rest k) ⊎ P k
      go k (yes q) o = inr (subst P (sym q) p)
      go k (no q) (inl u) = inl (rw (s.2, has_remove left j k, ne_eqb k j q) u)
      go k (no q) (inr x) = inr x
