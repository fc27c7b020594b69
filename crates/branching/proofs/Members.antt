-- The members of a set in rising order: the lowest, then those without it. Assumes nothing.
use mathlib.Core.Path.{◌≡◌, refl, sym, ap, ◌∙◌}
use mathlib.Core.Bool.{Bool, true, false, not, ◌&&◌}
use mathlib.Core.List.{List, [], ◌∷◌}
use Prim.Native.Nat.{ℕ, zero, suc, ◌+◌, ◌^◌, ◌≤◌, ◌<◌}
use native.Mathlib.Omega.{arith}
use borrow.Author.Tests.{eq-eqb, ne_eqb}
use lib.Dec.{T, eqb}
use Rattle.finite.specs.Finite.{first_from}
use Rattle.mask.specs.Mask.{has, remove_of, lowest_of}
use Rattle.mask.proofs.Laws.{has_zero, has_remove, some_member}
use Rattle.branching.specs.Branching.{members_from}

and_false : (a : Bool) → (a && false) ≡ false
and_false true = refl
and_false false = refl

pub members_none : (n k : ℕ) → members_from n k 0 ≡ []
unfolding members_from
members_none zero k = refl
members_none (suc n) k = rw (has_zero k) (members_none n (suc k))

module _ (n k x : ℕ) where
  -- k is a member, or not
  members_in : has x k ≡ true → members_from (suc n) k x ≡ k ∷ members_from n (suc k) x
  unfolding members_from
  members_in e = rw e refl

  members_out : has x k ≡ false → members_from (suc n) k x ≡ members_from n (suc k) x
  unfolding members_from
  members_out e = rw e refl

  first_in : has x k ≡ true → first_from (suc n) (has x) k ≡ k
  unfolding first_from
  first_in e = rw (e, first_from) refl

  first_out : has x k ≡ false → first_from (suc n) (has x) k ≡ first_from n (has x) (suc k)
  unfolding first_from
  first_out e = rw (e, first_from) refl

-- sets with the same members from k on
members_same : (n k x y : ℕ) → ((j : ℕ) → k ≤ j → has x j ≡ has y j) → members_from n k x ≡ members_from n k y
unfolding members_from
members_same zero k x y f = refl
members_same (suc n) k x y f = rw (f k (omega arith), members_same n (suc k) x y (λ j l. f j (omega arith))) refl

-- a set that has a member there
lowest_first : (n k x j : ℕ) → k ≤ j → j < k + n → T (has x j) → members_from n k x ≡ first_from n (has x) k ∷ members_from n k (remove_of x (first_from n (has x) k))
lowest_first zero k x j a b u = absurd (omega arith)
lowest_first (suc n) k x j a b u = go (has x k) refl (λ i. lowest_first n (suc k) x j (omega (arith, i)) (omega arith) u)
  where
    go : (here : Bool) → has x k ≡ here
        → ((j ≡ k → ⊥) → members_from n (suc k) x ≡ first_from n (has x) (suc k) ∷ members_from n (suc k) (remove_of x (first_from n (has x) (suc k))))
        → members_from (suc n) k x ≡ first_from (suc n) (has x) k ∷ members_from (suc n) k (remove_of x (first_from (suc n) (has x) k))
    go true e next =
        let same = members_same n (suc k) x (remove_of x k) (λ i l. sym (rw (has_remove x k i, ne_eqb i k (λ q. omega (arith, q, l))) refl)) in
        let gone : has (remove_of x k) k ≡ false = rw (has_remove x k k, eq-eqb k k refl) refl in
        rw (first_in n k x e) (members_in n k x e ∙ ap (λ (l : List ℕ). k ∷ l) (same ∙ sym (members_out n k (remove_of x k) gone)))
    go false e next =
        let f = first_from n (has x) (suc k) in
        let out : has (remove_of x f) k ≡ false = rw (has_remove x f k, e) (and_false (not (eqb k f))) in
        rw (first_out n k x e) (members_out n k x e ∙ next (λ q. rw (q, e) at u) ∙ ap (λ (l : List ℕ). f ∷ l) (sym (members_out n k (remove_of x f) out)))

pub members_next : {x : ℕ} → 0 < x → x < 2 ^ 32 → members_from 32 0 x ≡ lowest_of 32 x ∷ members_from 32 0 (remove_of x (lowest_of 32 x))
members_next {x} some fits = let m = some_member 32 x some fits in lowest_first 32 0 x m.0 (omega arith) (omega (arith, m.1)) m.2
