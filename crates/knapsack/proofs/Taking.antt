-- Weights of sets, and what a processor can take, with one task more. Assumes nothing.
use mathlib.Core.Path.{◌≡◌, refl, subst, fun_ext}
use mathlib.Core.Bool.{Bool, true, false, not, ◌&&◌, ◌||◌}
use mathlib.Core.List.{List}
use Prim.Native.Nat.{ℕ, ◌-◌, ◌^◌, ◌≤◌, ◌<◌}
use native.Mathlib.Nat.{lt_of_le_of_lt}
use native.Mathlib.Omega.{arith}
use native.Mathlib.Decide.{ℕ_discrete}
use lib.Bits.{bit_and, and_le_r}
use lib.Dec.{T, eqb, leb, eqb→eq, ltb→lt, leb→le, le→leb}
use lib.ListN.{get_or}
use Rattle.finite.proofs.Some.{or_left}
use Rattle.mask.specs.Mask.{has, below, insert_of, remove_of}
use Rattle.mask.proofs.Tests.{and_both, and_left, and_right}
use Rattle.mask.proofs.Laws.{has_and, has_insert, has_remove, remove_subset, some_member, sum_remove}
use Rattle.knapsack.specs.Knapsack.{has_room, joined, Takes}

-- another kind of sets
pub takes_map : {n : ℕ} {memory exclusions loads : List ℕ} {B C : (ℕ → Bool) → Type 0} {on space spare x : ℕ} → ((y : ℕ → Bool) → C y → B y)
    → Takes n memory exclusions loads B on space spare x → Takes n memory exclusions loads C on space spare x
takes_map f w = record { enough_memory = w.enough_memory; enough_load = w.enough_load; apart = w.apart; clear = λ c. w.clear (f _ c) }

-- where there is room, memory and load suffice
module _ (memory exclusions loads : List ℕ) (on space spare k : ℕ) {b : Bool} (e : b ≡ has_room memory exclusions loads on space spare k) (f : b ≡ true) where
  both : T (leb (get_or memory k 0) space && leb (get_or loads k 0) spare)
  both = and_left (leb (get_or memory k 0) space && leb (get_or loads k 0) spare) (eqb (bit_and (get_or exclusions k 0) on) 0) (rw (← e, f) tt)

  pub room_memory : get_or memory k 0 ≤ space
  room_memory = leb→le (get_or memory k 0) space (and_left (leb (get_or memory k 0) space) (leb (get_or loads k 0) spare) both)

  pub room_load : get_or loads k 0 ≤ spare
  room_load = leb→le (get_or loads k 0) spare (and_right (leb (get_or memory k 0) space) (leb (get_or loads k 0) spare) both)

-- the processor with k, and the rest of x
module _ (on x k : ℕ) (u : T (has x k)) where
  pub joined_next : (j : ℕ) → joined (insert_of on k) (remove_of x k) j ≡ joined on x j
  joined_next j = rw (has_insert on k j, has_remove x k j) (go (eqb j k) (has on j) (has x j) (λ t. rw (eqb→eq j k t) u))
    where
      go : (e a b : Bool) → (T e → T b) → ((e || a) || (not e && b)) ≡ (a || b)
      go true true b f = refl
      go true false true f = refl
      go true false false f = absurd (f tt)
      go false true b f = refl
      go false false b f = refl

  -- the processor with k is part of it with x
  pub with_inside : (j : ℕ) → T (has (insert_of on k) j) → T (joined on x j)
  with_inside j v = subst T (joined_next j) (or_left (has (insert_of on k) j) (has (remove_of x k) j) v)

module _ {n : ℕ} {memory exclusions loads : List ℕ} {B : (ℕ → Bool) → Type 0} {on space spare x : ℕ} (w : Takes n memory exclusions loads B on space spare x)
    {k : ℕ} (l : k < n) (u : T (has x k)) where
  takes_apart : T (below n on) → (bit_and (get_or exclusions k 0) on ≡ 0 → ⊥) → ⊥
  takes_apart low f =
      let e = get_or exclusions k 0 in
      let r = some_member n (bit_and e on) (omega (arith, f)) (lt_of_le_of_lt (and_le_r e on) (ltb→lt on (2 ^ n) low)) in
      let j = r.0 in
      let v = rw (has_and e on j) at r.2 in
      w.apart j k u (or_left (has on j) (has x j) (and_right (has e j) (has on j) v)) (and_left (has e j) (has on j) v)

  -- there is room for each task of x
  pub takes_room : T (below n on) → T (has_room memory exclusions loads on space spare k)
  takes_room low =
      and_both (leb (get_or memory k 0) space && leb (get_or loads k 0) spare) (eqb (bit_and (get_or exclusions k 0) on) 0)
      (and_both (leb (get_or memory k 0) space) (leb (get_or loads k 0) spare)
      (le→leb (get_or memory k 0) space (omega (arith, sum_remove n x (λ j. get_or memory j 0) k l u, w.enough_memory)))
      (le→leb (get_or loads k 0) spare (omega (arith, sum_remove n x (λ j. get_or loads j 0) k l u, w.enough_load))))
      (go (ℕ_discrete (bit_and (get_or exclusions k 0) on) 0))
    where
      go : Dec (bit_and (get_or exclusions k 0) on ≡ 0) → T (eqb (bit_and (get_or exclusions k 0) on) 0)
      go (yes e) = rw e tt
      go (no e) = absurd (takes_apart low e)

  -- with k there, it can take the rest
  pub takes_next : Takes n memory exclusions loads B (insert_of on k) (space - get_or memory k 0) (spare - get_or loads k 0) (remove_of x k)
  takes_next = record {
    enough_memory = omega (arith, sum_remove n x (λ j. get_or memory j 0) k l u, w.enough_memory);
    enough_load = omega (arith, sum_remove n x (λ j. get_or loads j 0) k l u, w.enough_load);
    apart = λ j i v o. w.apart j i (remove_subset x k i v) (subst T (joined_next on x k u j) o);
    clear = λ b. w.clear (subst B (fun_ext (joined_next on x k u)) b);
  }
