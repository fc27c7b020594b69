-- The sets of tasks as masks: what the code tests of them is what the rules say of pairs of tasks. Assumes nothing.
use mathlib.Core.Path.{◌≡◌, sym, ap, ap₂, fun_ext, ◌∙◌}
use mathlib.Core.Logic.{◌⊎◌, inl, inr}
use mathlib.Core.Bool.{Bool, not, ◌&&◌}
use mathlib.Core.List.{List}
use Prim.Native.Nat.{ℕ, suc, ◌^◌, ◌≤◌, ◌<◌}
use native.Mathlib.Omega.{arith}
use native.Mathlib.Nat.{lt_of_le_of_lt}
use native.Mathlib.Decide.{dec_lt}
use lib.Bits.{bit_and, and_le_r}
use lib.Dec.{T, eqb, leb, ltb, eqb→eq, leb→le, le→leb, ltb→lt, eqb_refl}
use lib.ListN.{length, get_or}
use Rattle.finite.specs.Finite.{some_below}
use Rattle.finite.proofs.Some.{some_intro, some_elim, or_left, or_either}
use Rattle.mask.specs.Mask.{has, below, cardinality, insert_of, mask_of}
use Rattle.mask.proofs.Tests.{same_test, and_both, and_left, and_right}
use Rattle.mask.proofs.Laws.{has_zero, has_and, has_insert, has_mask, has_below, below_has, some_member, cardinality_two, two_cardinality}
use Rattle.table.proofs.Columns.{column_in, column_beyond}
use Rattle.rules.specs.Placement.{placed, apart, together, some_pair}
use Rattle.rules.specs.Sets.{standing, Placeable, sets_of, meets, two_of}
use Rattle.rules.proofs.Where.{differ, different, apart_elim, apart_intro, together_elim, together_intro, pair_elim, pair_intro}

-- a member of what two sets share is in both, and the other way round
shared : (a b k : ℕ) → T (has (bit_and a b) k) → T (has a k) × T (has b k)
shared a b k t = let u = rw (has_and a b k) at t in (and_left (has a k) (has b k) u, and_right (has a k) (has b k) u)

sharing : (a b k : ℕ) → T (has a k) → T (has b k) → T (has (bit_and a b) k)
sharing a b k t u = rw (has_and a b k) (and_both (has a k) (has b k) t u)

meets_elim : (w a b : ℕ) → T (below w b) → T (meets a b) → (k : ℕ) × T (has a k) × T (has b k)
unfolding meets
meets_elim w a b low t =
    let some : 0 < bit_and a b = go (bit_and a b) t in
    let r = some_member w (bit_and a b) some (lt_of_le_of_lt (and_le_r a b) (ltb→lt b (2 ^ w) low)) in
    let s = shared a b r.0 r.2 in
    (r.0, s.0, s.1)
  where
    go : (x : ℕ) → T (not (eqb x 0)) → 0 < x
    go x u = let d = different x 0 u in omega arith

meets_intro : (a b k : ℕ) → T (has a k) → T (has b k) → T (meets a b)
unfolding meets
meets_intro a b k t u = differ (bit_and a b) 0 (λ e. rw (e, has_zero k) at (sharing a b k t u))

-- a set of one task
pub meets_one : (a i : ℕ) → meets a (insert_of 0 i) ≡ has a i
meets_one a i = same_test (meets a (insert_of 0 i)) (has a i)
    (λ t. let r = meets_elim (suc i) a (insert_of 0 i) low t in rw (only_one r.0 r.2) at r.1)
    (λ t. meets_intro a (insert_of 0 i) i t (rw (has_insert 0 i i) (or_left (eqb i i) (has 0 i) (eqb_refl i))))
  where
    only_one : (k : ℕ) → T (has (insert_of 0 i) k) → k ≡ i
    only_one k t = go (or_either (eqb k i) (has 0 k) (rw (has_insert 0 i k) at t))
      where
        go : T (eqb k i) ⊎ T (has 0 k) → k ≡ i
        go (inl u) = eqb→eq k i u
        go (inr u) = absurd (rw (has_zero k) at u)

    low : T (below (suc i) (insert_of 0 i))
    low = has_below (suc i) (insert_of 0 i) (λ k t. omega (arith, only_one k t))

pub tasks_apart : (m : ℕ) (sets : List ℕ) (i j : ℕ)
    → apart m (λ p. meets (get_or sets p 0) (insert_of 0 i)) (λ p. meets (get_or sets p 0) (insert_of 0 j)) ≡ apart m (standing sets i) (standing sets j)
tasks_apart m sets i j = ap₂ (apart m) (fun_ext (λ p. meets_one (get_or sets p 0) i)) (fun_ext (λ p. meets_one (get_or sets p 0) j))

module _ (n m : ℕ) (sets : List ℕ) (g : ℕ) (low : T (below n g)) where
  -- two sets meet the group exactly if two of its tasks stand on different processors
  pub group_apart : apart m (λ p. meets (get_or sets p 0) g) (λ p. meets (get_or sets p 0) g) ≡ some_pair n g (λ i j. apart m (standing sets i) (standing sets j))
  group_apart = same_test (apart m meeting meeting) (some_pair n g pairs) forth back
    where
      meeting : ℕ → Bool
      meeting p = meets (get_or sets p 0) g

      pairs : ℕ → ℕ → Bool
      pairs i j = apart m (standing sets i) (standing sets j)

      forth : T (apart m meeting meeting) → T (some_pair n g pairs)
      forth t =
          let s = apart_elim m meeting meeting t in
          let a = meets_elim n (get_or sets s.0 0) g low s.5 in
          let b = meets_elim n (get_or sets s.1 0) g low s.6 in
          pair_intro n g pairs a.0 b.0 (below_has n g low a.0 a.2) (below_has n g low b.0 b.2) a.2 b.2
          (apart_intro m (standing sets a.0) (standing sets b.0) s.2 s.3 s.4 a.1 b.1)

      back : T (some_pair n g pairs) → T (apart m meeting meeting)
      back t =
          let s = pair_elim n g pairs t in
          let a = apart_elim m (standing sets s.0) (standing sets s.1) s.6 in
          apart_intro m meeting meeting a.2 a.3 a.4 (meets_intro (get_or sets a.0 0) g s.0 a.5 s.4) (meets_intro (get_or sets a.1 0) g s.1 a.6 s.5)

  -- a set has two tasks of the group exactly if two of its tasks stand on the same processor
  pub group_together : n ≤ 32 → some_below m (λ p. two_of g (get_or sets p 0)) ≡ some_pair n g (λ i j. not (eqb i j) && together m (standing sets i) (standing sets j))
  unfolding two_of
  group_together few = same_test (some_below m two) (some_pair n g pairs) forth back
    where
      two : ℕ → Bool
      two p = leb 2 (cardinality 32 (bit_and (get_or sets p 0) g))

      pairs : ℕ → ℕ → Bool
      pairs i j = not (eqb i j) && together m (standing sets i) (standing sets j)

      forth : T (some_below m two) → T (some_pair n g pairs)
      forth t =
          let s = some_elim m two t in
          let p = s.0 in
          let r = cardinality_two 32 (bit_and (get_or sets p 0) g) (leb→le 2 (cardinality 32 (bit_and (get_or sets p 0) g)) s.2) in
          let i = r.0 in
          let j = r.1 in
          let a = shared (get_or sets p 0) g i r.4 in
          let b = shared (get_or sets p 0) g j r.5 in
          pair_intro n g pairs i j (below_has n g low i a.1) (below_has n g low j b.1) a.1 b.1
          (and_both (not (eqb i j)) (together m (standing sets i) (standing sets j)) (differ i j (λ e. omega (arith, r.2))) (together_intro m (standing sets i) (standing sets j) s.1 a.0 b.0))

      back : T (some_pair n g pairs) → T (some_below m two)
      back t =
          let s = pair_elim n g pairs t in
          let i = s.0 in
          let j = s.1 in
          let a = together_elim m (standing sets i) (standing sets j) (and_right (not (eqb i j)) (together m (standing sets i) (standing sets j)) s.6) in
          let p = a.0 in
          some_intro m two p a.1 (le→leb 2 (cardinality 32 (bit_and (get_or sets p 0) g))
          (two_cardinality 32 (bit_and (get_or sets p 0) g) i j (different i j (and_left (not (eqb i j)) (together m (standing sets i) (standing sets j)) s.6))
          (omega (arith, s.2)) (omega (arith, s.3)) (sharing (get_or sets p 0) g i a.2 s.4) (sharing (get_or sets p 0) g j a.3 s.5)))

-- the sets of a placement's bytes
pub sets_placed : (q : List ℕ) → Placeable q → standing (sets_of q) ≡ placed q
unfolding sets_of
sets_placed q w = fun_ext (λ k. fun_ext (λ p. go k p (dec_lt p 8)))
  where
    tasks : ℕ → ℕ
    tasks p = mask_of (length q) (λ k. eqb (get_or q k 0) p)

    go : (k p : ℕ) → Dec (p < 8) → has (get_or (sets_of q) p 0) k ≡ (ltb k (length q) && eqb (get_or q k 0) p)
    go k p (yes l) = ap (λ (s : ℕ). has s k) (column_in 8 8 tasks p (omega arith) l) ∙ has_mask (length q) (λ j. eqb (get_or q j 0) p) k
    go k p (no l) = ap (λ (s : ℕ). has s k) (column_beyond 8 8 tasks p (omega arith)) ∙ has_zero k ∙ sym (same_test (ltb k (length q) && eqb (get_or q k 0) p) mathlib.Core.Bool.false none absurd)
      where
        none : T (ltb k (length q) && eqb (get_or q k 0) p) → ⊥
        none t =
            let low = ltb→lt k (length q) (and_left (ltb k (length q)) (eqb (get_or q k 0) p) t) in
            omega (arith, w.known k low, eqb→eq (get_or q k 0) p (and_right (ltb k (length q)) (eqb (get_or q k 0) p) t))
