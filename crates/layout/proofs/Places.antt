-- Where the records stand. Assumes nothing.
use mathlib.Core.Path.{◌≡◌, refl, sym, ap, ◌∙◌}
use mathlib.Core.Logic.{◌≢◌}
use Prim.Native.Nat.{ℕ, zero, suc, ◌+◌, ◌-◌, ◌*◌, ◌≤◌, ◌<◌}
use native.Mathlib.Nat.{add-zero, add-suc, mul-zero, mul-suc, mul-add, mul-one, mul-le-mul_left}
use native.Mathlib.Omega.{arith}
use lib.ListN.{length}
use Rattle.finite.specs.Finite.{sum_to}
use Rattle.finite.proofs.Sum.{sum_ext, sum_le, sum_zero, sum_at}
use Rattle.layout.specs.declared.Kind.{Kind}
use Rattle.layout.specs.declared.Kind.TheVariants.{Network}
use Rattle.layout.specs.declared.Progress.{Progress}
use Rattle.layout.specs.Format.{row, size, kinds, in_order, count, bytes_of, start, place_in, place, end, longest, Counted}
use Rattle.layout.proofs.EachKind.{each, order_below, kind_of_lem, order_of_lem}

-- ---- the bytes of the first kinds

bytes_ext : (c d : Kind → ℕ) (n : ℕ) → n ≤ length kinds → ((k : Kind) → (row k).order < n → c k ≡ d k) → bytes_of c n ≡ bytes_of d n
unfolding bytes_of
bytes_ext c d n m e = sum_ext n _ _ (λ i l. ap (λ (v : ℕ). size (in_order i) * v) (e (in_order i) (omega (arith, order_of_lem i (omega arith)))))

bytes_le : (c d : Kind → ℕ) (n : ℕ) → ((k : Kind) → c k ≤ d k) → bytes_of c n ≤ bytes_of d n
unfolding bytes_of
bytes_le c d n e = sum_le n _ _ (λ i l. mul-le-mul_left (size (in_order i)) (e (in_order i)))

bytes_kind : (c : Kind → ℕ) (k : Kind) → bytes_of c (suc (row k).order) ≡ bytes_of c (row k).order + size k * c k
unfolding bytes_of sum_to
bytes_kind c k = ap (λ (i : Kind). bytes_of c (row k).order + size i * c i) (kind_of_lem k)

-- a sum, from a number on
sum_from : (f : ℕ → ℕ) (m d : ℕ) → sum_to (m + d) f ≡ sum_to m f + sum_to d (λ i. f (m + i))
unfolding sum_to
sum_from f m zero = simp add-zero
sum_from f m (suc d) = rw add-suc (omega (arith, sum_from f m d))

bytes_from : (c : Kind → ℕ) (m n : ℕ) → m ≤ n → bytes_of c n ≡ bytes_of c m + sum_to (n - m) (λ i. size (in_order (m + i)) * c (in_order (m + i)))
unfolding bytes_of
bytes_from c m n l = let e : n ≡ m + (n - m) = omega arith in ap (bytes_of c) e ∙ sum_from (λ i. size (in_order i) * c (in_order i)) m (n - m)

-- ---- the places of the records

module _ (x : Progress) where
  pub place_first : place x Network 0 ≡ 0
  unfolding place_in bytes_of sum_to
  place_first = refl

  pub place_next : (k : Kind) (j : ℕ) → place x k j + size k ≡ place x k (suc j)
  unfolding place_in
  place_next k j = omega (arith, mul-suc (size k) j)

  -- where a kind begins, and where it ends; by its number in the order
  pub place_zero : (k : Kind) → place x k 0 ≡ start x k
  unfolding place_in
  place_zero k = omega (arith, mul-zero (size k))

  pub place_start : (n : ℕ) → n < length kinds → place x (in_order n) 0 ≡ bytes_of (count x) n
  place_start n l = place_zero (in_order n) ∙ ap (bytes_of (count x)) (order_of_lem n l)

  behind : (k : Kind) → place x k (count x k) ≡ bytes_of (count x) (suc (row k).order)
  unfolding place_in
  behind k = sym (bytes_kind (count x) k)

  pub place_end : (n : ℕ) → n < length kinds → place x (in_order n) (count x (in_order n)) ≡ bytes_of (count x) (suc n)
  place_end n l = behind (in_order n) ∙ ap (λ (i : ℕ). bytes_of (count x) (suc i)) (order_of_lem n l)

  -- the next kind begins behind a kind
  pub place_kind : (k i : Kind) → (row i).order ≡ suc (row k).order → place x k (count x k) ≡ place x i 0
  place_kind k i e = behind k ∙ ap (bytes_of (count x)) (sym e) ∙ sym (place_zero i)

  -- a kind with none behind it ends where all end
  pub place_last : (k : Kind) → ((i : Kind) → (row k).order < (row i).order → count x i ≡ 0) → place x k (count x k) ≡ end x
  place_last k none = let n = suc (row k).order in behind k ∙ omega (arith, bytes_from (count x) n (length kinds) (order_below k), sum_zero (length kinds - n) _ (λ i l. none_in (n + i) (omega arith) (omega arith)))
    where
      none_in : (i : ℕ) → (row k).order < i → i < length kinds → size (in_order i) * count x (in_order i) ≡ 0
      none_in i l m = ap (λ (v : ℕ). size (in_order i) * v) (none (in_order i) (omega (arith, order_of_lem i m))) ∙ mul-zero (size (in_order i))

  -- every record ends before the end of all
  pub place_within : (k : Kind) (j : ℕ) → j < count x k → place x k j + size k ≤ end x
  unfolding place_in
  place_within k j l =
      let up : size k * (j + 1) ≤ size k * count x k = mul-le-mul_left (size k) (omega arith) in
      omega (arith, mul-add (size k) j 1, mul-one (size k), bytes_kind (count x) k, bytes_from (count x) (suc (row k).order) (length kinds) (order_below k))

  module _ (h : Counted x) where
    pub end_most : end x ≤ longest
    unfolding longest
    end_most = bytes_le (count x) (λ k. (row k).most) (length kinds) h.few

    -- every record that there may be ends within the longest file
    pub place_most : (k : Kind) (j : ℕ) → j < (row k).most → place x k j + size k ≤ longest
    unfolding place_in longest
    place_most k j l =
        let most : Kind → ℕ = λ i. (row i).most in
        let up : size k * (j + 1) ≤ size k * (row k).most = mul-le-mul_left (size k) (omega arith) in
        omega (
          arith,
          mul-add (size k) j 1,
          mul-one (size k),
          bytes_le (count x) most (row k).order h.few,
          bytes_kind most k,
          bytes_from most (suc (row k).order) (length kinds) (order_below k),
        )

-- ---- of two progresses

module _ (x y : Progress) (k : Kind) where
  -- the same counts before a kind, the same places in it
  pub place_agree : ((i : Kind) → (row i).order < (row k).order → count x i ≡ count y i) → (j : ℕ) → place x k j ≡ place y k j
  unfolding place_in
  place_agree e j = ap (λ (n : ℕ). n + size k * j) (bytes_ext (count x) (count y) (row k).order (omega (arith, order_below k)) e)

  -- one record more
  pub end_more : ((i : Kind) → (row i).order ≢ (row k).order → count y i ≡ count x i) → count y k ≡ count x k + 1 → end y ≡ end x + size k
  unfolding bytes_of
  end_more e d = sum_at (length kinds) _ _ (row k).order (size k) (order_below k) elsewhere here
    where
      elsewhere : (i : ℕ) → i < length kinds → i ≢ (row k).order → size (in_order i) * count y (in_order i) ≡ size (in_order i) * count x (in_order i)
      elsewhere i l n = ap (λ (v : ℕ). size (in_order i) * v) (e (in_order i) (omega (arith, order_of_lem i l)))

      here : size (in_order (row k).order) * count y (in_order (row k).order) ≡ size (in_order (row k).order) * count x (in_order (row k).order) + size k
      here = rw (kind_of_lem k) (ap (λ (n : ℕ). size k * n) d ∙ omega (arith, mul-add (size k) (count x k) 1, mul-one (size k)))

-- ---- the longest file

pub longest_is : longest ≡ 1302
unfolding longest bytes_of sum_to
longest_is = refl

pub most_longest : (k : Kind) → (row k).most ≤ longest
unfolding longest bytes_of sum_to
most_longest = each (λ k. (row k).most ≤ longest) (omega arith)
