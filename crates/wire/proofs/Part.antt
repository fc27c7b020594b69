-- The part of a slice from `a` to its end, lent as `&mut s[a..]`: what the callee saw, and the whole when it is back.
-- Assumes nothing.
use mathlib.Core.Path.{◌≡◌, ◌∙◌, ap}
use mathlib.Core.List.{List, [], ◌++◌, append-nil}
use Prim.Native.Nat.{ℕ, ◌+◌, ◌-◌}
use lib.ListN.{length, take, drop, length-drop}
use lib.Seq.{take-length, drop-length, drop-drop}
use borrow.Rule.Slice.PartMut.{mid_of, post_of, put_mid}

module _ (a : ℕ) (xs : List ℕ) where
  -- what is lent
  pub lent : mid_of a (length xs - a) xs ≡ drop a xs
  lent = rw (← length-drop a xs) (take-length (drop a xs))

  after : post_of a (length xs - a) xs ≡ []
  after = rw (← length-drop a xs) (drop-length (drop a xs))

  -- what is back
  pub back : (ys : List ℕ) → put_mid a (length xs - a) xs ys ≡ take a xs ++ ys
  back ys = ap (λ (z : List ℕ). take a xs ++ (ys ++ z)) after ∙ ap (λ (z : List ℕ). take a xs ++ z) (append-nil ys)

  -- what is back where ys was laid over the first k
  pub over : (ys zs : List ℕ) (k : ℕ) → zs ≡ ys ++ drop k (mid_of a (length xs - a) xs) → put_mid a (length xs - a) xs zs ≡ take a xs ++ (ys ++ drop (a + k) xs)
  over ys zs k e = back zs ∙ ap (λ (z : List ℕ). take a xs ++ z) (e ∙ ap (λ (z : List ℕ). ys ++ z) (ap (drop k) lent ∙ drop-drop k a xs))
