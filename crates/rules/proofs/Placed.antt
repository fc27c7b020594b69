-- Where a task stands in a placement that is given as bytes. Assumes nothing.
use mathlib.Core.Path.{◌≡◌}
use mathlib.Core.List.{List}
use Prim.Native.Nat.{ℕ, ◌<◌}
use lib.Dec.{T, eqb, ltb, eqb→eq, eqb_refl, lt→ltb, ltb→lt}
use lib.ListN.{length, get_or}
use Rattle.mask.proofs.Tests.{and_both, and_left, and_right}
use Rattle.rules.specs.Placement.{placed}

-- task k of q stands on the processor that its byte names, and on no other
pub placed_at : (q : List ℕ) (k : ℕ) → k < length q → T (placed q k (get_or q k 0))
placed_at q k l = and_both (ltb k (length q)) (eqb (get_or q k 0) (get_or q k 0)) (lt→ltb k (length q) l) (eqb_refl (get_or q k 0))

pub placed_is : (q : List ℕ) (k p : ℕ) → T (placed q k p) → (k < length q) × (get_or q k 0 ≡ p)
placed_is q k p u = (ltb→lt k (length q) (and_left (ltb k (length q)) (eqb (get_or q k 0) p) u), eqb→eq _ _ (and_right (ltb k (length q)) (eqb (get_or q k 0) p) u))
