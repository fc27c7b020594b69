-- `put_none` puts the first n of 24 bytes 255.
use mathlib.Core.Path.{◌≡◌, refl, ap, ◌∙◌}
use mathlib.Core.List.{List, ◌∷◌, ◌++◌}
use Prim.Native.Nat.{ℕ, zero, suc, ◌+◌, ◌≤◌}
use native.Mathlib.Omega.{arith}
use lib.ListN.{take, drop, replicate}
use Rattle.answer.specs.Answer.{none_head}
use Rattle.answer.proofs.put_none.Goals as goal

take_replicate : (n m v : ℕ) → n ≤ m → take n (replicate m v) ≡ replicate n v
take_replicate zero m v l = refl
take_replicate (suc n) zero v l = absurd (omega arith)
take_replicate (suc n) (suc m) v l = ap (λ (s : List ℕ). v ∷ s) (take_replicate n m v (omega arith))

-- the first n of them behind the mark
filled : (n : ℕ) (x l : List ℕ) → n ≤ 24 → x ≡ 78 ∷ 79 ∷ (take n (replicate 24 255) ++ drop (n + 2) l) → x ≡ none_head n ++ drop (n + 2) l
filled n x l h e = e ∙ ap (λ (s : List ℕ). 78 ∷ 79 ∷ (s ++ drop (n + 2) l)) (take_replicate n 24 255 h)

pub returns : goal.returns
returns c =
    filled c.args.n c.put_head.new.answer c.args.answer.now c.requires.0 c.put_head.ensures
