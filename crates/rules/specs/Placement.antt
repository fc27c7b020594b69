-- Where tasks stand. A placement, whole or partial, is a test `on`: on k p where task k stands on processor p, never for a task that is not placed. Assumes nothing.
use Rattle.std.specs.Prelude.{Bool, not, ◌&&◌, ◌||◌, List, ℕ, T, eqb, ltb, length, get_or}
use Rattle.finite.specs.Finite.{some_below}
use Rattle.mask.specs.Mask.{has}

-- 01: a placement is n bytes, byte k the processor of task k
abbrev pub placed : List ℕ → ℕ → ℕ → Bool
placed q k p = ltb k (length q) && eqb (get_or q k 0) p

-- the placement with task k on p too
abbrev pub and_task : (ℕ → ℕ → Bool) → ℕ → ℕ → ℕ → ℕ → Bool
and_task on k p i r = (eqb i k && eqb r p) || on i r

-- a part of a placement
abbrev pub Part : (ℕ → ℕ → Bool) → (ℕ → ℕ → Bool) → Type 0
Part on all = (k p : ℕ) → T (on k p) → T (all k p)

-- x holds at one of the m processors other than p
unfoldable pub elsewhere : ℕ → ℕ → (ℕ → Bool) → Bool
elsewhere m p x = some_below m (λ r. not (eqb r p) && x r)

-- x holds at one of the m processors, and y at another
unfoldable pub apart : ℕ → (ℕ → Bool) → (ℕ → Bool) → Bool
apart m x y = some_below m (λ p. x p && elsewhere m p y)

-- both hold at one of the m processors
unfoldable pub together : ℕ → (ℕ → Bool) → (ℕ → Bool) → Bool
together m x y = some_below m (λ p. x p && y p)

-- two of the n tasks, both in the group, pass the test
unfoldable pub some_pair : ℕ → ℕ → (ℕ → ℕ → Bool) → Bool
some_pair n group test = some_below n (λ i. some_below n (λ j. (has group i && has group j) && test i j))
