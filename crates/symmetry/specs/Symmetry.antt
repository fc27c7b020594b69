-- Two processors that can be exchanged in every placement below a state.
use Rattle.std.specs.Prelude.{◌≡◌, ◌⊎◌, List, ℕ, ◌≤◌, ◌<◌, T, get_or}
use Rattle.mask.specs.Mask.{has}
use Rattle.table.specs.declared.Table.{Table}
use Rattle.rules.specs.Sets.{memory_of, load_of}
use Rattle.partial.specs.declared.State.{State}

-- each task of the set may reside on both processors or on neither
abbrev pub SameResidence : List ℕ → ℕ → ℕ → ℕ → Type 0
SameResidence residence set p q = (k : ℕ) → T (has set k) → has (get_or residence k 0) p ≡ has (get_or residence k 0) q

-- two rooms are equal, or each is ample for all
abbrev pub Alike : ℕ → ℕ → ℕ → Type 0
Alike all a b = (a ≡ b) ⊎ ((all ≤ a) × (all ≤ b))

-- nothing stands on p or q, so that what they have left is all they have; and the open tasks find the same on both
pub record Interchangeable (t : Table) (s : State) (p q : ℕ) : Type 0 where
  pub known_p : p < t.processors.count
  pub known_q : q < t.processors.count
  pub empty_p : get_or s.on p 0 ≡ 0
  pub empty_q : get_or s.on q 0 ≡ 0
  pub residence : SameResidence t.tasks.residence s.left p q
  pub memory : Alike (memory_of t.tasks s.left) (get_or s.memory p 0) (get_or s.memory q 0)
  pub load : Alike (load_of t.tasks t.hyperperiod s.left) (get_or s.load p 0) (get_or s.load q 0)

-- r is the lowest processor below p that is interchangeable with it; p where there is none
pub record Representative (t : Table) (s : State) (p r : ℕ) : Type 0 where
  pub upto : r ≤ p
  pub interchangeable : r < p → Interchangeable t s r p
  pub least : (q : ℕ) → q < r → Interchangeable t s q p → ⊥
