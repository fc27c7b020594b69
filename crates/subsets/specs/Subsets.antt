-- A set of tasks that could stand on processors of a region, with its next task.
use Rattle.std.specs.Prelude.{Bool, ◌&&◌, cond, List, ℕ, ◌+◌, ◌*◌, ◌≤◌, leb, get_or}
use Rattle.finite.specs.Finite.{only}
use Rattle.mask.specs.Mask.{has, insert_of, mask_of}
use Rattle.rules.specs.Sets.{meets}
use Rattle.partial.specs.declared.State.{State}
use Rattle.subsets.specs.declared.Subset.{Subset}
use Rattle.rows.specs.declared.Rows.{Rows}

-- task k can stand on processor p in the region of a state: it is open and may reside there, or it stands there
abbrev pub can_stand : Rows → State → ℕ → ℕ → Bool
can_stand rows s k p = cond (has s.left k) (has (get_or rows.residence k 0) p) (has (get_or s.on p 0) k)

-- p is one of the subset's processors, has left what the open tasks of the subset take, and can have task k
abbrev pub takes : Rows → State → Subset → ℕ → ℕ → Bool
takes rows s x k p = (has x.processors p && leb x.memory (get_or s.memory p 0)) && (leb x.load (get_or s.load p 0) && can_stand rows s k p)

-- those of the m processors that take the subset with task k; none where a task of it is excluded from k
unfoldable pub processors_for : Rows → ℕ → State → Subset → ℕ → ℕ
processors_for rows m s x k = cond (meets (get_or rows.exclusions k 0) x.set) 0 (mask_of m (takes rows s x k))

-- the subset with its next task, on the processors that it had
abbrev pub joined_by : Rows → State → Subset → Subset
joined_by rows s x = record {
  set = insert_of x.set x.next;
  next = x.next + 1;
  processors = x.processors;
  memory = x.memory + only (has s.left x.next) (get_or rows.memory x.next 0);
  load = x.load + only (has s.left x.next) (get_or rows.load x.next 0);
}

-- the same on those that take it
unfoldable pub with_next : Rows → ℕ → State → Subset → Subset
with_next rows m s x =
    let y = joined_by rows s x in
    record { set = y.set; next = y.next; processors = processors_for rows m s y x.next; memory = y.memory; load = y.load }

-- sums of numbers of 32 bits
pub record Small (x : Subset) : Type 0 where
  pub memory : x.memory ≤ x.next * 4294967296
  pub load : x.load ≤ x.next * 4294967296
