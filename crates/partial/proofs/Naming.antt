-- The bytes that name each task's processor in a whole placement. Assumes nothing.
use mathlib.Core.Path.{◌≡◌}
use mathlib.Core.List.{List}
use Prim.Native.Nat.{ℕ, ◌≤◌, ◌<◌}
use lib.Dec.{T}
use lib.ListN.{get_or}
use Rattle.finite.proofs.Search.{FirstBelow, first_below_lem, lowest, nowhere}
use Rattle.table.specs.declared.Table.{Table}
use Rattle.table.proofs.Columns.{column_length, column_in}
use Rattle.rules.specs.Sets.{standing, Names, processor_of, processors_of}
use Rattle.partial.specs.Partial.{Whole}

module _ {t : Table} {sets : List ℕ} (w : Whole t sets) where
  processor_is : (k : ℕ) → k < t.tasks.count → (processor_of sets t.processors.count k < t.processors.count) × T (standing sets k (processor_of sets t.processors.count k))
  processor_is k l = go (first_below_lem t.processors.count (standing sets k))
    where
      go : FirstBelow t.processors.count (standing sets k) (processor_of sets t.processors.count k)
          → (processor_of sets t.processors.count k < t.processors.count) × T (standing sets k (processor_of sets t.processors.count k))
      go (lowest m u h) = (m, u)
      go (nowhere e h) = let at = w.somewhere k l in absurd (h at.0 (w.partial.processor k at.0 at.1) at.1)

  pub names : t.tasks.count ≤ 24 → Names t sets (processors_of sets t.tasks.count t.processors.count)
  names few = record {
    long = column_length 24 t.tasks.count (processor_of sets t.processors.count);
    known = λ k l. rw (is k l) (processor_is k l).0;
    there = λ k l. rw (is k l) (processor_is k l).1;
  }
    where
      is : (k : ℕ) → k < t.tasks.count → get_or (processors_of sets t.tasks.count t.processors.count) k 0 ≡ processor_of sets t.processors.count k
      is k l = column_in 24 t.tasks.count (processor_of sets t.processors.count) k few l
