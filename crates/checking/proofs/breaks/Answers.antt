-- `breaks` meets its contract. Assumes nothing.
use mathlib.Core.Path.{refl, ◌∙◌}
use native.Mathlib.Nat.{mul-le-mul}
use native.Mathlib.Omega.{arith}
use lib.Dec.{lt→ltb}
use Rattle.mask.specs.Mask.{sum_over}
use Rattle.table.specs.declared.Table.{Table}
use Rattle.table.specs.Sound.{Sound}
use Rattle.table.proofs.Times.{work_in_period, some_period}
use Rattle.rules.specs.Rules.{residence_broken, co_residence_broken, exclusion_broken, memory_on, memory_broken, load_on, utilisation_broken, network_broken}
use Rattle.rules.specs.Sets.{outside_of, memory_of, load_of, Works}
use Rattle.rules.proofs.Bounds.{some_tick}
use Rattle.rules.proofs.Sets.{group_apart, group_together}
use Rattle.checking.proofs.breaks.Goals as goal

works : {t : Table} → Sound t → Works t.tasks
works s = record {
  few = s.tasks.most;
  some_period = some_period s;
  within = work_in_period s;
  ticks = s.tasks.ticks;
}

pub offset_bounds-tasks-k : goal.offset_bounds-tasks-k
unfolding residence_broken outside_of co_residence_broken exclusion_broken memory_broken memory_on memory_of utilisation_broken load_on load_of sum_over network_broken
offset_bounds-tasks-k c = record { fits = omega (arith, rw c.in-Residence.is at c.requires.1, c.requires.0.tasks.most) }

pub bounds-tasks-k : goal.bounds-tasks-k
unfolding residence_broken outside_of co_residence_broken exclusion_broken memory_broken memory_on memory_of utilisation_broken load_on load_of sum_over network_broken
bounds-tasks-k c = omega (arith, rw c.in-Residence.is at c.requires.1, c.requires.0.tasks.most)

pub stands_outside-requires : goal.stands_outside-requires
unfolding residence_broken outside_of co_residence_broken exclusion_broken memory_broken memory_on memory_of utilisation_broken load_on load_of sum_over network_broken
stands_outside-requires c = (c.requires.0.processors.most, omega (arith, rw c.in-Residence.is at c.requires.1, c.requires.0.tasks.most))

pub offset_bounds-co-k : goal.offset_bounds-co-k
unfolding residence_broken outside_of co_residence_broken exclusion_broken memory_broken memory_on memory_of utilisation_broken load_on load_of sum_over network_broken
offset_bounds-co-k c = record { fits = omega (arith, rw c.in-CoResidence.is at c.requires.1, c.requires.0.co.most) }

pub bounds-co-k : goal.bounds-co-k
unfolding residence_broken outside_of co_residence_broken exclusion_broken memory_broken memory_on memory_of utilisation_broken load_on load_of sum_over network_broken
bounds-co-k c = omega (arith, rw c.in-CoResidence.is at c.requires.1, c.requires.0.co.most)

pub offset_bounds-co-k-in-CoResidence : goal.offset_bounds-co-k-in-CoResidence
unfolding residence_broken outside_of co_residence_broken exclusion_broken memory_broken memory_on memory_of utilisation_broken load_on load_of sum_over network_broken
offset_bounds-co-k-in-CoResidence c = record { fits = omega (arith, rw c.in-CoResidence.is at c.requires.1, c.requires.0.co.most) }

pub bounds-co-k-in-CoResidence : goal.bounds-co-k-in-CoResidence
unfolding residence_broken outside_of co_residence_broken exclusion_broken memory_broken memory_on memory_of utilisation_broken load_on load_of sum_over network_broken
bounds-co-k-in-CoResidence c = omega (arith, rw c.in-CoResidence.is at c.requires.1, c.requires.0.co.most)

pub offset_bounds-ex-k : goal.offset_bounds-ex-k
unfolding residence_broken outside_of co_residence_broken exclusion_broken memory_broken memory_on memory_of utilisation_broken load_on load_of sum_over network_broken
offset_bounds-ex-k c = record { fits = omega (arith, rw c.in-Exclusion.is at c.requires.1, c.requires.0.ex.most) }

pub bounds-ex-k : goal.bounds-ex-k
unfolding residence_broken outside_of co_residence_broken exclusion_broken memory_broken memory_on memory_of utilisation_broken load_on load_of sum_over network_broken
bounds-ex-k c = omega (arith, rw c.in-Exclusion.is at c.requires.1, c.requires.0.ex.most)

pub offset_bounds-processors-k : goal.offset_bounds-processors-k
unfolding residence_broken outside_of co_residence_broken exclusion_broken memory_broken memory_on memory_of utilisation_broken load_on load_of sum_over network_broken
offset_bounds-processors-k c = record { fits = omega (arith, rw c.in-Memory.is at c.requires.1, c.requires.0.processors.most) }

pub bounds-processors-k : goal.bounds-processors-k
unfolding residence_broken outside_of co_residence_broken exclusion_broken memory_broken memory_on memory_of utilisation_broken load_on load_of sum_over network_broken
bounds-processors-k c = omega (arith, rw c.in-Memory.is at c.requires.1, c.requires.0.processors.most)

pub offset_bounds-sets-k : goal.offset_bounds-sets-k
unfolding residence_broken outside_of co_residence_broken exclusion_broken memory_broken memory_on memory_of utilisation_broken load_on load_of sum_over network_broken
offset_bounds-sets-k c = record { fits = omega (arith, rw c.in-Memory.is at c.requires.1, c.requires.0.processors.most) }

pub bounds-sets-k : goal.bounds-sets-k
unfolding residence_broken outside_of co_residence_broken exclusion_broken memory_broken memory_on memory_of utilisation_broken load_on load_of sum_over network_broken
bounds-sets-k c = omega (arith, rw c.in-Memory.is at c.requires.1, c.requires.0.processors.most)

pub offset_bounds-sets-k-in-Utilisation : goal.offset_bounds-sets-k-in-Utilisation
unfolding residence_broken outside_of co_residence_broken exclusion_broken memory_broken memory_on memory_of utilisation_broken load_on load_of sum_over network_broken
offset_bounds-sets-k-in-Utilisation c = record { fits = omega (arith, rw c.in-Utilisation.is at c.requires.1, c.requires.0.processors.most) }

pub bounds-sets-k-in-Utilisation : goal.bounds-sets-k-in-Utilisation
unfolding residence_broken outside_of co_residence_broken exclusion_broken memory_broken memory_on memory_of utilisation_broken load_on load_of sum_over network_broken
bounds-sets-k-in-Utilisation c = omega (arith, rw c.in-Utilisation.is at c.requires.1, c.requires.0.processors.most)

pub load_of-requires : goal.load_of-requires
unfolding residence_broken outside_of co_residence_broken exclusion_broken memory_broken memory_on memory_of utilisation_broken load_on load_of sum_over network_broken
load_of-requires c = (works c.requires.0, c.requires.0.hyperperiod_most)

pub offset_bounds-processors-k-in-Utilisation : goal.offset_bounds-processors-k-in-Utilisation
unfolding residence_broken outside_of co_residence_broken exclusion_broken memory_broken memory_on memory_of utilisation_broken load_on load_of sum_over network_broken
offset_bounds-processors-k-in-Utilisation c = record { fits = omega (arith, rw c.in-Utilisation.is at c.requires.1, c.requires.0.processors.most) }

pub bounds-processors-k-in-Utilisation : goal.bounds-processors-k-in-Utilisation
unfolding residence_broken outside_of co_residence_broken exclusion_broken memory_broken memory_on memory_of utilisation_broken load_on load_of sum_over network_broken
bounds-processors-k-in-Utilisation c = omega (arith, rw c.in-Utilisation.is at c.requires.1, c.requires.0.processors.most)

pub exceeds-requires : goal.exceeds-requires
unfolding residence_broken outside_of co_residence_broken exclusion_broken memory_broken memory_on memory_of utilisation_broken load_on load_of sum_over network_broken
exceeds-requires c =
    let limit = c.requires.0.processors.most_limit _ (rw c.in-Utilisation.is at c.requires.1) in
    (limit, some_tick c.requires.0, c.requires.0.hyperperiod_most, omega (arith, c.load_of.ensures, c.requires.0.hyperperiod_most))

pub overflow_mul-result : goal.overflow_mul-result
unfolding residence_broken outside_of co_residence_broken exclusion_broken memory_broken memory_on memory_of utilisation_broken load_on load_of sum_over network_broken
overflow_mul-result c =
    let h = c.args.t.hyperperiod in
    record { fits = omega (arith, mul-le-mul {n₁ = c.wide-in-Network.result} {m₁ = h} {n₂ = 4294967295} {m₂ = 1000000000} (omega (arith, c.wide-in-Network.ensures)) c.requires.0.hyperperiod_most) }

pub offset_bounds-responses-k : goal.offset_bounds-responses-k
unfolding residence_broken outside_of co_residence_broken exclusion_broken memory_broken memory_on memory_of utilisation_broken load_on load_of sum_over network_broken
offset_bounds-responses-k c = record { fits = omega (arith, rw c.in-Deadline.is at c.requires.1, c.requires.0.tasks.most) }

pub bounds-responses-k : goal.bounds-responses-k
unfolding residence_broken outside_of co_residence_broken exclusion_broken memory_broken memory_on memory_of utilisation_broken load_on load_of sum_over network_broken
bounds-responses-k c = omega (arith, rw c.in-Deadline.is at c.requires.1, c.requires.0.tasks.most)

pub returns-in-Residence : goal.returns-in-Residence
unfolding residence_broken outside_of co_residence_broken exclusion_broken memory_broken memory_on memory_of utilisation_broken load_on load_of sum_over network_broken
returns-in-Residence c = rw c.in-Residence.is c.stands_outside.ensures

pub returns-in-CoResidence : goal.returns-in-CoResidence
unfolding residence_broken outside_of co_residence_broken exclusion_broken memory_broken memory_on memory_of utilisation_broken load_on load_of sum_over network_broken
returns-in-CoResidence c =
    let l = c.requires.0.co.below c.args.k (rw c.in-CoResidence.is at c.requires.1) in
    rw c.in-CoResidence.is (c.stand_apart.ensures ∙ group_apart c.args.t.tasks.count c.args.t.processors.count c.args.sets _ (lt→ltb _ _ l))

pub returns-in-Exclusion : goal.returns-in-Exclusion
unfolding residence_broken outside_of co_residence_broken exclusion_broken memory_broken memory_on memory_of utilisation_broken load_on load_of sum_over network_broken
returns-in-Exclusion c =
    let l = c.requires.0.ex.below c.args.k (rw c.in-Exclusion.is at c.requires.1) in
    rw c.in-Exclusion.is
    (c.stand_together.ensures ∙ group_together c.args.t.tasks.count c.args.t.processors.count c.args.sets _ (lt→ltb _ _ l) (omega (arith, c.requires.0.tasks.most)))

pub returns-in-Memory : goal.returns-in-Memory
unfolding residence_broken outside_of co_residence_broken exclusion_broken memory_broken memory_on memory_of utilisation_broken load_on load_of sum_over network_broken
returns-in-Memory c = rw (c.in-Memory.is, c.wide.ensures.0, c.memory_of.ensures) refl

pub returns-in-Utilisation : goal.returns-in-Utilisation
unfolding residence_broken outside_of co_residence_broken exclusion_broken memory_broken memory_on memory_of utilisation_broken load_on load_of sum_over network_broken
returns-in-Utilisation c = rw (c.in-Utilisation.is, ← c.load_of.ensures.0) c.exceeds.ensures

pub returns-in-Network : goal.returns-in-Network
unfolding residence_broken outside_of co_residence_broken exclusion_broken memory_broken memory_on memory_of utilisation_broken load_on load_of sum_over network_broken
returns-in-Network c = rw (c.in-Network.is, c.wide-in-Network.ensures.0, c.traffic_of.ensures) refl

pub returns-in-Deadline : goal.returns-in-Deadline
unfolding residence_broken outside_of co_residence_broken exclusion_broken memory_broken memory_on memory_of utilisation_broken load_on load_of sum_over network_broken
returns-in-Deadline c = rw c.in-Deadline.is
