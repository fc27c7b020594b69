-- `first_of` meets its contract. Assumes nothing.
use Prim.Native.Nat.{◌≤◌}
use native.Mathlib.Omega.{arith}
use Rattle.finite.specs.Finite.{sum_to}
use Rattle.layout.specs.declared.Progress.{Progress}
use Rattle.layout.specs.Format.{row, kinds, count, bytes_of, Counted}
use Rattle.layout.proofs.EachKind.{Each, one_by_one}
use Rattle.layout.proofs.first_of.Goals as goal

-- no count is beyond its limit, one by one
few : {x : Progress} → Counted x → Each (λ i k. count x k ≤ (row k).most) kinds
few h = one_by_one _ h.few

pub overflow_mul-processors : goal.overflow_mul-processors
unfolding bytes_of sum_to
overflow_mul-processors c = omega (arith, few c.requires)

pub overflow_mul-tasks : goal.overflow_mul-tasks
unfolding bytes_of sum_to
overflow_mul-tasks c = omega (arith, few c.requires)

pub overflow_add-tasks : goal.overflow_add-tasks
unfolding bytes_of sum_to
overflow_add-tasks c = omega (arith, few c.requires)

pub overflow_mul-co : goal.overflow_mul-co
unfolding bytes_of sum_to
overflow_mul-co c = omega (arith, few c.requires)

pub overflow_add-co : goal.overflow_add-co
unfolding bytes_of sum_to
overflow_add-co c = omega (arith, few c.requires)

pub overflow_mul-ex : goal.overflow_mul-ex
unfolding bytes_of sum_to
overflow_mul-ex c = omega (arith, few c.requires)

pub overflow_add-ex : goal.overflow_add-ex
unfolding bytes_of sum_to
overflow_add-ex c = omega (arith, few c.requires)

pub overflow_mul-messages : goal.overflow_mul-messages
unfolding bytes_of sum_to
overflow_mul-messages c = omega (arith, few c.requires)

pub overflow_add-messages : goal.overflow_add-messages
unfolding bytes_of sum_to
overflow_add-messages c = omega (arith, few c.requires)

pub returns-in-Network : goal.returns-in-Network
unfolding bytes_of sum_to
returns-in-Network c = rw c.in-Network.is

pub returns-in-Processor : goal.returns-in-Processor
unfolding bytes_of sum_to
returns-in-Processor c = rw c.in-Processor.is (omega arith)

pub returns-in-Task : goal.returns-in-Task
unfolding bytes_of sum_to
returns-in-Task c = rw c.in-Task.is (omega arith)

pub returns-in-CoResident : goal.returns-in-CoResident
unfolding bytes_of sum_to
returns-in-CoResident c = rw c.in-CoResident.is (omega arith)

pub returns-in-Exclusive : goal.returns-in-Exclusive
unfolding bytes_of sum_to
returns-in-Exclusive c = rw c.in-Exclusive.is (omega arith)

pub returns-in-Message : goal.returns-in-Message
unfolding bytes_of sum_to
returns-in-Message c = rw c.in-Message.is (omega arith)
