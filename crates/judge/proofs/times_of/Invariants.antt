-- `times_of` meets its contract. Assumes nothing.
use Rattle.finite.proofs.Filling.{Filled}
use Rattle.table.proofs.Filling as filling
use Rattle.schedule.specs.Arrays.{tasks_of}
use Rattle.judge.specs.Judge.{response_of, known_zero, margin_at}
use Rattle.judge.proofs.times_of.Given as goal

abbrev pub invariant-loop-k : goal.invariant-loop-k
invariant-loop-k l = filling.Filled 24 l.n (response_of (tasks_of l.n l.timing) l.placement) l.k l.responses × Filled 24 (margin_at l.n (tasks_of l.n l.timing) l.placement) known_zero l.k l.margins
