-- The share of each member that comes goes into the sum.
use Rattle.mask.proofs.Summed.{Summed}
use Rattle.schedule.specs.Arrays.{share_of}
use Rattle.schedule.proofs.interference.Given as goal

abbrev pub invariant-loop-j : goal.invariant-loop-j
invariant-loop-j l = Summed l.others l.j-iterator.left (share_of l.timing l.x) l.sum
