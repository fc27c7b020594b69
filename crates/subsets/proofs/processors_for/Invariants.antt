-- The processors are looked at one after the other.
use mathlib.Core.Path.{◌≡◌}
use Prim.Native.Nat.{◌-◌, ◌≤◌}
use Rattle.mask.specs.Mask.{mask_of}
use Rattle.subsets.specs.Subsets.{takes}
use Rattle.subsets.proofs.processors_for.Given as goal

abbrev pub invariant-loop-p : goal.invariant-loop-p
invariant-loop-p l = (l.p ≤ l.m) × (l.found ≡ mask_of l.p (takes l.rows l.s l.subset l.k))
