-- `put_mark` lays the two bytes of a mark over the start.
use lib.ListN.{length-set}
use lib.Seq.{sets-eq}
use native.Mathlib.Omega.{arith}
use borrow.Author.Rules.{rules}
use Rattle.wire.specs.Wire.{mark_bytes}
use Rattle.wire.proofs.put_mark.Goals as goal

pub bounds-list-1 : goal.bounds-list-1
bounds-list-1 c = simp length-set (omega arith)

pub returns : goal.returns
returns c = let a = c.args in sets-eq (mark_bytes a.mark.now) a.list.now 0 (search rules)
