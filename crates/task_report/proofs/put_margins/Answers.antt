-- `put_margins` meets its contract: from the place behind the responses on stand the first k margins.
use mathlib.Core.Path.{◌≡◌, refl, ap, ◌∙◌}
use Prim.Native.Nat.{◌+◌}
use native.Mathlib.Omega.{arith}
use borrow.Author.Rules.{rules}
use lib.ListN.{length, length-set}
use lib.Seq.{length-sets}
use mir.Syntax.{w32}
use mir.ValLaws.{to_z-of_z}
use Rattle.task_report.specs.Report.{margin_number}
use Rattle.std.specs.Prelude.{None}
use Rattle.task_report.proofs.Writing.{put_next}
use Rattle.task_report.proofs.put_margins.Goals as goal

pub loop-k-init : goal.loop-k-init
loop-k-init c = (omega arith, c.requires.1, refl)

pub loop-k-preserved : goal.loop-k-preserved
loop-k-preserved c =
    let number = c.margin_number.ensures in
    let all : length c.args.margins ≡ 24 = search rules in (
      omega arith,
      simp length-set c.loop-k.invariant.1,
      put_next margin_number None _ c.args.margins (2 + c.args.n) c.loop-k.k (omega arith) (to_z-of_z w32 _ (record { sfits = number.1 }) ∙ number.0) c.loop-k.invariant.2,
    )

pub shape_of-out : goal.shape_of-out
shape_of-out c = ap length c.loop-k.invariant.2 ∙ simp length-sets

pub returns : goal.returns
returns c = let done : c.loop-k.k ≡ c.args.n = omega arith in rw done at c.loop-k.invariant.2
