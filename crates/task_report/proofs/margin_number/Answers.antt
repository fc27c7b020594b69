-- `margin_number` meets its contract: a margin that is held fits in 32 bits.
use mathlib.Core.Path.{sym, ap}
use Prim.Native.Nat.{◌<◌}
use native.Mathlib.Omega.{arith}
use borrow.Author.Rules.{rules}
use lib.Signed.{mag}
use mir.Syntax.{w32}
use mir.ValLaws.{to_z-of_z}
use Rattle.task_report.specs.Report.{margin_number}
use Rattle.task_report.proofs.margin_number.Goals as goal

pub returns-in-Some : goal.returns-in-Some
returns-in-Some c =
    let small : mag c.in-Some.x < 2147483648 = search rules in
    rw (to_z-of_z w32 _ (record { sfits = small })) (ap margin_number (sym c.in-Some.is), small)

pub returns-in-None : goal.returns-in-None
returns-in-None c = (ap margin_number (sym c.in-None.is), omega arith)
