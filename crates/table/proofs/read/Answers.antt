-- `read` meets its contract. Assumes nothing.
use mathlib.Core.Path.{sym, ap}
use native.Mathlib.Omega.{arith}
use Rattle.std.specs.Prelude.{Ok}
use Rattle.std.proofs.lemmas.Result.{err_from_is_err_and}
use Rattle.layout.specs.declared.Kind.TheVariants.{Network}
use Rattle.verdict.proofs.Inside.{record_in}
use Rattle.table.specs.Table.{read_of}
use Rattle.table.proofs.Ended.{scan_whole, present}
use Rattle.table.proofs.read.Goals as goal

pub table_of-requires : goal.table_of-requires
table_of-requires c =
    let w = scan_whole _ (sym c.in_ok-x.ensures) in
    (w.0.reached, omega (arith, record_in w.0.reached Network 0 (present _ w.1).0))

pub returns-in_err-x : goal.returns-in_err-x
unfolding read_of
returns-in_err-x c =
    let p = err_from_is_err_and c.from_residual.result c.from_residual.ensures.1 in
    rw (p.1, p.2, ← c.in_err-x.ensures)

pub returns : goal.returns
unfolding read_of
returns c = rw (← c.in_ok-x.ensures) (ap Ok c.table_of.ensures)
