-- `put_end` lays the end over the part that it lends on.
use mathlib.Core.Path.{refl}
use Prim.Native.Nat.{◌*◌}
use Rattle.answer.specs.Answer.{end_bytes}
use Rattle.wire.proofs.Put.{laid_part}
use Rattle.answer.proofs.put_end.Goals as goal

pub returns : goal.returns
returns c =
    let a = c.args in
    laid_part (6 * a.count) a.list.now (end_bytes a.complete) _ 3 refl c.put_end_first.ensures
