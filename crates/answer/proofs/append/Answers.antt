-- `append` lays a record over the part that it lends on.
use mathlib.Core.List.{[], ◌∷◌}
use Prim.Native.Nat.{◌*◌}
use Rattle.wire.proofs.Laws.{record_length}
use Rattle.wire.proofs.Put.{laid_part}
use Rattle.answer.specs.Answer.{conflict_bytes}
use Rattle.answer.proofs.append.Goals as goal

pub returns : goal.returns
returns c =
    let a = c.args in
    laid_part (6 * a.count) a.list.now (conflict_bytes a.mask) _ 6 (record_length (78 ∷ 71 ∷ []) a.mask) c.put_record.ensures
