-- `put_answer` meets its contract: the head's lines, those of the conflicts, the last line; a lent part is the definition's.
use mathlib.Core.Path.{◌≡◌, subst}
use mathlib.Core.Bool.{Bool}
use mathlib.Core.List.{List}
use Prim.Native.Nat.{ℕ, ◌+◌, ◌-◌, ◌/◌}
use native.Mathlib.Omega.{arith}
use lib.ListN.{length, take, drop, length-drop}
use lib.Seq.{take_all}
use Rattle.wire.specs.Wire.{mark_at, Put}
use Rattle.text.specs.Text.{ascii}
use Rattle.wire.proofs.Put.{put_then}
use Rattle.report.specs.Report.{head_lines, conflict_lines, answer_lines}
use Rattle.report.proofs.put_answer.Goals as goal

pub returns : goal.returns
unfolding answer_lines
returns c = let a = c.args in
    let n = a.table.tasks.count in
    let long : n + 2 - 2 ≡ n = omega arith in
    put_then
    (put_then
    (subst (λ (m : ℕ). Put a.text.now 0 (head_lines (mark_at a.answer.now 0 (ascii "AL")) a.file.now a.table (take m (drop 2 a.answer.now))) c.put_head-head.new.text c.put_head-head.result) long
    (subst (λ (found : Bool). Put a.text.now 0 (head_lines found a.file.now a.table (take (n + 2 - 2) (drop 2 a.answer.now))) c.put_head-head.new.text c.put_head-head.result) c.has_mark-found.ensures c.put_head-head.ensures.0))
    (subst (λ (list : List ℕ). Put c.put_head-head.new.text c.put_head-head.result (conflict_lines n list ((a.count - n - 5) / 6)) c.put_conflicts-end.new.text c.put_conflicts-end.result)
    (take_all (length a.answer.now - (n + 2)) (drop (n + 2) a.answer.now) (omega (arith, length-drop (n + 2) a.answer.now))) c.put_conflicts-end.ensures.0))
    c.last_line.ensures
