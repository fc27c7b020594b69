-- `search_table` meets its contract: the refusal with 12, or what the run left, with its end and its head.
use native.Mathlib.Omega.{arith}
use mathlib.Core.Path.{refl}
use mathlib.Core.List.{[]}
use Prim.Native.Nat.{◌+◌, ◌-◌, ◌*◌, ◌≤◌}
use lib.ListN.{length}
use borrow.Rule.Slice.PartMut.{mid_of}
use borrow.Author.Tests.{lt-ltb, le-ltb}
use Rattle.search.proofs.Writing.{Final, solved_final, solved_head, end_room, head_room, count_room, written}
use Rattle.search.proofs.search_table.Lts as lts
use Rattle.search.proofs.search_table.Reads as reads
use Rattle.search.proofs.search_table.Tie as tie
use Rattle.search.proofs.search_table.Goals as goal

-- what the run left of the list
final : (r : lts.After-solve tie.the-claims reads.Pre reads.Post) → let b = r.before.before.before.before.before in let n = b.args.table.tasks.count in let old = b.args.buffer.now in
    Final b.args.table (mid_of (n + 2) (length old - (n + 2)) old) r.solve-solved.new.list r.solve-solved.result.listed.count r.solve-solved.result.listed.cut
final r =
    let b = r.before.before.before.before.before in
    solved_final b.requires _ _ r.solve-solved.result r.solve-solved.ensures

-- the count of bytes is no larger than the buffer
counted : (r : lts.After-solve tie.the-claims reads.Pre reads.Post) → let b = r.before.before.before.before.before in b.args.table.tasks.count + 5 + 6 * r.solve-solved.result.listed.count ≤ length b.args.buffer.now
counted r =
    let b = r.before.before.before.before.before in
    count_room b.args.table b.args.buffer.now _ [] _ _ r.before.before.if-buffer-n.false (final r)

-- 12: nothing is written
pub returns-then-buffer-n : goal.returns-then-buffer-n
returns-then-buffer-n c = rw (lt-ltb _ _ c.if-buffer-n.true) (refl, refl)

pub put_end-requires : goal.put_end-requires
put_end-requires c =
    omega (arith, end_room c.args.table c.args.buffer.now _ [] _ _ c.if-buffer-n.false (final c.before.before.before.before))

pub put_head-requires : goal.put_head-requires
put_head-requires c =
    (c.requires, solved_head c.requires _ _ c.solve-solved.result c.solve-solved.ensures, head_room c.args.table c.args.buffer.now _ c.put_end.new.list _ _ c.if-buffer-n.false (final c.before.before.before.before.before.before.before.before))

pub overflow_mul-result : goal.overflow_mul-result
overflow_mul-result c = omega (arith, counted c.before.before.before.before.before.before.before.before.before.before.before.before.before)

pub overflow_add-result-2 : goal.overflow_add-result-2
overflow_add-result-2 c = omega (arith, counted c.before.before.before.before.before.before.before.before.before.before.before.before.before)

pub returns : goal.returns
returns c =
    rw (le-ltb _ _ c.if-buffer-n.false) (written c.args.table c.args.buffer.now _ _ _ _ c.if-buffer-n.false (final c.before.before.before.before.before.before.before.before.before.before.before.before.before) _ c.put_end.ensures c.put_head.ensures)
