-- `task_line` meets its contract: four items, the word, the margin and LF.
use mathlib.Core.List.{List, ◌++◌}
use Prim.Native.Nat.{ℕ, ◌+◌, ◌≤◌}
use native.Mathlib.Omega.{arith}
use Rattle.wire.specs.Wire.{Put}
use Rattle.wire.proofs.Put.{put_then, put_length}
use Rattle.text.specs.Text.{ascii}
use Rattle.lines.specs.declared.Stand.{Stand}
use Rattle.lines.specs.Lines.{item, margin_text}
use Rattle.lines.proofs.task_line.Lts as lts
use Rattle.lines.proofs.task_line.Reads as reads
use Rattle.lines.proofs.task_line.Tie as tie
use Rattle.lines.proofs.task_line.Goals as goal

-- the line up to the word, and up to the margin
abbrev numbers : Stand → List ℕ
numbers s = item (ascii "task ") s.task ++ item (ascii " on ") s.processor ++ item (ascii " response ") s.response ++ item (ascii " deadline ") s.deadline

abbrev with_margin : Stand → List ℕ
with_margin s = numbers s ++ ascii " margin " ++ margin_text s.margin

-- the four items are put
module _ (items : lts.After-put_item4 tie.the-claims reads.Pre reads.Post) where
  numbers_put : Put items.args.text.now items.args.at (numbers items.args.stand) items.put_item-left.new.text items.put_item-left.result
  numbers_put = put_then (put_then (put_then items.put_item-task.ensures.0 items.put_item-on.ensures.0) items.put_item-within.ensures.0) items.put_item-left.ensures.0

  numbers_end : items.put_item-left.result ≤ items.args.at + 109
  numbers_end = omega (arith, items.put_item-task.ensures.1, items.put_item-on.ensures.1, items.put_item-within.ensures.1, items.put_item-left.ensures.1)

-- the margin is put
module _ (m : lts.After-put_margin tie.the-claims reads.Pre reads.Post) where
  -- the four items before it
  abbrev items : lts.After-put_item4 tie.the-claims reads.Pre reads.Post
  items = m.before.before.before.before.before.before.before.before.before.before

  margin_put : Put m.args.text.now m.args.at (with_margin m.args.stand) m.put_margin-end.new.text m.put_margin-end.result
  margin_put = put_then (put_then (numbers_put items) m.put-word.ensures) m.put_margin-end.ensures.0

  margin_end : m.put_margin-end.result ≤ m.args.at + 138
  margin_end = omega (arith, numbers_end items, m.put-word.ensures.ends, m.put_margin-end.ensures.1)

pub put-word-requires : goal.put-word-requires
put-word-requires c = let x = c.before.before.before.before.before in omega (arith, numbers_end x, put_length (numbers_put x), c.requires)

pub put_margin-end-requires : goal.put_margin-end-requires
put_margin-end-requires c =
    let y = c.before.before.before.before.before.before.before.before.before in
    omega (arith, numbers_end y, c.put-word.ensures.ends, put_length c.put-word.ensures, put_length (numbers_put y), c.requires)

pub put-requires : goal.put-requires
put-requires c = let x = c.before.before.before.before.before in omega (arith, margin_end x, put_length (margin_put x), c.requires)

pub shape_of-text : goal.shape_of-text
shape_of-text c =
    let x = c.before.before.before.before.before.before.before.before.before in
    put_length (put_then (margin_put x) c.put.ensures)

pub returns : goal.returns
returns c =
    let x = c.before.before.before.before.before.before.before.before.before in
    (put_then (margin_put x) c.put.ensures, omega (arith, margin_end x, c.put.ensures.ends))
