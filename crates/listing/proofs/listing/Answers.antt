-- `listing` meets its contract: one line for a refusal, or the lines of the answer.
use mathlib.Core.Path.{◌≡◌, ap, subst}
use mathlib.Core.List.{List}
use Prim.Native.Nat.{ℕ, ◌+◌, ◌≤◌}
use native.Mathlib.Omega.{arith}
use borrow.Author.Rules.{rules}
use Rattle.std.specs.Prelude.{Result, Ok, Err}
use Rattle.table.specs.declared.Refusal.{Refusal}
use Rattle.table.specs.declared.Table.{Table}
use Rattle.table.specs.Sound.{Sound}
use Rattle.table.specs.Table.{read_of}
use Rattle.search.specs.Search.{Searched, SearchedBy}
use Rattle.search.proofs.Written.{answered}
use Rattle.listing.specs.Listing.{refusal_text, text_by}
use Rattle.listing.proofs.listing.Goals as goal

-- a refusal prints its line, be it the file's or 12
refused_text : (file old new : List ℕ) (u : Result ℕ Refusal) {r : Refusal} → Searched file old new u → u ≡ Err r → text_by file (read_of file) new u ≡ refusal_text r
refused_text file old new u {r} s e = go (read_of file) s
  where
    go : (o : Result Table Refusal) → SearchedBy o old new u → text_by file o new u ≡ refusal_text r
    go (Err x) a = let f = a.0 in let z : x ≡ r = cc in ap refusal_text z
    go (Ok t) a = rw e

pub put_answer-requires : goal.put_answer-requires
put_answer-requires c =
    let s = c.search in
    let a = answered c.args.file.now c.args.answer.now s.new.buffer s.result c.in-Ok.count (search rules) s.ensures c.in-Ok.is in
    let read = c.read.ensures in
    let unwrapped = c.unwrap-table.ensures in
    let whole = a.read in
    let same : a.table ≡ c.unwrap-table.result = cc in
    subst (λ (t : Table). Sound t × (t.tasks.count + 5 ≤ c.in-Ok.count) × (c.in-Ok.count ≤ 16384)) same (a.sound, a.least, omega (arith, a.most))

pub returns-in-Err : goal.returns-in-Err
returns-in-Err c =
    let s = c.search in
    record {
      answer = s.result;
      searched = s.ensures;
      text = rw (refused_text c.args.file.now c.args.answer.now s.new.buffer s.result s.ensures c.in-Err.is, ← c.cause_number.ensures.0) c.refused_line.ensures.0;
    }
