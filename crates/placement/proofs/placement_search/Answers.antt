-- `placement_search` meets its contract. Assumes nothing.
use mathlib.Core.Path.{◌≡◌, sym, ap, ◌∙◌}
use Prim.Native.Nat.{ℕ}
use native.Mathlib.Omega.{arith}
use borrow.Author.Rules.{rules}
use Rattle.search.proofs.Refusal.{search_place}
use Rattle.search.proofs.Written.{answered}
use Rattle.placement.specs.Answers.{written_as}
use Rattle.placement.proofs.placement_search.Goals as goal

pub refused_as-requires : goal.refused_as-requires
refused_as-requires c =
    let a = c.args in
    search_place a.file.now a.answer.now c.search.new.buffer c.search.result c.search.ensures c.in-Err.is

pub returns-in-Ok : goal.returns-in-Ok
returns-in-Ok c =
    let s = c.search in
    let e = c.in-Ok.is in
    let a = answered c.args.file.now c.args.answer.now s.new.buffer s.result c.in-Ok.bytes (search rules) s.ensures e in
    record { answer = s.result; searched = s.ensures; number = ap written_as (sym e); below = λ count q. a.small }

pub returns-in-Err : goal.returns-in-Err
returns-in-Err c =
    let s = c.search in
    let e = c.in-Err.is in
    record {
      answer = s.result;
      searched = s.ensures;
      number = c.refused_as.ensures ∙ ap written_as (sym e);
      below = λ count q. absurd (let z : ◌≡◌ {A = ℕ} 0 1 = cc in omega arith);
    }
