-- The list stays as it is where `listed` says so; else the conflict is appended.
use mathlib.Core.Path.{◌≡◌, refl, sym, ◌∙◌}
use Rattle.answer.specs.Answer.{is_listed}
use Rattle.nogoods.proofs.append_unlisted.Lts as lts
use Rattle.nogoods.proofs.append_unlisted.Reads as reads
use Rattle.nogoods.proofs.append_unlisted.Tie as tie
use Rattle.nogoods.proofs.append_unlisted.Goals as goal

-- the answer is about all conflicts of the list
asked : (c : lts.After-listed tie.the-claims reads.Pre reads.Post) → let a = c.args in c.listed.result ≡ is_listed a.list.now a.count a.conflict
asked c = c.listed.ensures

pub returns-then-listed : goal.returns-then-listed
returns-then-listed c = let found = sym (asked c.before) ∙ c.if-listed.true in (rw found refl, rw found refl)

pub returns : goal.returns
returns c =
    let new = sym (asked c.before.before.before.before.before.before) ∙ c.if-listed.false in
    (rw new refl, rw new c.append.ensures)
