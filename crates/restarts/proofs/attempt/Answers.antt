-- Nothing is listed, so a set may not stand where it is late, and may where it is not.
use mathlib.Core.Logic.{⊎_elim}
use borrow.Author.Rules.{rules}
use Rattle.region.specs.Begins.{Prepared}
use Rattle.region.specs.Given.{Gives}
use Rattle.bound_cache.specs.BoundCache.{Learnt}
use Rattle.bound_cache.proofs.Laws.{learnt_forgot, learnt_of}
use Rattle.restarts.proofs.Answering.{prepared_begins, attempted}
use Rattle.restarts.proofs.attempt.Lts as lts
use Rattle.restarts.proofs.attempt.Reads as reads
use Rattle.restarts.proofs.attempt.Tie as tie
use Rattle.restarts.proofs.attempt.Goals as goal

-- what is learnt where the backtracking begins, with weights at the root or without
root_learnt : (j : lts.Joined1 tie.the-claims reads.Pre reads.Post)
    → let g = j.args in
    Gives g.instance.now (λ t. Prepared t g.s) (λ t. Learnt t g.instance.now.rows g.caches.now.lateness g.caches.now.bounds)
    (λ t. Learnt t g.instance.now.rows j.if-heuristics.caches.lateness j.if-heuristics.caches.bounds)
root_learnt j t l w k = ⊎_elim (λ u. rw u.caches-is (u.refuted_at_root-refuted.ensures t l w k).1) (λ u. rw u.caches-is k) j.if-heuristics.branch-raw

pub returns-then-refuted : goal.returns-then-refuted
returns-then-refuted c = λ t l w k. let y = c.refuted_at_root-refuted.ensures t l w k in (y.0 c.if-refuted.true, y.1)

pub backtrack-run-requires : goal.backtrack-run-requires
backtrack-run-requires c =
    let a = c.requires in
    (a.0, a.1, prepared_begins (search rules) a.2, learnt_forgot (root_learnt c.before.before.before.before.before a.0 a.1 a.2 a.3) c.forget.ensures)

pub returns : goal.returns
returns c =
    λ t l w k. let y = c.backtrack-run.ensures t l (prepared_begins (search rules) w) (learnt_forgot (root_learnt c.before.before.before.before.before.before.before t l w k) c.forget.ensures) in
    (attempted c.backtrack-run.result y.0, learnt_of y.1)
