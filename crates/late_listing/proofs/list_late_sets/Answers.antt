-- Where the recursion is not used nothing is listed; else it is what it says.
use mathlib.Core.Path.{refl, ◌∙◌}
use mathlib.Core.Logic.{inl, inr, ⊎_elim}
use native.Mathlib.Omega.{arith}
use Rattle.late_sets.proofs.Recursion.{covers_none}
use Rattle.late_listing.proofs.list_late_sets.Goals as goal

pub returns-then-nodes-lt200 : goal.returns-then-nodes-lt200
returns-then-nodes-lt200 c = (inl refl, λ links t l w k. (covers_none w.nogoods, k))

pub overflow_sub-list : goal.overflow_sub-list
overflow_sub-list c = omega (arith, c.requires.1.2.nogoods.room)

pub examine-requires : goal.examine-requires
examine-requires c =
    let z = c.requires in
    (z.0, (z.1.0, z.1.1, z.1.2.fits, z.1.3))

pub returns-then-ne : goal.returns-then-ne
returns-then-ne c = (
  ⊎_elim (λ y. inr (y.examine.ensures.0.0, y.heuristics-is ∙ y.examine.ensures.0.1)) (λ y. inl y.heuristics-is) c.if-worth_a_try.branch-raw,
  λ links t l w k. (covers_none w.nogoods, ⊎_elim (λ y. rw y.lateness-is (y.examine.ensures.1 links t l w.fits k)) (λ y. rw y.lateness-is k) c.if-worth_a_try.branch-raw),
)

pub cover_late_sets-requires : goal.cover_late_sets-requires
cover_late_sets-requires c =
    let z = c.requires in
    let a = z.1 in
    (z.0, (a.0, a.1, a.2.nogoods, ⊎_elim (λ y. rw y.lateness-is (y.examine.ensures.1 z.0 a.0 a.1 a.2.fits a.3)) (λ y. rw y.lateness-is a.3) c.if-worth_a_try.branch-raw))

pub returns : goal.returns
returns c = (
  ⊎_elim (λ y. inr (y.examine.ensures.0.0, y.heuristics-is ∙ y.examine.ensures.0.1)) (λ y. inl y.heuristics-is) c.if-worth_a_try.branch-raw,
  λ links t l w k.
      let v = c.cover_late_sets.ensures links t l w.nogoods (⊎_elim (λ y. rw y.lateness-is (y.examine.ensures.1 links t l w.fits k)) (λ y. rw y.lateness-is k) c.if-worth_a_try.branch-raw) in
      (v.0 w.fits, v.1),
)
