-- The recursion begins with the empty set, which every set of tasks has.
use borrow.Author.Rules.{rules}
use Rattle.nogoods.proofs.Covers.{known_forgot}
use Rattle.late_sets.proofs.Recursion.{nothing_continues, nothing_possible, nothing_in_time, covers_all}
use Rattle.late_sets.proofs.cover_late_sets.Goals as goal

pub cover_supersets-requires : goal.cover_supersets-requires
cover_supersets-requires c =
    let z = c.requires in
    let a = z.1 in
    (z.0, (a.0, a.1, nothing_continues a.2, known_forgot a.3 c.forget.ensures _ _))

pub returns : goal.returns
returns c =
    λ links t l w k. let v = c.cover_supersets.ensures links t l (nothing_continues w) (known_forgot k c.forget.ensures _ _) in
    ((λ f. covers_all (v.0 f (nothing_possible l.rules c.all_below.ensures) (nothing_in_time t))), v.2.late)
