-- Whatever was found out is noted. The list of its own is empty before, and of no use after.
use mathlib.Core.Path.{sym, ap, ◌∙◌}
use borrow.Author.Rules.{rules}
use Rattle.nogoods.proofs.Append.{nogoods_start}
use Rattle.late_listing.specs.LateListing.{found_noted}
use Rattle.late_listing.proofs.examine.Goals as goal

pub emptied-empty-requires : goal.emptied-empty-requires
emptied-empty-requires c = let z = c.requires in (z.1.0, z.0, z.1.1.rules, z.1.2)

pub cover_late_sets-covering-requires : goal.cover_late_sets-covering-requires
cover_late_sets-covering-requires c =
    let z = c.requires in
    let a = z.1 in
    (z.0, (a.0, a.1, nogoods_start (search rules), a.3))

pub returns-in-None : goal.returns-in-None
returns-in-None c = (
  (c.cover_late_sets-covering.result, c.note_tried.ensures ∙ ap (found_noted c.args.heuristics.now) (sym c.in-None.is ∙ c.finding_of.ensures)),
  λ links t l f k. (c.cover_late_sets-covering.ensures links t l (nogoods_start (search rules)) k).1,
)

pub returns-in-Some : goal.returns-in-Some
returns-in-Some c = (
  (c.cover_late_sets-covering.result, c.note_listing.ensures ∙ ap (found_noted c.args.heuristics.now) (sym c.in-Some.is ∙ c.finding_of.ensures)),
  λ links t l f k. (c.cover_late_sets-covering.ensures links t l (nogoods_start (search rules)) k).1,
)
