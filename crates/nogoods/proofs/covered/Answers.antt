-- With a full list the table answers, else a look at the list.
use mathlib.Core.Path.{sym, ◌∙◌}
use Rattle.nogoods.proofs.covered.Goals as goal

pub returns-then-not-is_full : goal.returns-then-not-is_full
returns-then-not-is_full c =
    let f = c.is_full in
    let g = c.covered_by_growing.ensures in
    (g.0, rw (sym f.ensures ∙ c.if-not-is_full.true) g.1)

pub covered_by_full-requires : goal.covered_by_full-requires
covered_by_full-requires c =
    let f = c.is_full in
    let z = c.requires in
    (z.0, z.1, rw (sym f.ensures ∙ c.if-not-is_full.false) tt, z.2)

pub returns : goal.returns
returns c =
    let f = c.is_full in
    let g = c.covered_by_full.ensures in
    (g.0, rw (sym f.ensures ∙ c.if-not-is_full.false) g.1)
