-- By the test.
use mathlib.Core.Path.{sym, ◌∙◌}
use Rattle.subgradient.proofs.Laws.{off_scale_some, rescaled_off, rescaled_on}
use Rattle.subgradient.proofs.rescaled.Goals as goal

pub scaled-requires : goal.scaled-requires
scaled-requires c = off_scale_some c.total-total.result (sym c.off_scale.ensures ∙ c.if-off_scale.true)

pub returns-then-off_scale : goal.returns-then-off_scale
returns-then-off_scale c =
    let a = c.args in
    c.scaled.ensures ∙ rescaled_off a.weights a.left c.total-total.result c.total-total.ensures.0 (sym c.off_scale.ensures ∙ c.if-off_scale.true)

pub returns : goal.returns
returns c =
    let a = c.args in
    rescaled_on a.weights a.left c.total-total.result c.total-total.ensures.0 (sym c.off_scale.ensures ∙ c.if-off_scale.false)
