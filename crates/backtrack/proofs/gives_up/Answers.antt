-- A search that is not limited goes on.
use mathlib.Core.Bool.{false≢true}
use Rattle.backtrack.proofs.gives_up.Goals as goal

pub returns-then-not-limited : goal.returns-then-not-limited
returns-then-not-limited c = λ e. absurd (false≢true e)

pub returns-then-fuel-eq0 : goal.returns-then-fuel-eq0
returns-then-fuel-eq0 c = λ e. c.if-not-limited.false

pub returns : goal.returns
returns c = λ e. absurd (false≢true e)
