-- The network, then the weights.
use native.Mathlib.Omega.{arith}
use Rattle.partial.proofs.MessageSum.{small_messages}
use Rattle.network_bound.proofs.Network.{crossing_as}
use Rattle.bound.proofs.Bounding.{bounded_network}
use Rattle.bound.proofs.Noting.{adapted_same, adapted_row}
use Rattle.bound.proofs.try_all.Goals as goal

pub crossing-remote-requires : goal.crossing-remote-requires
crossing-remote-requires c =
    let l = c.requires.1.rules in
    (omega (arith, l.processors, l.sound.processors.most), small_messages l)

pub returns-then-s-remote : goal.returns-then-s-remote
returns-then-s-remote c = (
  λ t l w k. (bounded_network _ l.rules.sound w (crossing_as l.rules _ _ c.crossing-remote.ensures) c.if-s-remote.true, k),
  adapted_same _ _ _,
)

pub returns-then-heuristics : goal.returns-then-heuristics
returns-then-heuristics c =
    let g = c.args in (
      c.refute.ensures.0,
      adapted_row g.s.left g.heuristics.now _ c.if-heuristics.true c.refute.ensures.1,
    )

pub returns : goal.returns
returns c = (c.by_rows.ensures, adapted_same _ _ _)
