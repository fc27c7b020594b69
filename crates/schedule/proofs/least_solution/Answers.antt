-- The loop keeps x within the limit and on the way to the least solution.
use mathlib.Core.Path.{sym, ◌∙◌}
use mathlib.Core.Logic.{⊎_elim}
use native.Mathlib.Omega.{arith}
use Rattle.schedule.proofs.TasksOfArrays.{valid_of}
use Rattle.schedule.proofs.LateSets.{demand_rises, demand_works, demand_start}
use Rattle.schedule.proofs.ResponseLoop.{repeat_step, repeat_falls, repeat_reached, repeat_exceeded}
use Rattle.schedule.proofs.least_solution.Goals as goal

pub loop-y-init : goal.loop-y-init
loop-y-init c =
    let p = c.requires in
    record {
      rises = demand_rises _ (valid_of p.0) _ c.args.i;
      works = λ x. demand_works _ (valid_of p.0) _ c.args.i x p.1;
      bound = c.wide-most.ensures.0;
      low = p.2;
      way = demand_start _ (valid_of p.0) _ c.args.i;
    }

pub demand_at-y-requires : goal.demand_at-y-requires
demand_at-y-requires c =
    let p = c.requires in
    (p.0, p.1, omega (arith, c.loop-y.invariant.low, p.3))

pub overflow_cast-x : goal.overflow_cast-x
overflow_cast-x c =
    record { fits = omega (arith, c.if-most-y.false, c.loop-y.invariant.bound, c.requires.3) }

pub loop-y-smaller : goal.loop-y-smaller
loop-y-smaller c =
    repeat_falls c.loop-y.invariant c.demand_at-y.ensures (λ q. c.if-y-wide.false (q ∙ sym c.wide.ensures.0)) c.if-most-y.false

pub loop-y-preserved : goal.loop-y-preserved
loop-y-preserved c = repeat_step c.loop-y.invariant c.demand_at-y.ensures c.if-most-y.false

pub overflow_cast-result : goal.overflow_cast-result
overflow_cast-result c =
    record { fits = omega (arith, c.if-most-end.false, c.loop-y.invariant.bound, c.requires.3) }

pub returns-then-most-end : goal.returns-then-most-end
returns-then-most-end c =
    let inv = c.loop-y.invariant in
    ⊎_elim
    (λ w. absurd (omega (arith, inv.low, inv.bound, c.if-most-end.true, w.if-y-wide.true, c.wide.ensures.0, w.end-is)))
    (λ w. repeat_exceeded inv c.demand_at-y.ensures w.if-most-y.true)
    c.if-y-wide.branch-raw

pub returns-else-most-end : goal.returns-else-most-end
returns-else-most-end c =
    ⊎_elim
    (λ w. w.end-is ∙ repeat_reached c.loop-y.invariant c.demand_at-y.ensures (w.if-y-wide.true ∙ c.wide.ensures.0))
    (λ w. absurd (omega (arith, c.if-most-end.false, w.if-most-y.true, w.end-is)))
    c.if-y-wide.branch-raw
