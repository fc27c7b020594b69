-- Each way out is one law of Placing; where none is good the region is refuted before it is listed.
use native.Mathlib.Omega.{arith}
use mathlib.Core.Path.{subst}
use Rattle.restarts.specs.Restarts.{DecidedAs}
use Rattle.symmetry.proofs.Asking.{asks}
use Rattle.first.proofs.Placing.{held, not_held, deciding, listing, tried_held, tried_symmetric, tried_decided, tried_listed, some_found, none_found}
use Rattle.first.proofs.try_processor.Goals as goal
use Rattle.first.proofs.try_processor.Goals.{then-is_some-via-then-is_some, then-is_some-via-else-is_some+then-listed}

pub returns-then-has : goal.returns-then-has
returns-then-has c = λ t l x k. (tried_held x (held c.has.ensures c.if-has.true), k)

pub representative-requires : goal.representative-requires
representative-requires c = let a = c.requires in (a.0.0, asks a.0.1.rules a.0.2.placing.fits a.2)

pub returns-then-representative-p : goal.returns-then-representative-p
returns-then-representative-p c =
    λ t l x k. (
      tried_symmetric x (not_held c.has.ensures c.if-has.false) c.representative.result c.if-representative-p.true
          ((c.representative.ensures t (asks l.rules x.placing.fits c.requires.2)).interchangeable c.if-representative-p.true),
      k,
    )

pub decide_on-placement-requires : goal.decide_on-placement-requires
decide_on-placement-requires c =
    let a = c.requires in
    let w = a.0.2.placing in
    ((a.0.0, a.0.1, deciding a.0.1.rules.sound w, a.0.3), w.open_from _ (omega arith) (omega (arith, a.0.1.rules.tasks)), a.2)

pub returns-then-is_some : goal.returns-then-is_some
returns-then-is_some c =
    λ t l x k. let y = c.decide_on-placement.ensures t l (deciding l.rules.sound x.placing) k in (
      tried_decided x c.decide_on-placement.result y.0 (not_held c.has.ensures c.if-has.false)
          (λ e. elim c.then-is_some.branch [
            | then-is_some-via-then-is_some w ↦ absurd (some_found c.is_some.ensures w.if-is_some.true e)
            | then-is_some-via-else-is_some+then-listed w ↦ w.if-listed.true
          ]),
      y.1,
    )

pub pass_over-after-requires : goal.pass_over-after-requires
pass_over-after-requires c =
    let a = c.requires in
    let l = a.0.1 in
    let w = a.0.2.placing in
    let y = c.decide_on-placement.ensures a.0.0 l (deciding l.rules.sound w) a.0.3 in
    let none = subst (DecidedAs a.0.0 _) (none_found _ c.is_some.ensures c.if-is_some.false) y.0 in
    ((a.0.0, l, (listing l.rules.sound w, none), y.1), w.open_from _ (omega arith) (omega (arith, l.rules.tasks)), a.2)

pub returns : goal.returns
returns c =
    λ t l x k. let y = c.decide_on-placement.ensures t l (deciding l.rules.sound x.placing) k in
    let none = subst (DecidedAs t _) (none_found _ c.is_some.ensures c.if-is_some.false) y.0 in
    let z = c.pass_over-after.ensures t l (listing l.rules.sound x.placing, none) y.1 in (
      tried_listed x l.rules.sound none (not_held c.has.ensures c.if-has.false)
          c.if-listed.false c.pass_over-after.result z.0,
      z.1,
    )
