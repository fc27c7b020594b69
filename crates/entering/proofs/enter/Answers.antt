-- Where the test lets the task in, what may stand on each processor is narrowed.
use native.Mathlib.Omega.{arith}
use Rattle.region.proofs.Narrowing.{begins_stands}
use Rattle.entering.proofs.Tried.{entered_closed, entered_stands, entered_open}
use Rattle.entering.proofs.enter.Goals as goal

pub admit-admitted-requires : goal.admit-admitted-requires
admit-admitted-requires c = let a = c.requires in ((a.0.0, a.0.1, begins_stands a.0.2, a.0.3), a.1, a.2)

pub returns-in_default : goal.returns-in_default
returns-in_default c =
    λ t l b k. let a = c.admit-admitted.ensures t l (begins_stands b) k in
    (entered_closed c.admit-admitted.result a.0 c.in_default.is, a.1)

pub refresh-may-requires : goal.refresh-may-requires
refresh-may-requires c =
    let z = c.requires in
    let l = z.0.1.rules in
    let a = c.admit-admitted.ensures z.0.0 z.0.1 (begins_stands z.0.2) z.0.3 in
    let s = entered_stands c.admit-admitted.result a.0 c.in-Some.is in (
      (z.0.0, z.0.1, s.fits, a.1),
      omega (arith, s.nogoods.room),
      omega (arith, (z.0.2.fits.open_task _ z.1).0, l.sound.tasks.most),
      omega (arith, z.2, l.processors, l.sound.processors.most),
    )

pub returns : goal.returns
returns c =
    λ t l b k. let a = c.admit-admitted.ensures t l (begins_stands b) k in
    let s = entered_stands c.admit-admitted.result a.0 c.in-Some.is in
    (entered_open c.admit-admitted.result a.0 c.in-Some.is l b c.refresh-may.ensures.0, c.refresh-may.ensures.1 t l s.fits a.1)
