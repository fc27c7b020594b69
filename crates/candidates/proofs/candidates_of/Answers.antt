-- The processors are looked at one after the other.
use mathlib.Core.Path.{refl, ◌∙◌}
use native.Mathlib.Omega.{arith}
use lib.ListN.{length-set}
use Rattle.candidates.proofs.Choosing.{collecting_start, collecting_next, collecting_end}
use Rattle.candidates.proofs.candidates_of.Goals as goal

pub loop-p-init : goal.loop-p-init
loop-p-init c = (omega arith, refl, refl, λ t l w knows. (collecting_start w.nogoods, knows))

pub candidates_on-chosen-requires : goal.candidates_on-chosen-requires
candidates_on-chosen-requires c =
    let z = c.requires in
    let v = c.loop-p.invariant.3 z.0 z.1 z.2 z.3 in
    ((z.0, z.1, record { fits = z.2.fits; nogoods = v.0.list.nogoods }, v.1), c.loop-p-test.true)

pub offset_bounds-sets-p : goal.offset_bounds-sets-p
offset_bounds-sets-p c = let l = c.requires.1.rules in omega (arith, c.loop-p-test.true, l.processors, l.sound.processors.most)

pub bounds-sets-p : goal.bounds-sets-p
bounds-sets-p c = let l = c.requires.1.rules in omega (arith, c.loop-p-test.true, l.processors, l.sound.processors.most)

pub loop-p-preserved : goal.loop-p-preserved
loop-p-preserved c = (
  omega arith,
  simp length-set c.loop-p.invariant.1,
  c.candidates_on-chosen.auto.list ∙ c.loop-p.invariant.2,
  λ t l w knows.
      let v = c.loop-p.invariant.3 t l w knows in
      let a = c.candidates_on-chosen.ensures t l (record { fits = w.fits; nogoods = v.0.list.nogoods }) v.1 in (
        collecting_next v.0 (omega (arith, c.loop-p.invariant.1, c.loop-p-test.true, l.rules.processors, l.rules.sound.processors.most)) c.candidates_on-chosen.result a.0,
        a.1,
      ),
)

pub returns : goal.returns
returns c = λ t l w knows. let v = c.loop-p.invariant.3 t l w knows in (collecting_end v.0 (omega (arith, l.rules.processors, c.loop-p-test.false)), v.1)
