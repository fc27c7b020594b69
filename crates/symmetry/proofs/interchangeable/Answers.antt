-- Each test is one part of being interchangeable. Assumes nothing.
use native.Mathlib.Omega.{arith}
use Rattle.symmetry.proofs.Asking.{open_low, memory_yes, memory_no, load_yes, load_no, residence_says}
use Rattle.symmetry.proofs.interchangeable.Goals as goal

pub alike-requires : goal.alike-requires
alike-requires c = open_low c.requires.0.1

pub returns-then-not-alike : goal.returns-then-not-alike
returns-then-not-alike c = λ t w i. memory_no w _ c.alike.ensures c.if-not-alike.true i

pub alike-requires-2 : goal.alike-requires-2
alike-requires-2 c = open_low c.requires.0.1

pub returns-then-not-alike-2 : goal.returns-then-not-alike-2
returns-then-not-alike-2 c = λ t w i. load_no w _ c.alike-2.ensures c.if-not-alike-2.true i

pub same_residence-requires : goal.same_residence-requires
same_residence-requires c =
    let z = c.requires in
    (open_low z.0.1, omega (arith, z.0.1.known, z.0.1.sound.processors.most), omega (arith, z.0.1.known, z.0.1.sound.processors.most))

pub returns : goal.returns
returns c =
    λ t w. let z = c.requires in
    residence_says w z.2 c.if-s-q-ne0.false z.1
    (memory_yes w _ c.alike.ensures c.if-not-alike.false)
    (load_yes w _ c.alike-2.ensures c.if-not-alike-2.false)
    c.same_residence.result c.same_residence.ensures
