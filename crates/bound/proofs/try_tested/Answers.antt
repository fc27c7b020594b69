-- The bound after the candidates.
use Rattle.bound.proofs.Bounding.{candidates_weighable, bounded_from}
use Rattle.bound.proofs.try_tested.Goals as goal

pub candidates_of-candidates-requires : goal.candidates_of-candidates-requires
candidates_of-candidates-requires c = let z = c.requires in (z.0, z.1, z.2, z.3.knows)

pub try_all-requires : goal.try_all-requires
try_all-requires c =
    let z = c.requires in
    let a = c.candidates_of-candidates.ensures z.0 z.1 z.2 z.3.knows in
    (z.0, z.1, candidates_weighable z.2 c.candidates_of-candidates.result a.0, record { knows = a.1; keeps = z.3.keeps })

pub returns : goal.returns
returns c = (
  λ t l w k.
      let a = c.candidates_of-candidates.ensures t l w k.knows in
      let b = c.try_all.ensures.0 t l (candidates_weighable w c.candidates_of-candidates.result a.0) (record { knows = a.1; keeps = k.keeps }) in
      (bounded_from c.candidates_of-candidates.result c.try_all.result a.0 b.0, b.1),
  c.try_all.ensures.1,
)
