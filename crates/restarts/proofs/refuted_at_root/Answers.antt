-- Nothing is listed, so it is late sets that rule the region out.
use borrow.Author.Rules.{rules}
use Rattle.bound_cache.proofs.Laws.{learnt_forgot, learnt_of}
use Rattle.restarts.proofs.Answering.{prepared_weighable}
use Rattle.restarts.proofs.refuted_at_root.Goals as goal

pub refute_all-bounded-requires : goal.refute_all-bounded-requires
refute_all-bounded-requires c =
    let z = c.requires in
    (z.0, z.1, prepared_weighable (search rules) z.2, learnt_forgot z.3 c.forget.ensures)

pub returns : goal.returns
returns c =
    λ t l w k. let b = c.refute_all-bounded.ensures.0 t l (prepared_weighable (search rules) w) (learnt_forgot k c.forget.ensures) in
    (b.0.answer, learnt_of b.1)
