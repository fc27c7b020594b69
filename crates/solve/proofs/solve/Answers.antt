-- The instance is the table's, and arrays of zeros are learnt.
use Rattle.partial.proofs.Empty.{started}
use Rattle.late_cache.proofs.Laws.{late_cache_start}
use Rattle.bound_cache.proofs.Laws.{learnt_start}
use Rattle.solve.proofs.solve.Goals as goal

pub solve_from-requires : goal.solve_from-requires
solve_from-requires c =
    ((c.args.table, c.instance_of-instance.ensures, rw c.start-s.ensures (started c.requires.0.processors.most), learnt_start (late_cache_start _ 81921)), c.requires.1)

pub returns : goal.returns
returns c =
    c.solve_from.ensures c.args.table c.instance_of-instance.ensures (rw c.start-s.ensures (started c.requires.0.processors.most)) (learnt_start (late_cache_start _ 81921))
