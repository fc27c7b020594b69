-- The bound that is kept, or what the packing finds, which is kept then.
use mathlib.Core.Path.{sym, ◌∙◌}
use native.Mathlib.Omega.{arith}
use Rattle.bound_cache.proofs.Laws.{recalled, row_weights, bound_cache_keep}
use Rattle.capacity_bound.proofs.Weighted.{lower_is}
use Rattle.capacity_bound.proofs.Tightening.{tight_recalled, tight_capped}
use Rattle.capacity_bound.proofs.pack_once.Goals as goal

pub returns-in-Some : goal.returns-in-Some
returns-in-Some c =
    let v = c.requires.1 c.requires.4 ∙ row_weights c.args.instance.now.rows c.args.weighting.now.measure c.number_of.ensures c.requires.4 in (
      λ t l w k. (
        tight_recalled w.holds (rw (← l.rules.processors) c.requires.2) c.requires.3 v w.nogoods (recalled k.keeps (sym c.recall.ensures ∙ c.in-Some.is)) (lower_is _ _ c.lower.ensures),
        k,
      ),
      omega arith,
    )

pub pack-packed-requires : goal.pack-packed-requires
pack-packed-requires c =
    let z = c.requires in
    ((z.0.0, z.0.1, z.0.2, z.0.3.knows), z.2)

pub returns : goal.returns
returns c =
    let v = c.requires.1 c.requires.4 ∙ row_weights c.args.instance.now.rows c.args.weighting.now.measure c.number_of.ensures c.requires.4 in (
      λ t l w k.
          let a = c.pack-packed.ensures.0 t l w k.knows in
          (a.0, record { knows = a.1; keeps = rw c.keep.ensures (bound_cache_keep _ _ k.keeps (tight_capped c.pack-packed.result c.requires.3 v a.0)) }),
      c.pack-packed.ensures.1,
    )
