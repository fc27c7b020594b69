-- A word with the set tells whether it is late; the word written in its place does so too.
use native.Mathlib.Omega.{arith}
use Rattle.late_cache.proofs.Laws.{small_set, bool_small, late_cache_hit, late_cache_set, noted_hit, noted_miss}
use Rattle.late_cache.proofs.is_late.Goals as goal

pub returns-then-word-set : goal.returns-then-word-set
returns-then-word-set c =
    let k = c.requires.1 in
    (late_cache_hit k (omega arith) c.if-word-set.true, k, noted_hit _ _ c.place_of-at.ensures c.if-word-set.true)

pub overflow_mul-lateness : goal.overflow_mul-lateness
overflow_mul-lateness c = omega (arith, small_set c.requires.0)

pub overflow_add-lateness : goal.overflow_add-lateness
overflow_add-lateness c = omega (arith, small_set c.requires.0, bool_small c.is_late-late.result)

pub returns : goal.returns
returns c =
    let a = c.args in
    (c.is_late-late.ensures, late_cache_set c.requires.1 c.place_of-at.result a.set c.is_late-late.result c.is_late-late.ensures, noted_miss _ c.is_late-late.result c.place_of-at.ensures c.if-word-set.false)
