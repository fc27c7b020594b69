-- The candidates are tried one after the other; what holds of the sets with a candidate follows from the call one deeper.
use mathlib.Core.Path.{◌≡◌, refl, sym, ◌∙◌}
use mathlib.Core.Logic.{◌⊎◌, inl, inr, ⊎_elim}
use mathlib.Core.Bool.{Bool, true}
use Prim.Native.Nat.{◌-◌}
use native.Mathlib.Omega.{arith}
use lib.Dec.{T}
use Rattle.schedule.proofs.TasksOfArrays.{with_set}
use Rattle.mask.proofs.Laws.{insert_below}
use Rattle.knapsack.proofs.Taking.{room_memory, room_load}
use Rattle.knapsack.proofs.Packing.{taken_refused, taken_bad, taken_packs, taken_on, begun_packs, begun_packed, packing_start, packing_packs, packing_task, packing_reach, packing_next, packing_end}
use Rattle.knapsack.proofs.+most_take.Goals as goal

-- a test that passed
passed : {a b : Bool} → a ≡ b → a ≡ true → T b
passed e f = rw (← e, f) tt

pub most-loop-left-init : goal.most-loop-left-init
most-loop-left-init t c =
    let p = c.requires in
    let b = c.begin-left.ensures in
    (omega arith, refl, begun_packs b p.0, (refl, refl, refl, refl, refl), packing_start b p.0 p.1, p.2)

pub most-take-taken-requires : goal.most-take-taken-requires
most-take-taken-requires t c =
    let v = c.loop-left.invariant in
    let u = passed c.has.ensures c.if-has.true in (
      omega (arith, c.before.before.before.decreases, c.begin-left.ensures.no_more, v.0, c.loop-left-test.true),
      (
        packing_packs v.2 v.4 _ u v.3 c.remove.ensures,
        packing_task v.2 v.4 _ u,
        rw c.remove.ensures (omega (arith, packing_reach v.2 v.4 _ u, v.3.3)),
        v.5,
      ),
    )

pub most-bounds-weighting-k : goal.most-bounds-weighting-k
most-bounds-weighting-k t c =
    let v = c.loop-left.invariant in
    omega (arith, v.2.limits.few, packing_task v.2 v.4 _ (passed c.has.ensures c.if-has.true))

pub most-overflow_sub-left : goal.most-overflow_sub-left
most-overflow_sub-left t c =
    let v = c.loop-left.invariant in
    omega (arith, c.wide.ensures.0, packing_reach v.2 v.4 _ (passed c.has.ensures c.if-has.true))

pub most-loop-left-smaller-then-has : goal.most-loop-left-smaller-then-has
most-loop-left-smaller-then-has t c = omega (arith, c.loop-left-test.true)

pub most-loop-left-preserved-then-has : goal.most-loop-left-preserved-then-has
most-loop-left-preserved-then-has t c =
    let v = c.loop-left.invariant in
    let u = passed c.has.ensures c.if-has.true in (
      omega (arith, v.0),
      c.take-taken.auto.list ∙ v.1,
      v.2,
      v.3,
      rw (c.remove.ensures, c.wide.ensures.0) (packing_next v.2 v.4 _ u v.3 c.remove.ensures refl c.take-taken.result c.take-taken.ensures.0),
      c.take-taken.ensures.1,
    )

pub most-loop-left-smaller : goal.most-loop-left-smaller
most-loop-left-smaller t c = omega (arith, c.loop-left-test.true)

pub most-loop-left-preserved : goal.most-loop-left-preserved
most-loop-left-preserved t c = let v = c.loop-left.invariant in (omega (arith, v.0), v.1, v.2, v.3, v.4, v.5)

pub most-returns-then-left-4 : goal.most-returns-then-left-4
most-returns-then-left-4 t c =
    let v = c.loop-left.invariant in
    (begun_packed c.begin-left.ensures _ (packing_end v.2 v.4 _ (omega (arith, c.if-left-4.true)) (inr (omega arith))), v.5)

pub most-returns-else-left-3 : goal.most-returns-else-left-3
most-returns-else-left-3 t c =
    let v = c.loop-left.invariant in (
      begun_packed c.begin-left.ensures _ (packing_end v.2 v.4 _ (omega arith)
          (⊎_elim (λ w. inr w.if-left-4.false) (λ w. inl (omega (arith, w.if-left-3.false, v.3.4))) c.else-left-3.branch-raw)),
      v.5,
    )

pub take-room-requires : goal.take-room-requires
take-room-requires t c = let p = c.requires in omega (arith, p.1, p.0.limits.few)

pub take-returns-then-not-room : goal.take-returns-then-not-room
take-returns-then-not-room t c = let p = c.requires in (taken_refused p.0 p.1 (sym c.room.ensures ∙ c.if-not-room.true), p.3)

pub take-insert-set-requires : goal.take-insert-set-requires
take-insert-set-requires t c = let p = c.requires in omega (arith, p.1, p.0.limits.few)

pub take-test-tested-requires : goal.take-test-tested-requires
take-test-tested-requires t c =
    let p = c.requires in
    rw c.insert-set.ensures (with_set p.0.limits _ (insert_below _ _ _ p.0.limits.inside p.1), p.0.nogoods, p.3)

pub take-returns-then-tested : goal.take-returns-then-tested
take-returns-then-tested t c =
    let p = c.requires in
    (taken_bad p.0 p.1 c.test-tested.result (rw c.insert-set.ensures at c.test-tested.ensures.0) _ _ _ _ c.if-tested.true, c.test-tested.ensures.1)

pub take-offset_bounds-rows-k : goal.take-offset_bounds-rows-k
take-offset_bounds-rows-k t c = let p = c.requires in omega (arith, p.1, p.0.limits.few)

pub take-bounds-rows-k : goal.take-bounds-rows-k
take-bounds-rows-k t c = let p = c.requires in omega (arith, p.1, p.0.limits.few)

pub take-overflow_sub-with_k : goal.take-overflow_sub-with_k
take-overflow_sub-with_k t c =
    let a = c.args in
    let row = a.rows.now in
    let fits = c.if-not-room.false in
    omega (arith, c.wide.ensures.0, room_memory row.memory row.exclusions row.load a.pack.on a.pack.space a.pack.spare a.k c.room.ensures fits)

pub take-offset_bounds-rows-k-2 : goal.take-offset_bounds-rows-k-2
take-offset_bounds-rows-k-2 t c = let p = c.requires in omega (arith, p.1, p.0.limits.few)

pub take-bounds-rows-k-2 : goal.take-bounds-rows-k-2
take-bounds-rows-k-2 t c = let p = c.requires in omega (arith, p.1, p.0.limits.few)

pub take-overflow_sub-with_k-2 : goal.take-overflow_sub-with_k-2
take-overflow_sub-with_k-2 t c =
    let a = c.args in
    let row = a.rows.now in
    let fits = c.if-not-room.false in
    omega (arith, c.wide-2.ensures.0, room_load row.memory row.exclusions row.load a.pack.on a.pack.space a.pack.spare a.k c.room.ensures fits)

pub take-offset_bounds-weighting-k : goal.take-offset_bounds-weighting-k
take-offset_bounds-weighting-k t c = let p = c.requires in omega (arith, p.1, p.0.limits.few)

pub take-bounds-weighting-k : goal.take-bounds-weighting-k
take-bounds-weighting-k t c = let p = c.requires in omega (arith, p.1, p.0.limits.few)

pub take-overflow_add-with_k : goal.take-overflow_add-with_k
take-overflow_add-with_k t c = omega (arith, c.wide-3.ensures.0, c.requires.2)

pub take-most-requires : goal.take-most-requires
take-most-requires t c =
    let p = c.requires in
    let row = c.args.rows.now in (
      omega (arith, c.decreases),
      (
        rw (c.insert-set.ensures, c.wide.ensures.0, c.wide-2.ensures.0, c.wide-3.ensures.0)
            (taken_packs p.0 p.1 c.test-tested.result (rw c.insert-set.ensures at c.test-tested.ensures.0) row.memory row.exclusions row.load c.args.weighting.now.weights),
        omega (arith, p.2, c.wide-3.ensures.0),
        c.test-tested.ensures.1,
      ),
    )

pub take-shape_of-list : goal.take-shape_of-list
take-shape_of-list t c =
    c.most.auto.list ∙ c.test-tested.auto.list

pub take-returns : goal.take-returns
take-returns t c =
    let p = c.requires in
    let row = c.args.rows.now in (
      taken_on p.0 p.1 c.test-tested.result (rw c.insert-set.ensures at c.test-tested.ensures.0) row.memory row.exclusions row.load c.args.weighting.now.weights c.most.result
          (rw (c.insert-set.ensures, c.wide.ensures.0, c.wide-2.ensures.0, c.wide-3.ensures.0) at c.most.ensures.0),
      c.most.ensures.1,
    )
