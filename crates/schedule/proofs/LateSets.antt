-- Periodic tasks, released together: the tick run and the response equation agree. Assumes nothing.
--     first_job_ends  the worst response is the end of the task's first job
--     late_task       deadline of at most the period: a task of the set has a late job exactly if its response is 0
--     late_set        deadlines of at most the period: the set is late exactly if a member has response 0
--     late_test_lem       so a test tells whether a set is late
--     late?           and it is decided
--     late_within     a set that holds a late set is late
--     empty_not_late  a set without tasks is not late, whatever the deadlines are
use mathlib.Core.Path.{◌≡◌, refl, ap, ◌∙◌}
use mathlib.Core.Bool.{Bool, true, false, ◌&&◌}
use mathlib.Core.Logic.{◌↔◌}
use Prim.Native.Nat.{ℕ, zero, suc, ◌+◌, ◌*◌, ◌/◌, ◌%◌, ◌≤◌, ◌<◌}
use native.Mathlib.Omega.{arith}
use native.Mathlib.Nat.{zero-add, zero-mod, div-mul-le_self, mul-le-mul_right, mul-le-mul_left}
use native.Mathlib.Decide.{ℕ_discrete, dec_lt}
use lib.Dec.{T, ltb, eqb, eqb→eq}
use Rattle.finite.specs.Finite.{only, sum_to}
use Rattle.finite.proofs.Sum.{sum_le, sum_ext}
use Rattle.finite.proofs.Some.{some_intro, some_elim}
use Rattle.schedule.specs.Run.{service}
use Rattle.schedule.specs.Periodic.{Tasks, Valid, Constrained, run, LateJob, LateTask, LateSet}
use Rattle.schedule.specs.Response.{ceil, share, demand, least_solution, worst_response, response, Least, solved, unsolved, late_test}
use Rattle.schedule.specs.Arrays.{Says}
use Rattle.mask.proofs.Tests.{and_both, and_left, and_right}
use Rattle.schedule.proofs.Only.{only_and, only_in, only_le, only_none}
use Rattle.schedule.proofs.Ceil.{any_window, ceil_covers, ceil_even, ceil_le, ceil_mono, ceil_odd, ceil_suc, ceil_zero}
use Rattle.schedule.proofs.FixedPoint.{Iterate, least_solution_lem, least_cut}
use Rattle.schedule.proofs.TaskRun.{released, task_service}
use Rattle.schedule.proofs.LevelLemma.{higher_work, released_stream, sum_higher}
use Rattle.schedule.proofs.JobService.{behind_late, job_service, late_behind}
use Rattle.schedule.proofs.InTime.{in_time, service_needs, service_stays}

-- ---- what a periodic task releases before tick t

periodic : (b : Bool) (c p t : ℕ) → 0 < p → released (λ u. only (b && eqb (u % p) 0) c) t ≡ ceil t p * only b c
unfolding sum_to
periodic b c p zero pos = rw (ceil_zero p pos) (omega arith)
periodic b c p (suc t) pos = go (ℕ_discrete (t % p) 0) (periodic b c p t pos)
  where
    at : (b : Bool) → t % p ≡ 0 → only (b && eqb (t % p) 0) c ≡ only b c
    at true e = only_in (eqb (t % p) 0) c (rw e tt)
    at false e = refl

    off : (b : Bool) → (t % p ≡ 0 → ⊥) → only (b && eqb (t % p) 0) c ≡ 0
    off true e = only_none (eqb (t % p) 0) c (λ u. absurd (e (eqb→eq (t % p) 0 u)))
    off false e = refl

    go : Dec (t % p ≡ 0) → released (λ u. only (b && eqb (u % p) 0) c) t ≡ ceil t p * only b c
        → released (λ u. only (b && eqb (u % p) 0) c) t + only (b && eqb (t % p) 0) c ≡ ceil (suc t) p * only b c
    go (yes e) ih = rw (ceil_suc p t pos) (omega (arith, at b e, rw (ceil_even p t pos e) at ih))
    go (no e) ih = rw (ceil_suc p t pos) (omega (arith, off b e, rw (ceil_odd p t pos (omega arith)) at ih))

member_of : (b d : Bool) (c : ℕ) → 0 < only (b && d) c → T b
member_of true d c h = tt
member_of false d c h = omega arith

zero_unless : (n : ℕ) → (0 < n → ⊥) → n ≡ 0
zero_unless zero f = refl
zero_unless (suc n) f = absurd (f (omega arith))

-- a late job is one of a member
late_member : {s : Tasks} {on : ℕ → Bool} (q : LateSet s on) → T (on q.task)
late_member {s} {on} q = member_of (on q.task) (eqb (q.tick % s.T q.task) 0) (s.C q.task) (omega (arith, q.late.unfinished_at))

-- a set without tasks has no job, so none is late
pub empty_not_late : {s : Tasks} {on : ℕ → Bool} → ((i : ℕ) → T (on i) → ⊥) → LateSet s on → ⊥
empty_not_late none q = none q.task (late_member q)

module _ (s : Tasks) (valid : Valid s) (on : ℕ → Bool) where
  -- task j's bound: no more than this in any x ticks
  abbrev bound : ℕ → ℕ → ℕ
  bound j x = ceil x (s.T j) * only (on j) (s.C j)

  bounded : (j : ℕ) → j < s.count → (t x : ℕ) → released ((run s on).release j) (t + x) ≤ released ((run s on).release j) t + bound j x
  bounded j l = any_window (s.T j) (released ((run s on).release j)) (only (on j) (s.C j)) in_period pos (released_stream ((run s on).release j))
    where
      pos : 0 < s.T j
      pos = valid.some_period j l

      in_period : (t : ℕ) → released ((run s on).release j) (t + s.T j) ≤ released ((run s on).release j) t + only (on j) (s.C j)
      in_period t =
          let k : ceil (t + s.T j) (s.T j) ≤ suc (ceil t (s.T j)) = ceil_le (s.T j) pos (t + s.T j) (suc (ceil t (s.T j))) (omega (arith, ceil_covers (s.T j) pos t)) in
          omega (arith, periodic (on j) (s.C j) (s.T j) (t + s.T j) pos, periodic (on j) (s.C j) (s.T j) t pos, mul-le-mul_right (only (on j) (s.C j)) k)

  -- the sum of the shares is what the tasks of larger priority can release in x ticks, and what they do release before tick x
  shares : (i x : ℕ) → sum_higher (run s on) i (λ j. bound j x) ≡ sum_to s.count (share s on i x)
  shares i x = sum_ext s.count (λ j. only (ltb (s.priority i) (s.priority j)) (bound j x)) (share s on i x)
      (λ j l. only_and (ltb (s.priority i) (s.priority j)) (on j) (ceil x (s.T j)) (s.C j))

  shares_run : (i x : ℕ) → higher_work (run s on) i x ≡ sum_to s.count (share s on i x)
  shares_run i x =
      sum_ext s.count (λ j. only (ltb (s.priority i) (s.priority j)) (released ((run s on).release j) x)) (λ j. only (ltb (s.priority i) (s.priority j)) (bound j x))
      (λ j l. ap (only (ltb (s.priority i) (s.priority j))) (periodic (on j) (s.C j) (s.T j) x (valid.some_period j l)))
      ∙ shares i x

  -- ---- the equation

  pub demand_rises : (i x y : ℕ) → x ≤ y → demand s on i x ≤ demand s on i y
  unfolding demand
  demand_rises i x y l =
      omega (
        arith,
        sum_le s.count (share s on i x) (share s on i y)
            (λ j k. only_le (on j && ltb (s.priority i) (s.priority j)) (ceil x (s.T j) * s.C j) (ceil y (s.T j) * s.C j)
            (λ u. mul-le-mul_right (s.C j) (ceil_mono (s.T j) (valid.some_period j k) x y l))),
      )

  pub demand_works : (i x : ℕ) → i < s.count → 0 < demand s on i x
  unfolding demand
  demand_works i x l = omega (arith, valid.works i l)

  -- the calculation starts from C
  pub demand_start : (i : ℕ) → Iterate (demand s on i) (s.C i)
  unfolding demand
  demand_start i = record { grows = omega arith; below = λ z h. omega arith }

  -- the worst response is the least solution up to the period
  pub worst_least : (i : ℕ) → i < s.count → Least (demand s on i) (s.T i) (worst_response s on i)
  unfolding worst_response
  worst_least i l = least_solution_lem (demand s on i) (demand_rises i) (λ x. demand_works i x l) (s.T i)

  -- with a deadline within the period the response is the least solution up to the deadline
  pub response_cut : (i : ℕ) → i < s.count → s.D i ≤ s.T i → least_solution (demand s on i) (s.D i) ≡ response s on i
  unfolding response worst_response
  response_cut i l short = least_cut (demand s on i) (demand_rises i) (λ x. demand_works i x l) (s.D i) (s.T i) short

  pub response_least : (i : ℕ) → i < s.count → s.D i ≤ s.T i → Least (demand s on i) (s.D i) (response s on i)
  response_least i l short = rw (response_cut i l short) at (least_solution_lem (demand s on i) (demand_rises i) (λ x. demand_works i x l) (s.D i))

  -- ---- a task of the set

  module _ (i : ℕ) (task : i < s.count) (member : T (on i)) (short : s.D i ≤ s.T i) where
    -- its first job, and what it releases in k + 1 ticks
    first_job : (run s on).release i 0 ≡ s.C i
    first_job = only_in (on i && eqb (0 % s.T i) 0) (s.C i) (and_both (on i) (eqb (0 % s.T i) 0) member (rw (zero-mod (s.T i)) tt))

    first_work : released ((run s on).release i) 1 ≡ s.C i
    unfolding sum_to
    first_work = omega (arith, first_job)

    jobs : (k : ℕ) → bound i (suc k) ≡ suc (k / s.T i) * s.C i
    jobs k = rw (only_in (on i) (s.C i) member, ceil_suc (s.T i) k (valid.some_period i task)) refl

    -- a length of at most the period that holds the demand: what is released by r is done so much later
    done_by : (x : ℕ) → demand s on i x ≤ x → x ≤ s.T i → (r : ℕ) → released ((run s on).release i) (suc r) ≤ task_service (run s on) (r + x) i
    unfolding demand
    done_by x fits within =
        in_time (run s on) valid.distinct i task bound bounded x (s.C i) (omega (arith, shares i x)) (λ k.
        (k / s.T i, omega (arith, jobs k), omega (arith, div-mul-le_self k (s.T i), mul-le-mul_left (k / s.T i) within)))

    in_time_of_response : 0 < response s on i → (r : ℕ) → LateJob s on i r → ⊥
    in_time_of_response p r late = go (response_least i task short)
      where
        go : Least (demand s on i) (s.D i) (response s on i) → ⊥
        go (solved q b e h) =
            omega (
              arith,
              late_behind late,
              service_stays (run s on) valid.distinct i task (released ((run s on).release i) (suc r)) (r + response s on i) (r + s.D i) (omega arith)
                  (done_by (response s on i) (omega arith) (omega arith) r),
            )
        go (unsolved e h) = omega arith

    late_of_response : response s on i ≡ 0 → LateJob s on i 0
    unfolding demand
    late_of_response z = go (dec_lt (task_service (run s on) (s.D i) i) (s.C i)) (response_least i task short)
      where
        go : Dec (task_service (run s on) (s.D i) i < s.C i) → Least (demand s on i) (s.D i) (response s on i) → LateJob s on i 0
        go (yes h) r =
            rw (zero-add (s.D i))
            (behind_late (run s on) i 0 (s.D i) task (omega (arith, first_job, valid.works i task)) (omega (arith, first_work)))
        go (no n) (solved q b e h) = absurd (omega arith)
        go (no n) (unsolved e h) =
            let x = service_needs (run s on) valid.distinct i task (s.C i) (s.D i) (omega arith) in
            absurd (omega (arith, x.1, h x.0 (omega (arith, x.2, shares_run i x.0))))

    pub late_task : LateTask s on i ↔ (response s on i ≡ 0)
    late_task = (λ q. zero_unless (response s on i) (λ p. in_time_of_response p q.0 q.1), λ z. (0, late_of_response z))

    -- the first job is finished before tick x exactly if x is at least the worst response, late or not
    pub first_job_ends : (x : ℕ) → 0 < worst_response s on i → (s.C i ≤ service (run s on) x i 0) ↔ (worst_response s on i ≤ x)
    unfolding demand sum_to
    first_job_ends x p = go (worst_least i task)
      where
        part_of : service (run s on) x i 0 ≤ task_service (run s on) x i
        part_of = omega (arith, job_service (run s on) x i 0)

        go : Least (demand s on i) (s.T i) (worst_response s on i) → (s.C i ≤ service (run s on) x i 0) ↔ (worst_response s on i ≤ x)
        go (unsolved e h) = absurd (omega arith)
        go (solved q b e h) = (
          (λ d.
              let y = service_needs (run s on) valid.distinct i task (s.C i) x (omega (arith, part_of)) in
              omega (arith, y.1, h y.0 (omega (arith, y.2, shares_run i y.0)))),
          (λ k.
              let done : released ((run s on).release i) 1 ≤ task_service (run s on) (worst_response s on i) i
              = rw (zero-add (worst_response s on i)) at (done_by (worst_response s on i) (omega arith) (omega arith) 0) in
              omega (
                arith,
                first_job,
                job_service (run s on) x i 0,
                service_stays (run s on) valid.distinct i task (s.C i) (worst_response s on i) x k (omega (arith, first_work)),
              )),
        )

  -- ---- the set

  -- it is late exactly if a member has no response
  pub late_set : Constrained s → LateSet s on ↔ ((i : ℕ) × (i < s.count) × T (on i) × (response s on i ≡ 0))
  late_set short = (forth, λ e. let l = (late_task e.0 e.1 e.2 (short e.0 e.1)).1 e.3 in record { task = e.0; tick = l.0; late = l.1 })
    where
      forth : LateSet s on → (i : ℕ) × (i < s.count) × T (on i) × (response s on i ≡ 0)
      forth q =
          let i = q.task in
          let l = q.late.task in
          let m = late_member q in
          (i, l, m, (late_task i l m (short i l)).0 (q.tick, q.late))

  -- so a test tells it
  pub late_test_lem : Constrained s → T (late_test s on) ↔ LateSet s on
  late_test_lem short = (late_of, of_late)
    where
      test : ℕ → Bool
      test i = on i && eqb (response s on i) 0

      late_of : T (late_test s on) → LateSet s on
      late_of u =
          let e = some_elim s.count test u in
          let i = e.0 in
          (late_set short).1 (i, e.1, and_left (on i) (eqb (response s on i) 0) e.2, eqb→eq (response s on i) 0 (and_right (on i) (eqb (response s on i) 0) e.2))

      of_late : LateSet s on → T (late_test s on)
      of_late q =
          let e = (late_set short).0 q in
          let i = e.0 in
          some_intro s.count test i e.1 (and_both (on i) (eqb (response s on i) 0) e.2 (rw e.3 tt))

  pub late_says : Constrained s → Says (late_test s on) (LateSet s on)
  late_says short = go (late_test s on) (late_test_lem short).0 (late_test_lem short).1
    where
      go : (b : Bool) → (T b → LateSet s on) → (LateSet s on → T b) → Says b (LateSet s on)
      go true f g = f tt
      go false f g = g

  -- and it is decided
  pub late? : Constrained s → Dec (LateSet s on)
  late? short = go (late_test s on) (late_says short)
    where
      go : (b : Bool) → Says b (LateSet s on) → Dec (LateSet s on)
      go true q = yes q
      go false q = no q

-- ---- a set within another

module _ (s : Tasks) (valid : Valid s) (short : Constrained s) (small large : ℕ → Bool) (within : (j : ℕ) → T (small j) → T (large j)) where
  demand_less : (i x : ℕ) → demand s small i x ≤ demand s large i x
  unfolding demand
  demand_less i x =
      omega (
        arith,
        sum_le s.count (share s small i x) (share s large i x)
            (λ j k. fewer (small j) (large j) (ltb (s.priority i) (s.priority j)) (ceil x (s.T j) * s.C j) (within j)),
      )
    where
      fewer : (a b c : Bool) (x : ℕ) → (T a → T b) → only (a && c) x ≤ only (b && c) x
      fewer true true c x f = omega arith
      fewer true false c x f = absurd (f tt)
      fewer false true c x f = omega arith
      fewer false false c x f = omega arith

  -- if a set within another is late, so is the other
  pub late_within : LateSet s small → LateSet s large
  late_within q =
      let e = (late_set s valid small short).0 q in
      (late_set s valid large short).1 (e.0, e.1, within e.0 e.2, go e.0 e.3 (response_least s valid small e.0 e.1 (short e.0 e.1)) (response_least s valid large e.0 e.1 (short e.0 e.1)))
    where
      go : (i : ℕ) → response s small i ≡ 0 → Least (demand s small i) (s.D i) (response s small i) → Least (demand s large i) (s.D i) (response s large i) → response s large i ≡ 0
      go i z a (unsolved e h) = e
      go i z (solved p b e h) (solved p' b' e' h') = absurd (omega arith)
      go i z (unsolved e h) (solved p' b' e' h') = absurd (omega (arith, h (response s large i) (omega (arith, demand_less i (response s large i)))))
