-- Each record of a sound table's encoding is taken. Assumes nothing.
use mathlib.Core.Path.{◌≡◌, refl}
use mathlib.Core.Logic.{◌≢◌}
use mathlib.Core.Bool.{true, false, ◌&&◌}
use Prim.Native.Nat.{ℕ, suc, ◌^◌, ◌≤◌, ◌<◌}
use native.Mathlib.Omega.{arith}
use native.Mathlib.Decide.{ℕ_discrete}
use borrow.Author.Tests.{le-ltb, le-leb, lt-leb, lt-ltb, ne_eqb, eq-eqb}
use lib.Dec.{eqb}
use lib.ListN.{get_or}
use Rattle.finite.proofs.Some.{some_false}
use Rattle.mask.specs.Mask as mask
use Rattle.lcm.specs.Lcm.{lcm_to}
use Rattle.lcm.proofs.Laws.{lcm_to_mono}
use Rattle.layout.specs.declared.Kind.{Kind}
use Rattle.layout.specs.declared.Kind.TheVariants.{Network, Processor, Task, CoResident, Exclusive, Message}
use Rattle.layout.specs.Format.{row, count, place}
use Rattle.layout.proofs.EachKind.{each}
use Rattle.verdict.specs.Faults.{in_range, out_of_range, not_in_file, bad_residence, bad_group, bad_pair, priority_used, periods_differ, message_repeated, hyperperiod_too_large}
use Rattle.verdict.proofs.Accepted.{Accepted}
use Rattle.verdict.proofs.Taking.{mark_kind}
use Rattle.table.specs.declared.Table.{Table}
use Rattle.table.specs.Encode.{encode}
use Rattle.table.specs.Sound.{Sound}
use Rattle.table.proofs.Times.{some_period}
use Rattle.table.proofs.RecordFields.{stands_mark, stands_whole}
use Rattle.table.proofs.EncodedRecords.{whole, values_fit, record_stands, field_at}
use Rattle.table.proofs.Stage.{progress_at, period, count_here, count_before, place_at}

-- ---- the tests, of numbers in their ranges

in_range_true : (low high v : ℕ) → low ≤ v → v ≤ high → in_range low high v ≡ true
in_range_true low high v a b = rw (le-leb low v a, le-leb v high b)

residence_good : (m r : ℕ) → 0 < r → r < 2 ^ m → bad_residence m r ≡ false
unfolding bad_residence
residence_good m r a b = rw (ne_eqb r 0 (λ e. omega arith), lt-ltb r (2 ^ m) b)

group_good : (n g : ℕ) → g < 2 ^ n → 2 ≤ mask.cardinality 32 g → bad_group n g ≡ false
unfolding bad_group
group_good n g a b = rw (lt-ltb g (2 ^ n) a, le-leb 2 (mask.cardinality 32 g) b)

pair_good : (n a b : ℕ) → a < n → b < n → a ≢ b → bad_pair n a b ≡ false
unfolding bad_pair
pair_good n a b p q d = rw (lt-leb n a p, lt-leb n b q, ne_eqb a b d)

pair_new : (a b c d : ℕ) → (a ≡ b → c ≡ d → ⊥) → (eqb a b && eqb c d) ≡ false
pair_new a b c d f = go (ℕ_discrete a b)
  where
    go : Dec (a ≡ b) → (eqb a b && eqb c d) ≡ false
    go (yes e) = rw (eq-eqb a b e) (ne_eqb c d (f e))
    go (no e) = rw (ne_eqb a b e)

module _ {t : Table} (h : Sound t) where
  -- ---- of a task

  task_range : (j : ℕ) → j < t.tasks.count → out_of_range (encode t) (place (whole t) Task j) Task ≡ false
  unfolding out_of_range
  task_range j l =
      let a = h.tasks in
      rw (
        field_at h Task j l 0,
        field_at h Task j l 1,
        field_at h Task j l 2,
        le-leb 1 _ (a.works j l),
        le-leb _ _ (a.c_d j l),
        le-leb _ _ (a.d_t j l),
        le-leb _ 1000000 (a.ticks j l),
      )

  priority_new : (j n : ℕ) → j < t.tasks.count → priority_used (encode t) (place (whole t) Task j) (progress_at t Task j n) Task ≡ false
  unfolding priority_used
  priority_new j n l = some_false (count (progress_at t Task j n) Task) _ (λ i q.
      let p : i < t.tasks.count = omega (arith, count_here t Task j n) in
      rw (place_at t Task j n Task (omega arith) i, field_at h Task i p 4, field_at h Task j l 4)
      (ne_eqb (get_or t.tasks.priority i 0) (get_or t.tasks.priority j 0) (λ e. omega (arith, count_here t Task j n, h.tasks.distinct i j p l e))))

  multiple_most : (j : ℕ) → j < t.tasks.count → lcm_to (suc j) (period t) ≤ 1000000000
  multiple_most j l = omega (arith, lcm_to_mono (suc j) t.tasks.count (period t) (some_period h) l, h.hyperperiod, h.hyperperiod_most)

  multiple_small : (j n : ℕ) → j < t.tasks.count → hyperperiod_too_large (encode t) (place (whole t) Task j) (progress_at t Task j n) Task ≡ false
  unfolding hyperperiod_too_large lcm_to
  multiple_small j n l = rw (count_here t Task j n, field_at h Task j l 1) (le-ltb 1000000000 (lcm_to (suc j) (period t)) (multiple_most j l))

  -- ---- of a message

  periods_equal : (j n : ℕ) → j < t.messages.count → periods_differ (encode t) (place (whole t) Message j) (progress_at t Message j n) Message ≡ false
  unfolding periods_differ
  periods_equal j n l =
      let m = h.messages in
      rw (
        field_at h Message j l 0,
        field_at h Message j l 1,
        place_at t Message j n Task (omega arith) (get_or t.messages.sender j 0),
        place_at t Message j n Task (omega arith) (get_or t.messages.receiver j 0),
        field_at h Task _ (m.from_task j l) 1,
        field_at h Task _ (m.to_task j l) 1,
        eq-eqb _ _ (m.periods j l),
      )

  message_new : (j n : ℕ) → j < t.messages.count → message_repeated (encode t) (place (whole t) Message j) (progress_at t Message j n) Message ≡ false
  unfolding message_repeated
  message_new j n l = some_false (count (progress_at t Message j n) Message) _ (λ i q.
      let p : i < t.messages.count = omega (arith, count_here t Message j n) in
      let from = t.messages.sender in
      let to = t.messages.receiver in
      rw (place_at t Message j n Message (omega arith) i, field_at h Message i p 0, field_at h Message j l 0, field_at h Message i p 1, field_at h Message j l 1)
      (pair_new (get_or from i 0) (get_or from j 0) (get_or to i 0) (get_or to j 0) (λ a b. omega (arith, count_here t Message j n, h.messages.distinct i j p l a b))))

  -- ---- of a kind: room for it, and causes 5 to 10

  few : (k : Kind) → count (whole t) k ≤ (row k).most
  few = each (λ k. count (whole t) k ≤ (row k).most) (omega (arith, h.processors.most, h.tasks.most, h.co.most, h.ex.most, h.messages.most))

  contents : (k : Kind) (j n : ℕ) → j < count (whole t) k → let s = encode t in let at = place (whole t) k j in let x = progress_at t k j n in
      (out_of_range s at k ≡ false)
      × (not_in_file s at x k ≡ false)
      × (priority_used s at x k ≡ false)
      × (periods_differ s at x k ≡ false)
      × (message_repeated s at x k ≡ false)
      × (hyperperiod_too_large s at x k ≡ false)
  unfolding out_of_range not_in_file priority_used periods_differ message_repeated hyperperiod_too_large
  contents Network j n l = (refl, refl, refl, refl, refl, refl)
  contents Processor j n l =
      let p = h.processors in
      (rw (field_at h Processor j l 1, in_range_true 1 1000 _ (p.least_limit j l) (p.most_limit j l)), refl, refl, refl, refl, refl)
  contents Task j n l =
      let a = h.tasks in (
        task_range j l,
        rw (count_before t Task j n Processor (omega arith), field_at h Task j l 5) (residence_good _ _ (a.resides j l) (a.resides_below j l)),
        priority_new j n l,
        refl,
        refl,
        multiple_small j n l,
      )
  contents CoResident j n l =
      let g = h.co in
      (refl, rw (count_before t CoResident j n Task (omega arith), field_at h CoResident j l 0) (group_good _ _ (g.below j l) (g.two j l)), refl, refl, refl, refl)
  contents Exclusive j n l =
      let g = h.ex in
      (refl, rw (count_before t Exclusive j n Task (omega arith), field_at h Exclusive j l 0) (group_good _ _ (g.below j l) (g.two j l)), refl, refl, refl, refl)
  contents Message j n l =
      let m = h.messages in (
        rw (field_at h Message j l 2, in_range_true 1 1000000 _ (m.least_amount j l) (m.most_amount j l)),
        rw (count_before t Message j n Task (omega arith), field_at h Message j l 0, field_at h Message j l 1) (pair_good _ _ _ (m.from_task j l) (m.to_task j l) (m.apart j l)),
        refl,
        periods_equal j n l,
        message_new j n l,
        refl,
      )

  pub accepted : (k : Kind) (j n : ℕ) → j < count (whole t) k → n ≤ (row k).order → Accepted (encode t) (place (whole t) k j) (progress_at t k j n) k
  accepted k j n l o =
      let r = record_stands h k j l in
      let c = contents k j n l in
      record {
        marked = mark_kind (encode t) (place (whole t) k j) k (stands_mark r);
        whole = stands_whole r (values_fit h k j);
        in_order = o;
        room = omega (arith, count_here t k j n, few k);
        in_range = c.0;
        in_file = c.1;
        priority_new = c.2;
        periods_equal = c.3;
        message_new = c.4;
        hyperperiod_small = c.5;
      }
