-- What each test says in numbers where it does not refuse. Assumes nothing.
use mathlib.Core.Path.{◌≡◌, refl}
use mathlib.Core.Logic.{◌≢◌}
use mathlib.Core.Bool.{Bool, true, false, not, ◌&&◌, ◌||◌}
use mathlib.Core.List.{List}
use Prim.Native.Nat.{ℕ, ◌^◌, ◌≤◌, ◌<◌}
use native.Mathlib.Omega.{arith}
use borrow.Author.Tests.{leb-true, leb-false, ltb-true, ltb-false, eqb-true, eqb-false, eq-eqb, not-false}
use lib.Dec.{leb, eqb}
use Rattle.finite.specs.Finite.{some_below}
use Rattle.finite.proofs.Some.{some_true}
use Rattle.mask.specs.Mask as mask
use Rattle.lcm.specs.Lcm.{lcm}
use Rattle.layout.specs.declared.Kind.TheVariants.{Processor, Task, Message}
use Rattle.layout.specs.declared.Progress.{Progress}
use Rattle.layout.specs.Format.{limit, execution_time, period, deadline, priority, sender, receiver, amount, count, place}
use Rattle.verdict.specs.Faults.{
  in_range,
  out_of_range,
  bad_residence,
  bad_group,
  bad_pair,
  priority_used,
  periods_differ,
  message_repeated,
  hyperperiod_too_large,
}

-- ---- tests joined

both : (a b : Bool) → a && b ≡ true → (a ≡ true) × (b ≡ true)
both true b e = (refl, e)
both false b e = (cc, cc)

pub neither : (a b : Bool) → a || b ≡ false → (a ≡ false) × (b ≡ false)
neither true b e = (cc, cc)
neither false b e = (refl, e)

none_below : (n : ℕ) (p : ℕ → Bool) → some_below n p ≡ false → (j : ℕ) → j < n → p j ≡ false
none_below n p e j l = go (p j) refl
  where
    go : (b : Bool) → p j ≡ b → p j ≡ false
    go true t = cc (some_true n p j l t)
    go false f = f

-- ---- ranges (01: 1 to 1000; 1 ≤ C ≤ D ≤ T ≤ 1,000,000; 1 to 1,000,000)

in_range_lem : (low high v : ℕ) → not (in_range low high v) ≡ false → (low ≤ v) × (v ≤ high)
in_range_lem low high v e =
    let t = both (leb low v) (leb v high) (not-false (in_range low high v) e) in
    (leb-true low v t.0, leb-true v high t.1)

pub limit_range : (s : List ℕ) (at : ℕ) → out_of_range s at Processor ≡ false → (1 ≤ limit s at) × (limit s at ≤ 1000)
unfolding out_of_range
limit_range s at = in_range_lem 1 1000 (limit s at)

pub amount_range : (s : List ℕ) (at : ℕ) → out_of_range s at Message ≡ false → (1 ≤ amount s at) × (amount s at ≤ 1000000)
unfolding out_of_range
amount_range s at = in_range_lem 1 1000000 (amount s at)

pub record TaskRange (c d t : ℕ) : Type 0 where
  pub works : 1 ≤ c
  pub c_d : c ≤ d
  pub d_t : d ≤ t
  pub ticks : t ≤ 1000000

pub task_range : (s : List ℕ) (at : ℕ) → out_of_range s at Task ≡ false → TaskRange (execution_time s at) (deadline s at) (period s at)
unfolding out_of_range
task_range s at e =
    let c = execution_time s at in
    let d = deadline s at in
    let t = period s at in
    let cdt = both (leb 1 c && leb c d && leb d t) (leb t 1000000) (not-false _ e) in
    let cd = both (leb 1 c && leb c d) (leb d t) cdt.0 in
    let one = both (leb 1 c) (leb c d) cd.0 in
    record { works = leb-true 1 c one.0; c_d = leb-true c d one.1; d_t = leb-true d t cd.1; ticks = leb-true t 1000000 cdt.1 }

-- ---- tasks and processors of the file

pub residence_known : (m r : ℕ) → bad_residence m r ≡ false → (0 < r) × (r < 2 ^ m)
unfolding bad_residence
residence_known m r e =
    let t = neither (eqb r 0) (not (mask.below m r)) e in
    let some : r ≢ 0 = eqb-false r 0 t.0 in
    (omega arith, ltb-true r (2 ^ m) (not-false (mask.below m r) t.1))

pub group_known : (n g : ℕ) → bad_group n g ≡ false → (g < 2 ^ n) × (2 ≤ mask.cardinality 32 g)
unfolding bad_group
group_known n g e =
    let t = neither (not (mask.below n g)) (not (leb 2 (mask.cardinality 32 g))) e in
    (ltb-true g (2 ^ n) (not-false (mask.below n g) t.0), leb-true 2 (mask.cardinality 32 g) (not-false (leb 2 (mask.cardinality 32 g)) t.1))

pub pair_known : (n a b : ℕ) → bad_pair n a b ≡ false → (a < n) × (b < n) × (a ≢ b)
unfolding bad_pair
pair_known n a b e =
    let t = neither (leb n a || leb n b) (eqb a b) e in
    let u = neither (leb n a) (leb n b) t.0 in
    (leb-false n a u.0, leb-false n b u.1, eqb-false a b t.1)

-- ---- against the records before

module _ (s : List ℕ) (at : ℕ) (x : Progress) where
  pub priority_new : priority_used s at x Task ≡ false → (j : ℕ) → j < count x Task → priority s (place x Task j) ≢ priority s at
  unfolding priority_used
  priority_new e j l = eqb-false _ _ (none_below (count x Task) (λ i. eqb (priority s (place x Task i)) (priority s at)) e j l)

  pub periods_equal : periods_differ s at x Message ≡ false → period s (place x Task (sender s at)) ≡ period s (place x Task (receiver s at))
  unfolding periods_differ
  periods_equal e = eqb-true _ _ (not-false _ e)

  pub message_new : message_repeated s at x Message ≡ false → (j : ℕ) → j < count x Message → sender s (place x Message j) ≡ sender s at
      → receiver s (place x Message j) ≢ receiver s at
  unfolding message_repeated
  message_new e j l p =
      eqb-false (receiver s (place x Message j)) (receiver s at)
      (rw (eq-eqb (sender s (place x Message j)) (sender s at) p) at (none_below (count x Message) (λ i. eqb (sender s (place x Message i)) (sender s at) && eqb (receiver s (place x Message i)) (receiver s at)) e j l))

  pub hyperperiod_small : hyperperiod_too_large s at x Task ≡ false → lcm x.hyperperiod (period s at) ≤ 1000000000
  unfolding hyperperiod_too_large
  hyperperiod_small e = ltb-false 1000000000 _ e
