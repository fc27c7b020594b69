-- Messages that must cross the network, against what it carries. Assumes nothing.
use mathlib.Core.Path.{◌≡◌, ap, subst}
use mathlib.Core.Logic.{◌⊎◌, ⊎_elim}
use mathlib.Core.Bool.{Bool, not, ◌&&◌, ◌||◌}
use mathlib.Core.List.{List}
use Prim.Native.Nat.{ℕ, ◌+◌, ◌*◌, ◌≤◌, ◌<◌}
use native.Mathlib.Decide.{ℕ_discrete}
use native.Mathlib.Omega.{arith}
use lib.Dec.{T}
use lib.ListN.{length, get_or}
use Rattle.finite.specs.Finite.{only, some_below}
use Rattle.finite.proofs.Some.{or_left, or_right, or_either, some_intro}
use Rattle.finite.proofs.Sum.{sum_ext}
use Rattle.finite.proofs.Only.{sum_more, sum_either}
use Rattle.mask.specs.Mask.{has}
use Rattle.mask.proofs.Tests.{and_both, and_left, and_right}
use Rattle.table.specs.declared.Table.{Table}
use Rattle.table.specs.Sound.{Sound}
use Rattle.rules.specs.Placement.{placed, apart}
use Rattle.rules.specs.Rules.{crosses, amount_of, traffic, network_broken}
use Rattle.rules.specs.Sets.{standing}
use Rattle.rules.proofs.Where.{apart_elim, apart_intro}
use Rattle.rules.proofs.Monotone.{apart_more}
use Rattle.rows.specs.Rows.{amounts_of, exclusions_of, messages_of}
use Rattle.rows.proofs.Laws.{amounts_get}
use Rattle.partial.specs.declared.State.{State}
use Rattle.partial.specs.declared.Sizes.{Sizes}
use Rattle.partial.specs.Partial.{Lent, Fits}
use Rattle.partial.proofs.OneMore.{kept_le}
use Rattle.rules.proofs.Placed.{placed_at}
use Rattle.knapsack.specs.Knapsack.{joined}
use Rattle.candidates.specs.Candidates.{Fair, Choices}
use Rattle.candidates.proofs.Meeting.{not_both}
use Rattle.candidates.proofs.Fairness.{stands_or_open, not_both_there}
use Rattle.network_bound.specs.NetworkBound.{must_cross, crossing_of}
use Rattle.rows.specs.declared.Rows.{Rows}
use Rattle.rows.specs.declared.Messages.{Messages}

-- what the messages amount to, by the table's rows
pub crossing_as : {t : Table} {sizes : Sizes} {rows : Rows} {links : Messages} → Lent t sizes rows links
    → (s : State) (sets : List ℕ) {r : ℕ} → r ≡ crossing_of rows.exclusions links sizes.messages s sets sizes.processors
    → r ≡ crossing_of (exclusions_of t) (messages_of t) t.messages.count s sets t.processors.count
unfolding crossing_of
crossing_as l s sets e = rw (l.same_exclusions, l.same_sender, l.same_receiver, l.same_amounts, l.messages, l.processors) at e

module _ {t : Table} {s : State} {B : (ℕ → Bool) → Type 0} (sets : List ℕ) {q : List ℕ} (h : Sound t) (f : Fits t s) (c : Choices t s B sets) (w : Fair t s B q) where
  -- a task that q has on p stands there or is a candidate
  has_or_takes : {p : ℕ} → p < t.processors.count → (k : ℕ) → T (placed q k p) → T (joined (get_or s.on p 0) (get_or sets p 0) k)
  has_or_takes {p} low k u = ⊎_elim (or_left (has (get_or s.on p 0) k) _) (λ v. or_right (has (get_or s.on p 0) k) _ ((c p low).complete q w k v u)) (stands_or_open w f k p u)

  -- such tasks are on different processors
  cross_there : (from to : ℕ) → from < t.tasks.count → to < t.tasks.count → T (must_cross (exclusions_of t) s sets t.processors.count from to)
      → T (apart t.processors.count (placed q from) (placed q to))
  cross_there from to l i u = go (ℕ_discrete (get_or q to 0) (get_or q from 0))
    where
      m : ℕ
      m = t.processors.count

      home : (k : ℕ) → k < t.tasks.count → (get_or q k 0 < m) × T (placed q k (get_or q k 0))
      home k b = let d : k < length q = omega (arith, w.whole.long) in (w.whole.known k d, placed_at q k d)

      both : ℕ → Bool
      both p = joined (get_or s.on p 0) (get_or sets p 0) from && joined (get_or s.on p 0) (get_or sets p 0) to

      why : T (has (get_or (exclusions_of t) from 0) to) ⊎ T (not (some_below m both))
      why = or_either (has (get_or (exclusions_of t) from 0) to) (not (some_below m both)) (and_right (has s.left from || has s.left to) (has (get_or (exclusions_of t) from 0) to || not (some_below m both)) u)

      go : Dec (get_or q to 0 ≡ get_or q from 0) → T (apart m (placed q from) (placed q to))
      go (no d) = apart_intro m (placed q from) (placed q to) (home from l).0 (home to i).0 d (home from l).1 (home to i).1
      go (yes e) = absurd (⊎_elim (not_both_there w h (home from l).0 to from l here (home from l).1) (λ v. not_both (some_below m both) v (some_intro m both p (home from l).0
          (and_both (joined (get_or s.on p 0) (get_or sets p 0) from) (joined (get_or s.on p 0) (get_or sets p 0) to)
          (has_or_takes (home from l).0 from (home from l).1) (has_or_takes (home from l).0 to here)))) why)
        where
          p : ℕ
          p = get_or q from 0

          here : T (placed q to p)
          here = subst (λ (r : ℕ). T (placed q to r)) e (home to i).1

  -- so they add to the network's work
  crossing_more : traffic t (standing s.on) + crossing_of (exclusions_of t) (messages_of t) t.messages.count s sets t.processors.count ≤ traffic t (placed q)
  unfolding traffic crossing_of
  crossing_more =
      omega (
        arith,
        sum_ext n (λ j. only (must j) (get_or (amounts_of t) j 0)) (λ j. only (must j) (amount_of t j)) (λ j l. ap (only (must j)) (amounts_get t h j l)),
        sum_either n (crosses t (standing s.on)) must (amount_of t) (λ j l. disjoint j),
        sum_more n (λ j. crosses t (standing s.on) j || must j) (crosses t (placed q)) (amount_of t) (λ j l u. ⊎_elim
            (apart_more m (standing s.on (from j)) (standing s.on (to j)) (placed q (from j)) (placed q (to j)) (w.inside (from j)) (w.inside (to j)))
            (cross_there (from j) (to j) (h.messages.from_task j l) (h.messages.to_task j l)) (or_either (crosses t (standing s.on) j) (must j) u)),
      )
    where
      n : ℕ
      n = t.messages.count

      m : ℕ
      m = t.processors.count

      from : ℕ → ℕ
      from j = get_or t.messages.sender j 0

      to : ℕ → ℕ
      to j = get_or t.messages.receiver j 0

      must : ℕ → Bool
      must j = must_cross (exclusions_of t) s sets m (from j) (to j)

      disjoint : (j : ℕ) → T (crosses t (standing s.on) j) → T (must j) → ⊥
      disjoint j u v =
          let a = apart_elim m (standing s.on (from j)) (standing s.on (to j)) u in
          ⊎_elim (λ o. (f.open_task (from j) o).1 a.0 a.5) (λ o. (f.open_task (to j) o).1 a.1 a.6)
          (or_either (has s.left (from j)) (has s.left (to j)) (and_left (has s.left (from j) || has s.left (to j)) _ v))

  pub crossing_fits : crossing_of (exclusions_of t) (messages_of t) t.messages.count s sets t.processors.count ≤ s.traffic
  unfolding network_broken
  crossing_fits = omega (arith, crossing_more, f.traffic, kept_le (t.capacity * t.hyperperiod) (traffic t (placed q)) w.keeps.network)
