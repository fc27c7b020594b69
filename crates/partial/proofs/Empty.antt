-- Where nothing stands, the rules are kept and all is left. Assumes nothing.
use mathlib.Core.Path.{◌≡◌, refl}
use mathlib.Core.Bool.{Bool, true, not, ◌&&◌}
use Prim.Native.Nat.{ℕ, ◌*◌, ◌/◌, ◌≤◌}
use native.Mathlib.Omega.{arith}
use borrow.Author.Tests.{lt-ltb}
use lib.Dec.{T, eqb, ltb, ltb→lt}
use lib.ListN.{get_or, replicate}
use Rattle.finite.proofs.Stored.{zeros}
use Rattle.finite.proofs.Sum.{sum_zero}
use Rattle.finite.proofs.Some.{some_elim}
use Rattle.finite.proofs.Only.{only_out}
use Rattle.mask.specs.Mask.{has}
use Rattle.mask.proofs.Tests.{and_left, and_right}
use Rattle.mask.proofs.Laws.{has_mask, has_zero}
use Rattle.table.specs.declared.Table.{Table}
use Rattle.table.proofs.Columns.{column_length, column_in}
use Rattle.rules.specs.Placement.{apart, together}
use Rattle.rules.specs.Rules.{residence_broken, co_residence_broken, exclusion_broken, memory_on, memory_broken, load_on, utilisation_broken, crosses, amount_of, traffic, network_broken, Keeps}
use Rattle.rules.specs.Sets.{standing}
use Rattle.rules.proofs.Where.{apart_elim, together_elim, pair_elim}
use Rattle.partial.specs.Start.{start_of, Started}

module _ (t : Table) (on : ℕ → ℕ → Bool) (none : (k p : ℕ) → T (on k p) → ⊥) where
  no_memory : (p : ℕ) → memory_on t on p ≡ 0
  unfolding memory_on
  no_memory p = sum_zero t.tasks.count _ (λ k l. only_out (on k p) _ (none k p))

  no_load : (p : ℕ) → load_on t on p ≡ 0
  unfolding load_on
  no_load p = sum_zero t.tasks.count _ (λ k l. only_out (on k p) _ (none k p))

  none_apart : (i j : ℕ) → T (apart t.processors.count (on i) (on j)) → ⊥
  none_apart i j u = let a = apart_elim t.processors.count (on i) (on j) u in none i a.0 a.5

  no_traffic : traffic t on ≡ 0
  unfolding traffic
  no_traffic = sum_zero t.messages.count _ (λ j l. only_out (crosses t on j) (amount_of t j) (none_apart (get_or t.messages.sender j 0) (get_or t.messages.receiver j 0)))

  nothing_keeps : Keeps t on
  unfolding residence_broken co_residence_broken exclusion_broken memory_broken utilisation_broken network_broken
  nothing_keeps =
      let n = t.tasks.count in
      let m = t.processors.count in
      record {
        residence = λ k l u. let r = some_elim m (λ p. on k p && not (has (get_or t.tasks.residence k 0) p)) u in none k r.0 (and_left (on k r.0) _ r.2);
        co_residence = λ g l u. let s = pair_elim n (get_or t.co.mask g 0) (λ i j. apart m (on i) (on j)) u in none_apart s.0 s.1 s.6;
        exclusion = λ g l u.
            let s = pair_elim n (get_or t.ex.mask g 0) (λ i j. not (eqb i j) && together m (on i) (on j)) u in
            let a = together_elim m (on s.0) (on s.1) (and_right (not (eqb s.0 s.1)) _ s.6) in
            none s.0 a.0 a.2;
        memory = λ p l u. omega (arith, no_memory p, ltb→lt _ (memory_on t on p) u);
        utilisation = λ p l u. omega (arith, no_load p, ltb→lt _ (1000 * load_on t on p) u);
        network = λ u. omega (arith, no_traffic, ltb→lt _ (traffic t on) u);
      }

-- no task in any of the sets
empty_sets : (k p : ℕ) → T (standing (replicate 8 0) k p) → ⊥
empty_sets k p u = rw (zeros 8 p, has_zero k) at u

pub started : {t : Table} → t.processors.count ≤ 8 → Started t (start_of t)
unfolding start_of
started {t} few = record {
  fits = record {
    partial = record {
      long = refl;
      task = λ k p u. absurd (empty_sets k p u);
      processor = λ k p u. absurd (empty_sets k p u);
      once = λ k p r u v. absurd (empty_sets k p u);
    };
    keeps = nothing_keeps t (standing (replicate 8 0)) empty_sets;
    open_task = λ k u. (ltb→lt k n (and_left (ltb k n) true (rw (has_mask n (λ j. true) k) at u)), empty_sets k);
    placed_task = λ k l out. absurd (out (rw (has_mask n (λ j. true) k, lt-ltb k n l) tt));
    memory_long = column_length 8 m _;
    memory = λ p l. omega (arith, column_in 8 m memory p few l, no_memory t (standing (replicate 8 0)) empty_sets p);
    load_long = column_length 8 m _;
    load = λ p l. omega (arith, column_in 8 m load p few l, no_load t (standing (replicate 8 0)) empty_sets p);
    traffic = omega (arith, no_traffic t (standing (replicate 8 0)) empty_sets);
  };
  nothing = empty_sets;
}
  where
    n : ℕ
    n = t.tasks.count

    m : ℕ
    m = t.processors.count

    memory : ℕ → ℕ
    memory p = get_or t.processors.memory p 0

    load : ℕ → ℕ
    load p = get_or t.processors.limit p 0 * t.hyperperiod / 1000
