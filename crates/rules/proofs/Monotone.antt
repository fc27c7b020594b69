-- Each placement rule is monotone: broken by a part of a placement, broken by the whole. Assumes nothing.
use mathlib.Core.Bool.{Bool, not, ◌&&◌}
use Prim.Native.Nat.{ℕ, ◌*◌, ◌≤◌}
use native.Mathlib.Omega.{arith}
use lib.Dec.{T, eqb, ltb, ltb→lt, lt→ltb}
use lib.ListN.{get_or}
use Rattle.finite.proofs.Some.{some_more}
use Rattle.finite.proofs.Only.{sum_more}
use Rattle.mask.specs.Mask.{has}
use Rattle.mask.proofs.Tests.{and_both, and_left, and_right}
use Rattle.table.specs.declared.Table.{Table}
use Rattle.rules.specs.Placement.{Part, apart, together}
use Rattle.rules.specs.Rules.{residence_broken, co_residence_broken, exclusion_broken, memory_on, memory_broken, load_on, utilisation_broken, crosses, amount_of, traffic, network_broken, Keeps}
use Rattle.rules.proofs.Where.{apart_elim, apart_intro, together_elim, together_intro, pair_elim, pair_intro}

-- the right side of a conjunction, made larger
and_more : (a b c : Bool) → (T b → T c) → T (a && b) → T (a && c)
and_more a b c f t = and_both a c (and_left a b t) (f (and_right a b t))

-- a larger sum
over : (a x y : ℕ) → x ≤ y → T (ltb a x) → T (ltb a y)
over a x y l t = lt→ltb a y (omega (arith, ltb→lt a x t))

pub apart_more : (m : ℕ) (x y x' y' : ℕ → Bool) → ((p : ℕ) → T (x p) → T (x' p)) → ((p : ℕ) → T (y p) → T (y' p)) → T (apart m x y) → T (apart m x' y')
apart_more m x y x' y' f g t =
    let s = apart_elim m x y t in
    apart_intro m x' y' s.2 s.3 s.4 (f s.0 s.5) (g s.1 s.6)

together_more : (m : ℕ) (x y x' y' : ℕ → Bool) → ((p : ℕ) → T (x p) → T (x' p)) → ((p : ℕ) → T (y p) → T (y' p)) → T (together m x y) → T (together m x' y')
together_more m x y x' y' f g t = let s = together_elim m x y t in together_intro m x' y' s.1 (f s.0 s.2) (g s.0 s.3)

module _ (t : Table) (on all : ℕ → ℕ → Bool) (part : Part on all) where
  pub residence_more : (k : ℕ) → T (residence_broken t on k) → T (residence_broken t all k)
  unfolding residence_broken
  residence_more k =
      some_more t.processors.count (λ p. on k p && not (has (get_or t.tasks.residence k 0) p)) (λ p. all k p && not (has (get_or t.tasks.residence k 0) p))
      (λ p l u. let out = not (has (get_or t.tasks.residence k 0) p) in and_both (all k p) out (part k p (and_left (on k p) out u)) (and_right (on k p) out u))

  pub co_residence_more : (g : ℕ) → T (co_residence_broken t on g) → T (co_residence_broken t all g)
  unfolding co_residence_broken
  co_residence_more g u =
      let n = t.tasks.count in
      let m = t.processors.count in
      let group = get_or t.co.mask g 0 in
      let s = pair_elim n group (λ i j. apart m (on i) (on j)) u in
      pair_intro n group (λ i j. apart m (all i) (all j)) s.0 s.1 s.2 s.3 s.4 s.5 (apart_more m (on s.0) (on s.1) (all s.0) (all s.1) (part s.0) (part s.1) s.6)

  pub exclusion_more : (g : ℕ) → T (exclusion_broken t on g) → T (exclusion_broken t all g)
  unfolding exclusion_broken
  exclusion_more g u =
      let n = t.tasks.count in
      let m = t.processors.count in
      let group = get_or t.ex.mask g 0 in
      let s = pair_elim n group (λ i j. not (eqb i j) && together m (on i) (on j)) u in
      let i = s.0 in
      let j = s.1 in
      pair_intro n group (λ i j. not (eqb i j) && together m (all i) (all j)) i j s.2 s.3 s.4 s.5
      (and_more (not (eqb i j)) (together m (on i) (on j)) (together m (all i) (all j)) (together_more m (on i) (on j) (all i) (all j) (part i) (part j)) s.6)

  pub memory_more : (p : ℕ) → T (memory_broken t on p) → T (memory_broken t all p)
  unfolding memory_broken memory_on
  memory_more p = over (get_or t.processors.memory p 0) (memory_on t on p) (memory_on t all p) (sum_more t.tasks.count (λ k. on k p) (λ k. all k p) _ (λ k l. part k p))

  pub utilisation_more : (p : ℕ) → T (utilisation_broken t on p) → T (utilisation_broken t all p)
  unfolding utilisation_broken load_on
  utilisation_more p =
      let up : load_on t on p ≤ load_on t all p = sum_more t.tasks.count (λ k. on k p) (λ k. all k p) _ (λ k l. part k p) in
      over (get_or t.processors.limit p 0 * t.hyperperiod) (1000 * load_on t on p) (1000 * load_on t all p) (omega arith)

  pub network_more : T (network_broken t on) → T (network_broken t all)
  unfolding network_broken traffic
  network_more =
      over (t.capacity * t.hyperperiod) (traffic t on) (traffic t all)
      (sum_more t.messages.count (crosses t on) (crosses t all) (amount_of t) (λ j l.
      let from = get_or t.messages.sender j 0 in
      let to = get_or t.messages.receiver j 0 in
      apart_more t.processors.count (on from) (on to) (all from) (all to) (part from) (part to)))

  -- what the whole keeps, each part keeps
  pub keeps_part : Keeps t all → Keeps t on
  keeps_part k = record {
    residence = λ j l u. k.residence j l (residence_more j u);
    co_residence = λ g l u. k.co_residence g l (co_residence_more g u);
    exclusion = λ g l u. k.exclusion g l (exclusion_more g u);
    memory = λ p l u. k.memory p l (memory_more p u);
    utilisation = λ p l u. k.utilisation p l (utilisation_more p u);
    network = λ u. k.network (network_more u);
  }
