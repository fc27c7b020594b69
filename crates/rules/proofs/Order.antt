-- The first broken rule: what its definition finds, and what a placement without one keeps. Assumes nothing.
use mathlib.Core.Path.{◌≡◌, refl, sym, ap, ap₂, subst, ◌∙◌}
use mathlib.Core.Bool.{Bool, cond}
use Prim.Native.Nat.{ℕ, suc, ◌≤◌, ◌<◌}
use native.Mathlib.Omega.{arith}
use native.Mathlib.Decide.{ℕ_discrete, dec_lt}
use borrow.Author.Tests.{lt-ltb, le-ltb}
use lib.Dec.{T, eqb}
use Rattle.std.specs.Prelude.{Ok, Err}
use Rattle.std.specs.Result.{result_and}
use Rattle.finite.specs.Finite.{first_below}
use Rattle.finite.proofs.Search.{FirstBelow, first_below_lem, lowest, nowhere, lowest_same}
use Rattle.table.specs.declared.Table.{Table}
use Rattle.rules.specs.declared.Rule.{Rule}
use Rattle.rules.specs.declared.Rule.TheVariants.{Residence, CoResidence, Exclusion, Memory, Utilisation, Network, Deadline}
use Rattle.rules.specs.Rules.{rule_number, concerned, broken, Check, broken_with, broken_at, check_rule, first_broken, Keeps}

-- ---- a rule and its number

rule_of : ℕ → Rule
rule_of n =
    cond (eqb n 101) Residence
    (cond (eqb n 102) CoResidence
    (cond (eqb n 103) Exclusion
    (cond (eqb n 104) Memory
    (cond (eqb n 105) Utilisation
    (cond (eqb n 106) Network Deadline)))))

rule_of_number : (r : Rule) → rule_of (rule_number r) ≡ r
unfolding rule_of
rule_of_number Residence = refl
rule_of_number CoResidence = refl
rule_of_number Exclusion = refl
rule_of_number Memory = refl
rule_of_number Utilisation = refl
rule_of_number Network = refl
rule_of_number Deadline = refl

pub same_rule : (r s : Rule) → rule_number r ≡ rule_number s → r ≡ s
same_rule r s e = sym (rule_of_number r) ∙ ap rule_of e ∙ rule_of_number s

pub numbers : (r : Rule) → (101 ≤ rule_number r) × (rule_number r ≤ 107)
numbers Residence = omega arith
numbers CoResidence = omega arith
numbers Exclusion = omega arith
numbers Memory = omega arith
numbers Utilisation = omega arith
numbers Network = omega arith
numbers Deadline = omega arith

-- ---- the first broken rule

-- the rule is broken at no number
abbrev pub NotBroken : Table → (ℕ → ℕ → Bool) → (ℕ → Bool) → Rule → Type 0
NotBroken t on late r = (k : ℕ) → k < concerned t r → T (broken t on late r k) → ⊥

-- of the rules numbered from `low` on: the rule r is broken at k and at no lower number, and no earlier rule is broken
pub record BrokenFirst (t : Table) (on : ℕ → ℕ → Bool) (late : ℕ → Bool) (low : ℕ) (r : Rule) (k : ℕ) : Type 0 where
  pub within : k < concerned t r
  pub breaks : T (broken t on late r k)
  pub least : (j : ℕ) → j < k → T (broken t on late r j) → ⊥
  pub earlier : (s : Rule) → low ≤ rule_number s → rule_number s < rule_number r → NotBroken t on late s

-- what a check of the rules numbered from `low` on finds
pub data Finds (t : Table) (on : ℕ → ℕ → Bool) (late : ℕ → Bool) (low : ℕ) : Check → Type 0 where
  none : ((s : Rule) → low ≤ rule_number s → NotBroken t on late s) → Finds t on late low (Ok tt)
  one : {r : Rule} {k : ℕ} → BrokenFirst t on late low r k → Finds t on late low (broken_with r k)

-- a check with none behind it
alone : (c : Check) → result_and c (Ok tt) ≡ c
alone (Ok x) = refl
alone (Err b) = refl

module _ (t : Table) (on : ℕ → ℕ → Bool) (late : ℕ → Bool) where
  -- one rule more, in front of the others
  finds_more : (r : Rule) (next : Check) → Finds t on late (suc (rule_number r)) next → Finds t on late (rule_number r) (result_and (check_rule t on late r) next)
  unfolding check_rule
  finds_more r next found = go (first_below_lem (concerned t r) (broken t on late r))
    where
      low : ℕ
      low = rule_number r

      from : {P : Rule → Type 0} → P r → ((s : Rule) → suc low ≤ rule_number s → P s) → (s : Rule) → low ≤ rule_number s → P s
      from {P} here later s l = pick (ℕ_discrete low (rule_number s))
        where
          pick : Dec (low ≡ rule_number s) → P s
          pick (yes e) = subst P (same_rule r s e) here
          pick (no e) = later s (omega arith)

      behind : NotBroken t on late r → {c : Check} → Finds t on late (suc low) c → Finds t on late low c
      behind not-here (none f) = none (from {P = NotBroken t on late} not-here f)
      behind not-here (one {r = s} w) = one {r = s} (record {
        within = w.within;
        breaks = w.breaks;
        least = w.least;
        earlier = from {P = λ q. rule_number q < rule_number s → NotBroken t on late q} (λ l. not-here) w.earlier;
      })

      go : FirstBelow (concerned t r) (broken t on late r) (first_below (concerned t r) (broken t on late r))
          → Finds t on late low (result_and (broken_at r (concerned t r) (first_below (concerned t r) (broken t on late r))) next)
      go (lowest l u h) = rw (lt-ltb _ _ l) (one {r = r} (record { within = l; breaks = u; least = h; earlier = λ s a b. absurd (omega arith) }))
      go (nowhere e h) = rw (e, le-ltb (concerned t r) (concerned t r) (omega arith)) (behind h found)

  -- 01: the first broken rule with the lowest number concerned
  pub first_broken_lem : Finds t on late 101 (first_broken t on late)
  unfolding first_broken
  first_broken_lem =
      finds_more Residence _
      (finds_more CoResidence _
      (finds_more Exclusion _
      (finds_more Memory _
      (finds_more Utilisation _
      (finds_more Network _
      (subst (Finds t on late 107) (alone (check_rule t on late Deadline)) (finds_more Deadline (Ok tt) (none (λ s l. absurd (omega (arith, numbers s)))))))))))

  -- ---- the placement rules

  keeps_of : ((s : Rule) → rule_number s < 107 → NotBroken t on late s) → Keeps t on
  keeps_of f = record {
    residence = f Residence (omega arith);
    co_residence = f CoResidence (omega arith);
    exclusion = f Exclusion (omega arith);
    memory = f Memory (omega arith);
    utilisation = f Utilisation (omega arith);
    network = f Network (omega arith) 0 (omega arith);
  }

  of_keeps : Keeps t on → NotBroken t on late Deadline → (s : Rule) → NotBroken t on late s
  of_keeps k d Residence = k.residence
  of_keeps k d CoResidence = k.co_residence
  of_keeps k d Exclusion = k.exclusion
  of_keeps k d Memory = k.memory
  of_keeps k d Utilisation = k.utilisation
  of_keeps k d Network = λ j l. k.network
  of_keeps k d Deadline = d

  pub kept_keeps : first_broken t on late ≡ Ok tt → Keeps t on × NotBroken t on late Deadline
  kept_keeps e = go first_broken_lem e
    where
      go : {c : Check} → Finds t on late 101 c → c ≡ Ok tt → Keeps t on × NotBroken t on late Deadline
      go (none f) e = (keeps_of (λ s l. f s (numbers s).0), f Deadline (omega arith))
      go (one w) e = absurd (let z : ◌≡◌ {A = ℕ} 0 1 = cc in omega arith)

  pub keeps_kept : Keeps t on → NotBroken t on late Deadline → first_broken t on late ≡ Ok tt
  keeps_kept k d = go first_broken_lem
    where
      go : {c : Check} → Finds t on late 101 c → c ≡ Ok tt
      go (none f) = refl
      go (one {r = r} {k = j} w) = absurd (of_keeps k d r j w.within w.breaks)

  -- only one rule is broken first, and at one number
  pub broken_first : {r : Rule} {k : ℕ} → BrokenFirst t on late 101 r k → first_broken t on late ≡ broken_with r k
  broken_first {r} {k} w = go first_broken_lem
    where
      go : {c : Check} → Finds t on late 101 c → c ≡ broken_with r k
      go (none f) = absurd (f r (numbers r).0 k w.within w.breaks)
      go (one {r = s} {k = j} v) = let u = subst (λ (x : Rule). BrokenFirst t on late 101 x j) rule v in ap₂ broken_with rule (lowest_same (λ i. T (broken t on late r i)) u.breaks u.least w.breaks w.least)
        where
          pick : Dec (rule_number s < rule_number r) → Dec (rule_number r < rule_number s) → rule_number s ≡ rule_number r
          pick (yes l) d = absurd (w.earlier s (numbers s).0 l j v.within v.breaks)
          pick (no l) (yes m) = absurd (v.earlier r (numbers r).0 m k w.within w.breaks)
          pick (no l) (no m) = omega arith

          rule : s ≡ r
          rule = same_rule s r (pick (dec_lt (rule_number s) (rule_number r)) (dec_lt (rule_number r) (rule_number s)))
