-- The kinds, one by one: what holds of each in the list of kinds holds of every kind. Assumes nothing.
use mathlib.Core.Path.{◌≡◌, refl, sym, ap, subst, ◌∙◌}
use mathlib.Core.Logic.{◌≢◌}
use mathlib.Core.List.{List, [], ◌∷◌}
use Prim.Native.Nat.{ℕ, zero, suc, ◌≤◌, ◌<◌}
use native.Mathlib.Nat.{not-suc-le-zero, le_of_suc-le-suc}
use native.Mathlib.Omega.{arith}
use native.Mathlib.Decide.{ℕ_discrete}
use lib.ListN.{length, get_or}
use Rattle.layout.specs.declared.Kind.{Kind}
use Rattle.layout.specs.declared.Kind.TheVariants.{Network, Processor, Task, CoResident, Exclusive, Message}
use Rattle.layout.specs.Format.{row, kinds, in_order}

-- every kind is in the list, at its place in the order
listed : (k : Kind) → ((row k).order < length kinds) × (in_order (row k).order ≡ k)
listed Network = (omega arith, refl)
listed Processor = (omega arith, refl)
listed Task = (omega arith, refl)
listed CoResident = (omega arith, refl)
listed Exclusive = (omega arith, refl)
listed Message = (omega arith, refl)

pub order_below : (k : Kind) → (row k).order < length kinds
order_below k = (listed k).0

pub kind_of_lem : (k : Kind) → in_order (row k).order ≡ k
kind_of_lem k = (listed k).1

-- ---- each kind in a list, with its place there

abbrev pub Each : (ℕ → Kind → Type 0) → List Kind → Type 0
Each P [] = Unit {0}
Each P (k ∷ ks) = P 0 k × Each (λ i. P (suc i)) ks

at_place : (P : ℕ → Kind → Type 0) (l : List Kind) → Each P l → (i : ℕ) → i < length l → P i (get_or l i Network)
at_place P [] e i l = absurd (not-suc-le-zero l)
at_place P (k ∷ ks) e zero l = e.0
at_place P (k ∷ ks) e (suc i) l = at_place (λ j. P (suc j)) ks e.1 i (le_of_suc-le-suc l)

in_list : (P : ℕ → Kind → Type 0) → ((i : ℕ) (k : Kind) → P i k) → (l : List Kind) → Each P l
in_list P h [] = tt
in_list P h (k ∷ ks) = (h 0 k, in_list (λ i. P (suc i)) (λ i. h (suc i)) ks)

-- a law of every kind from one proof for the list, and back
pub each : (P : Kind → Type 0) → Each (λ i. P) kinds → (k : Kind) → P k
each P e k = subst P (kind_of_lem k) (at_place (λ i. P) kinds e (row k).order (order_below k))

pub one_by_one : (P : Kind → Type 0) → ((k : Kind) → P k) → Each (λ i. P) kinds
one_by_one P h = in_list (λ i. P) (λ i. h) kinds

-- ---- the order

pub order_of_lem : (i : ℕ) → i < length kinds → (row (in_order i)).order ≡ i
order_of_lem = at_place (λ i k. (row k).order ≡ i) kinds (omega arith)

-- two kinds: the same, or apart in the order
pub data Versus (k j : Kind) : Type 0 where
  same : k ≡ j → Versus k j
  other : (row k).order ≢ (row j).order → Versus k j

pub versus : (k j : Kind) → Versus k j
versus k j = go (ℕ_discrete (row k).order (row j).order)
  where
    go : Dec ((row k).order ≡ (row j).order) → Versus k j
    go (yes e) = same (sym (kind_of_lem k) ∙ ap in_order e ∙ kind_of_lem j)
    go (no e) = other e

pub next_above : (k : Kind) → (row k).order ≤ (row k).next
next_above = each (λ k. (row k).order ≤ (row k).next) (omega arith)

-- ---- the marks

pub mark_two : (k : Kind) → (row k).mark ≡ get_or (row k).mark 0 0 ∷ get_or (row k).mark 1 0 ∷ []
mark_two = each (λ k. (row k).mark ≡ get_or (row k).mark 0 0 ∷ get_or (row k).mark 1 0 ∷ []) (search)

pub mark_bytes_lem : (k : Kind) → (get_or (row k).mark 0 0 < 256) × (get_or (row k).mark 1 0 < 256)
mark_bytes_lem = each (λ k. (get_or (row k).mark 0 0 < 256) × (get_or (row k).mark 1 0 < 256)) (omega arith)
