-- The numbers of the search for weights stay small, and the rounds become fewer. Assumes nothing.
use mathlib.Core.Path.{◌≡◌, refl, sym, subst}
use mathlib.Core.Bool.{Bool, true, false, not, cond}
use mathlib.Core.List.{List}
use Prim.Native.Nat.{ℕ, ◌+◌, ◌-◌, ◌*◌, ◌≤◌, ◌<◌}
use native.Mathlib.Omega.{arith}
use lib.Dec.{ltb}
use lib.ListN.{get_or-replicate}
use Rattle.subgradient.specs.Subgradient.{AtMost, adapt_of}
use Rattle.subgradient.proofs.Laws.{adapt_direction}
use Rattle.descent.specs.declared.Descent.{Descent}
use Rattle.descent.specs.declared.Pace.{Pace}
use Rattle.descent.specs.Descent.{nowhere, begin_of, compared_of, turned_back_of, advanced_of, ends_of, ended_of, after_of, Moves}

nowhere_small : AtMost 2048 nowhere
nowhere_small = record { each = λ k l. rw (get_or-replicate {A = ℕ} 24 k 256 0 l) (omega arith) }

-- what holds in both cases
either : (P : Descent → Type 0) (b : Bool) {x y : Descent} → P x → P y → P (cond b x y)
either P true p q = p
either P false p q = q

pub begin_moves : (weights : List ℕ) (pace : Pace) → pace.alpha ≤ 100 → pace.rounds ≤ 256 → Moves (begin_of weights pace)
unfolding begin_of
begin_moves weights pace a r = record { direction = nowhere_small; alpha = a; idle = omega arith; calls = omega arith }

-- numbers inside a round, of which n are left
pub record Within (n : ℕ) (d : Descent) : Type 0 where
  pub direction : AtMost 2048 d.direction
  pub alpha : d.alpha ≤ 100
  pub idle : d.idle + n ≤ 257
  pub calls : d.calls + 4294967296 * n < 18446744073709551616 + 4294967296
  pub rounds : d.rounds ≡ n

pub compared_within : {d : Descent} (gap : ℕ) {calls : ℕ} → Moves d → calls < 4294967296 → Within d.rounds (compared_of d gap calls)
unfolding compared_of
compared_within {d} gap w l = record { direction = w.direction; alpha = w.alpha; idle = go (ltb gap d.least); calls = omega (arith, w.calls); rounds = refl }
  where
    go : (b : Bool) → cond b 0 (d.idle + 1) + d.rounds ≤ 257
    go true = omega (arith, w.idle)
    go false = omega (arith, w.idle)

pub turned_within : {n : ℕ} {d : Descent} (patience : ℕ) → Within n d → Within n (turned_back_of d patience)
unfolding turned_back_of
turned_within {n} {d} patience w =
    either (Within n) (ltb d.idle patience) w (record { direction = nowhere_small; alpha = omega (arith, w.alpha); idle = omega (arith, w.idle); calls = w.calls; rounds = w.rounds })

-- numbers after a round, with fewer than n left
pub record Later (n : ℕ) (d : Descent) : Type 0 where
  pub moves : Moves d
  pub fewer : d.rounds < n

module _ {n : ℕ} {d : Descent} (w : Within n d) (some : 0 < n) where
  ended_later : Later n (ended_of d)
  ended_later = record { moves = record { direction = w.direction; alpha = w.alpha; idle = omega (arith, w.idle); calls = omega (arith, w.calls) }; fewer = some }

  advanced_later : (sets : List ℕ) {m : ℕ} (left gap : ℕ) → m ≤ 8 → Later n (advanced_of d sets m left gap)
  unfolding advanced_of
  advanced_later sets {m} left gap l = record {
    moves = record { direction = adapt_direction _ _ _ sets m left gap _ w.direction l; alpha = w.alpha; idle = idle still; calls = calls still };
    fewer = fewer still;
  }
    where
      still : Bool
      still = (adapt_of d.weights d.direction (not d.moved) sets m left gap d.alpha).still

      fewer : (b : Bool) → cond b 0 (d.rounds - 1) < n
      fewer true = some
      fewer false = omega (arith, w.rounds)

      idle : (b : Bool) → d.idle + cond b 0 (d.rounds - 1) ≤ 256
      idle true = omega (arith, w.idle)
      idle false = omega (arith, w.idle, w.rounds)

      calls : (b : Bool) → d.calls + 4294967296 * cond b 0 (d.rounds - 1) < 18446744073709551616
      calls true = omega (arith, w.calls)
      calls false = omega (arith, w.calls, w.rounds)

pub after_later : {d : Descent} (pace : Pace) (sets : List ℕ) {m : ℕ} (left gap : ℕ) {calls : ℕ} {r : Descent} → Moves d → 0 < d.rounds → m ≤ 8 → calls < 4294967296
    → r ≡ after_of d pace sets m left gap calls → Later d.rounds r
unfolding after_of
after_later {d} pace sets {m} left gap {calls} w some l h e = subst (Later d.rounds) (sym e) (either (Later d.rounds) (ends_of next pace left gap) (ended_later v some) (advanced_later v some sets left gap l))
  where
    next : Descent
    next = turned_back_of (compared_of d gap calls) pace.patience

    v : Within d.rounds next
    v = turned_within pace.patience (compared_within gap w h)
