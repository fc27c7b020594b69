-- The tests against a record, by what the code compares. Assumes nothing.
use mathlib.Core.Path.{◌≡◌, refl, sym, ap, ◌∙◌}
use mathlib.Core.Bool.{Bool, true, false, not, ◌&&◌, ◌||◌}
use mathlib.Core.List.{List}
use Prim.Native.Nat.{ℕ, ◌+◌, ◌*◌, ◌<◌}
use native.Mathlib.Omega.{arith}
use native.Mathlib.Decide.{ℕ_discrete}
use borrow.Author.Tests.{eq-eqb, ne_eqb}
use lib.Dec.{eqb, leb}
use Rattle.finite.specs.Finite.{some_below}
use Rattle.finite.proofs.Some.{some_ext}
use Rattle.mask.specs.Mask.{below, cardinality}
use Rattle.wire.specs.Wire.{number, Bytes}
use Rattle.wire.proofs.Laws.{number_add, number_lt}
use Rattle.layout.specs.declared.Kind.TheVariants.{Task, Message}
use Rattle.layout.specs.declared.Progress.{Progress}
use Rattle.layout.specs.Format.{period, sender, receiver, count, place}
use Rattle.verdict.specs.Faults.{bad_group, periods_differ, message_repeated}

pub group_by : (n g : ℕ) {b : Bool} → b ≡ (below n g && leb 2 (cardinality 32 g)) → bad_group n g ≡ not b
unfolding bad_group
group_by n g e = rw e (go (below n g) (leb 2 (cardinality 32 g)))
  where
    go : (a b : Bool) → (not a || not b) ≡ not (a && b)
    go true b = refl
    go false b = refl

pub periods_by : (s : List ℕ) (at : ℕ) (x : Progress) {from to p q : ℕ} → from ≡ sender s at → to ≡ receiver s at
    → p ≡ period s (place x Task from) → q ≡ period s (place x Task to) → periods_differ s at x Message ≡ not (eqb p q)
unfolding periods_differ
periods_by s at x f g h i = rw (h, i, f, g)

-- two messages have one pair if their two bytes of sender and receiver are one number
same_pair : (a b c d : ℕ) → a < 256 → c < 256 → eqb (a + 256 * b) (c + 256 * d) ≡ (eqb a c && eqb b d)
same_pair a b c d l m = go (ℕ_discrete a c) (ℕ_discrete b d)
  where
    go : Dec (a ≡ c) → Dec (b ≡ d) → eqb (a + 256 * b) (c + 256 * d) ≡ (eqb a c && eqb b d)
    go (yes e) (yes f) = rw (eq-eqb (a + 256 * b) (c + 256 * d) (omega arith), eq-eqb a c e, eq-eqb b d f)
    go (yes e) (no f) = rw (ne_eqb (a + 256 * b) (c + 256 * d) (λ h. f (omega arith)), eq-eqb a c e, ne_eqb b d f)
    go (no e) f = rw (ne_eqb (a + 256 * b) (c + 256 * d) (λ h. e (omega arith)), ne_eqb a c e)

pair_number : (s : List ℕ) (p : ℕ) → number s (p + 2) 2 ≡ sender s p + 256 * receiver s p
pair_number s p = number_add s (p + 2) 1 1 ∙ ap (λ (z : ℕ). number s (p + 2) 1 + 256 * number s z 1) (omega arith)

pub message_by : (s : List ℕ) (at : ℕ) (x : Progress) → Bytes s → {b : Bool}
    → b ≡ some_below (count x Message) (λ j. eqb (number s (place x Message j + 2) 2) (number s (at + 2) 2)) → message_repeated s at x Message ≡ b
unfolding message_repeated
message_by s at x bytes h =
    sym (h ∙ some_ext _ _ _ (λ j l. rw (pair_number s (place x Message j), pair_number s at) (same_pair _ _ _ _ (number_lt s _ 1 bytes) (number_lt s _ 1 bytes))))
