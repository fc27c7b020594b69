-- 01's numbers of the causes: they go from 1 to 15, and no two causes share one. Assumes nothing.
use mathlib.Core.Path.{◌≡◌, refl, sym, ap, ◌∙◌}
use mathlib.Core.List.{List, [], ◌∷◌}
use Prim.Native.Nat.{ℕ, ◌-◌, ◌≤◌}
use native.Mathlib.Omega.{arith}
use lib.ListN.{get_or}
use Rattle.verdict.specs.declared.Cause.{Cause}
use Rattle.verdict.specs.declared.Cause.TheVariants.{Cut, UnknownMark, OutOfOrder, TooMany, OutOfRange, NotInFile, PriorityUsed, PeriodsDiffer}
use Rattle.verdict.specs.declared.Cause.TheVariants.{MessageRepeated, HyperperiodTooLarge, Missing, ShortAnswer, PlacementLength, UnknownProcessor, NoConflictMask}
use Rattle.table.specs.Refusal.{cause_number}

causes : List Cause
causes = Cut ∷ UnknownMark ∷ OutOfOrder ∷ TooMany ∷ OutOfRange ∷ NotInFile ∷ PriorityUsed ∷ PeriodsDiffer ∷ MessageRepeated ∷ HyperperiodTooLarge ∷ Missing ∷ ShortAnswer ∷ PlacementLength ∷ UnknownProcessor ∷ NoConflictMask ∷ []

-- each stands in its place
numbered : (c : Cause) → (get_or causes (cause_number c - 1) Cut ≡ c) × (1 ≤ cause_number c) × (cause_number c ≤ 15)
unfolding causes
numbered Cut = (refl, omega arith, omega arith)
numbered UnknownMark = (refl, omega arith, omega arith)
numbered OutOfOrder = (refl, omega arith, omega arith)
numbered TooMany = (refl, omega arith, omega arith)
numbered OutOfRange = (refl, omega arith, omega arith)
numbered NotInFile = (refl, omega arith, omega arith)
numbered PriorityUsed = (refl, omega arith, omega arith)
numbered PeriodsDiffer = (refl, omega arith, omega arith)
numbered MessageRepeated = (refl, omega arith, omega arith)
numbered HyperperiodTooLarge = (refl, omega arith, omega arith)
numbered Missing = (refl, omega arith, omega arith)
numbered ShortAnswer = (refl, omega arith, omega arith)
numbered PlacementLength = (refl, omega arith, omega arith)
numbered UnknownProcessor = (refl, omega arith, omega arith)
numbered NoConflictMask = (refl, omega arith, omega arith)

pub cause_range : (c : Cause) → (1 ≤ cause_number c) × (cause_number c ≤ 15)
cause_range c = let r = numbered c in (r.1, r.2)

pub same_cause : (a b : Cause) → cause_number a ≡ cause_number b → a ≡ b
same_cause a b e = sym (numbered a).0 ∙ ap (λ (n : ℕ). get_or causes (n - 1) Cut) e ∙ (numbered b).0
