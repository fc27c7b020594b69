-- What the search answers on a table that was read (01, "The search answer"; demand 3).
use Rattle.std.specs.Prelude.{◌≡◌, Bool, false, not, cond, ◌&&◌, List, ℕ, ◌^◌, ◌<◌, T, eqb, ltb, length, get_or, is_ok}
use Rattle.finite.specs.Finite.{some_below, first_below}
use Rattle.mask.specs.Mask.{has, within}
use Rattle.table.specs.declared.Table.{Table}
use Rattle.conflict.specs.Conflict.{Minimal}
use Rattle.timing.specs.Timing.{tasks_in}
use Rattle.rules.specs.Placement.{placed}
use Rattle.rules.specs.Rules.{residence_broken, first_broken}
use Rattle.rules.specs.Sets.{sets_of}
use Rattle.judge.specs.Judge.{judged_on, judgement_number}
use Rattle.answer.specs.Answer.{found_head, none_head}
use Rattle.goal.specs.Order.{placement_at}

-- how many placements there are
abbrev pub placements : Table → ℕ
placements t = t.processors.count ^ t.tasks.count

-- placement number i
abbrev pub nth : Table → ℕ → List ℕ
nth t i = placement_at t.tasks.count t.processors.count i

-- 01: it keeps the placement rules and has no late job: the judge answers 0
abbrev pub is_good : Table → List ℕ → Bool
is_good t q = eqb (judgement_number (judged_on t q)) 0

-- 01: the first is the one that is good where every earlier one is not; here its number, or the number of all placements where none is good.
-- So the placements with smaller numbers are those that 01 calls earlier; with `NO`, all of them.
unfoldable pub first_good : Table → ℕ
first_good t = first_below (placements t) (λ i. is_good t (nth t i))

-- 01: the head is `AL` and n processor bytes, or `NO` and n bytes 255
abbrev pub head_of : Table → List ℕ
head_of t = cond (ltb (first_good t) (placements t)) (found_head (nth t (first_good t))) (none_head t.tasks.count)

-- 01: 101 to 106 are the placement rules; here no task counts as late
unfoldable pub keeps_rules : Table → List ℕ → Bool
keeps_rules t q = is_ok (first_broken t (placed q) (λ k. false))

-- every task of q is in its residence, as a statement and as a test
abbrev pub Resides : Table → List ℕ → Type 0
Resides t q = (k : ℕ) → k < t.tasks.count → T (residence_broken t (placed q) k) → ⊥

unfoldable pub keeps_residence : Table → List ℕ → Bool
keeps_residence t q = not (some_below t.tasks.count (residence_broken t (placed q)))

-- all tasks of the conflict c stand on p
abbrev pub AllOn : List ℕ → ℕ → ℕ → Type 0
AllOn q c p = (k : ℕ) → T (has c k) → T (placed q k p)

-- they stand on one processor of the table, as a statement and as a test
abbrev pub OnOne : Table → List ℕ → ℕ → Type 0
OnOne t q c = (p : ℕ) × (p < t.processors.count) × AllOn q c p

unfoldable pub holds : Table → List ℕ → ℕ → Bool
holds t q c = some_below t.processors.count (λ p. within c (get_or (sets_of q) p 0))

-- q holds a listed conflict: all tasks of one stand on one processor
abbrev pub HoldsListed : Table → List ℕ → List ℕ → Type 0
HoldsListed t cs q = (j : ℕ) × (j < length cs) × OnOne t q (get_or cs j 0)

-- q keeps the placement rules and holds no listed conflict
unfoldable pub uncovered : Table → List ℕ → List ℕ → Bool
uncovered t cs q = keeps_rules t q && not (some_below (length cs) (λ j. holds t q (get_or cs j 0)))

-- 01: 1 complete: every earlier placement that keeps the rules holds a listed conflict; else 0, cut
unfoldable pub mark_of : Table → List ℕ → Bool
mark_of t cs = not (some_below (first_good t) (λ i. uncovered t cs (nth t i)))

-- what demand 3 says of the listed conflicts: all different, each minimal, each held by an earlier placement that keeps residence
pub record Listed (t : Table) (cs : List ℕ) : Type 0 where
  pub different : (i j : ℕ) → i < length cs → j < length cs → get_or cs i 0 ≡ get_or cs j 0 → i ≡ j
  pub minimal : (j : ℕ) → j < length cs → Minimal (tasks_in t) (get_or cs j 0)
  pub met : (j : ℕ) → j < length cs → T (some_below (first_good t) (λ i. keeps_residence t (nth t i) && holds t (nth t i) (get_or cs j 0)))
