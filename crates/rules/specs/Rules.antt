-- The rules of 01, "Judging a placement", of a placement `on`: for each, what its number concerns and how it is broken; and their order.
use Rattle.std.specs.Prelude.{Bool, not, ◌&&◌, ◌||◌, cond, Result, Ok, Err, ℕ, ◌*◌, ◌/◌, ◌<◌, T, ltb, eqb, get_or}
use Rattle.std.specs.Result.{result_and}
use Rattle.finite.specs.Finite.{only, sum_to, some_below, first_below}
use Rattle.mask.specs.Mask.{has}
use Rattle.table.specs.declared.Table.{Table}
use Rattle.rules.specs.declared.Rule.{Rule}
use Rattle.rules.specs.declared.Rule.TheVariants.{Residence, CoResidence, Exclusion, Memory, Utilisation, Network, Deadline}
use Rattle.rules.specs.declared.Broken.{Broken}
use Rattle.rules.specs.Placement.{elsewhere, apart, together, some_pair}

-- 01: 101 residence (task): its processor isn't in its mask
unfoldable pub residence_broken : Table → (ℕ → ℕ → Bool) → ℕ → Bool
residence_broken t on k = some_below t.processors.count (λ p. on k p && not (has (get_or t.tasks.residence k 0) p))

-- 01: 102 co-residence (group): two of its tasks stand on different processors
unfoldable pub co_residence_broken : Table → (ℕ → ℕ → Bool) → ℕ → Bool
co_residence_broken t on g = some_pair t.tasks.count (get_or t.co.mask g 0) (λ i j. apart t.processors.count (on i) (on j))

-- 01: 103 exclusion (group): two of its tasks stand on the same one; for pairs of different tasks
unfoldable pub exclusion_broken : Table → (ℕ → ℕ → Bool) → ℕ → Bool
exclusion_broken t on g = some_pair t.tasks.count (get_or t.ex.mask g 0) (λ i j. not (eqb i j) && together t.processors.count (on i) (on j))

-- 01: 104 memory (processor): the sum exceeds its memory
unfoldable pub memory_on : Table → (ℕ → ℕ → Bool) → ℕ → ℕ
memory_on t on p = sum_to t.tasks.count (λ k. only (on k p) (get_or t.tasks.memory k 0))

unfoldable pub memory_broken : Table → (ℕ → ℕ → Bool) → ℕ → Bool
memory_broken t on p = ltb (get_or t.processors.memory p 0) (memory_on t on p)

-- 01: a load is the work in one hyperperiod, the sum of C × H / T
unfoldable pub load_on : Table → (ℕ → ℕ → Bool) → ℕ → ℕ
load_on t on p = sum_to t.tasks.count (λ k. only (on k p) (get_or t.tasks.c k 0 * t.hyperperiod / get_or t.tasks.t k 0))

-- 01: 105 utilisation (processor): 1000 × the sum of C × H / T exceeds limit × H
unfoldable pub utilisation_broken : Table → (ℕ → ℕ → Bool) → ℕ → Bool
utilisation_broken t on p = ltb (get_or t.processors.limit p 0 * t.hyperperiod) (1000 * load_on t on p)

-- message j has its two tasks on different processors
abbrev pub crosses : Table → (ℕ → ℕ → Bool) → ℕ → Bool
crosses t on j = apart t.processors.count (on (get_or t.messages.sender j 0)) (on (get_or t.messages.receiver j 0))

-- it has them so by task k on p: one of them is k, and the other stands elsewhere
abbrev pub crosses_by : Table → (ℕ → ℕ → Bool) → ℕ → ℕ → ℕ → Bool
crosses_by t on k p j =
    (eqb (get_or t.messages.sender j 0) k && elsewhere t.processors.count p (on (get_or t.messages.receiver j 0)))
    || (eqb (get_or t.messages.receiver j 0) k && elsewhere t.processors.count p (on (get_or t.messages.sender j 0)))

-- the work of message j for the network in one hyperperiod, amount × H / T; both tasks have the same period
abbrev pub amount_of : Table → ℕ → ℕ
amount_of t j = get_or t.messages.amount j 0 * t.hyperperiod / get_or t.tasks.t (get_or t.messages.sender j 0) 0

-- 01: 106 network (no number, 0): over messages whose two tasks are on different processors, the sum of amount × H / T exceeds capacity × H
unfoldable pub traffic : Table → (ℕ → ℕ → Bool) → ℕ
traffic t on = sum_to t.messages.count (λ j. only (crosses t on j) (amount_of t j))

unfoldable pub network_broken : Table → (ℕ → ℕ → Bool) → Bool
network_broken t on = ltb (t.capacity * t.hyperperiod) (traffic t on)

-- 01: 101 to 106 are the placement rules; a placement keeps each rule that it doesn't break
pub record Keeps (t : Table) (on : ℕ → ℕ → Bool) : Type 0 where
  pub residence : (k : ℕ) → k < t.tasks.count → T (residence_broken t on k) → ⊥
  pub co_residence : (g : ℕ) → g < t.co.count → T (co_residence_broken t on g) → ⊥
  pub exclusion : (g : ℕ) → g < t.ex.count → T (exclusion_broken t on g) → ⊥
  pub memory : (p : ℕ) → p < t.processors.count → T (memory_broken t on p) → ⊥
  pub utilisation : (p : ℕ) → p < t.processors.count → T (utilisation_broken t on p) → ⊥
  pub network : T (network_broken t on) → ⊥

-- 01's number of a rule
abbrev pub rule_number : Rule → ℕ
rule_number Residence = 101
rule_number CoResidence = 102
rule_number Exclusion = 103
rule_number Memory = 104
rule_number Utilisation = 105
rule_number Network = 106
rule_number Deadline = 107

-- how many numbers a rule concerns: the tasks, groups or processors; 106 has the number 0 alone
abbrev pub concerned : Table → Rule → ℕ
concerned t Residence = t.tasks.count
concerned t CoResidence = t.co.count
concerned t Exclusion = t.ex.count
concerned t Memory = t.processors.count
concerned t Utilisation = t.processors.count
concerned t Network = 1
concerned t Deadline = t.tasks.count

-- the rule is broken at a number; `late` tells the tasks that miss their deadlines (01: 107 deadline (task))
abbrev pub broken : Table → (ℕ → ℕ → Bool) → (ℕ → Bool) → Rule → ℕ → Bool
broken t on late Residence k = residence_broken t on k
broken t on late CoResidence k = co_residence_broken t on k
broken t on late Exclusion k = exclusion_broken t on k
broken t on late Memory k = memory_broken t on k
broken t on late Utilisation k = utilisation_broken t on k
broken t on late Network k = network_broken t on
broken t on late Deadline k = late k

-- what a check finds: nothing, or a broken rule with the lowest number concerned
abbrev pub Check : Type 0
Check = Result (Unit {0}) Broken

-- the rule is broken, with the number k
abbrev pub broken_with : Rule → ℕ → Check
broken_with rule k = Err (record { rule = rule; number = k })

-- broken with the number k, the lowest concerned; where that is beyond the n numbers the rule is kept
abbrev pub broken_at : Rule → ℕ → ℕ → Check
broken_at rule n k = cond (ltb k n) (broken_with rule k) (Ok tt)

unfoldable pub check_rule : Table → (ℕ → ℕ → Bool) → (ℕ → Bool) → Rule → Check
check_rule t on late rule = broken_at rule (concerned t rule) (first_below (concerned t rule) (broken t on late rule))

-- 01: the first broken rule with the lowest number concerned; where a rule is kept the next rules decide
unfoldable pub first_broken : Table → (ℕ → ℕ → Bool) → (ℕ → Bool) → Check
first_broken t on late =
    result_and (check_rule t on late Residence)
    (result_and (check_rule t on late CoResidence)
    (result_and (check_rule t on late Exclusion)
    (result_and (check_rule t on late Memory)
    (result_and (check_rule t on late Utilisation)
    (result_and (check_rule t on late Network)
    (check_rule t on late Deadline))))))
