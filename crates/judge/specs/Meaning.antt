-- What the judge's answer means, in the words of 01 ("Judging a placement", "Refused input"), with the tick run of "Response and run" for 107.
use Rattle.std.specs.Prelude.{◌≡◌, ◌≢◌, ◌↔◌, Option, Some, Ok, Err, List, ℕ, ◌≤◌, ◌<◌, T, ℤ, pos, length, get_or}
use Rattle.verdict.specs.declared.Cause.{Cause}
use Rattle.verdict.specs.declared.Cause.TheVariants.{PlacementLength, UnknownProcessor}
use Rattle.table.specs.declared.Table.{Table}
use Rattle.table.specs.Refusal.{cause_number}
use Rattle.table.specs.Table.{read_of}
use Rattle.schedule.specs.Periodic.{LateTask}
use Rattle.schedule.specs.Response.{demand, Least}
use Rattle.schedule.specs.Margin.{MarginIs}
use Rattle.timing.specs.Timing.{tasks_in}
use Rattle.rules.specs.declared.Rule.{Rule}
use Rattle.rules.specs.declared.Rule.TheVariants.{Residence, CoResidence, Exclusion, Memory, Utilisation, Network, Deadline}
use Rattle.rules.specs.Placement.{placed}
use Rattle.rules.specs.Rules.{rule_number, concerned, residence_broken, co_residence_broken, exclusion_broken, memory_broken, utilisation_broken, network_broken}
use Rattle.judge.specs.declared.Judged.{Judged}
use Rattle.judge.specs.Judge.{PlacementOf, alongside, known_zero, Judgement, refused_judgement, judgement_number, concerned_of}
use Rattle.judge.specs.Good.{Good}

-- the file can be read, and P is true of its table
abbrev pub Reads : List ℕ → (Table → Type 0) → Type 0
Reads file P = (t : Table) × (read_of file ≡ Ok t) × P t

-- the placement is judged, and P is true of what is answered
abbrev pub Judges : Judgement → (Judged → Type 0) → Type 0
Judges r P = (j : Judged) × (r ≡ Ok j) × P j

-- 01: 14, a processor not in the file; the place is the index of the first such byte
pub record FirstUnknown (t : Table) (q : List ℕ) (k : ℕ) : Type 0 where
  pub long : length q ≡ t.tasks.count
  pub inside : k < length q
  pub unknown : t.processors.count ≤ get_or q k 0
  pub lowest : (j : ℕ) → j < k → t.processors.count ≤ get_or q j 0 → ⊥

-- 01: the file's own refusal; after the file is read 13, place 0, before 14
pub data JudgeRefuses (file q : List ℕ) : Cause → ℕ → Type 0 where
  unreadable : {cause : Cause} {place : ℕ} → read_of file ≡ Err (record { cause = cause; place = place }) → JudgeRefuses file q cause place
  wrong_length : Reads file (λ t. length q ≢ t.tasks.count) → JudgeRefuses file q PlacementLength 0
  unknown_processor : {k : ℕ} → Reads file (λ t. FirstUnknown t q k) → JudgeRefuses file q UnknownProcessor k

-- 01: how a rule is broken at the task, group or processor that its number concerns; 107: the task has a late job in the tick run of its processor
abbrev pub Breaks : Table → List ℕ → Rule → ℕ → Type 0
Breaks t q Residence k = T (residence_broken t (placed q) k)
Breaks t q CoResidence k = T (co_residence_broken t (placed q) k)
Breaks t q Exclusion k = T (exclusion_broken t (placed q) k)
Breaks t q Memory k = T (memory_broken t (placed q) k)
Breaks t q Utilisation k = T (utilisation_broken t (placed q) k)
Breaks t q Network k = T (network_broken t (placed q))
Breaks t q Deadline k = LateTask (tasks_in t) (alongside q k) k

-- 01: the first broken rule with the lowest number concerned: broken at k, at no lower number, and no rule before it is broken anywhere
pub record FirstBroken (t : Table) (q : List ℕ) (rule : Rule) (k : ℕ) : Type 0 where
  pub placement : PlacementOf t q
  pub within : k < concerned t rule
  pub breaks : Breaks t q rule k
  pub lowest : (j : ℕ) → j < k → Breaks t q rule j → ⊥
  pub first : (before : Rule) → rule_number before < rule_number rule → (j : ℕ) → j < concerned t before → Breaks t q before j → ⊥

-- 01: n responses, one for each task: the least solution of the response equation, or 0 where that is above D or there is none; places beyond n hold 0
pub record Responses (t : Table) (q responses : List ℕ) : Type 0 where
  pub long : length responses ≡ 24
  pub least : (k : ℕ) → k < t.tasks.count → Least (demand (tasks_in t) (alongside q k) k) ((tasks_in t).D k) (get_or responses k 0)
  pub beyond : (k : ℕ) → t.tasks.count ≤ k → get_or responses k 0 ≡ 0

-- 02: n margins, one for each task: deadline minus the least solution, while that is at most the period; else beyond. Places past the n tasks hold a known 0.
pub record Margins (t : Table) (q : List ℕ) (margins : List (Option ℤ)) : Type 0 where
  pub long : length margins ≡ 24
  pub right : (k : ℕ) → k < t.tasks.count → MarginIs (demand (tasks_in t) (alongside q k) k) ((tasks_in t).D k) ((tasks_in t).T k) (get_or margins k known_zero)
  pub past : (k : ℕ) → t.tasks.count ≤ k → get_or margins k known_zero ≡ known_zero

-- what the judge answers on a file and a placement
pub record JudgeMeans (file q : List ℕ) (r : Judgement) : Type 0 where
  -- the answer is 0 exactly if the file is read and the placement keeps the rules and has no late job
  pub kept : (judgement_number r ≡ 0) ↔ Reads file (λ t. Good t q)
  -- it is a rule's number, and k the number concerned, exactly if that rule is the first broken one, and k the lowest number at which it is broken
  pub broken : (rule : Rule) (k : ℕ) → ((judgement_number r ≡ rule_number rule) × (concerned_of r ≡ k)) ↔ Reads file (λ t. FirstBroken t q rule k)
  -- it is a cause's number, with its place, exactly if that is the first cause to refuse the call
  pub refused : (cause : Cause) (place : ℕ) → ((judgement_number r ≡ cause_number cause) × (concerned_of r ≡ place)) ↔ JudgeRefuses file q cause place
  -- beside answer 0 the number concerned is 0, and beside 106
  pub kept_zero : judgement_number r ≡ 0 → concerned_of r ≡ 0
  pub network_zero : judgement_number r ≡ 106 → concerned_of r ≡ 0
  -- beside the answer, for every placement that isn't refused, whatever rules it breaks, stand the responses and the margins
  pub responses : (read : Reads file (λ t. PlacementOf t q)) → Judges r (λ j. Responses read.0 q j.responses)
  pub margins : (read : Reads file (λ t. PlacementOf t q)) → Judges r (λ j. Margins read.0 q j.margins)
  -- beside answer 0 every margin is known and at least 0
  pub kept_margins : judgement_number r ≡ 0 → Judges r (λ j. (k : ℕ) → (x : ℕ) × (get_or j.margins k known_zero ≡ Some (pos x)))
  -- a refusal has neither responses nor margins
  pub nothing : {cause : Cause} {place : ℕ} → JudgeRefuses file q cause place → r ≡ refused_judgement cause place
