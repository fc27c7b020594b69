-- What a processor can take of the open tasks, beside those that it has; and a bound on their weight.
use Rattle.std.specs.Prelude.{◌≡◌, Bool, ◌&&◌, ◌||◌, List, ℕ, ◌+◌, ◌-◌, ◌≤◌, T, eqb, leb, get_or}
use Rattle.std.specs.Int.Bits.{bit_and}
use Rattle.mask.specs.Mask.{has, below, Subset, remove_of, sum_over}
use Rattle.schedule.specs.Periodic.{Tasks}
use Rattle.schedule.specs.Arrays.{tasks_of, InLimits}
use Rattle.nogoods.specs.declared.Mode.{Mode}
use Rattle.nogoods.specs.Nogoods.{Nogoods, Extended, Bad}
use Rattle.knapsack.specs.declared.Pack.{Pack}
use Rattle.knapsack.specs.declared.Packed.{Packed}
use Rattle.schedule.specs.declared.Timing.{Timing}

-- the sum of the row's numbers of the tasks in the set
abbrev pub weight_of : ℕ → List ℕ → ℕ → ℕ
weight_of n column set = sum_over n set (λ k. get_or column k 0)

-- task k fits what is left of memory (space) and load (spare), and none of the tasks there is excluded from it
abbrev pub has_room : List ℕ → List ℕ → List ℕ → ℕ → ℕ → ℕ → ℕ → Bool
has_room memory exclusions loads on space spare k =
    (leb (get_or memory k 0) space && leb (get_or loads k 0) spare) && eqb (bit_and (get_or exclusions k 0) on) 0

-- the tasks of two sets
abbrev pub joined : ℕ → ℕ → ℕ → Bool
joined on x k = has on k || has x k

-- the tasks x can join those on a processor: memory and load suffice, no two are excluded from each other, and all of them are no set of the kind B
pub record Takes (n : ℕ) (memory exclusions loads : List ℕ) (B : (ℕ → Bool) → Type 0) (on space spare x : ℕ) : Type 0 where
  pub enough_memory : weight_of n memory x ≤ space
  pub enough_load : weight_of n loads x ≤ spare
  pub apart : (j k : ℕ) → T (has x k) → T (joined on x j) → T (has (get_or exclusions k 0) j) → ⊥
  pub clear : B (joined on x) → ⊥

-- what the calculation begins with: tasks within the limits, on the processor and candidates for it, and the list of conflicts
pub record Packs (n : ℕ) (timing : Timing) (pack : Pack) (list : List ℕ) (count : ℕ) : Type 0 where
  pub limits : InLimits n timing pack.on
  pub tasks : T (below n pack.candidates)
  pub nogoods : Nogoods (tasks_of n timing) list count

-- what a call begins with: the same processor and candidates, of which no more are tried, and a best that is no less
pub record Begun (pack left : Pack) : Type 0 where
  pub on : left.on ≡ pack.on
  pub candidates : left.candidates ≡ pack.candidates
  pub space : left.space ≡ pack.space
  pub spare : left.spare ≡ pack.spare
  pub weight : left.weight ≡ pack.weight
  pub reach : left.reach ≡ pack.reach
  pub stop : left.stop ≡ pack.stop
  pub no_more : 24 - left.at ≤ 24 - pack.at
  pub no_less : pack.best ≤ left.best

-- c holds only tasks that stand on the processor or are candidates for it
abbrev pub Among : Pack → ℕ → Type 0
Among pack c = (k : ℕ) → T (has c k) → T (joined pack.on pack.candidates k)

-- a bound on the weight of what can be taken: of any such x among the candidates that comes to no more than `stop`
pub record PackedAs (n : ℕ) (s : Tasks) (mode : Mode) (memory exclusions loads weights : List ℕ) (pack : Pack) (old : List ℕ) (before : ℕ) (new : List ℕ) (r : Packed) : Type 0
  where
    pub list : Extended (Among pack) s old before new r.count
    pub no_less : pack.best ≤ r.most
    pub bounds : (x : ℕ) → Takes n memory exclusions loads (Bad s mode.listing new r.count) pack.on pack.space pack.spare x → Subset x pack.candidates
        → pack.weight + weight_of n weights x ≤ pack.stop → pack.weight + weight_of n weights x ≤ r.most

-- the same of those x that have the candidate k, beside the other candidates
pub record TakenAs (n : ℕ) (s : Tasks) (mode : Mode) (memory exclusions loads weights : List ℕ) (pack : Pack) (k : ℕ) (old : List ℕ) (before : ℕ) (new : List ℕ) (r : Packed)
    : Type 0 where
  pub list : Extended (λ c. (j : ℕ) → T (has c j) → T (eqb j k || joined pack.on pack.candidates j)) s old before new r.count
  pub no_less : pack.best ≤ r.most
  pub bounds : (x : ℕ) → Takes n memory exclusions loads (Bad s mode.listing new r.count) pack.on pack.space pack.spare x → T (has x k) → Subset (remove_of x k) pack.candidates
      → pack.weight + weight_of n weights x ≤ pack.stop → pack.weight + weight_of n weights x ≤ r.most
