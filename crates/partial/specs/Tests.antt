-- What the code tests before it puts task k on processor p, from the lent rows and masks alone.
use Rattle.std.specs.Prelude.{Bool, not, ◌&&◌, ◌||◌, cond, Option, Some, None, ◌≡◌, ℕ, ◌+◌, ◌-◌, ◌≤◌, ◌<◌, eqb, leb, get_or, set}
use Rattle.finite.specs.Finite.{only, sum_to}
use Rattle.mask.specs.Mask.{has, insert_of, remove_of, mask_of}
use Rattle.table.specs.declared.Table.{Table}
use Rattle.rules.specs.Placement.{and_task}
use Rattle.rules.specs.Rules.{Keeps, traffic}
use Rattle.rules.specs.Sets.{standing, meets}
use Rattle.partial.specs.declared.State.{State}
use Rattle.partial.specs.declared.Sizes.{Sizes}
use Rattle.partial.specs.declared.Site.{Site}
use Rattle.partial.specs.Partial.{site_of}
use Rattle.rows.specs.declared.Rows.{Rows}
use Rattle.rows.specs.declared.Messages.{Messages}

-- the tasks below n that are in neither set
unfoldable pub neither : ℕ → ℕ → ℕ → ℕ
neither n a b = mask_of n (λ j. not (has b j || has a j))

-- the task's processor, its memory and its load fit what p has left, and no task on p is excluded from it
unfoldable pub suits : Rows → Site → ℕ → ℕ → Bool
suits rows site k p =
    (has (get_or rows.residence k 0) p && leb (get_or rows.memory k 0) site.memory)
    && (leb (get_or rows.load k 0) site.load && not (meets (get_or rows.exclusions k 0) site.on))

-- a message goes between task k and one of the others
abbrev pub joins : ℕ → ℕ → ℕ → ℕ → Bool
joins k others from to = (eqb from k && has others to) || (eqb to k && has others from)

-- what such messages amount to
unfoldable pub between : Messages → ℕ → ℕ → ℕ → ℕ
between links count k others = sum_to count (λ j. only (joins k others (get_or links.sender j 0) (get_or links.receiver j 0)) (get_or links.amount j 0))

-- the trial of task k on processor p, what it adds to the network: allowed where the processor suits it, none of its partners stands on another,
-- and the network carries what it adds
unfoldable pub trial_of : Rows → Messages → Sizes → Site → ℕ → ℕ → Option ℕ
trial_of rows links sizes site k p =
    let others = neither sizes.tasks site.left site.on in
    let added = between links sizes.messages k others in
    cond (suits rows site k p && not (meets (get_or rows.partners k 0) others)) (cond (leb added site.traffic) (Some added) None) None

-- messages between tasks, small enough that their sum fits
pub record SmallMessages (links : Messages) (count : ℕ) : Type 0 where
  pub few : count ≤ 64
  pub from_task : (j : ℕ) → j < count → get_or links.sender j 0 < 24
  pub to_task : (j : ℕ) → j < count → get_or links.receiver j 0 < 24
  pub small : (j : ℕ) → j < count → get_or links.amount j 0 ≤ 1000000000000000

-- the rules are kept with task k on p, and it adds so much to the network
pub record Tried (t : Table) (s : State) (k p added : ℕ) : Type 0 where
  pub keeps : Keeps t (and_task (standing s.on) k p)
  pub traffic : traffic t (and_task (standing s.on) k p) ≡ traffic t (standing s.on) + added

-- the rules would be broken with task k on p, or they are kept
abbrev pub TrialOf : Table → State → ℕ → ℕ → Option ℕ → Type 0
TrialOf t s k p None = Keeps t (and_task (standing s.on) k p) → ⊥
TrialOf t s k p (Some added) = Tried t s k p added

-- the state with task k on p, where it takes so much memory and load, and so much of the network. What may stand where is as it was.
abbrev pub with_task : State → ℕ → ℕ → ℕ → ℕ → ℕ → State
with_task s k p memory load added = record {
  on = set s.on p (insert_of (get_or s.on p 0) k);
  left = remove_of s.left k;
  may = s.may;
  memory = set s.memory p (get_or s.memory p 0 - memory);
  load = set s.load p (get_or s.load p 0 - load);
  traffic = s.traffic - added;
}

-- it takes no more than there is
pub record Enough (s : State) (p memory load added : ℕ) : Type 0 where
  pub enough_memory : memory ≤ get_or s.memory p 0
  pub enough_load : load ≤ get_or s.load p 0
  pub enough_traffic : added ≤ s.traffic

-- the state with the task, where a trial allowed it
abbrev pub step_after : State → ℕ → ℕ → ℕ → ℕ → Option ℕ → Option State
step_after s k p memory load None = None
step_after s k p memory load (Some added) = Some (with_task s k p memory load added)

-- the step of task k to processor p
abbrev pub step_of : Rows → Messages → Sizes → State → ℕ → ℕ → Option State
step_of rows links sizes s k p = step_after s k p (get_or rows.memory k 0) (get_or rows.load k 0) (trial_of rows links sizes (site_of s p) k p)
