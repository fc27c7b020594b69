-- `allows` meets its contract. Assumes nothing.
use mathlib.Core.Path.{◌≡◌, ap, ◌∙◌}
use mathlib.Core.Bool.{Bool}
use Prim.Native.Nat.{ℕ}
use Rattle.std.proofs.Common.{Option, Some, None}
use Rattle.std.specs.Option.{is_some}
use Rattle.schedule.specs.Arrays.{Says}
use Rattle.table.specs.declared.Table.{Table}
use Rattle.rules.specs.Placement.{and_task}
use Rattle.rules.specs.Rules.{Keeps}
use Rattle.rules.specs.Sets.{standing}
use Rattle.partial.specs.declared.State.{State}
use Rattle.partial.specs.Tests.{TrialOf}
use Rattle.partial.proofs.Deciding.{free_at, trial_right}
use Rattle.partial.proofs.allows.Goals as goal

says : (t : Table) (s : State) (k p : ℕ) (r : Option ℕ) → TrialOf t s k p r → {b : Bool} → b ≡ is_some r → Says b (Keeps t (and_task (standing s.on) k p))
says t s k p (Some added) w e = rw e w.keeps
says t s k p None w e = rw e w

pub returns : goal.returns
returns c =
    let a = c.args in (
      c.is_some.ensures ∙ ap (λ (r : Option ℕ). is_some r) c.attempt.ensures,
      λ t s l f e. says t s a.k a.p c.attempt.result (rw (c.attempt.ensures, e) (trial_right l f a.k a.p (free_at s a.k a.p e c.requires.1) c.requires.2)) c.is_some.ensures,
    )
