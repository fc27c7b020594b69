-- `group_verdict` meets its contract. Assumes nothing.
use mathlib.Core.Path.{◌∙◌, ap}
use mathlib.Core.Bool.{not}
use native.Mathlib.Omega.{arith}
use lib.ListN.{get_or}
use Rattle.layout.specs.declared.Kind.TheVariants.{Task}
use Rattle.verdict.proofs.Tests.{group_by}
use Rattle.verdict.proofs.group_verdict.Goals as goal

pub is_group-requires : goal.is_group-requires
is_group-requires c = omega (arith, c.requires.0.counted.few Task)

pub returns-then-not-is_group : goal.returns-then-not-is_group
returns-then-not-is_group c =
    simp (← c.word_at.ensures, group_by (get_or c.args.x.counts 2 0) c.word_at.result c.is_group.ensures ∙ ap not c.if-not-is_group.true)

pub returns : goal.returns
returns c =
    simp (← c.word_at.ensures, group_by (get_or c.args.x.counts 2 0) c.word_at.result c.is_group.ensures ∙ ap not c.if-not-is_group.false)
