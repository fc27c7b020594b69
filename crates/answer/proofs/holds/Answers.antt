-- `holds` meets its contract: what is read is the mask of the record.
use mathlib.Core.Path.{ap, ◌∙◌}
use Prim.Native.Nat.{ℕ}
use Rattle.mask.specs.Mask.{within}
use Rattle.answer.proofs.holds.Goals as goal

pub returns : goal.returns
returns c = c.subset.ensures ∙ ap (λ (m : ℕ). within m c.args.set) c.mask_at.ensures
