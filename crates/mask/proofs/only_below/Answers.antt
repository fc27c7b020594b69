-- Nothing is left above digit n exactly if the mask is below 2 ^ n.
use Rattle.mask.proofs.Laws.{none_above}
use Rattle.mask.proofs.only_below.Goals as goal

pub returns : goal.returns
returns c = none_above c.args.n c.args.mask
