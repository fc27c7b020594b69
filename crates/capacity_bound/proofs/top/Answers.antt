-- `top` meets its contract. Assumes nothing.
use Rattle.capacity_bound.proofs.Weighted.{lower_is, weight_among, top_all, top_room}
use Rattle.capacity_bound.proofs.top.Goals as goal

pub returns-in-Load : goal.returns-in-Load
returns-in-Load c = top_room _ _ (weight_among c.args.weighting.now.weights _ c.requires c.total-all.ensures.0) (λ w u v. u c.in-Load.is) c.total-all.ensures.1 (lower_is _ _ c.lower.ensures)

pub returns-in-Memory : goal.returns-in-Memory
returns-in-Memory c =
    top_room _ _ (weight_among c.args.weighting.now.weights _ c.requires c.total-all.ensures.0) (λ w u v. v c.in-Memory.is) c.total-all.ensures.1 (lower_is _ _ c.lower-in-Memory.ensures)

pub returns-in_default : goal.returns-in_default
returns-in_default c = top_all _ _ (weight_among c.args.weighting.now.weights _ c.requires c.total-all.ensures.0) c.total-all.ensures.1
