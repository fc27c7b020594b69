-- `put_head` meets its contract: the head of a placement, or of none.
use Rattle.partial.proofs.Naming.{names}
use mathlib.Core.Path.{subst}
use Rattle.search.specs.Steps.{HeadBy}
use Rattle.search.proofs.Writing.{names_list}
use Rattle.search.proofs.put_head.Goals as goal

pub placement_of-named-requires : goal.placement_of-named-requires
placement_of-named-requires c = let h = c.requires.0 in (h.tasks.most, h.processors.most)

pub returns-in-Some : goal.returns-in-Some
returns-in-Some c =
    let k = subst (HeadBy c.args.table) c.in-Some.is c.requires.1 in
    let a = names_list c.requires.0 k.0 (rw c.placement_of-named.ensures (names k.0 c.requires.0.tasks.most)) in
    rw (k.1 _ a.placement a.same) c.put_found.ensures

pub returns-in-None : goal.returns-in-None
returns-in-None c =
    rw (subst (HeadBy c.args.table) c.in-None.is c.requires.1) c.put_none.ensures
