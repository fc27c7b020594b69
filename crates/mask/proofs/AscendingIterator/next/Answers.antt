-- What the mask shares with the number before it is the mask without its lowest number, and a lower mask.
use borrow.Author.Rules.{rules}
use Rattle.mask.proofs.Laws.{lowest_is, remove_lt, clear_lowest}
use Rattle.mask.specs.Mask.{lowest_of}
use Rattle.mask.proofs.AscendingIterator.next.Goals as goal

pub returns-clause-steps : goal.returns-clause-steps
returns-clause-steps c = (search rules, c.lowest-k.ensures, rw c.lowest-k.ensures (clear_lowest 32 c.args.self.now.left (search rules) (search rules)))

pub returns-clause-goes : goal.returns-clause-goes
returns-clause-goes c =
    let left = c.args.self.now.left in
    let low = lowest_is 32 left (search rules) (search rules) in
    record { on = λ f. (tt, tt, rw (clear_lowest 32 left (search rules) (search rules)) (remove_lt left (lowest_of 32 left) low.member)); keeps = tt; rests = λ f. tt }
