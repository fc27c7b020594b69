-- `mask_at` meets its contract: the word that is read is the mask of the record.
use Rattle.answer.proofs.mask_at.Goals as goal

pub returns : goal.returns
returns c = c.word_at.ensures
