-- `search` meets its contract: the file's refusal, or what the search on its table leaves.
use mathlib.Core.Path.{refl, sym}
use borrow.Author.Rules.{rules}
use Rattle.std.proofs.lemmas.Result.{err_from_is_err_and}
use Rattle.table.proofs.Sound.{read_sound}
use Rattle.search.proofs.search.Goals as goal

pub search_table-requires : goal.search_table-requires
search_table-requires c = read_sound _ (search rules) (sym c.in_ok-read.ensures)

pub returns-in_err-read : goal.returns-in_err-read
returns-in_err-read c =
    let p = err_from_is_err_and c.from_residual.result c.from_residual.ensures.1 in
    rw (p.1, p.2, ← c.in_err-read.ensures) (refl, refl)

pub returns : goal.returns
returns c = rw (← c.in_ok-read.ensures) c.search_table.ensures
