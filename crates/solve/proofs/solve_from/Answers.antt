-- A good placement is found, and the search for the first one begins with it; or there is none, and the conflicts are listed.
use Rattle.solve.proofs.Solving.{start_deciding, start_listing, start_placing, solved_found, solved_none}
use Rattle.solve.proofs.solve_from.Goals as goal

pub decide-requires : goal.decide-requires
decide-requires c = let a = c.requires.0 in (a.0, a.1, start_deciding a.1.rules.sound a.2, a.3)

pub first-reached-requires : goal.first-reached-requires
first-reached-requires c =
    let a = c.requires.0 in
    let h = a.1.rules.sound in
    let x = c.in-Some.ensures a.0 a.1 (start_deciding h a.2) a.3 in
    (a.0, a.1, start_placing h a.2 c.args.list.now c.requires.1 x.0, x.1)

pub returns-in-Some : goal.returns-in-Some
returns-in-Some c =
    λ t l w k. let h = l.rules.sound in
    let x = c.in-Some.ensures t l (start_deciding h w) k in
    solved_found h w c.args.list.now c.requires.1 c.first-reached.result (c.first-reached.ensures t l (start_placing h w c.args.list.now c.requires.1 x.0) x.1).0

pub cover-listed-requires : goal.cover-listed-requires
cover-listed-requires c =
    let a = c.requires.0 in
    let h = a.1.rules.sound in
    let x = c.in_default.ensures a.0 a.1 (start_deciding h a.2) a.3 in
    (a.0, a.1, (start_listing h a.2 c.args.list.now c.requires.1, x.0), x.1)

pub returns : goal.returns
returns c =
    λ t l w k. let h = l.rules.sound in
    let x = c.in_default.ensures t l (start_deciding h w) k in
    solved_none h w c.args.list.now c.requires.1 x.0 c.cover-listed.result (c.cover-listed.ensures t l (start_listing h w c.args.list.now c.requires.1, x.0) x.1).0
