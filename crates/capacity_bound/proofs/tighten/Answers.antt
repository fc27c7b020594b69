-- The bound of an earlier processor that can take just what p can, or by packing.
use mathlib.Core.Path.{sym, ◌∙◌}
use mathlib.Core.Bool.{false≢true}
use native.Mathlib.Omega.{arith}
use Rattle.capacity_bound.proofs.Weighted.{lower_is}
use Rattle.capacity_bound.proofs.Tightening.{tight_like}
use Rattle.capacity_bound.proofs.tighten.Goals as goal

pub returns-then-r-p : goal.returns-then-r-p
returns-then-r-p c =
    let z = c.requires in (
      λ t l w m. (
        tight_like w.holds (rw (← l.rules.processors) z.2) w.nogoods (omega (arith, l.rules.processors, z.2, c.like-r.ensures.0)) (c.like-r.ensures.1 c.if-r-p.true) (lower_is _ _ c.lower.ensures),
        m,
      ),
      omega arith,
    )

pub pack-requires : goal.pack-requires
pack-requires c =
    let z = c.requires in
    ((z.0.0, z.0.1, z.0.2, z.0.3.knows), z.2)

pub returns-then-mode : goal.returns-then-mode
returns-then-mode c = let x = c.pack.ensures in (λ t l w m. let a = x.0 t l w m.knows in (a.0, record { knows = a.1; keeps = m.keeps }), x.1)

pub pack_once-requires : goal.pack_once-requires
pack_once-requires c =
    let z = c.requires in
    (z.0, z.1, z.2, c.if-mode.false, λ e. false≢true (sym c.if-eq.false ∙ (rw e at c.eq.ensures)))

pub returns : goal.returns
returns c = c.pack_once.ensures
