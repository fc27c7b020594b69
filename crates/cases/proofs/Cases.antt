-- 01's starred cases and 02's examples hold: one theorem, by computation from the bytes of the files. Assumes nothing.
use mathlib.Core.Path.{◌≡◌, refl, subst}
use mathlib.Core.List.{List, [], ◌∷◌}
use Prim.Native.Nat.{ℕ}
use native.Mathlib.Omega.{arith}
use lib.Dec.{T}
use Rattle.std.specs.Prelude.{Ok}
use Rattle.std.specs.Result.{result_unwrap_or}
use Rattle.finite.specs.Finite.{some_below, sum_to, first_from, first_below, tabulate}
use Rattle.mask.specs.Mask.{has, below}
use Rattle.lcm.specs.Lcm.{lcm, lcm_to}
use Rattle.wire.specs.Wire.{little, number, bytes, mark_at, pieces}
use Rattle.layout.specs.Format.{kind_at, bytes_of, place_in}
use Rattle.verdict.specs.Faults.{verdict, record_verdict, content_verdict, hyperperiod_too_large, message_repeated, periods_differ, priority_used, not_in_file, bad_pair, bad_group, bad_residence, out_of_range, too_many, out_of_order, record_cut, mark_cut}
use Rattle.table.specs.declared.Table.{Table}
use Rattle.table.specs.Scan.{scan_of, scan_from, at_end, missing}
use Rattle.table.specs.Table.{column, read_of, table_of}
use Rattle.table.specs.Encode.{encode, encode_record, field_bytes}
use Rattle.table.specs.Sound.{Sound}
use Rattle.table.proofs.Sound.{read_sound}
use Rattle.table.proofs.EncodedBytes.{encode_bytes}
use Rattle.load.specs.Nearest.{nearest}
use Rattle.schedule.specs.Run.{service, scheduled, pending, unfinished}
use Rattle.schedule.specs.Response.{response, worst_response, least_solution, demand, ceil, late_test}
use Rattle.schedule.proofs.LateSets.{late_test_lem}
use Rattle.timing.specs.Timing.{tasks_in}
use Rattle.timing.proofs.Limits.{valid_tasks, constrained_tasks}
use Rattle.rules.specs.Placement.{elsewhere, apart, together, some_pair}
use Rattle.rules.specs.Rules.{first_broken, check_rule, residence_broken, co_residence_broken, exclusion_broken, memory_broken, memory_on, utilisation_broken, load_on, network_broken, traffic}
use Rattle.conflict.specs.declared.Finding.TheVariants.{MinimalConflict}
use Rattle.conflict.specs.Conflict.{Right, finding_of}
use Rattle.conflict.proofs.Findings.{finding_right}
use Rattle.judge.specs.Judge.{judge_of, judged_on, first_unknown, responses_of, margins_of}
use Rattle.text.specs.Text.{digits}
use Rattle.cases.specs.Cases.{Claim, judged, ends, late, minimal, load, prints, Case, table_for, file_of, Claimed, EachHolds, AllHold, cases}

-- what is computed for a claim: lateness goes by the responses, the rest is computed as it stands
abbrev Computed : List ℕ → Table → List ℕ → Claim → Type 0
Computed file t q (judged answer responses margins) = Claimed file t q (judged answer responses margins)
Computed file t q (ends k x) = Claimed file t q (ends k x)
Computed file t q (late set) = T (late_test (tasks_in t) (has set))
Computed file t q (minimal set) = T (below t.tasks.count set) × (finding_of (tasks_in t) set ≡ MinimalConflict)
Computed file t q (load p a b) = Claimed file t q (load p a b)
Computed file t q (prints lines) = Claimed file t q (prints lines)

abbrev EachComputed : List ℕ → Table → List ℕ → List Claim → Type 0
EachComputed file t q [] = Unit {0}
EachComputed file t q (x ∷ xs) = Computed file t q x × EachComputed file t q xs

-- the table that is read from a row's file
abbrev table_read : Case → Table
table_read c = result_unwrap_or (read_of (file_of c)) (table_for c)

abbrev AllComputed : List Case → Type 0
AllComputed [] = Unit {0}
AllComputed (c ∷ cs) = ((read_of (file_of c) ≡ Ok (table_read c)) × EachComputed (file_of c) (table_read c) c.placement c.claims) × AllComputed cs

module _ (file : List ℕ) {t : Table} (s : Sound t) (q : List ℕ) where
  claimed : (x : Claim) → Computed file t q x → Claimed file t q x
  claimed (judged answer responses margins) e = e
  claimed (ends k x) e = e
  claimed (late set) e = (late_test_lem (tasks_in t) (valid_tasks s) (has set) (constrained_tasks s)).0 e
  claimed (minimal set) e = subst (Right (tasks_in t) set) e.1 (finding_right (tasks_in t) (valid_tasks s) (constrained_tasks s) set e.0)
  claimed (load p a b) e = e
  claimed (prints lines) e = e

  each : (xs : List Claim) → EachComputed file t q xs → EachHolds file t q xs
  each [] e = tt
  each (x ∷ xs) e = (claimed x e.0, each xs e.1)

all_hold : (cs : List Case) → AllComputed cs → AllHold cs
all_hold [] e = tt
all_hold (c ∷ cs) e =
    let s = read_sound (file_of c) (encode_bytes (table_for c)) e.0.0 in
    ((table_read c, e.0.0, each (file_of c) s c.placement c.claims e.0.1), all_hold cs e.1)

-- what is computed for a row, in front of that for the others
row : {A B : Type 0} → A → B → A × B
row a b = (a, b)

computed : AllComputed cases
unfolding judge_of judged_on first_unknown responses_of margins_of first_broken check_rule first_below some_below sum_to first_from tabulate elsewhere apart together some_pair residence_broken co_residence_broken exclusion_broken
    memory_broken memory_on utilisation_broken load_on network_broken traffic service scheduled pending unfinished response worst_response least_solution demand ceil read_of table_of column scan_of scan_from at_end
    missing encode pieces encode_record field_bytes verdict record_verdict content_verdict hyperperiod_too_large message_repeated periods_differ priority_used not_in_file bad_pair bad_group bad_residence out_of_range
    too_many out_of_order kind_at bytes_of place_in record_cut mark_cut little number bytes mark_at lcm lcm_to nearest digits
computed =
    row (refl, (refl, ((omega arith, refl), ((omega arith, refl), ((omega arith, refl), tt)))))
    (row (refl, (refl, ((tt, refl), ((omega arith, refl), tt))))
    (row (refl, (refl, ((omega arith, refl), tt)))
    (row (refl, (refl, ((omega arith, refl), ((omega arith, refl), tt))))
    (row (refl, (refl, ((omega arith, refl), tt)))
    (row (refl, (refl, (tt, (refl, tt))))
    (row (refl, (refl, (tt, (refl, tt))))
    (row (refl, (refl, tt))
    (row (refl, (refl, tt))
    (row (refl, (refl, (refl, tt)))
    (row (refl, (refl, (refl, tt)))
    (row (refl, (refl, tt))
    (row (refl, (refl, tt))
    (row (refl, (refl, (refl, (refl, (refl, (refl, (refl, tt)))))))
    (row (refl, (refl, (refl, tt)))
    (row (refl, (refl, (refl, tt)))
    tt)))))))))))))))

pub cases_hold : AllHold cases
cases_hold = all_hold cases computed
