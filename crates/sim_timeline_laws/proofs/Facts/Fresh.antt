-- A fresh engine passes the check of every operation. Assumes nothing.
use Rattle.std.specs.Prelude.{◌≡◌, refl, Bool, true, false, List, [], ℕ, leb, length, Ok}
use Rattle.std.proofs.Common.{sym, ap, ◌∙◌}
use Rattle.notation.specs.Choice.{pick}
use Rattle.notation.proofs.Facts.Tests.{both_split, both_true, pick_cases}
use Rattle.notation.specs.Limits.{cells_most}
use Rattle.machine.specs.declared.Machine.{Machine}
use Rattle.machine.specs.Model.Check.{within, table_check}
use Rattle.machine.proofs.Facts.Check.{demand_says, on_says}
use Rattle.machine.specs.Model.Word.{word_check}
use Rattle.tape.specs.Model.Moves.{Held, held, no_tape, fresh_of}
use Rattle.tape.proofs.Facts.Cells.{length_fresh}
use Rattle.run_checks.specs.Model.Sizes.{sizes_fit, fresh_sizes, fresh_check}
use Rattle.sim.specs.declared.Simulator.{Simulator}
use Rattle.sim.specs.Model.Engine.{conf}
use Rattle.sim.specs.Model.Operations.{has1, has2, if_has, blank_tape, made, Made, new_answer}
use Rattle.sim.proofs.Facts.OperationCases.{Passed, fresh_says}
use Rattle.sim_refines.proofs.Facts.Fresh.{new_accepted, new_fits}

-- buffer sizes that `new` accepts are accepted by every operation

has_most : (has : Bool) (n : ℕ) → if_has has (within 32 cells_most n) ≡ true → if_has has (leb n cells_most) ≡ true
unfolding pick
has_most true n e = (both_split e).1
has_most false n e = refl

sizes_asked : (m : Machine) (s w : List ℕ) (n0 n1 n2 : ℕ) → fresh_check m s w n0 n1 n2 ≡ Ok tt → fresh_sizes m (length w) n0 n1 n2 ≡ true
unfolding fresh_check
sizes_asked m s w n0 n1 n2 e =
    let t = on_says (table_check m s) _ e in
    let q = on_says (word_check m.symbols w) _ t.1 in
    (demand_says _ _ _ q.1).0

sizes-within : (m : Machine) (n n0 n1 n2 : ℕ) → fresh_sizes m n n0 n1 n2 ≡ true → sizes_fit m n0 n1 n2 ≡ true
unfolding fresh_sizes sizes_fit
sizes-within m n n0 n1 n2 e =
    let z0 = both_split e in
    let z1 = both_split z0.1 in
    let l : leb n0 cells_most ≡ true = (both_split z0.0).1 in
    both_true l (both_true (has_most (has1 m) n1 z1.0) (has_most (has2 m) n2 z1.1))

length_blank : (has : Bool) (c : List ℕ) → length (blank_tape has c).cells ≡ length c
length_blank has c = pick_cases has (fresh_of [] c) (held no_tape c) (λ (h : Held). length h.cells ≡ length c) (λ e. length_fresh [] c) (λ e. refl)

module _ (m : Machine) (s w c0 c1 c2 : List ℕ) (v : Simulator) (d0 d1 d2 : List ℕ) (done : new_answer m s w c0 c1 c2 ≡ made (Ok v) d0 d1 d2) where
  abbrev accepted : fresh_check m s w (length c0) (length c1) (length c2) ≡ Ok tt
  accepted = (new_accepted m s w c0 c1 c2 v d0 d1 d2 done).0

  -- the buffers are as long as those that were lent
  length0 : length d0 ≡ length c0
  length0 = sym (ap (λ (x : Made). length x.c0) (new_accepted m s w c0 c1 c2 v d0 d1 d2 done).1) ∙ length_fresh w c0

  length1 : length d1 ≡ length c1
  length1 = sym (ap (λ (x : Made). length x.c1) (new_accepted m s w c0 c1 c2 v d0 d1 d2 done).1) ∙ length_blank (has1 m) c1

  length2 : length d2 ≡ length c2
  length2 = sym (ap (λ (x : Made). length x.c2) (new_accepted m s w c0 c1 c2 v d0 d1 d2 done).1) ∙ length_blank (has2 m) c2

  pub fresh_passed : Passed m s (conf v d0 d1 d2)
  fresh_passed = record {
    table = (fresh_says m s w (length c0) (length c1) (length c2) accepted).table;
    sizes = (λ i. sizes_fit m (length0 i) (length1 i) (length2 i)) ∙ sizes-within m (length w) (length c0) (length c1) (length c2) (sizes_asked m s w (length c0) (length c1) (length c2) accepted);
    fits = new_fits m s w c0 c1 c2 v d0 d1 d2 done;
  }
