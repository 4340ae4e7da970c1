-- The packing of a table, one fact for each way through the code. Assumes nothing.
use Rattle.std.specs.Prelude.{◌≡◌, List, ℕ, ◌*◌, ◌-◌, ◌≤◌, ◌<◌, eqb, Err, Ok, Result, ⊤}
use Rattle.std.proofs.Math.Path.{sym}
use Rattle.std.proofs.Common.{ap, ◌∙◌}
use borrow.Author.Tests.{le-leb, lt-leb, eq-eqb, ne_eqb}
use Rattle.std.proofs.Math.ListN.{length}
use Rattle.notation.specs.Choice.{pick}
use Rattle.notation.specs.Fill.{fill_from}
use Rattle.outcome.specs.declared.Refusal.{Refusal}
use Rattle.outcome.specs.declared.Refusal.TheVariants as Why
use Rattle.machine.specs.declared.Machine.{Machine}
use Rattle.machine.specs.Layout.{entry_count}
use Rattle.machine.specs.Model.Check.{table_check}
use Rattle.machine.specs.Model.Packing.{word_at, pack_check, pack_into}
use Rattle.machine.proofs.Facts.CheckCases.{stride_one}

-- the answer, and the output afterwards
pub record Packs (m : Machine) (s out out₁ : List ℕ) (r : Result ⊤ Refusal) : Type 0 where
  pub answer : r ≡ pack_check m s (length out)
  pub holds : out₁ ≡ pack_into m s out

module _ (m : Machine) (s out : List ℕ) where
  left_alone : (why : Refusal) → pack_check m s (length out) ≡ Err why → Packs m s out out (Err why)
  unfolding pack_into
  left_alone why e = record { answer = sym e; holds = rw e }

  module _ (r : Result ⊤ Refusal) (checked : r ≡ table_check m s) where
    pub packs_refused : (why : Refusal) → r ≡ Err why → Packs m s out out (Err why)
    unfolding pack_check
    packs_refused why e = left_alone why (rw (← checked, e))

    module _ (passed : r ≡ Ok tt) where
      pub packs_several : (m.tapes ≡ 1 → ⊥) → Packs m s out out (Err Why.PackedWords)
      unfolding pack_check pick
      packs_several z = left_alone Why.PackedWords (rw (← checked, passed, ne_eqb _ _ z))

      module _ (one : m.tapes ≡ 1) where
        count_is : m.states * m.symbols ≡ entry_count m
        count_is = ap (λ (n : ℕ). m.states * n) (stride_one m.tapes m.symbols one)

        pub packs_short : length out < m.states * m.symbols → Packs m s out out (Err Why.OutputSize)
        unfolding pack_check pick
        packs_short h =
            let l : length out < entry_count m = rw (← count_is) h in
            left_alone Why.OutputSize (rw (← checked, passed, eq-eqb _ _ one, lt-leb _ _ l))

        accepts : entry_count m ≤ length out → pack_check m s (length out) ≡ Ok tt
        unfolding pack_check pick
        accepts l = rw (← checked, passed, eq-eqb _ _ one, le-leb _ _ l)

        pub packs_whole : (out₁ : List ℕ) → m.states * m.symbols ≤ length out
            → out₁ ≡ fill_from (word_at s m.symbols) (m.states * m.symbols) 0 out → Packs m s out out₁ (Ok tt)
        unfolding pack_into
        packs_whole out₁ h e =
            let l : entry_count m ≤ length out = rw (← count_is) h in
            let a : pack_check m s (length out) ≡ (Ok tt) = accepts l in
            record { answer = sym a; holds = e ∙ rw (a, count_is) }
