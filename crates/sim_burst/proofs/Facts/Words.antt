-- A table's words decode to its entries. Assumes nothing.
use Rattle.std.specs.Prelude.{◌≡◌, refl, true, not, List, ℕ, ◌*◌, ◌<◌, eqb, length, get_or, Option}
use Rattle.std.proofs.Common.{sym, ap, ◌∙◌, arith}
use Rattle.std.proofs.lemmas.Bool.{eqb-false, not-true}
use Rattle.notation.proofs.Facts.Tests.{clash}
use Rattle.symbol.specs.Kinds.{dir_number}
use Rattle.machine.specs.declared.Action.{Action}
use Rattle.machine.specs.declared.Machine.{Machine}
use Rattle.machine.specs.Layout.{entry_count, entry_at}
use Rattle.machine.proofs.Facts.CheckCases.{stride_one}
use Rattle.machine.specs.Model.Packing.{undefined_word, action_word, pack_word}
use Rattle.machine.proofs.Facts.Packed.{Parts, word_parts, OneTapeEntry, nothing, action, entry_one_tape}
use Rattle.sim_burst.specs.Model.Burst.{Says}
use Rattle.sim_burst.specs.Model.Words.{word_known, decoded_word, Packs, WordsOk}

-- ---- one word

-- what the word w decodes to, where it is known, is the entry e, with the row of the next state
record Fit (e : Option Action) (k w : ℕ) : Type 0 where
  says : word_known w ≡ true → Says e (decoded_word w).write (decoded_word w).dir (decoded_word w).next
  row : word_known w ≡ true → (decoded_word w).row ≡ (decoded_word w).next * k

word_fit : (e : Option Action) (k : ℕ) → OneTapeEntry e → Fit e k (pack_word e k)
word_fit e k nothing = record { says = λ z. absurd (clash z refl); row = λ z. absurd (clash z refl) }
word_fit e k (action a o) =
    record {
      says = λ z.
          let p = parts z in
          record {
            act = a;
            is = refl;
            writes = sym p.write_is;
            moves = sym p.dir_is;
            goes = sym p.next_is;
            still1 = o.still1;
            still2 = o.still2;
          };
      row = λ z. let p = parts z in p.row_is ∙ ap (λ (n : ℕ). n * k) (sym p.next_is);
    }
  where
    parts : not (eqb (action_word a k) undefined_word) ≡ true → Parts (action_word a k) (dir_number a.dir0) a.write0.0 a.next.0 (a.next.0 * k)
    parts z = word_parts a k o.write_in o.next_in (eqb-false _ _ (not-true _ z))

-- ---- the words of a table

pub packs_of : (m : Machine) (s words : List ℕ) → WordsOk m s words → Packs words m.symbols s
packs_of m s words ok = record { tells = λ i h z. let f = fit i h in record { says = f.says z; row_is = f.row z } }
  where
    fit : (i : ℕ) → i < length words → Fit (entry_at s i) m.symbols (get_or words i 0)
    fit i h =
        let c : length words ≡ m.states * m.symbols = ok.count in
        let n : i < m.states * m.symbols = omega arith in
        let t : i < entry_count m = rw (← stride_one m.tapes m.symbols ok.one_tape_holds) n in
        rw (ok.holds i n) (word_fit (entry_at s i) m.symbols (entry_one_tape m s i ok.checked ok.one_tape_holds t))
