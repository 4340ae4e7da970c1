-- THE MIRROR AND THE RENAMINGS of every table that the table check accepts, for one to three tapes. Assumes nothing.
use Rattle.std.specs.Prelude.{◌≡◌, ◌↔◌, List, [], ℕ, ◌<◌, Some}
use Rattle.std.proofs.Common.{sym, ap, ◌∙◌}
use Rattle.outcome.specs.declared.Outcome.{Outcome}
use Rattle.machine.specs.declared.Machine.{Machine}
use Rattle.machine.specs.declared.Action.{Action}
use Rattle.machine.specs.Layout.{stride_of, entry_number}
use Rattle.table_laws.specs.WellFormed.{WellFormed}
use Rattle.table_laws.proofs.Facts.CheckExact.{table_check_accepted, table_check_accepts}
use Rattle.table_laws.proofs.Facts.Bytes.{well_formed_bytes}
use Rattle.table_machine.specs.TableMachine.{Table, Config, read_t, entry, step, run, start}
use Rattle.table_machine.specs.Tables.{table_of}
use Rattle.table_machine.proofs.Facts.Table.{table_of_machine}
use Rattle.table_machine_symmetry.specs.Mirror.{mirrored_table, mirrored_config}
use Rattle.table_machine_symmetry.specs.Renaming.{Permutes, renamed_entry, renamed_machine, renamed_config, renamed_outcome}
use Rattle.table_machine_symmetry.specs.Bytes.{mirrored_bytes, renamed_bytes}
use Rattle.table_machine_symmetry.specs.Claims.{AcceptedTable, WordBelow, after, VerdictAfter, HaltedAfter, Reads, Mirrored, Renamed}
use Rattle.table_machine_symmetry.proofs.Facts.Mirror.{mirror_run_blank, mirror_verdicts, mirror_halts}
use Rattle.table_machine_symmetry.proofs.Facts.Renaming.{rename_run, rename_halts, rename_verdicts}
use Rattle.table_machine_symmetry.proofs.Facts.Configs.{ConfigOf, config_reads, config_start, config_step, config_run}
use Rattle.table_machine_symmetry.proofs.Facts.Bytes.{mirror_formed, mirror_at, mirror_twice, rename_formed, rename_entry, rename_back}

pub formed : (m : Machine) (s : List ℕ) → AcceptedTable m s → WellFormed m s
formed m s a = table_check_accepted m s a.bytes a.accepted

accepted_table : (m : Machine) (s : List ℕ) → WellFormed m s → AcceptedTable m s
accepted_table m s w = record { bytes = well_formed_bytes m s w; accepted = table_check_accepts m s w }

-- ---- the mirror

module _ (m : Machine) (s : List ℕ) (w : WellFormed m s) where
  mirror_table : table_of m (mirrored_bytes m s) ≡ mirrored_table (table_of m s)
  unfolding table_of
  mirror_table = λ i q x y z. mirror_at m s w (entry_number m.symbols (stride_of m) q x y z) i

  mirror_runs : (n : ℕ) → after m (mirrored_bytes m s) [] n ≡ mirrored_config (after m s [] n)
  mirror_runs n = ap (λ (d : Table). run d n (start m.start [])) mirror_table ∙ mirror_run_blank (table_of m s) n m.start

  mirror_holds : Mirrored m s
  mirror_holds = record {
    table = accepted_table m (mirrored_bytes m s) (mirror_formed m s w);
    entries = λ q x y z. ap (λ (d : Table). d q x y z) mirror_table;
    twice = mirror_twice m s w;
    runs = mirror_runs;
    verdicts = λ n o. rw (mirror_runs n, mirror_table) (mirror_verdicts m.tapes (table_of m s) (after m s [] n) o);
    halts = λ n. rw (mirror_runs n, mirror_table) (mirror_halts (table_of m s) (after m s [] n));
  }

-- ---- a renaming

module _ (to from : ℕ → ℕ) (m : Machine) (s : List ℕ) (w : WellFormed m s) (permutes : Permutes m.states to from) where
  abbrev d : Table
  d = table_of m s

  abbrev e : Table
  e = table_of (renamed_machine to m) (renamed_bytes to from m s)

  entries : (q x y z : ℕ) → q < m.states → Reads m x y z → e (to q) x y z ≡ renamed_entry to (d q x y z)
  unfolding table_of
  entries = rename_entry to from m s w permutes

  agrees : (c : Config) → ConfigOf m c → entry e (renamed_config to c) ≡ renamed_entry to (entry d c)
  agrees c g = entries c.state (read_t c.tape0) (read_t c.tape1) (read_t c.tape2) g.state_in_holds (config_reads m c g)

  lasts : (c : Config) → ConfigOf m c → ConfigOf m (step d c)
  lasts = config_step m d (table_of_machine m s w)

  -- no two states get one number
  one : (c : Config) (a : Action) → ConfigOf m c → entry d c ≡ Some a → to a.next.0 ≡ to c.state → a.next.0 ≡ c.state
  one c a g x k =
      let o = table_of_machine m s w c.state (read_t c.tape0) (read_t c.tape1) (read_t c.tape2) a x in
      sym (permutes.from_to a.next.0 o.next_in) ∙ ap from k ∙ permutes.from_to c.state g.state_in_holds

  machine_back : renamed_machine from (renamed_machine to m) ≡ m
  machine_back = λ i. record { tapes = m.tapes; symbols = m.symbols; states = m.states; start = permutes.from_to m.start (w 4) i }

  module _ (word : List ℕ) (below : WordBelow m.symbols word) (n : ℕ) where
    begins : ConfigOf m (start m.start word)
    begins = config_start m m.start word (w 2).0 (w 4) below

    reached : ConfigOf m (after m s word n)
    reached = config_run m d (table_of_machine m s w) n (start m.start word) begins

    rename_runs : after (renamed_machine to m) (renamed_bytes to from m s) word n ≡ renamed_config to (after m s word n)
    rename_runs = rename_run d e to (ConfigOf m) lasts agrees n (start m.start word) begins

    verdicts : (p : Outcome)
        → VerdictAfter (renamed_machine to m) (renamed_bytes to from m s) word n p ↔ ((o : Outcome) × VerdictAfter m s word n o × (renamed_outcome to o ≡ p))
    verdicts p = rw rename_runs (rename_verdicts d e to (ConfigOf m) lasts agrees one m.tapes (after m s word n) reached p)

    halts : HaltedAfter (renamed_machine to m) (renamed_bytes to from m s) word n ↔ HaltedAfter m s word n
    halts = rw rename_runs (rename_halts d e to (ConfigOf m) lasts agrees (after m s word n) reached)

  rename_holds : Renamed to from m s
  rename_holds = record {
    table = accepted_table (renamed_machine to m) (renamed_bytes to from m s) (rename_formed to from m s w permutes);
    entries = entries;
    back = (machine_back, rename_back to from m permutes s w);
    runs = rename_runs;
    verdicts = verdicts;
    halts = halts;
  }

-- ---- every table that the check accepts

pub accepted_mirrored : (m : Machine) (s : List ℕ) → AcceptedTable m s → Mirrored m s
accepted_mirrored m s a = mirror_holds m s (formed m s a)

pub accepted_renamed : (m : Machine) (s : List ℕ) → AcceptedTable m s → (to from : ℕ → ℕ) → Permutes m.states to from → Renamed to from m s
accepted_renamed m s a to from p = rename_holds to from m s (formed m s a) p
