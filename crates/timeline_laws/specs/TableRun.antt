-- The table machine of document 01, on the table of the bytes s, as the automaton of the timeline's proofs. Its laws are those of Facts/TableRun and of table_machine.
use Rattle.std.specs.Prelude.{List, ℕ}
use Rattle.outcome.specs.declared.Outcome.{Outcome}
use Rattle.outcome.specs.Numbers.{steps_of}
use Rattle.machine.specs.declared.Machine.{Machine}
use Rattle.table_machine.specs.TableMachine.{Config, step, Halted, Verdict}
use Rattle.table_machine.specs.Tables.{table_of, TableOf, Bare}
use Rattle.table_machine.proofs.Facts.Run.{step_halted, step_steps, dec_halted}
use Rattle.table_machine.proofs.Facts.Tape.{bare_step}
use Rattle.timeline_laws.specs.Automaton.{Automaton, IsFull, IsNever}
use Rattle.timeline_laws.specs.TableRunFacts.{verdict_not_full, never_on}

abbrev pub machine : (m : Machine) (s : List ℕ) → TableOf m (table_of m s) → Automaton
machine m s table =
    record {
      Config = Config;
      Out = Outcome;
      steps = λ c. c.steps;
      step = step (table_of m s);
      Halted = Halted (table_of m s);
      Verdict = Verdict m.tapes (table_of m s);
      Full = IsFull;
      Never = IsNever;
      counted = steps_of;
      Real = Bare m.tapes;
      real_step = bare_step m (table_of m s) table;
      halted? = dec_halted (table_of m s);
      stays = step_halted (table_of m s);
      adds = step_steps (table_of m s);
      verdict_not_full = verdict_not_full m.tapes (table_of m s);
      never_halts = never_on m s table;
    }
