-- Every run-length engine that the check accepts meets what the third demand requires, and a fresh one holds the word's configuration. Assumes nothing.
use Rattle.rle.specs.declared.ChainSim.{ChainSim}
use Rattle.outcome.specs.declared.Refusal.{Refusal}
use Rattle.std.specs.Prelude.{◌≡◌, refl, List, ℕ, Err, Ok, Result}
use Rattle.std.proofs.Common.{sym, subst, arith}
use Rattle.machine.specs.declared.Machine.{Machine}
use Rattle.table_laws.specs.WellFormed.{Bytes}
use Rattle.table_machine.specs.TableMachine.{run}
use Rattle.table_machine.specs.Tables.{table_of, TableOf}
use Rattle.table_machine.proofs.Facts.Table.{accepted_table}
use Rattle.rle.specs.Model.Engine.{Conf, conf}
use Rattle.rle.specs.Fits.{engine_check}
use Rattle.rle.specs.Model.Operations.{Made, made, new_answer}
use Rattle.rle_refines.specs.Meaning.{config_of}
use Rattle.rle_refines.specs.Operations.{NewHolds}
use Rattle.rle_refines.proofs.Facts.Operations.{new_holds}
use Rattle.timeline_rule.specs.Model.Timeline.{answered}
use Rattle.timeline_laws.specs.Automaton.{iterate}
use Rattle.timeline_laws.proofs.Facts.Parts.{laws_of}
use Rattle.timeline_laws.specs.Instance.{Instance, Instances, Beginnings}
use Rattle.rle_slots.specs.Model.Slots.{lefts_of, rights_of, bytes_for, Lent}
use Rattle.rle_slots.specs.Model.Kind.{fresh_in}
use Rattle.rle_timeline_laws.specs.Meaning.{meant, mean_of, next_of, NoRoom, chain_engine}
use Rattle.rle_timeline_laws.proofs.Facts.Advance.{next_run}
use Rattle.rle_timeline_laws.proofs.Facts.FitsWith.{Fits}
use Rattle.rle_timeline_laws.proofs.Facts.Fits.{fits_passed}
use Rattle.rle_timeline_laws.proofs.Facts.Parts.{chain_parts}

module _ (m : Machine) (s : List ℕ) (bytes : Bytes s) (e : Conf) (accepted : engine_check m s e ≡ Ok tt) where
  own_fits : Fits m s (lefts_of e) (rights_of e) e
  own_fits = record { accepted = accepted; in_lefts = refl; in_rights = refl }

  own_table : TableOf m (table_of m s)
  own_table = accepted_table m s bytes (fits_passed m s (lefts_of e) (rights_of e) e own_fits).table

  -- the j-th meaning: the j-th configuration of the run, and the places of e
  own_run : (j : ℕ) → iterate (next_of m s) j (mean_of e) ≡ meant (run (table_of m s) j (config_of e)) (lefts_of e) (rights_of e)
  own_run j = next_run m s j (mean_of e)

  same_size : (u : Conf) → Fits m s (lefts_of e) (rights_of e) u → bytes_for (lefts_of u) (rights_of u) ≡ bytes_for (lefts_of e) (rights_of e)
  same_size u f = λ i. bytes_for (f.in_lefts i) (f.in_rights i)

  pub instance_of : Instance chain_engine m s e
  instance_of = record {
    table = own_table;
    laws = laws_of chain_engine m s own_table (bytes_for (lefts_of e) (rights_of e)) (chain_parts m s own_table (lefts_of e) (rights_of e));
    fits = own_fits;
    bare = record { second = λ l. refl; third = λ l. refl };
    same_size = same_size;
    same_config = λ u. refl;
    same_engine = λ u v x. x;
    full_is = λ j. (subst (NoRoom m s) (own_run j), subst (NoRoom m s) (sym (own_run j)));
  }

pub chain_instances : Instances chain_engine
chain_instances m s bytes e q = instance_of m s bytes e q

-- an engine that `create` returned is a fresh engine
module _ (m : Machine) (s w : List ℕ) (b : Lent) (e : Conf) where
  made_holds : (f : Result ChainSim Refusal) (rs rl : List ℕ) → new_answer m s w b.ls b.ll b.rs b.rl ≡ made f rs rl → fresh_in f b.ls b.ll rs rl ≡ answered e → NewHolds m s w b.rs b.rl e
  made_holds (Err why) rs rl p q = let z : ◌≡◌ {A = ℕ} 0 1 = cc in absurd (omega arith)
  made_holds (Ok v) rs rl p q =
      let is : conf v b.ls b.ll rs rl ≡ e = cc in
      subst (NewHolds m s w b.rs b.rl) is (new_holds m s w b.ls b.ll b.rs b.rl v rs rl p)

pub chain-begins : Beginnings chain_engine
chain-begins m s w b e q =
    let a : Made = new_answer m s w b.ls b.ll b.rs b.rl in
    (made_holds m s w b e a.answer a.rs a.rl refl q).holds
