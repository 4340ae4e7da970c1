-- The facts to prove for a kind of engine, and the laws that follow: the store's laws come from two facts about its slots. Assumes nothing.
use Rattle.std.specs.Prelude.{ℕ, ◌+◌, ◌≤◌, ◌≡◌, List, length, Ok, Some}
use Rattle.notation.specs.Limits.{steps_most}
use Rattle.machine.specs.declared.Machine.{Machine}
use Rattle.table_machine.specs.TableMachine.{Config, step, Halted}
use Rattle.table_machine.specs.Tables.{table_of, TableOf}
use Rattle.timeline_rule.specs.Model.Kind.{ops_of}
use Rattle.timeline_laws.specs.Laws.{Advance, Laws}
use Rattle.timeline_laws.specs.Meaning.{EngineMeaning}
use Rattle.timeline_laws.specs.TableRun.{machine}
use Rattle.timeline_laws.proofs.Facts.Slots.{Layout, HoldsIn, saves_slots, saves_same, saves_other, moves_slots, moves_same, moves_other, restores_from}

-- for one table, and buffers that give slots of that size; the fields are those of Laws, which has comments on them
pub record Parts (X : EngineMeaning) (m : Machine) (s : List ℕ) (table : TableOf m (table_of m s)) (size : ℕ) : Type 1 where
  pub Mean : Type 0
  pub mean : X.kind.State → Mean
  pub config : Mean → Config
  pub next : Mean → Mean
  pub NoRoom : Mean → Type 0
  pub Fits : X.kind.State → Type 0
  pub Good : Mean → Type 0
  pub fits_check : (u : X.kind.State) → Fits u → X.kind.check m s u ≡ Ok tt
  pub fits_low : (u : X.kind.State) → Fits u → X.kind.now u ≤ steps_most
  pub fits_good : (u : X.kind.State) → Fits u → Good (mean u)
  pub now_is : (u : X.kind.State) → X.kind.now u ≡ (config (mean u)).steps
  pub next_good : (x : Mean) → Good x → ¬ NoRoom x → Good (next x)
  pub next_is : (x : Mean) → Good x → ¬ NoRoom x → config (next x) ≡ step (table_of m s) (config x)
  pub next_stays : (x : Mean) → Good x → Halted (table_of m s) (config x) → next x ≡ x
  pub no_room_runs : (x : Mean) → Good x → NoRoom x → ¬ Halted (table_of m s) (config x)
  pub advances : (n : ℕ) (u : X.kind.State) → Fits u → X.kind.now u + n ≤ steps_most
      → Advance (machine m s table) Mean config next NoRoom n (mean u) (X.kind.advance m s n u).0 (mean (X.kind.advance m s n u).1)
  pub advance_fits : (n : ℕ) (u : X.kind.State) → Fits u → X.kind.now u + n ≤ steps_most → Fits (X.kind.advance m s n u).1
  -- a packed engine fills its slot, and can be unpacked into the buffers of any fitting engine
  pub pack_length : (u : X.kind.State) (old : List ℕ) → Fits u → length old ≡ size → length (X.kind.pack m u old) ≡ size
  pub unpack_pack : (u t : X.kind.State) (old : List ℕ) → Fits u → Fits t → length old ≡ size
      → (v : X.kind.State) × (X.kind.unpack m (X.kind.pack m u old) (X.kind.now u) t ≡ Some v) × X.Same m v u × (mean v ≡ mean u) × Fits v

module _ (X : EngineMeaning) (m : Machine) (s : List ℕ) (table : TableOf m (table_of m s)) (size : ℕ) (P : Parts X m s table size) where
  abbrev pub layout_of : Layout P.Fits P.mean X.kind.now (X.Same m)
  layout_of = record {
    size = size;
    pack = X.kind.pack m;
    unpack = X.kind.unpack m;
    pack_length = P.pack_length;
    unpack_pack = P.unpack_pack;
  }

  abbrev pub laws_of : Laws (machine m s table) (ops_of X.kind m s size)
  laws_of = record {
    Mean = P.Mean;
    mean = P.mean;
    config = P.config;
    next = P.next;
    NoRoom = P.NoRoom;
    Fits = P.Fits;
    Good = P.Good;
    Same = X.Same m;
    Holds = HoldsIn layout_of;
    fits_check = P.fits_check;
    fits_low = P.fits_low;
    fits_good = P.fits_good;
    now_is = P.now_is;
    next_good = P.next_good;
    next_is = P.next_is;
    next_stays = P.next_stays;
    no_room_runs = P.no_room_runs;
    advances = P.advances;
    advance_fits = P.advance_fits;
    save_slots = saves_slots layout_of;
    save_same = saves_same layout_of;
    save_other = λ i j u t x f l n h. saves_other layout_of i u t f l j x n h;
    move_slots = moves_slots layout_of;
    move_same = λ i k t x l n h. moves_same layout_of i k t l n x h;
    move_other = λ i k j t x l n d h. moves_other layout_of i k t l n j x d h;
    restores = λ i u t x f l h. restores_from layout_of i u t x f h;
  }
