-- NEVER IS SOUND: where the verdict is never, the table machine halts at no later step. Assumes nothing.
use Rattle.std.specs.Prelude.{◌≡◌, refl, List, ℤ, Some}
use Rattle.std.proofs.Common.{sym, ap, ◌∙◌, arith}
use Prim.Native.Nat.{ℕ, zero, suc}
use Rattle.notation.proofs.Facts.Position.{diff_suc, diff_pred, ints}
use Rattle.symbol.specs.declared.Dir.{Dir}
use Rattle.symbol.specs.declared.Dir.TheVariants.{L, R, N}
use Rattle.outcome.specs.declared.NonHaltProof.{NonHaltProof}
use Rattle.outcome.specs.declared.Outcome.TheVariants.{NeverHalts}
use Rattle.machine.specs.declared.Machine.{Machine}
use Rattle.machine.specs.declared.Action.{Action}
use Rattle.table_machine.specs.TableMachine.{Table, Tape, Config, read_t, put, go, update, start, entry, act, step, run, Halted, Stays, Sideways, Beyond, Walks, Verdict, stays, walks}
use Rattle.table_machine.specs.Tables.{TableOf, Bare}
use Rattle.table_machine.proofs.Facts.Run.{not_defined, step-act}
use Rattle.table_machine.proofs.Facts.Tape.{put_same, put_other, bare_act, bare_run, bare-start}

-- ---- an entry that is read at every step

-- an invariant I, under which the entry read is that of action a, and which a keeps: then the machine never halts
module _ (d : Table) (a : Action) (I : Config → Type 0) (reads : (c : Config) → I c → entry d c ≡ Some a) (lasts : (c : Config) → I c → I (act c a)) where
  forever : (n : ℕ) (c : Config) → I c → ¬ (Halted d (run d n c))
  unfolding run
  forever zero c i h = not_defined (entry d c) a h (reads c i)
  forever (suc n) c i h = forever n (step d c) (rw (step-act d c a (reads c i)) (lasts c i)) h

pub entry-≡ : (d : Table) (c k : Config) → k.state ≡ c.state → read_t k.tape0 ≡ read_t c.tape0 → read_t k.tape1 ≡ read_t c.tape1
    → read_t k.tape2 ≡ read_t c.tape2 → entry d k ≡ entry d c
entry-≡ d c k p q r s = λ i. d (p i) (q i) (r i) (s i)

-- ---- the first pattern: all tapes stay and rewrite what they read

-- a tape whose head stays reads the symbol written
read_still : (t : Tape) (w : ℕ) (m : Dir) → m ≡ N → read_t (update t w m) ≡ w
read_still t w m e = ap (λ (x : Dir). put t.cell t.head w (go x t.head)) e ∙ put_same t.cell t.head w

record StayInv (d : Table) (a : Action) (c : Config) : Type 0 where
  now : entry d c ≡ Some a
  stay : Stays c a

stay_lasts : (d : Table) (a : Action) (c : Config) → StayInv d a c → StayInv d a (act c a)
stay_lasts d a c v =
    let s : Stays c a = v.stay in
    let r0 : read_t (act c a).tape0 ≡ a.write0.0 = read_still c.tape0 a.write0.0 a.dir0 s.still0 in
    let r1 : read_t (act c a).tape1 ≡ a.write1.0 = read_still c.tape1 a.write1.0 a.dir1 s.still1 in
    let r2 : read_t (act c a).tape2 ≡ a.write2.0 = read_still c.tape2 a.write2.0 a.dir2 s.still2 in
    record {
      now = entry-≡ d c (act c a) s.keeps (r0 ∙ s.same0) (r1 ∙ s.same1) (r2 ∙ s.same2) ∙ v.now;
      stay = record {
        keeps = refl;
        still0 = s.still0;
        still1 = s.still1;
        still2 = s.still2;
        same0 = sym r0;
        same1 = sym r1;
        same2 = sym r2;
      };
    }

stay_never : (d : Table) (a : Action) (c : Config) → entry d c ≡ Some a → Stays c a → (n : ℕ) → ¬ (Halted d (run d n c))
stay_never d a c e s n = forever d a (StayInv d a) (λ k v. v.now) (stay_lasts d a) n c (record { now = e; stay = s })

-- ---- the second pattern: one tape, a blank read, and blanks ahead

-- a cell beyond the head after the move was beyond it before the move, and is not the cell written
step_beyond : (m : Dir) (h z : ℤ) → Beyond m (go m h) z → Beyond m h z
step_beyond L h z b = omega (ints, diff_pred h)
step_beyond R h z b = omega (ints, diff_suc h)
step_beyond N h z b = b

next_beyond : (m : Dir) (h : ℤ) → Sideways m → Beyond m h (go m h)
next_beyond L h s = omega (ints, diff_pred h)
next_beyond R h s = omega (ints, diff_suc h)
next_beyond N h s = absurd s

beyond_ne : (m : Dir) (h z : ℤ) → Beyond m h z → ¬ (z ≡ h)
beyond_ne L h z b e = omega ints
beyond_ne R h z b e = omega ints
beyond_ne N h z b e = b

module _ (m : Machine) (d : Table) (table : TableOf m d) where
  record WalkInv (a : Action) (x : Dir) (c : Config) : Type 0 where
    now : entry d c ≡ Some a
    walk : Walks m.tapes c a x
    bare : Bare m.tapes c

  walk_lasts : (a : Action) (x : Dir) (c : Config) → WalkInv a x c → WalkInv a x (act c a)
  walk_lasts a x c v =
      let w : Walks m.tapes c a x = v.walk in
      let h : ℤ = c.tape0.head in
      let f : ℤ → ℕ = c.tape0.cell in
      let hd : go a.dir0 h ≡ go x h = ap (λ (y : Dir). go y h) w.moves in
      let after : (z : ℤ) → Beyond x h z → put f h a.write0.0 z ≡ zero
      = λ z b. put_other f h z a.write0.0 (beyond_ne x h z b) ∙ w.beyond z b in
      let r0 : read_t (act c a).tape0 ≡ zero = ap (put f h a.write0.0) hd ∙ after (go x h) (next_beyond x h w.sideways) in
      let b : Bare m.tapes (act c a) = bare_act m d table c a v.now v.bare in
      let o : m.tapes ≡ 1 = w.single in
      let r1 : (act c a).tape1 ≡ c.tape1 = b.second (omega arith) ∙ sym (v.bare.second (omega arith)) in
      let r2 : (act c a).tape2 ≡ c.tape2 = b.third (omega arith) ∙ sym (v.bare.third (omega arith)) in
      record {
        now = entry-≡ d c (act c a) w.same_state (r0 ∙ sym w.blank) (ap read_t r1) (ap read_t r2) ∙ v.now;
        walk = record {
          single = o;
          same_state = refl;
          moves = w.moves;
          sideways = w.sideways;
          blank = r0;
          beyond = λ z q. after z (step_beyond x h z (rw hd at q));
        };
        bare = b;
      }

  walk_never : (a : Action) (x : Dir) (c : Config) → Bare m.tapes c → entry d c ≡ Some a → Walks m.tapes c a x → (n : ℕ) → ¬ (Halted d (run d n c))
  walk_never a x c b e w n = forever d a (WalkInv a x) (λ k v. v.now) (walk_lasts a x) n c (record { now = e; walk = w; bare = b })

  -- never is sound at every configuration where the tapes that the machine lacks are blank
  pub never_sound_bare : (c : Config) → Bare m.tapes c → (s : ℕ) (p : NonHaltProof) → Verdict m.tapes d c (NeverHalts s p) → (n : ℕ) → ¬ (Halted d (run d n c))
  never_sound_bare c b s p (stays a e r) n = stay_never d a c e r n
  never_sound_bare c b s p (walks a x e w) n = walk_never a x c b e w n

  -- never is sound at every configuration reached from a start
  pub never_sound : (q : ℕ) (word : List ℕ) (k s : ℕ) (p : NonHaltProof) → Verdict m.tapes d (run d k (start q word)) (NeverHalts s p)
      → (n : ℕ) → ¬ (Halted d (run d n (run d k (start q word))))
  never_sound q word k s p v = never_sound_bare (run d k (start q word)) (bare_run m d table k (start q word) (bare-start m.tapes q word)) s p v
