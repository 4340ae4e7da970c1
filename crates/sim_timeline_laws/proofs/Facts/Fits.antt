-- The engines of one list of calls: those that pass the check, with buffers as long as those of e. An advance or a slot leads to another of them. Assumes nothing.
use Rattle.std.specs.Prelude.{◌≡◌, List, ℕ, ◌+◌, ◌≤◌, length, Ok, Some}
use Rattle.std.proofs.Common.{sym, ◌∙◌, leb-true, lt-ltb}
use Rattle.notation.specs.Limits.{steps_most}
use Rattle.machine.specs.declared.Machine.{Machine}
use Rattle.sim.specs.Model.Engine.{Conf}
use Rattle.sim.specs.Model.Operations.{engine_check}
use Rattle.sim.proofs.Facts.OperationCases.{engine_says}
use Rattle.sim_slots.proofs.Facts.FitCases.{fitted}
use Rattle.sim_slots.specs.Model.Advance.{advance_of}
use Rattle.sim_slots.specs.Model.Slots.{size_of, slot_size, pack_of, unpack_of}
use Rattle.sim_slots.proofs.Facts.RoundTrip.{SameSizes, InBuffers, unpack_pack}
use Rattle.sim_slots.proofs.Facts.Pack.{pack_length}
use Rattle.sim_slots.proofs.Facts.Advance.{advance_fits, advance_length0, advance_length1, advance_length2}
use Rattle.sim_timeline_laws.specs.Meaning.{mean_of, SameEngine}
use Rattle.sim_timeline_laws.proofs.Facts.Meaning.{taken_same, same_mean}

-- u passes the check of every operation, and its buffers are as long as those of e
pub record FitsLike (m : Machine) (s : List ℕ) (e u : Conf) : Type 0 where
  pub accepted : engine_check m s u ≡ Ok tt
  pub same0 : length u.c0 ≡ length e.c0
  pub same1 : length u.c1 ≡ length e.c1
  pub same2 : length u.c2 ≡ length e.c2

module _ (m : Machine) (s : List ℕ) (e : Conf) where
  -- its step count is within the limit
  pub steps_low : (u : Conf) → FitsLike m s e u → u.sim.steps ≤ steps_most
  steps_low u f = leb-true _ _ (fitted m u.sim u.c0 u.c1 u.c2 (engine_says m s u f.accepted).fits).steps_in

  -- its slots have the same size
  pub same_slot : (u : Conf) → FitsLike m s e u → slot_size m u ≡ slot_size m e
  same_slot u f = λ i. size_of m (f.same0 i) (f.same1 i) (f.same2 i)

  pub advanced_fits : (n : ℕ) (u : Conf) → FitsLike m s e u → u.sim.steps + n ≤ steps_most → FitsLike m s e (advance_of m s n u).1
  advanced_fits n u f small = record {
    accepted = advance_fits m s n u f.accepted small;
    same0 = advance_length0 m s n u f.accepted small ∙ f.same0;
    same1 = advance_length1 m s n u f.accepted small ∙ f.same1;
    same2 = advance_length2 m s n u f.accepted small ∙ f.same2;
  }

  -- a packed engine fills the slot
  pub packed_fills : (u : Conf) (old : List ℕ) → FitsLike m s e u → length old ≡ slot_size m e → length (pack_of m u old) ≡ slot_size m e
  packed_fills u old f long = pack_length m u old (engine_says m s u f.accepted).fits (long ∙ sym (same_slot u f)) ∙ same_slot u f

  -- a packed engine is unpacked into the buffers of t as the same engine
  module _ (u t : Conf) (old : List ℕ) (fu : FitsLike m s e u) (ft : FitsLike m s e t) where
    same_sizes : SameSizes m u t
    same_sizes = record {
      same0 = ft.same0 ∙ sym fu.same0;
      same1 = λ h. ft.same1 ∙ sym fu.same1;
      same2 = λ h. ft.same2 ∙ sym fu.same2;
    }

    kept_same : (v : Conf) → InBuffers m s u t v → SameEngine m v u
    kept_same v b = record {
      state = b.state;
      steps = b.steps;
      numbers0 = b.numbers0;
      numbers1 = λ l. b.numbers1 (lt-ltb 1 m.tapes l);
      numbers2 = λ l. b.numbers2 (lt-ltb 2 m.tapes l);
      cells0 = taken_same _ _ _ b.cells0;
      cells1 = λ l. taken_same _ _ _ (b.cells1 (lt-ltb 1 m.tapes l));
      cells2 = λ l. taken_same _ _ _ (b.cells2 (lt-ltb 2 m.tapes l));
      length0 = b.length0 ∙ (ft.same0 ∙ sym fu.same0);
      length1 = b.length1 ∙ (ft.same1 ∙ sym fu.same1);
      length2 = b.length2 ∙ (ft.same2 ∙ sym fu.same2);
    }

    kept_fits : (v : Conf) → InBuffers m s u t v → FitsLike m s e v
    kept_fits v b = record {
      accepted = b.checked;
      same0 = b.length0 ∙ ft.same0;
      same1 = b.length1 ∙ ft.same1;
      same2 = b.length2 ∙ ft.same2;
    }

    pub packed_back : length old ≡ slot_size m e
        → (v : Conf) × (unpack_of m (pack_of m u old) u.sim.steps t ≡ Some v) × SameEngine m v u × (mean_of m v ≡ mean_of m u) × FitsLike m s e v
    packed_back long =
        let r = unpack_pack m s u t old fu.accepted ft.accepted same_sizes (long ∙ sym (same_slot u fu)) in
        let same : SameEngine m r.0 u = kept_same r.0 r.2 in
        (r.0, r.1, same, same_mean m r.0 u same, kept_fits r.0 r.2)
