-- The run-length engine meets the requirements of a timeline's code. Assumes nothing.
use Rattle.std.specs.Prelude.{◌≡◌, List, ℕ, ◌≤◌, min}
use Rattle.std.proofs.Common.{◌∙◌, leb-true}
use Rattle.notation.proofs.Facts.Tests.{both_split}
use Rattle.notation.specs.Limits.{steps_most}
use Rattle.machine.specs.declared.Machine.{Machine}
use Rattle.table_laws.specs.WellFormed.{Bytes}
use Rattle.rle.specs.Model.Engine.{Conf}
use Rattle.rle.specs.Fits.{counts_fit, chain_fits}
use Rattle.rle.specs.Invariants.{SameSizes}
use Rattle.rle.proofs.Facts.OperationCases.{engine_says}
use Rattle.timeline_rule.specs.Invariants.{Sound, Fits}
use Rattle.rle_slots.specs.Model.Advance.{advance_of}
use Rattle.rle_slots.specs.Model.Slots.{bytes_for, slot_size}
use Rattle.rle_slots.proofs.Facts.Advance.{advance_fits, advance_climbs}
use Rattle.rle_slots.proofs.Facts.Unpack.{unpack_fits}
use Rattle.rle_slots.specs.Model.Kind.{chain_kind}

same_size : (m : Machine) (σ τ : Conf) → SameSizes σ τ → slot_size m τ ≡ slot_size m σ
same_size m σ τ h i = bytes_for (min (h.ls i) (h.ll i)) (min (h.rs i) (h.rl i))

pub steps_in : (m : Machine) (s : List ℕ) (e : Conf) (size : ℕ) → Fits chain_kind m s size e → e.sim.steps ≤ steps_most
unfolding chain_fits counts_fit
steps_in m s e size f = leb-true _ _ (both_split (both_split (both_split (engine_says m s e f.accepted).fits).0).1).0

-- for a table of bytes, as every lent table is
pub chain_sound : (m : Machine) (s : List ℕ) (size : ℕ) → Bytes s → Sound chain_kind m s size (Fits chain_kind m s size)
chain_sound m s size bytes = record {
  accepted = λ e a z. record { accepted = a; sized = z };
  low = λ e f. steps_in m s e size f;
  advance_fits = λ n e f l. let z = advance_fits m s bytes n e f.accepted l in record { accepted = z.accepted; sized = same_size m e (advance_of m s n e).1 z.sizes ∙ f.sized };
  advance_climbs = λ n e f l. advance_climbs m s bytes n e f.accepted l;
  restored_fits = λ b p e r f l q. let z = (unpack_fits m s b p e f.accepted r q).again in record { accepted = z.accepted; sized = same_size m e r z.sizes ∙ f.sized };
  restored_now = λ b p e r f l q. (unpack_fits m s b p e f.accepted r q).steps;
}
