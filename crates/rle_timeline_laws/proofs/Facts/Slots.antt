-- A slot returns the engine that was put there, with the same meaning, and it fits. Assumes nothing.
use Rattle.std.specs.Prelude.{◌≡◌, List, ℕ, length, Some}
use Rattle.std.proofs.Common.{sym, ◌∙◌, arith}
use Rattle.machine.specs.declared.Machine.{Machine}
use Rattle.table_machine.specs.TableMachine.{Config, blank_tape}
use Rattle.rle.specs.declared.ChainSim.{ChainSim}
use Rattle.rle.specs.Model.Engine.{Conf, conf, left_of, right_of}
use Rattle.rle_refines.specs.Meaning.{Stack, stack_upto, stack_of, stream, tape_around, config_of}
use Rattle.rle_refines.proofs.Facts.Fits.{holds_fits}
use Rattle.rle_refines.proofs.Facts.Operations.{Passed}
use Rattle.rle_slots.specs.Model.Slots.{lefts_of, rights_of, bytes_for, slot_size, pack_of, unpack_of}
use Rattle.rle_slots.proofs.Facts.LiveRuns.{SameLive, stack_live}
use Rattle.rle_slots.proofs.Facts.RoundTrip.{pack_length, Returned, unpack_pack}
use Rattle.rle_timeline_laws.specs.Meaning.{meant, mean_of, SameEngine}
use Rattle.rle_timeline_laws.proofs.Facts.FitsWith.{Fits}
use Rattle.rle_timeline_laws.proofs.Facts.Fits.{fits_passed}

-- the configuration from the value and the two stacks
abbrev config_with : ChainSim → (left right : Stack) → Config
config_with v l r = record {
  state = v.state.0;
  steps = v.steps;
  tape0 = tape_around (stream l) v.tape.cur (stream r) v.tape.head v.lowest v.highest;
  tape1 = blank_tape;
  tape2 = blank_tape;
}

-- the same value and the same live runs give the same configuration
module _ (u v : Conf) (same : SameLive u v) where
  lefts_live : stack_upto v.ls v.ll u.sim.tape.left ≡ stack_of (left_of u)
  lefts_live = stack_live u.ls u.ll v.ls v.ll u.sim.tape.left same.ls same.ll

  rights_live : stack_upto v.rs v.rl u.sim.tape.right ≡ stack_of (right_of u)
  rights_live = stack_live u.rs u.rl v.rs v.rl u.sim.tape.right same.rs same.rl

  config_live : config_of v ≡ config_of u
  config_live = (λ i. config_of (conf (same.sim i) v.ls v.ll v.rs v.rl)) ∙ (λ i. config_with u.sim (lefts_live i) (rights_live i))

-- ---- the slots of engines that fit, with given numbers of places

module _ (m : Machine) (s : List ℕ) (lefts rights : ℕ) where
  size_is : (u : Conf) → Fits m s lefts rights u → bytes_for lefts rights ≡ slot_size m u
  size_is u f = λ i. bytes_for (sym f.in_lefts i) (sym f.in_rights i)

  pub slot_length : (u : Conf) (old : List ℕ) → Fits m s lefts rights u → length old ≡ bytes_for lefts rights → length (pack_of m u old) ≡ bytes_for lefts rights
  slot_length u old f z =
      let p : Passed m s u = fits_passed m s lefts rights u f in
      pack_length m u old (holds_fits m u p.fits) (z ∙ size_is u f) ∙ sym (size_is u f)

  module _ (u t v : Conf) (f : Fits m s lefts rights u) (g : Fits m s lefts rights t) (r : Returned m s u t v) where
    back_lefts : lefts_of v ≡ lefts
    back_lefts = omega (arith, r.sizes.ls, r.sizes.ll, g.in_lefts)

    back_rights : rights_of v ≡ rights
    back_rights = omega (arith, r.sizes.rs, r.sizes.rl, g.in_rights)

    back_same : SameEngine v u
    back_same = record {
      value = r.live.sim;
      lefts = (λ i. stack_upto v.ls v.ll (r.live.sim i).tape.left) ∙ lefts_live u v r.live;
      rights = (λ i. stack_upto v.rs v.rl (r.live.sim i).tape.right) ∙ rights_live u v r.live;
      left_places = back_lefts ∙ sym f.in_lefts;
      right_places = back_rights ∙ sym f.in_rights;
    }

    back_means : mean_of v ≡ mean_of u
    back_means = λ i. meant (config_live u v r.live i) ((back_lefts ∙ sym f.in_lefts) i) ((back_rights ∙ sym f.in_rights) i)

    back_fits : Fits m s lefts rights v
    back_fits = record { accepted = r.accepted; in_lefts = back_lefts; in_rights = back_rights }

  pub slot_back : (u t : Conf) (old : List ℕ) → Fits m s lefts rights u → Fits m s lefts rights t → length old ≡ bytes_for lefts rights
      → (v : Conf) × (unpack_of m (pack_of m u old) u.sim.steps t ≡ Some v) × SameEngine v u × (mean_of v ≡ mean_of u) × Fits m s lefts rights v
  slot_back u t old f g z =
      let b = unpack_pack m s u t old f.accepted g.accepted (g.in_lefts ∙ sym f.in_lefts) (g.in_rights ∙ sym f.in_rights) (z ∙ size_is u f) in
      (b.0, b.1, back_same u t b.0 f g b.2, back_means u t b.0 f g b.2, back_fits u t b.0 f g b.2)
