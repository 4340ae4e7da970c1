-- A run-length engine that fits, with given numbers of places, fits after an advance. Assumes nothing.
use Rattle.std.specs.Prelude.{◌≡◌, true, List, ℕ, ◌+◌, ◌≤◌}
use Rattle.std.proofs.Common.{sym, ◌∙◌, subst}
use Rattle.notation.specs.Limits.{steps_most}
use Rattle.machine.specs.declared.Machine.{Machine}
use Rattle.table_machine.specs.Tables.{table_of, TableOf}
use Rattle.rle.specs.Model.Engine.{Conf}
use Rattle.rle.specs.Fits.{places_fit}
use Rattle.rle_refines.specs.Statement.{Kept}
use Rattle.rle_refines.proofs.Facts.Operations.{Passed, engine_says, engine_passes}
use Rattle.timeline_laws.specs.Laws.{Advance}
use Rattle.timeline_laws.specs.TableRun.{machine}
use Rattle.rle_slots.specs.Model.Advance.{advance_of}
use Rattle.rle_slots.specs.Model.Slots.{lefts_of, rights_of}
use Rattle.rle_timeline_laws.specs.Meaning.{Meant, mean_of, next_of, NoRoom}
use Rattle.rle_timeline_laws.proofs.Facts.FitsWith.{Fits}
use Rattle.rle_timeline_laws.proofs.Facts.Advance.{same_lefts, same_rights, advance_at, kept, advance_law}

-- the check of the places depends on their numbers alone
places_same : (σ e : Conf) → lefts_of e ≡ lefts_of σ → rights_of e ≡ rights_of σ → places_fit σ ≡ true → places_fit e ≡ true
unfolding places_fit
places_same σ e l r h = rw (l, r) h

module _ (m : Machine) (s : List ℕ) (lefts rights : ℕ) where
  pub fits_passed : (σ : Conf) → Fits m s lefts rights σ → Passed m s σ
  fits_passed σ f = engine_says m s σ f.accepted

  -- its step count is within the limit
  pub steps_low : (σ : Conf) → Fits m s lefts rights σ → σ.sim.steps ≤ steps_most
  steps_low σ f = (fits_passed σ f).fits.steps_in

  -- if σ fits and a run from σ to e keeps what it must, then e fits
  pub kept_fits : (σ e : Conf) → Fits m s lefts rights σ → Kept m σ e → Fits m s lefts rights e
  kept_fits σ e f k =
      let p : Passed m s σ = fits_passed σ f in
      record {
        accepted = engine_passes m s e (record {
          table = p.table;
          single = p.single;
          places = places_same σ e (same_lefts m σ e k) (same_rights m σ e k) p.places;
          fits = k.fits;
        });
        in_lefts = same_lefts m σ e k ∙ f.in_lefts;
        in_rights = same_rights m σ e k ∙ f.in_rights;
      }

  module _ (table : TableOf m (table_of m s)) (n : ℕ) (σ : Conf) (f : Fits m s lefts rights σ) (small : σ.sim.steps + n ≤ steps_most) where
    pub advance_fits : Fits m s lefts rights (advance_of m s n σ).1
    advance_fits =
        let p : Passed m s σ = fits_passed σ f in
        subst (Fits m s lefts rights) (sym (advance_at m s n σ)) (kept_fits σ _ f (kept m s table p.single n σ p.fits small))

    pub advances : Advance (machine m s table) Meant (λ x. x.config) (next_of m s) (NoRoom m s) n (mean_of σ) (advance_of m s n σ).0 (mean_of (advance_of m s n σ).1)
    advances =
        let p : Passed m s σ = fits_passed σ f in
        advance_law m s table p.single n σ p.fits small
