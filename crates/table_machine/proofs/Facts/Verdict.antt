-- A configuration has at most one verdict. Assumes nothing.
use Rattle.std.specs.Prelude.{◌≡◌, refl, ℕ, Option, Some}
use Rattle.std.proofs.Common.{sym, ap, ◌∙◌, subst}
use Rattle.symbol.specs.declared.Dir.{Dir}
use Rattle.outcome.specs.declared.Outcome.{Outcome}
use Rattle.machine.specs.declared.Action.{Action}
use Rattle.table_machine.specs.TableMachine.{Table, Config, entry, Stays, Sideways, Walks, chain_at, Verdict, halts, stays, walks, goes}
use Rattle.table_machine.proofs.Facts.Run.{not_defined}

same_action : (x : Option Action) (a b : Action) → x ≡ Some a → x ≡ Some b → a ≡ b
same_action x a b h k = cc

not_both : (t : ℕ) (c : Config) (a : Action) (m : Dir) → Stays c a → Walks t c a m → ⊥
not_both t c a m s w = subst Sideways (sym w.moves ∙ s.still0) w.sideways

pub verdict_unique : (t : ℕ) (d : Table) (c : Config) (o p : Outcome) → Verdict t d c o → Verdict t d c p → o ≡ p
verdict_unique t d c o p (halts h) (halts k) = refl
verdict_unique t d c o p (halts h) (stays a k s) = absurd (not_defined (entry d c) a h k)
verdict_unique t d c o p (halts h) (walks a m k s) = absurd (not_defined (entry d c) a h k)
verdict_unique t d c o p (halts h) (goes a k s w) = absurd (not_defined (entry d c) a h k)
verdict_unique t d c o p (stays a h s) (halts k) = absurd (not_defined (entry d c) a k h)
verdict_unique t d c o p (stays a h s) (stays b k r) = refl
verdict_unique t d c o p (stays a h s) (walks b m k r) = absurd (not_both t c b m (rw (same_action (entry d c) a b h k) at s) r)
verdict_unique t d c o p (stays a h s) (goes b k r w) = absurd (r (rw (same_action (entry d c) a b h k) at s))
verdict_unique t d c o p (walks a m h s) (halts k) = absurd (not_defined (entry d c) a k h)
verdict_unique t d c o p (walks a m h s) (stays b k r) = absurd (not_both t c a m (rw (same_action (entry d c) b a k h) at r) s)
verdict_unique t d c o p (walks a m h s) (walks b n k r) =
    ap (chain_at c) (sym s.moves ∙ ap (λ (x : Action). x.dir0) (same_action (entry d c) a b h k) ∙ r.moves)
verdict_unique t d c o p (walks a m h s) (goes b k r w) = absurd (w m (rw (same_action (entry d c) a b h k) at s))
verdict_unique t d c o p (goes a h s v) (halts k) = absurd (not_defined (entry d c) a k h)
verdict_unique t d c o p (goes a h s v) (stays b k r) = absurd (s (rw (same_action (entry d c) b a k h) at r))
verdict_unique t d c o p (goes a h s v) (walks b m k r) = absurd (v m (rw (same_action (entry d c) b a k h) at r))
verdict_unique t d c o p (goes a h s v) (goes b k r w) = refl
