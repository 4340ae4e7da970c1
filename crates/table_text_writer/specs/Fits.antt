-- Tables whose entries have a text: each symbol written is a digit, each next state a letter. Definitions only.
use Rattle.machine.specs.declared.Action.{Action}
use Rattle.std.specs.Prelude.{List, ℕ, ◌≤◌, None, Option, Some}
use Rattle.machine.specs.Layout.{entry_at}

abbrev pub Printable : Option Action → Type 0
Printable None = Unit {0}
Printable (Some a) = (a.write0.0 ≤ 9) × (a.next.0 ≤ 25)

unfoldable pub AllPrintable : List ℕ → Type 0
AllPrintable s = (i : ℕ) → Printable (entry_at s i)
