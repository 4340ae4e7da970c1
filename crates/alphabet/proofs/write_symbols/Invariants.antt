use Rattle.std.proofs.Common.{◌≡◌, ◌-◌, length}
use Rattle.notation.specs.Fill.{fill_from}
use Rattle.alphabet.specs.Model.{byte_at}
use Rattle.alphabet.proofs.write_symbols.Given as goal

abbrev pub invariant-loop-i : goal.invariant-loop-i
invariant-loop-i l =
    fill_from (byte_at l.glyphs l.word) (length l.word - l.i) l.i l.out ≡ fill_from (byte_at l.glyphs l.word) (length l.word) 0 l.initial.out
