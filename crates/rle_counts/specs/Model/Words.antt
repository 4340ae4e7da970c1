-- A word as a stack of runs: how it is pushed, how many runs it makes, and the check before it. Definitions only.
use Rattle.outcome.specs.declared.Refusal.{Refusal}
use Rattle.std.specs.Prelude.{Bool, List, ℕ, zero, suc, ◌+◌, ◌-◌, eqb, leb, length, get_or, Ok, Result, ⊤}
use Rattle.notation.specs.Choice.{pick, both}
use Rattle.notation.specs.Limits.{runs_most}
use Rattle.outcome.specs.declared.Refusal.TheVariants as Why
use Rattle.machine.specs.declared.Machine.{Machine}
use Rattle.machine.specs.Model.Check.{demand, checked_on, table_check}
use Rattle.machine.specs.Model.Word.{word_check}
use Rattle.rle_stack.specs.Model.{Side, push_of}

-- the number of runs after a push of symbol s on a top run of symbol `top`
abbrev pub more_of : (count top s : ℕ) → ℕ
more_of count top s = pick (eqb s top) count (count + 1)

-- symbols n to 1 of the word are pushed, in this order
unfoldable pub laid_of : List ℕ → ℕ → Side → Side
laid_of w zero x = x
laid_of w (suc n) x = laid_of w n (push_of (get_or w (suc n) 0) 1 x)

-- the word past its first symbol is pushed; the first symbol is under the head
abbrev pub word_of : List ℕ → Side → Side
word_of w x = laid_of w (length w - 1) x

-- the number of runs after these pushes, on a side of `count` runs with symbol `top` on top
unfoldable pub runs_of : List ℕ → ℕ → (top count : ℕ) → ℕ
runs_of w zero top count = count
runs_of w (suc n) top count =
    let s : ℕ = get_or w (suc n) 0 in
    pick (eqb s top) (runs_of w n top count) (runs_of w n s (count + 1))

-- false for "fewer right run places than the word's right stack has runs, or a run side over 1,048,576"
unfoldable pub fresh_sizes : List ℕ → (lefts rights : ℕ) → Bool
fresh_sizes w l r = both (leb l runs_most) (both (leb r runs_most) (leb (runs_of w (length w - 1) 0 0) r))

-- the table check, then refusal 8, the word's refusals 9 and 10, then refusal 11
unfoldable pub fresh_check : Machine → (s w : List ℕ) → (lefts rights : ℕ) → Result ⊤ Refusal
fresh_check m s w l r =
    checked_on (table_check m s)
    (demand (eqb m.tapes 1) Why.SeveralTapes
    (checked_on (word_check m.symbols w) (demand (fresh_sizes w l r) Why.BufferSize (Ok tt))))
