-- Answers across the C boundary. Definitions only.
use Rattle.outcome.specs.declared.Outcome.{Outcome}
use Rattle.symbol.specs.declared.Symbol.{Symbol}
use Rattle.outcome.specs.declared.Status.{Status}
use Rattle.std.specs.Prelude.{List, ℕ, set, Err, None, Ok, Option, Result, Some, ℤ, ⊤}
use Rattle.symbol.specs.Model.{raised_of}
use Rattle.outcome.specs.declared.Refusal.{Refusal}
use Rattle.outcome.specs.declared.Values.{Values}
use Rattle.outcome.specs.Numbers.{refusal_number, place_of, values_of, status_number}
use Rattle.tape.specs.declared.Span.{Span}

-- ---- answers: a number as the result, 0 or the refusal's, and values in the first places of a slice

unfoldable pub with_five : List ℕ → (a b c d e : ℕ) → List ℕ
with_five xs a b c d e = set (set (set (set (set xs 0 a) 1 b) 2 c) 3 d) 4 e

abbrev pub place_out : Option ℕ → List ℕ → List ℕ
place_out (Some i) xs = set xs 0 i
place_out None xs = xs

-- a refusal gives its place, where it has one, and else writes nothing
abbrev pub refused_out : Refusal → List ℕ → List ℕ
refused_out why xs = place_out (place_of why) xs

-- the number of a result: 0, or its refusal's
abbrev pub result_code : {A : Type 0} → Result A Refusal → ℕ
result_code (Ok x) = 0
result_code (Err why) = refusal_number why

-- what a result writes: its value as `writes` says, or its refusal's place
abbrev pub result_out : {A : Type 0} → (writes : A → List ℕ → List ℕ) → Result A Refusal → List ℕ → List ℕ
result_out writes (Ok x) xs = writes x xs
result_out writes (Err why) xs = refused_out why xs

-- ---- the values of calls

abbrev pub unit_out : ⊤ → List ℕ → List ℕ
unit_out x xs = xs

abbrev pub values_out : Values → List ℕ → List ℕ
values_out v xs = with_five xs v.number v.steps v.state v.pattern v.dir

abbrev pub outcome_out : Outcome → List ℕ → List ℕ
outcome_out o xs = values_out (values_of o) xs

abbrev pub status_out : Status → List ℕ → List ℕ
status_out s xs = set xs 0 (status_number s)

abbrev pub number_out : ℕ → List ℕ → List ℕ
number_out n xs = set xs 0 n

-- ---- the values of questions

abbrev pub symbol_out : Symbol → List ℕ → List ℕ
symbol_out s xs = set xs 0 s.0

-- positions are given raised by 2^63
abbrev pub span_out : Option Span → List ℕ → List ℕ
span_out None xs = set xs 0 0
span_out (Some x) xs = set (set (set xs 0 1) 1 (raised_of x.from)) 2 (raised_of x.to)

abbrev pub spot_out : Option ℤ → List ℕ → List ℕ
spot_out (Some z) xs = set (set xs 0 1) 1 (raised_of z)
spot_out None xs = set xs 0 0
