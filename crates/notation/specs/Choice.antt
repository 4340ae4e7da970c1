-- A choice by a test (`pick`), and the conjunction of two tests (`both`). Every definition of the project that tests something uses these two. Definitions only.
use Rattle.std.specs.Prelude.{Bool, true, false}

unfoldable pub pick : {A : Type 0} → Bool → A → A → A
pick true a b = a
pick false a b = b

unfoldable pub both : Bool → Bool → Bool
both true b = b
both false b = false
