-- The runs of document 01's cases on the two engines, by the models that the contracts of `new` and `run` cite. Definitions only.
use Rattle.sim.specs.declared.Simulator.{Simulator}
use Rattle.std.specs.Prelude.{List, [], ◌∷◌, ℕ, replicate, Err, None, Ok, Result}
use Rattle.outcome.specs.declared.Outcome.{Outcome}
use Rattle.outcome.specs.declared.Refusal.{Refusal}
use Rattle.outcome.specs.Numbers.{refusal_number}
use Rattle.machine.specs.declared.Machine.{Machine}
use Rattle.sim.specs.Model.Engine.{conf}
use Rattle.sim.specs.Model.Operations.{run_answer, Made, new_answer}
use Rattle.rle.specs.declared.ChainSim.{ChainSim}
use Rattle.rle.specs.Model.Engine as Chain
use Rattle.rle.specs.Model.Operations as Chains
use Rattle.rle_refines.specs.Meaning.{Stack, stack_of}

-- ---- an answer as document 01 gives it: how the run ended, or the number of its refusal

pub data Says : Type 0 where
  ended : Outcome → Says
  refused : (number : ℕ) → Says

abbrev pub refused_by : Refusal → Says
refused_by why = refused (refusal_number why)

abbrev pub says_of : Result Outcome Refusal → Says
says_of (Ok o) = ended o
says_of (Err why) = refused_by why

-- ---- the plain engine: a fresh one with 64 cells a tape, and a run of it

abbrev pub run_fresh : Machine → List ℕ → ℕ → Made → Result Simulator Refusal → Says
run_fresh m s fuel a (Err why) = refused_by why
run_fresh m s fuel a (Ok v) = says_of (run_answer m s None fuel (conf v a.c0 a.c1 a.c2)).answer

abbrev pub cells : List ℕ
cells = replicate 64 7

abbrev pub plain : Machine → List ℕ → (word : List ℕ) (fuel : ℕ) → Says
plain m s w fuel =
    let a : Made = new_answer m s w cells cells cells in
    run_fresh m s fuel a a.answer

-- ---- the run-length engine: a fresh one with n places on the left and 8 on the right

abbrev pub places : ℕ → List ℕ
places n = replicate n 7

abbrev pub on_fresh : {A : Type 0} → Result ChainSim Refusal → (Refusal → A) → (ChainSim → A) → A
on_fresh (Err why) turned made = turned why
on_fresh (Ok v) turned made = made v

abbrev pub from_fresh : {A : Type 0} → (lefts : ℕ) → Machine → (table word : List ℕ) → (Refusal → A) → (Chain.Conf → A) → A
from_fresh n m s w turned made =
    let a : Chains.Made = Chains.new_answer m s w (places n) (places n) (places 8) (places 8) in
    on_fresh a.answer turned (λ v. made (Chain.conf v (places n) (places n) a.rs a.rl))

-- runs one after the other: the last answer, and the number of macro steps that the engine has made by then
abbrev pub runs : Machine → List ℕ → (fuel : ℕ) (later : List ℕ) → Chain.Conf → Says × ℕ
runs m s fuel [] σ =
    let g : Chains.Given = Chains.run_answer m s None fuel σ in
    (says_of g.answer, g.at.sim.macros)
runs m s fuel (next ∷ later) σ = runs m s next later (Chains.run_answer m s None fuel σ).at

abbrev pub chain_with : (lefts : ℕ) → Machine → (table word : List ℕ) → (fuel : ℕ) (later : List ℕ) → Says × ℕ
chain_with n m s w fuel later = from_fresh n m s w (λ why. (refused_by why, 0)) (runs m s fuel later)

-- the answer of one run
abbrev pub chain : Machine → (table word : List ℕ) → (fuel : ℕ) → Says
chain m s w fuel = (chain_with 8 m s w fuel []).0

-- the two stacks of a fresh engine, or the refusal
pub data Stacks : Type 0 where
  none : Refusal → Stacks
  stacks : (left right : Stack) → Stacks

abbrev pub stacks_of : Machine → (table word : List ℕ) → Stacks
stacks_of m s w = from_fresh 8 m s w none (λ σ. stacks (stack_of (Chain.left_of σ)) (stack_of (Chain.right_of σ)))
