-- A refused exported call leaves everything as it was where its operation does so. Assumes nothing.
use Rattle.machine.specs.declared.Action.{Action}
use Rattle.tape.specs.declared.Span.{Span}
use Rattle.machine.specs.declared.Machine.{Machine}
use Rattle.symbol.specs.declared.Symbol.{Symbol}
use Rattle.outcome.specs.declared.Status.{Status}
use Rattle.std.specs.Prelude.{◌≡◌, List, ℕ, set, Err, None, Ok, Option, Result, Some, ℤ, ⊤}
use Rattle.rle.specs.declared.ChainSim.{ChainSim}
use Rattle.sim.specs.declared.Simulator.{Simulator}
use Rattle.std.proofs.Math.Path.{refl, ap}
use Rattle.std.proofs.Common.{subst, ◌∙◌, arith}
use Rattle.outcome.specs.declared.Outcome.{Outcome}
use Rattle.outcome.specs.declared.Refusal.{Refusal}
use Rattle.outcome.specs.Numbers.{refusal_number, place_of}
use Rattle.sim.specs.Model.Engine.{Conf, conf}
use Rattle.sim.specs.Model.Operations.{given, step_given, made}
use Rattle.rle_stack.specs.Model.{Side}
use Rattle.rle_records.specs.declared.Run.{Run}
use Rattle.rle.specs.Model.Records.{side_into}
use Rattle.rle.specs.Model.Engine as Chains
use Rattle.rle.specs.Model.Operations as Chained
use Rattle.timeline_rule.specs.Model.Timeline.{Reply, refused, answered}
use Rattle.timeline_rule.specs.Model.Kind.{Kind, TimelineOf}
use Rattle.sim_slots.specs.Model.Kind.{plain_kind}
use Rattle.rle_slots.specs.Model.Kind.{chain_kind}
use Rattle.sim_timeline.specs.Model as PlainTimes
use Rattle.rle_timeline.specs.Model as ChainTimes
use Rattle.capi_engines.specs.Model.Engines.{engine_of, with_engine, chain_of, times_from}
use Rattle.capi_numbers.specs.Model.Answers.{place_out, refused_out}
use Rattle.capi_numbers.specs.Model.Timelines.{timeline_new_call}
use Rattle.capi_sim.specs.Model.Calls.{call, new_call, step_call, ran_call}
use Rattle.capi_sim.specs.Model.Timelines.{timeline_call, moved_call}
use Rattle.capi_rle.specs.Model.Calls.{chain_call, chain_new_call, chain_ran_call}
use Rattle.capi_rle.specs.Model.Timelines.{chain_timeline_call, chain_moved_call}
use Rattle.demands_first.specs.FirstClaims.{refusal_of}
use Rattle.demands_first.specs.FirstTimeline.{of_reply}
use Rattle.capi_laws.proofs.Facts.RoundTrips.{engine_kept, chain_kept, times_kept}
use Rattle.capi_laws.specs.Refusals.{OutKept, Unchanged, Refuses, Checks, Fills, Looks, Reads, Writes, Lists, Gets, Spans, Counts, Finds, Makes, Steps, Runs, ChainMakes, ChainRuns, Begins, Moves, ChainMoves}

-- ---- `out`

placed : (p : Option ℕ) (out : List ℕ) → ((i : ℕ) → p ≡ Some i → place_out p out ≡ set out 0 i) × (p ≡ None → place_out p out ≡ out)
placed (Some j) out = (λ i e. ap (λ p. place_out p out) e, λ e. ap (λ p. place_out p out) e)
placed None out = (λ i e. ap (λ p. place_out p out) e, λ e. refl)

out_kept : (why : Refusal) (out : List ℕ) → OutKept why out (refused_out why out)
out_kept why out = record { named = (placed (place_of why) out).0; unnamed = (placed (place_of why) out).1 }

turned : {X : Type 0} {as_it_was : List ℕ → X} {left : X} (why : Refusal) (out : List ℕ) → left ≡ as_it_was (refused_out why out) → Unchanged why out as_it_was left
turned why out k = record { after = refused_out why out; out_kept = out_kept why out; kept = k }

-- an answer that is no refusal, and one that is
accepts : {X : Type 0} {result : X → ℕ} {out : List ℕ} {as_it_was : ℕ → List ℕ → X} {left : X} → result left ≡ 0 → Refuses (Ok tt) result out as_it_was left
accepts z = record { accepted = λ e. z; unchanged = λ why e. absurd (not_refused why e) }
  where
    not_refused : (why : Refusal) → ◌≡◌ {A = Result ⊤ Refusal} (Ok tt) (Err why) → ⊥
    not_refused why e = let z : ◌≡◌ {A = ℕ} 0 1 = cc in omega arith

refuses : {X : Type 0} {result : X → ℕ} {as_it_was : ℕ → List ℕ → X} {left : X} (why : Refusal) (out : List ℕ)
    → left ≡ as_it_was (refusal_number why) (refused_out why out) → Refuses (Err why) result out as_it_was left
refuses {X} {result} {as_it_was} {left} why out k = record { accepted = λ e. absurd (not_accepted e); unchanged = λ x e. subst (λ y. Unchanged y out (as_it_was (refusal_number y)) left) (same x e) (turned why out k) }
  where
    not_accepted : ◌≡◌ {A = Result ⊤ Refusal} (Err why) (Ok tt) → ⊥
    not_accepted e = let z : ◌≡◌ {A = ℕ} 0 1 = cc in omega arith

    same : (x : Refusal) → ◌≡◌ {A = Result ⊤ Refusal} (Err why) (Err x) → why ≡ x
    same x e = cc

-- ---- checks and questions

pub checked : (a : Result ⊤ Refusal) (out : List ℕ) → Checks a out
checked (Ok tt) out = accepts refl
checked (Err why) out = refuses why out refl

pub filled : (a : Result ⊤ Refusal) (out before after : List ℕ) → ((why : Refusal) → a ≡ Err why → ◌≡◌ {A = (Result ⊤ Refusal) × List ℕ} (a, after) (Err why, before))
    → Fills a out before after
filled (Ok tt) out before after k = accepts refl
filled (Err why) out before after k = refuses why out (ap (λ x. (refusal_number why, refused_out why out, x.1)) (k why refl))

pub looked : (a : Result (Option Action) Refusal) (out : List ℕ) → Looks a out
looked (Ok x) out = accepts refl
looked (Err why) out = refuses why out refl

pub line_was_read : (a : Result Machine Refusal) (out before after : List ℕ) → ((why : Refusal) → refusal_of a ≡ Err why → ◌≡◌ {A = (Result Machine Refusal) × List ℕ} (a, after) (Err why, before))
    → Reads a out before after
line_was_read (Ok m) out before after k = accepts refl
line_was_read (Err why) out before after k = refuses why out (ap (λ x. (refusal_number why, refused_out why out, x.1)) (k why refl))

pub line_was_written : (a : Result ℕ Refusal) (out before after : List ℕ)
    → ((why : Refusal) → refusal_of a ≡ Err why → ◌≡◌ {A = (Result ℕ Refusal) × List ℕ} (a, after) (Err why, before)) → Writes a out before after
line_was_written (Ok n) out before after k = accepts refl
line_was_written (Err why) out before after k = refuses why out (ap (λ x. (refusal_number why, refused_out why out, x.1)) (k why refl))

pub listed : (a : Result ℕ Refusal) (x : Side) (runs : List Run) (out : List ℕ) → Lists a out runs (side_into a x runs)
listed (Ok n) x runs out = accepts refl
listed (Err why) x runs out = refuses why out refl

pub got : (a : Result Symbol Refusal) (out : List ℕ) → Gets a out
got (Ok x) out = accepts refl
got (Err why) out = refuses why out refl

pub extent : (a : Result (Option Span) Refusal) (out : List ℕ) → Spans a out
extent (Ok x) out = accepts refl
extent (Err why) out = refuses why out refl

pub counted : (a : Result ℕ Refusal) (out : List ℕ) → Counts a out
counted (Ok x) out = accepts refl
counted (Err why) out = refuses why out refl

pub located : (a : Result (Option ℤ) Refusal) (out : List ℕ) → Finds a out
located (Ok x) out = accepts refl
located (Err why) out = refuses why out refl

-- ---- the plain engine

module _ (state : ℕ) (engine out c0 c1 c2 : List ℕ) where
  abbrev σ : Conf
  σ = conf (engine_of state engine) c0 c1 c2

  pub made_kept : (f : Result Simulator Refusal) (d0 d1 d2 : List ℕ) → ((why : Refusal) → refusal_of f ≡ Err why → made f d0 d1 d2 ≡ made (Err why) c0 c1 c2)
      → Makes state engine out c0 c1 c2 (made f d0 d1 d2)
  unfolding new_call
  made_kept (Ok v) d0 d1 d2 k = accepts refl
  made_kept (Err why) d0 d1 d2 k = refuses why out (ap (λ g. new_call g state engine out) (k why refl))

  same : (why : Refusal) → call (refusal_number why) σ.sim.state.0 (with_engine engine σ.sim) (refused_out why out) c0 c1 c2 ≡ call (refusal_number why) state engine (refused_out why out) c0 c1 c2
  unfolding engine_of
  same why = ap (λ xs. call (refusal_number why) state xs (refused_out why out) c0 c1 c2) (engine_kept state engine)

  pub stepped : (τ : Conf) (a : Result Status Refusal) → ((why : Refusal) → refusal_of a ≡ Err why → step_given τ a ≡ step_given σ (Err why))
      → Steps state engine out c0 c1 c2 (step_given τ a)
  unfolding step_call
  stepped τ (Ok x) k = accepts refl
  stepped τ (Err why) k = refuses why out (ap (λ g. step_call g engine out) (k why refl) ∙ same why)

  pub ran : (τ : Conf) (a : Result Outcome Refusal) → ((why : Refusal) → refusal_of a ≡ Err why → given τ a ≡ given σ (Err why))
      → Runs state engine out c0 c1 c2 (given τ a)
  unfolding ran_call
  ran τ (Ok x) k = accepts refl
  ran τ (Err why) k = refuses why out (ap (λ g. ran_call g engine out) (k why refl) ∙ same why)

-- ---- the run-length engine

module _ (state cur : ℕ) (engine out ls ll rs rl : List ℕ) where
  abbrev ω : Chains.Conf
  ω = Chains.conf (chain_of state cur engine) ls ll rs rl

  pub chain_made : (f : Result ChainSim Refusal) (ts tl : List ℕ) → ((why : Refusal) → refusal_of f ≡ Err why → Chained.made f ts tl ≡ Chained.made (Err why) rs rl)
      → ChainMakes state cur engine out ls ll rs rl (Chained.made f ts tl)
  unfolding chain_new_call
  chain_made (Ok v) ts tl k = accepts refl
  chain_made (Err why) ts tl k = refuses why out (ap (λ g. chain_new_call g state cur engine out ls ll) (k why refl))

  pub chain_ran : (τ : Chains.Conf) (a : Result Outcome Refusal) → ((why : Refusal) → refusal_of a ≡ Err why → Chained.given τ a ≡ Chained.given ω (Err why))
      → ChainRuns state cur engine out ls ll rs rl (Chained.given τ a)
  unfolding chain_ran_call chain_of
  chain_ran τ (Ok x) k = accepts refl
  chain_ran τ (Err why) k = refuses why out
      (ap (λ g. chain_ran_call g engine out) (k why refl)
      ∙ ap (λ xs. chain_call (refusal_number why) state cur xs (refused_out why out) ls ll rs rl) (chain_kept state cur engine))

-- ---- timelines

pub begun : (X : Kind) (times out store t : List ℕ) (a : Reply (TimelineOf X))
    → ((why : Refusal) → of_reply a ≡ Err why → ◌≡◌ {A = Reply (TimelineOf X) × List ℕ} (a, t) (refused why, store)) → Begins X times out store (a, t)
unfolding timeline_new_call
begun X times out store t (answered w) k = accepts refl
begun X times out store t (refused why) k = refuses why out (ap (λ g. timeline_new_call X g times out) (k why refl))

pub moved : (state : ℕ) (engine times out c0 c1 c2 store : List ℕ) (a : Reply Outcome) (v : TimelineOf plain_kind)
    → ((why : Refusal) → of_reply a ≡ Err why
    → ◌≡◌ {A = Reply Outcome × TimelineOf plain_kind} (a, v) (refused why, PlainTimes.with_lent (PlainTimes.tl (engine_of state engine) (times_from times)) c0 c1 c2 store))
    → Moves state engine times out c0 c1 c2 store (a, v)
unfolding moved_call engine_of
moved state engine times out c0 c1 c2 store (answered x) v k = accepts refl
moved state engine times out c0 c1 c2 store (refused why) v k = refuses why out
    (ap (λ g. moved_call g engine times out) (k why refl)
    ∙ (λ i. timeline_call (refusal_number why) state (engine_kept state engine i) (times_kept times i) (refused_out why out) c0 c1 c2 store))

pub chain-moved : (state cur : ℕ) (engine times out ls ll rs rl store : List ℕ) (a : Reply Outcome) (v : TimelineOf chain_kind)
    → ((why : Refusal) → of_reply a ≡ Err why
    → ◌≡◌ {A = Reply Outcome × TimelineOf chain_kind} (a, v) (refused why, ChainTimes.with_lent (ChainTimes.tl (chain_of state cur engine) (times_from times)) ls ll rs rl store))
    → ChainMoves state cur engine times out ls ll rs rl store (a, v)
unfolding chain_moved_call chain_of
chain-moved state cur engine times out ls ll rs rl store (answered x) v k = accepts refl
chain-moved state cur engine times out ls ll rs rl store (refused why) v k = refuses why out
    (ap (λ g. chain_moved_call g engine times out) (k why refl)
    ∙ (λ i. chain_timeline_call (refusal_number why) state cur (chain_kept state cur engine i) (times_kept times i) (refused_out why out) ls ll rs rl store))
