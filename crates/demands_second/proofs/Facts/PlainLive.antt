-- "Bytes of the lent buffer past the length are never read": the plain engine's questions answer alike where engines differ there alone. Assumes nothing.
use Rattle.std.specs.Prelude.{◌≡◌, refl, Bool, true, false, List, ℕ, ◌<◌, eqb, ltb, ℤ, Err, Ok, Result, ⊤}
use Rattle.std.proofs.Math.Path.{ap}
use Rattle.std.proofs.Common.{◌∙◌}
use Rattle.notation.specs.Choice.{pick}
use Rattle.symbol.specs.Kinds.{symbol_of}
use Rattle.symbol.specs.declared.Dir.{Dir}
use Rattle.outcome.specs.declared.Refusal.{Refusal}
use Rattle.outcome.specs.declared.Refusal.TheVariants as Why
use Rattle.machine.specs.declared.Machine.{Machine}
use Rattle.machine.specs.Model.Check.{demand, checked_on}
use Rattle.tape.specs.Model.Moves.{Held, held}
use Rattle.tape.specs.Model.Questions.{cell_of, non_blank_of, count_of, window_of, find_of}
use Rattle.sim.specs.Model.Engine.{Conf, tape0, tape1, tape2}
use Rattle.sim.specs.Model.Questions.{held_at, question_check, asked_on, get_answer, extent_answer, count_answer, window_into, find_answer}
use Rattle.sim_refines.specs.Lent.{SameFirst, SameLive}
use Rattle.sim_refines.proofs.Facts.LiveCells.{Alike, alike_reads, cell_same, non_blank_same, counts_same, window_same, find_same}
use Rattle.sim_refines.proofs.Facts.NeverRead.{alive0, alive1, alive2, engine_check_same}
use Rattle.demands_second.proofs.Facts.PlainQuestions.{asked_says, has_1, has_2}

-- ---- the tape with a given number

numbered : (a b : Bool) → Held → Held → Held → Held
numbered a b x y z = held (pick a x.tape (pick b y.tape z.tape)) (pick a x.cells (pick b y.cells z.cells))

alike_cases : (a b : Bool) (x y z u v w : Held) → Alike x u → (b ≡ true → Alike y v) → (a ≡ false → b ≡ false → Alike z w) → Alike (numbered a b x y z) (numbered a b u v w)
unfolding numbered pick
alike_cases true b x y z u v w f g h = f
alike_cases false true x y z u v w f g h = g refl
alike_cases false false x y z u v w f g h = h refl refl

module _ (m : Machine) (s : List ℕ) (i : ℕ) (σ τ : Conf) (a : SameLive m σ τ) where
  held_alike : i < m.tapes → Alike (held_at i σ) (held_at i τ)
  unfolding numbered
  held_alike there = alike_cases (eqb i 0) (eqb i 1) (tape0 σ) (tape1 σ) (tape2 σ) (tape0 τ) (tape1 τ) (tape2 τ) (alive0 m σ τ a)
      (λ b. alive1 m σ τ a (has_1 m s i τ there b)) (λ c b. alive2 m σ τ a (has_2 m s i τ there c b))

  -- ---- a question that reads only the first cells

  check_same : question_check m s i σ ≡ question_check m s i τ
  unfolding question_check
  check_same = ap (λ c. checked_on c (demand (ltb i m.tapes) Why.Misfit (Ok tt))) (engine_check_same m σ τ a s)

  asked_same : {A : Type 0} (refused : Refusal → A) (F : Held → A) → ((c : List ℕ) → SameFirst (held_at i τ).tape.len c (held_at i τ).cells → F (held (held_at i τ).tape c) ≡ F (held_at i τ))
      → asked_on (question_check m s i σ) refused (F (held_at i σ)) ≡ asked_on (question_check m s i τ) refused (F (held_at i τ))
  asked_same refused F f = ap (λ c. asked_on c refused (F (held_at i σ))) check_same ∙ by (question_check m s i τ) refl
    where
      by : (c : Result ⊤ Refusal) → question_check m s i τ ≡ c → asked_on c refused (F (held_at i σ)) ≡ asked_on c refused (F (held_at i τ))
      by (Err why) e = refl
      by (Ok tt) e =
          let l : Alike (held_at i σ) (held_at i τ) = held_alike (asked_says m s i τ e).0 in
          alike_reads F (held_at i σ) (held_at i τ) l (f (held_at i σ).cells l.cells)

  -- ---- the five questions

  pub get_live : (z : ℤ) → get_answer m s i z σ ≡ get_answer m s i z τ
  unfolding get_answer
  get_live z = asked_same Err (λ h. Ok (symbol_of (cell_of h z))) (λ c e. ap (λ x. Ok (symbol_of x)) (cell_same (held_at i τ).tape c (held_at i τ).cells e z))

  pub span_live : extent_answer m s i σ ≡ extent_answer m s i τ
  unfolding extent_answer
  span_live = asked_same Err (λ h. Ok (non_blank_of h)) (λ c e. ap Ok (non_blank_same _ c _ e))

  pub count_live : count_answer m s i σ ≡ count_answer m s i τ
  unfolding count_answer
  count_live = asked_same Err (λ h. Ok (count_of h)) (λ c e. ap Ok (counts_same _ c _ e))

  pub window_live : (z : ℤ) (out : List ℕ) → window_into m s i z σ out ≡ window_into m s i z τ out
  unfolding window_into
  window_live z out = asked_same (λ why. out) (λ h. window_of h z out) (λ c e. window_same _ c _ e z out)

  pub find_live : (z : ℤ) (d : Dir) → find_answer m s i z d σ ≡ find_answer m s i z d τ
  unfolding find_answer
  find_live z d = asked_same Err (λ h. Ok (find_of h z d)) (λ c e. ap Ok (find_same _ c _ e z d))
