-- The engine's meaning at step k and the table machine's configuration there, both from the step count of the first meaning on. Assumes nothing.
use Prim.Native.Nat.{ℕ, zero, suc, ◌+◌, ◌-◌, ◌≤◌, ◌<◌, min}
use Rattle.std.specs.Prelude.{◌≡◌, ◌⊎◌}
use Rattle.std.proofs.Math.Path.{refl, ap}
use Rattle.std.proofs.Common.{sym, ◌∙◌, subst, inl, inr, zero-add, suc-add}
use Rattle.std.proofs.Math.Decide.{dec_le}
use native.Mathlib.Omega.{arith}
use Rattle.timeline_rule.specs.Model.Engine.{Ops}
use Rattle.timeline_laws.specs.Automaton.{Automaton, iterate, run, reach}
use Rattle.timeline_laws.specs.Laws.{Laws}

pub iterate_add : {A : Type 0} (f : A → A) (m n : ℕ) (a : A) → iterate f m (iterate f n a) ≡ iterate f (m + n) a
unfolding iterate
iterate_add f zero n a = rw zero-add
iterate_add f (suc m) n a = rw suc-add (ap f (iterate_add f m n a))

-- induction from b on
from_on : (b : ℕ) (P : ℕ → Type 0) → P b → ((k : ℕ) → b ≤ k → P k → P (suc k)) → (k : ℕ) → b ≤ k → P k
from_on b P z f zero l = subst P low z
  where
    low : b ≡ 0
    low = omega arith
from_on b P z f (suc k) l = go (dec_le b k) (λ h. from_on b P z f k h)
  where
    here : ¬ (b ≤ k) → b ≡ suc k
    here h = omega arith

    go : Dec (b ≤ k) → (b ≤ k → P k) → P (suc k)
    go (yes h) i = f k h (i h)
    go (no h) i = subst P (here h) z

-- ---- iterating from step b on

module _ {A : Type 0} (f : A → A) (b : ℕ) (a : A) where
  abbrev on : ℕ → A
  on n = iterate f (n - b) a

  on_low : (n : ℕ) → n ≤ b → on n ≡ a
  unfolding iterate
  on_low n l = ap (λ d. iterate f d a) none
    where
      none : n - b ≡ 0
      none = omega arith

  on_suc : (n : ℕ) → b ≤ n → on (suc n) ≡ f (on n)
  unfolding iterate
  on_suc n l = ap (λ d. iterate f d a) more
    where
      more : suc n - b ≡ suc (n - b)
      more = omega arith

  on_add : (d n : ℕ) → b ≤ n → iterate f d (on n) ≡ on (d + n)
  on_add d n l = iterate_add f d (n - b) a ∙ ap (λ k. iterate f k a) sum
    where
      sum : d + (n - b) ≡ d + n - b
      sum = omega arith

-- ---- the table machine's run from c on

module _ (M : Automaton) (c : M.Config) where
  -- the step count of c
  abbrev first : ℕ
  first = M.steps c

  pub run_low : (n : ℕ) → n ≤ first → run M c n ≡ c
  unfolding run
  run_low n l = on_low M.step first c n l

  run_suc : (n : ℕ) → first ≤ n → run M c (suc n) ≡ M.step (run M c n)
  unfolding run
  run_suc n l = on_suc M.step first c n l

  run_add : (d n : ℕ) → first ≤ n → iterate M.step d (run M c n) ≡ run M c (d + n)
  unfolding run
  run_add d n l = on_add M.step first c d n l

  begins : reach M c first ≡ first
  begins = ap M.steps (run_low first (omega arith))

  -- a machine that has not halted before t has made its steps up to t
  pub reach_runs : (t : ℕ) → first ≤ t → ((j : ℕ) → first ≤ j → j < t → ¬ M.Halted (run M c j)) → reach M c t ≡ t
  reach_runs = from_on first (λ t. ((j : ℕ) → first ≤ j → j < t → ¬ M.Halted (run M c j)) → reach M c t ≡ t) (λ h. begins)
      (λ t l i h. ap M.steps (run_suc t l) ∙ (M.adds (run M c t) (h t l (omega arith)) ∙ ap suc (i (λ j a b. h j a (omega arith)))))

  pub run_stays : (h d : ℕ) → first ≤ h → M.Halted (run M c h) → run M c (d + h) ≡ run M c h
  run_stays h zero l q = rw zero-add
  run_stays h (suc d) l q = rw suc-add (run_suc (d + h) (omega arith) ∙ (ap M.step (run_stays h d l q) ∙ M.stays (run M c h) q))

  stays_to : (h t : ℕ) → first ≤ h → h ≤ t → M.Halted (run M c h) → run M c t ≡ run M c h
  stays_to h t l g q = subst (λ n. run M c n ≡ run M c h) up (run_stays h (t - h) l q)
    where
      up : t - h + h ≡ t
      up = omega arith

  -- a machine that halts at h stays there
  pub reach_halts : (h t : ℕ) → first ≤ h → first ≤ t → M.Halted (run M c h) → ((j : ℕ) → first ≤ j → j < h → ¬ M.Halted (run M c j)) → reach M c t ≡ min t h
  reach_halts h t a b q r = go (dec_le h t)
    where
      go : Dec (h ≤ t) → reach M c t ≡ min t h
      go (yes l) = omega (arith, ap M.steps (stays_to h t a l q), reach_runs h a r)
      go (no l) = omega (arith, reach_runs t b (λ j x y. r j x (omega arith)))

  -- the configuration at step t is the one at its own step count
  pub run_reach : (t : ℕ) → first ≤ t → (first ≤ reach M c t) × (reach M c t ≤ t) × (run M c (reach M c t) ≡ run M c t)
  run_reach = from_on first (λ t. (first ≤ reach M c t) × (reach M c t ≤ t) × (run M c (reach M c t) ≡ run M c t))
      (omega (arith, begins), omega (arith, begins), ap (run M c) begins) (λ t l i. go t l i (M.halted? (run M c t)))
    where
      go : (t : ℕ) → first ≤ t → (first ≤ reach M c t) × (reach M c t ≤ t) × (run M c (reach M c t) ≡ run M c t) → Dec (M.Halted (run M c t))
          → (first ≤ reach M c (suc t)) × (reach M c (suc t) ≤ suc t) × (run M c (reach M c (suc t)) ≡ run M c (suc t))
      go t l i (yes q) =
          let same : run M c (suc t) ≡ run M c t = run_suc t l ∙ M.stays (run M c t) q in
          let steps : reach M c (suc t) ≡ reach M c t = ap M.steps same in
          (omega (arith, i.0), omega (arith, i.1), ap (run M c) steps ∙ (i.2 ∙ sym same))
      go t l i (no q) =
          let steps : reach M c (suc t) ≡ suc (reach M c t) = ap M.steps (run_suc t l) ∙ M.adds (run M c t) q in
          (omega (arith, i.0), omega (arith, i.1), ap (run M c) steps ∙ (run_suc (reach M c t) i.0 ∙ (ap M.step i.2 ∙ sym (run_suc t l))))

  -- a run to s and then d steps more is a run to s + d
  pub run_on_holds : (s d : ℕ) → first ≤ s → run M c (d + reach M c s) ≡ run M c (d + s)
  run_on_holds s d l = sym (run_add d (reach M c s) (run_reach s l).0) ∙ (ap (iterate M.step d) (run_reach s l).2 ∙ run_add d s l)

  pub run_real : M.Real c → (n : ℕ) → M.Real (run M c n)
  unfolding run iterate
  run_real r n = each (n - first)
    where
      each : (k : ℕ) → M.Real (iterate M.step k c)
      each zero = r
      each (suc k) = M.real_step (iterate M.step k c) (each k)

  -- a machine that never halts from a step on has not halted before it
  pub never_any : (q : ℕ) → first ≤ q → ((n : ℕ) → ¬ M.Halted (iterate M.step n (run M c q))) → (n : ℕ) → ¬ M.Halted (run M c n)
  never_any q l f n h = go (dec_le first n)
    where
      late : (n : ℕ) → first ≤ n → M.Halted (run M c n) → ⊥
      late n a h = f n (subst M.Halted (sym (run_stays n q a h) ∙ (ap (run M c) turn ∙ sym (run_add n q l))) h)
        where
          turn : q + n ≡ n + q
          turn = omega arith

      go : Dec (first ≤ n) → ⊥
      go (yes a) = late n a h
      go (no a) = late first (omega arith) (subst M.Halted (run_low n (omega arith) ∙ sym (run_low first (omega arith))) h)

-- ---- an engine's meanings from x on

module _ {M : Automaton} {O : Ops M.Out} (E : Laws M O) (x : E.Mean) where
  -- x's step count
  abbrev pub base : ℕ
  base = M.steps (E.config x)

  -- the meaning at step k
  unfoldable pub at : ℕ → E.Mean
  at k = iterate E.next (k - base) x

  abbrev pub Room : ℕ → Type 0
  Room k = (j : ℕ) → base ≤ j → j < k → ¬ E.NoRoom (at j)

  unfoldable pub pos : ℕ → ℕ
  pos k = M.steps (E.config (at k))

  pub at_low : (k : ℕ) → k ≤ base → at k ≡ x
  unfolding at
  at_low k l = on_low E.next base x k l

  at_suc : (k : ℕ) → base ≤ k → at (suc k) ≡ E.next (at k)
  unfolding at
  at_suc k l = on_suc E.next base x k l

  pub at_add : (d k : ℕ) → base ≤ k → iterate E.next d (at k) ≡ at (d + k)
  unfolding at
  at_add d k l = on_add E.next base x d k l

  pub pos_of : (j k : ℕ) → at j ≡ at k → pos j ≡ pos k
  unfolding pos
  pos_of j k q = ap (λ y. M.steps (E.config y)) q

  pub pos_is : (k : ℕ) → pos k ≡ M.steps (E.config (at k))
  unfolding pos
  pos_is k = refl

  pub pos_base : pos base ≡ base
  unfolding pos
  pos_base = ap (λ y. M.steps (E.config y)) (at_low base (omega arith))

module _ {M : Automaton} {O : Ops M.Out} (E : Laws M O) (x : E.Mean) (good : E.Good x) where
  pub good_at : (k : ℕ) → base E x ≤ k → Room E x k → E.Good (at E x k)
  good_at = from_on (base E x) (λ k. Room E x k → E.Good (at E x k)) (λ r. subst E.Good (sym (at_low E x (base E x) (omega arith))) good)
      (λ k l i r. subst E.Good (sym (at_suc E x k l)) (E.next_good (at E x k) (i (λ j a b. r j a (omega arith))) (r k l (omega arith))))

  step_halted : (k : ℕ) → base E x ≤ k → E.Good (at E x k) → M.Halted (E.config (at E x k)) → at E x (suc k) ≡ at E x k
  step_halted k l g q = at_suc E x k l ∙ E.next_stays (at E x k) g q

  step_runs : (k : ℕ) → base E x ≤ k → E.Good (at E x k) → ¬ E.NoRoom (at E x k) → ¬ M.Halted (E.config (at E x k)) → pos E x (suc k) ≡ suc (pos E x k)
  unfolding pos
  step_runs k l g r q = ap (λ y. M.steps (E.config y)) (at_suc E x k l) ∙ (ap M.steps (E.next_is (at E x k) g r) ∙ M.adds (E.config (at E x k)) q)

  pub stays_at : (k d : ℕ) → base E x ≤ k → E.Good (at E x k) → M.Halted (E.config (at E x k)) → at E x (d + k) ≡ at E x k
  stays_at k zero l g q = rw zero-add
  stays_at k (suc d) l g q = rw suc-add (at_suc E x (d + k) (omega arith) ∙ (ap E.next (stays_at k d l g q) ∙ E.next_stays (at E x k) g q))

  pos_halted : (k : ℕ) → base E x ≤ k → E.Good (at E x k) → M.Halted (E.config (at E x k)) → pos E x (suc k) ≡ pos E x k
  pos_halted k l g q = pos_of E x (suc k) k (step_halted k l g q)

  -- the step count does not fall
  pub climb : (p d : ℕ) → base E x ≤ p → Room E x (d + p) → pos E x p ≤ pos E x (d + p)
  climb p zero l r = rw zero-add (omega arith)
  climb p (suc d) l r = rw suc-add (go (climb p d l (λ j a b. r j a (omega arith))) (M.halted? (E.config (at E x (d + p)))))
    where
      low : base E x ≤ d + p
      low = omega arith

      g : E.Good (at E x (d + p))
      g = good_at (d + p) low (λ j a b. r j a (omega arith))

      go : pos E x p ≤ pos E x (d + p) → Dec (M.Halted (E.config (at E x (d + p)))) → pos E x p ≤ pos E x (suc (d + p))
      go i (yes q) = omega (arith, pos_halted (d + p) low g q)
      go i (no q) = omega (arith, step_runs (d + p) low g (r (d + p) low (omega arith)) q)

  pub climb_to : (p k : ℕ) → base E x ≤ p → p ≤ k → Room E x k → pos E x p ≤ pos E x k
  climb_to p k b l r = subst (λ n. pos E x p ≤ pos E x n) up (climb p (k - p) b (λ j a h. r j a (omega arith)))
    where
      up : k - p + p ≡ k
      up = omega arith

  -- a machine that has halted at k has the same meaning at t
  pub halted_to : (k t : ℕ) → base E x ≤ k → k ≤ t → E.Good (at E x k) → M.Halted (E.config (at E x k)) → at E x t ≡ at E x k
  halted_to k t b l g q = subst (λ n. at E x n ≡ at E x k) up (stays_at k (t - k) b g q)
    where
      up : t - k + k ≡ t
      up = omega arith

  pub halted_room : (k t : ℕ) → base E x ≤ k → Room E x k → M.Halted (E.config (at E x k)) → Room E x t
  halted_room k t b r q j a l = go (dec_le k j)
    where
      go : Dec (k ≤ j) → ¬ E.NoRoom (at E x j)
      go (yes h) = λ n. E.no_room_runs (at E x k) (good_at k b r) (subst E.NoRoom (halted_to k j b h (good_at k b r) q) n) q
      go (no h) = r j a (omega arith)

  pub config_at : (k : ℕ) → base E x ≤ k → Room E x k → E.config (at E x k) ≡ run M (E.config x) k
  config_at = from_on (base E x) (λ k. Room E x k → E.config (at E x k) ≡ run M (E.config x) k)
      (λ r. ap E.config (at_low E x (base E x) (omega arith)) ∙ sym (run_low M (E.config x) (base E x) (omega arith)))
      (λ k l i r.
      let g : E.Good (at E x k) = good_at k l (λ j a b. r j a (omega arith)) in
      ap E.config (at_suc E x k l) ∙ (E.next_is (at E x k) g (r k l (omega arith))
      ∙ (ap M.step (i (λ j a b. r j a (omega arith))) ∙ sym (run_suc M (E.config x) k l))))

  -- the meaning at step k is the one at its own step count
  pub record Settled (k : ℕ) : Type 0 where
    pub low : base E x ≤ pos E x k
    pub high : pos E x k ≤ k
    pub same : at E x (pos E x k) ≡ at E x k

  pub settle : (k : ℕ) → base E x ≤ k → Room E x k → Settled k
  settle = from_on (base E x) (λ k. Room E x k → Settled k)
      (λ r. record { low = omega (arith, pos_base E x); high = omega (arith, pos_base E x); same = ap (at E x) (pos_base E x) })
      (λ k l i r. go k l r (i (λ j a b. r j a (omega arith))) (M.halted? (E.config (at E x k))))
    where
      go : (k : ℕ) → base E x ≤ k → Room E x (suc k) → Settled k → Dec (M.Halted (E.config (at E x k))) → Settled (suc k)
      go k l r i (yes q) =
          let g : E.Good (at E x k) = good_at k l (λ j a b. r j a (omega arith)) in
          let p : pos E x (suc k) ≡ pos E x k = pos_halted k l g q in
          record { low = omega (arith, i.low); high = omega (arith, i.high); same = ap (at E x) p ∙ (i.same ∙ sym (step_halted k l g q)) }
      go k l r i (no q) =
          let g : E.Good (at E x k) = good_at k l (λ j a b. r j a (omega arith)) in
          let p : pos E x (suc k) ≡ suc (pos E x k) = step_runs k l g (r k l (omega arith)) q in
          record {
            low = omega (arith, i.low);
            high = omega (arith, i.high);
            same = ap (at E x) p ∙ (at_suc E x (pos E x k) i.low ∙ (ap E.next i.same ∙ sym (at_suc E x k l)));
          }

  -- either every step was made, or the machine has halted
  pub exact : (k : ℕ) → base E x ≤ k → Room E x k → (pos E x k ≡ k) ⊎ M.Halted (E.config (at E x k))
  exact = from_on (base E x) (λ k. Room E x k → (pos E x k ≡ k) ⊎ M.Halted (E.config (at E x k))) (λ r. inl (pos_base E x))
      (λ k l i r. go k l r (i (λ j a b. r j a (omega arith))) (M.halted? (E.config (at E x k))))
    where
      go : (k : ℕ) → base E x ≤ k → Room E x (suc k) → (pos E x k ≡ k) ⊎ M.Halted (E.config (at E x k)) → Dec (M.Halted (E.config (at E x k)))
          → (pos E x (suc k) ≡ suc k) ⊎ M.Halted (E.config (at E x (suc k)))
      go k l r i (yes q) = inr (subst (λ y. M.Halted (E.config y)) (sym (step_halted k l (good_at k l (λ j a b. r j a (omega arith))) q)) q)
      go k l r (inl p) (no q) = inl (step_runs k l (good_at k l (λ j a b. r j a (omega arith))) (r k l (omega arith)) q ∙ ap suc p)
      go k l r (inr p) (no q) = absurd (q p)

  -- where a step is full, every step before it was made
  pub pos_no_room : (k : ℕ) → base E x ≤ k → Room E x k → E.NoRoom (at E x k) → pos E x k ≡ k
  pos_no_room k l r n = go (exact k l r)
    where
      go : (pos E x k ≡ k) ⊎ M.Halted (E.config (at E x k)) → pos E x k ≡ k
      go (inl p) = p
      go (inr q) = absurd (E.no_room_runs (at E x k) (good_at k l r) n q)
