-- Whether an engine is accepted depends only on its value, its live runs and the number of its places. Assumes nothing.
use Rattle.std.specs.Prelude.{◌≡◌, refl, true, List, ℕ, zero, suc, ◌+◌, ◌≤◌, ◌<◌, length, get_or, Ok}
use Rattle.std.proofs.Common.{sym, ◌∙◌, ap, subst, arith}
use borrow.Author.Tests.{leb-true, le-leb}
use Rattle.std.proofs.Math.Seq.{paste}
use Rattle.std.proofs.lemmas.List.Edits.{length-paste}
use Rattle.notation.proofs.Facts.Tests.{both_split, both_true}
use Rattle.notation.specs.Limits.{runs_most}
use Rattle.machine.specs.declared.Machine.{Machine}
use Rattle.rle_stack.specs.Model.{side, places_of, sum_of}
use Rattle.rle.specs.declared.ChainSim.{ChainSim}
use Rattle.rle.specs.Model.Engine.{Conf, conf}
use Rattle.rle.specs.Invariants.{SameSizes}
use Rattle.rle.specs.Fits.{chain_fits, places_fit, engine_check}
use Rattle.rle_refines.specs.Meaning.{over, stack_upto, RunsFit, SideFits, ChainFits}
use Rattle.rle_refines.proofs.Facts.Fits.{fits_holds, holds_fits}
use Rattle.rle_refines.proofs.Facts.Operations.{Passed, engine_says, engine_passes}
use Rattle.rle_slots.specs.Model.Slots.{lefts_of, rights_of, Lent, live_in}
use Rattle.rle_slots.proofs.Facts.Numbers.{paste_byte}

-- the first n numbers are the same
abbrev pub SameTo : ℕ → (xs ys : List ℕ) → Type 0
SameTo n xs ys = (j : ℕ) → j < n → get_or xs j 0 ≡ get_or ys j 0

-- the same value, and the same live runs
pub record SameLive (σ τ : Conf) : Type 0 where
  pub sim : τ.sim ≡ σ.sim
  pub ls : SameTo σ.sim.tape.left τ.ls σ.ls
  pub ll : SameTo σ.sim.tape.left τ.ll σ.ll
  pub rs : SameTo σ.sim.tape.right τ.rs σ.rs
  pub rl : SameTo σ.sim.tape.right τ.rl σ.rl

pub live_then : (σ τ υ : Conf) → SameLive σ τ → SameLive τ υ → SameLive σ υ
live_then σ τ υ p q =
    let l : τ.sim.tape.left ≡ σ.sim.tape.left = ap (λ (v : ChainSim). v.tape.left) p.sim in
    let r : τ.sim.tape.right ≡ σ.sim.tape.right = ap (λ (v : ChainSim). v.tape.right) p.sim in
    record {
      sim = q.sim ∙ p.sim;
      ls = λ j h. q.ls j (omega arith) ∙ p.ls j h;
      ll = λ j h. q.ll j (omega arith) ∙ p.ll j h;
      rs = λ j h. q.rs j (omega arith) ∙ p.rs j h;
      rl = λ j h. q.rl j (omega arith) ∙ p.rl j h;
    }

-- ---- it fits

pub stack_live : (ss ls ss' ls' : List ℕ) (n : ℕ) → SameTo n ss' ss → SameTo n ls' ls → stack_upto ss' ls' n ≡ stack_upto ss ls n
stack_live ss ls ss' ls' zero p q = refl
stack_live ss ls ss' ls' (suc n) p q =
    λ i. over (p n (omega arith) i) (q n (omega arith) i) (stack_live ss ls ss' ls' n (λ j h. p j (omega arith)) (λ j h. q j (omega arith)) i)

pub sum_live : (ls ls' : List ℕ) (n : ℕ) → SameTo n ls' ls → sum_of ls' n ≡ sum_of ls n
unfolding sum_of
sum_live ls ls' zero q = refl
sum_live ls ls' (suc n) q = omega (arith, q n (omega arith), sum_live ls ls' n (λ j h. q j (omega arith)))

side-live : (k most : ℕ) (ss ls ss' ls' : List ℕ) (n : ℕ) → n ≤ places_of ss' ls' → SameTo n ss' ss → SameTo n ls' ls → SideFits k most (side ss ls n) → SideFits k most (side ss' ls' n)
side-live k most ss ls ss' ls' n h p q f = record {
  live = h;
  runs = subst (RunsFit k) (sym (stack_live ss ls ss' ls' n p q)) f.runs;
  sum = omega (arith, f.sum, sum_live ls ls' n q);
}

module _ (m : Machine) (σ τ : Conf) (same : SameLive σ τ) (lefts : σ.sim.tape.left ≤ lefts_of τ) (rights : σ.sim.tape.right ≤ rights_of τ) where
  abbrev valued : ChainSim → Conf
  valued v = conf v τ.ls τ.ll τ.rs τ.rl

  fits_valued : ChainFits m σ → ChainFits m (valued σ.sim)
  fits_valued f = record {
    state_in_holds = f.state_in_holds;
    steps_in = f.steps_in;
    macros_in = f.macros_in;
    read_in = f.read_in;
    low_head = f.low_head;
    head_high = f.head_high;
    low_near = f.low_near;
    high_near = f.high_near;
    lefts = side-live m.symbols _ σ.ls σ.ll τ.ls τ.ll σ.sim.tape.left lefts same.ls same.ll f.lefts;
    rights = side-live m.symbols _ σ.rs σ.rl τ.rs τ.rl σ.sim.tape.right rights same.rs same.rl f.rights;
    left_far = omega (arith, f.left_far, sum_live σ.ll τ.ll σ.sim.tape.left same.ll);
    right_far = omega (arith, f.right_far, sum_live σ.rl τ.rl σ.sim.tape.right same.rl);
  }

  pub live_fits : chain_fits m σ ≡ true → chain_fits m τ ≡ true
  live_fits e = subst (λ (v : ChainSim). chain_fits m (valued v) ≡ true) (sym same.sim) (holds_fits m (valued σ.sim) (fits_valued (fits_holds m σ e)))

-- ---- it is accepted

module _ (m : Machine) (s : List ℕ) (σ τ : Conf) (passed : engine_check m s σ ≡ Ok tt) (sizes : SameSizes σ τ) where
  few : places_fit σ ≡ true → places_fit τ ≡ true
  unfolding places_fit
  few e =
      let q = both_split e in
      both_true (le-leb (lefts_of τ) runs_most (omega (arith, sizes.ls, sizes.ll, leb-true (lefts_of σ) runs_most q.0)))
      (le-leb (rights_of τ) runs_most (omega (arith, sizes.rs, sizes.rl, leb-true (rights_of σ) runs_most q.1)))

  pub accepted_again : chain_fits m τ ≡ true → engine_check m s τ ≡ Ok tt
  accepted_again e =
      let p : Passed m s σ = engine_says m s σ passed in
      engine_passes m s τ (record { table = p.table; single = p.single; places = few p.places; fits = fits_holds m τ e })

-- ---- the live runs of one engine in the places of another

-- n numbers copied to the beginning of a list
copied_to : (d s : List ℕ) (n : ℕ) → n ≤ length d → n ≤ length s → SameTo n (paste d 0 s n) s
copied_to d s n h k j l =
    let e : j ≡ 0 + j = omega arith in
    ap (λ (i : ℕ). get_or (paste d 0 s n) i 0) e ∙ paste_byte d 0 s n j (omega arith) k l

module _ (h : Conf) (t : Lent) (hl : h.sim.tape.left ≤ lefts_of h) (hr : h.sim.tape.right ≤ rights_of h)
    (tl : h.sim.tape.left ≤ places_of t.ls t.ll) (tr : h.sim.tape.right ≤ places_of t.rs t.rl) where
  pub placed_live : SameLive h (live_in h t)
  placed_live = record {
    sim = refl;
    ls = copied_to t.ls h.ls h.sim.tape.left (omega arith) (omega arith);
    ll = copied_to t.ll h.ll h.sim.tape.left (omega arith) (omega arith);
    rs = copied_to t.rs h.rs h.sim.tape.right (omega arith) (omega arith);
    rl = copied_to t.rl h.rl h.sim.tape.right (omega arith) (omega arith);
  }

  pub placed_sizes : (v : ChainSim) → SameSizes (conf v t.ls t.ll t.rs t.rl) (live_in h t)
  placed_sizes v = record {
    ls = length-paste t.ls 0 h.ls h.sim.tape.left (omega arith) (omega arith);
    ll = length-paste t.ll 0 h.ll h.sim.tape.left (omega arith) (omega arith);
    rs = length-paste t.rs 0 h.rs h.sim.tape.right (omega arith) (omega arith);
    rl = length-paste t.rl 0 h.rl h.sim.tape.right (omega arith) (omega arith);
  }

  pub placed_fits : (m : Machine) → chain_fits m h ≡ true → chain_fits m (live_in h t) ≡ true
  placed_fits m e =
      let z : SameSizes (conf h.sim t.ls t.ll t.rs t.rl) (live_in h t) = placed_sizes h.sim in
      live_fits m h (live_in h t) placed_live (omega (arith, z.ls, z.ll, tl)) (omega (arith, z.rs, z.rl, tr)) e
