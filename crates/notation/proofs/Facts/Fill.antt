-- A loop that writes: one turn of the loop, where x is the loop's result, and the contents of each place of the result. Assumes nothing.
use Rattle.std.specs.Prelude.{◌≡◌, refl, List, ℕ, zero, suc, ◌+◌, ◌-◌, ◌≤◌, ◌<◌, length, get_or, set}
use Rattle.std.proofs.Common.{sym, ap, ◌∙◌, arith, length-set, get_or-set_same, get_or-set_other}
use Rattle.std.proofs.Math.Decide.{ℕ_discrete}
use Rattle.notation.specs.Fill.{fill_from}

-- ---- one turn

pub fill_next : (f : ℕ → ℕ) (n i w : ℕ) (out x : List ℕ) → fill_from f (n - i) i out ≡ x → i < n → w ≡ f i → fill_from f (n - (i + 1)) (i + 1) (set out i w) ≡ x
unfolding fill_from
fill_next f n i w out x e h p =
    let k : n - i ≡ suc (n - (i + 1)) = omega arith in
    ap (λ (v : ℕ). fill_from f (n - (i + 1)) (i + 1) (set out i v)) p ∙ sym (ap (λ (m : ℕ). fill_from f m i out) k) ∙ e

pub fill_end : (f : ℕ → ℕ) (n i : ℕ) (out x : List ℕ) → fill_from f (n - i) i out ≡ x → n ≤ i → out ≡ x
unfolding fill_from
fill_end f n i out x e h =
    let k : n - i ≡ 0 = omega arith in
    sym (ap (λ (m : ℕ). fill_from f m i out) k) ∙ e

-- ---- what the list holds

pub length_fill : (f : ℕ → ℕ) (n i : ℕ) (out : List ℕ) → length (fill_from f n i out) ≡ length out
unfolding fill_from
length_fill f zero i out = refl
length_fill f (suc n) i out = length_fill f n (i + 1) (set out i (f i)) ∙ simp length-set

pub fill_before : (f : ℕ → ℕ) (n i : ℕ) (out : List ℕ) (j d : ℕ) → j < i → get_or (fill_from f n i out) j d ≡ get_or out j d
unfolding fill_from
fill_before f zero i out j d h = refl
fill_before f (suc n) i out j d h =
    fill_before f n (i + 1) (set out i (f i)) j d (omega arith) ∙ get_or-set_other out i j (f i) d (λ e. omega arith)

pub fill_past : (f : ℕ → ℕ) (n i : ℕ) (out : List ℕ) (j d : ℕ) → i + n ≤ j → get_or (fill_from f n i out) j d ≡ get_or out j d
unfolding fill_from
fill_past f zero i out j d h = refl
fill_past f (suc n) i out j d h =
    fill_past f n (i + 1) (set out i (f i)) j d (omega arith) ∙ get_or-set_other out i j (f i) d (λ e. omega arith)

pub fill_in : (f : ℕ → ℕ) (n i : ℕ) (out : List ℕ) (j d : ℕ) → i ≤ j → j < i + n → j < length out → get_or (fill_from f n i out) j d ≡ f j
unfolding fill_from
fill_in f zero i out j d a b h = absurd (omega arith)
fill_in f (suc n) i out j d a b h = by (ℕ_discrete i j) (fill_in f n (i + 1) (set out i (f i)) j d)
  where
    by : Dec (i ≡ j) → (i + 1 ≤ j → j < i + 1 + n → j < length (set out i (f i)) → get_or (fill_from f n (i + 1) (set out i (f i))) j d ≡ f j)
        → get_or (fill_from f n (i + 1) (set out i (f i))) j d ≡ f j
    by (yes e) r = rw (← e) (fill_before f n (i + 1) (set out i (f i)) i d (omega arith) ∙ get_or-set_same out i (f i) d (omega arith))
    by (no g) r = r (omega arith) (omega arith) (simp length-set h)
