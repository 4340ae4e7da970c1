-- Facts for the code that prints: text written after text, a number and a position. Assumes nothing.
use Rattle.std.specs.Prelude.{ℕ, zero, suc, ◌+◌, ◌-◌, ◌/◌, ◌%◌, ◌≤◌, ◌<◌, ◌≡◌, refl, List, [], ◌∷◌, ◌++◌, length, take, drop, ltb}
use Rattle.std.proofs.Common.{sym, ap, ◌∙◌, append_assoc, arith, lt-ltb, le-ltb, length-append, drop-drop}
use Rattle.std.proofs.Math.Seq.{paste, take-length}
use Rattle.std.proofs.lemmas.List.Edits.{take-paste, drop-paste, length-paste}
use Rattle.std.proofs.Math.IntN.{sub_ℕ}
use Rattle.notation.proofs.Facts.Tests.{pick_cases}
use Rattle.listing_text.specs.Show.{show, show_on, show_ℤ}
use Rattle.listing_text.specs.Model.{Wrote}

pub wrote_long : {o : List ℕ} {at : ℕ} {bs o' : List ℕ} {r : ℕ} → Wrote o at bs o' r → length o' ≡ length o
wrote_long {o} {at} {bs} w = rw w.text (length-paste o at bs (length bs) w.fits (omega arith))

pub wrote_then : {o : List ℕ} {at : ℕ} {a o₁ : List ℕ} {r₁ : ℕ} {b o₂ : List ℕ} {r₂ : ℕ} → Wrote o at a o₁ r₁ → Wrote o₁ r₁ b o₂ r₂ → Wrote o at (a ++ b) o₂ r₂
wrote_then {o} {at} {a} {o₁} {r₁} {b} {o₂} {r₂} p q =
    let l : length (a ++ b) ≡ length a + length b = length-append a b in
    let k : length o₁ ≡ length o = wrote_long p in
    let t : take r₁ o₁ ≡ take at o ++ a =
    rw (p.ends, p.text) (take-paste o at a (length a) (omega (arith, p.fits)) (omega arith) ∙ ap (λ (z : List ℕ). take at o ++ z) (take-length a)) in
    let d₀ : drop r₁ o₁ ≡ drop (at + length a) o = rw (p.ends, p.text) (drop-paste o at a (length a) (omega (arith, p.fits)) (omega arith)) in
    let n : at + length a + length b ≡ at + length (a ++ b) = omega arith in
    let d : drop (r₁ + length b) o₁ ≡ drop (at + length (a ++ b)) o =
    sym (drop-drop (length b) r₁ o₁) ∙ ap (λ (z : List ℕ). drop (length b) z) d₀ ∙ drop-drop (length b) (at + length a) o ∙ ap (λ (z : ℕ). drop z o) n in
    record {
      ends = omega (arith, p.ends, q.ends);
      fits = omega (arith, p.ends, q.fits);
      text = q.text ∙ rw (t, d, take-length b, take-length (a ++ b)) (simp append_assoc);
    }

-- ---- a whole number and a position
show_on_long : (f n : ℕ) (after : List ℕ) → length (show_on f n after) ≤ f + length after
unfolding show_on
show_on_long zero n after = omega arith
show_on_long (suc f) n after =
    let h : length (show_on f (n / 10) ((48 + n % 10) ∷ after)) ≤ f + suc (length after) = show_on_long f (n / 10) ((48 + n % 10) ∷ after) in
    pick_cases (ltb n 10) ((48 + n % 10) ∷ after) (show_on f (n / 10) ((48 + n % 10) ∷ after)) (λ l. length l ≤ suc f + length after) (λ _. omega arith) (λ _. omega arith)

pub show_long : (n : ℕ) → length (show n) ≤ 20
unfolding show
show_long n = omega (arith, show_on_long 20 n [])

pub wrote-put : (o : List ℕ) (at : ℕ) (s o' : List ℕ) (r : ℕ) (bs : List ℕ) → s ≡ bs → (r ≡ at + length s) × (o' ≡ paste o at s (length s)) → at + length s ≤ length o → Wrote o at bs o' r
wrote-put o at s o' r bs e p h = record { ends = rw (← e) p.0; fits = rw (← e) h; text = rw (← e) p.1 }

pub pos_up : (index origin : ℕ) → origin ≤ index → show (index - origin) ≡ show_ℤ (sub_ℕ index origin)
unfolding show_ℤ
pos_up i o h = simp (le-ltb i o h)

pub pos_down : (index origin : ℕ) → index < origin → 45 ∷ show (origin - index) ≡ show_ℤ (sub_ℕ index origin)
unfolding show_ℤ
pos_down i o h =
    let e : o - i ≡ (o - suc i) + 1 = omega arith in
    simp (lt-ltb i o h) (ap (λ (n : ℕ). 45 ∷ show n) e)

pub up_done : (o : List ℕ) (at i g : ℕ) (o' : List ℕ) (r : ℕ) → Wrote o at (show (i - g)) o' r × (r ≤ at + 20) → g ≤ i → Wrote o at (show_ℤ (sub_ℕ i g)) o' r × (r ≤ at + 21)
up_done o at i g o' r w h = (rw (← pos_up i g h) w.0, omega (arith, w.1))

pub down_done : (o : List ℕ) (at i g : ℕ) (o' : List ℕ) (r : ℕ) → Wrote o at (45 ∷ show (g - i)) o' r × (r ≤ at + 21) → i < g → Wrote o at (show_ℤ (sub_ℕ i g)) o' r × (r ≤ at + 21)
down_done o at i g o' r w h = (rw (← pos_down i g h) w.0, w.1)

-- ---- one byte, then text
pub byte_then : (o : List ℕ) (at b : ℕ) (o₁ : List ℕ) (r₁ : ℕ) (bs o' : List ℕ) (r k : ℕ)
    → (r₁ ≡ at + 1) × (o₁ ≡ paste o at (b ∷ []) 1) → Wrote o₁ r₁ bs o' r × (r ≤ r₁ + k) → at + 1 ≤ length o
    → Wrote o at (b ∷ bs) o' r × (r ≤ at + (k + 1))
byte_then o at b o₁ r₁ bs o' r k p q h =
    (wrote_then (wrote-put o at (b ∷ []) o₁ r₁ (b ∷ []) refl p (omega arith)) q.0, omega (arith, p.0, q.1))
