-- A table filled by entry lines: each of its places holds an entry of the machine. Assumes nothing.
use Rattle.std.specs.Prelude.{ℕ, ◌+◌, ◌*◌, ◌/◌, ◌<◌, ◌≡◌, refl, List, length, get_or, drop, replicate, None, Some}
use Rattle.std.proofs.Common.{sym, ◌∙◌, get_or-take, get_or-drop}
use Rattle.std.proofs.Math.Path.{ap}
use Rattle.std.proofs.Math.Decide.{ℕ_discrete}
use native.Mathlib.Omega.{arith}
use Rattle.std.proofs.lemmas.List.{get_or-replicate}
use Rattle.std.proofs.Math.Seq.{paste}
use Rattle.store_bytes.specs.Model.{slot_of, put_slot}
use Rattle.store_bytes.proofs.Facts.Slots.{put_length, put_same, put_other}
use Rattle.machine.specs.declared.Machine.{Machine}
use Rattle.machine.specs.Layout.{byte_at}
use Rattle.table_laws.specs.WellFormed.{entry_bytes, ActionOf, LaidOut}
use Rattle.listing_lines.specs.declared.Rule.{Rule}
use Rattle.listing_lines.specs.Forms.{number_in, place, action_of, define}
use Rattle.listing_lines.specs.Model.{RuleOk}
use Rattle.listing_lines.proofs.Facts.Forms.{Good, good_small, number_ok}

-- every entry of a table of one tape is laid out
abbrev pub Laid : Machine → List ℕ → Type 0
Laid m t = (i : ℕ) → i < m.states * m.symbols → LaidOut m t i

byte_slot : (t : List ℕ) (i j : ℕ) → j < 8 → byte_at t i j ≡ get_or (slot_of 8 i t) j 0
unfolding slot_of
byte_slot t i j h =
    let e : 8 * i + j ≡ i * 8 + j = omega arith in
    ap (λ n. get_or t n 0) e ∙ sym (get_or-take 8 (drop (i * 8) t) j 0 h ∙ get_or-drop (i * 8) t j 0)

pub laid_blank : (m : Machine) → Good m → Laid m (replicate 4096 0)
laid_blank m g i h =
    record {
      entry = None;
      of_machine = tt;
      written = λ j l. get_or-replicate 4096 (8 * i + j) 0 0 (omega arith) ∙ sym (get_or-replicate 8 j 0 0 l);
    }

module _ (m : Machine) (t : List ℕ) (e : Rule) (g : Good m) (o : RuleOk m e) (long : length t ≡ 4096) where
  abbrev number : ℕ
  number = number_in m e

  inside : number < length t / 8
  inside = omega (arith, number_ok m e (good_small g) o)

  define_slot : define m t e ≡ put_slot 8 number (entry_bytes (Some (action_of e))) t
  unfolding define place put_slot
  define_slot =
      let q : 8 * number ≡ number * 8 = omega arith in
      ap (λ at. paste t at (entry_bytes (Some (action_of e))) 8) q

  pub define_length : length (define m t e) ≡ 4096
  define_length = ap length define_slot ∙ put_length 8 number (entry_bytes (Some (action_of e))) t inside refl ∙ long

  byte : (i j : ℕ) → j < 8 → byte_at (define m t e) i j ≡ get_or (slot_of 8 i (put_slot 8 number (entry_bytes (Some (action_of e))) t)) j 0
  byte i j q = byte_slot (define m t e) i j q ∙ ap (λ s. get_or (slot_of 8 i s) j 0) define_slot

  pub define_same : (j : ℕ) → j < 8 → byte_at (define m t e) number j ≡ get_or (entry_bytes (Some (action_of e))) j 0
  define_same j q = byte number j q ∙ ap (λ s. get_or s j 0) (put_same 8 number (entry_bytes (Some (action_of e))) t inside refl)

  pub define_other : (i : ℕ) → ¬ (i ≡ number) → (j : ℕ) → j < 8 → byte_at (define m t e) i j ≡ byte_at t i j
  define_other i z j q =
      byte i j q ∙ ap (λ s. get_or s j 0) (put_other 8 number (entry_bytes (Some (action_of e))) t inside refl i z) ∙ sym (byte_slot t i j q)

  action_ok : ActionOf m (action_of e)
  action_ok =
      record {
        next_in = o.next_ok;
        write0_in = o.write_ok;
        write1_in = g.some_symbols;
        write2_in = g.some_symbols;
        lacks1 = λ _. (refl, refl);
        lacks2 = λ _. (refl, refl);
      }

  pub laid_define : Laid m t → Laid m (define m t e)
  laid_define h i l = by (ℕ_discrete i number)
    where
      by : Dec (i ≡ number) → LaidOut m (define m t e) i
      by (yes z) =
          record {
            entry = Some (action_of e);
            of_machine = action_ok;
            written = λ j q. ap (λ n. byte_at (define m t e) n j) z ∙ define_same j q;
          }
      by (no z) =
          let old : LaidOut m t i = h i l in
          record {
            entry = old.entry;
            of_machine = old.of_machine;
            written = λ j q. define_other i z j q ∙ old.written j q;
          }
