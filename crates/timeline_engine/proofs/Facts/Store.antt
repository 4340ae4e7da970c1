-- A slot that is lent as a part of the store, and put back. Assumes nothing.
use Rattle.std.specs.Prelude.{◌≡◌, List, ℕ, ◌++◌, length, take, drop}
use Rattle.std.proofs.Common.{arith, length-append, length-take, length-drop}

pub part_kept : (a k : ℕ) (t ys : List ℕ) → length ys ≡ length (take k (drop a t)) → length (take a t ++ (ys ++ drop k (drop a t))) ≡ length t
part_kept a k t ys q = omega (arith, q, length-append (take a t) (ys ++ drop k (drop a t)), length-append ys (drop k (drop a t)), length-take a t, length-take k (drop a t), length-drop a t, length-drop k (drop a t))
