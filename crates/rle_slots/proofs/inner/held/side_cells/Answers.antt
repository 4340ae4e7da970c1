use Rattle.std.proofs.Common.{rules, arith, List, ℕ, ◌+◌, ◌-◌, ◌*◌, ◌/◌, ◌≤◌, length, take, drop}
use Rattle.rle_slots.proofs.Facts.Numbers.{length_numbers}
use Rattle.rle_slots.proofs.inner.held.side_cells.Goals as goal

pub measure-requires : goal.measure-requires
measure-requires c =
    let bytes : List ℕ = take (c.args.from + 8 * c.args.places - c.args.from) (drop c.args.from c.args.slot.now) in
    let room : 8 * c.args.places ≤ length bytes = search rules in
    (search rules, omega (arith, room, length_numbers bytes 0 (length bytes / 8)), search rules)
