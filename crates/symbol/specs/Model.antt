-- Positions as the engines compute with them. Definitions only.
use Rattle.std.specs.Prelude.{ℕ, ◌+◌, ◌-◌, leb, ltb, ℤ, None, Option, Some}
use Rattle.notation.specs.Choice.{pick, both}
use Rattle.notation.specs.Limits.{raised_zero}
use Rattle.notation.specs.Position.{up, dn}

-- 2^63 + z, for a z of 64 bits
abbrev pub raised_of : ℤ → ℕ
raised_of z = raised_zero + up z - dn z

-- the index origin + up − down, where it is at least 0 and below len
unfoldable pub index_at : ℕ → ℕ → ℕ → ℕ → Option ℕ
index_at up down origin len =
    pick (both (leb down (origin + up)) (ltb (origin + up - down) len))
    (Some (origin + up - down))
    None

-- the index of position z, where index origin is position 0
abbrev pub index_of : ℤ → ℕ → ℕ → Option ℕ
index_of z origin len = index_at (up z) (dn z) origin len

-- the index of position raised − 2^63
abbrev pub index_of_raised : ℕ → ℕ → ℕ → Option ℕ
index_of_raised raised origin len = index_at raised raised_zero origin len
