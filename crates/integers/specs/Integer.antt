-- The remainder that is never negative. Clients cite mod_z; the floor quotient is the library's shr_z. Assumes nothing.
use Rattle.std.specs.Prelude.{ℕ, suc, ◌-◌, ◌%◌, ℤ, pos, negsuc}

-- z modulo m, from 0 to m − 1, also for a negative z: negsuc a is −1 − a
abbrev pub mod_z : ℤ → ℕ → ℕ
mod_z (pos a) m = a % m
mod_z (negsuc a) m = m - suc (a % m)
