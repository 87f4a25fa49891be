-- When what a call left is what the data says: floats by their bits, accounts. For bytes it is same_bytes of octets, for coordinates same_frame of frames.
-- Assumes nothing.
use Rattle.std.specs.Prelude.{Bool, ◌&&◌, eqb, Float}
use Rattle.std.specs.Float.{binary64}
use Rattle.std.specs.Float.Ieee.{to_bits}
use Rattle.power_account.specs.declared.Account.{Account}

-- two f64 have the same bits
abbrev pub same_float : Float → Float → Bool
same_float a b = eqb (to_bits binary64 a) (to_bits binary64 b)

-- two accounts have the same figures
unfoldable pub same_account : Account → Account → Bool
same_account a b =
    eqb a.count b.count
    && (eqb a.largest b.largest && (eqb a.changeover b.changeover && same_float a.sum b.sum))
