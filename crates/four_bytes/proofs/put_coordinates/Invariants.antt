use Rattle.std.proofs.Common.{◌≡◌, ◌*◌, take}
use Rattle.octets.specs.Place.{put_at}
use Rattle.four_bytes.specs.FourBytes.{coordinate_bytes}
use Rattle.four_bytes.proofs.put_coordinates.Given as goal

-- the bytes of 2·i coordinates are put
abbrev pub invariant-loop-i : goal.invariant-loop-i
invariant-loop-i l = l.out ≡ put_at l.initial.out l.p (coordinate_bytes (take (2 * l.i) l.frame))
