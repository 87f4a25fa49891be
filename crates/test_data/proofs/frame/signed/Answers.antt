-- The numbers from 2^31 on stand for what they lack of 2^32. Assumes nothing.
use Rattle.std.proofs.Common.{◌≡◌, ℕ, ◌^◌, ◌<◌, refl, ◌∙◌, rules, w32}
use Rattle.std.specs.Int.{cast_signed}
use Rattle.std.proofs.lemmas.Int.{to_z-of_z}
use Rattle.std.proofs.Math.Facts.{sfits_to_z}
use borrow.Author.Tests.{lt-ltb}
use Rattle.test_data.specs.Held.{signed_of}
use Rattle.test_data.proofs.frame.signed.Goals as goal

signed_as : (n : ℕ) → n < 2 ^ 32 → cast_signed w32 n ≡ signed_of n
unfolding signed_of
signed_as n h = rw (lt-ltb n (2 ^ 32) h) refl

pub returns : goal.returns
returns c = to_z-of_z w32 c.cast_signed.result (search (rules, sfits_to_z)) ∙ c.cast_signed.ensures ∙ signed_as c.args.x c.ranges.x.fits
