-- The kinds and limits of the near reading as printed, and the order of its tests, by computing. Assumes nothing.
use mathlib.Core.Path.{refl}
use lib.Count.{ones}
use Rattle.bits.specs.Number.{table}
use Rattle.reed_muller.specs.Level.{of_weight, masks, dimension}
use Rattle.frames.specs.Kind.{kinds, degrees, level_bits, message_bits, message_bytes, is_grade}
use Rattle.samples.specs.Sample.{is_fit, all_fit}
use Rattle.near_frames.specs.Near.{near_kind}
use Rattle.near_reading.specs.Answer.{near_refusal, near_number}
use Rattle.near_reading.specs.Cases.{Printed, NearTests}

pub printed : Printed
unfolding near_kind
printed = record { kinds = refl; limits = refl }

pub near-tests : NearTests
unfolding near_number near_refusal near_kind is_grade message_bytes message_bits level_bits degrees kinds dimension masks of_weight table ones all_fit is_fit
near-tests = record { kind = refl; kind-alone = refl; grade = refl; samples = refl; bytes = refl; unfit = refl }
