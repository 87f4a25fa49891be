-- The cases of kinds 5 and 6 and those of large coordinates are met, by computing. Assumes nothing.
use mathlib.Core.Path.{◌≡◌, refl}
use mathlib.Core.List.{map}
use lib.Count.{ones}
use Rattle.bits.specs.Number.{sum_to, table}
use Rattle.bits.specs.Message.{message_bit, byte_of, bytes_of, with_bits}
use Rattle.reed_muller.specs.Level.{of_weight, masks, order, dimension, codeword, backwards, clear_above, belongs}
use Rattle.e8.specs.Energy.{sq, energy, is_within}
use Rattle.e8.specs.Order.{before}
use Rattle.e8.specs.Least.{cent, better, best, least_block, least_frame}
use Rattle.e8.specs.Ties.{least_frame_by}
use Rattle.e8.specs.Rows.{reduced}
use Rattle.frames.specs.Kind.{kinds, is_kind, is_grade, degrees, levels, level_bits, message_bits, message_bytes}
use Rattle.frames.specs.Message.{numbers, block_numbers, stacked, coordinate, leader}
use Rattle.frames.specs.Frame.{weight_bit, half, is_odd, numbered_frame, sent_frame}
use Rattle.frames.specs.Free.{is_free_count, free_from, filled, filled_frame, first_least, quiet_filling, quiet_frame}
use Rattle.frames.specs.Sending.{any_set, free_set, send_refusal}
use Rattle.frames.specs.Reading.{level_message, level_messages, quotients, digits, all_digits, block_messages, read_bits, open_message}
use Rattle.frames.specs.Reading.{fixed_message, same_frame, in_range, broken, open_refusal, is_sent, strict_refusal, energy_read}
use Rattle.frames.specs.Exam.{sent_as, examined, Numbered, sent_under}
use Rattle.long_frames.specs.Cases.{layout, numbered, KindSixTests, WideCases}

-- each message is sent as its frame, with its energy
pub layout-frames : map sent_as layout ≡ map examined layout
unfolding sent_frame half least_frame least_block best better cent before energy sq leader coordinate stacked block_numbers numbers
    degrees kinds levels level_bits sum_to codeword order dimension masks of_weight table message_bit ones
layout-frames = refl

-- the frame of the other tie rule
pub numbered-frames : map sent_under numbered ≡ map (λ (e : Numbered). e.frame) numbered
unfolding numbered_frame is_odd half least_frame_by least_frame least_block best better cent before energy sq leader coordinate stacked block_numbers numbers
    degrees kinds levels level_bits sum_to codeword order dimension masks of_weight table message_bit ones
numbered-frames = refl

pub kind-six-tests : KindSixTests
unfolding open_refusal strict_refusal is_sent is_free_count fixed_message filled free_from with_bits quiet_frame quiet_filling first_least filled_frame same_frame open_message read_bits level_messages level_message block_messages quotients all_digits digits
    in_range is_within broken weight_bit is_kind is_grade send_refusal free_set any_set message_bytes message_bits
    numbered_frame is_odd half least_frame_by least_frame least_block best better cent before energy sq leader coordinate stacked block_numbers numbers
    degrees kinds levels level_bits sum_to codeword order dimension masks of_weight table message_bit bytes_of byte_of backwards belongs clear_above reduced ones
kind-six-tests = record {
  kind = refl;
  bytes = refl;
  coordinates = refl;
  none-spare = refl;
  range = refl;
  level-0 = refl;
  level-1 = refl;
  level-2 = refl;
  level-2-openly = refl;
  unshaped = refl;
  openly = refl;
  none = refl;
}

pub wide-cases : WideCases
unfolding energy_read open_refusal strict_refusal is_sent is_free_count fixed_message filled free_from with_bits quiet_frame quiet_filling first_least filled_frame same_frame open_message read_bits level_messages level_message block_messages quotients all_digits digits
    in_range is_within broken weight_bit is_kind is_grade send_refusal free_set any_set message_bytes message_bits
    numbered_frame is_odd half least_frame_by least_frame least_block best better cent before energy sq leader coordinate stacked block_numbers numbers
    degrees kinds levels level_bits sum_to codeword order dimension masks of_weight table message_bit bytes_of byte_of backwards belongs clear_above reduced ones
wide-cases = record {
  kind-3-strictly = refl;
  kind-3-past = refl;
  kind-4 = refl;
  kind-4-past = refl;
  kind-5 = refl;
  kind-5-past = refl;
  kind-6 = refl;
  kind-6-past = refl;
  below-largest = refl;
  above-least = refl;
  most-energy = refl;
  like-any-other = refl;
  its-message = refl;
  alone = refl;
}
