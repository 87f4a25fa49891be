-- Four sent frames of kind 6, and sums of two of them, by computing. Assumes nothing.
use mathlib.Core.Path.{refl}
use lib.Count.{ones}
use Rattle.bits.specs.Number.{sum_to, table}
use Rattle.bits.specs.Message.{message_bit, byte_of, bytes_of}
use Rattle.reed_muller.specs.Level.{of_weight, masks, order, dimension, codeword, backwards, clear_above, belongs}
use Rattle.e8.specs.Energy.{sq, energy, is_within}
use Rattle.e8.specs.Order.{before}
use Rattle.e8.specs.Least.{cent, better, best, least_block, least_frame}
use Rattle.e8.specs.Ties.{least_frame_by}
use Rattle.e8.specs.Rows.{reduced}
use Rattle.frames.specs.Kind.{kinds, is_kind, is_grade, degrees, levels, level_bits, message_bits, message_bytes}
use Rattle.frames.specs.Message.{numbers, block_numbers, stacked, coordinate, leader}
use Rattle.frames.specs.Frame.{weight_bit, half, is_odd, numbered_frame}
use Rattle.frames.specs.Free.{is_free_count, free_from}
use Rattle.frames.specs.Sending.{any_set, free_set, send_refusal}
use Rattle.frames.specs.Reading.{level_message, level_messages, quotients, digits, all_digits, block_messages, read_bits, open_message}
use Rattle.frames.specs.Reading.{in_range, broken, open_refusal, strict_refusal}
use Rattle.sums.specs.Sum.{sum_of}
use Rattle.sums.specs.Cases.{SentFour, SumsOfTwo}

pub sent-four : SentFour
unfolding send_refusal free_set free_from any_set is_free_count is_kind is_grade message_bytes message_bits
    numbered_frame is_odd half least_frame_by least_frame least_block best better cent before energy sq leader coordinate stacked block_numbers numbers
    degrees kinds levels level_bits sum_to codeword order dimension masks of_weight table message_bit ones
sent-four = record {
  low = refl;
  high = refl;
  other = refl;
  far = refl;
  low-accepted = refl;
  high-accepted = refl;
  other-accepted = refl;
  far-accepted = refl;
}

pub sums-of-two : SumsOfTwo
unfolding sum_of open_refusal strict_refusal is_free_count open_message read_bits level_messages level_message block_messages quotients all_digits digits
    in_range is_within broken weight_bit is_kind is_grade message_bytes message_bits
    degrees kinds levels level_bits sum_to order dimension masks of_weight table bytes_of byte_of backwards belongs clear_above reduced ones
sums-of-two = record { refused = refl; refused-strictly = refl; read = refl; message = refl; none = refl }
