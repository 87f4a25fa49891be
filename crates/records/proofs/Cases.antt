-- The records worked by hand, and the tests in their order, computed whole from the definitions. Assumes nothing.
use mathlib.Core.Path.{◌≡◌, refl}
use mathlib.Core.List.{[], ◌∷◌, map}
use lib.Count.{ones}
use lib.ListN.{length}
use Rattle.bits.specs.Number.{sum_to, table}
use Rattle.reed_muller.specs.Level.{of_weight, masks, order, dimension, codeword, backwards, clear_above, belongs}
use Rattle.bits.specs.Message.{message_bit, byte_of, bytes_of, with_bits}
use Rattle.e8.specs.Energy.{sq, energy, is_within}
use Rattle.e8.specs.Order.{before}
use Rattle.e8.specs.Least.{cent, better, best, least_block, least_frame}
use Rattle.e8.specs.Ties.{least_frame_by}
use Rattle.e8.specs.Rows.{reduced}
use Rattle.frames.specs.Kind.{kinds, is_kind, is_grade, degrees, levels, level_bits, message_bits, message_bytes}
use Rattle.frames.specs.Message.{numbers, block_numbers, stacked, coordinate, leader}
use Rattle.frames.specs.Frame.{weight_bit, half, is_odd, numbered_frame}
use Rattle.frames.specs.Sending.{any_set, free_set, send_refusal}
use Rattle.frames.specs.Free.{is_free_count, free_from, filled, filled_frame, first_least, quiet_filling, quiet_frame}
use Rattle.frames.specs.Reading.{level_message, level_messages, quotients, digits, all_digits, block_messages, read_bits, open_message}
use Rattle.frames.specs.Reading.{fixed_message, same_frame, in_range, broken, open_refusal, is_sent, strict_refusal}
use Rattle.four_bytes.specs.FourBytes.{four_bytes, twos, signed, coordinate_bytes, coordinates_from}
use Rattle.octets.specs.Place.{put_at}
use Rattle.records.specs.Record.{record_of, sent_record, marked}
use Rattle.records.specs.Writing.{write_refusal, write_answer, buffer_after}
use Rattle.records.specs.Reading.{head_refusal, read_refusal}
use Rattle.records.specs.Cases.{plus_four, lent, left, Read, reads, Write, writes}

-- under number 1, and under the last even number, at place 1 of a buffer that it fills but for a byte before it and one behind it
pub plus : sent_record 3 1 1 (0 ∷ 8 ∷ []) ≡ plus_four
unfolding sent_record record_of four_bytes twos coordinate_bytes quiet_frame quiet_filling first_least filled_frame filled free_from with_bits bytes_of byte_of
    numbered_frame is_odd half least_frame_by least_frame least_block best better cent before energy sq leader coordinate stacked block_numbers numbers
    degrees kinds levels level_bits sum_to codeword order dimension masks of_weight table message_bit ones
plus = refl

pub written : buffer_after 3 1 4294967294 (0 ∷ 8 ∷ []) 1 lent ≡ left
unfolding buffer_after write_refusal put_at sent_record record_of four_bytes twos coordinate_bytes send_refusal is_grade is_kind kinds free_set is_free_count
    free_from any_set message_bytes message_bits level_bits quiet_frame quiet_filling first_least filled_frame filled with_bits bytes_of byte_of numbered_frame
    is_odd half least_frame_by least_frame least_block best better cent before energy sq leader coordinate stacked block_numbers numbers degrees levels
    sum_to codeword order dimension masks of_weight table message_bit ones
written = refl

pub answered : write_answer 3 1 (0 ∷ 8 ∷ []) 1 (length lent) ≡ record { refusal = 0; next = 41 }
unfolding write_answer write_refusal send_refusal is_grade is_kind kinds free_set is_free_count free_from any_set message_bytes message_bits level_bits degrees
    sum_to dimension order masks of_weight table message_bit ones
answered = refl

-- the tests of the reader and of the writer
pub reader-tests : map (λ (c : Read). read_refusal c.buffer c.place c.n) reads ≡ map (λ (c : Read). c.answer) reads
unfolding read_refusal head_refusal marked coordinates_from signed open_refusal strict_refusal is_sent is_free_count fixed_message same_frame open_message
    read_bits level_messages level_message block_messages quotients all_digits digits in_range is_within broken weight_bit is_kind is_grade message_bytes
    message_bits quiet_frame quiet_filling first_least filled_frame filled free_from with_bits bytes_of byte_of numbered_frame is_odd half least_frame_by
    least_frame least_block best better cent before energy sq leader coordinate stacked block_numbers numbers degrees kinds levels level_bits sum_to
    codeword order dimension masks of_weight table message_bit backwards belongs clear_above reduced ones
reader-tests = refl

pub writer-tests : map (λ (c : Write). write_refusal c.kind c.grade c.message c.place c.room) writes ≡ map (λ (c : Write). c.answer) writes
unfolding write_refusal send_refusal is_grade is_kind kinds free_set is_free_count free_from any_set message_bytes message_bits level_bits degrees sum_to dimension
    order masks of_weight table message_bit ones
writer-tests = refl
