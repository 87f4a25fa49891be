-- Document 01's example sheet, a sheet of tied messages, and their listings computed whole from the definitions. Assumes nothing.
use Rattle.std.proofs.Common.{◌≡◌, ℕ, List, [], ◌∷◌, refl}
use lib.Count.{ones}
use Rattle.bits.specs.Number.{sum_to, table}
use Rattle.reed_muller.specs.Level.{of_weight, masks, order, dimension, codeword}
use Rattle.bits.specs.Message.{message_bit}
use Rattle.e8.specs.Energy.{sq, energy}
use Rattle.e8.specs.Order.{before}
use Rattle.e8.specs.Least.{cent, better, best, least_block, least_frame}
use Rattle.e8.specs.Ties.{least_frame_by}
use Rattle.frames.specs.Kind.{kinds, is_kind, is_grade, degrees, levels, level_bits, message_bits, message_bytes}
use Rattle.frames.specs.Message.{numbers, block_numbers, stacked, coordinate, leader}
use Rattle.frames.specs.Frame.{half, is_odd, numbered_frame}
use Rattle.frames.specs.Free.{is_free_count, free_from}
use Rattle.frames.specs.Sending.{any_set, free_set, send_refusal}
use Rattle.text.specs.Text.{bytes, digits_of, decimal_of, signed_of}
use Rattle.text.specs.Line.{header_text, coordinates_of, line_of, refused_text}
use Rattle.sheet_record.specs.Record.{marked, record_refusal, record_number}
use Rattle.sheet_line.specs.Sent.{sent_line}
use Rattle.listing.specs.Listing.{line_at, next_at, lines_from, listing_of}

-- 4C 43 03 01 00 08 4C 43 03 01 02 00 4C 43 03 05
pub sheet : List ℕ
sheet = 76 ∷ 67 ∷ 3 ∷ 1 ∷ 0 ∷ 8 ∷ 76 ∷ 67 ∷ 3 ∷ 1 ∷ 2 ∷ 0 ∷ 76 ∷ 67 ∷ 3 ∷ 5 ∷ []

pub example : listing_of sheet ≡ bytes "kind grade energy frame\n3 1 16 -4 0 0 0 0 0 0 0\n3 1 4 0 1 0 1 0 1 0 1\nrefused 2\n"
unfolding sheet listing_of lines_from line_at next_at sent_line record_number record_refusal marked send_refusal is_grade is_kind is_free_count kinds free_set free_from
    any_set message_bytes message_bits level_bits header_text line_of refused_text coordinates_of signed_of decimal_of digits_of bytes numbered_frame is_odd half
    least_frame_by least_frame least_block best better cent before energy sq leader coordinate stacked block_numbers numbers degrees levels sum_to
    codeword order dimension masks of_weight table message_bit ones
example = refl

-- request E5, "a sheet numbers its records from 0": 00 08 three times. The second record has number 1
pub tied : List ℕ
tied = 76 ∷ 67 ∷ 3 ∷ 1 ∷ 0 ∷ 8 ∷ 76 ∷ 67 ∷ 3 ∷ 1 ∷ 0 ∷ 8 ∷ 76 ∷ 67 ∷ 3 ∷ 1 ∷ 0 ∷ 8 ∷ []

pub numbered : listing_of tied ≡ bytes "kind grade energy frame\n3 1 16 -4 0 0 0 0 0 0 0\n3 1 16 4 0 0 0 0 0 0 0\n3 1 16 -4 0 0 0 0 0 0 0\n"
unfolding tied listing_of lines_from line_at next_at sent_line record_number record_refusal marked send_refusal is_grade is_kind is_free_count kinds free_set free_from
    any_set message_bytes message_bits level_bits header_text line_of refused_text coordinates_of signed_of decimal_of digits_of bytes numbered_frame is_odd half
    least_frame_by least_frame least_block best better cent before energy sq leader coordinate stacked block_numbers numbers degrees levels sum_to
    codeword order dimension masks of_weight table message_bit ones
numbered = refl

-- no input: the header only
pub empty : listing_of [] ≡ header_text
unfolding listing_of lines_from header_text bytes
empty = refl
