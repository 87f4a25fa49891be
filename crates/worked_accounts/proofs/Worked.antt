-- The accounts worked by hand are met by the definitions, by computing. Assumes nothing.
use mathlib.Core.Path.{refl}
use lib.Count.{ones}
use lib.Ieee.{add, sum, div, of_int}
use Rattle.bits.specs.Number.{sum_to, table}
use Rattle.bits.specs.Message.{message_bit, byte_of, bytes_of, with_bits}
use Rattle.reed_muller.specs.Level.{of_weight, masks, order, dimension, codeword}
use Rattle.e8.specs.Energy.{sq, energy}
use Rattle.e8.specs.Order.{before}
use Rattle.e8.specs.Largest.{largest_to}
use Rattle.e8.specs.Least.{cent, better, best, least_block, least_frame}
use Rattle.e8.specs.Ties.{least_frame_by}
use Rattle.frames.specs.Kind.{kinds, is_kind, is_grade, degrees, levels, level_bits, message_bits, message_bytes}
use Rattle.frames.specs.Message.{numbers, block_numbers, stacked, coordinate, leader}
use Rattle.frames.specs.Frame.{half, is_odd, numbered_frame}
use Rattle.frames.specs.Free.{is_free_count, free_from, filled, filled_frame, first_least, quiet_filling, quiet_frame}
use Rattle.frames.specs.Sending.{any_set, free_set, send_refusal}
use Rattle.power_account.specs.Power.{power_of}
use Rattle.power_account.specs.Opening.{opening_refusal, opened_with}
use Rattle.power_account.specs.Counted.{counted_refusal, counted_account}
use Rattle.power_account.specs.History.{sent_by}
use Rattle.worked_accounts.specs.Worked.{AsWorked}

pub as-worked : AsWorked
unfolding counted_refusal counted_account send_refusal is_grade is_kind is_free_count kinds free_set free_from any_set message_bytes message_bits level_bits numbered_frame
    is_odd half filled with_bits bytes_of byte_of filled_frame first_least quiet_filling quiet_frame
    least_frame_by least_frame least_block best better cent before energy sq leader coordinate stacked block_numbers numbers degrees levels sum_to codeword
    order dimension masks of_weight table message_bit ones largest_to power_of add sum div of_int sent_by opened_with opening_refusal
as-worked = record { grown = refl; with-free = refl; free-frames = refl; taken = refl; changed = refl; opened = refl }
