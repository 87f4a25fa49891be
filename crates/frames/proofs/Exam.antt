-- The table of kinds of document 01 and request E1, the leader's terms, the coding set, the exam frames and the further cases are met,
-- and the tests are made in their order: all by computing. Assumes nothing.
use Prim.Native.Nat.{ℕ, zero, suc, ◌+◌, ◌*◌, ◌≤◌, ◌<◌}
use mathlib.Core.Path.{◌≡◌, refl, sym, ap₂, ◌∙◌}
use mathlib.Core.Bool.{true, false, ◌&&◌, ◌||◌, or-false}
use mathlib.Core.List.{List, [], ◌∷◌, map}
use native.Mathlib.Omega.{arith}
use lib.Count.{ones}
use lib.Dec.{eqb}
use lib.IntN.{ℤ}
use lib.ListN.{get_or}
use borrow.Author.Tests.{le-leb, lt-leb, ne_eqb}
use Rattle.bits.specs.Number.{sum_to, table}
use Rattle.reed_muller.specs.Level.{of_weight, masks, order, dimension, codeword, backwards, clear_above, belongs}
use Rattle.bits.specs.Message.{message_bit, byte_of, bytes_of, with_bits}
use Rattle.e8.specs.Energy.{sq, energy, is_within}
use Rattle.e8.specs.Largest.{largest_to}
use Rattle.e8.specs.Order.{before}
use Rattle.e8.specs.Least.{cent, better, best, least_block, least_frame}
use Rattle.e8.specs.Ties.{least_frame_by}
use Rattle.e8.specs.Rows.{reduced}
use Rattle.frames.specs.Kind.{kinds, is_kind, is_grade, degrees, levels, level_bits, message_bits, message_bytes}
use Rattle.frames.specs.Message.{numbers, block_numbers, stacked, coordinate, leader}
use Rattle.frames.specs.Frame.{weight_bit, level_word, half, is_odd, numbered_frame, sent_frame}
use Rattle.frames.specs.Free.{is_free_count, free_from, filled, filling, filled_frame, first_least, quiet_filling, quiet_frame}
use Rattle.frames.specs.Sending.{any_set, free_set, send_refusal}
use Rattle.frames.specs.Reading.{level_message, level_messages, quotients, digits, all_digits, block_messages, read_bits, open_message}
use Rattle.frames.specs.Reading.{fixed_message, same_frame, in_range, broken, open_refusal, is_sent, strict_refusal}
use Rattle.frames.specs.Exam.{printed, AllPrinted, level_at, block_number_at, Leader, exams, sent_as, examined, layout, Numbered, numbered, sent_under}
use Rattle.frames.specs.Exam.{AllSets, NumberedTests, FreeCases, FurtherCases, SendingTests, FreeTests, ReadingTests}

-- the kinds are those printed: 3, 4, 5, 6 and no other
pub kinds-are : (k : ℕ) → is_kind k ≡ (eqb k 3 || (eqb k 4 || (eqb k 5 || eqb k 6)))
unfolding is_kind kinds
kinds-are k = rw (or-false (eqb k 6))

-- the grades are those printed: 1, 2, 3, 4 and no other
pub grades-are : (b : ℕ) → is_grade b ≡ (eqb b 1 || (eqb b 2 || (eqb b 3 || eqb b 4)))
unfolding is_grade
grades-are zero = refl
grades-are (suc zero) = refl
grades-are (suc (suc zero)) = refl
grades-are (suc (suc (suc zero))) = refl
grades-are (suc (suc (suc (suc zero)))) = refl
grades-are (suc (suc (suc (suc (suc c))))) = above (suc (suc (suc (suc (suc c))))) (omega arith)
  where
    above : (b : ℕ) → 4 < b → is_grade b ≡ (eqb b 1 || (eqb b 2 || (eqb b 3 || eqb b 4)))
    above b h =
        ap₂ ◌&&◌ (le-leb 1 b (omega arith)) (lt-leb b 4 h)
        ∙ sym (ap₂ ◌||◌ (other 1 (omega arith)) (ap₂ ◌||◌ (other 2 (omega arith)) (ap₂ ◌||◌ (other 3 (omega arith)) (other 4 (omega arith)))))
      where
        other : (n : ℕ) → n ≤ 4 → eqb b n ≡ false
        other n l = ne_eqb b n (λ e. omega arith)

-- each row says what the definitions give
pub printed-rows : AllPrinted printed
unfolding message_bytes message_bits level_bits levels degrees kinds dimension masks of_weight table ones
printed-rows = (
  record { n = refl; a = refl; codes = refl; bits = λ b. refl; bytes = λ b. omega arith; apart = refl },
  (
    record { n = refl; a = refl; codes = refl; bits = λ b. refl; bytes = λ b. omega arith; apart = refl },
    (
      record { n = refl; a = refl; codes = refl; bits = λ b. refl; bytes = λ b. omega arith; apart = refl },
      (record { n = refl; a = refl; codes = refl; bits = λ b. refl; bytes = λ b. omega arith; apart = refl }, tt),
    ),
  ),
)

-- each coordinate of the leader is the sum that is printed
pub leader-terms : (b : ℕ) (bytes : List ℕ) (p : ℕ) → Leader b bytes p
unfolding coordinate stacked block_numbers degrees kinds level_bits dimension masks of_weight table ones
leader-terms b bytes p = record {
  kind_3 = refl;
  kind-4 = three (level_at 4 1 0 bytes p) (level_at 4 3 5 bytes p) (block_number_at 20 b bytes p);
  kind-5 = three (level_at 5 1 0 bytes p) (level_at 5 3 6 bytes p) (block_number_at 32 b bytes p);
  kind-6 = four (level_at 6 1 0 bytes p) (level_at 6 3 7 bytes p) (level_at 6 5 49 bytes p) (block_number_at 112 b bytes p);
}
  where
    three : (c₀ c₁ s : ℕ) → c₀ + 2 * (c₁ + 2 * s) ≡ c₀ + 2 * c₁ + 4 * s
    three c₀ c₁ s = omega arith

    four : (c₀ c₁ c₂ s : ℕ) → c₀ + 2 * (c₁ + 2 * (c₂ + 2 * s)) ≡ c₀ + 2 * c₁ + 4 * c₂ + 8 * s
    four c₀ c₁ c₂ s = omega arith

-- the coding set of each kind is the printed one
pub sets-as-printed : (f : List ℤ) → AllSets printed f
unfolding weight_bit levels degrees kinds
sets-as-printed f = (
  record {
    long = λ set. set.long;
    codewords = λ set. (set.codewords 0 (omega arith), tt);
    inside = λ l c. record { long = l; codewords = one (λ i. belongs (get_or (1 ∷ []) i 0) 3 (level_word i f) ≡ true) c.0 };
  },
  (
    record {
      long = λ set. set.long;
      codewords = λ set. (set.codewords 0 (omega arith), (set.codewords 1 (omega arith), tt));
      inside = λ l c. record { long = l; codewords = two (λ i. belongs (get_or (1 ∷ 3 ∷ []) i 0) 4 (level_word i f) ≡ true) c.0 c.1.0 };
    },
    (
      record {
        long = λ set. set.long;
        codewords = λ set. (set.codewords 0 (omega arith), (set.codewords 1 (omega arith), tt));
        inside = λ l c. record { long = l; codewords = two (λ i. belongs (get_or (1 ∷ 3 ∷ []) i 0) 5 (level_word i f) ≡ true) c.0 c.1.0 };
      },
      (
        record {
          long = λ set. set.long;
          codewords = λ set. (set.codewords 0 (omega arith), (set.codewords 1 (omega arith), (set.codewords 2 (omega arith), tt)));
          inside = λ l c. record {
            long = l;
            codewords = three (λ i. belongs (get_or (1 ∷ 3 ∷ 5 ∷ []) i 0) 6 (level_word i f) ≡ true) c.0 c.1.0 c.1.1.0;
          };
        },
        tt,
      ),
    ),
  ),
)
  where
    one : (P : ℕ → Type 0) → P 0 → (i : ℕ) → i < 1 → P i
    one P a zero h = a
    one P a (suc i) h = absurd (omega arith)

    two : (P : ℕ → Type 0) → P 0 → P 1 → (i : ℕ) → i < 2 → P i
    two P a b zero h = a
    two P a b (suc i) h = one (λ j. P (suc j)) b i (omega arith)

    three : (P : ℕ → Type 0) → P 0 → P 1 → P 2 → (i : ℕ) → i < 3 → P i
    three P a b c zero h = a
    three P a b c (suc i) h = two (λ j. P (suc j)) b c i (omega arith)

-- each message is sent as its frame, with its energy
pub exam-frames : map sent_as exams ≡ map examined exams
unfolding sent_frame half least_frame least_block best better cent before energy sq leader coordinate stacked block_numbers numbers
    degrees kinds levels level_bits sum_to codeword order dimension masks of_weight table message_bit ones
exam-frames = refl

pub layout-frames : map sent_as layout ≡ map examined layout
unfolding sent_frame half least_frame least_block best better cent before energy sq leader coordinate stacked block_numbers numbers
    degrees kinds levels level_bits sum_to codeword order dimension masks of_weight table message_bit ones
layout-frames = refl

-- the frames of either tie rule
pub numbered-frames : map sent_under numbered ≡ map (λ (e : Numbered). e.frame) numbered
unfolding numbered_frame is_odd half least_frame_by least_frame least_block best better cent before energy sq leader coordinate stacked block_numbers numbers
    degrees kinds levels level_bits sum_to codeword order dimension masks of_weight table message_bit ones
numbered-frames = refl

-- and the strict reading by them
pub numbered-tests : NumberedTests
unfolding open_refusal strict_refusal is_sent is_free_count fixed_message filled free_from with_bits quiet_frame quiet_filling first_least filled_frame same_frame open_message read_bits level_messages level_message block_messages quotients all_digits digits
    in_range is_within broken weight_bit is_kind is_grade send_refusal free_set any_set message_bytes message_bits
    numbered_frame is_odd half least_frame_by least_frame least_block best better cent before energy sq leader coordinate stacked block_numbers numbers
    degrees kinds levels level_bits sum_to codeword order dimension masks of_weight table message_bit bytes_of byte_of backwards belongs clear_above reduced ones
numbered-tests = record {
  all-2-odd = refl;
  all-minus-2-odd = refl;
  all-minus-2-even = refl;
  mixed-openly = refl;
  mixed-odd = refl;
  mixed-even = refl;
  turned-even = refl;
  no-tie-even = refl;
  no-tie-odd = refl;
}

-- the fillings of a message with free bits
pub free-cases : FreeCases
unfolding open_refusal strict_refusal is_sent is_free_count fixed_message filled filling free_from with_bits quiet_frame quiet_filling first_least filled_frame same_frame open_message read_bits level_messages level_message block_messages quotients all_digits digits
    in_range is_within broken weight_bit is_kind is_grade send_refusal free_set any_set message_bytes message_bits
    numbered_frame is_odd half least_frame_by least_frame least_block best better cent before energy sq leader coordinate stacked block_numbers numbers
    degrees kinds levels level_bits sum_to codeword order dimension masks of_weight table message_bit bytes_of byte_of backwards belongs clear_above reduced ones
free-cases = record {
  energies = refl;
  even = refl;
  odd = refl;
  taken = refl;
  taken-odd = refl;
  sent = refl;
  passes-1 = refl;
  passes-1-odd = refl;
  nine-0 = refl;
  nine-2 = refl;
  nine-2-odd = refl;
  nine-3 = refl;
  whole-1 = refl;
  whole-2 = refl;
  filling-1 = refl;
  filling-2 = refl;
  fixed-1 = refl;
  fixed-2 = refl;
  three-least = refl;
  first-of-three = refl;
}

pub further-cases : FurtherCases
unfolding open_refusal strict_refusal is_sent is_free_count fixed_message filled free_from with_bits quiet_frame quiet_filling first_least filled_frame same_frame open_message read_bits level_messages level_message block_messages quotients all_digits digits
    in_range is_within broken weight_bit is_kind is_grade send_refusal free_set any_set message_bytes message_bits
    numbered_frame is_odd half least_frame_by least_frame least_block best better cent before energy sq leader coordinate stacked block_numbers numbers
    degrees kinds levels level_bits sum_to codeword order dimension masks of_weight table message_bit bytes_of byte_of backwards belongs clear_above reduced ones
further-cases = record {
  all-2-openly = refl;
  all-2-message = refl;
  all-2-strictly = refl;
  broken-level-0 = refl;
  spare-bit = refl;
  largest = refl;
  past-largest = refl;
  least = refl;
  past-least = refl;
}

pub sending-tests : SendingTests
unfolding is_kind is_grade is_free_count send_refusal free_set free_from any_set message_bytes message_bits
    level_bits degrees kinds dimension masks of_weight table message_bit ones
sending-tests = record { kind = refl; grade = refl; count = refl; bytes = refl; coordinates = refl; spare = refl; none = refl }

pub free-tests : FreeTests
unfolding is_kind is_grade is_free_count send_refusal free_set free_from any_set message_bytes message_bits
    level_bits degrees kinds dimension masks of_weight table message_bit ones
free-tests = record { most = refl; first-of-4 = refl; last-of-4 = refl; one = refl; first-of-1 = refl; spare = refl }

pub reading-tests : ReadingTests
unfolding open_refusal strict_refusal is_sent is_free_count fixed_message filled free_from with_bits quiet_frame quiet_filling first_least filled_frame same_frame open_message read_bits level_messages level_message block_messages quotients all_digits digits
    in_range is_within broken weight_bit is_kind is_grade send_refusal free_set any_set message_bytes message_bits
    numbered_frame is_odd half least_frame_by least_frame least_block best better cent before energy sq leader coordinate stacked block_numbers numbers
    degrees kinds levels level_bits sum_to codeword order dimension masks of_weight table message_bit bytes_of byte_of backwards belongs clear_above reduced ones
reading-tests = record {
  kind = refl;
  grade = refl;
  count = refl;
  coordinates = refl;
  bytes = refl;
  range = refl;
  level-0 = refl;
  level-1 = refl;
  unshaped = refl;
  none = refl;
}
