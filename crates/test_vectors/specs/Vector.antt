-- The judgements that a vector is put to, by the definitions of the library; a vector leaves no bit free. Assumes nothing.
use Rattle.std.specs.Prelude.{ℕ, suc, ◌-◌, ◌*◌, ◌/◌, Bool, true, false, ◌&&◌, cond, List, [], ◌∷◌, ◌++◌, eqb, leb, ltb, ℤ, pos, ◌+ℤ◌, length, replicate}
use Rattle.std.specs.Int.Bits.{bit_xor}
use Rattle.std.specs.Int.Signed.{lt_z}
use Rattle.e8.specs.Energy.{energy}
use Rattle.frames.specs.Frame.{numbered_frame}
use Rattle.frames.specs.Sending.{send_refusal}
use Rattle.frames.specs.Reading.{fixed_message, open_refusal, strict_refusal, same_frame}
use Rattle.octets.specs.Same.{same_bytes}
use Rattle.test_tally.specs.Tally.{Judgement}
use Rattle.test_vectors.specs.declared.checks.Under.{Under}
use Rattle.test_vectors.specs.declared.checks.Energies.{Energies}
use Rattle.test_vectors.specs.declared.checks.Reading.{Reading}
use Rattle.test_vectors.specs.declared.checks.Reading.TheVariants.{Openly, Strictly}
use Rattle.test_vectors.specs.declared.Check.{Check}
use Rattle.test_vectors.specs.declared.Check.TheVariants.{Record, Sent, Open, Strict, Passed, Refused, Whole, Half, One, Two, Four}

-- the place of a check in the tally
abbrev pub place : Check → ℕ
place Record = 0
place Sent = 1
place Open = 2
place Strict = 3
place Passed = 4
place Refused = 5
place Whole = 6
place Half = 7
place One = 8
place Two = 9
place Four = 10

-- ---- sending and reading

-- the message m is sent as the frame f, with the energy e; there is room for 64 coordinates
unfoldable pub is_sent_as : Under → List ℕ → List ℤ → ℕ → Bool
is_sent_as u m f e =
    let sent = numbered_frame u.kind u.grade u.number m in
    leb (length f) 64 && (eqb (send_refusal u.kind u.grade 0 m (length f)) 0 && (eqb (energy sent) e && same_frame sent f))

-- one of the two readings
abbrev pub is_strict : Reading → Bool
is_strict Openly = false
is_strict Strictly = true

-- what the strict reading or the open one answers of a frame; n message bytes are lent
abbrev pub read_refusal : Bool → Under → List ℤ → ℕ → ℕ
read_refusal strict u f n = cond strict (strict_refusal u.kind u.grade 0 u.number f n) (open_refusal u.kind u.grade 0 f n)

-- the frame f is read as the message m, with the energy e; there is room for 48 bytes
unfoldable pub is_read_as : Bool → Under → List ℤ → List ℕ → ℕ → Bool
is_read_as strict u f m e =
    leb (length m) 48
    && (eqb (read_refusal strict u f (length m)) 0 && (eqb (energy f) e && same_bytes (fixed_message u.kind u.grade 0 f) m))

-- the reading of the frame f answers the number, where n bytes are lent; that a refusal leaves them, and answers no energy, is the library's contract
unfoldable pub is_answered : Bool → Under → List ℤ → ℕ → ℕ → Bool
is_answered strict u f n number = leb n 48 && eqb (read_refusal strict u f n) number

-- the same under the number beside it, which has the other parity
abbrev pub beside_of : Under → Under
beside_of u = record { kind = u.kind; grade = u.grade; number = bit_xor u.number 1; other = u.other }

-- ---- what is lent before a call: a frame of marks, of a size that no sent frame has, and bytes of marks

unfoldable pub marked_frame : List ℤ
marked_frame = replicate 64 (pos 77777)

unfoldable pub marked_bytes : List ℕ
marked_bytes = replicate 48 165

-- ---- frames with coordinates moved

-- the scale M, 2 to the number of levels and the grade: kinds 3, 4, 5 and 6 have 1, 2, 2 and 3 levels
abbrev pub grade_scale : ℕ → ℕ
grade_scale b = cond (eqb b 1) 4 (cond (eqb b 2) 8 (cond (eqb b 3) 16 32))

unfoldable pub scale_of : ℕ → ℕ → ℕ
scale_of k b = cond (eqb k 3) (grade_scale b) (cond (eqb k 6) (4 * grade_scale b) (2 * grade_scale b))

-- a coordinate moved up; one above 2^30, which no reading takes, stays
unfoldable pub moved_by : ℕ → ℤ → ℤ
moved_by by z = cond (lt_z (pos 1073741824) z) z (z +ℤ pos by)

-- the coordinates from a up to e moved, of a frame whose first one has place p
unfoldable pub moved_from : ℕ → ℕ → ℕ → ℕ → List ℤ → List ℤ
moved_from a e by p [] = []
moved_from a e by p (z ∷ f) = cond (leb a p && ltb p e) (moved_by by z) z ∷ moved_from a e by (suc p) f

abbrev pub moved_frame : ℕ → ℕ → ℕ → List ℤ → List ℤ
moved_frame a e by f = moved_from a e by 0 f

-- another frame of the sent frame's class: the open reading gives the message, with the energy, and the strict reading 9
unfoldable pub is_equivalent : Under → List ℤ → List ℕ → ℕ → Bool
is_equivalent u f m e = is_read_as false u f m e && is_answered true u f (length m) 9

-- with its first coordinate moved, both readings answer the number
unfoldable pub is_broken : Under → List ℕ → List ℤ → ℕ → ℕ → Bool
is_broken u m f by number =
    is_answered false u (moved_frame 0 1 by f) (length m) number && is_answered true u (moved_frame 0 1 by f) (length m) number

-- ---- all judgements of a vector, each with the place of its check in the tally

abbrev pub ◌at◌ : Bool → ℕ → Judgement
passed at check = record { check = check; passed = passed }

infixl 30 ◌at◌
-- under the number of the other parity the strict reading passes the frame where it is the only one of least energy, and refuses it else
abbrev pub other_judgement : Under → List ℕ → List ℤ → ℕ → Judgement
other_judgement u m f e =
    cond (eqb u.other 0) (is_read_as true (beside_of u) f m e at 4) (is_answered true (beside_of u) f (length m) u.other at 5)

-- with a point of the lattice added: M at two places of the first block, M/2 at each place of the last
abbrev pub point_judgements : Under → List ℕ → List ℤ → Energies → List Judgement
point_judgements u m f energies =
    (is_equivalent u (moved_frame 0 2 (scale_of u.kind u.grade) f) m energies.whole at 6)
    ∷ (is_equivalent u (moved_frame (length f - 8) (length f) (scale_of u.kind u.grade / 2) f) m energies.half at 7)
    ∷ []

-- moved out of the coding set: by 1, by 2 where there is a level 1, and by 4 where there is a level 2
unfoldable pub broken_judgements : Under → List ℕ → List ℤ → List Judgement
broken_judgements u m f =
    (is_broken u m f 1 7 at 8)
    ∷ cond (eqb u.kind 3) [] ((is_broken u m f 2 8 at 9) ∷ cond (eqb u.kind 6) ((is_broken u m f 4 13 at 10) ∷ []) [])

unfoldable pub judgements_of : Under → List ℕ → List ℤ → Energies → List Judgement
unfolding broken_judgements
judgements_of u m f energies =
    (is_sent_as u m f energies.sent at 1)
    ∷ (is_read_as false u f m energies.sent at 2)
    ∷ (is_read_as true u f m energies.sent at 3)
    ∷ other_judgement u m f energies.sent
    ∷ cond (leb 8 (length f) && leb (length f) 64) (point_judgements u m f energies ++ broken_judgements u m f) []
