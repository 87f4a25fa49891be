-- Frames of the coding set that are near to received samples (request E6). Samples are counted in 256ths here: a whole number t is the sample t / 256.
-- Assumes nothing.
use Rattle.std.specs.Prelude.{ℕ, ◌-◌, ◌*◌, ◌^◌, ◌<◌, ◌≡◌, Bool, true, false, ◌&&◌, cond, List, [], ◌∷◌, ◌++◌, map, eqb, leb, ltb, length, ℤ, pos, ◌+ℤ◌, ◌-ℤ◌, ◌*ℤ◌}
use Rattle.std.specs.Int.Signed.{shr_z}
use Rattle.e8.specs.Energy.{distance}
use Rattle.frames.specs.Kind.{degrees}
use Rattle.frames.specs.Frame.{InCodingSet}
use Rattle.frames.specs.Reading.{broken}

-- a frame, counted in 256ths
unfoldable pub frame_in_256ths : List ℤ → List ℤ
frame_in_256ths f = map (λ z. pos 256 *ℤ z) f

-- the squared distance of a frame from samples, in parts of 1 / 65,536: both are counted in 256ths
unfoldable pub nearness : List ℤ → List ℤ → ℕ
unfolding distance frame_in_256ths
nearness f t = distance (frame_in_256ths f) t

-- the kinds that have a near reading: 3, 4 and 5
unfoldable pub near_kind : ℕ → Bool
near_kind k = leb 3 k && leb k 5

-- the squared distances that are near lie below 1, 2, 4 for kinds 3, 4, 5; in the same parts
abbrev pub near_limit : ℕ → ℕ
near_limit k = 65536 * 2 ^ (k - 3)

-- t has as many samples as kind k has coordinates, and f is a frame of its coding set that is near to them
pub record IsNear (k : ℕ) (t f : List ℤ) : Type 0 where
  pub samples : length t ≡ 2 ^ k
  pub coded : InCodingSet k f
  pub close : nearness f t < near_limit k

-- the same as a test
unfoldable pub is_near : ℕ → List ℤ → List ℤ → Bool
unfolding broken degrees nearness
is_near k t f = eqb (length t) (2 ^ k) && (eqb (length f) (2 ^ k) && (eqb (broken k 0 (degrees k) f) 0 && ltb (nearness f t) (near_limit k)))

-- the whole numbers less than 2 away from the sample t / 256 are among these four
abbrev pub around : ℤ → List ℤ
around t = (shr_z t 256 -ℤ pos 1) ∷ shr_z t 256 ∷ (shr_z t 256 +ℤ pos 1) ∷ (shr_z t 256 +ℤ pos 2) ∷ []

-- each of the numbers before each of the frames
unfoldable pub prefixed : List ℤ → List (List ℤ) → List (List ℤ)
prefixed [] fs = []
prefixed (z ∷ zs) fs = map (λ f. z ∷ f) fs ++ prefixed zs fs

-- all frames with such coordinates
unfoldable pub frames_around : List ℤ → List (List ℤ)
unfolding prefixed
frames_around [] = [] ∷ []
frames_around (t ∷ ts) = prefixed (around t) (frames_around ts)

-- those of the frames that pass a test
unfoldable pub passing : (List ℤ → Bool) → List (List ℤ) → List (List ℤ)
passing test [] = []
passing test (f ∷ fs) = cond (test f) (f ∷ passing test fs) (passing test fs)

-- THE NEAR FRAMES, computed: of all frames with coordinates around the samples those that are near. There is none or one (laws Only, Frames)
unfoldable pub near_frames : ℕ → List ℤ → List (List ℤ)
unfolding passing frames_around is_near
near_frames k t = passing (is_near k t) (frames_around t)

-- there is a frame
abbrev pub some : List (List ℤ) → Bool
some [] = false
some (f ∷ fs) = true

-- the first frame, or the lent coordinates where there is none
abbrev pub first_or : List (List ℤ) → List ℤ → List ℤ
first_or [] lent = lent
first_or (f ∷ fs) lent = f

-- a frame is near
unfoldable pub some_near : ℕ → List ℤ → Bool
unfolding near_frames
some_near k t = some (near_frames k t)

-- THE NEAR FRAME, or the lent coordinates where there is none
unfoldable pub near_frame : ℕ → List ℤ → List ℤ → List ℤ
unfolding near_frames
near_frame k t lent = first_or (near_frames k t) lent

-- its squared distance, in parts of 1 / 65,536; 0 where there is none
unfoldable pub near_cost : ℕ → List ℤ → ℕ
unfolding near_frame nearness some_near
near_cost k t = cond (some_near k t) (nearness (near_frame k t []) t) 0
