-- The number of either reading before any filling is compared. Private contracts cite it; clients need none of it. Assumes nothing.
use Rattle.std.specs.Prelude.{ℕ, cond, List, eqb, ℤ}
use Rattle.reading.specs.declared.refusal.Reading.{Reading}
use Rattle.reading.specs.declared.refusal.Reading.TheVariants.{Open, Even, Odd}
use Rattle.frames.specs.Sending.{unless}
use Rattle.frames.specs.Reading.{open_refusal, is_sent}

-- the strict reading under a number, as far as the frame's own message goes: it passes the frame that is sent for that where no bit of it is free
unfoldable pub sent_refusal : ℕ → ℕ → ℕ → ℕ → List ℤ → ℕ → ℕ
unfolding open_refusal is_sent
sent_refusal k b f number frame n =
    cond (eqb (open_refusal k b f frame n) 0) (unless (is_sent k b 0 number frame) 9 0) (open_refusal k b f frame n)

-- by which reading it is
abbrev pub refusal_of : Reading → ℕ → ℕ → ℕ → List ℤ → ℕ → ℕ
refusal_of Open k b f frame n = open_refusal k b f frame n
refusal_of Even k b f frame n = sent_refusal k b f 0 frame n
refusal_of Odd k b f frame n = sent_refusal k b f 1 frame n
