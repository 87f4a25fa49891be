-- What sending a message gives, for its line. Assumes nothing.
use Prim.Native.Nat.{ℕ}
use mathlib.Core.Path.{◌≡◌, refl, ap, ap₂, ◌∙◌}
use mathlib.Core.List.{List}
use lib.IntN.{ℤ}
use Rattle.e8.specs.Energy.{energy}
use Rattle.frames.specs.Frame.{numbered_frame}
use Rattle.frames.specs.Sending.{frame_after, energy_sent}
use Rattle.frames.proofs.Accepted.{sent-leaves}
use Rattle.free_bits.proofs.Fillings.{none-quiet}
use Rattle.text.specs.Line.{line_of}
use Rattle.sheet_line.specs.Sent.{sent_line}

module _ (k b number : ℕ) (m : List ℕ) (f : List ℤ) where
  is : line_of k b (energy (numbered_frame k b number m)) (numbered_frame k b number m) ≡ sent_line k b number m
  unfolding sent_line
  is = refl

  -- the line of the frame that sending leaves
  pub sent-shown : (g : List ℤ) (e : ℕ) → g ≡ frame_after 0 k b 0 number m f → e ≡ energy_sent 0 k b 0 number m → line_of k b e g ≡ sent_line k b number m
  sent-shown g e qg qe =
      let t = sent-leaves 0 k b 0 number m f refl in
      let w = none-quiet k b number m in
      ap₂ (λ (x : ℕ) (y : List ℤ). line_of k b x y) (qe ∙ t.1 ∙ ap energy w) (qg ∙ t.0 ∙ w) ∙ is
