-- THE RANGE OF THE READINGS as theorems (request E8): 6 exactly where a coordinate is too large, the frames of the largest energy, and large frames to the
-- strict reading. For every kind of the table, every grade, free count and number. Assumes nothing.
use Prim.Native.Nat.{ℕ, zero, suc, ◌*◌, ◌%◌, ◌^◌, ◌≤◌, ◌<◌}
use mathlib.Core.Path.{◌≡◌, refl, sym, ap, ◌∙◌, subst}
use mathlib.Core.Logic.{◌⊎◌, inl, inr}
use mathlib.Core.Bool.{Bool, true, false, ◌&&◌, cond, true≢false}
use mathlib.Core.List.{List, [], ◌∷◌}
use native.Mathlib.Omega.{arith}
use lib.Dec.{eqb, leb}
use lib.ListN.{length, get_or}
use lib.IntN.{ℤ, pos, negsuc, nat_abs}
use borrow.Author.Tests.{eqb-true, eq-eqb, leb-false}
use Rattle.reed_muller.specs.Level.{belongs}
use Rattle.reed_muller.proofs.Belongs.{belongs-cong}
use Rattle.reed_muller.proofs.Product.{belongs-none}
use Rattle.e8.specs.Energy.{sq, energy, is_within, Within}
use Rattle.e8.proofs.Within.{within-at, within_all, energy-within}
use Rattle.frames.specs.Kind.{is_kind, is_grade, degrees, levels, message_bytes, scale}
use Rattle.frames.specs.Frame.{weight_bit, level_word, InCodingSet}
use Rattle.frames.specs.Free.{is_free_count, filled, filled_frame, quiet_filling, quiet_frame}
use Rattle.frames.specs.Sending.{unless}
use Rattle.frames.specs.Reading.{fixed_message, same_frame, largest_read, in_range, broken, open_refusal, is_sent, strict_refusal, energy_read}
use Rattle.frames.specs.Demands.{FirstBroken, FarOut, SixExactly, AtEnds, LargestEnergy, LargeUnshaped}
use Rattle.frames.proofs.Rows.{grade-low}
use Rattle.frames.proofs.Limits.{few-levels}
use Rattle.frames.proofs.Demands.{sent-within}
use Rattle.frames.proofs.Refusals.{same-frame, range-within, within-range, Accepted, accepted, levels-answer, set-passes, seven-eight-thirteen}
use Rattle.frames.proofs.Reading.{inside-taken}

-- ---- 6

-- a frame that is not in range has a coordinate that is too large
found : (f : List ℤ) → is_within largest_read f ≡ false → FarOut f
unfolding is_within
found [] e = absurd (true≢false e)
found (z ∷ f) e = go (leb (nat_abs z) largest_read) refl e (found f)
  where
    go : (t : Bool) → leb (nat_abs z) largest_read ≡ t → (t && is_within largest_read f) ≡ false → (is_within largest_read f ≡ false → FarOut f) → FarOut (z ∷ f)
    go true s e rest = let r = rest e in record { place = suc r.place; inside = omega (arith, r.inside); larger = r.larger }
    go false s e rest = record { place = 0; inside = omega arith; larger = leb-false (nat_abs z) largest_read s }

far-out : (f : List ℤ) → in_range f ≡ false → FarOut f
unfolding in_range
far-out f e = found f e

-- and the other way round
out_of_range : (f : List ℤ) → FarOut f → in_range f ≡ false
out_of_range f far = go (in_range f) refl
  where
    go : (t : Bool) → in_range f ≡ t → in_range f ≡ false
    go true e = absurd (omega (arith, far.larger, within-at largest_read f far.place (range-within f e)))
    go false e = e

-- a test by another number was passed
later : (t : Bool) (number next : ℕ) → (number ≡ 6 → ⊥) → unless t number next ≡ 6 → (t ≡ true) × (next ≡ 6)
later true number next h e = (refl, e)
later false number next h e = absurd (h e)

module _ (k b f : ℕ) (frame : List ℤ) (n : ℕ) where
  over : is_kind k ≡ true → is_grade b ≡ true → is_free_count f ≡ true → length frame ≡ 2 ^ k → n ≡ message_bytes k b → FarOut frame
      → open_refusal k b f frame n ≡ 6
  unfolding open_refusal
  over kind grade few long bytes far = rw (kind, grade, few, eq-eqb (length frame) (2 ^ k) long, eq-eqb n (message_bytes k b) bytes, out_of_range frame far)

  -- no level is answered by 6
  no-level : is_kind k ≡ true → length frame ≡ 2 ^ k → broken k 0 (degrees k) frame ≡ 6 → ⊥
  no-level kind long e = go (levels-answer k frame long)
    where
      other : (broken k 0 (degrees k) frame ≡ 7) ⊎ ((broken k 0 (degrees k) frame ≡ 8) ⊎ (broken k 0 (degrees k) frame ≡ 13)) → ⊥
      other (inl t) = absurd (omega (arith, e, t))
      other (inr (inl t)) = absurd (omega (arith, e, t))
      other (inr (inr t)) = absurd (omega (arith, e, t))

      go : InCodingSet k frame ⊎ FirstBroken k frame (broken k 0 (degrees k) frame) → ⊥
      go (inl set) = absurd (omega (arith, e, set-passes k frame set))
      go (inr first) = other (seven-eight-thirteen k frame (broken k 0 (degrees k) frame) kind first)

  only : open_refusal k b f frame n ≡ 6 → FarOut frame
  unfolding open_refusal
  only e =
      let t₁ = later (is_kind k) 1 _ (λ z. absurd (omega arith)) e in
      let t₂ = later (is_grade b) 2 _ (λ z. absurd (omega arith)) t₁.1 in
      let t₃ = later (is_free_count f) 17 _ (λ z. absurd (omega arith)) t₂.1 in
      let t₄ = later (eqb (length frame) (2 ^ k)) 4 _ (λ z. absurd (omega arith)) t₃.1 in
      let t₅ = later (eqb n (message_bytes k b)) 3 _ (λ z. absurd (omega arith)) t₄.1 in
      go (in_range frame) refl t₁.0 (eqb-true (length frame) (2 ^ k) t₄.0) t₅.1
    where
      go : (t : Bool) → in_range frame ≡ t → is_kind k ≡ true → length frame ≡ 2 ^ k → unless t 6 (broken k 0 (degrees k) frame) ≡ 6 → FarOut frame
      go true s kind long e = absurd (no-level kind long e)
      go false s kind long e = far-out frame s

  only-strict : (number : ℕ) → strict_refusal k b f number frame n ≡ 6 → FarOut frame
  unfolding strict_refusal
  only-strict number e = go (eqb (open_refusal k b f frame n) 0) (is_sent k b f number frame) e
    where
      go : (s t : Bool) → cond s (unless t 9 0) (open_refusal k b f frame n) ≡ 6 → FarOut frame
      go true true e = absurd (omega arith)
      go true false e = absurd (omega arith)
      go false t e = only e

  -- "6 begins at 16,777,217"
  pub six-exactly : SixExactly k b f frame n
  unfolding strict_refusal
  six-exactly = record {
    openly = over;
    strictly = λ kind grade few long bytes number far. rw (over kind grade few long bytes far);
    only-openly = only;
    only-strictly = only-strict;
  }

-- ---- the largest energy

-- 16,777,216 is a multiple of 8: its bits of weight 1, 2 and 4 are 0, and so are those of −16,777,216
end-bit : (i : ℕ) → i < 3 → (z : ℤ) → nat_abs z ≡ largest_read → weight_bit i z ≡ 0
unfolding weight_bit
end-bit zero h (pos n) e = omega (arith, e)
end-bit zero h (negsuc n) e = omega (arith, e)
end-bit (suc zero) h (pos n) e = omega (arith, e)
end-bit (suc zero) h (negsuc n) e = omega (arith, e)
end-bit (suc (suc zero)) h (pos n) e = omega (arith, e)
end-bit (suc (suc zero)) h (negsuc n) e = omega (arith, e)
end-bit (suc (suc (suc i))) h z e = absurd (omega arith)

energy-at : (B : ℕ) (f : List ℤ) → ((p : ℕ) → p < length f → nat_abs (get_or f p (pos 0)) ≡ B) → energy f ≡ length f * (B * B)
unfolding energy sq
energy-at B [] h = omega arith
energy-at B (z ∷ f) h = omega (arith, ap (λ (m : ℕ). m * m) (h 0 (omega arith)), energy-at B f (λ p l. h (suc p) (omega arith)))

module _ (k : ℕ) (kind : is_kind k ≡ true) (frame : List ℤ) (ends : AtEnds k frame) where
  ends-in-set : InCodingSet k frame
  ends-in-set = record {
    long = ends.long;
    codewords = λ i h.
        belongs-cong (get_or (degrees k) i 0) k (level_word i frame) (λ p. 0)
        (λ p l. ap (λ (x : ℕ). x % 2) (end-bit i (omega (arith, h, few-levels k kind)) (get_or frame p (pos 0)) (ends.each p l)))
        ∙ belongs-none (get_or (degrees k) i 0) k;
  }

  ends-in-range : in_range frame ≡ true
  ends-in-range = within-range frame (within_all largest_read frame (λ p l. omega (arith, ends.each p (omega (arith, ends.long)))))

  ends-energy : energy frame ≡ 2 ^ k * (largest_read * largest_read)
  ends-energy =
      energy-at largest_read frame (λ p l. ends.each p (omega (arith, ends.long))) ∙ ap (λ (m : ℕ). m * (largest_read * largest_read)) ends.long

-- what is reported is at most that
most-energy : (k b f : ℕ) (frame : List ℤ) (n refusal : ℕ) → (refusal ≡ 0 → open_refusal k b f frame n ≡ 0)
    → energy_read refusal frame ≤ 2 ^ k * (largest_read * largest_read)
unfolding energy_read
most-energy k b f frame n refusal passed = go (eqb refusal 0) refl
  where
    go : (t : Bool) → eqb refusal 0 ≡ t → cond t (energy frame) 0 ≤ 2 ^ k * (largest_read * largest_read)
    go true e =
        let a = accepted k b f frame n (passed (eqb-true refusal 0 e)) in
        omega (arith, energy-within largest_read frame (range-within frame a.range), ap (λ (m : ℕ). m * (largest_read * largest_read)) a.coordinates)
    go false e = omega arith

-- what the strict reading takes has passed the open reading's tests
pub strict-open : (k b f number : ℕ) (frame : List ℤ) (n : ℕ) → strict_refusal k b f number frame n ≡ 0 → open_refusal k b f frame n ≡ 0
unfolding strict_refusal
strict-open k b f number frame n e = go (eqb (open_refusal k b f frame n) 0) refl e
  where
    go : (t : Bool) → eqb (open_refusal k b f frame n) 0 ≡ t → cond t (unless (is_sent k b f number frame) 9 0) (open_refusal k b f frame n) ≡ 0
        → open_refusal k b f frame n ≡ 0
    go true s e = eqb-true (open_refusal k b f frame n) 0 s
    go false s e = e

pub largest-energy : (k b f n : ℕ) → is_kind k ≡ true → is_grade b ≡ true → is_free_count f ≡ true → n ≡ message_bytes k b → LargestEnergy k b f n
unfolding energy_read
largest-energy k b f n kind grade few bytes = record {
  read = taken;
  reported = λ frame ends. rw (taken frame ends) (ends-energy k kind frame ends);
  most = λ frame. most-energy k b f frame n (open_refusal k b f frame n) (λ e. e);
  most-strictly = λ number frame. most-energy k b f frame n (strict_refusal k b f number frame n) (strict-open k b f number frame n);
}
  where
    taken : (frame : List ℤ) → AtEnds k frame → open_refusal k b f frame n ≡ 0
    taken frame ends = inside-taken k b kind grade f few frame n bytes (ends-in-set k kind frame ends) (ends-in-range k kind frame ends)

-- ---- large frames to the strict reading

-- no coordinate of what is sent is above M in size
pub sent-frame-within : (k b f number : ℕ) → is_kind k ≡ true → is_grade b ≡ true → (bytes : List ℕ) → Within (scale k b) (quiet_frame k b f number bytes)
unfolding quiet_frame filled_frame
sent-frame-within k b f number kind grade bytes = sent-within k b kind (grade-low b grade) number (filled k b f (quiet_filling k b f number bytes) bytes)

-- so a frame with a coordinate above M in size is sent for no message
not-sent : (k b f number : ℕ) → is_kind k ≡ true → is_grade b ≡ true → (frame : List ℤ) (p : ℕ) → scale k b < nat_abs (get_or frame p (pos 0))
    → is_sent k b f number frame ≡ false
unfolding is_sent
not-sent k b f number kind grade frame p large = go (same_frame frame sent) refl
  where
    sent : List ℤ
    sent = quiet_frame k b f number (fixed_message k b f frame)

    go : (t : Bool) → same_frame frame sent ≡ t → t ≡ false
    go false e = refl
    go true e = absurd (omega (
      arith,
      large,
      ap (λ (g : List ℤ). nat_abs (get_or g p (pos 0))) (same-frame frame sent e),
      within-at (scale k b) sent p (sent-frame-within k b f number kind grade (fixed_message k b f frame)),
    ))

pub large-unshaped : (k b f : ℕ) (frame : List ℤ) (n : ℕ) → LargeUnshaped k b f frame n
unfolding strict_refusal
large-unshaped k b f frame n = record {
  nine = λ e number p large. let a = accepted k b f frame n e in rw (e, not-sent k b f number a.kind a.grade frame p large);
}
