-- The answer of a reading by the tests that were passed, and what is left by it. Assumes nothing.
use Prim.Native.Nat.{ℕ, ◌+◌, ◌-◌, ◌/◌, ◌^◌, ◌≤◌, ◌<◌}
use mathlib.Core.Path.{◌≡◌, refl, sym, ap, ◌∙◌}
use mathlib.Core.Bool.{Bool, true, false, true≢false, cond}
use mathlib.Core.List.{List}
use native.Mathlib.Decide.{ℕ_discrete}
use native.Mathlib.Omega.{arith}
use lib.Dec.{eqb}
use lib.IntN.{ℤ}
use lib.ListN.{length}
use borrow.Author.Tests.{le-leb}
use Rattle.e8.specs.Ties.{least_frame_by}
use Rattle.frames.specs.Kind.{levels}
use Rattle.frames.specs.Frame.{half, is_odd}
use Rattle.frames.specs.Free.{is_free_count, filling, quiet_filling}
use Rattle.frames.specs.Sending.{unless}
use Rattle.frames.specs.Reading.{same_frame, open_message, fixed_message, open_refusal, is_sent, strict_refusal}
use Rattle.frames.proofs.Rows.{grade-low, grade-high}
use Rattle.frames.proofs.Refusals.{passed, accepted}
use Rattle.frames.proofs.Reading.{sent-is-least, taken-in-set}
use Rattle.frames.proofs.Numbered.{same-rule}
use Rattle.free_bits.proofs.Fillings.{free-few, none-quiet}
use Rattle.free_bits.proofs.LastByte.{last_byte}
use Rattle.free_bits.proofs.Strict.{none-sent, strict-decides, strict-as-open, strict-passed, sent-whole, taken-decides}
use Rattle.reading.specs.Numbers.{sent_refusal}

-- ---- the strict reading, before any filling is compared

module _ (k b f number : ℕ) (frame : List ℤ) (n : ℕ) where
  abbrev opened : ℕ
  opened = open_refusal k b f frame n

  abbrev sent : ℕ
  sent = sent_refusal k b f number frame n

  -- past the open reading's tests its own message decides
  pub sent-decides : opened ≡ 0 → sent ≡ unless (is_sent k b 0 number frame) 9 0
  unfolding sent_refusal
  sent-decides e = rw e

-- the frame's own message is that of the least of its class by the tie rule of the number
pub sent-tested : (k b f number : ℕ) (frame : List ℤ) (n e : ℕ) (odd : Bool) → open_refusal k b f frame n ≡ 0 → is_odd number ≡ odd → e ≡ levels k + b - 1
    → sent_refusal k b f number frame n ≡ unless (same_frame frame (least_frame_by odd (2 ^ e) (length frame / 8) frame)) 9 0
unfolding half
sent-tested k b f number frame n e odd h rule is =
    let a = accepted k b f frame n h in
    let set = taken-in-set k b f frame n h in
    sent-decides k b f number frame n h
    ∙ ap (λ (t : Bool). unless t 9 0) (none-sent k b number a.kind a.grade frame set)
    ∙ ap (λ (g : List ℤ). unless (same_frame frame g) 9 0) (sent-is-least k b a.kind a.grade number frame set)
    ∙ rw (rule, is, a.coordinates)

-- 0 and 1 stand for the numbers of their tie rules
pub even_rule : is_odd 0 ≡ false
unfolding is_odd
even_rule = refl

pub odd_rule : is_odd 1 ≡ true
unfolding is_odd
odd_rule = refl

-- where no bit is free, that is the strict reading under each number of the tie rule
pub sent-strict : (k b m number : ℕ) (frame : List ℤ) (n : ℕ) → is_odd m ≡ is_odd number → sent_refusal k b 0 m frame n ≡ strict_refusal k b 0 number frame n
unfolding sent_refusal strict_refusal is_sent
sent-strict k b m number frame n rule =
    let bytes : List ℕ = fixed_message k b 0 frame in
    ap (λ (g : List ℤ). cond (eqb (open_refusal k b 0 frame n) 0) (unless (same_frame frame g) 9 0) (open_refusal k b 0 frame n))
    (none-quiet k b m bytes ∙ same-rule k b m number bytes rule ∙ sym (none-quiet k b number bytes))

-- ---- the strict reading with free bits, and without them

-- a free count up to 4
pub few-enough : (f : ℕ) → f ≤ 4 → is_free_count f ≡ true
unfolding is_free_count
few-enough f h = le-leb f 4 h

-- a free count that there may be changes nothing of the open reading's tests
pub few-open : (k b f : ℕ) (frame : List ℤ) (n : ℕ) → is_free_count f ≡ true → open_refusal k b f frame n ≡ open_refusal k b 0 frame n
unfolding open_refusal is_free_count
few-open k b f frame n few = rw few

module _ (k b f number : ℕ) (frame : List ℤ) (n : ℕ) (few : is_free_count f ≡ true) where
  -- what is refused without free bits is refused with them, by the same number
  pub whole-refused : (strict_refusal k b 0 number frame n ≡ 0 → ⊥) → strict_refusal k b 0 number frame n ≡ strict_refusal k b f number frame n
  whole-refused h = go (ℕ_discrete (open_refusal k b 0 frame n) 0)
    where
      same : open_refusal k b f frame n ≡ open_refusal k b 0 frame n
      same = few-open k b f frame n few

      either : (t s : Bool) → (s ≡ true → t ≡ true) → (unless t 9 0 ≡ 0 → ⊥) → unless t 9 0 ≡ unless s 9 0
      either true s i h = absurd (h refl)
      either false false i h = refl
      either false true i h = absurd (true≢false (sym (i refl)))

      go : Dec (open_refusal k b 0 frame n ≡ 0) → strict_refusal k b 0 number frame n ≡ strict_refusal k b f number frame n
      go (yes z) =
          let a = accepted k b 0 frame n z in
          let whole = sent-whole k b number a.kind a.grade frame (taken-in-set k b 0 frame n z) f few in
          strict-decides k b 0 number frame n z
          ∙ either (is_sent k b 0 number frame) (is_sent k b f number frame) whole (λ e. h (strict-decides k b 0 number frame n z ∙ e))
          ∙ sym (strict-decides k b f number frame n (same ∙ z))
      go (no o) = strict-as-open k b 0 number frame n o ∙ sym same ∙ sym (strict-as-open k b f number frame n (λ e. o (sym same ∙ e)))

  -- of what is taken without them the filling decides
  pub whole-taken : strict_refusal k b 0 number frame n ≡ 0
      → strict_refusal k b f number frame n
      ≡ unless (eqb (quiet_filling k b f 0 (fixed_message k b f frame)) (filling k b f (open_message k b frame))) 9 0
  whole-taken e =
      let o = (strict-passed k b 0 number frame n e).0 in
      let a = accepted k b 0 frame n o in
      strict-decides k b f number frame n (few-open k b f frame n few ∙ o)
      ∙ ap (λ (t : Bool). unless t 9 0) (taken-decides k b number a.kind a.grade frame (taken-in-set k b 0 frame n o) f few
      (passed (is_sent k b 0 number frame) 8 0 (sym (strict-decides k b 0 number frame n o) ∙ e)).0)

-- a free count above 4, and more bytes than any message has, are refused by both readings alike
pub many-refused : (k b f number : ℕ) (frame : List ℤ) (n : ℕ) → 4 < f → open_refusal k b f frame n ≡ strict_refusal k b f number frame n
many-refused k b f number frame n h = sym (strict-as-open k b f number frame n (λ e. omega (arith, h, free-few f (accepted k b f frame n e).few)))

pub long-refused : (k b f number : ℕ) (frame : List ℤ) (n : ℕ) → 46 < n → open_refusal k b f frame n ≡ strict_refusal k b f number frame n
long-refused k b f number frame n h = sym (strict-as-open k b f number frame n (λ e.
    let a = accepted k b f frame n e in
    omega (arith, h, (last_byte k b n a.kind (grade-low b a.grade) (grade-high b a.grade) a.bytes).few)))
