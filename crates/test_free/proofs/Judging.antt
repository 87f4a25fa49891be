-- The judgements of a record: by what a call answered and left, frame by frame. Assumes nothing.
use Prim.Native.Nat.{ℕ, ◌+◌, ◌*◌, ◌-◌, ◌/◌, ◌≤◌, ◌<◌}
use mathlib.Core.Path.{◌≡◌, refl, sym, ap, ap₂, ◌∙◌}
use mathlib.Core.Bool.{Bool, true, false, ◌&&◌}
use mathlib.Core.List.{List}
use native.Mathlib.Nat.{mul-le-mul, mul-le-mul_left, mul-div-le}
use native.Mathlib.Numerals.{add-one}
use native.Mathlib.Omega.{arith}
use lib.Dec.{eqb}
use lib.IntN.{ℤ}
use lib.ListN.{length, take, drop, length-drop}
use lib.Seq.{take_all}
use borrow.Author.Tests.{eq-eqb, ne_eqb, eqb-true}
use Rattle.frames.specs.Reading.{message_after, energy_read}
use Rattle.power_account.specs.declared.Account.{Account}
use Rattle.octets.specs.Same.{same_bytes}
use Rattle.octets.proofs.Compared.{same-exactly}
use Rattle.test_tally.specs.Tally.{judged_all}
use Rattle.test_tally.proofs.Counted.{then-judged}
use Rattle.test_free.specs.declared.calls.Under.{Under}
use Rattle.test_free.specs.declared.calls.Answer.{Answer}
use Rattle.test_free.specs.declared.calls.Sent.{Sent}
use Rattle.test_free.specs.Judged.{
  answered,
  same_answer,
  same_sent,
  marked_frame,
  read_refusal,
  read_answer,
  is_read_free,
  sent_of,
  frame_left,
  record_of,
  is_left,
  is_sent_free,
  read_judgements,
  frame_judgements,
  all_judgements,
}

-- ---- a reading that is given `lent`, of which there are n bytes

module _ (strict : Bool) (u : Under) (x : List ℤ) (m : List ℕ) (expected : Answer) (lent : List ℕ) {n : ℕ} (as_long : n ≡ length m) where
  -- it answers a, and leaves m'
  abbrev Given : Answer → List ℕ → ℕ → Bool
  Given a m' n = same_answer (read_answer strict u x n) a && same_bytes (message_after (read_refusal strict u x n) u.kind u.grade u.free x lent) m'

  pub read-passed : expected.number ≡ 0 → Given expected m n ≡ is_read_free strict u x m expected
  unfolding is_read_free message_after energy_read
  read-passed z = ap (Given expected m) as_long ∙ go (eqb (read_refusal strict u x (length m)) expected.number) refl
    where
      go : (t : Bool) → eqb (read_refusal strict u x (length m)) expected.number ≡ t → Given expected m (length m) ≡ is_read_free strict u x m expected
      go true e =
          rw (
            e,
            eq-eqb expected.number 0 z,
            eq-eqb (read_refusal strict u x (length m)) 0 (eqb-true (read_refusal strict u x (length m)) expected.number e ∙ z),
          ) refl
      go false e = rw e refl

  pub read-refused : {left : List ℕ} → left ≡ lent → (expected.number ≡ 0 → ⊥) → Given (answered expected.number 0) left n ≡ is_read_free strict u x m expected
  unfolding is_read_free message_after energy_read
  read-refused l z =
      ap₂ (λ (m' : List ℕ) (n : ℕ). Given (answered expected.number 0) m' n) l as_long ∙ go (eqb (read_refusal strict u x (length m)) expected.number) refl
    where
      go : (t : Bool) → eqb (read_refusal strict u x (length m)) expected.number ≡ t
          → Given (answered expected.number 0) lent (length m) ≡ is_read_free strict u x m expected
      go true e =
          rw (
            e,
            ne_eqb expected.number 0 z,
            ne_eqb (read_refusal strict u x (length m)) 0 (λ r. z (sym (eqb-true (read_refusal strict u x (length m)) expected.number e) ∙ r)),
            (same-exactly lent lent).same refl,
          ) refl
      go false e = rw e refl

-- ---- sending into a part of the marks, `before`

pub passes : (counted : Bool) (u : Under) (m : List ℕ) (n : ℕ) (a : Account) (expected : Sent) (frames : List ℕ) {before lent : List ℤ} {passed : Bool}
    → before ≡ take n marked_frame → lent ≡ take n marked_frame → length before ≡ n
    → passed ≡ (same_sent (sent_of counted u m (length before) a) expected && is_left expected lent frames (frame_left counted u m a before))
    → passed ≡ is_sent_free counted u m n a expected frames
unfolding is_sent_free
passes counted u m n a expected frames {before = before} p q l e =
    e
    ∙ ap₂ (λ (n : ℕ) (lent : List ℤ). same_sent (sent_of counted u m n a) expected && is_left expected lent frames (frame_left counted u m a before)) l q
    ∙ ap
    (λ (before : List ℤ). same_sent (sent_of counted u m n a) expected && is_left expected (take n marked_frame) frames (frame_left counted u m a before))
    p

-- ---- the readings of a frame

module _ (u : Under) (m : List ℕ) where
  pub of-frame : (t₀ : List ℕ) {t : List ℕ} {x x' : List ℤ} {a a' b b' : Answer} → t ≡ judged_all (read_judgements u m x a b) t₀ → x ≡ x' → a ≡ a' → b ≡ b'
      → t ≡ judged_all (read_judgements u m x' a' b') t₀
  of-frame t₀ {x' = x'} {a = a} {b = b} e p q r =
      e
      ∙ ap (λ (x : List ℤ). judged_all (read_judgements u m x a b) t₀) p
      ∙ ap₂ (λ (a b : Answer). judged_all (read_judgements u m x' a b) t₀) q r

-- ---- the frames one behind the other, each in s bytes

-- frame i stands within the bytes
pub inside : (l s i : ℕ) → i < l / s → s * i + s ≤ l
inside l s i h =
    let next : i + 1 ≤ l / s = omega arith in
    let more : s * (i + 1) ≤ s * (l / s) = mul-le-mul_left s next in
    omega (arith, more, mul-div-le l s)

-- its bytes are those from s i on
pub record_is : (n i : ℕ) (bytes : List ℕ) → take ((10 + 4 * n) * i + (10 + 4 * n) - (10 + 4 * n) * i) (drop ((10 + 4 * n) * i) bytes) ≡ record_of n i bytes
record_is n i bytes = let e : (10 + 4 * n) * i + (10 + 4 * n) - (10 + 4 * n) * i ≡ 10 + 4 * n = omega arith in
    ap (λ (s : ℕ). take s (drop ((10 + 4 * n) * i) bytes)) e

-- 16 frames of 64 coordinates are the most
pub room : (n p : ℕ) → n ≤ 64 → p ≤ 16 → (10 + 4 * n) * p ≤ 4256
room n p h g = let size : 10 + 4 * n ≤ 266 = omega arith in mul-le-mul size g

-- the coordinates stand behind 10 bytes
pub behind : (bytes : List ℕ) → take (length bytes - 10) (drop 10 bytes) ≡ drop 10 bytes
behind bytes = take_all (length bytes - 10) (drop 10 bytes) (omega (arith, length-drop 10 bytes))

-- judgements with one frame more
pub one_more : (u : Under) (m : List ℕ) (n i : ℕ) (bytes t₀ : List ℕ) {t t₁ one : List ℕ} → t ≡ judged_all (all_judgements u m n i bytes) t₀
    → one ≡ record_of n i bytes → t₁ ≡ judged_all (frame_judgements u m n one) t → t₁ ≡ judged_all (all_judgements u m n (i + 1) bytes) t₀
unfolding all_judgements
one_more u m n i bytes t₀ e p q =
    q
    ∙ ap₂ (λ (l : List ℕ) (t : List ℕ). judged_all (frame_judgements u m n l) t) p e
    ∙ then-judged (all_judgements u m n i bytes) (frame_judgements u m n (record_of n i bytes)) t₀
    ∙ ap (λ (j : ℕ). judged_all (all_judgements u m n j bytes) t₀) (sym (add-one i))
