-- An exported function's number holds the refusal number and the energy, since every refusal number is a byte. Assumes nothing.
use Prim.Native.Nat.{ℕ, zero, suc, ◌^◌, ◌≤◌}
use mathlib.Core.Path.{◌≡◌, refl, ap, ap₂, ◌∙◌}
use mathlib.Core.Bool.{Bool, true, false, cond}
use mathlib.Core.List.{List, [], ◌∷◌}
use native.Mathlib.Omega.{arith}
use lib.Dec.{eqb, leb}
use lib.IntN.{ℤ}
use borrow.Author.Tests.{ne_eqb, lt-ltb}
use lib.ListN.{length}
use Rattle.reed_muller.specs.Level.{belongs}
use Rattle.frames.specs.Kind.{is_kind, is_grade, degrees, message_bytes, broken_number}
use Rattle.frames.specs.Frame.{level_word}
use Rattle.frames.specs.Free.{is_free_count}
use Rattle.frames.specs.Sending.{unless, free_set, send_refusal, energy_sent}
use Rattle.frames.specs.Reading.{in_range, broken, open_refusal, is_sent, strict_refusal, energy_read}
use Rattle.power_account.specs.declared.Account.{Account}
use Rattle.test_calls.specs.declared.Answer.{Answer}
use Rattle.power_account.specs.Power.{full}
use Rattle.power_account.specs.Opening.{opening_refusal, opened_with}
use Rattle.power_account.specs.Counted.{number_for, counted_refusal}
use Rattle.answers.specs.Answer.{answer_of, send_answer, open_answer, strict_answer, counted_answer, counted_held, opening_answer}
use Rattle.test_calls.specs.Outcome.{answered, decoded}

decoded-answer : (n e : ℕ) (a : Account) → n ≤ 255 → decoded (answer_of n e) a ≡ answered n (cond (eqb n 0) e 0) a
unfolding answer_of decoded
decoded-answer zero e a h = refl
decoded-answer (suc n) e a h = rw (ne_eqb (suc n) 0 (λ z. omega (arith, z)), lt-ltb n 255 (omega arith)) refl

-- ---- every refusal number is a byte

either : (t : Bool) (n next : ℕ) → n ≤ 255 → next ≤ 255 → unless t n next ≤ 255
either true n next p q = q
either false n next p q = p

small-number : (i : ℕ) → broken_number i ≤ 255
small-number zero = omega arith
small-number (suc zero) = omega arith
small-number (suc (suc zero)) = omega arith
small-number (suc (suc (suc i))) = omega arith

small-broken : (k i : ℕ) (rs : List ℕ) (f : List ℤ) → broken k i rs f ≤ 255
unfolding broken
small-broken k i [] f = omega arith
small-broken k i (r ∷ rs) f = either (belongs r k (level_word i f)) (broken_number i) (broken k (suc i) rs f) (small-number i) (small-broken k (suc i) rs f)

small-sending : (k b f : ℕ) (m : List ℕ) (n : ℕ) → send_refusal k b f m n ≤ 255
unfolding send_refusal
small-sending k b f m n =
    either (is_kind k) 1 _ (omega arith) (either (is_grade b) 2 _ (omega arith) (either (is_free_count f) 17 _ (omega arith)
    (either (eqb (length m) (message_bytes k b)) 3 _ (omega arith) (either (eqb n (2 ^ k)) 4 _ (omega arith)
    (either (free_set k b f m) 0 5 (omega arith) (omega arith))))))

small_open : (k b f : ℕ) (x : List ℤ) (n : ℕ) → open_refusal k b f x n ≤ 255
unfolding open_refusal
small_open k b f x n =
    either (is_kind k) 1 _ (omega arith) (either (is_grade b) 2 _ (omega arith) (either (is_free_count f) 17 _ (omega arith)
    (either (eqb (length x) (2 ^ k)) 4 _ (omega arith) (either (eqb n (message_bytes k b)) 3 _ (omega arith)
    (either (in_range x) 6 _ (omega arith) (small-broken k 0 (degrees k) x))))))

small-strict : (k b f number : ℕ) (x : List ℤ) (n : ℕ) → strict_refusal k b f number x n ≤ 255
unfolding strict_refusal
small-strict k b f number x n =
    either (eqb (open_refusal k b f x n) 0) (open_refusal k b f x n) (unless (is_sent k b f number x) 9 0) (small_open k b f x n)
    (either (is_sent k b f number x) 9 0 (omega arith) (omega arith))

small-counted : (k b f : ℕ) (m : List ℕ) (n : ℕ) (a : Account) → counted_refusal k b f m n a ≤ 255
unfolding counted_refusal
small-counted k b f m n a =
    either (eqb (send_refusal k b f m n) 0) (send_refusal k b f m n) (cond (full a) 11 0) (small-sending k b f m n)
    (either (full a) 0 11 (omega arith) (omega arith))

small-opening : (changeover : ℕ) → opening_refusal changeover ≤ 255
unfolding opening_refusal
small-opening changeover = either (leb changeover 1000000) 14 0 (omega arith) (omega arith)

-- ---- what each exported function's number says

pub decoded-sending : (k b f number : ℕ) (m : List ℕ) (n : ℕ) {r : Answer} {z : ℤ} {a : Account}
    → r ≡ decoded z a → z ≡ send_answer k b f number m n
    → r ≡ answered (send_refusal k b f m n) (energy_sent (send_refusal k b f m n) k b f number m) a
unfolding send_answer energy_sent
decoded-sending k b f number m n {a = a} e p = e ∙ ap (λ (z : ℤ). decoded z a) p ∙ decoded-answer (send_refusal k b f m n) _ a (small-sending k b f m n)

pub decoded-open : (k b f : ℕ) (x : List ℤ) (n : ℕ) {r : Answer} {z : ℤ} {a : Account} → r ≡ decoded z a → z ≡ open_answer k b f x n
    → r ≡ answered (open_refusal k b f x n) (energy_read (open_refusal k b f x n) x) a
unfolding open_answer energy_read
decoded-open k b f x n {a = a} e p = e ∙ ap (λ (z : ℤ). decoded z a) p ∙ decoded-answer (open_refusal k b f x n) _ a (small_open k b f x n)

pub decoded-strict : (k b f number : ℕ) (x : List ℤ) (n : ℕ) {r : Answer} {z : ℤ} {a : Account}
    → r ≡ decoded z a → z ≡ strict_answer k b f number x n
    → r ≡ answered (strict_refusal k b f number x n) (energy_read (strict_refusal k b f number x n) x) a
unfolding strict_answer energy_read
decoded-strict k b f number x n {a = a} e p =
    e ∙ ap (λ (z : ℤ). decoded z a) p ∙ decoded-answer (strict_refusal k b f number x n) _ a (small-strict k b f number x n)

-- the account is another than the one that was sent with
pub decoded-counted : (k b f : ℕ) (m : List ℕ) (n : ℕ) (a : Account) {r : Answer} {z : ℤ} {c : Account}
    → r ≡ decoded z c → z ≡ counted_answer k b f m n a
    → c ≡ counted_held k b f m n a
    → r ≡ answered (counted_refusal k b f m n a) (energy_sent (counted_refusal k b f m n a) k b f (number_for a) m) (counted_held k b f m n a)
unfolding counted_answer energy_sent
decoded-counted k b f m n a {c = c} e p q =
    e
    ∙ ap (λ (z : ℤ). decoded z c) p
    ∙ decoded-answer (counted_refusal k b f m n a) _ c (small-counted k b f m n a)
    ∙ ap (answered (counted_refusal k b f m n a) (energy_sent (counted_refusal k b f m n a) k b f (number_for a) m)) q

none : (t : Bool) → ◌≡◌ {A = ℕ} (cond t 0 0) 0
none true = refl
none false = refl

pub decoded-opening : (changeover : ℕ) {r : Answer} {z : ℤ} {a : Account} → r ≡ decoded z a → z ≡ opening_answer changeover
    → a ≡ (opened_with changeover).account → r ≡ answered (opened_with changeover).number 0 (opened_with changeover).account
unfolding opening_answer opened_with
decoded-opening changeover {a = a} e p q =
    e
    ∙ ap (λ (z : ℤ). decoded z a) p
    ∙ decoded-answer (opening_refusal changeover) 0 a (small-opening changeover)
    ∙ ap₂ (answered (opening_refusal changeover)) (none (eqb (opening_refusal changeover) 0)) q
